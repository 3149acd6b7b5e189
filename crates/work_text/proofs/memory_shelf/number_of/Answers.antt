use Rattle.std.proofs.Common.{◌≡◌, ◌<◌, ◌+◌, ℕ, true, cond, nat_eq, List, [], ◌∷◌, length, drop, get_or, Option, Some, unwrap_or, ap, sym, ◌∙◌}
use Rattle.std.specs.Cmp.Lexicographic.{pointwise}
use Rattle.std.specs.Option.{option_map}
use Rattle.std.proofs.lemmas.List.{at_drop_more}
use Rattle.std.proofs.lemmas.Option.{slice_get-get_or}
use Rattle.work_text.specs.Outside.{document_named}
use Rattle.work_text.specs.Documents.{bytes_at}
use Rattle.work_text.proofs.memory_shelf.number_of.Goals as goal

-- the document at the front of what is left has the name
found : (documents : List (List ℕ × List ℕ)) (name : List ℕ) (number : ℕ) (document : List ℕ × List ℕ) → number < length documents
    → document_named (drop number documents) name ≡ document_named documents name
    → document ≡ get_or documents number document → pointwise nat_eq document.0 name ≡ true
    → document_named documents name ≡ Some (bytes_at documents number)
found documents name number document below so_far at_number is =
    let others = drop (number + 1) documents in
    let at_front = at_drop_more (λ left. document_named left name) documents number document below in
    let front = ap (λ (d : List ℕ × List ℕ). document_named (d ∷ others) name) (sym at_number) in
    let taken = ap (λ test. cond test (Some document.1) (document_named others name)) is in
    let bytes =
    ap (λ (got : Option (List ℕ × List ℕ)). unwrap_or (option_map (λ (d : List ℕ × List ℕ). d.1) got) [])
    (slice_get-get_or documents number document below) ∙ ap (λ (d : List ℕ × List ℕ). d.1) (sym at_number) in
    sym so_far ∙ at_front ∙ front ∙ taken ∙ ap Some (sym bytes)

pub returns-then-eq : goal.returns-then-eq
returns-then-eq c =
    let document = c.index-documents-number in
    found c.args.documents.now c.args.name.now c.loop-number.number document.result c.loop-number-test.true c.loop-number.invariant
    document.is (sym c.eq.ensures ∙ c.if-eq.true)
