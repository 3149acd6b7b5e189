use Rattle.std.proofs.Common.{arith, rules, ◌≡◌, ◌≤◌, ℕ, zero, suc, List, [], ◌∷◌, length, Ok, Some, ap, refl, ◌∙◌}
use Rattle.std.specs.Vec.Iter.{into_iter_items}
use Rattle.std.proofs.lemmas.Iterator.{YieldsList-from_zip, items_from_collect}
use Rattle.std.proofs.lemmas.Iterator.Adapters.{YieldsList-from_vec}
use Rattle.work_text.specs.Documents.{bytes_at}
use Rattle.work_text.proofs.memory_shelf.MemoryShelf.make.Goals as goal

pub returns-clause-documents : goal.returns-clause-documents
returns-clause-documents c =
    let firsts =
    YieldsList-from_vec c.args.names (ap into_iter_items c.zip.ensures.first ∙ c.into_iter.ensures.rest ∙ c.into_items.ensures)
    (search rules) in
    let seconds = YieldsList-from_vec c.args.documents (search rules) (search rules) in
    ap Some (items_from_collect {E = ℕ} (Ok c.in_ok-documents.documents) c.in_ok-documents.ensures.ran (YieldsList-from_zip firsts seconds))

-- past the last document there is nothing
none_past : (documents : List (List ℕ × List ℕ)) (number : ℕ) → length documents ≤ number → bytes_at documents number ≡ []
none_past [] number past = refl
none_past (document ∷ documents) zero past = absurd (omega arith)
none_past (document ∷ documents) (suc number) past = none_past documents number (omega arith)

pub returns-clause-left : goal.returns-clause-left
returns-clause-left c = ap Some (none_past c.in_ok-documents.documents.items c.len-number.result (omega arith))
