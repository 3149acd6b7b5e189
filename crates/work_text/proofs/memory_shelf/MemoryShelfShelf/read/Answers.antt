use Rattle.std.proofs.Common.{arith, ◌≡◌, ◌<◌, ◌+◌, ◌++◌, ℕ, List, [], length, take, drop, min, ap, refl, ◌∙◌}
use Rattle.std.proofs.lemmas.List.{take-append-drop, drop-drop, length-take, nil_from_length}
use Rattle.work_text.specs.Documents.{bytes_at}
use Rattle.work_text.proofs.memory_shelf.MemoryShelfShelf.read.Goals as goal

-- bytes from the front of what was left, into some room
read_on : (bytes out : List ℕ) (at count : ℕ) → 0 < length out → count ≡ min (length (drop at bytes)) (length out)
    → take count out ≡ take count (drop at bytes)
    → (drop at bytes ≡ take count out ++ drop (at + count) bytes) × (take count out ≡ [] → drop at bytes ≡ [])
read_on bytes out at count some is copied =
    let cut : drop at bytes ≡ take count out ++ drop (at + count) bytes =
    rw (copied, ← drop-drop count at bytes, take-append-drop count (drop at bytes)) refl in
    (cut, λ none. nil_from_length (drop at bytes) (omega (arith, ap length none, length-take count out)))

pub returns-clause-bytes : goal.returns-clause-bytes
returns-clause-bytes c =
    let shelf = c.args.self.now in
    let copy = c.copy_front-count in
    read_on (bytes_at shelf.documents.items shelf.number) copy.new.out shelf.at copy.result (omega arith)
    (omega (arith, ap length c.rest.ensures.rest)) (copy.ensures.copied ∙ ap (take copy.result) c.rest.ensures.rest)
