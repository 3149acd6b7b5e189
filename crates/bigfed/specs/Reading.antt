-- Private: a document that is being read from a shelf.
use Rattle.std.specs.Prelude.{◌≡◌, ℕ, Bool, true, false, List, ◌++◌, Option, Some, None}
use Rattle.work_text.specs.Outside.{document_named}

-- where the shelf tells, these bytes and what is left are the document
abbrev pub IsPartly : Option (List (List ℕ × List ℕ)) → List ℕ → List ℕ → Option (List ℕ) → Type 0
IsPartly None name bytes left = Unit {0}
IsPartly (Some documents) name bytes left =
    (rest : List ℕ) × (left ≡ Some rest) × (document_named documents name ≡ Some (bytes ++ rest))

-- where the shelf tells, these bytes are the document
abbrev pub IsWhole : Option (List (List ℕ × List ℕ)) → List ℕ → List ℕ → Type 0
IsWhole None name bytes = Unit {0}
IsWhole (Some documents) name bytes = document_named documents name ≡ Some bytes

-- A chunk was read: either it goes on, or the document is whole.
abbrev pub DocumentGoesOn : Bool → Option (List (List ℕ × List ℕ)) → List ℕ → List ℕ → Option (List ℕ) → Type 0
DocumentGoesOn true told name bytes left = IsPartly told name bytes left
DocumentGoesOn false told name bytes left = IsWhole told name bytes
