-- Private: the documents that a run was given.
use Rattle.std.specs.Prelude.{◌≡◌, ◌↔◌, ℕ, List, Option, IsSome, IfSome, IsTrue}
use Rattle.std.specs.BTreeMap.{get, BTreeMap}
use Rattle.std.specs.Option.{unwrap_or}
use Rattle.std.specs.Ordering.{nat_cmp}
use Rattle.std.specs.Cmp.Lexicographic.{slice_cmp}
use Rattle.work_text.specs.declared.docs.Doc.{Doc}
use Rattle.work_text.specs.declared.docs.Doc.TheVariants.{Missing}
use Rattle.work_text.specs.Outside.{IsDocOf}
use Rattle.bigfed.specs.Program.{total}
use Rattle.bigfed.specs.Names.{has_name}
use Rattle.nt_text.specs.Limits.{largest_document}

-- the documents by name; there is none under a name that was not asked for
abbrev pub docs_of : BTreeMap (List ℕ) Doc → List ℕ → Doc
docs_of docs name = unwrap_or (get (slice_cmp nat_cmp) docs name) Missing

-- a document was read under the name
abbrev pub Holds : BTreeMap (List ℕ) Doc → List ℕ → Type 0
Holds docs name = IsSome (get (slice_cmp nat_cmp) docs name)

-- each document is the one that the shelf has under its name
abbrev pub AreDocsOf : Option (List (List ℕ × List ℕ)) → BTreeMap (List ℕ) Doc → Type 0
AreDocsOf told docs = (name : List ℕ) → IfSome (get (slice_cmp nat_cmp) docs name) (IsDocOf told largest_document name)

-- the documents of these names alone were read, and they have so many bytes together
pub record AreGathered (told : Option (List (List ℕ × List ℕ))) (docs : BTreeMap (List ℕ) Doc) (names : List (List ℕ)) (size : ℕ) : Type 0 where
  pub held : (name : List ℕ) → Holds docs name ↔ IsTrue (has_name names name)
  pub read : AreDocsOf told docs
  pub size_is : size ≡ total (docs_of docs) names
