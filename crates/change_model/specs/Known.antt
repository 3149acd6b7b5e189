-- Private: the ids that terms have before a change, by those of an earlier time and the entries since.
use Rattle.std.specs.Prelude.{◌≡◌, ◌↔◌, ℕ, ◌<◌, ◌^◌, List, ◌++◌, length}
use Rattle.std.specs.List.{AllByRecursion}
use Rattle.term_core.specs.declared.term.Term.{Term}
use Rattle.term_core.specs.declared.term.Term.TheVariants.{Blank}
use Rattle.term_core.specs.Spelling.{spelling}
use Rattle.term_core.specs.Term.{IsTerm}
use Rattle.base_core.specs.Lists.{Has}
use Rattle.base_core.specs.Numbers.{number_bytes}
use Rattle.row_core.specs.declared.rows.Row.{Row}
use Rattle.row_core.specs.declared.rows.Cell.TheVariants.{Value}
use Rattle.row_core.specs.Rows.{AreChanges}
use Rattle.change_model.specs.declared.entry.Entry.{Entry}
use Rattle.change_model.specs.Numbering.{HasIdIn}

-- one of the rows gives the id to the key
abbrev pub GiveId : List Row → List ℕ → ℕ → Type 0
GiveId rows key id = (row : Row) × Has rows row × (row.key ≡ key) × (row.cell ≡ Value (number_bytes id))

-- none of them does, if they are the rows of one time
abbrev pub GiveNoId : List Row → List ℕ → Type 0
GiveNoId rows key = (time id : ℕ) → AreChanges time rows → GiveId rows key id → ⊥

-- none of them has the key, if they are the rows of one time
abbrev pub HaveNotKey : List Row → List ℕ → Type 0
HaveNotKey rows key = (time : ℕ) (row : Row) → AreChanges time rows → Has rows row → row.key ≡ key → ⊥

-- one of the entries gives the id to the key
abbrev pub EntriesGiveId : List Entry → List ℕ → ℕ → Type 0
EntriesGiveId entries key id = (entry : Entry) × Has entries entry × GiveId entry.t2i key id

-- the term has the id, and had none among the early ones
pub record IsNewSince (early base : List Term) (key : List ℕ) (id : ℕ) : Type 0 where
  pub term : Term
  pub has : HasIdIn base term id
  pub new : length early < id
  pub key_is : key ≡ spelling term

-- the terms begin with the early ones, the entries tell the ids of the others, and no term is a node of the time
pub record AreTold (time : ℕ) (early base : List Term) (entries : List Entry) : Type 0 where
  pub grown : (new : List Term) × (base ≡ early ++ new)
  pub rules : AllByRecursion IsTerm base
  pub earlier : (label : List ℕ) → Has base (Blank time label) → ⊥
  pub fits : length base < 2 ^ 64
  pub changes : AllByRecursion (λ entry. AreChanges entry.time entry.t2i) entries
  pub told : (key : List ℕ) (id : ℕ) → id < 2 ^ 64 → (EntriesGiveId entries key id ↔ IsNewSince early base key id)
