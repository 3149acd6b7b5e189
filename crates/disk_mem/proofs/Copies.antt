-- The clone of a map of files holds the same bytes.
use Rattle.std.proofs.Common.{◌≡◌, ◌≢◌, ℕ, [], Option, Some, None, MatchOption, IsSomeAnd, Vec, Global, vec_len, refl, sym, ap, ◌∙◌}
use Rattle.std.specs.BTreeMap.{IsClone, get, is_at}
use Rattle.std.specs.List.{AllZip, each_same}
use Rattle.std.specs.Ordering.{nat_cmp}
use Rattle.std.proofs.lemmas.Map.Entries.{lookup_clone}
use Rattle.disk_mem.specs.Contents.{FileMap, held_bytes, HasNoEmpty, SameBytes}

abbrev pub IsSameNumber : ℕ → ℕ → Type 0
IsSameNumber x y = y ≡ x

abbrev pub IsCloneOf : Vec ℕ Global → Vec ℕ Global → Type 0
IsCloneOf v w = AllZip IsSameNumber v.items w.items × (vec_len w ≡ vec_len v)

abbrev IsHeldAgain : Option (Vec ℕ Global) → Option (Vec ℕ Global) → Type 0
IsHeldAgain held again = MatchOption held (again ≡ None) (λ v. IsSomeAnd again (IsCloneOf v))

held_again : (old new : FileMap) → IsClone IsSameNumber IsCloneOf old new → (file : ℕ) → IsHeldAgain (get nat_cmp old file) (get nat_cmp new file)
held_again old new clone file = lookup_clone IsSameNumber IsCloneOf (is_at (nat_cmp file)) (λ x y same. ap (is_at (nat_cmp file)) same) old.entries new.entries clone

same_held : (held again : Option (Vec ℕ Global)) → IsHeldAgain held again → held_bytes again ≡ held_bytes held
same_held None again none = ap held_bytes none
same_held (Some v) (Some w) clone = each_same v.items w.items clone.0
same_held (Some v) None none = absurd none

pub same_bytes : (old new : FileMap) → IsClone IsSameNumber IsCloneOf old new → SameBytes old new
same_bytes old new clone file = same_held (get nat_cmp old file) (get nat_cmp new file) (held_again old new clone file)

not_empty : (held again : Option (Vec ℕ Global)) → IsHeldAgain held again → ((v : Vec ℕ Global) → held ≡ Some v → v.items ≢ [])
    → (w : Vec ℕ Global) → again ≡ Some w → w.items ≢ []
not_empty None again none some w is = cc
not_empty (Some v) (Some u) clone some w is =
    λ empty. some v refl (sym (each_same v.items u.items clone.0) ∙ ap (λ held. held_bytes held) is ∙ empty)
not_empty (Some v) None none some w is = absurd none

pub copy_has_no_empty : (old new : FileMap) → IsClone IsSameNumber IsCloneOf old new → HasNoEmpty old → HasNoEmpty new
copy_has_no_empty old new clone some file w is = not_empty (get nat_cmp old file) (get nat_cmp new file) (held_again old new clone file) (some file) w is
