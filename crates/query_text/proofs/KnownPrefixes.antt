-- The set of the declared prefixes, as declarations are added.
use Rattle.std.proofs.Common.{◌≡◌, ℕ, Bool, true, false, cond, ◌||◌, List, [], ◌∷◌, ◌++◌, refl, sym, ap, ◌∙◌, nat_cmp}
use Rattle.std.specs.Prelude.{nat_eq}
use Rattle.std.specs.Borrow.{Bor}
use Rattle.std.specs.Ordering.{is_eq}
use Rattle.std.specs.BTreeSet.{BTreeSet}
use Rattle.std.specs.Cmp.Lexicographic.{pointwise, slice_cmp, texts_ties}
use Rattle.query_text.specs.declared.class.Declaration.{Declaration}
use Rattle.query_text.specs.Parsing.{prefix_at, is_declared, same_characters, has_prefix}

or_last : (a b c : Bool) → (a || (cond c true b)) ≡ cond c true (a || b)
or_last true b true = refl
or_last true b false = refl
or_last false b c = refl

-- one declaration more
is_declared-append : (ds : List Declaration) (d : Declaration) (name : List ℕ)
    → is_declared (ds ++ d ∷ []) name ≡ cond (same_characters (prefix_at d.name.characters.now) name) true (is_declared ds name)
is_declared-append [] d name = by (same_characters (prefix_at d.name.characters.now) name)
  where
    by : (b : Bool) → (b || false) ≡ cond b true false
    by true = refl
    by false = refl
is_declared-append (first ∷ ds) d name =
    ap (λ (b : Bool). same_characters (prefix_at first.name.characters.now) name || b) (is_declared-append ds d name)
    ∙ or_last (same_characters (prefix_at first.name.characters.now) name) (is_declared ds name) (same_characters (prefix_at d.name.characters.now) name)

-- the set knows one more declaration
pub KnowsPrefixes-more : (ds new : List Declaration) (before after : BTreeSet (Bor (List ℕ))) (d : Declaration) (key : List ℕ)
    → ((name : List ℕ) → has_prefix before name ≡ is_declared ds name) → key ≡ prefix_at d.name.characters.now → new ≡ ds ++ d ∷ []
    → ((other : Bor (List ℕ)) → has_prefix after other.now ≡ cond (is_eq (slice_cmp nat_cmp key other.now)) true (has_prefix before other.now))
    → (name : List ℕ) → has_prefix after name ≡ is_declared new name
KnowsPrefixes-more ds new before after d key knows same grown told name =
    told (record { ref_ptr = (0, 0); now = name })
    ∙ ap (λ (b : Bool). cond b true (has_prefix before name)) (sym (texts_ties key name))
    ∙ ap (λ (k : List ℕ). cond (pointwise nat_eq k name) true (has_prefix before name)) same
    ∙ ap (λ (b : Bool). cond (same_characters (prefix_at d.name.characters.now) name) true b) (knows name)
    ∙ sym (is_declared-append ds d name)
    ∙ ap (λ (x : List Declaration). is_declared x name) (sym grown)
