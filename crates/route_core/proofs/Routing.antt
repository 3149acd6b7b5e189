-- What a route keeps, and what the search among its locators finds.
use Rattle.std.proofs.Common.{◌≡◌, ◌↔◌, ◌⊎◌, ◌<◌, ◌≤◌, ℕ, suc, true, false, List, [], length, take, drop, get_or, refl, sym, ap, ◌∙◌, subst, inl, inr, ⊎_elim, arith}
use Rattle.base_core.specs.Lists.{Has}
use Rattle.fed_bytes.specs.declared.span.Span.{Span}
use Rattle.fed_bytes.specs.Keys.{IsIn, IsUpTo}
use Rattle.fed_bytes.proofs.Orders.{no_answer, up_to-itself, up_to_end}
use Rattle.row_core.specs.declared.rows.Index.{Index}
use Rattle.place_board.specs.Tokens.{Noted, met, copied}
use Rattle.place_board.proofs.Members.{has_left, has_right}
use Rattle.place_core.specs.declared.shards.Locator.{Locator}
use Rattle.place_core.specs.Shown.{place_of, known_as, IsShown}
use Rattle.place_core.specs.Places.{HasKey, StandBy, located}
use Rattle.place_core.specs.Lines.{up_to, ShareLeft}
use Rattle.place_core.proofs.Standing.{has_at, has_at_front, has_parts, has_some, stand_last}
use Rattle.place_core.proofs.Orders.{place_one, before_up_to_too, up_to_true, up_to_when}
use Rattle.route_core.specs.Routes.{Routing, IsRoute, LocatorComesBefore, AreOverlapping, AreLearned}

-- a span with a key has its left end
pub has_left_end : (span : Span) (key : List ℕ) → IsIn span key → IsIn span span.left
has_left_end span key h = (up_to-itself span.left, up_to_end span.left key span.right h.0 h.1)

module _ (r : Routing) (is : IsRoute r) (index : Index) (key : List ℕ) where
  -- the one that has the key is what is found, unless it stands behind that
  same_locator : (one found : Locator) → Has r.locators one → Has r.locators found → HasKey (located one) index key → up_to (place_of index) key (located found) ≡ true
      → (one ≡ found) ⊎ LocatorComesBefore one found → one ≡ found
  same_locator one found has there holds passed (inl same) = same
  same_locator one found has there holds passed (inr (inl below)) =
      let e = ap place_of holds.0 in
      absurd (⊎_elim {C = ⊥} (λ l. omega arith) (λ r. let f = r.0 in omega arith) (up_to_true (place_of index) key (located found) passed))
  same_locator one found has there holds passed (inr (inr (same, before))) =
      let e = ap place_of holds.0 in
      let upto = ⊎_elim {C = IsUpTo found.span.left key} (λ l. absurd (omega arith)) (λ r. r.1) (up_to_true (place_of index) key (located found) passed) in
      let left : IsIn one.span found.span.left = (before_up_to_too one.span.left found.span.left before, up_to_end found.span.left key one.span.right upto holds.1.1) in
      is.apart one.index found.span.left one found has there (refl, left) (place_one found.index one.index (sym same), is.left found there)

  pub found_last : (behind : ℕ) → behind ≤ length r.locators
      → ((l : Locator) → Has (take behind r.locators) l → up_to (place_of index) key (located l) ≡ true)
      → ((l : Locator) → Has (drop behind r.locators) l → up_to (place_of index) key (located l) ≡ false)
      → (one : Locator) → Has r.locators one → HasKey (located one) index key
      → (1 ≤ behind) × ((at : ℕ) (d : Locator) → suc at ≡ behind → one ≡ get_or r.locators at d)
  found_last behind bound front back one has holds =
      let passes = up_to_when (place_of index) key (located one) (inr (ap place_of holds.0, holds.1.0)) in
      let here : Has (take behind r.locators) one = ⊎_elim (λ f. f) (λ b. no_answer (sym (back one b) ∙ passes)) (has_parts behind r.locators one has) in (
        has_some behind r.locators one here,
        λ at d same.
            let below : at < length r.locators = omega arith in
            let found = get_or r.locators at d in
            let front' = subst (λ n. Has (take n r.locators) found) same (has_at_front r.locators at d below) in
            same_locator one found has (has_at r.locators at d below) holds (front found front')
            (stand_last LocatorComesBefore r.locators is.order at d below one (subst (λ n. Has (take n r.locators) one) (sym same) here)),
      )

pub no_locator : (note : Noted) → IsRoute (record { note = note; locators = [] })
no_locator note = record {
  knows = λ l h. absurd h;
  apart = λ index key one other h ho has hos. absurd h;
  left = λ l h. absurd h;
  order = tt;
}

-- a route that met a note
pub route_met : (r : Routing) (note : Noted) → IsRoute r → IsRoute (record r { note = met r.note note })
route_met r note is = record {
  knows = λ l h. has_left r.note.knows note.knows _ (is.knows l h);
  apart = is.apart;
  left = is.left;
  order = is.order;
}

-- a route that forgot locators
pub route_dropped : (r : Routing) (after : List Locator) → IsRoute r → ((l : Locator) → Has after l → Has r.locators l) → StandBy LocatorComesBefore after → IsRoute (record r { locators = after })
route_dropped r after is had order = record {
  knows = λ l h. is.knows l (had l h);
  apart = λ index key one other h ho has hos. is.apart index key one other (had one h) (had other ho) has hos;
  left = λ l h. is.left l (had l h);
  order = order;
}

module _ (r : Routing) (is : IsRoute r) (learned : Locator) (mid : List Locator) (dropped : (l : Locator) → (Has mid l ↔ (Has r.locators l × ¬ AreOverlapping l learned)))
    (left : IsIn learned.span learned.span.left) where
  -- none that is left begins where the learned one does
  pub left_apart : (l : Locator) → Has mid l → ¬ ShareLeft (located l) (located learned)
  left_apart l h share =
      let was = (dropped l).0 h in
      was.1 (place_one l.index learned.index share.0, (learned.span.left, subst (λ key. IsIn l.span key) share.1 (is.left l was.0), left))

  module _ (after : List Locator) (put : (l : Locator) → (Has after l ↔ (Has mid l ⊎ (learned ≡ l)))) where
    pub are_learned : AreLearned learned r.locators after
    are_learned l = (
      λ h. ⊎_elim (λ m. inl ((dropped l).0 m)) (λ e. inr (e, left)) ((put l).0 h),
      λ h. ⊎_elim (λ m. (put l).1 (inl ((dropped l).1 m))) (λ e. (put l).1 (inr e.0)) h,
    )

    apart_by : (index : Index) (key : List ℕ) (one other : Locator) → Has mid one ⊎ (learned ≡ one) → Has mid other ⊎ (learned ≡ other)
        → HasKey (located one) index key → HasKey (located other) index key → one ≡ other
    apart_by index key one other (inl a) (inl b) has hos = is.apart index key one other ((dropped one).0 a).0 ((dropped other).0 b).0 has hos
    apart_by index key one other (inl a) (inr b) has hos =
        let this = subst (λ l. HasKey (located l) index key) (sym b) hos in
        absurd (((dropped one).0 a).1 (has.0 ∙ sym this.0, (key, has.1, this.1)))
    apart_by index key one other (inr a) (inl b) has hos =
        let this = subst (λ l. HasKey (located l) index key) (sym a) has in
        absurd (((dropped other).0 b).1 (hos.0 ∙ sym this.0, (key, hos.1, this.1)))
    apart_by index key one other (inr a) (inr b) has hos = sym a ∙ b

    pub route_learned : IsShown learned → StandBy LocatorComesBefore after → IsRoute (record { note = met r.note (copied learned.note); locators = after })
    route_learned shown order = record {
      knows = λ l h.
          ⊎_elim (λ m. has_left r.note.knows learned.note.knows _ (is.knows l ((dropped l).0 m).0))
          (λ e. has_right r.note.knows learned.note.knows _ (subst (λ (x : Locator). Has learned.note.knows (known_as x.number x.service x.index x.span)) e shown)) ((put l).0 h);
      apart = λ index key one other h ho has hos. apart_by index key one other ((put one).0 h) ((put other).0 ho) has hos;
      left = λ l h. ⊎_elim (λ m. is.left l ((dropped l).0 m).0) (λ e. subst (λ (x : Locator). IsIn x.span x.span.left) e left) ((put l).0 h);
      order = order;
    }

-- a locator without its left end has no key, so nothing changes
pub none_learned : (learned : Locator) (locators : List Locator) → ¬ IsIn learned.span learned.span.left → AreLearned learned locators locators
none_learned learned locators empty l = (
  λ h. inl (h, λ over. empty (has_left_end learned.span over.1.0 over.1.2)),
  λ h. ⊎_elim (λ m. m.0) (λ e. absurd (empty e.1)) h,
)
