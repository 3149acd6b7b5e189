-- A token after a step.
use Rattle.std.proofs.Common.{◌≡◌, ℕ, zero, suc, ◌+◌, ◌<◌, true, [], ◌∷◌, ◌++◌, map, refl, sym, ap, ◌∙◌, subst, if◌then◌else◌, ⊎_elim, arith}
use Rattle.std.proofs.lemmas.List.{map-append}
use Rattle.std.specs.List.{range_with_len}
use Rattle.fed_bytes.specs.declared.span.Span.{Span}
use Rattle.atomic_table.specs.Seated.{TableId}
use Rattle.atomic_table.specs.Table.{Me}
use Rattle.place_board.specs.declared.view.View.{View}
use Rattle.place_board.specs.Views.{releases, released, bore, saw, IsServing, IsListing, IsNoting}
use Rattle.place_board.specs.Tokens.{Noted, new_service, new_services, noted_of, serving_of, listing_of, fresh_note, service_bore, IsSound, IsSoundSeat, IsSoundList}
use Rattle.base_core.specs.Lists.{Has}
use Rattle.place_board.specs.Steps.{IsSoundView, Becomes, Agrees, Watches}
use Rattle.place_board.specs.Words.{IsKnown}
use Rattle.place_board.proofs.Numbers.{number_of}
use Rattle.place_board.proofs.Members.{has_one, without_sub}

-- a view that took something in, once it agrees
pub agreed : (me mid after : Me ℕ View) (next : View) → mid ≡ (next, me.1) → Agrees mid after → Becomes next me after
agreed me mid after next is agrees = (agrees.0 ∙ is, subst (λ (m : Me ℕ View). IsSoundView m.0) is agrees.1)

pub record Serves (service next : ℕ) (z : TableId) (after : Me ℕ View) : Type 0 where
  pub alone : after.1 ≡ []
  pub serving : IsServing after.0
  pub service_is : service ≡ after.0.service
  pub next_is : next ≡ after.0.next
  pub sound : IsSoundSeat (serving_of z after.0)

pub serves : (service n : ℕ) (z : TableId) (me after : Me ℕ View) (next : View) → Becomes next me after → me.1 ≡ [] → IsServing next → service ≡ next.service → n ≡ next.next → Serves service n z after
serves service n z me after next is none serving s_is n_is = record {
  alone = ap (λ (m : Me ℕ View). m.1) is.0 ∙ none;
  serving = subst (λ (m : Me ℕ View). IsServing m.0) (sym is.0) serving;
  service_is = s_is ∙ sym (ap (λ (m : Me ℕ View). m.0.service) is.0);
  next_is = n_is ∙ sym (ap (λ (m : Me ℕ View). m.0.next) is.0);
  sound = subst (λ (m : Me ℕ View). IsSoundSeat (serving_of z m.0)) (sym is.0) (is.1.seat serving.service z);
}

pub record Lists (services : ℕ) (z : TableId) (after : Me ℕ View) : Type 0 where
  pub alone : after.1 ≡ []
  pub listing : IsListing after.0
  pub services_are : services ≡ after.0.services
  pub sound : IsSoundList (listing_of z after.0)

pub lists : (services : ℕ) (z : TableId) (me after : Me ℕ View) (next : View) → Becomes next me after → me.1 ≡ [] → IsListing next → services ≡ next.services → Lists services z after
lists services z me after next is none listing s_is = record {
  alone = ap (λ (m : Me ℕ View). m.1) is.0 ∙ none;
  listing = subst (λ (m : Me ℕ View). IsListing m.0) (sym is.0) listing;
  services_are = s_is ∙ sym (ap (λ (m : Me ℕ View). m.0.services) is.0);
  sound = subst (λ (m : Me ℕ View). IsSoundList (listing_of z m.0)) (sym is.0) (is.1.list listing.list z);
}

pub record Notes (z : TableId) (after : Me ℕ View) : Type 0 where
  pub alone : after.1 ≡ []
  pub noting : IsNoting after.0
  pub sound : IsSound (noted_of z after.0)

pub notes : (z : TableId) (me after : Me ℕ View) (next : View) → Becomes next me after → me.1 ≡ [] → IsNoting next → Notes z after
notes z me after next is none noting = record {
  alone = ap (λ (m : Me ℕ View). m.1) is.0 ∙ none;
  noting = subst (λ (m : Me ℕ View). IsNoting m.0) (sym is.0) noting;
  sound = subst (λ (m : Me ℕ View). IsSound (noted_of z m.0)) (sym is.0) (is.1.noted z);
}

-- a view that gives a fresh number away
fewer_fresh : (n : ℕ) (w : View) (z : TableId) → IsSound (noted_of z w) → IsSound (noted_of z (releases n w))
fewer_fresh n w z s = record { agrees = s.agrees; of_service = s.of_service; fresh = λ m has. s.fresh m (without_sub n w.fresh m has); dead = s.dead }

releases_sound : (n : ℕ) (w : View) → IsSoundView w → IsSoundView (releases n w)
releases_sound n w s = record {
  noted = λ z. fewer_fresh n w z (s.noted z);
  seat = λ key z. let t = s.seat key z in record { noted = fewer_fresh n w z t.noted; service = t.service; next = t.next; below = t.below; above = t.above; mine = t.mine; counts = t.counts };
  list = λ key z. let t = s.list key z in record { noted = fewer_fresh n w z t.noted; services = t.services; listed = t.listed; once = t.once; shown = t.shown; known = t.known; fresh = λ m has. t.fresh m (without_sub n w.fresh m has); dead = t.dead; gone = t.gone };
}

pub gave : (n : ℕ) (me mid after : Me ℕ View) (w : View) → Becomes w me mid → after ≡ (releases n mid.0, mid.1) → Becomes (releases n w) me after
gave n me mid after w becomes is = (is ∙ ap (λ (m : Me ℕ View). (releases n m.0, m.1)) becomes.0, releases_sound n w becomes.1)

-- and the note that has it
pub released_notes : (n : ℕ) (z : TableId) (me mid note : Me ℕ View) (w : View) → Becomes w me mid → Has w.fresh n → note ≡ (released n mid.0, []) → Notes z note
released_notes n z me mid note w becomes fresh is =
    let at : note ≡ (released n w, []) = is ∙ ap (λ (m : Me ℕ View). (released n m.0, [])) becomes.0 in
    let s = becomes.1.noted z in
    let sound : IsSound (noted_of z (released n w)) = record { agrees = s.agrees; of_service = s.of_service; fresh = λ m has. s.fresh m (subst (λ j. Has w.fresh j) (has_one n m has) fresh); dead = s.dead } in
    record {
      alone = ap (λ (m : Me ℕ View). m.1) at;
      noting = subst (λ (m : Me ℕ View). IsNoting m.0) (sym at) (record { live = refl; service = refl; list = refl });
      sound = subst (λ (m : Me ℕ View). IsSound (noted_of z m.0)) (sym at) sound;
    }

pub tells_fresh : (n : ℕ) (z : TableId) (w : View) → w.is_service ≡ true → noted_of z (released n w) ≡ fresh_note n (serving_of z (releases n w))
tells_fresh n z w is = ap (λ b. record { board = z; knows = w.knows; dead = w.dead; fresh = n ∷ []; once = w.once; counts = if b then record { service = w.service; count = w.posted } ∷ w.counts else w.counts }) is

pub has_borne : (n index : ℕ) (span : Span) (z : TableId) (v : View) → n ≡ v.next → serving_of z (releases n (bore (record { number = n; service = v.service; index = index; span = span }) v)) ≡ service_bore index span (serving_of z v)
has_borne n index span z v is = subst (λ m. serving_of z (releases m (bore (record { number = m; service = v.service; index = index; span = span }) v)) ≡ service_bore index span (serving_of z v)) (sym is) refl

-- after a look
pub watched : (service next n found : ℕ) (z : TableId) (me after : Me ℕ View) → Watches n me found after → me.1 ≡ [] → IsServing me.0 → service ≡ me.0.service → next ≡ me.0.next → Serves service next z after
watched service next n found z me after watches none serving s_is n_is = ⊎_elim
    (λ two. serves service next z me after (saw n me.0) two.1 none (record { live = serving.live; service = serving.service; list = serving.list }) s_is n_is)
    (λ one. serves service next z me after me.0 one.1 none serving s_is n_is)
    watches

-- a known number is one of the board's
pub small_known : (n : Noted) (m : ℕ) → IsSound n → IsKnown n.knows m → m < 32768
small_known n m sound (k, has, is) = let of = sound.of_service k has in subst (λ j. j < 32768) is (number_of k.service k.number of.0 of.1)

-- the seats of one service more
more_range : (a n : ℕ) → range_with_len a (suc n) ≡ range_with_len a n ++ (a + n) ∷ []
more_range a zero = ap (λ m. m ∷ []) (let e : a ≡ a + 0 = omega arith in e)
more_range a (suc n) = ap (λ l. a ∷ l) (more_range (a + 1) n ∙ ap (λ m. range_with_len (a + 1) n ++ m ∷ []) (let e : a + 1 + n ≡ a + suc n = omega arith in e))

pub more_services : (z : TableId) (n : ℕ) → new_services z n ++ new_service z n ∷ [] ≡ new_services z (n + 1)
more_services z n =
    sym (map-append (new_service z) (range_with_len 0 n) (n ∷ []))
    ∙ (ap (λ m. map (new_service z) (range_with_len 0 n ++ m ∷ [])) (let e : n ≡ 0 + n = omega arith in e)
    ∙ (ap (λ l. map (new_service z) l) (sym (more_range 0 n)) ∙ ap (λ m. new_services z m) (let e : suc n ≡ n + 1 = omega arith in e)))
