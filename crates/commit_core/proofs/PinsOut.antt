-- Pins that are put out one after the other, and taken back the last one first.
use Rattle.std.proofs.Common.{◌≡◌, ℕ, Option, None, Some, List, [], ◌∷◌, ◌++◌, length, refl, sym, ap, ◌∙◌, subst, ⊎_elim}
use Rattle.std.specs.Prelude.{slice_set}
use Rattle.std.specs.List.{AllByRecursion}
use Rattle.history_board.specs.Pins.{IsOut, IsFree, put_out}
use Rattle.history_board.specs.Tokens.{Kept, Pinned}
use Rattle.history_board.proofs.Places.{get_set, get_set_else}
use Rattle.history_board.proofs.Pinning.{put_cases, put_stays, free_number}
use Rattle.change_model.specs.declared.history.Committed.{Committed}
use Rattle.commit_core.specs.Ledgers.{Ledgered}
use Rattle.commit_core.specs.Pins.{ArePutOut, IsSameOut, IsPinOf, IsOfBoard}

pub put_push : (old : List (Option ℕ)) (pins : List (Pinned Committed)) (pin : Pinned Committed) (mid new : List (Option ℕ)) → ArePutOut old pins mid → IsFree mid pin.number
    → new ≡ put_out mid pin.number pin.time → ArePutOut old (pins ++ pin ∷ []) new
put_push old [] pin mid new out free is =
    (subst (λ l. IsFree l pin.number) out free, is ∙ ap (λ l. put_out l pin.number pin.time) out)
put_push old (first ∷ pins) pin mid new out free is = (out.0, put_push (put_out old first.number first.time) pins pin mid new out.1 free is)

pub put_pop : (old : List (Option ℕ)) (pins : List (Pinned Committed)) (pin : Pinned Committed) (new : List (Option ℕ)) → ArePutOut old (pins ++ pin ∷ []) new
    → (mid : List (Option ℕ)) × ArePutOut old pins mid × IsFree mid pin.number × (new ≡ put_out mid pin.number pin.time)
put_pop old [] pin new out = (old, refl, out.0, out.1)
put_pop old (first ∷ pins) pin new out = let r = put_pop (put_out old first.number first.time) pins pin new out.1 in (r.0, (out.0, r.1), r.2, r.3)

-- a pin that was put out is back
pub back_same : (mid out : List (Option ℕ)) (n t : ℕ) → IsFree mid n → IsSameOut (put_out mid n t) out → IsSameOut mid (slice_set out n None)
back_same mid out n t free same number time = (
  (λ is. ⊎_elim (λ here. let e : None ≡ Some time = here.1 in absurd cc)
      (λ there. ⊎_elim (λ newly. absurd (there.0 newly.0)) (λ old. old) (put_cases mid n t number time free ((same number time).0 there.1)))
      (get_set out n number None (Some time) is)),
  (λ is. get_set_else out n number None (λ here. free_number mid n time free (subst (λ k. IsOut mid k time) here is)) ∙ (same number time).1 (put_stays mid n t number time free is)),
)

pub all_push : (P : Pinned Committed → Type 0) (pins : List (Pinned Committed)) (pin : Pinned Committed) → AllByRecursion P pins → P pin → AllByRecursion P (pins ++ pin ∷ [])
all_push P [] pin all has = (has, tt)
all_push P (first ∷ pins) pin all has = (all.0, all_push P pins pin all.1 has)

pub all_front : (P : Pinned Committed → Type 0) (pins : List (Pinned Committed)) (pin : Pinned Committed) → AllByRecursion P (pins ++ pin ∷ []) → AllByRecursion P pins × P pin
all_front P [] pin all = (tt, all.0)
all_front P (first ∷ pins) pin all = let r = all_front P pins pin all.1 in ((all.0, r.0), r.1)

pub all_boards : (k k' : Kept Committed) (pins : List (Pinned Committed)) → k'.board ≡ k.board → AllByRecursion (IsPinOf k) pins → AllByRecursion (IsOfBoard k'.board) pins
all_boards k k' [] same all = tt
all_boards k k' (pin ∷ pins) same all = (all.0.board ∙ sym same, all_boards k k' pins same all.1)

-- a pin of a keeper is one of a keeper that differs in its pins alone
pub pin_of_same : (k k' : Kept Committed) (out : List (Option ℕ)) (pin : Pinned Committed) → k' ≡ record k { out = out }
    → pin ≡ record { board = k'.board; seen = k'.seen; floor = k'.floor_seen; count = k'.posted; number = pin.number; time = length k'.seen } → IsPinOf k pin
pin_of_same k k' out pin same is = record {
  board = ap (λ (p : Pinned Committed). p.board) is ∙ ap (λ (x : Kept Committed). x.board) same;
  seen = ap (λ (p : Pinned Committed). p.seen) is ∙ ap (λ (x : Kept Committed). x.seen) same;
  floor = ap (λ (p : Pinned Committed). p.floor) is ∙ ap (λ (x : Kept Committed). x.floor_seen) same;
  count = ap (λ (p : Pinned Committed). p.count) is ∙ ap (λ (x : Kept Committed). x.posted) same;
  time = ap (λ (p : Pinned Committed). p.time) is ∙ ap (λ (x : Kept Committed). length x.seen) same;
}

-- no pin is left to take back
pub same_out : (start mid out : List (Option ℕ)) (pins : List (Pinned Committed)) → pins ≡ [] → ArePutOut start pins mid → IsSameOut mid out → IsSameOut start out
same_out start mid out [] none put same = subst (λ m. IsSameOut m out) put same
same_out start mid out (pin ∷ pins) none put same = absurd cc

-- a ledger of which only the pins that are out have changed, and change again
pub out_further : (first now new : Ledgered) (out : List (Option ℕ)) → new ≡ record now { keeper = record now.keeper { out = out } }
    → now ≡ record first { keeper = record first.keeper { out = now.keeper.out } } → new ≡ record first { keeper = record first.keeper { out = new.keeper.out } }
out_further first now new out new_is now_is =
    let e : new ≡ record first { keeper = record first.keeper { out = out } } = new_is ∙ ap (λ (l : Ledgered). record l { keeper = record l.keeper { out = out } }) now_is in
    e ∙ ap (λ o. record first { keeper = record first.keeper { out = o } }) (sym (ap (λ (l : Ledgered). l.keeper.out) e))
