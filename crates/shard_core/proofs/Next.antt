-- A shard with the rows of the next time.
use Rattle.std.proofs.Common.{◌≡◌, ◌+◌, ◌≤◌, ℕ, suc, List, [], ◌∷◌, ◌++◌, length, map, sym, ap, ◌∙◌, subst, arith}
use Rattle.std.specs.List.{AllByRecursion}
use Rattle.fed_bytes.specs.declared.span.Span.{Span}
use Rattle.row_core.specs.declared.rows.Row.{Row}
use Rattle.row_core.specs.Rows.{IsWindow}
use Rattle.row_core.proofs.Lists.{all_of_both, each_weaker}
use Rattle.change_model.specs.History.{History}
use Rattle.change_model.specs.Windows.{WindowData, WindowStandsFor}
use Rattle.change_model.specs.WindowLaws.{AreAdjacent, AreGivenAt}
use Rattle.change_model.proofs.WindowSteps.{next_window_law, empty_window_law}
use Rattle.shard_core.specs.declared.window.AnyWindow.{AnyWindow}
use Rattle.shard_core.specs.contracts.window.AnyWindowWindow.TheImpl.Laws.{holds-law}
use Rattle.shard_core.specs.Shards.{ShardData, IsOver, IsShard, HaveFloorsUpTo, ShardStandsFor, HaveNextLast, IsNextShard}
use Rattle.shard_core.specs.Viewing.{data_of, EndBefore}
use Rattle.shard_core.proofs.Lasts.{mapped}

adjacent_next : (older : List WindowData) (last filled : WindowData) (from upto : ℕ) → AreAdjacent from (older ++ last ∷ []) upto → filled.from ≡ last.from → filled.upto ≡ suc last.upto
    → AreAdjacent from (older ++ filled ∷ []) (suc upto)
adjacent_next [] last filled from upto (begins, ends) p q = (p ∙ begins, q ∙ ap suc ends)
adjacent_next (first ∷ older) last filled from upto (begins, rest) p q = (begins, adjacent_next older last filled first.upto upto rest p q)

last_upto : (older : List WindowData) (last : WindowData) (from upto : ℕ) → AreAdjacent from (older ++ last ∷ []) upto → last.upto ≡ upto
last_upto [] last from upto (begins, ends) = ends
last_upto (first ∷ older) last from upto (begins, rest) = last_upto older last first.upto upto rest

front_of : {A : Type 0} (P : A → Type 0) (xs : List A) (x : A) → AllByRecursion P (xs ++ x ∷ []) → AllByRecursion P xs × P x
front_of P [] x all = (tt, all.0)
front_of P (y ∷ xs) x all = let rest = front_of P xs x all.1 in ((all.0, rest.0), rest.1)

replaced : {A : Type 0} (P Q : A → Type 0) (xs : List A) (x y : A) → AllByRecursion P (xs ++ x ∷ []) → ((z : A) → P z → Q z) → (P x → Q y) → AllByRecursion Q (xs ++ y ∷ [])
replaced P Q xs x y all f g =
    let parts = front_of P xs x all in all_of_both Q xs (y ∷ []) (each_weaker P Q xs f parts.0) (g parts.1, tt)

-- each window of a shard keeps the law of windows
over_all : (span : Span) (windows : List AnyWindow) → AllByRecursion (λ window. window.span ≡ span) (map data_of windows) → AllByRecursion (IsOver span) (map data_of windows)
over_all span [] all = tt
over_all span (window ∷ windows) all = (record { window_is = holds-law window; span_is = all.0 }, over_all span windows all.1)

pub next_is_shard : (added : List Row) (shard : ShardData) (windows : List AnyWindow) (upto : ℕ) → IsShard shard → HaveNextLast added shard.windows (map data_of windows) → upto ≡ suc shard.upto
    → IsShard (record { index = shard.index; span = shard.span; upto = upto; windows = map data_of windows })
next_is_shard added shard windows upto is next later = record {
  adjacent = subst (AreAdjacent 0 (map data_of windows)) (sym later)
      (subst (λ list. AreAdjacent 0 list (suc shard.upto)) (sym next.are)
      (adjacent_next next.older next.last next.filled 0 shard.upto (subst (λ list. AreAdjacent 0 list shard.upto) next.were is.adjacent) next.is_next.from next.is_next.upto));
  over = over_all shard.span windows
      (subst (AllByRecursion (λ (window : WindowData). window.span ≡ shard.span)) (sym next.are)
      (replaced (IsOver shard.span) (λ (window : WindowData). window.span ≡ shard.span) next.older next.last next.filled (subst (AllByRecursion (IsOver shard.span)) next.were is.over)
      (λ window over. over.span_is) (λ over. next.is_next.span ∙ over.span_is)));
}

pub next_stands : (history : History) (floor : ℕ) (added : List Row) (shard next : ShardData) → ShardStandsFor history floor shard → IsNextShard added shard next → IsShard next
    → next.upto ≤ length history → AreGivenAt shard.index history shard.span next.upto added → ShardStandsFor history floor next
next_stands history floor added shard next stands is are known given =
    let step = is.windows in
    let ends = last_upto step.older step.last 0 shard.upto (subst (λ list. AreAdjacent 0 list shard.upto) step.were stands.shard_is.adjacent) in
    let over = (front_of (IsOver shard.span) step.older step.last (subst (AllByRecursion (IsOver shard.span)) step.were stands.shard_is.over)).1 in
    let upto : next.upto ≡ step.filled.upto = is.upto ∙ ap suc (sym ends) ∙ sym step.is_next.upto in
    let later : step.filled.upto ≤ length history = subst (λ n. n ≤ length history) upto known in
    let of_last : AreGivenAt shard.index history step.last.span step.filled.upto added =
    subst (λ span. AreGivenAt shard.index history span step.filled.upto added) (sym over.span_is) (subst (λ n. AreGivenAt shard.index history shard.span n added) upto given) in
    record {
      shard_is = are;
      stand = subst (λ index. AllByRecursion (WindowStandsFor index history) next.windows) (sym is.index)
          (subst (AllByRecursion (WindowStandsFor shard.index history)) (sym step.are)
          (replaced (WindowStandsFor shard.index history) (WindowStandsFor shard.index history) step.older step.last step.filled (subst (AllByRecursion (WindowStandsFor shard.index history)) step.were stands.stand)
          (λ window stand. stand) (λ last. next_window_law shard.index history step.last step.filled added last step.is_next later of_last)));
      floors = subst (AllByRecursion (λ (window : WindowData). window.floor ≤ floor)) (sym step.are)
          (replaced (λ (window : WindowData). window.floor ≤ floor) (λ (window : WindowData). window.floor ≤ floor) step.older step.last step.filled
          (subst (AllByRecursion (λ (window : WindowData). window.floor ≤ floor)) step.were stands.floors)
          (λ window low. low) (λ low. let same = step.is_next.floor in omega (arith, low, same)));
    }

-- the last window of a shard ends at the shard's time
pub ends_before : (shard : ShardData) (windows : List AnyWindow) (time : ℕ) → IsShard shard → shard.windows ≡ map data_of windows → time ≡ shard.upto + 1 → EndBefore time windows
ends_before shard windows time is same next = λ older last whole.
    let mapped_all : shard.windows ≡ map data_of older ++ data_of last ∷ [] = same ∙ ap (map data_of) whole ∙ mapped data_of older last in
    let ends = last_upto (map data_of older) (data_of last) 0 shard.upto (subst (λ list. AreAdjacent 0 list shard.upto) mapped_all is.adjacent) in
    omega (arith, ends, next)

-- ---- a shard without rows
pub fresh_is_shard : (shard : ShardData) (window : WindowData) → shard.upto ≡ 0 → shard.windows ≡ window ∷ [] → IsWindow window.span window.from window.upto window.rows → window.span ≡ shard.span
    → window.from ≡ 0 → window.upto ≡ 0 → IsShard shard
fresh_is_shard shard window none one is span_is from_is upto_is = record {
  adjacent = subst (λ list. AreAdjacent 0 list shard.upto) (sym one) (from_is, upto_is ∙ sym none);
  over = subst (AllByRecursion (IsOver shard.span)) (sym one) (record { window_is = is; span_is = span_is }, tt);
}

pub fresh_stands : (history : History) (floor : ℕ) (shard : ShardData) (window : WindowData) → IsShard shard → shard.windows ≡ window ∷ [] → window.rows ≡ [] → window.from ≡ 0 → window.upto ≡ 0 → window.floor ≡ 0
    → ShardStandsFor history floor shard
fresh_stands history floor shard window is one none from_is upto_is floor_is = record {
  shard_is = is;
  stand = subst (AllByRecursion (WindowStandsFor shard.index history)) (sym one)
      (empty_window_law shard.index history window none (from_is ∙ sym upto_is) (omega (arith, upto_is)), tt);
  floors = subst (AllByRecursion (λ (w : WindowData). w.floor ≤ floor)) (sym one) (omega (arith, floor_is), tt);
}

-- no floor rises by the rows of the next time
pub next_floors : (floor : ℕ) (added : List Row) (shard next : ShardData) → HaveNextLast added shard.windows next.windows → HaveFloorsUpTo floor shard → HaveFloorsUpTo floor next
next_floors floor added shard next step low =
    subst (AllByRecursion (λ (window : WindowData). window.floor ≤ floor)) (sym step.are)
    (replaced (λ (window : WindowData). window.floor ≤ floor) (λ (window : WindowData). window.floor ≤ floor) step.older step.last step.filled
    (subst (AllByRecursion (λ (window : WindowData). window.floor ≤ floor)) step.were low) (λ window is. is) (λ is. let same = step.is_next.floor in omega (arith, is, same)))
