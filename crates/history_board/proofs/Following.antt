-- All live views follow the keeper after each kind of step.
use Rattle.std.proofs.Common.{◌≡◌, ℕ, ◌≤◌, true, false, true≢false, sym, ap, ◌∙◌, subst, ⊎_elim, arith}
use mathlib.Core.List.{IsPrefix}
use Rattle.history_board.specs.declared.view.View.{View}
use Rattle.history_board.specs.HistoryRule.{Follows, AllFollow}
use Rattle.history_board.proofs.Prefixes.{prefix_self, prefix_onward}
use Rattle.history_board.proofs.Seats.{Turned, Added, Dropped}

module _ {E : Type 0} where
  -- the keeper's history, floor and posted count only grow
  pub record Grows (k k' : View E) : Type 0 where
    pub seen : IsPrefix k.seen k'.seen
    pub floor : k.floor ≤ k'.floor
    pub posted : k.posted ≤ k'.posted

  pub grows_not : (k : View E) → Grows k k
  grows_not k = record { seen = prefix_self k.seen; floor = omega arith; posted = omega arith }

  pub follows_on : (k k' v : View E) → Grows k k' → Follows k v → Follows k' v
  follows_on k k' v g f = record {
    seen = prefix_onward v.seen k.seen k'.seen f.seen g.seen;
    olds = λ xs has. prefix_onward xs k.seen k'.seen (f.olds xs has) g.seen;
    floor = let a = f.floor in let b = g.floor in omega arith;
    count = let a = f.count in let b = g.posted in omega arith;
  }

  module _ (At After : ℕ → View E → Type 0) (seat : ℕ) (k : View E) (all : AllFollow At seat k) where
    pub follow_turned : (id : ℕ) (w k' : View E) → Turned At After id w → Grows k k' → (w.is_keeper ≡ true → id ≡ seat) → Follows k' w → AllFollow After seat k'
    follow_turned id w k' t g own f = record {
      one = λ by u l key. ⊎_elim (λ e. e.0 ∙ own (ap (λ (z : View E). z.is_keeper) e.1 ∙ key)) (λ e. all.one by u e.1 key) (t.cases by u l);
      each = λ by u l. ⊎_elim (λ e. subst (Follows k') e.1 f) (λ e. follows_on k k' u g (all.each by u e.1)) (t.cases by u l);
    }

    pub follow_added : (new : ℕ) (r : View E) → Added At After new r → r.is_keeper ≡ false → Follows k r → AllFollow After seat k
    follow_added new r t plain f = record {
      one = λ by u l key. ⊎_elim (λ e. absurd (true≢false (sym key ∙ (ap (λ (z : View E). z.is_keeper) (sym e.1) ∙ plain)))) (λ e. all.one by u e.1 key) (t.cases by u l);
      each = λ by u l. ⊎_elim (λ e. subst (Follows k) e.1 f) (λ e. all.each by u e.1) (t.cases by u l);
    }

    pub follow_dropped : (gone : ℕ) → Dropped At After gone → AllFollow After seat k
    follow_dropped gone t = record {
      one = λ by u l key. all.one by u (t.cases by u l).1 key;
      each = λ by u l. all.each by u (t.cases by u l).1;
    }
