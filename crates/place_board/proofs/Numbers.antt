-- Words after a write, and what a view says of them.
use Rattle.std.proofs.Common.{◌≡◌, ◌≢◌, ◌⊎◌, ℕ, ◌*◌, ◌<◌, ◌≤◌, true, List, length, set, sym, ap, ◌∙◌, subst, inl, inr, ⊎_elim, arith, lt_of_not-le}
use Rattle.std.specs.Prelude.{slice_index}
use Rattle.std.proofs.lemmas.List.{length-set, get_or-set_same, get_or-set_other}
use mathlib.Core.Logic.{dite}
use native.Mathlib.Decide.{dec_le, ℕ_discrete}
use Rattle.atomic_table.specs.Seated.{TableId}
use Rattle.base_core.specs.Lists.{Has}
use Rattle.place_board.specs.declared.view.View.{View}
use Rattle.place_board.specs.declared.view.Known.{Known}
use Rattle.place_board.specs.Words.{IsService, IsOf, count_word, IsBoard, IsKnown}
use Rattle.place_board.specs.PlaceRule.{Serves, Lists, Fits, AreApart}
use Rattle.place_board.specs.Steps.{IsSoundView}
use Rattle.place_board.specs.Tokens.{IsSound, noted_of}
use Rattle.place_board.proofs.Members.{agree_flip}

pub number_of : (s n : ℕ) → IsService s → IsOf s n → n < 32768
number_of s n service is = let a = service.1 in let b = is.0 in omega arith

-- a number is of one service alone
pub one_class : (s r n m : ℕ) → IsOf s n → IsOf r m → ¬ (s ≡ r) → ¬ (m ≡ n)
one_class s r n m of of' ne same = ne (let a = of.0 in let b = of.1 in let c = of'.0 in let d = of'.1 in omega arith)

module _ (words : List ℕ) (v : View) (fits : Fits words v) where
  -- a known number was born
  pub known_word : (n : ℕ) → IsKnown v.knows n → (n < 32768) × (0 < slice_index words n)
  known_word n (k, has, is) = let f = fits.known k has in
      subst (λ m. (m < 32768) × (0 < slice_index words m)) is (number_of k.service k.number f.0 f.1, f.2)

  pub not_unborn : (n : ℕ) → slice_index words n ≡ 0 → ¬ IsKnown v.knows n
  not_unborn n zero known = let h = (known_word n known).1 in omega (arith, zero, h)

  -- what the rule says of one view alone
  pub sound_view : IsSoundView v
  sound_view = record {
    noted = λ z. is_noted z;
    seat = λ key z.
        let s = fits.serves key in record {
          noted = is_noted z;
          service = s.service;
          next = s.next;
          below = λ n borne. s.below n borne.0 borne.1;
          above = λ n known of. dite (dec_le v.next n) (λ le. absurd (not_unborn n (s.from n of le) known)) (λ no. lt_of_not-le no);
          mine = s.mine_below;
          counts = λ c has same. let f = (fits.counts c has).1 in let p = s.posted in let e : slice_index words (count_word c.service) ≡ slice_index words (count_word v.service) = ap (λ k. slice_index words (count_word k)) same in omega (arith, f, p, e);
        };
    list = λ key z.
        let l = fits.lists key in record {
          noted = is_noted z;
          services = l.services;
          listed = l.listed;
          once = l.once;
          shown = l.shown;
          known = l.known;
          fresh = l.fresh;
          dead = λ n has. let d = fits.dead n has in l.retired n (known_word n d.0).0 d.1;
          gone = l.gone;
        };
  }
    where
      is_noted : (z : TableId) → IsSound (noted_of z v)
      is_noted z = record { agrees = fits.agrees; of_service = λ k has. let f = fits.known k has in (f.0, f.1); fresh = fits.fresh; dead = λ n has. (fits.dead n has).0 }

-- a written word, and all others
pub word_cases : (words : List ℕ) (i x n : ℕ) → i < length words → ((n ≡ i) × (slice_index (set words i x) n ≡ x)) ⊎ ((n ≢ i) × (slice_index (set words i x) n ≡ slice_index words n))
word_cases words i x n inside = dite (ℕ_discrete n i)
    (λ e. inl (e, subst (λ k. slice_index (set words i x) k ≡ x) (sym e) (get_or-set_same words i x 0 inside)))
    (λ ne. inr (ne, get_or-set_other words i n x 0 ne))

-- what was born stays so, what is retired stays so, and counts only rise
pub record GoesOn (words after : List ℕ) : Type 0 where
  pub stays : (n : ℕ) → n < 32768 → 0 < slice_index words n → 0 < slice_index after n
  pub two : (n : ℕ) → n < 32768 → slice_index words n ≡ 2 → slice_index after n ≡ 2
  pub counts : (n : ℕ) → 32768 ≤ n → slice_index words n ≤ slice_index after n

module _ (words : List ℕ) (i x : ℕ) (board : IsBoard words) (inside : i < 32784) where
  within : i < length words
  within = let n = board.long in omega arith

  pub board_after : (i < 32768 → x ≤ 2) → IsBoard (set words i x)
  board_after small = record {
    long = length-set words i x ∙ board.long;
    small = λ n lt. ⊎_elim
        (λ e. let is = e.1 in let h = small (omega (arith, e.0, lt)) in omega arith)
        (λ e. let is = e.1 in let h = board.small n lt in omega arith)
        (word_cases words i x n within);
  }

  pub goes_on : (i < 32768 → (0 < slice_index words i → 0 < x) × (slice_index words i ≡ 2 → x ≡ 2)) → (32768 ≤ i → slice_index words i ≤ x) → GoesOn words (set words i x)
  goes_on number count = record {
    stays = λ n lt more. ⊎_elim
        (λ e. let same : slice_index words n ≡ slice_index words i = ap (λ k. slice_index words k) e.0 in let h = (number (omega (arith, e.0, lt))).0 (omega (arith, same, more)) in let is = e.1 in omega (arith, h, is))
        (λ e. let is = e.1 in omega (arith, more, is))
        (word_cases words i x n within);
    two = λ n lt two. ⊎_elim
        (λ e. e.1 ∙ (number (omega (arith, e.0, lt))).1 (ap (λ k. slice_index words k) (sym e.0) ∙ two))
        (λ e. e.1 ∙ two)
        (word_cases words i x n within);
    counts = λ n ge. ⊎_elim
        (λ e. let same : slice_index words n ≡ slice_index words i = ap (λ k. slice_index words k) e.0 in let h = count (omega (arith, e.0, ge)) in let is = e.1 in omega (arith, h, is, same))
        (λ e. let is = e.1 in omega (arith, is))
        (word_cases words i x n within);
  }

  -- a service whose class is written elsewhere
  pub serves_after : (u : View) → Serves words u → ((n : ℕ) → IsOf u.service n → u.next ≤ n → n ≢ i) → ((n : ℕ) → IsOf u.service n → n ≡ i → ¬ (x ≡ 1)) → count_word u.service ≢ i → Serves (set words i x) u
  serves_after u s from mine posted = record {
    plain = s.plain;
    service = s.service;
    next = s.next;
    below = s.below;
    from = λ n of le. get_or-set_other words i n x 0 (from n of le) ∙ s.from n of le;
    mine = λ n of one. ⊎_elim
        (λ e. absurd (mine n of e.0 (sym e.1 ∙ one)))
        (λ e. s.mine n of (sym e.1 ∙ one))
        (word_cases words i x n within);
    mine_below = s.mine_below;
    posted = get_or-set_other words i (count_word u.service) x 0 posted ∙ s.posted;
  }

  -- the list, where nothing retires
  pub lists_after : (u : View) → Lists words u → (i < 32768 → ¬ (x ≡ 2)) → ((n : ℕ) → u.services * 2048 ≤ n → n < 32768 → n ≢ i) → ((k : ℕ) → u.services < k → k ≤ 16 → count_word k ≢ i) → Lists (set words i x) u
  lists_after u l retires rest silent = record {
    plain = l.plain;
    services = l.services;
    known = l.known;
    once = l.once;
    shown = l.shown;
    listed = l.listed;
    fresh = l.fresh;
    retired = λ n lt two. ⊎_elim
        (λ e. absurd (retires (omega (arith, e.0, lt)) (sym e.1 ∙ two)))
        (λ e. l.retired n lt (sym e.1 ∙ two))
        (word_cases words i x n within);
    gone = l.gone;
    rest = λ n le lt. get_or-set_other words i n x 0 (rest n le lt) ∙ l.rest n le lt;
    silent = λ k lt le. get_or-set_other words i (count_word k) x 0 (silent k lt le) ∙ l.silent k lt le;
  }

-- a view fits the words that went on
pub fits_after : (words after : List ℕ) (u : View) → GoesOn words after → Fits words u → (u.is_service ≡ true → Serves after u) → (u.is_list ≡ true → Lists after u) → Fits after u
fits_after words after u goes fits serves lists = record {
  known = λ k has. let f = fits.known k has in (f.0, f.1, goes.stays k.number (number_of k.service k.number f.0 f.1) f.2);
  agrees = fits.agrees;
  dead = λ n has. let d = fits.dead n has in (d.0, goes.two n (known_word words u fits n d.0).0 d.1);
  fresh = fits.fresh;
  counts = λ c has. let f = fits.counts c has in let p = f.0 in let q = f.1 in let h = goes.counts (count_word c.service) (omega (arith, p)) in (p, omega (arith, q, h));
  serves = serves;
  lists = lists;
}

pub flips : (v w : View) → AreApart v w → AreApart w v
flips v w a = record {
  agree = agree_flip v.knows w.knows a.agree;
  fresh = λ n h h'. a.fresh n h' h;
  services = λ s r e. a.services r s (sym e);
  over = a.under;
  under = a.over;
}

-- the second view knows and lists no more than the first
pub record IsWithin (v w : View) : Type 0 where
  pub knows : (k : Known) → Has w.knows k → Has v.knows k
  pub fresh : (n : ℕ) → Has w.fresh n → Has v.fresh n
  pub once : (n : ℕ) → Has w.once n → Has v.once n
  pub service : w.is_service ≡ true → (v.is_service ≡ true) × (w.service ≡ v.service)
  pub list : w.is_list ≡ true → (v.is_list ≡ true) × (w.ever ≡ v.ever) × (v.services ≤ w.services)

pub apart_within : (v w u : View) → IsWithin v w → AreApart v u → AreApart w u
apart_within v w u i a = record {
  agree = λ k l has has' same. a.agree k l (i.knows k has) has' same;
  fresh = λ n h h'. a.fresh n (i.fresh n h) h';
  services = λ s r e. a.services (i.service s).0 r (sym (i.service s).1 ∙ e);
  over = λ key. let l = i.list key in let o = a.over l.0 in record {
    one = o.one;
    seat = λ r. let h = o.seat r in let m = l.2 in omega (arith, h, m);
    once = λ n h. subst (λ ever. Has ever n) (sym l.1) (o.once n h);
    fresh = λ n h ever. o.fresh n h (subst (λ e. Has e n) l.1 ever);
  };
  under = λ key. let o = a.under key in record {
    one = λ w_is. o.one (i.list w_is).0;
    seat = λ s. let h = o.seat (i.service s).0 in let e = (i.service s).1 in omega (arith, h, e);
    once = λ n h. o.once n (i.once n h);
    fresh = λ n h. o.fresh n (i.fresh n h);
  };
}
