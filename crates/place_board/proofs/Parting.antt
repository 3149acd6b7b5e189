-- What it owes to cut a view in two and to put two together.
use Rattle.std.proofs.Common.{◌≡◌, ℕ, ◌+◌, ◌<◌, ◌≤◌, Bool, true, false, true≢false, if◌then◌else◌, List, ◌∷◌, length, refl, sym, ◌∙◌, subst, ⊎_elim, arith}
use Rattle.std.specs.Prelude.{slice_index}
use Rattle.base_core.specs.Lists.{Has}
use Rattle.seat_rule.proofs.Steps.{Cut, Merge}
use Rattle.place_board.specs.declared.view.View.{View}
use Rattle.place_board.specs.declared.view.Counted.{Counted}
use Rattle.place_board.specs.Words.{IsOf, count_word, IsBoard}
use Rattle.place_board.specs.Views.{first_list, note, seats_one, seated, joined, IsListing, IsNoting}
use Rattle.place_board.specs.PlaceRule.{Lists, Fits, AreApart, is_live}
use Rattle.place_board.proofs.Members.{has_left, has_cases, known_left, known_right, agree_append, agree_all}
use Rattle.place_board.proofs.Numbers.{IsWithin, apart_within}

abbrev Cuts : List ℕ → View → View → View → Type 0
Cuts = Cut is_live IsBoard Fits AreApart

abbrev Merges : List ℕ → View → View → View → Type 0
Merges = Merge is_live IsBoard Fits AreApart

never : {R : Type 0} → false ≡ true → R
never e = absurd (true≢false (sym e))

-- a view gives some of its fresh numbers to a new note, and keeps others
module _ (words : List ℕ) (v : View) (keep give : List ℕ) (lives : v.live ≡ true) (kept : (n : ℕ) → Has keep n → Has v.fresh n) (given : (n : ℕ) → Has give n → Has v.fresh n) (apart : (n : ℕ) → Has keep n → ¬ Has give n) (board : IsBoard words) (fits : Fits words v) where
  left : View
  left = record v { fresh = keep }

  left_fits : Fits words (record v { fresh = keep })
  left_fits = record {
    known = fits.known;
    agrees = fits.agrees;
    dead = fits.dead;
    fresh = λ n has. fits.fresh n (kept n has);
    counts = fits.counts;
    serves = λ key. let s = fits.serves key in record { plain = s.plain; service = s.service; next = s.next; below = s.below; from = s.from; mine = s.mine; mine_below = s.mine_below; posted = s.posted };
    lists = λ key. let l = fits.lists key in record { plain = l.plain; services = l.services; known = l.known; once = l.once; shown = l.shown; listed = l.listed; fresh = λ n has. l.fresh n (kept n has); retired = l.retired; gone = l.gone; rest = l.rest; silent = l.silent };
  }

  counts_fit : (b : Bool) → (b ≡ true → v.is_service ≡ true) → (c : Counted) → Has (if b then record { service = v.service; count = v.posted } ∷ v.counts else v.counts) c → (0 < c.service) × (c.count ≤ slice_index words (count_word c.service))
  counts_fit false key c has = fits.counts c has
  counts_fit true key c has = ⊎_elim
      (λ e. let s = fits.serves (key refl) in subst (λ (d : Counted). (0 < d.service) × (d.count ≤ slice_index words (count_word d.service))) e (s.service.0, (let p = s.posted in omega (arith, p))))
      (λ old. fits.counts c old)
      has

  right_fits : Fits words (note v give)
  right_fits = record {
    known = fits.known;
    agrees = fits.agrees;
    dead = fits.dead;
    fresh = λ n has. fits.fresh n (given n has);
    counts = λ c has. counts_fit v.is_service (λ e. e) c has;
    serves = λ key. never key;
    lists = λ key. never key;
  }

  left_within : IsWithin v (record v { fresh = keep })
  left_within = record { knows = λ k has. has; fresh = kept; once = λ m has. has; service = λ key. (key, refl); list = λ key. (key, refl, omega arith) }

  right_within : IsWithin v (note v give)
  right_within = record { knows = λ k has. has; fresh = given; once = λ m has. has; service = λ key. never key; list = λ key. never key }

  pub cut_owes : Cuts words v (record v { fresh = keep }) (note v give)
  cut_owes = record {
    lives = (lives, refl);
    fits = (left_fits, right_fits);
    apart = record {
      agree = fits.agrees;
      fresh = apart;
      services = λ s r. never r;
      over = λ key. let l = fits.lists key in record {
        one = λ r. never r;
        seat = λ r. never r;
        once = l.once;
        fresh = λ n has. l.fresh n (given n has);
      };
      under = λ r. never r;
    };
    others = λ u f a. (apart_within v (record v { fresh = keep }) u left_within a, apart_within v (note v give) u right_within a);
  }

-- the list gives out the seat of one more service
module _ (words : List ℕ) (v : View) (listing : IsListing v) (room : v.services < 16) (board : IsBoard words) (fits : Fits words v) where
  l : Lists words v
  l = fits.lists listing.list

  seats_fits : Fits words (seats_one v)
  seats_fits = record {
    known = fits.known;
    agrees = fits.agrees;
    dead = fits.dead;
    fresh = fits.fresh;
    counts = fits.counts;
    serves = λ key. absurd (l.plain key);
    lists = λ _. record {
      plain = l.plain;
      services = omega (arith, room);
      known = l.known;
      once = l.once;
      shown = l.shown;
      listed = l.listed;
      fresh = l.fresh;
      retired = l.retired;
      gone = l.gone;
      rest = λ n from lt. l.rest n (omega (arith, from)) lt;
      silent = λ k lt le. l.silent k (omega (arith, lt)) le;
    };
  }

  class_rests : (n : ℕ) → IsOf (v.services + 1) n → slice_index words n ≡ 0
  class_rests n of = let a = of.0 in let b = of.1 in l.rest n (omega (arith, b)) (omega (arith, a, room))

  seated_fits : Fits words (seated v)
  seated_fits = record {
    known = λ k has. absurd has;
    agrees = λ a b has. absurd has;
    dead = λ n has. absurd has;
    fresh = λ n has. absurd has;
    counts = λ c has. absurd has;
    serves = λ _. record {
      plain = λ key. never key;
      service = (omega arith, omega (arith, room));
      next = (omega arith, omega arith);
      below = λ n of lt. let b = of.1 in absurd (omega (arith, b, lt));
      from = λ n of le. class_rests n of;
      mine = λ n of one. let z = class_rests n of in absurd (omega (arith, z, one));
      mine_below = λ n has. absurd has;
      posted = l.silent (v.services + 1) (omega arith) (omega (arith, room));
    };
    lists = λ key. never key;
  }

  seats_within : IsWithin v (seats_one v)
  seats_within = record { knows = λ k has. has; fresh = λ m has. has; once = λ m has. has; service = λ key. (key, refl); list = λ key. (key, refl, omega arith) }

  pub seat_owes : Cuts words v (seats_one v) (seated v)
  seat_owes = record {
    lives = (listing.live, refl);
    fits = (seats_fits, seated_fits);
    apart = record {
      agree = λ a b has has'. absurd has';
      fresh = λ n has has'. absurd has';
      services = λ key. absurd (l.plain key);
      over = λ _. record { one = λ r. never r; seat = λ _. omega arith; once = λ n has. absurd has; fresh = λ n has. absurd has };
      under = λ r. never r;
    };
    others = λ u f a. let o = a.over listing.list in (
      apart_within v (seats_one v) u seats_within a,
      record {
        agree = λ x y has. absurd has;
        fresh = λ n has. absurd has;
        services = λ _ key e. let le = o.seat key in omega (arith, le, e);
        over = λ key. never key;
        under = λ key. absurd (o.one key);
      },
    );
  }

-- a view takes in a note
module _ (words : List ℕ) (v w : View) (lives : v.live ≡ true) (noting : IsNoting w) (board : IsBoard words) (fits : Fits words v) (other : Fits words w) (apart : AreApart v w) where
  not_service : ¬ (w.is_service ≡ true)
  not_service key = true≢false (sym key ∙ noting.service)

  joined_fits : Fits words (joined v w)
  joined_fits = record {
    known = λ k has. ⊎_elim (λ h. fits.known k h) (λ h. other.known k h) (has_cases v.knows w.knows k has);
    agrees = agree_all v.knows w.knows fits.agrees other.agrees apart.agree;
    dead = λ n has. ⊎_elim
        (λ h. let d = fits.dead n h in (known_left v.knows w.knows n d.0, d.1))
        (λ h. let d = other.dead n h in (known_right v.knows w.knows n d.0, d.1))
        (has_cases v.dead w.dead n has);
    fresh = λ n has. ⊎_elim
        (λ h. known_left v.knows w.knows n (fits.fresh n h))
        (λ h. known_right v.knows w.knows n (other.fresh n h))
        (has_cases v.fresh w.fresh n has);
    counts = λ c has. ⊎_elim (λ h. fits.counts c h) (λ h. other.counts c h) (has_cases v.counts w.counts c has);
    serves = λ key. let s = fits.serves key in record { plain = s.plain; service = s.service; next = s.next; below = λ n of lt. known_left v.knows w.knows n (s.below n of lt); from = s.from; mine = s.mine; mine_below = s.mine_below; posted = s.posted };
    lists = λ key. let l = fits.lists key in let o = apart.over key in record {
      plain = l.plain;
      services = l.services;
      known = λ n has. known_left v.knows w.knows n (l.known n has);
      once = λ n has. ⊎_elim (λ h. l.once n h) (λ h. o.once n h) (has_cases v.once w.once n has);
      shown = λ n has. has_left v.once w.once n (l.shown n has);
      listed = l.listed;
      fresh = λ n has. ⊎_elim (λ h. l.fresh n h) (λ h. o.fresh n h) (has_cases v.fresh w.fresh n has);
      retired = l.retired;
      gone = λ n has not. has_left v.dead w.dead n (l.gone n has not);
      rest = l.rest;
      silent = l.silent;
    };
  }

  pub join_owes : Merges words v w (joined v w)
  join_owes = record {
    lives = lives;
    fits = joined_fits;
    others = λ u f a b. record {
      agree = agree_append v.knows w.knows u.knows a.agree b.agree;
      fresh = λ n has has'. ⊎_elim (λ h. a.fresh n h has') (λ h. b.fresh n h has') (has_cases v.fresh w.fresh n has);
      services = a.services;
      over = λ key. let o = a.over key in record { one = o.one; seat = o.seat; once = o.once; fresh = o.fresh };
      under = λ key. let o = a.under key in let p = b.under key in record {
        one = o.one;
        seat = o.seat;
        once = λ n has. ⊎_elim (λ h. o.once n h) (λ h. p.once n h) (has_cases v.once w.once n has);
        fresh = λ n has. ⊎_elim (λ h. o.fresh n h) (λ h. p.fresh n h) (has_cases v.fresh w.fresh n has);
      };
    };
  }

-- the list of a new board fits its words, which are all 0
pub first_fits : (words : List ℕ) → ((n : ℕ) → slice_index words n ≡ 0) → Fits words first_list
first_fits words zero = record {
  known = λ k has. absurd has;
  agrees = λ a b has. absurd has;
  dead = λ n has. absurd has;
  fresh = λ n has. absurd has;
  counts = λ c has. absurd has;
  serves = λ key. never key;
  lists = λ _. record {
    plain = λ key. never key;
    services = omega arith;
    known = λ n has. absurd has;
    once = λ n has. absurd has;
    shown = λ n has. absurd has;
    listed = λ n has. absurd has;
    fresh = λ n has. absurd has;
    retired = λ n lt two. let z = zero n in absurd (omega (arith, z, two));
    gone = λ n has. absurd has;
    rest = λ n from lt. zero n;
    silent = λ k lt le. zero (count_word k);
  };
}

pub first_board : (words : List ℕ) → length words ≡ 32784 → ((n : ℕ) → slice_index words n ≡ 0) → IsBoard words
first_board words long zero = record { long = long; small = λ n lt. let z = zero n in omega (arith, z) }
