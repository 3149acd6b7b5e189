-- What each kind of step owes, that the rule may hold after it.
use Rattle.std.proofs.Common.{◌≡◌, ℕ, ◌<◌, ◌≤◌, true, List, [], set, refl, sym, ap, ◌∙◌, subst, inl, inr, ⊎_elim, arith}
use Rattle.std.specs.Prelude.{slice_index}
use Rattle.std.proofs.lemmas.List.{get_or-set_same, get_or-set_other}
use mathlib.Core.Logic.{dite}
use native.Mathlib.Decide.{ℕ_discrete}
use Rattle.base_core.specs.Lists.{Has}
use Rattle.seat_rule.proofs.Steps.{Turn, Read, Cut, Merge}
use Rattle.place_board.specs.declared.view.View.{View}
use Rattle.place_board.specs.declared.view.Known.{Known}
use Rattle.place_board.specs.Words.{IsService, IsOf, count_word, IsBoard, IsKnown}
use Rattle.place_board.specs.Views.{bore, enlisted, retired, saw, gave_up, posted_at, IsServing, IsListing}
use Rattle.place_board.specs.PlaceRule.{Serves, Lists, Fits, AreApart, is_live}
use Rattle.place_board.specs.Steps.{Bears, Agrees, Enlists, Retires, Watches, GivesUp, Posts}
use Rattle.place_board.proofs.Members.{without_sub, without_not, without_keeps, known_more}
use Rattle.place_board.proofs.Numbers.{number_of, one_class, known_word, not_unborn, sound_view, word_cases, GoesOn, board_after, goes_on, serves_after, lists_after, fits_after, IsWithin, apart_within}

abbrev Turns : List ℕ → List ℕ → View → (View → Type 0) → Type 0
Turns = Turn is_live IsBoard Fits AreApart

abbrev Reads : List ℕ → View → (View → Type 0) → Type 0
Reads = Read is_live IsBoard Fits AreApart

abbrev Cuts : List ℕ → View → View → View → Type 0
Cuts = Cut is_live IsBoard Fits AreApart

abbrev Merges : List ℕ → View → View → View → Type 0
Merges = Merge is_live IsBoard Fits AreApart

-- a load that changes nothing
pub agree_owes : (words : List ℕ) (v : View) → v.live ≡ true → IsBoard words → Fits words v → Reads words v (λ next. Agrees (v, []) (next, []))
agree_owes words v lives board fits = record {
  next = v;
  lives = lives;
  fits = fits;
  others = λ u f a. a;
  told = (refl, sound_view words v fits);
}

-- a birth
module _ (words : List ℕ) (v : View) (k : Known) (n : ℕ) (serving : IsServing v) (is_n : k.number ≡ n) (is_s : k.service ≡ v.service) (is_next : n ≡ v.next) (small : n < 32768) (of : IsOf v.service n) (board : IsBoard words) (fits : Fits words v) where
  s : Serves words v
  s = fits.serves serving.service

  zero_there : slice_index words n ≡ 0
  zero_there = s.from n of (omega (arith, is_next))

  abbrev after : List ℕ
  after = set words n 1

  inside : n < 32784
  inside = omega (arith, small)

  one_there : slice_index after n ≡ 1
  one_there = get_or-set_same words n 1 0 (let l = board.long in omega (arith, inside))

  goes : GoesOn words after
  goes = let z = zero_there in goes_on words n 1 board inside (λ lt. ((λ more. omega arith), (λ two. absurd (omega (arith, z, two))))) (λ ge. absurd (omega (arith, ge, small)))

  knows_not : (u : View) → Fits words u → (l : Known) → Has u.knows l → ¬ (l.number ≡ n)
  knows_not u f l has same = not_unborn words u f n zero_there (l, has, same)

  bore_serves : Serves after (bore k v)
  bore_serves =
      let next = s.next in
      let lo = of.0 in
      let hi = of.1 in record {
        plain = s.plain;
        service = s.service;
        next = (omega (arith, is_next, lo), omega (arith, is_next, hi));
        below = λ m of' lt. dite (ℕ_discrete m n)
            (λ e. (k, inl refl, is_n ∙ sym e))
            (λ ne. known_more k v.knows m (s.below m of' (omega (arith, is_next, ne, lt))));
        from = λ m of' le. get_or-set_other words n m 1 0 (λ e. omega (arith, e, is_next, le)) ∙ s.from m of' (omega (arith, le));
        mine = λ m of' one. ⊎_elim
            (λ e. inl (sym (e.0 ∙ is_next)))
            (λ e. inr (s.mine m of' (sym e.1 ∙ one)))
            (word_cases words n 1 m (let l = board.long in omega (arith, inside)));
        mine_below = λ m has. ⊎_elim
            (λ e. ((omega (arith, e, is_next, lo), omega (arith, e, is_next, hi)), omega (arith, e)))
            (λ old. let b = s.mine_below m old in let lt = b.1 in (b.0, omega (arith, lt)))
            has;
        posted = get_or-set_other words n (count_word v.service) 1 0 (λ e. omega (arith, e, small, s.service.0)) ∙ s.posted;
      }

  bore_fits : Fits after (bore k v)
  bore_fits = record {
    known = λ l has. ⊎_elim
        (λ e. subst (λ (x : Known). IsService x.service × IsOf x.service x.number × (0 < slice_index after x.number)) e
        (subst (λ r. IsService r) (sym is_s) s.service, subst (λ r. IsOf r k.number) (sym is_s) (subst (λ m. IsOf v.service m) (sym is_n) of), subst (λ m. 0 < slice_index after m) (sym is_n) (let o = one_there in omega (arith, o))))
        (λ old. let f = fits.known l old in (f.0, f.1, goes.stays l.number (number_of l.service l.number f.0 f.1) f.2))
        has;
    agrees = λ a b has has' same. ⊎_elim
        (λ e. ⊎_elim
        (λ e'. sym e ∙ e')
        (λ old. absurd (knows_not v fits b old (sym same ∙ (ap (λ (x : Known). x.number) (sym e) ∙ is_n))))
        has')
        (λ old. ⊎_elim
        (λ e'. absurd (knows_not v fits a old (same ∙ (ap (λ (x : Known). x.number) (sym e') ∙ is_n))))
        (λ old'. fits.agrees a b old old' same)
        has')
        has;
    dead = λ m has. let d = fits.dead m has in (known_more k v.knows m d.0, goes.two m (known_word words v fits m d.0).0 d.1);
    fresh = λ m has. ⊎_elim
        (λ e. (k, inl refl, is_n ∙ (is_next ∙ e)))
        (λ old. known_more k v.knows m (fits.fresh m old))
        has;
    counts = λ c has. let f = fits.counts c has in let p = f.0 in let q = f.1 in let h = goes.counts (count_word c.service) (omega (arith, p)) in (p, omega (arith, q, h));
    serves = λ _. bore_serves;
    lists = λ key. absurd (s.plain key);
  }

  bore_other : (u : View) → Fits words u → AreApart v u → Fits after u × AreApart (bore k v) u
  bore_other u f a = (
    fits_after words after u goes f
        (λ key. let r = f.serves key in
        let ne = a.services serving.service key in
        serves_after words n 1 board inside u r
        (λ m of' le e. one_class v.service u.service n m of of' ne e)
        (λ m of' e. absurd (one_class v.service u.service n m of of' ne e))
        (λ e. omega (arith, e, small, r.service.0)))
        (λ key. let o = a.under key in
        let le = o.seat serving.service in
        let lo = of.0 in
        lists_after words n 1 board inside u (f.lists key)
        (λ _ e. omega (arith, e))
        (λ m from lt e. omega (arith, e, le, lo, from))
        (λ r lt le' e. omega (arith, e, small, lt))),
    record {
      agree = λ x l has has' same. ⊎_elim
          (λ e. absurd (knows_not u f l has' (sym same ∙ (ap (λ (y : Known). y.number) (sym e) ∙ is_n))))
          (λ old. a.agree x l old has' same)
          has;
      fresh = λ m has has'. ⊎_elim
          (λ e. not_unborn words u f n zero_there (subst (λ j. IsKnown u.knows j) (sym (is_next ∙ e)) (f.fresh m has')))
          (λ old. a.fresh m old has')
          has;
      services = a.services;
      over = λ key. absurd (s.plain key);
      under = λ key. let o = a.under key in record {
        one = o.one;
        seat = o.seat;
        once = o.once;
        fresh = λ m has ever. ⊎_elim
            (λ e. not_unborn words u f n zero_there (subst (λ j. IsKnown u.knows j) (sym (is_next ∙ e)) ((f.lists key).known m ever)))
            (λ old. o.fresh m old ever)
            has;
      };
    },
  )

  pub bear_owes : Turns words after v (λ next. Bears k (v, []) (next, []))
  bear_owes = record {
    next = bore k v;
    lives = serving.live;
    base = board_after words n 1 board inside (λ _. omega arith);
    fits = bore_fits;
    others = bore_other;
    told = (refl, sound_view after (bore k v) bore_fits);
  }

-- a number that is listed
module _ (words : List ℕ) (v : View) (n : ℕ) (listing : IsListing v) (is_fresh : Has v.fresh n) (board : IsBoard words) (fits : Fits words v) where
  l : Lists words v
  l = fits.lists listing.list

  first : ¬ Has v.ever n
  first = l.fresh n is_fresh

  enlisted_fits : Fits words (enlisted n v)
  enlisted_fits = record {
    known = fits.known;
    agrees = fits.agrees;
    dead = fits.dead;
    fresh = λ m has. fits.fresh m (without_sub n v.fresh m has);
    counts = fits.counts;
    serves = λ key. absurd (l.plain key);
    lists = λ _. record {
      plain = l.plain;
      services = l.services;
      known = λ m has. ⊎_elim (λ e. subst (λ j. IsKnown v.knows j) e (fits.fresh n is_fresh)) (λ old. l.known m old) has;
      once = λ m has. ⊎_elim (λ e. inl e) (λ old. inr (l.once m old)) has;
      shown = λ m has. ⊎_elim (λ e. inl e) (λ old. inr (l.shown m old)) has;
      listed = λ m has. ⊎_elim (λ e. inl e) (λ old. inr (l.listed m old)) has;
      fresh = λ m has ever. ⊎_elim (λ e. without_not n v.fresh m has (sym e)) (λ old. l.fresh m (without_sub n v.fresh m has) old) ever;
      retired = λ m lt two. let r = l.retired m lt two in (inr r.0, (λ has. ⊎_elim (λ e. first (subst (λ j. Has v.ever j) (sym e) r.0)) r.1 has));
      gone = λ m has not. ⊎_elim (λ e. absurd (not (inl e))) (λ old. l.gone m old (λ listed. not (inr listed))) has;
      rest = l.rest;
      silent = l.silent;
    };
  }

  pub enlist_owes : Reads words v (λ next. Enlists n (v, []) (next, []))
  enlist_owes = record {
    next = enlisted n v;
    lives = listing.live;
    fits = enlisted_fits;
    others = λ u f a. let o = a.over listing.list in record {
      agree = a.agree;
      fresh = λ m has has'. a.fresh m (without_sub n v.fresh m has) has';
      services = a.services;
      over = λ _. record {
        one = o.one;
        seat = o.seat;
        once = λ m has. inr (o.once m has);
        fresh = λ m has ever. ⊎_elim (λ e. a.fresh m (subst (λ j. Has v.fresh j) e is_fresh) has) (λ old. o.fresh m has old) ever;
      };
      under = λ key. absurd (o.one key);
    };
    told = ((refl, sound_view words (enlisted n v) enlisted_fits), first);
  }

-- a number that retires
module _ (words : List ℕ) (v : View) (n : ℕ) (listing : IsListing v) (is_listed : Has v.listed n) (board : IsBoard words) (fits : Fits words v) where
  list_of : Lists words v
  list_of = fits.lists listing.list

  known_there : IsKnown v.knows n
  known_there = list_of.known n (list_of.listed n is_listed)

  retires_at : (n < 32768) × (0 < slice_index words n)
  retires_at = known_word words v fits n known_there

  inside_too : n < 32784
  inside_too = let lt = retires_at.0 in omega (arith, lt)

  goes_too : GoesOn words (set words n 2)
  goes_too = goes_on words n 2 board inside_too (λ lt. ((λ more. omega arith), (λ two. refl))) (λ ge. let lt = retires_at.0 in absurd (omega (arith, ge, lt)))

  two_there : slice_index (set words n 2) n ≡ 2
  two_there = get_or-set_same words n 2 0 (let len = board.long in let lt = retires_at.0 in omega (arith, lt))

  retired_fits : Fits (set words n 2) (retired n v)
  retired_fits =
      let old = list_of in
      let f = fits_after words (set words n 2) v goes_too fits in record {
        known = λ k has. let f = fits.known k has in (f.0, f.1, goes_too.stays k.number (number_of k.service k.number f.0 f.1) f.2);
        agrees = fits.agrees;
        dead = λ m has. ⊎_elim
            (λ e. subst (λ j. IsKnown v.knows j × (slice_index (set words n 2) j ≡ 2)) e (known_there, two_there))
            (λ old_dead. let d = fits.dead m old_dead in (d.0, goes_too.two m (known_word words v fits m d.0).0 d.1))
            has;
        fresh = fits.fresh;
        counts = λ c has. let f = fits.counts c has in let p = f.0 in let q = f.1 in let h = goes_too.counts (count_word c.service) (omega (arith, p)) in (p, omega (arith, q, h));
        serves = λ key. absurd (old.plain key);
        lists = λ _. record {
          plain = old.plain;
          services = old.services;
          known = old.known;
          once = old.once;
          shown = old.shown;
          listed = λ m has. old.listed m (without_sub n v.listed m has);
          fresh = old.fresh;
          retired = λ m lt two. ⊎_elim
              (λ e. (subst (λ j. Has v.ever j) (sym e.0) (old.listed n is_listed), (λ has. without_not n v.listed m has e.0)))
              (λ e. let r = old.retired m lt (sym e.1 ∙ two) in (r.0, (λ has. r.1 (without_sub n v.listed m has))))
              (word_cases words n 2 m (let len = board.long in let at = retires_at.0 in omega (arith, at)));
          gone = λ m has not. dite (ℕ_discrete m n)
              (λ e. inl (sym e))
              (λ ne. inr (old.gone m has (λ listed. not (without_keeps n v.listed m ne listed))));
          rest = λ m from lt. let zero = old.rest m from lt in
              get_or-set_other words n m 2 0 (λ e. let same : slice_index words m ≡ slice_index words n = ap (λ j. slice_index words j) e in let more = retires_at.1 in omega (arith, zero, same, more)) ∙ zero;
          silent = λ k lt le. get_or-set_other words n (count_word k) 2 0 (λ e. let at = retires_at.0 in omega (arith, e, at, lt)) ∙ old.silent k lt le;
        };
      }

  within_too : IsWithin v (retired n v)
  within_too = record { knows = λ k has. has; fresh = λ m has. has; once = λ m has. has; service = λ key. (key, refl); list = λ key. (key, refl, omega arith) }

  pub retire_owes : Turns words (set words n 2) v (λ next. Retires n (v, []) (next, []))
  retire_owes = record {
    next = retired n v;
    lives = listing.live;
    base = board_after words n 2 board inside_too (λ _. omega arith);
    fits = retired_fits;
    others = λ u f a. (
      fits_after words (set words n 2) u goes_too f
          (λ key. let r = f.serves key in
          serves_after words n 2 board inside_too u r
          (λ m of le e. let zero = r.from m of le in let same : slice_index words m ≡ slice_index words n = ap (λ j. slice_index words j) e in let more = retires_at.1 in omega (arith, zero, same, more))
          (λ m of e two. omega (arith, two))
          (λ e. let at = retires_at.0 in let one = r.service.0 in omega (arith, e, at, one)))
          (λ key. absurd ((a.over listing.list).one key)),
      apart_within v (retired n v) u within_too a,
    );
    told = (refl, sound_view (set words n 2) (retired n v) retired_fits);
  }

-- a look at a number
module _ (words : List ℕ) (v : View) (n : ℕ) (serving : IsServing v) (of : IsOf v.service n) (below : n < v.next) (small : n < 32768) (board : IsBoard words) (fits : Fits words v) where
  service_of : Serves words v
  service_of = fits.serves serving.service

  found_known : IsKnown v.knows n
  found_known = service_of.below n of below

  saw_fits : slice_index words n ≡ 2 → Fits words (saw n v)
  saw_fits two = record {
    known = fits.known;
    agrees = fits.agrees;
    dead = λ m has. ⊎_elim (λ e. subst (λ j. IsKnown v.knows j × (slice_index words j ≡ 2)) e (found_known, two)) (λ old. fits.dead m old) has;
    fresh = fits.fresh;
    counts = fits.counts;
    serves = λ key. let r = fits.serves key in record { plain = r.plain; service = r.service; next = r.next; below = r.below; from = r.from; mine = r.mine; mine_below = r.mine_below; posted = r.posted };
    lists = λ key. absurd (service_of.plain key);
  }

  saw_within : IsWithin v (saw n v)
  saw_within = record { knows = λ k has. has; fresh = λ m has. has; once = λ m has. has; service = λ key. (key, refl); list = λ key. (key, refl, omega arith) }

  pub watch_owes : Reads words v (λ next. Watches n (v, []) (slice_index words n) (next, []))
  watch_owes = dite (ℕ_discrete (slice_index words n) 2)
      (λ two. record {
        next = saw n v;
        lives = serving.live;
        fits = saw_fits two;
        others = λ u f a. apart_within v (saw n v) u saw_within a;
        told = inl (two, (refl, sound_view words (saw n v) (saw_fits two)));
      })
      (λ other.
      let le = board.small n small in
      let more = (known_word words v fits n found_known).1 in
      let one : slice_index words n ≡ 1 = omega (arith, le, more, other) in
      record {
        next = v;
        lives = serving.live;
        fits = fits;
        others = λ u f a. a;
        told = inr (one, (refl, sound_view words v fits), service_of.mine n of one, (λ has. other (fits.dead n has).1));
      })

-- a dead number that is dropped
module _ (words : List ℕ) (v : View) (n : ℕ) (serving : IsServing v) (is_dead : Has v.dead n) (board : IsBoard words) (fits : Fits words v) where
  gave_up_fits : Fits words (gave_up n v)
  gave_up_fits = record {
    known = fits.known;
    agrees = fits.agrees;
    dead = fits.dead;
    fresh = fits.fresh;
    counts = fits.counts;
    serves = λ key. let r = fits.serves key in record {
      plain = r.plain;
      service = r.service;
      next = r.next;
      below = r.below;
      from = r.from;
      mine = λ m of one. without_keeps n v.mine m (λ e. let two = (fits.dead n is_dead).1 in let same : slice_index words m ≡ slice_index words n = ap (λ j. slice_index words j) e in omega (arith, one, two, same)) (r.mine m of one);
      mine_below = λ m has. r.mine_below m (without_sub n v.mine m has);
      posted = r.posted;
    };
    lists = λ key. absurd ((fits.serves serving.service).plain key);
  }

  gave_up_within : IsWithin v (gave_up n v)
  gave_up_within = record { knows = λ k has. has; fresh = λ m has. has; once = λ m has. has; service = λ key. (key, refl); list = λ key. (key, refl, omega arith) }

  pub give_up_owes : Reads words v (λ next. GivesUp n (v, []) (next, []))
  give_up_owes = record {
    next = gave_up n v;
    lives = serving.live;
    fits = gave_up_fits;
    others = λ u f a. apart_within v (gave_up n v) u gave_up_within a;
    told = (refl, sound_view words (gave_up n v) gave_up_fits);
  }

-- a count that is posted
module _ (words : List ℕ) (v : View) (i count : ℕ) (serving : IsServing v) (is : i ≡ count_word v.service) (rises : v.posted ≤ count) (board : IsBoard words) (fits : Fits words v) where
  poster : Serves words v
  poster = fits.serves serving.service

  post_inside : i < 32784
  post_inside = let r = poster.service in let le = r.1 in omega (arith, is, le)

  post_behind : 32768 ≤ i
  post_behind = let r = poster.service in let lt = r.0 in omega (arith, is, lt)

  post_goes : GoesOn words (set words i count)
  post_goes = let b = post_behind in goes_on words i count board post_inside (λ lt. absurd (omega (arith, lt, b)))
      (λ _. let p = poster.posted in let same : slice_index words i ≡ slice_index words (count_word v.service) = ap (λ j. slice_index words j) is in omega (arith, p, same, rises))

  posted_fits : Fits (set words i count) (posted_at count v)
  posted_fits =
      let r = poster in
      let b = post_behind in record {
        known = λ k has. let f = fits.known k has in (f.0, f.1, post_goes.stays k.number (number_of k.service k.number f.0 f.1) f.2);
        agrees = fits.agrees;
        dead = λ m has. let d = fits.dead m has in (d.0, post_goes.two m (known_word words v fits m d.0).0 d.1);
        fresh = fits.fresh;
        counts = λ c has. let f = fits.counts c has in let p = f.0 in let q = f.1 in let h = post_goes.counts (count_word c.service) (omega (arith, p)) in (p, omega (arith, q, h));
        serves = λ _. record {
          plain = r.plain;
          service = r.service;
          next = r.next;
          below = r.below;
          from = λ m of le. get_or-set_other words i m count 0 (λ e. let lt = number_of v.service m r.service of in omega (arith, e, lt, b)) ∙ r.from m of le;
          mine = λ m of one. r.mine m of (sym (get_or-set_other words i m count 0 (λ e. let lt = number_of v.service m r.service of in omega (arith, e, lt, b))) ∙ one);
          mine_below = r.mine_below;
          posted = ap (λ j. slice_index (set words i count) j) (sym is) ∙ get_or-set_same words i count 0 (let len = board.long in let h = post_inside in omega (arith, h));
        };
        lists = λ key. absurd (r.plain key);
      }

  posted_within : IsWithin v (posted_at count v)
  posted_within = record { knows = λ k has. has; fresh = λ m has. has; once = λ m has. has; service = λ key. (key, refl); list = λ key. (key, refl, omega arith) }

  pub post_owes : Turns words (set words i count) v (λ next. Posts count (v, []) (next, []))
  post_owes =
      let b = post_behind in record {
        next = posted_at count v;
        lives = serving.live;
        base = board_after words i count board post_inside (λ lt. absurd (omega (arith, lt, b)));
        fits = posted_fits;
        others = λ u f a. (
          fits_after words (set words i count) u post_goes f
              (λ key. let r = f.serves key in
              let ne = a.services serving.service key in
              serves_after words i count board post_inside u r
              (λ m of le e. let lt = number_of u.service m r.service of in omega (arith, e, lt, b))
              (λ m of e. let lt = number_of u.service m r.service of in absurd (omega (arith, e, lt, b)))
              (λ e. ne (omega (arith, e, is))))
              (λ key. let le = (a.under key).seat serving.service in
              lists_after words i count board post_inside u (f.lists key)
              (λ lt. absurd (omega (arith, lt, b)))
              (λ m from lt e. omega (arith, e, lt, b))
              (λ k lt le' e. omega (arith, e, is, lt, le))),
          apart_within v (posted_at count v) u posted_within a,
        );
        told = (refl, sound_view (set words i count) (posted_at count v) posted_fits);
      }
