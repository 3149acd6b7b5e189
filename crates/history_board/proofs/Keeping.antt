-- Each kind of step keeps the rule.
use Rattle.std.proofs.Common.{◌≡◌, ◌≢◌, ℕ, zero, suc, ◌+◌, ◌%◌, ◌^◌, ◌<◌, ◌≤◌, Bool, true, false, true≢false, if◌then◌else◌, List, [], ◌∷◌, ◌++◌, length, set, refl, sym, ap, ◌∙◌, subst, arith, length-append, nat_lt, None, Some, ⊎_elim}
use Rattle.std.specs.Prelude.{slice_index, Contains}
use Rattle.std.proofs.lemmas.List.{length-set, get_or-set_same, get_or-set_other}
use Rattle.std.proofs.Math.Nat.{mod-eq_of_lt}
use mathlib.Core.List.{IsPrefix}
use mathlib.Core.Option.{some, some-ne-none, some-injective}
use lib.ListN.{get_elem?}
use Rattle.atomic_table.proofs.Lists.{set_again}
use Rattle.history_board.specs.declared.view.View.{View}
use Rattle.history_board.specs.Bearings.{longer, borne}
use Rattle.history_board.specs.Views.{first_keeper, spent, told, count_of, joined, gives_pin, pinned, released}
use Rattle.history_board.specs.HistoryRule.{IsLive, HasWords, Follows, IsKept, HistoryRule, HoldsPins}
use Rattle.history_board.specs.Steps.{Sound, IsFound, committed}
use Rattle.history_board.proofs.Prefixes.{prefix_self, longest}
use Rattle.history_board.proofs.Seats.{Without, turned, added, dropped, merged, same_view}
use Rattle.history_board.specs.Pins.{IsOut, IsFree}
use Rattle.history_board.proofs.Places.{get_set, get_set_else}
use Rattle.history_board.proofs.Pinning.{pins_turned, pins_stay, pins_added, pins_dropped, put_cases, put_here, put_stays, free_number}
use Rattle.history_board.proofs.Following.{grows_not, follow_turned, follow_added, follow_dropped}
use Rattle.history_board.proofs.Members.{by_cases, none_in}
use Rattle.history_board.specs.Boards.{BoardId}
use Rattle.history_board.specs.Tokens.{kept_of, MayCommit}
use Rattle.history_board.proofs.SessionSteps.{sessions_stay, sessions_added, sessions_dropped, sessions_joined}
use Rattle.history_board.proofs.Committing.{sessions_committed}

either_way : {A : Type 0} (P : A → Type 0) (b : Bool) (x y : A) → P x → P y → P (if b then x else y)
either_way P true x y p q = p
either_way P false x y p q = q

one_of_two : {A : Type 0} (P : A → Type 0) (x y z : A) → P x → P y → Contains (x ∷ y ∷ []) z → P z
one_of_two P x y z p q (zero, _, is) = subst P is p
one_of_two P x y z p q (suc zero, _, is) = subst P is q
one_of_two P x y z p q (suc (suc k), l, _) = absurd (omega arith)

module _ {E : Type 0} where
  -- a view with the same history, floor and posted count has the same words
  pub words_as : (words : List ℕ) (v w : View E) → w.seen ≡ v.seen → w.floor ≡ v.floor → w.posted ≡ v.posted → HasWords words v → HasWords words w
  words_as words v w seen floor posted h = record {
    three = h.three;
    commits = h.commits ∙ ap length (sym seen);
    floor_word = h.floor_word ∙ sym floor;
    posted_word = h.posted_word ∙ sym posted;
    floor_within = let e = ap length seen in let a = h.floor_within in omega arith;
    floor_rests = floor ∙ h.floor_rests;
  }

  words_committed : (words : List ℕ) (v w : View E) (e : E) → w.seen ≡ v.seen ++ e ∷ [] → w.floor ≡ v.floor → w.posted ≡ v.posted → HasWords words v → length v.seen + 1 < 2 ^ 64 → HasWords (set words 0 ((slice_index words 0 + 1) % 2 ^ 64)) w
  words_committed words v w e seen floor posted h room =
      let three = h.three in
      let n : slice_index words 0 + 1 < 2 ^ 64 = rw h.commits room in
      let m : (slice_index words 0 + 1) % 2 ^ 64 ≡ slice_index words 0 + 1 = mod-eq_of_lt n in
      let i : 0 < length words = omega arith in
      let longer_by : length w.seen ≡ length v.seen + length (e ∷ []) = ap length seen ∙ length-append v.seen (e ∷ []) in record {
        three = length-set words 0 _ ∙ three;
        commits = get_or-set_same words 0 _ 0 i ∙ (m ∙ (let c = h.commits in omega arith));
        floor_word = get_or-set_other words 0 1 _ 0 (λ z. omega arith) ∙ (h.floor_word ∙ sym floor);
        posted_word = get_or-set_other words 0 2 _ 0 (λ z. omega arith) ∙ (h.posted_word ∙ sym posted);
        floor_within = let a = h.floor_within in omega arith;
        floor_rests = floor ∙ h.floor_rests;
      }

  words_posted : (words : List ℕ) (v : View E) (count : ℕ) → HasWords words v → HasWords (set words 2 count) (record v { posted = count })
  words_posted words v count h =
      let three = h.three in
      let i : 2 < length words = omega arith in record {
        three = length-set words 2 count ∙ three;
        commits = get_or-set_other words 2 0 count 0 (λ z. omega arith) ∙ h.commits;
        floor_word = get_or-set_other words 2 1 count 0 (λ z. omega arith) ∙ h.floor_word;
        posted_word = get_or-set_same words 2 count 0 i;
        floor_within = h.floor_within;
        floor_rests = h.floor_rests;
      }

  -- the keeper follows itself, once nothing is put together in it
  pub follows_self : (w : View E) → w.olds ≡ [] → w.floor_seen ≤ w.floor → w.count_seen ≤ w.posted → Follows w w
  follows_self w olds floor count = record {
    seen = prefix_self w.seen;
    olds = λ xs has. none_in _ xs (subst (λ l. Contains l xs) olds has);
    floor = floor;
    count = count;
  }

module _ {E : Type 0} (session_of command_of : E → ℕ) where
  abbrev pub Rule : List ℕ → List (View E) → Type 0
  Rule = HistoryRule session_of command_of

  abbrev Kept : List ℕ → (ℕ → View E → Type 0) → ℕ → View E → Type 0
  Kept = IsKept session_of command_of

  -- the seat of a keeper's view is the keeper's
  pub as_keeper : (words : List ℕ) (views : List (View E)) (id : ℕ) (v : View E) → Rule words views → IsLive views id v → v.is_keeper ≡ true → Kept words (IsLive views) id v
  as_keeper words views id v rule at key =
      let same : id ≡ rule.seat = rule.kept.follow.one id v at key in
      let is : rule.keeper ≡ v = same_view views rule.seat id rule.keeper v rule.kept.here.0 at.0 (sym same) in
      subst (λ (k : View E). Kept words (IsLive views) id k) is (subst (λ (n : ℕ). Kept words (IsLive views) n rule.keeper) (sym same) rule.kept)

  -- any other seat is not
  pub not_keeper : (words : List ℕ) (views : List (View E)) (id : ℕ) (v : View E) (rule : Rule words views) → IsLive views id v → v.is_keeper ≡ false → id ≢ rule.seat
  not_keeper words views id v rule at plain same = true≢false (sym rule.kept.keeps ∙ (ap (λ (z : View E). z.is_keeper) (same_view views rule.seat id rule.keeper v rule.kept.here.0 at.0 (sym same)) ∙ plain))

  -- what the rule says of the keeper alone
  pub sound_of : (words : List ℕ) (At : ℕ → View E → Type 0) (id : ℕ) (v : View E) → Kept words At id v → Sound session_of command_of v
  sound_of words At id v kept z = record {
    floor_within = kept.has_words.floor_within;
    floor_seen_within = (kept.follow.each id v kept.here).floor;
    count_posted = (kept.follow.each id v kept.here).count;
    pins_within = kept.pins.within;
    accounted = kept.sessions.accounted;
    bears = λ b has. kept.sessions.borne_each.each id v b kept.here has;
    once = λ s. kept.sessions.borne_each.once id v s kept.here;
  }

  -- a new board keeps the rule
  pub begins : Rule (0 ∷ 0 ∷ 0 ∷ []) (first_keeper ∷ [])
  begins = record {
    seat = 0;
    keeper = first_keeper;
    kept = record {
      here = (refl, refl);
      keeps = refl;
      has_words = record { three = refl; commits = refl; floor_word = refl; posted_word = refl; floor_within = omega arith; floor_rests = refl };
      follow = record { one = λ by v at key. only by v at.0; each = λ by v at. subst (Follows first_keeper) (is by v at.0) (follows_self first_keeper refl (omega arith) (omega arith)) };
      pins = record {
        within = λ n t e. absurd (cc e);
        each = λ by v at pin. absurd (no_pin by v at.0 pin);
        apart = λ by other v w at pin there pin' same. absurd (no_pin by v at.0 pin);
      };
      sessions = record {
        accounted = record {
          from_one = λ r n is. absurd (cc is);
          each = λ place e is. absurd (cc is);
          after = λ r n place e is from got. absurd (cc is);
          rise = λ r n place further d e is from before got got' of_d of_e. absurd (cc is);
          doubted = λ e has. none_in _ e has;
        };
        borne_each = record {
          each = λ by v b at has. none_in _ b (subst (λ (z : View E). Contains z.bears b) (sym (is by v at.0)) has);
          apart = λ by other v w b c at has there has' same. none_in _ b (subst (λ (z : View E). Contains z.bears b) (sym (is by v at.0)) has);
          once = λ by v r at. subst (λ (z : View E). length (borne r z.bears) ≤ 1) (is by v at.0) (omega arith);
          pins = λ by v at pin. ap (λ (z : View E). z.bears) (sym (is by v at.0));
        };
        borne_by = λ r n got. absurd (cc got);
      };
    };
  }
    where
      only : (by : ℕ) (v : View E) → get_elem? (first_keeper ∷ []) by ≡ some v → by ≡ 0
      only zero v e = refl
      only (suc by) v e = absurd (some-ne-none v (sym e))

      is : (by : ℕ) (v : View E) → get_elem? (first_keeper ∷ []) by ≡ some v → first_keeper ≡ v
      is zero v e = some-injective first_keeper v e
      is (suc by) v e = absurd (some-ne-none v (sym e))

      no_pin : (by : ℕ) (v : View E) → get_elem? (first_keeper ∷ []) by ≡ some v → v.is_pin ≡ true → ⊥
      no_pin by v e pin = true≢false (sym pin ∙ ap (λ (z : View E). z.is_pin) (sym (is by v e)))

  -- a look at the history
  looks_keeper : (words : List ℕ) (views : List (View E)) (id : ℕ) (v : View E) → IsLive views id v → v.is_keeper ≡ true → Kept words (IsLive views) id v → Kept words (IsLive (set views id (record v { olds = [] }))) id (record v { olds = [] })
  looks_keeper words views id v at key kept =
      let w : View E = record v { olds = [] } in
      let t = turned views id v w at.0 at.1 in
      let own = kept.follow.each id v kept.here in record {
        here = t.here;
        keeps = key;
        has_words = words_as words v w refl refl refl kept.has_words;
        follow = follow_turned (IsLive views) (IsLive (set views id w)) id v kept.follow id w w t (record { seen = prefix_self v.seen; floor = omega arith; posted = omega arith }) (λ _. refl) (follows_self w refl own.floor own.count);
        pins = pins_stay (IsLive views) (IsLive (set views id w)) v kept.pins id v w w t kept.here refl refl refl (omega arith) own.floor refl refl (omega arith);
        sessions = sessions_stay session_of command_of (IsLive views) (IsLive (set views id w)) v kept.sessions id v w w t kept.here (λ u l. same_view views id id u v l.0 at.0 refl) refl refl refl refl refl;
      }

  looks_other : (words : List ℕ) (views : List (View E)) (id : ℕ) (v : View E) → IsLive views id v → v.is_keeper ≡ false → (rule : Rule words views) → Kept words (IsLive (set views id (record v { olds = [] }))) rule.seat rule.keeper
  looks_other words views id v at plain rule =
      let w : View E = record v { olds = [] } in
      let t = turned views id v w at.0 at.1 in
      let kept = rule.kept in
      let own = kept.follow.each id v at in
      let apart = not_keeper words views id v rule at plain in record {
        here = t.stay rule.seat rule.keeper kept.here (λ e. apart (sym e));
        keeps = kept.keeps;
        has_words = kept.has_words;
        follow = follow_turned (IsLive views) (IsLive (set views id w)) rule.seat rule.keeper kept.follow id w rule.keeper t (grows_not rule.keeper) (λ key. absurd (true≢false (sym key ∙ plain)))
            (record { seen = own.seen; olds = λ xs has. none_in _ xs has; floor = own.floor; count = own.count });
        pins = pins_stay (IsLive views) (IsLive (set views id w)) rule.keeper kept.pins id v w rule.keeper t at refl refl refl (omega arith) own.floor refl refl (omega arith);
        sessions = sessions_stay session_of command_of (IsLive views) (IsLive (set views id w)) rule.keeper kept.sessions id v w rule.keeper t at (λ u l. same_view views id id u v l.0 at.0 refl) refl refl refl refl refl;
      }

  pub look_keeps : (words : List ℕ) (views : List (View E)) (id : ℕ) (v : View E) → IsLive views id v → Rule words views → Rule words (set views id (record v { olds = [] })) × IsFound session_of command_of (slice_index words 0) v
  look_keeps words views id v at rule = by_cases v.is_keeper
      (λ key. let kept = as_keeper words views id v rule at key in let own = kept.follow.each id v kept.here in (
        record { seat = id; keeper = record v { olds = [] }; kept = looks_keeper words views id v at key kept },
        record { history = v.seen; length_is = kept.has_words.commits; seen = own.seen; olds = own.olds; keeper = λ _. (refl, sound_of words (IsLive views) id v kept); pin = λ pin. let p = kept.pins.each id v at pin in (p.seen, p.floor) },
      ))
      (λ plain. let own = rule.kept.follow.each id v at in (
        record { seat = rule.seat; keeper = rule.keeper; kept = looks_other words views id v at plain rule },
        record { history = rule.keeper.seen; length_is = rule.kept.has_words.commits; seen = own.seen; olds = own.olds; keeper = λ key. absurd (true≢false (sym key ∙ plain)); pin = λ pin. let p = rule.kept.pins.each id v at pin in (p.seen, p.floor) },
      ))

  -- a commit
  pub commit_kept : (words : List ℕ) (views : List (View E)) (z : BoardId) (id : ℕ) (v : View E) (e : E) → IsLive views id v → v.is_keeper ≡ true → v.is_pin ≡ false → v.olds ≡ [] → length v.seen + 1 < 2 ^ 64 → MayCommit session_of command_of (kept_of z v) e → Kept words (IsLive views) id v
      → Kept (set words 0 ((slice_index words 0 + 1) % 2 ^ 64)) (IsLive (set views id (committed session_of command_of e v))) id (committed session_of command_of e v)
  commit_kept words views z id v e at key no_pin olds room may kept =
      let w : View E = committed session_of command_of e v in
      let t = turned views id v w at.0 at.1 in
      let own = kept.follow.each id v kept.here in record {
        here = t.here;
        keeps = key;
        has_words = words_committed words v w e refl refl refl kept.has_words room;
        follow = follow_turned (IsLive views) (IsLive (set views id w)) id v kept.follow id w w t (record { seen = (e ∷ [], refl); floor = omega arith; posted = omega arith }) (λ _. refl) (follows_self w olds own.floor own.count);
        pins = (let n : length w.seen ≡ length v.seen + length (e ∷ []) = length-append v.seen (e ∷ []) in pins_stay (IsLive views) (IsLive (set views id w)) v kept.pins id v w w t kept.here refl refl refl (omega arith) own.floor refl refl (omega arith));
        sessions = sessions_committed session_of command_of (IsLive views) z id v e kept.sessions kept.here may (IsLive (set views id w)) (λ u l. same_view views id id u v l.0 at.0 refl) no_pin t;
      }

  -- a post
  pub post_kept : (words : List ℕ) (views : List (View E)) (id : ℕ) (v : View E) (count : ℕ) → IsLive views id v → v.is_keeper ≡ true → v.olds ≡ [] → v.posted ≤ count → Kept words (IsLive views) id v
      → Kept (set words 2 count) (IsLive (set views id (record v { posted = count }))) id (record v { posted = count })
  post_kept words views id v count at key olds more kept =
      let w : View E = record v { posted = count } in
      let t = turned views id v w at.0 at.1 in
      let own = kept.follow.each id v kept.here in
      let counted = own.count in record {
        here = t.here;
        keeps = key;
        has_words = words_posted words v count kept.has_words;
        follow = follow_turned (IsLive views) (IsLive (set views id w)) id v kept.follow id w w t (record { seen = prefix_self v.seen; floor = omega arith; posted = more }) (λ _. refl) (follows_self w olds own.floor (omega arith));
        pins = pins_stay (IsLive views) (IsLive (set views id w)) v kept.pins id v w w t kept.here refl refl refl (omega arith) own.floor refl refl (omega arith);
        sessions = sessions_stay session_of command_of (IsLive views) (IsLive (set views id w)) v kept.sessions id v w w t kept.here (λ u l. same_view views id id u v l.0 at.0 refl) refl refl refl refl refl;
      }

  -- a note that is told
  told_follows : (words : List ℕ) (views : List (View E)) (id : ℕ) (v : View E) → IsLive views id v → (rule : Rule words views) → Follows rule.keeper (told v)
  told_follows words views id v at rule =
      let k = rule.keeper in
      let own = rule.kept.follow.each id v at in record {
        seen = own.seen;
        olds = λ xs has. none_in _ xs has;
        floor = own.floor;
        count = by_cases v.is_keeper
            (λ key. let same : id ≡ rule.seat = rule.kept.follow.one id v at key in
            let is : v ≡ k = same_view views id rule.seat v k at.0 rule.kept.here.0 same in
            let posted : v.posted ≡ k.posted = ap (λ (z : View E). z.posted) is in
            let is_count : count_of v ≡ v.posted = ap (λ b. if b then v.posted else v.count_seen) key in omega arith)
            (λ plain. let counted = own.count in
            let is_count : count_of v ≡ v.count_seen = ap (λ b. if b then v.posted else v.count_seen) plain in omega arith);
      }

  pub tell_keeps : (words : List ℕ) (views : List (View E)) (id : ℕ) (v : View E) → IsLive views id v → Rule words views → Rule words (set views id v ++ told v ∷ [])
  tell_keeps words views id v at rule =
      let t = added views (told v) refl in
      let kept = rule.kept in
      subst (λ (l : List (View E)). Rule words (l ++ told v ∷ [])) (sym (set_again views id v at.0)) (record {
        seat = rule.seat;
        keeper = rule.keeper;
        kept = record {
          here = t.stay rule.seat rule.keeper kept.here;
          keeps = kept.keeps;
          has_words = kept.has_words;
          follow = follow_added (IsLive views) (IsLive (views ++ told v ∷ [])) rule.seat rule.keeper kept.follow (length views) (told v) t refl (told_follows words views id v at rule);
          pins = pins_added (IsLive views) (IsLive (views ++ told v ∷ [])) rule.keeper kept.pins (length views) (told v) t (λ pin. absurd (true≢false (sym pin))) (λ by u pin l pin' same. true≢false (sym pin));
          sessions = sessions_added session_of command_of (IsLive views) (IsLive (views ++ told v ∷ [])) rule.keeper kept.sessions (length views) (told v) t refl;
        };
      })

  -- two views that are put together
  joined_seen : (v w : View E) → v.is_keeper ≡ true → (joined v w).seen ≡ v.seen
  joined_seen v w key = ap (λ b. if b then v.seen else longer v.seen w.seen) key

  bears_none : (v w : View E) → v.bears ≡ [] → w.bears ≡ [] → v.bears ++ w.bears ≡ []
  bears_none v w p q = ap (λ l. l ++ w.bears) p ∙ q

  joined_follows : (k v w : View E) → Follows k v → Follows k w → Follows k (joined v w)
  joined_follows k v w f g =
      let P : List E → Type 0 = λ xs. IsPrefix xs k.seen in record {
        seen = either_way P v.is_keeper v.seen (longer v.seen w.seen) f.seen (either_way P (nat_lt (length v.seen) (length w.seen)) w.seen v.seen g.seen f.seen);
        olds = λ xs has. one_of_two P v.seen w.seen xs f.seen g.seen has;
        floor = let a = f.floor in let b = g.floor in omega arith;
        count = let a = f.count in let b = g.count in omega arith;
      }

  join_keeper : (words : List ℕ) (views : List (View E)) (id : ℕ) (v : View E) (other : ℕ) (w : View E) → IsLive views id v → IsLive views other w → ¬ (other ≡ id) → v.is_keeper ≡ true → (v.is_pin ≡ true → w.bears ≡ []) → Kept words (IsLive views) id v
      → Kept words (IsLive (set (set views id (joined v w)) other spent)) id (joined v w)
  join_keeper words views id v other w at there apart key free kept =
      let both : View E = joined v w in
      let seen : both.seen ≡ v.seen = joined_seen v w key in
      let mid = Without (IsLive views) other in
      let d = dropped (IsLive views) other in
      let t = merged views id other v both spent at.0 apart at.1 refl in
      let f = joined_follows v v w (kept.follow.each id v kept.here) (kept.follow.each other w there) in
      let own : Follows both both = record { seen = prefix_self both.seen; olds = λ xs has. subst (λ l. IsPrefix xs l) (sym seen) (f.olds xs has); floor = f.floor; count = f.count } in record {
        here = t.here;
        keeps = key;
        has_words = words_as words v both seen refl refl kept.has_words;
        follow = follow_turned mid (IsLive (set (set views id both) other spent)) id v (follow_dropped (IsLive views) mid id v kept.follow other d) id both both t
            (record { seen = subst (λ l. IsPrefix v.seen l) (sym seen) (prefix_self v.seen); floor = omega arith; posted = omega arith }) (λ _. refl) own;
        pins = (let n = ap length seen in let g = f.floor in pins_stay mid (IsLive (set (set views id both) other spent)) v (pins_dropped (IsLive views) mid v kept.pins other d) id v both both t ((λ e. apart (sym e)), at) refl refl refl (omega arith) g refl refl (omega arith));
        sessions = sessions_joined session_of command_of (IsLive views) mid (IsLive (set (set views id both) other spent)) v kept.sessions id other v w both both at there apart (λ u l. same_view views id id u v l.0 at.0 refl) (λ u l. same_view views other other u w l.0 there.0 refl) d t refl (λ pin. bears_none v w (kept.sessions.borne_each.pins id v at pin) (free pin)) seen refl refl;
      }

  join_other : (words : List ℕ) (views : List (View E)) (id : ℕ) (v : View E) (other : ℕ) (w : View E) → IsLive views id v → IsLive views other w → ¬ (other ≡ id) → v.is_keeper ≡ false → w.is_keeper ≡ false → (v.is_pin ≡ true → w.bears ≡ []) → (rule : Rule words views)
      → Kept words (IsLive (set (set views id (joined v w)) other spent)) rule.seat rule.keeper
  join_other words views id v other w at there apart plain plain' free rule =
      let both : View E = joined v w in
      let k = rule.keeper in
      let kept = rule.kept in
      let mid = Without (IsLive views) other in
      let d = dropped (IsLive views) other in
      let t = merged views id other v both spent at.0 apart at.1 refl in
      let here = not_keeper words views id v rule at plain in
      let there_not = not_keeper words views other w rule there plain' in record {
        here = t.stay rule.seat k ((λ e. there_not (sym e)), kept.here) (λ e. here (sym e));
        keeps = kept.keeps;
        has_words = kept.has_words;
        follow = follow_turned mid (IsLive (set (set views id both) other spent)) rule.seat k (follow_dropped (IsLive views) mid rule.seat k kept.follow other d) id both k t
            (grows_not k) (λ key. absurd (true≢false (sym key ∙ plain))) (joined_follows k v w (kept.follow.each id v at) (kept.follow.each other w there));
        pins = (let seen : both.seen ≡ longer v.seen w.seen = ap (λ b. if b then v.seen else longer v.seen w.seen) plain in
            let n = ap length seen in
            let more = (longest v.seen w.seen).0 in
            let g = (joined_follows k v w (kept.follow.each id v at) (kept.follow.each other w there)).floor in
            pins_stay mid (IsLive (set (set views id both) other spent)) k (pins_dropped (IsLive views) mid k kept.pins other d) id v both k t ((λ e. apart (sym e)), at) refl refl refl (omega arith) g refl refl (omega arith));
        sessions = sessions_joined session_of command_of (IsLive views) mid (IsLive (set (set views id both) other spent)) k kept.sessions id other v w both k at there apart (λ u l. same_view views id id u v l.0 at.0 refl) (λ u l. same_view views other other u w l.0 there.0 refl) d t refl (λ pin. bears_none v w (kept.sessions.borne_each.pins id v at pin) (free pin)) refl refl refl;
      }

  pub join_keeps : (words : List ℕ) (views : List (View E)) (id : ℕ) (v : View E) (other : ℕ) (w : View E) → IsLive views id v → IsLive views other w → ¬ (other ≡ id) → w.is_keeper ≡ false → (v.is_pin ≡ true → w.bears ≡ []) → Rule words views
      → Rule words (set (set views id (joined v w)) other spent)
  join_keeps words views id v other w at there apart plain' free rule = by_cases v.is_keeper
      (λ key. record { seat = id; keeper = joined v w; kept = join_keeper words views id v other w at there apart key free (as_keeper words views id v rule at key) })
      (λ plain. record { seat = rule.seat; keeper = rule.keeper; kept = join_other words views id v other w at there apart plain plain' free rule })

  -- a pin that is given out
  pub pin_keeps : (words : List ℕ) (views : List (View E)) (id : ℕ) (v : View E) (number time : ℕ) → IsLive views id v → v.is_keeper ≡ true → v.olds ≡ [] → IsFree v.out number → v.floor ≤ time → time ≤ length v.seen → Rule words views
      → Rule words (set views id (gives_pin number time v) ++ pinned number time v ∷ [])
  pin_keeps words views id v number time at key olds free floor within rule =
      let kept = as_keeper words views id v rule at key in
      let w : View E = gives_pin number time v in
      let r : View E = pinned number time v in
      let mid = set views id w in
      let t = turned views id v w at.0 at.1 in
      let a = added mid r refl in
      let own = kept.follow.each id v kept.here in
      let is_count : count_of v ≡ v.posted = ap (λ b. if b then v.posted else v.count_seen) key in
      let here : IsOut w.out number time = put_here v.out number time free in
      let pins_mid : HoldsPins (IsLive mid) w = pins_turned (IsLive views) (IsLive mid) v kept.pins id v w w t kept.here refl refl
      (λ n s is. ⊎_elim (λ e. let x = e.1 in (omega arith, omega arith)) (λ was. kept.pins.within n s was) (put_cases v.out number time n s free is))
      (λ by u l other pin. put_stays v.out number time u.number u.time free (kept.pins.each by u l pin).is_out)
      (λ pin. let p = kept.pins.each id v at pin in record { is_out = put_stays v.out number time v.number v.time free p.is_out; seen = p.seen; floor = p.floor }) in
      let new_number : (by : ℕ) (u : View E) → IsLive mid by u → u.is_pin ≡ true → u.number ≡ number → ⊥ = λ by u l pin same. ⊎_elim
      (λ e. free_number v.out number v.time free (subst (λ n. IsOut v.out n v.time) (ap (λ (z : View E). z.number) e.1 ∙ same) (kept.pins.each id v at (ap (λ (z : View E). z.is_pin) e.1 ∙ pin)).is_out))
      (λ e. free_number v.out number u.time free (subst (λ n. IsOut v.out n u.time) same (kept.pins.each by u e.1 pin).is_out))
      (t.cases by u l) in
      record {
        seat = id;
        keeper = w;
        kept = record {
          here = a.stay id w t.here;
          keeps = key;
          has_words = words_as words v w refl refl refl kept.has_words;
          follow = follow_added (IsLive mid) (IsLive (mid ++ r ∷ [])) id w
              (follow_turned (IsLive views) (IsLive mid) id v kept.follow id w w t (record { seen = prefix_self v.seen; floor = omega arith; posted = omega arith }) (λ _. refl) (follows_self w olds own.floor own.count))
              (length mid) r a refl (record { seen = prefix_self v.seen; olds = λ xs has. none_in _ xs has; floor = own.floor; count = omega arith });
          pins = pins_added (IsLive mid) (IsLive (mid ++ r ∷ [])) w pins_mid (length mid) r a
              (λ _. let g = own.floor in record { is_out = here; seen = within; floor = omega arith })
              (λ by u _ l pin same. new_number by u l pin same);
          sessions = sessions_added session_of command_of (IsLive mid) (IsLive (mid ++ r ∷ [])) w (sessions_stay session_of command_of (IsLive views) (IsLive mid) v kept.sessions id v w w t kept.here (λ u l. same_view views id id u v l.0 at.0 refl) refl refl refl refl refl) (length mid) r a refl;
        };
      }

  -- a pin that is taken back
  pub release_keeps : (words : List ℕ) (views : List (View E)) (id : ℕ) (v : View E) (other : ℕ) (w : View E) → IsLive views id v → IsLive views other w → ¬ (other ≡ id) → v.is_keeper ≡ true → v.olds ≡ [] → w.is_pin ≡ true → Rule words views
      → Rule words (set (set views id (released v w)) other spent)
  release_keeps words views id v other w at there apart key olds pin_w rule =
      let kept = as_keeper words views id v rule at key in
      let x : View E = released v w in
      let mid = Without (IsLive views) other in
      let d = dropped (IsLive views) other in
      let t = merged views id other v x spent at.0 apart at.1 refl in
      let own = kept.follow.each id v kept.here in
      let stays : (by : ℕ) (u : View E) → IsLive views by u → by ≢ other → u.is_pin ≡ true → IsOut x.out u.number u.time = λ by u l ne pin.
      get_set_else v.out w.number u.number None (λ same. ne (kept.pins.apart by other u w l pin there pin_w same)) ∙ (kept.pins.each by u l pin).is_out in
      record {
        seat = id;
        keeper = x;
        kept = record {
          here = t.here;
          keeps = key;
          has_words = words_as words v x refl refl refl kept.has_words;
          follow = follow_turned mid (IsLive (set (set views id x) other spent)) id v (follow_dropped (IsLive views) mid id v kept.follow other d) id x x t
              (record { seen = prefix_self v.seen; floor = omega arith; posted = omega arith }) (λ _. refl) (follows_self x olds own.floor own.count);
          pins = pins_turned mid (IsLive (set (set views id x) other spent)) v (pins_dropped (IsLive views) mid v kept.pins other d) id v x x t ((λ e. apart (sym e)), at) refl refl
              (λ n s is. ⊎_elim (λ e. let h : None ≡ Some s = e.1 in absurd (cc h)) (λ e. kept.pins.within n s e.1) (get_set v.out w.number n None (Some s) is))
              (λ by u l ne pin. stays by u l.1 l.0 pin)
              (λ pin. let p = kept.pins.each id v at pin in record { is_out = stays id v at (λ e. apart (sym e)) pin; seen = p.seen; floor = p.floor });
          sessions = sessions_stay session_of command_of mid (IsLive (set (set views id x) other spent)) v (sessions_dropped session_of command_of (IsLive views) mid v kept.sessions other w (λ u l. same_view views other other u w l.0 there.0 refl) d (kept.sessions.borne_each.pins other w there pin_w)) id v x x t ((λ e. apart (sym e)), at) (λ u l. same_view views id id u v l.1.0 at.0 refl) refl refl refl refl refl;
        };
      }
