-- What keeps the history of a ledger sound.
use Rattle.std.proofs.Common.{◌≡◌, ◌≢◌, ℕ, zero, suc, ◌+◌, ◌-◌, ◌≤◌, ◌==◌, if◌then◌else◌, List, [], ◌∷◌, ◌++◌, length, map, take, drop, refl, sym, ap, ◌∙◌, subst, arith, length-append, append_assoc}
use Rattle.std.specs.Prelude.{Contains, not, Option, Some, None}
use Rattle.std.proofs.lemmas.Bool.{ne_eqb}
use Rattle.std.proofs.lemmas.List.{map-append}
use Rattle.history_board.specs.declared.view.Bearing.{Bearing}
use Rattle.history_board.specs.declared.view.Enrolment.{Enrolment}
use Rattle.history_board.specs.Bearings.{since_of, without, makes, IsEnrolled, IsBorne}
use Rattle.history_board.specs.Tokens.{Kept, IsSound}
use Rattle.history_board.proofs.Members.{keeps_one, has_first}
use Rattle.change_model.specs.declared.entry.Entry.{Entry}
use Rattle.change_model.specs.declared.history.Committed.{Committed}
use Rattle.change_model.specs.declared.history.Origin.{Origin}
use Rattle.change_model.specs.Entries.{IsEntry, AreTimed}
use Rattle.commit_core.specs.Rooms.{Waited, session_of, command_of, change_of, AreOriginsOf, MayComeIn, MayCome, IsSoundHistory, IsDecidedFor}
use Rattle.commit_core.specs.Ledgers.{IsReserved}

-- ---- parts

timed_push : (time last : ℕ) (entries : List Entry) (entry : Entry) → AreTimed time entries → last ≡ time + length entries → IsEntry (suc last) entry → AreTimed time (entries ++ entry ∷ [])
timed_push time last [] entry are is last_is = (subst (λ n. IsEntry (suc n) entry) (omega (arith, is)) last_is, tt)
timed_push time last (first ∷ entries) entry are is last_is = (are.0, timed_push (suc time) last entries entry are.1 (omega (arith, is)) last_is)

-- so are those of a part of the times
timed_taken : (time n : ℕ) (entries : List Entry) → AreTimed time entries → AreTimed time (take n entries)
timed_taken time zero entries are = tt
timed_taken time (suc n) [] are = tt
timed_taken time (suc n) (entry ∷ entries) are = (are.0, timed_taken (suc time) n entries are.1)

timed_dropped : (time n : ℕ) (entries : List Entry) → AreTimed time entries → AreTimed (time + n) (drop n entries)
timed_dropped time zero entries are = let same : time ≡ time + 0 = omega arith in subst (λ (t : ℕ). AreTimed t entries) same are
timed_dropped time (suc n) [] are = tt
timed_dropped time (suc n) (entry ∷ entries) are =
    let same : suc time + n ≡ time + suc n = omega arith in
    subst (λ (t : ℕ). AreTimed t (drop n entries)) same (timed_dropped (suc time) n entries are.1)

pub timed_range : (from upto : ℕ) (entries : List Entry) → AreTimed 0 entries → AreTimed from (take (upto - from) (drop from entries))
timed_range from upto entries are =
    let same : 0 + from ≡ from = omega arith in
    timed_taken from (upto - from) (drop from entries) (subst (λ (t : ℕ). AreTimed t (drop from entries)) same (timed_dropped 0 from entries are))

origins_push : (seen : List Committed) (origins : List Origin) (committed : Committed) → AreOriginsOf seen origins → AreOriginsOf (seen ++ committed ∷ []) (origins ++ committed.origin ∷ [])
origins_push seen origins committed are = record {
  found = are.found;
  made = are.made ++ committed ∷ [];
  whole = ap (λ l. l ++ committed ∷ []) are.whole ∙ append_assoc are.found are.made (committed ∷ []);
  are = ap (λ l. l ++ committed.origin ∷ []) are.are ∙ sym (map-append (λ (c : Committed). c.origin) are.made (committed ∷ []));
}

-- what was found has no origin
origins_found : (seen : List Committed) (origins : List Origin) (committed : Committed) → origins ≡ [] → AreOriginsOf (seen ++ committed ∷ []) origins
origins_found seen origins committed none = record { found = seen ++ committed ∷ []; made = []; whole = sym (append_nil_of (seen ++ committed ∷ [])); are = none }
  where
    append_nil_of : (l : List Committed) → l ++ [] ≡ l
    append_nil_of [] = refl
    append_nil_of (x ∷ l) = ap (λ r. x ∷ r) (append_nil_of l)

pub not_early : (since : List Enrolment) (s : ℕ) → IsEnrolled since s → since ≡ [] → ⊥
not_early [] s (n, is) none = absurd cc
not_early (x ∷ since) s enrolled none = absurd cc

kept_doubt : (sf : Committed → ℕ) (s : ℕ) (doubt : List Committed) (c : Committed) → sf c ≢ s → Contains doubt c → Contains (without sf s doubt) c
kept_doubt sf s doubt c differs has =
    keeps_one (λ (d : Committed). not (sf d == s)) doubt c (ap not (ne_eqb (sf c) s differs)) has

still_may : (seen : List Committed) (since : List Enrolment) (doubt : List Committed) (c : Committed) (s n : ℕ) → session_of c ≢ s → MayComeIn seen since doubt c
    → MayComeIn seen (record { session = s; length = n } ∷ since) (without session_of s doubt) c
still_may seen since doubt c s n differs may = record {
  doubted = kept_doubt session_of s doubt c differs may.doubted;
  first = λ m place other enrolled from at of_session. may.first m place other (sym (later s n since (session_of c) (λ e. differs (sym e))) ∙ enrolled) from at of_session;
}
  where
    later : (s n : ℕ) (since : List Enrolment) (t : ℕ) → s ≢ t → since_of (record { session = s; length = n } ∷ since) t ≡ since_of since t
    later s n since t apart = ap (λ c. if c then Some n else since_of since t) (ne_eqb s t apart)

-- ---- histories

module _ (k k' : Kept Committed) (entries : List Entry) (origins : List Origin) (undecided : Option Waited) where
  -- a step that changes none of its parts
  pub carried : IsSound session_of command_of k' → k'.seen ≡ k.seen → k'.since ≡ k.since → k'.doubt ≡ k.doubt
      → IsSoundHistory k entries origins undecided → IsSoundHistory k' entries origins undecided
  carried sound seen since doubt history = record {
    accounts = sound;
    counted = history.counted ∙ sym (ap length seen);
    timed = history.timed;
    origins_are = subst (λ l. AreOriginsOf l origins) (sym seen) history.origins_are;
    early = λ none. history.early (sym since ∙ none);
    pending = subst (λ l. MayCome l k'.since k'.doubt (change_of undecided)) (sym seen)
        (subst (λ l. MayCome k.seen l k'.doubt (change_of undecided)) (sym since) (subst (λ l. MayCome k.seen k.since l (change_of undecided)) (sym doubt) history.pending));
  }

  -- a change that was committed since opening came in, and nothing is undecided
  pub grown : (committed : Committed) (entry : Entry) (s : ℕ) → IsSound session_of command_of k' → k'.seen ≡ k.seen ++ committed ∷ [] → k'.since ≡ k.since → IsEnrolled k.since s
      → IsEntry (suc (length k.seen)) entry → IsSoundHistory k entries origins undecided
      → IsSoundHistory k' (entries ++ entry ∷ []) (origins ++ committed.origin ∷ []) None
  grown committed entry s sound seen since enrolled is_entry history = record {
    accounts = sound;
    counted = omega (arith, length-append entries (entry ∷ []), ap length seen, length-append k.seen (committed ∷ []), history.counted);
    timed = timed_push 0 (length k.seen) entries entry history.timed (omega (arith, history.counted)) is_entry;
    origins_are = subst (λ l. AreOriginsOf l (origins ++ committed.origin ∷ [])) (sym seen) (origins_push k.seen origins committed history.origins_are);
    early = λ none. absurd (not_early k.since s enrolled (sym since ∙ none));
    pending = tt;
  }

  -- a change that was found at opening
  pub with_found : (committed : Committed) (entry : Entry) → IsSound session_of command_of k' → k'.seen ≡ k.seen ++ committed ∷ [] → k'.since ≡ k.since → k.since ≡ []
      → IsEntry (suc (length k.seen)) entry → change_of undecided ≡ None → IsSoundHistory k entries origins undecided
      → IsSoundHistory k' (entries ++ entry ∷ []) origins undecided
  with_found committed entry sound seen since none is_entry settled history = record {
    accounts = sound;
    counted = omega (arith, length-append entries (entry ∷ []), ap length seen, length-append k.seen (committed ∷ []), history.counted);
    timed = timed_push 0 (length k.seen) entries entry history.timed (omega (arith, history.counted)) is_entry;
    origins_are = subst (λ l. AreOriginsOf l origins) (sym seen) (origins_found k.seen origins committed (history.early none));
    early = λ _. history.early none;
    pending = subst (λ w. MayCome k'.seen k'.since k'.doubt w) (sym settled) tt;
  }

  -- a session was enrolled
  pub enrolled : (s n : ℕ) → IsSound session_of command_of k' → k'.seen ≡ k.seen → k'.since ≡ record { session = s; length = n } ∷ k.since
      → k'.doubt ≡ without session_of s k.doubt → IsDecidedFor undecided s → IsSoundHistory k entries origins undecided → IsSoundHistory k' entries origins undecided
  enrolled s n sound seen since doubt decided history = record {
    accounts = sound;
    counted = history.counted ∙ sym (ap length seen);
    timed = history.timed;
    origins_are = subst (λ l. AreOriginsOf l origins) (sym seen) history.origins_are;
    early = λ none. let e : record { session = s; length = n } ∷ k.since ≡ [] = sym since ∙ none in absurd cc;
    pending = subst (λ l. MayCome l k'.since k'.doubt (change_of undecided)) (sym seen)
        (subst (λ l. MayCome k.seen l k'.doubt (change_of undecided)) (sym since)
        (subst (λ l. MayCome k.seen (record { session = s; length = n } ∷ k.since) l (change_of undecided)) (sym doubt) (by undecided decided history.pending)));
  }
    where
      by : (waiting : Option Waited) → IsDecidedFor waiting s → MayCome k.seen k.since k.doubt (change_of waiting)
          → MayCome k.seen (record { session = s; length = n } ∷ k.since) (without session_of s k.doubt) (change_of waiting)
      by None decided may = tt
      by (Some waited) decided may = still_may k.seen k.since k.doubt waited.committed s n decided may

  -- a change is undecided from now on
  pub waiting : (waited : Waited) (s : ℕ) → IsSound session_of command_of k' → k'.seen ≡ k.seen → k'.since ≡ k.since
      → MayComeIn k'.seen k'.since k'.doubt waited.committed → IsSoundHistory k entries origins undecided → IsSoundHistory k' entries origins (Some waited)
  waiting waited s sound seen since may history = record {
    accounts = sound;
    counted = history.counted ∙ sym (ap length seen);
    timed = history.timed;
    origins_are = subst (λ l. AreOriginsOf l origins) (sym seen) history.origins_are;
    early = λ none. history.early (sym since ∙ none);
    pending = may;
  }

pub left_out : (k : Kept Committed) (entries : List Entry) (origins : List Origin) (undecided : Option Waited) → IsSoundHistory k entries origins undecided → IsSoundHistory k entries origins None
left_out k entries origins undecided history = record {
  accounts = history.accounts;
  counted = history.counted;
  timed = history.timed;
  origins_are = history.origins_are;
  early = history.early;
  pending = tt;
}

-- before the first session was enrolled nothing is undecided
pub none_waits : (k : Kept Committed) (entries : List Entry) (origins : List Origin) (undecided : Option Waited) → IsSoundHistory k entries origins undecided → k.since ≡ [] → undecided ≡ None
none_waits k entries origins None history none = refl
none_waits k entries origins (Some waited) history none =
    absurd (not_early k.since (session_of waited.committed) (history.accounts.accounted.doubted waited.committed history.pending.doubted) none)

pub posted_sound : (k : Kept Committed) (count : ℕ) → k.posted ≤ count → IsSound session_of command_of k → IsSound session_of command_of (record k { posted = count })
posted_sound k count more sound = record {
  floor_within = sound.floor_within;
  floor_seen_within = sound.floor_seen_within;
  count_posted = let seen = sound.count_posted in omega (arith, seen);
  pins_within = sound.pins_within;
  accounted = sound.accounted;
  bears = sound.bears;
  once = sound.once;
}

-- ---- what is reserved

pub reserved_same : (undecided : Option Waited) (room room' n n' : ℕ) → room ≤ room' → n' ≡ n → IsReserved undecided room n → IsReserved undecided room' n'
reserved_same None room room' n n' more same reserved = tt
reserved_same (Some waited) room room' n n' more same reserved =
    (omega (arith, reserved.0), omega (arith, reserved.1), subst (λ m. IsEntry (suc m) waited.entry) (sym same) reserved.2)

-- ---- before the first session was enrolled

none_borne : (k : Kept Committed) → IsSound session_of command_of k → k.since ≡ [] → k.bears ≡ []
none_borne k sound none = by k.bears (λ b has. sound.bears b has)
  where
    by : (bears : List (Bearing Committed)) → ((b : Bearing Committed) → Contains bears b → IsBorne session_of command_of k.seen k.since k.doubt b) → bears ≡ []
    by [] each = refl
    by (b ∷ bears) each = let is = each b (has_first b bears) in absurd (not_early k.since b.session (is.length_then, is.enrolled) none)

-- a change that is found is nobody's own
pub found_bears : (k k' : Kept Committed) (committed : Committed) → IsSound session_of command_of k → k.since ≡ []
    → (¬ Contains k.doubt committed → k'.bears ≡ map (makes session_of (length k.seen) committed) k.bears) → k'.bears ≡ k.bears
found_bears k k' committed sound none own =
    let empty : k.bears ≡ [] = none_borne k sound none in
    own (λ doubted. not_early k.since (session_of committed) (sound.accounted.doubted committed doubted) none)
    ∙ (ap (λ l. map (makes session_of (length k.seen) committed) l) empty ∙ sym empty)
