-- What is made before a put fits the place to which the change comes.
use Rattle.std.proofs.Common.{◌≡◌, ℕ, zero, suc, ◌+◌, List, [], ◌∷◌, length, Bool, true, false, cond, Option, Some, None, refl, sym, ◌∙◌, ap, subst, arith, length-append}
use Rattle.std.specs.Prelude.{slice_get}
use Rattle.std.proofs.lemmas.Bool.{false≢true}
use Rattle.std.proofs.lemmas.List.{take_all}
use Rattle.change_model.specs.declared.entry.Entry.{Entry}
use Rattle.change_model.specs.declared.history.Committed.{Committed}
use Rattle.change_model.specs.History.{History}
use Rattle.change_model.specs.Lexicon.{lexicon_at}
use Rattle.change_model.specs.Entries.{IsEntry, IsEntryAt, AreEntriesBetween, AreEntriesAfter}
use Rattle.record_log.specs.declared.log.RecordLog.{RecordLog}
use Rattle.disk_core.specs.Moments.{Told}
use Rattle.record_log.specs.Items.{with_one, Carries}
use Rattle.commit_core.specs.Records.{Recorded, IsCommitOf}
use Rattle.commit_core.specs.Rooms.{Room, Waited, change_of}
use Rattle.commit_core.specs.Steps.{pin_back, entry_of_waited}
use Rattle.commit_core.specs.Ledgers.{Ledgered, room_of}
use Rattle.commit_core.specs.Puts.{IsBehind, chosen}

-- ---- entries

-- the last of the entries is that of the last time
last_between : (history : History) (from upto : ℕ) (entries : List Entry) (n : ℕ) (entry : Entry) → AreEntriesBetween history from upto entries → slice_get entries n ≡ Some entry
    → suc n ≡ length entries → IsEntryAt history upto entry
last_between history from upto [] n entry are at last = absurd (omega (arith, last))
last_between history from upto (first ∷ []) zero entry are at last =
    let same : first ≡ entry = cc in
    subst (λ e. IsEntryAt history upto e) same (subst (λ t. IsEntryAt history t first) are.1 are.0)
last_between history from upto (first ∷ []) (suc n) entry are at last = absurd (omega (arith, last))
last_between history from upto (first ∷ second ∷ entries) zero entry are at last = absurd (omega (arith, last))
last_between history from upto (first ∷ second ∷ entries) (suc n) entry are at last =
    last_between history (suc from) upto (second ∷ entries) n entry are.1 at (omega (arith, last))

-- so it tells how many ids there are
pub last_terms : (history : History) (entries : List Entry) (n : ℕ) (entry : Entry) → AreEntriesAfter history 0 entries → slice_get entries n ≡ Some entry → suc n ≡ length entries
    → entry.terms ≡ length (lexicon_at history (length history))
last_terms history entries n entry are at last =
    let is : IsEntryAt history (length history) entry = last_between history 0 (length history) entries n entry are at last in
    is.last.terms ∙ ap (λ (h : History). length (lexicon_at h (length h))) (take_all (length history) history (omega arith))

pub planned_entry : (kept : Bool) (waiting : Option Waited) (seen between : List Committed) (alone : Entry) (behind : Option Entry) → (waiting ≡ None → kept ≡ false)
    → between ≡ cond kept (with_one seen (change_of waiting)) seen → IsEntry (length seen + 1) alone
    → IsBehind waiting (length seen + 2) behind → IsEntry (length between + 1) (chosen kept alone behind)
planned_entry false waiting seen between alone behind untried is is_alone is_behind =
    let same : length between ≡ length seen = ap length is in
    subst (λ n. IsEntry (n + 1) alone) (sym same) is_alone
planned_entry true None seen between alone behind untried is is_alone is_behind = absurd (false≢true (sym (untried refl)))
planned_entry true (Some waited) seen between alone None untried is is_alone is_behind = absurd is_behind
planned_entry true (Some waited) seen between alone (Some behind) untried is is_alone is_behind =
    let more : length between ≡ length seen + 1 = omega (arith, ap length is, length-append seen (waited.committed ∷ [])) in
    let two : length seen + 2 ≡ length between + 1 = omega arith in
    subst (λ n. IsEntry n behind) two is_behind

-- ---- the room that was planned for

pub room_planned : {D : Type 0} (first between planned : Ledgered) (number room most : ℕ) (disk disk' : D) (log log' : RecordLog) (old : Room D) → room_of first disk log most ≡ old
    → between ≡ record first { keeper = record first.keeper { out = (pin_back number (room_of first disk log most)).out } } → planned ≡ record between { room = room } → disk' ≡ disk
    → room_of planned disk' log' most ≡ record (pin_back number old) { log = log' }
room_planned {D = D} first between planned number room most disk disk' log log' old old_is between_is planned_is disk_is =
    let whole : planned ≡ record first { keeper = record first.keeper { out = (pin_back number (room_of first disk log most)).out }; room = room } =
    planned_is ∙ ap (λ (l : Ledgered). record l { room = room }) between_is in
    ap (λ (l : Ledgered). room_of l disk' log' most) whole
    ∙ (ap (λ (d : D). room_of (record first { keeper = record first.keeper { out = (pin_back number (room_of first disk log most)).out }; room = room }) d log' most) disk_is
    ∙ ap (λ (o : Room D). record (pin_back number o) { log = log' }) old_is)

-- and its records are those of the room as it was
pub planned_records : {D : Type 0} (tell : D → Option Told) (old : Room D) (number : ℕ) (log : RecordLog) (disk : D) (planned : Room D) (entries : List Recorded) (waiting : Option Recorded)
    → planned ≡ record (pin_back number old) { log = log } → disk ≡ old.disk
    → ((told : Option Told) (bodies : List (List ℕ)) (w : Option (List ℕ)) → Carries old.log told bodies w → Carries log told bodies w)
    → IsCommitOf (tell old.disk) old entries waiting → IsCommitOf (tell disk) planned entries waiting
planned_records {D = D} tell old number log disk planned entries waiting planned_is disk_is carry is =
    subst (λ (r : Room D). IsCommitOf (tell disk) r entries waiting) (sym planned_is)
    (subst (λ (d : D). IsCommitOf (tell d) (record (pin_back number old) { log = log }) entries waiting) (sym disk_is)
    (record { carries = carry _ _ _ is.carries; changes = is.changes; undecided = is.undecided }))

-- ---- what is behind

pub behind_none : (waiting : Option Waited) (time : ℕ) → None ≡ entry_of_waited waiting → IsBehind waiting time None
behind_none None time is = tt
behind_none (Some waited) time is = absurd cc

pub behind_some : (waiting : Option Waited) (time : ℕ) (earlier entry : Entry) → Some earlier ≡ entry_of_waited waiting → IsEntry time entry → IsBehind waiting time (Some entry)
behind_some None time earlier entry is is_entry = absurd cc
behind_some (Some waited) time earlier entry is is_entry = is_entry
