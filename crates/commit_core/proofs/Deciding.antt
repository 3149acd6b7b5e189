-- What a mend of the log does to the room, and what becomes of its records.
use Rattle.std.proofs.Common.{◌≡◌, ◌≢◌, ℕ, ◌+◌, ◌<◌, List, length, map, Bool, true, false, cond, Option, Some, None, option_map, Result, Ok, Err, refl, sym, ◌∙◌, ap, subst}
use Rattle.std.specs.Prelude.{IfErr}
use Rattle.disk_core.specs.Moments.{Told}
use Rattle.history_board.specs.Tokens.{Seen}
use Rattle.change_model.specs.declared.history.Committed.{Committed}
use Rattle.record_log.specs.declared.log.RecordLog.{RecordLog}
use Rattle.record_log.specs.Devices.{MomentsHave, ChangesOnly}
use Rattle.record_log.specs.Items.{with_one, Decides, IsMidway, CarriesItems, LogsItems, LogsSome}
use Rattle.record_log.specs.Logs.{IsSameLog}
use Rattle.record_log.specs.Sizes.{undecided_size}
use Rattle.record_log.proofs.Items.{with_one-map, decides, moments_items, midway_first, moments_midway}
use Rattle.record_log.proofs.Moving.{moments_weaker, moments_further}
use Rattle.commit_core.specs.declared.fault.CommitFault.{CommitFault}
use Rattle.commit_core.specs.declared.fault.CommitFault.TheVariants.{NoMemory, Unsure, HistoryFull, DiskFault, LogFull}
use Rattle.commit_core.specs.Rooms.{Room, BearsOrigin, BearsSession, change_of}
use Rattle.commit_core.specs.Records.{Recorded, record_bytes, committed_in, IsCommitOf, DecidesFirst, CommitCarries, LogLeaves}
use Rattle.commit_core.specs.Steps.{Mends, FailsToMend, SettleStep, CommitStep, Stays, decided, over}
use Rattle.commit_core.specs.Ledgers.{Ledgered, ledger_decided, room_of}
use Rattle.commit_core.specs.Puts.{PutStep, PutCarries}

-- ---- the room

-- the ledger after a mend, as a room
pub room_decided : {D : Type 0} (kept : Bool) (posted room most : ℕ) (old mid new : Ledgered) (disk disk' : D) (log log' : RecordLog)
    → mid ≡ record old { keeper = record old.keeper { posted = posted } } → new ≡ record (ledger_decided kept mid) { room = room }
    → room_of new disk' log' most ≡ over (room_of new disk' log' most) (decided kept (room_of old disk log most))
room_decided kept posted room most old mid new disk disk' log log' mid_is new_is =
    let whole : new ≡ record (ledger_decided kept (record old { keeper = record old.keeper { posted = posted } })) { room = room } =
    new_is ∙ ap (λ (l : Ledgered). record (ledger_decided kept l) { room = room }) mid_is in
    let P : Ledgered → Type 0 = λ l. room_of l disk' log' most ≡ over (room_of l disk' log' most) (decided kept (room_of old disk log most)) in
    subst P (sym whole) refl

-- the ledger after a mend that failed, as a room
pub room_posted : {D : Type 0} (posted most : ℕ) (old new : Ledgered) (disk disk' : D) (log log' : RecordLog)
    → new ≡ record old { keeper = record old.keeper { posted = posted } } → room_of new disk' log' most ≡ over (room_of new disk' log' most) (room_of old disk log most)
room_posted posted most old new disk disk' log log' new_is =
    let P : Ledgered → Type 0 = λ l. room_of l disk' log' most ≡ over (room_of l disk' log' most) (room_of old disk log most) in
    subst P (sym new_is) refl

-- ---- what was taken before the mend

same_log_further : (old between new : RecordLog) → IsSameLog old between → IsSameLog between new → IsSameLog old new
same_log_further old between new first second = record {
  file = second.file ∙ first.file;
  limit = second.limit ∙ first.limit;
  sizes = second.sizes ∙ first.sizes;
  stage = second.stage ∙ first.stage;
}

-- the mend of a room whose log has taken memory is one of the room as it was
pub mends_before : {D : Type 0} (fault_count : D → ℕ) (old new : Room D) (log : RecordLog) → IsSameLog old.log log → Mends fault_count (record old { log = log }) new → Mends fault_count old new
mends_before fault_count old new log same mends = record {
  kept = mends.kept;
  is = mends.is;
  counted = mends.counted ∙ ap (λ n. cond mends.kept (n + 1) n) (ap length same.sizes);
  limit = mends.limit ∙ same.limit;
  sizes = mends.sizes ∙ ap (λ sizes. cond mends.kept (with_one sizes (undecided_size log.extent.stage)) sizes) same.sizes
      ∙ ap (λ stage. cond mends.kept (with_one old.log.extent.sizes (undecided_size stage)) old.log.extent.sizes) same.stage;
  settled = mends.settled;
  later = mends.later;
  untried = λ none. let u = mends.untried none in (u.0, u.1, same_log_further old.log log new.log same u.2);
}

pub fails_before : {D : Type 0} (fault_count : D → ℕ) (old new : Room D) (log : RecordLog) (count : ℕ) → IsSameLog old.log log → FailsToMend fault_count (record old { log = log }) new count
    → FailsToMend fault_count old new count
fails_before fault_count old new log count same fails = record {
  tried = fails.tried;
  is = fails.is;
  same_log = same_log_further old.log log new.log same fails.same_log;
  risen = fails.risen;
  shown = fails.shown;
}

-- ---- a put behind a mend

pub put_behind : {D : Type 0} (fault_count : D → ℕ) (old between new : Room D) (note note_after : _) (committed : Committed) (result : Result ℕ CommitFault)
    → Mends fault_count old between → length between.seen < between.most → PutStep fault_count between new note note_after committed result
    → CommitStep fault_count old new note note_after committed result
put_behind fault_count old between new note note_after committed (Ok time) mends below put = (between, mends, put)
put_behind fault_count old between new note note_after committed (Err (Unsure count)) mends below put = (between, mends, put)
put_behind fault_count old between new note note_after committed (Err LogFull) mends below (same, full, note_same) =
    (subst (λ r. Mends fault_count old r) (sym same) mends, subst (λ (r : Room _). length r.seen < r.most) (sym same) below, full, note_same)
put_behind fault_count old between new note note_after committed (Err NoMemory) mends below put = absurd put
put_behind fault_count old between new note note_after committed (Err (DiskFault count)) mends below put = absurd put
put_behind fault_count old between new note note_after committed (Err HistoryFull) mends below put = absurd put

-- ---- records

kept_changes : (kept : Bool) (seen : List Committed) (undecided : Option Committed) (entries : List Recorded) (waiting : Option Recorded) → seen ≡ map committed_in entries
    → undecided ≡ option_map committed_in waiting → cond kept (with_one seen undecided) seen ≡ map committed_in (cond kept (with_one entries waiting) entries)
kept_changes true seen undecided entries waiting changes undecided_is =
    ap (λ w. with_one seen w) undecided_is ∙ (ap (λ l. with_one l (option_map committed_in waiting)) changes ∙ sym (with_one-map committed_in entries waiting))
kept_changes false seen undecided entries waiting changes undecided_is = changes

-- after a mend that answered, the records are those that were decided
pub records_decided : {D : Type 0} (told : Option Told) (old new : Room D) (kept : Bool) (entries : List Recorded) (waiting : Option Recorded) → new ≡ over new (decided kept old)
    → CarriesItems record_bytes new.log told (cond kept (with_one entries waiting) entries) None → old.seen ≡ map committed_in entries
    → change_of old.undecided ≡ option_map committed_in waiting → DecidesFirst entries waiting (λ found. IsCommitOf told new found None)
records_decided told old new kept entries waiting is carries changes undecided = (
  cond kept (with_one entries waiting) entries,
  decides entries waiting kept,
  record {
    carries = carries;
    changes = ap (λ (r : Room _). r.seen) is ∙ kept_changes kept old.seen (change_of old.undecided) entries waiting changes undecided;
    undecided = ap (λ (r : Room _). change_of r.undecided) is;
  },
)

-- after one that failed they are as they were
pub records_same : {D : Type 0} (told : Option Told) (old new : Room D) (entries : List Recorded) (waiting : Option Recorded) → new ≡ over new old
    → CarriesItems record_bytes new.log told entries waiting → old.seen ≡ map committed_in entries → change_of old.undecided ≡ option_map committed_in waiting
    → IsCommitOf told new entries waiting
records_same told old new entries waiting is carries changes undecided = record {
  carries = carries;
  changes = ap (λ (r : Room _). r.seen) is ∙ changes;
  undecided = ap (λ (r : Room _). change_of r.undecided) is ∙ undecided;
}

-- what the put makes of the records that were decided
pub put_carries : {D : Type 0} (told : Option Told) (new : Room D) (entries found : List Recorded) (waiting : Option Recorded) (coming : Recorded) (result : Result ℕ CommitFault)
    → Decides entries waiting found → PutCarries told new found coming result → CommitCarries told new entries waiting coming result
put_carries told new entries found waiting coming (Ok time) first put = (found, first, put)
put_carries told new entries found waiting coming (Err (Unsure count)) first put = (found, first, put)
put_carries told new entries found waiting coming (Err LogFull) first put = (found, first, put)
put_carries told new entries found waiting coming (Err NoMemory) first put = absurd put
put_carries told new entries found waiting coming (Err (DiskFault count)) first put = absurd put
put_carries told new entries found waiting coming (Err HistoryFull) first put = absurd put

-- ---- moments

-- what a mend leaves is what a commit may leave
pub mend_leaves : (entries : List Recorded) (waiting coming : Option Recorded) (old new : Option Told) → LogLeaves (Decides entries waiting) old new → LogLeaves (IsMidway entries waiting coming) old new
mend_leaves entries waiting coming old new goes =
    moments_weaker 0 (LogsItems record_bytes (Decides entries waiting)) (LogsItems record_bytes (IsMidway entries waiting coming))
    (λ image (found, first, log). (found, midway_first entries waiting coming found first, log)) old new goes

-- and so is what a put behind it leaves
pub put_leaves : (entries : List Recorded) (waiting : Option Recorded) (coming : Recorded) (found : List Recorded) (old between new : Option Told) → Decides entries waiting found
    → LogLeaves (Decides entries waiting) old between → LogLeaves (Decides found (Some coming)) between new → LogLeaves (IsMidway entries waiting (Some coming)) old new
put_leaves entries waiting coming found old between new first mend put = moments_midway record_bytes entries waiting (Some coming) found 0 old between new first mend put

-- the moments of a mend or a put, of what the records stand for
pub leaves_items : (entries : List Recorded) (waiting : Option Recorded) (file : ℕ) (old new : Option Told) → file ≡ 0
    → MomentsHave file (LogsSome (Decides (map record_bytes entries) (option_map record_bytes waiting))) old new → LogLeaves (Decides entries waiting) old new
leaves_items entries waiting file old new zero_is goes =
    moments_items record_bytes entries waiting 0 old new
    (subst (λ n. MomentsHave n (LogsSome (Decides (map record_bytes entries) (option_map record_bytes waiting))) old new) zero_is goes)

pub put_leaves_items : (entries : List Recorded) (coming : Recorded) (body : List ℕ) (file : ℕ) (old new : Option Told) → file ≡ 0 → body ≡ record_bytes coming
    → MomentsHave file (LogsSome (Decides (map record_bytes entries) (Some body))) old new → LogLeaves (Decides entries (Some coming)) old new
put_leaves_items entries coming body file old new zero_is body_is goes =
    leaves_items entries (Some coming) file old new zero_is
    (subst (λ b. MomentsHave file (LogsSome (Decides (map record_bytes entries) (Some b))) old new) body_is goes)

-- ---- what a commit did, by what its parts did

pub settle_fails : {D : Type 0} (fault_count : D → ℕ) (old new : Room D) (note note_after : Seen Committed) (committed : Committed) (fault : CommitFault)
    → SettleStep fault_count {T = Bool} old new (Err fault) → note_after ≡ note → CommitStep fault_count old new note note_after committed (Err fault)
settle_fails fault_count old new note note_after committed (DiskFault count) fails same = (fails, same)
settle_fails fault_count old new note note_after committed (Unsure count) fails same = absurd fails
settle_fails fault_count old new note note_after committed NoMemory fails same = absurd fails
settle_fails fault_count old new note note_after committed HistoryFull fails same = absurd fails
settle_fails fault_count old new note note_after committed LogFull fails same = absurd fails

pub settle_fails_carries : {D : Type 0} (fault_count : D → ℕ) (told : Option Told) (old new : Room D) (entries : List Recorded) (waiting : Option Recorded) (coming : Recorded) (fault : CommitFault)
    → SettleStep fault_count {T = Bool} old new (Err fault) → IsCommitOf told new entries waiting → CommitCarries told new entries waiting coming (Err fault)
settle_fails_carries fault_count told old new entries waiting coming (DiskFault count) fails is = is
settle_fails_carries fault_count told old new entries waiting coming (Unsure count) fails is = absurd fails
settle_fails_carries fault_count told old new entries waiting coming NoMemory fails is = absurd fails
settle_fails_carries fault_count told old new entries waiting coming HistoryFull fails is = absurd fails
settle_fails_carries fault_count told old new entries waiting coming LogFull fails is = absurd fails

-- what was taken before changes nothing in it
pub step_before : {D : Type 0} (fault_count : D → ℕ) (old new : Room D) (log : RecordLog) (note note_after : Seen Committed) (committed : Committed) (result : Result ℕ CommitFault)
    → IsSameLog old.log log → IfErr result (λ fault. fault ≢ NoMemory) → CommitStep fault_count (record old { log = log }) new note note_after committed result
    → CommitStep fault_count old new note note_after committed result
step_before fault_count old new log note note_after committed (Ok time) same memory (between, mends, does) = (between, mends_before fault_count old between log same mends, does)
step_before fault_count old new log note note_after committed (Err (Unsure count)) same memory (between, mends, does) = (between, mends_before fault_count old between log same mends, does)
step_before fault_count old new log note note_after committed (Err NoMemory) same memory step = absurd (memory refl)
step_before fault_count old new log note note_after committed (Err (DiskFault count)) same memory step = (fails_before fault_count old new log count same step.0, step.1)
step_before fault_count old new log note note_after committed (Err HistoryFull) same memory step = (mends_before fault_count old new log same step.0, step.1, step.2)
step_before fault_count old new log note note_after committed (Err LogFull) same memory step = (mends_before fault_count old new log same step.0, step.1, step.2, step.3)

-- ---- what stays

over_stays : {D : Type 0} (kept : Bool) (old new : Room D) → new ≡ over new (decided kept old) → Stays old new
over_stays kept old new is = record {
  board = ap (λ (r : Room _). r.board) is;
  floor = ap (λ (r : Room _). r.floor) is;
  out = ap (λ (r : Room _). r.out) is;
  bears = ap (λ (r : Room _). r.bears) is;
  since = ap (λ (r : Room _). r.since) is;
  most = ap (λ (r : Room _). r.most) is;
}

stays_further : {D : Type 0} (old between new : Room D) → Stays old between → Stays between new → Stays old new
stays_further old between new first second = record {
  board = second.board ∙ first.board;
  floor = second.floor ∙ first.floor;
  out = second.out ∙ first.out;
  bears = second.bears ∙ first.bears;
  since = second.since ∙ first.since;
  most = second.most ∙ first.most;
}

same_stays : {D : Type 0} (old new : Room D) → new ≡ old → Stays old new
same_stays old new is = record {
  board = ap (λ (r : Room _). r.board) is;
  floor = ap (λ (r : Room _). r.floor) is;
  out = ap (λ (r : Room _). r.out) is;
  bears = ap (λ (r : Room _). r.bears) is;
  since = ap (λ (r : Room _). r.since) is;
  most = ap (λ (r : Room _). r.most) is;
}

pub step_stays : {D : Type 0} (fault_count : D → ℕ) (old new : Room D) (note note_after : Seen Committed) (committed : Committed) (result : Result ℕ CommitFault)
    → CommitStep fault_count old new note note_after committed result → Stays old new
step_stays fault_count old new note note_after committed (Ok time) (between, mends, does) =
    stays_further old between new (over_stays mends.kept old between mends.is) (record {
      board = ap (λ (r : Room _). r.board) does.is;
      floor = ap (λ (r : Room _). r.floor) does.is;
      out = ap (λ (r : Room _). r.out) does.is;
      bears = ap (λ (r : Room _). r.bears) does.is;
      since = ap (λ (r : Room _). r.since) does.is;
      most = ap (λ (r : Room _). r.most) does.is;
    })
step_stays fault_count old new note note_after committed (Err (Unsure count)) (between, mends, does) =
    stays_further old between new (over_stays mends.kept old between mends.is) (record {
      board = ap (λ (r : Room _). r.board) does.is;
      floor = ap (λ (r : Room _). r.floor) does.is;
      out = ap (λ (r : Room _). r.out) does.is;
      bears = ap (λ (r : Room _). r.bears) does.is;
      since = ap (λ (r : Room _). r.since) does.is;
      most = ap (λ (r : Room _). r.most) does.is;
    })
step_stays fault_count old new note note_after committed (Err NoMemory) step = same_stays old new step.0
step_stays fault_count old new note note_after committed (Err (DiskFault count)) (fails, note_same) = record {
  board = ap (λ (r : Room _). r.board) fails.is;
  floor = ap (λ (r : Room _). r.floor) fails.is;
  out = ap (λ (r : Room _). r.out) fails.is;
  bears = ap (λ (r : Room _). r.bears) fails.is;
  since = ap (λ (r : Room _). r.since) fails.is;
  most = ap (λ (r : Room _). r.most) fails.is;
}
step_stays fault_count old new note note_after committed (Err HistoryFull) step = over_stays step.0.kept old new step.0.is
step_stays fault_count old new note note_after committed (Err LogFull) step = over_stays step.0.kept old new step.0.is

-- the note bears its session still
still_same : (note note_after : Seen Committed) (committed : Committed) → BearsOrigin note committed.origin → note_after ≡ note → BearsSession note_after committed.origin.session
still_same note note_after committed bears same = record { bearing = bears.bearing; only = ap (λ (n : Seen Committed). n.bears) same ∙ bears.only; session_is = bears.session }

pub step_still : {D : Type 0} (fault_count : D → ℕ) (old new : Room D) (note note_after : Seen Committed) (committed : Committed) (result : Result ℕ CommitFault)
    → BearsOrigin note committed.origin → CommitStep fault_count old new note note_after committed result → BearsSession note_after committed.origin.session
step_still fault_count old new note note_after committed (Ok time) bears (between, mends, does) = record { bearing = _; only = does.own bears.bearing bears.only; session_is = bears.session }
step_still fault_count old new note note_after committed (Err (Unsure count)) bears (between, mends, does) = record { bearing = _; only = does.own bears.bearing bears.only; session_is = bears.session }
step_still fault_count old new note note_after committed (Err NoMemory) bears step = still_same note note_after committed bears step.1
step_still fault_count old new note note_after committed (Err (DiskFault count)) bears step = still_same note note_after committed bears step.1
step_still fault_count old new note note_after committed (Err HistoryFull) bears step = still_same note note_after committed bears step.2
step_still fault_count old new note note_after committed (Err LogFull) bears step = still_same note note_after committed bears step.3

pub step_board : {D : Type 0} (fault_count : D → ℕ) (old new : Room D) (note note_after : Seen Committed) (committed : Committed) (result : Result ℕ CommitFault)
    → CommitStep fault_count old new note note_after committed result → note_after.board ≡ note.board
step_board fault_count old new note note_after committed (Ok time) (between, mends, does) = does.board
step_board fault_count old new note note_after committed (Err (Unsure count)) (between, mends, does) = does.board
step_board fault_count old new note note_after committed (Err NoMemory) step = ap (λ (n : Seen Committed). n.board) step.1
step_board fault_count old new note note_after committed (Err (DiskFault count)) step = ap (λ (n : Seen Committed). n.board) step.1
step_board fault_count old new note note_after committed (Err HistoryFull) step = ap (λ (n : Seen Committed). n.board) step.2
step_board fault_count old new note note_after committed (Err LogFull) step = ap (λ (n : Seen Committed). n.board) step.3

-- all other files are as they were at each moment
pub others_further : (old between new : Option Told) → ChangesOnly 0 old between → ChangesOnly 0 between new → ChangesOnly 0 old new
others_further old between new first second = moments_further 0 (λ image. Unit {0}) old between new first second

-- a settle takes no memory
pub settle_memory : {D : Type 0} (fault_count : D → ℕ) (old new : Room D) (fault : CommitFault) → SettleStep fault_count {T = Bool} old new (Err fault) → fault ≢ NoMemory
settle_memory fault_count old new (DiskFault count) fails is = absurd cc
settle_memory fault_count old new (Unsure count) fails is = absurd fails
settle_memory fault_count old new NoMemory fails is = absurd fails
settle_memory fault_count old new HistoryFull fails is = absurd fails
settle_memory fault_count old new LogFull fails is = absurd fails

-- a fault of a settle, whatever its answer would have been
pub settle_err : {D : Type 0} (T : Type 0) (fault_count : D → ℕ) (old new : Room D) (fault : CommitFault) → SettleStep fault_count {T = Bool} old new (Err fault)
    → SettleStep fault_count {T = T} old new (Err fault)
settle_err T fault_count old new (DiskFault count) fails = fails
settle_err T fault_count old new (Unsure count) fails = absurd fails
settle_err T fault_count old new NoMemory fails = absurd fails
settle_err T fault_count old new HistoryFull fails = absurd fails
settle_err T fault_count old new LogFull fails = absurd fails
