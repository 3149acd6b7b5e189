-- The steps of a flush put together.
use Rattle.std.proofs.Common.{◌≡◌, ℕ, ◌+◌, ◌-◌, ◌<◌, ◌≤◌, ◌^◌, List, [], ◌∷◌, ◌++◌, length, take, drop, map, Bool, true, false, Option, Some, None, Result, Ok, Err, IfOk, OnOk, OnErr, IsErr, slice_get, ◌↔◌, refl, sym, ◌∙◌, ap, subst, arith, min, ◌≢◌}
use Rattle.std.proofs.lemmas.List.{append_assoc, append-nil, length-take-le}
use Rattle.std.proofs.lemmas.Option.{slice_get_within}
use Rattle.std.specs.List.{filter, AllByRecursion}
use Rattle.disk_core.specs.Moments.{Told}
use Rattle.record_log.specs.Devices.{MomentsHave, ChangesOnly}
use Rattle.record_log.specs.Items.{CarriesItems, IsPutOf, LogsItems, Decides}
use Rattle.record_log.specs.Logs.{file_of, sizes_of, needs_mend, IsFull}
use Rattle.record_log.specs.declared.fault.LogFault.{LogFault}
use Rattle.record_log.specs.declared.fault.LogFault.TheVariants as log
use Rattle.record_log.specs.declared.log.RecordLog.{RecordLog}
use Rattle.body_journal.specs.declared.fault.JournalFault.{JournalFault}
use Rattle.body_journal.specs.declared.fault.JournalFault.TheVariants.{NoMemory, DiskFault, Full}
use Rattle.body_journal.specs.declared.held.Held.{Held}
use Rattle.body_journal.specs.declared.journal.BodyJournal.{BodyJournal}
use Rattle.body_journal.specs.Groups.{group_bytes, group_size, IsFullest}
use Rattle.body_journal.specs.Held.{Queued, others_in, grouped_in, decided_held, marked, is_kept, HasStored}
use Rattle.body_journal.specs.Journals.{IsAt}
use Rattle.body_journal.specs.Marks.{AreAllTakenIn, AreUnmarked, IsPut, IsStoredBy, IsLeftBy, AreDecided, AreDecidedUnless, IsDecidedBy, is_failed, StoresPut, StoresMend, StoresAt, queue_in, held_left}
use Rattle.body_journal.specs.Rooms.{IsFlushed, queue_of, queue_without, queue_left, queue_after, others_after, stored_after, sizes_after, number_behind}
use Rattle.body_journal.specs.Stores.{Stores, StoresIn, IsHeldRight, MomentsKeep}
use Rattle.body_journal.proofs.Has.{after_has, marked_has, kept_has}
use Rattle.body_journal.proofs.Lists.{all_filter, get_behind}
use Rattle.body_journal.proofs.Marking.{others_decided, queue_decided, queue_left_out, queue_marked, queue_put, queue_kept, members_put, grouped_marked, places_marked}
use Rattle.body_journal.proofs.Sizes.{group_is}
use Rattle.body_journal.proofs.Storing.{PutLeaves, put_stores, put_keeps, held_stores, stored_count, stored_at}

pub true_false : true ≡ false → ⊥
true_false is = cc

-- ---- a mend

pub mend_err : (told : Option Told) (room : BodyJournal) (bodies : List (List ℕ)) (result : Result Bool LogFault) → IsErr result → Stores told room bodies → StoresMend told room bodies result
mend_err told room bodies (Ok is_in) failed stores = absurd (let no_such : false ≡ true = failed in cc)
mend_err told room bodies (Err fault) failed stores = stores

-- ---- a mend and a put

others_same : (old mid : BodyJournal) (is_in : Bool) (serial : ℕ) → mid.held.items ≡ map (decided_held old.tally.stored is_in) old.held.items
    → others_in serial mid.held.items ≡ others_after old is_in serial
others_same old mid is_in serial held = ap (λ (helds : List Held). others_in serial helds) held ∙ others_decided old.tally.stored is_in serial old.held.items

queue_same : (old mid : BodyJournal) (is_in : Bool) → mid.held.items ≡ map (decided_held old.tally.stored is_in) old.held.items → queue_in mid.held.items ≡ queue_after old is_in
queue_same old mid is_in held = ap (λ (helds : List Held). queue_in helds) held ∙ queue_decided old.tally.stored is_in old.held.items

members_of : (old mid new : BodyJournal) (serial place others : ℕ) (one : Queued) (is_in : Bool) → mid.held.items ≡ map (decided_held old.tally.stored is_in) old.held.items
    → mid.tally.stored ≡ stored_after old is_in → mid.tally.stored + (others + 1) < 2 ^ 64 → AreUnmarked mid.held.items
    → new.held.items ≡ map (decided_held mid.tally.stored true) (marked serial (others + 1) 1 mid.held.items) → place < others
    → slice_get (queue_without serial (queue_after old is_in)) place ≡ Some one
    → HasStored (filter (is_kept serial) new.held.items) one.serial one.bytes (stored_after old is_in + (place + 1))
members_of old mid new serial place others one is_in held stored fits unmarked put below found =
    let at : min (mid.tally.stored + (1 + place)) (2 ^ 64 - 1) ≡ stored_after old is_in + (place + 1) = omega (arith, stored, fits, below) in
    subst (λ (list : List Held). HasStored (filter (is_kept serial) list) one.serial one.bytes (stored_after old is_in + (place + 1))) (sym put)
    (subst (λ (before : ℕ). HasStored (filter (is_kept serial) (map (decided_held mid.tally.stored true) (marked serial (others + 1) 1 mid.held.items))) one.serial one.bytes before) at
    (members_put serial (others + 1) 1 others mid.tally.stored mid.held.items (omega arith) unmarked place one below
    (subst (λ (queue : List Queued). slice_get (queue_without serial queue) place ≡ Some one) (sym (queue_same old mid is_in held)) found)))

pub stored_by : (result : Result ℕ LogFault) (old mid new : BodyJournal) (serial : ℕ) (body : List ℕ) (is_in : Bool) → (needs_mend old.log ≡ false → is_in ≡ false)
    → mid.held.items ≡ map (decided_held old.tally.stored is_in) old.held.items → mid.tally.stored ≡ stored_after old is_in → sizes_of mid.log ≡ sizes_after old is_in
    → AreUnmarked mid.held.items → IfOk result (λ before. before ≡ mid.tally.stored) → OnOk result (IsPut mid new serial body)
    → (is_in ≡ true → AreAllTakenIn old mid) → ((other : ℕ) (bytes : List ℕ) (before : ℕ) → HasStored mid.held.items other bytes before → HasStored new.held.items other bytes before)
    → IfOk result (IsStoredBy old new serial body)
stored_by (Err fault) old mid new serial body is_in mended held stored sizes unmarked before put taken known = tt
stored_by (Ok x) old mid new serial body is_in mended held stored sizes unmarked before put taken known =
    let same : others_in serial mid.held.items ≡ others_after old is_in serial = others_same old mid is_in serial held in
    record {
      is_in = is_in;
      mended = mended;
      taken = λ is_true other bytes place has. known other bytes _ (taken is_true other bytes place has);
      others = put.others;
      fullest = subst (λ (others : List (List ℕ)). IsFullest body others put.others) same put.fullest;
      before_is = before ∙ stored;
      fits = omega (arith, before, put.fits);
      stored = omega (arith, put.stored, stored);
      sizes = put.sizes
          ∙ ap (λ (sizes : List ℕ). sizes ++ group_size (body ∷ take put.others (others_in serial mid.held.items)) ∷ []) sizes
          ∙ ap (λ (others : List (List ℕ)). sizes_after old is_in ++ group_size (body ∷ take put.others others) ∷ []) same;
      settled = put.settled;
      queue = ap (λ (helds : List Held). queue_in (filter (is_kept serial) helds)) put.held
          ∙ queue_put serial (put.others + 1) 1 put.others mid.tally.stored mid.held.items (omega arith) unmarked
          ∙ ap (λ (queue : List Queued). drop put.others (queue_without serial queue)) (queue_same old mid is_in held);
      members = λ place one below found.
          members_of old mid new serial place put.others one is_in held stored put.fits unmarked put.held below found;
    }

pub left_by : (result : Result ℕ LogFault) (old mid new : BodyJournal) (is_in : Bool) → (needs_mend old.log ≡ false → is_in ≡ false)
    → mid.held.items ≡ map (decided_held old.tally.stored is_in) old.held.items → OnErr result (queue_of new ≡ queue_of mid)
    → (is_in ≡ true → AreAllTakenIn old mid) → ((other : ℕ) (bytes : List ℕ) (before : ℕ) → HasStored mid.held.items other bytes before → HasStored new.held.items other bytes before)
    → OnErr result (IsLeftBy old new)
left_by (Ok x) old mid new is_in mended held queue taken known = tt
left_by (Err fault) old mid new is_in mended held queue taken known = record { is_in = is_in; mended = mended; taken = λ is_true other bytes place has. known other bytes _ (taken is_true other bytes place has); queue = queue ∙ queue_same old mid is_in held }

full_of : (result : Result ℕ LogFault) (old mid : BodyJournal) (serial : ℕ) (body : List ℕ) (others : ℕ) → mid.log ≡ old.log → others_in serial mid.held.items ≡ others_after old false serial
    → IsFullest body (others_in serial mid.held.items) others × ((result ≡ Err log.Full) ↔ IsFull mid.log (group_size (body ∷ take others (others_in serial mid.held.items))))
    → IsFullest body (others_after old false serial) others × ((result ≡ Err log.Full) ↔ IsFull old.log (group_size (body ∷ take others (others_after old false serial))))
full_of result old mid serial body others same_log same found =
    let moved : IsFullest body (others_after old false serial) others × ((result ≡ Err log.Full) ↔ IsFull mid.log (group_size (body ∷ take others (others_after old false serial)))) =
    subst (λ (list : List (List ℕ)). IsFullest body list others × ((result ≡ Err log.Full) ↔ IsFull mid.log (group_size (body ∷ take others list)))) same found in
    subst (λ one. IsFullest body (others_after old false serial) others × ((result ≡ Err log.Full) ↔ IsFull one (group_size (body ∷ take others (others_after old false serial))))) same_log moved

pub full_same : (result : Result ℕ LogFault) (old mid : BodyJournal) (serial : ℕ) (body : List ℕ) (is_in : Bool) → is_in ≡ false → mid.log ≡ old.log
    → mid.held.items ≡ map (decided_held old.tally.stored is_in) old.held.items
    → (others : ℕ) × IsFullest body (others_in serial mid.held.items) others × ((result ≡ Err log.Full) ↔ IsFull mid.log (group_size (body ∷ take others (others_in serial mid.held.items))))
    → (others : ℕ) × IsFullest body (others_after old false serial) others × ((result ≡ Err log.Full) ↔ IsFull old.log (group_size (body ∷ take others (others_after old false serial))))
full_same result old mid serial body is_in none same_log held (others, fullest, comes) =
    let both : IsFullest body (others_after old false serial) others × ((result ≡ Err log.Full) ↔ IsFull old.log (group_size (body ∷ take others (others_after old false serial)))) =
    full_of result old mid serial body others same_log
    (others_same old mid false serial (subst (λ (b : Bool). mid.held.items ≡ map (decided_held old.tally.stored b) old.held.items) none held)) (fullest, comes) in
    (others, both.0, both.1)

pub stores_at : (result : Result ℕ LogFault) (told_mid told : Option Told) (mid new : BodyJournal) (bodies more : List (List ℕ)) (body : List ℕ) → Stores told_mid mid (bodies ++ more)
    → IfOk result (λ before. before ≡ mid.tally.stored) → StoresPut told new (bodies ++ more) body result → StoresAt told new bodies body result
stores_at (Err fault) told_mid told mid new bodies more body stores before put = (more, put)
stores_at (Ok x) told_mid told mid new bodies more body stores before (rest, put) =
    let at : x ≡ length (bodies ++ more) = before ∙ stored_count told_mid mid.log mid.journals mid.tally.stored mid.tally.grouped mid.held.items (bodies ++ more) stores in
    let same : (bodies ++ more) ++ body ∷ rest ≡ bodies ++ (more ++ body ∷ rest) = append_assoc bodies more (body ∷ rest) in (
      more ++ body ∷ rest,
      subst (λ (all : List (List ℕ)). Stores told new all) same put,
      subst (λ (all : List (List ℕ)). slice_get all x ≡ Some body) same (get_behind (bodies ++ more) (body ∷ rest) 0 x (omega (arith, at))),
    )

-- ---- the body leaves the queue

abbrev with_held : BodyJournal → List Held → Option Told → List (List ℕ) → Type 0
with_held room helds told bodies = StoresIn told room.log room.journals room.tally.stored room.tally.grouped helds bodies

pub forgotten_stores : (told : Option Told) (room : BodyJournal) (serial : ℕ) (helds : List Held) (bodies : List (List ℕ)) → helds ≡ filter (is_kept serial) room.held.items
    → Stores told room bodies → with_held room helds told bodies
forgotten_stores told room serial helds bodies is stores =
    subst (λ (list : List Held). with_held room list told bodies) (sym is)
    (held_stores told room.log room.journals room.tally.stored room.tally.grouped room.held.items (filter (is_kept serial) room.held.items) bodies
    (λ waiting all. all_filter (IsHeldRight bodies waiting) (is_kept serial) room.held.items all) stores)

left_stores : (fault : JournalFault) (told : Option Told) (room : BodyJournal) (serial : ℕ) (bodies : List (List ℕ)) → Stores told room bodies
    → with_held room (held_left fault serial room.held.items) told bodies
left_stores NoMemory told room serial bodies stores = stores
left_stores (DiskFault disk count) told room serial bodies stores = forgotten_stores told room serial (filter (is_kept serial) room.held.items) bodies refl stores
left_stores (Full disk) told room serial bodies stores = forgotten_stores told room serial (filter (is_kept serial) room.held.items) bodies refl stores

pub given_stores : (fault : JournalFault) (told : Option Told) (room : BodyJournal) (serial : ℕ) (helds : List Held) (bodies : List (List ℕ)) → helds ≡ held_left fault serial room.held.items
    → Stores told room bodies → with_held room helds told bodies
given_stores fault told room serial helds bodies is stores =
    subst (λ (list : List Held). with_held room list told bodies) (sym is) (left_stores fault told room serial bodies stores)

given_queue : (fault : JournalFault) (serial : ℕ) (helds : List Held) → queue_in (held_left fault serial helds) ≡ queue_left fault serial (queue_in helds)
given_queue NoMemory serial helds = refl
given_queue (DiskFault disk count) serial helds = queue_kept serial helds
given_queue (Full disk) serial helds = queue_kept serial helds

pub queue_given : (fault : JournalFault) (serial : ℕ) (helds now_helds : List Held) (queue : List Queued) → now_helds ≡ held_left fault serial helds → queue_in helds ≡ queue
    → queue_in now_helds ≡ queue_left fault serial queue
queue_given fault serial helds now_helds queue is same =
    ap (λ (list : List Held). queue_in list) is ∙ given_queue fault serial helds ∙ ap (λ (list : List Queued). queue_left fault serial list) same

-- ---- the number in a receipt

pub at_behind : (bodies : List (List ℕ)) (before number : ℕ) (body : List ℕ) → slice_get bodies before ≡ Some body → before + 1 < 2 ^ 64 → number ≡ number_behind before → IsAt bodies number body
at_behind bodies before number body at fits is =
    let exact : number - 1 ≡ before = omega (arith, is, fits) in
    record {
      numbered = omega (arith, is, fits);
      named = ap (λ (k : ℕ). slice_get bodies k) exact ∙ at;
    }

pub at_stored : (told : Option Told) (room : BodyJournal) (bodies : List (List ℕ)) (serial : ℕ) (body : List ℕ) (before number : ℕ) → room.tally.stored + room.tally.grouped < 2 ^ 64
    → Stores told room bodies → HasStored room.held.items serial body before → number ≡ number_behind before → IsAt bodies number body
at_stored told room bodies serial body before number fits stores has is =
    let at : slice_get bodies before ≡ Some body = stored_at told room.log room.journals room.tally.stored room.tally.grouped room.held.items bodies serial body before stores has in
    let count : room.tally.stored ≡ length bodies = stored_count told room.log room.journals room.tally.stored room.tally.grouped room.held.items bodies stores in
    at_behind bodies before number body at (omega (arith, slice_get_within bodies before body at, count, fits)) is

-- ---- a put of a group that is marked

pub members : (serial grouped others : ℕ) (body : List ℕ) (helds marks : List Held) → marks ≡ marked serial grouped 1 helds → grouped ≡ others + 1 → AreUnmarked helds
    → grouped_in marks ≡ take others (others_in serial helds)
members serial grouped others body helds marks is count unmarked =
    ap (λ (list : List Held). grouped_in list) is ∙ grouped_marked serial grouped 1 others helds (omega (arith, count)) unmarked

pub members_count : (serial grouped others : ℕ) (body : List ℕ) (helds marks : List Held) → marks ≡ marked serial grouped 1 helds → grouped ≡ others + 1 → AreUnmarked helds
    → IsFullest body (others_in serial helds) others → others ≡ length (grouped_in marks)
members_count serial grouped others body helds marks is count unmarked fullest =
    sym (ap (λ (bodies : List (List ℕ)). length bodies) (members serial grouped others body helds marks is count unmarked) ∙ length-take-le others (others_in serial helds) fullest.front)

pub members_within : (serial grouped others : ℕ) (body : List ℕ) (helds marks : List Held) → marks ≡ marked serial grouped 1 helds → grouped ≡ others + 1 → AreUnmarked helds
    → IsFullest body (others_in serial helds) others → group_size (body ∷ grouped_in marks) ≤ 2 ^ 30
members_within serial grouped others body helds marks is count unmarked fullest =
    subst (λ (bodies : List (List ℕ)). group_size (body ∷ bodies) ≤ 2 ^ 30) (sym (members serial grouped others body helds marks is count unmarked)) fullest.within

members_right : (serial grouped others : ℕ) (body : List ℕ) (helds marks : List Held) (bodies : List (List ℕ)) → marks ≡ marked serial grouped 1 helds → grouped ≡ others + 1 → AreUnmarked helds
    → AllByRecursion (IsHeldRight bodies None) helds → AllByRecursion (IsHeldRight bodies (Some (body ∷ grouped_in marks))) marks
members_right serial grouped others body helds marks bodies is count unmarked right =
    subst (λ (list : List Held). AllByRecursion (IsHeldRight bodies (Some (body ∷ grouped_in marks))) list) (sym is)
    (places_marked serial grouped 1 others helds bodies (body ∷ []) (body ∷ grouped_in marks) (omega (arith, count)) unmarked right refl
    (ap (λ (rest : List (List ℕ)). body ∷ rest) (members serial grouped others body helds marks is count unmarked)))

-- what a put has done, and what is done with the marks after it
pub record IsMade (result : Result ℕ LogFault) (old marks put new : BodyJournal) (serial others grouped : ℕ) (body : List ℕ) : Type 0 where
  pub unmarked : AreUnmarked old.held.items
  pub fullest : IsFullest body (others_in serial old.held.items) others
  pub count : grouped ≡ others + 1
  pub fits : old.tally.stored + grouped < 2 ^ 64
  pub marked_is : marks.held.items ≡ marked serial grouped 1 old.held.items
  pub stored_is : marks.tally.stored ≡ old.tally.stored
  pub grouped_is : marks.tally.grouped ≡ grouped
  pub log_is : marks.log ≡ old.log
  pub same : put ≡ record marks { log = put.log }
  pub new_log : new.log ≡ put.log
  pub new_journals : new.journals ≡ old.journals
  pub decided_is : IsDecidedBy result put.tally.stored put.tally.grouped put.held.items new.tally.stored new.tally.grouped new.held.items

decided_from : (result : Result ℕ LogFault) (old marks put new : BodyJournal) (serial others grouped : ℕ) (body : List ℕ) → (made : IsMade result old marks put new serial others grouped body)
    → IsDecidedBy result old.tally.stored grouped marks.held.items new.tally.stored new.tally.grouped new.held.items
decided_from result old marks put new serial others grouped body made =
    let stored : put.tally.stored ≡ old.tally.stored = ap (λ (room : BodyJournal). room.tally.stored) made.same ∙ made.stored_is in
    let count : put.tally.grouped ≡ grouped = ap (λ (room : BodyJournal). room.tally.grouped) made.same ∙ made.grouped_is in
    let held : put.held.items ≡ marks.held.items = ap (λ (room : BodyJournal). room.held.items) made.same in
    subst (λ (n : ℕ). IsDecidedBy result n grouped marks.held.items new.tally.stored new.tally.grouped new.held.items) stored
    (subst (λ (n : ℕ). IsDecidedBy result put.tally.stored n marks.held.items new.tally.stored new.tally.grouped new.held.items) count
    (subst (λ (list : List Held). IsDecidedBy result put.tally.stored put.tally.grouped list new.tally.stored new.tally.grouped new.held.items) held made.decided_is))

pub made_put : (x : ℕ) (old marks put new : BodyJournal) (serial others grouped : ℕ) (body : List ℕ) → IsMade (Ok x) old marks put new serial others grouped body
    → sizes_of put.log ≡ sizes_of marks.log ++ group_size (body ∷ grouped_in marks.held.items) ∷ [] → needs_mend put.log ≡ false → IsPut old new serial body
made_put x old marks put new serial others grouped body made sizes settled =
    let done : AreDecided true old.tally.stored grouped marks.held.items new.tally.stored new.tally.grouped new.held.items = decided_from (Ok x) old marks put new serial others grouped body made in
    record {
      others = others;
      fullest = made.fullest;
      stored = done.stored_is ∙ ap (λ (n : ℕ). old.tally.stored + n) made.count;
      fits = subst (λ (n : ℕ). old.tally.stored + n < 2 ^ 64) made.count made.fits;
      sizes = ap (λ (one : RecordLog). sizes_of one) made.new_log ∙ sizes
          ∙ ap (λ (one : RecordLog). sizes_of one ++ group_size (body ∷ grouped_in marks.held.items) ∷ []) made.log_is
          ∙ ap (λ (bodies : List (List ℕ)). sizes_of old.log ++ group_size (body ∷ bodies) ∷ []) (members serial grouped others body old.held.items marks.held.items made.marked_is made.count made.unmarked);
      settled = ap (λ (one : RecordLog). needs_mend one) made.new_log ∙ settled;
      held = done.held_is ∙ ap (λ (list : List Held). map (decided_held old.tally.stored true) list) (made.marked_is ∙ ap (λ (n : ℕ). marked serial n 1 old.held.items) made.count);
    }

put_room : (result : Result ℕ LogFault) (told : Option Told) (new : BodyJournal) (log : RecordLog) (last : ℕ) (bodies : List (List ℕ)) (body : List ℕ) (rest : List (List ℕ)) → new.log ≡ log → new.journals ≡ last
    → PutLeaves result told log last new.tally.stored new.tally.grouped new.held.items bodies (body ∷ rest) → StoresPut told new bodies body result
put_room (Ok x) told new log last bodies body rest same_log same_last leaves = (
  rest,
  subst (λ (one : RecordLog). StoresIn told one new.journals new.tally.stored new.tally.grouped new.held.items (bodies ++ body ∷ rest)) (sym same_log)
      (subst (λ (n : ℕ). StoresIn told log n new.tally.stored new.tally.grouped new.held.items (bodies ++ body ∷ rest)) (sym same_last) leaves),
)
put_room (Err e) told new log last bodies body rest same_log same_last leaves =
    subst (λ (one : RecordLog). StoresIn told one new.journals new.tally.stored new.tally.grouped new.held.items bodies) (sym same_log)
    (subst (λ (n : ℕ). StoresIn told log n new.tally.stored new.tally.grouped new.held.items bodies) (sym same_last) leaves)

pub made_stores : (result : Result ℕ LogFault) (told_old told_new : Option Told) (old marks put new : BodyJournal) (serial others grouped : ℕ) (body : List ℕ) (bodies : List (List ℕ))
    → IsMade result old marks put new serial others grouped body → needs_mend old.log ≡ false → Stores told_old old bodies
    → ChangesOnly (file_of marks.log) told_old told_new → file_of put.log ≡ file_of marks.log
    → ((groups : List (List (List ℕ))) → CarriesItems group_bytes marks.log told_old groups None → IsPutOf group_bytes put.log told_new groups (body ∷ grouped_in marks.held.items) result)
    → StoresPut told_new new bodies body result
made_stores result told_old told_new old marks put new serial others grouped body bodies made settled stores only file carries =
    let within : group_size (body ∷ grouped_in marks.held.items) ≤ 2 ^ 30 =
    members_within serial grouped others body old.held.items marks.held.items made.marked_is made.count made.unmarked made.fullest in
    let many : others ≡ length (grouped_in marks.held.items) = members_count serial grouped others body old.held.items marks.held.items made.marked_is made.count made.unmarked made.fullest in
    put_room result told_new new put.log old.journals bodies body (grouped_in marks.held.items) made.new_log made.new_journals
    (put_stores result told_old told_new old.log put.log old.journals old.tally.stored old.tally.grouped new.tally.stored new.tally.grouped grouped old.held.items marks.held.items new.held.items bodies
    (body ∷ grouped_in marks.held.items) settled stores (group_is body (grouped_in marks.held.items) within) (omega (arith, made.count, many)) made.fits
    (λ right. members_right serial grouped others body old.held.items marks.held.items bodies made.marked_is made.count made.unmarked right)
    (subst (λ (one : RecordLog). ChangesOnly (file_of one) told_old told_new) made.log_is only)
    (file ∙ ap (λ (one : RecordLog). file_of one) made.log_is)
    (decided_from result old marks put new serial others grouped body made)
    (λ groups carried. carries groups (subst (λ (one : RecordLog). CarriesItems group_bytes one told_old groups None) (sym made.log_is) carried)))

pub made_keeps : (result : Result ℕ LogFault) (told_old told_new : Option Told) (old marks put new : BodyJournal) (serial others grouped : ℕ) (body : List ℕ) (bodies : List (List ℕ))
    → IsMade result old marks put new serial others grouped body → needs_mend old.log ≡ false → Stores told_old old bodies
    → ((groups : List (List (List ℕ))) → CarriesItems group_bytes marks.log told_old groups None
    → MomentsHave (file_of marks.log) (LogsItems group_bytes (Decides groups (Some (body ∷ grouped_in marks.held.items)))) told_old told_new)
    → MomentsKeep bodies told_old told_new
made_keeps result told_old told_new old marks put new serial others grouped body bodies made settled stores leaves =
    let within : group_size (body ∷ grouped_in marks.held.items) ≤ 2 ^ 30 =
    members_within serial grouped others body old.held.items marks.held.items made.marked_is made.count made.unmarked made.fullest in
    put_keeps told_old told_new old.log old.journals old.tally.stored old.tally.grouped old.held.items bodies (body ∷ grouped_in marks.held.items) settled
    (group_is body (grouped_in marks.held.items) within) stores
    (subst (λ (one : RecordLog). (groups : List (List (List ℕ))) → CarriesItems group_bytes one told_old groups None
    → MomentsHave (file_of one) (LogsItems group_bytes (Decides groups (Some (body ∷ grouped_in marks.held.items)))) told_old told_new) made.log_is leaves)

queue_unless : (failed : Bool) (stored grouped : ℕ) (helds marks now_helds : List Held) (now_stored now_grouped : ℕ) → queue_in marks ≡ queue_in helds
    → AreDecidedUnless failed stored grouped marks now_stored now_grouped now_helds → queue_in now_helds ≡ queue_in helds
queue_unless true stored grouped helds marks now_helds now_stored now_grouped same done = ap (λ (list : List Held). queue_in list) done.held_is ∙ same
queue_unless false stored grouped helds marks now_helds now_stored now_grouped same done =
    ap (λ (list : List Held). queue_in list) done.held_is ∙ queue_decided stored false marks ∙ queue_left_out marks ∙ same

pub made_queue : (fault : LogFault) (old marks put new : BodyJournal) (serial others grouped : ℕ) (body : List ℕ) → IsMade (Err fault) old marks put new serial others grouped body
    → queue_in new.held.items ≡ queue_in old.held.items
made_queue fault old marks put new serial others grouped body made =
    queue_unless (is_failed fault) old.tally.stored grouped old.held.items marks.held.items new.held.items new.tally.stored new.tally.grouped
    (ap (λ (list : List Held). queue_in list) made.marked_is ∙ queue_marked serial grouped 1 old.held.items)
    (decided_from (Err fault) old marks put new serial others grouped body made)

-- a body that is stored already
pub known_stores : (told : Option Told) (room : BodyJournal) (serial : ℕ) (body : List ℕ) (before number : ℕ) (helds : List Held) (bodies : List (List ℕ))
    → room.tally.stored + room.tally.grouped < 2 ^ 64 → Stores told room bodies → HasStored room.held.items serial body before → helds ≡ filter (is_kept serial) room.held.items
    → number ≡ number_behind before → (more : List (List ℕ)) × with_held room helds told (bodies ++ more) × IsAt (bodies ++ more) number body
known_stores told room serial body before number helds bodies fits stores has is numbered = (
  [],
  subst (λ (all : List (List ℕ)). with_held room helds told all) (sym (append-nil bodies)) (forgotten_stores told room serial helds bodies is stores),
  subst (λ (all : List (List ℕ)). IsAt all number body) (sym (append-nil bodies)) (at_stored told room bodies serial body before number fits stores has numbered),
)

pub forgotten_queue : (serial : ℕ) (helds now_helds : List Held) → now_helds ≡ filter (is_kept serial) helds → queue_in now_helds ≡ queue_without serial (queue_in helds)
forgotten_queue serial helds now_helds is = ap (λ (list : List Held). queue_in list) is ∙ queue_kept serial helds

pub made_has : (result : Result ℕ LogFault) (old marks put new : BodyJournal) (serial others grouped : ℕ) (body : List ℕ) → IsMade result old marks put new serial others grouped body
    → (other : ℕ) (bytes : List ℕ) (before : ℕ) → HasStored old.held.items other bytes before → HasStored new.held.items other bytes before
made_has result old marks put new serial others grouped body made other bytes before has =
    after_has result old.tally.stored grouped marks.held.items new.held.items new.tally.stored new.tally.grouped other bytes before
    (decided_from result old marks put new serial others grouped body made)
    (subst (λ (list : List Held). HasStored list other bytes before) (sym made.marked_is) (marked_has serial grouped 1 old.held.items other bytes before has))

pub forgotten_has : (serial : ℕ) (helds now_helds : List Held) (other : ℕ) (bytes : List ℕ) (before : ℕ) → now_helds ≡ filter (is_kept serial) helds → other ≢ serial
    → HasStored helds other bytes before → HasStored now_helds other bytes before
forgotten_has serial helds now_helds other bytes before is differs has =
    subst (λ (list : List Held). HasStored list other bytes before) (sym is) (kept_has serial helds other bytes before differs has)

pub flushed : (old new after : BodyJournal) (serial : ℕ) (body : List ℕ) (before number : ℕ) → IsStoredBy old new serial body before → number ≡ number_behind before
    → after.held.items ≡ filter (is_kept serial) new.held.items → after.log ≡ new.log → after.tally.stored ≡ new.tally.stored → IsFlushed old after serial body number
flushed old new after serial body before number done numbered held same_log same_stored =
    record {
      is_in = done.is_in;
      mended = done.mended;
      taken = λ is_true other bytes place differs has.
          forgotten_has serial new.held.items after.held.items other bytes (min (old.tally.stored + place) (2 ^ 64 - 1)) held differs (done.taken is_true other bytes place has);
      others = done.others;
      fullest = done.fullest;
      number_is = omega (arith, numbered, done.fits, done.before_is);
      stored = same_stored ∙ done.stored;
      sizes = ap (λ (one : RecordLog). sizes_of one) same_log ∙ done.sizes;
      settled = ap (λ (one : RecordLog). needs_mend one) same_log ∙ done.settled;
      queue = ap (λ (list : List Held). queue_in list) held ∙ done.queue;
      members = λ place one below found.
          subst (λ (list : List Held). HasStored list one.serial one.bytes (stored_after old done.is_in + (place + 1))) (sym held) (done.members place one below found);
    }
