-- What a device stores after a mend and after a put.
use Rattle.std.proofs.Common.{◌≡◌, ◌≢◌, ℕ, ◌+◌, ◌-◌, ◌*◌, ◌<◌, ◌^◌, List, [], ◌∷◌, ◌++◌, length, map, Bool, true, false, cond, Option, Some, None, IfSome, Result, Ok, Err, slice_get, refl, sym, ◌∙◌, ap, subst, arith, inl, inr}
use Rattle.std.proofs.lemmas.List.{append_assoc, append-nil, length-append}
use Rattle.std.proofs.lemmas.List.Concat.{flat_map-append}
use Rattle.std.specs.List.{AllByRecursion}
use Rattle.disk_core.specs.Moments.{Told, State, SameBut}
use Rattle.disk_core.proofs.Going.{goes_further, goes_weaker}
use Rattle.record_log.specs.Devices.{MomentsHave, ChangesOnly}
use Rattle.record_log.specs.Items.{with_one, Decides, CarriesItems, LogsItems, IsPutOf}
use Rattle.record_log.specs.Logs.{file_of, needs_mend, is_undecided}
use Rattle.record_log.specs.Sizes.{undecided_size}
use Rattle.record_log.specs.declared.extent.Stage.{Stage as LogStage}
use Rattle.record_log.specs.declared.extent.Stage.TheVariants as stage
use Rattle.record_log.specs.declared.fault.LogFault.{LogFault}
use Rattle.record_log.specs.declared.fault.LogFault.TheVariants.{NoMemory, Failed, NeedsMend, Full, BadRecord}
use Rattle.record_log.specs.declared.log.RecordLog.{RecordLog}
use Rattle.body_journal.specs.declared.held.Held.{Held}
use Rattle.body_journal.specs.Groups.{IsGroup, group_bytes}
use Rattle.body_journal.specs.declared.held.Stage.{Stage as HeldStage}
use Rattle.body_journal.specs.Held.{bytes_of, decided_held, HasStored}
use Rattle.body_journal.specs.Journals.{HasBodies, LeavesBodies, bodies_in, bodies_upto}
use Rattle.body_journal.specs.Marks.{AreDecided, AreLeft, IsDecidedBy}
use Rattle.body_journal.specs.Stores.{IsStoring, StoresIn, StandsRight, IsHeldRight, MomentsKeep}
use Rattle.body_journal.proofs.Families.{IsGrown, moments_leave, same_others, kept_still, fresh_still}
use Rattle.body_journal.proofs.Lists.{all_append}
use Rattle.body_journal.proofs.Marking.{all_in, all_out}

-- ---- a log that is settled

stage_none : (s : LogStage) (size : ℕ) → is_undecided s ≡ false → undecided_size s ≡ Some size → ⊥
stage_none stage.Settled size none some = let no_such : None ≡ Some size = some in cc
stage_none (stage.Begun n) size none some = let no_such : true ≡ false = none in cc
stage_none (stage.Opening n) size none some = let no_such : true ≡ false = none in cc

settled_waiting : (log : RecordLog) (told : Told) (groups : List (List (List ℕ))) (waiting : Option (List (List ℕ))) → needs_mend log ≡ false
    → CarriesItems group_bytes log (Some told) groups waiting → waiting ≡ None
settled_waiting log told groups None settled carried = refl
settled_waiting log told groups (Some group) settled carried = absurd (stage_none log.extent.stage (length (group_bytes group)) settled carried.size)

carried_settled : (log : RecordLog) (told : Told) (groups : List (List (List ℕ))) → CarriesItems group_bytes log (Some told) groups None → needs_mend log ≡ false
carried_settled log told groups carried = ap is_undecided carried.has.settled

-- ---- bodies

pub bodies_one_more : (upto : List (List ℕ)) (groups : List (List (List ℕ))) (group : List (List ℕ))
    → (upto ++ bodies_in groups) ++ group ≡ upto ++ bodies_in (groups ++ group ∷ [])
bodies_one_more upto groups group =
    append_assoc upto (bodies_in groups) group
    ∙ ap (λ (more : List (List ℕ)). upto ++ (bodies_in groups ++ more)) (sym (append-nil group))
    ∙ ap (λ (bodies : List (List ℕ)). upto ++ bodies) (sym (flat_map-append (λ (one : List (List ℕ)). one) groups (group ∷ [])))

-- ---- moments

pub decides_grown : (groups : List (List (List ℕ))) (waiting : Option (List (List ℕ))) → AllByRecursion IsGroup groups → IfSome waiting IsGroup → (found : List (List (List ℕ)))
    → Decides groups waiting found → IsGrown groups found
decides_grown groups waiting are coming found (inl same) =
    record { extra = []; found_is = same ∙ sym (append-nil groups); are = subst (AllByRecursion IsGroup) (sym same) are }
decides_grown groups None are coming found (inr same) =
    record { extra = []; found_is = same ∙ sym (append-nil groups); are = subst (AllByRecursion IsGroup) (sym same) are }
decides_grown groups (Some group) are coming found (inr same) =
    record { extra = group ∷ []; found_is = same; are = subst (AllByRecursion IsGroup) (sym same) (all_append IsGroup groups (group ∷ []) are (coming, tt)) }

-- a mend
pub mend_keeps : (old new : Option Told) (log : RecordLog) (last stored grouped : ℕ) (helds : List Held) (bodies : List (List ℕ)) → StoresIn old log last stored grouped helds bodies
    → ((groups : List (List (List ℕ))) (waiting : Option (List (List ℕ))) → CarriesItems group_bytes log old groups waiting
    → MomentsHave (file_of log) (LogsItems group_bytes (Decides groups waiting)) old new)
    → MomentsKeep bodies old new
mend_keeps None new log last stored grouped helds bodies stores leaves = absurd stores
mend_keeps (Some old) new log last stored grouped helds bodies stores leaves =
    subst (λ (all : List (List ℕ)). MomentsKeep all (Some old) new) (sym stores.bodies_are)
    (moments_leave stores.older last stores.groups (Decides stores.groups stores.waiting) old new (file_of log) stores.place stores.few stores.kept stores.fresh
    (decides_grown stores.groups stores.waiting stores.are stores.coming) stores.file (leaves stores.groups stores.waiting stores.carried))

-- a put of a log that is settled
pub put_keeps : (old new : Option Told) (log : RecordLog) (last stored grouped : ℕ) (helds : List Held) (bodies group : List (List ℕ)) → needs_mend log ≡ false → IsGroup group
    → StoresIn old log last stored grouped helds bodies
    → ((groups : List (List (List ℕ))) → CarriesItems group_bytes log old groups None → MomentsHave (file_of log) (LogsItems group_bytes (Decides groups (Some group))) old new)
    → MomentsKeep bodies old new
put_keeps None new log last stored grouped helds bodies group settled is_group stores leaves = absurd stores
put_keeps (Some old) new log last stored grouped helds bodies group settled is_group stores leaves =
    subst (λ (all : List (List ℕ)). MomentsKeep all (Some old) new) (sym stores.bodies_are)
    (moments_leave stores.older last stores.groups (Decides stores.groups (Some group)) old new (file_of log) stores.place stores.few stores.kept stores.fresh
    (decides_grown stores.groups (Some group) stores.are is_group) stores.file
    (leaves stores.groups
    (subst (λ (waiting : Option (List (List ℕ))). CarriesItems group_bytes log (Some old) stores.groups waiting) (settled_waiting log old stores.groups stores.waiting settled stores.carried) stores.carried)))

leaves_fewer : (bodies more : List (List ℕ)) (state : State) → LeavesBodies (bodies ++ more) state → LeavesBodies bodies state
leaves_fewer bodies more state leaves images is_images =
    let found : (rest : List (List ℕ)) × HasBodies images ((bodies ++ more) ++ rest) = leaves images is_images in
    (more ++ found.0, subst (HasBodies images) (append_assoc bodies more found.0) found.1)

weaker_keep : (bodies more : List (List ℕ)) (old new : Option Told) → MomentsKeep (bodies ++ more) old new → MomentsKeep bodies old new
weaker_keep bodies more None None keep = tt
weaker_keep bodies more None (Some new) keep = absurd keep
weaker_keep bodies more (Some old) None keep = absurd keep
weaker_keep bodies more (Some old) (Some new) keep = goes_weaker (LeavesBodies (bodies ++ more)) (LeavesBodies bodies) (leaves_fewer bodies more) old new keep

-- two calls, one after the other
pub keep_further : (bodies more : List (List ℕ)) (old between new : Option Told) → MomentsKeep bodies old between → MomentsKeep (bodies ++ more) between new → MomentsKeep bodies old new
keep_further bodies more None None new first second = weaker_keep bodies more None new second
keep_further bodies more None (Some between) new first second = absurd first
keep_further bodies more (Some old) None new first second = absurd first
keep_further bodies more (Some old) (Some between) None first second = absurd second
keep_further bodies more (Some old) (Some between) (Some new) first second =
    goes_further (LeavesBodies bodies) old between new first (goes_weaker (LeavesBodies (bodies ++ more)) (LeavesBodies bodies) (leaves_fewer bodies more) between new second)

-- ---- what is stored

-- the last journal has changed, and no other file
next : (old new : Told) (log after : RecordLog) (last stored grouped : ℕ) (helds : List Held) (bodies : List (List ℕ)) → (stores : IsStoring old log last stored grouped helds bodies)
    → SameBut (2 * last) old.now new.now → file_of after ≡ file_of log → (groups : List (List (List ℕ))) (waiting : Option (List (List ℕ))) (now_stored now_grouped : ℕ)
    (now_helds : List Held) (now_bodies : List (List ℕ)) → CarriesItems group_bytes after (Some new) groups waiting → AllByRecursion IsGroup groups → IfSome waiting IsGroup
    → now_bodies ≡ bodies_upto stores.older (last - 1) ++ bodies_in groups → now_stored ≡ length now_bodies → IfSome waiting (λ group. now_grouped ≡ length group)
    → AllByRecursion (IsHeldRight now_bodies waiting) now_helds → IsStoring new after last now_stored now_grouped now_helds now_bodies
next old new log after last stored grouped helds bodies stores same file groups waiting now_stored now_grouped now_helds now_bodies carried are coming bodies_are count coming_count held =
    record {
      older = stores.older;
      groups = groups;
      waiting = waiting;
      file = file ∙ stores.file;
      place = stores.place;
      few = stores.few;
      kept = kept_still stores.older last old.now new.now same stores.kept;
      carried = carried;
      fresh = fresh_still last old.now new.now same stores.fresh;
      are = are;
      coming = coming;
      bodies_are = bodies_are;
      count = count;
      coming_count = coming_count;
      held = held;
    }

same_last : (file last : ℕ) (old new : Told) → file ≡ 2 * last → ChangesOnly file (Some old) (Some new) → SameBut (2 * last) old.now new.now
same_last file last old new is others = subst (λ (n : ℕ). SameBut n old.now new.now) is (same_others file (λ image. Unit {0}) old new others)

-- ---- a mend

mend_out : (old new : Told) (log after : RecordLog) (last stored grouped now_grouped : ℕ) (helds : List Held) (bodies : List (List ℕ)) → (stores : IsStoring old log last stored grouped helds bodies)
    → SameBut (2 * last) old.now new.now → file_of after ≡ file_of log → CarriesItems group_bytes after (Some new) stores.groups None
    → IsStoring new after last stored now_grouped (map (decided_held stored false) helds) bodies
mend_out old new log after last stored grouped now_grouped helds bodies stores same file carried =
    next old new log after last stored grouped helds bodies stores same file stores.groups None stored now_grouped (map (decided_held stored false) helds) bodies carried stores.are tt stores.bodies_are
    stores.count tt (all_out bodies stores.waiting stored helds stores.held)

mend_in : (old new : Told) (log after : RecordLog) (last stored grouped now_grouped : ℕ) (helds : List Held) (bodies : List (List ℕ)) (waiting : Option (List (List ℕ)))
    → (stores : IsStoring old log last stored grouped helds bodies) → stores.waiting ≡ waiting → stored + grouped < 2 ^ 64 → SameBut (2 * last) old.now new.now → file_of after ≡ file_of log
    → needs_mend log ≢ false → CarriesItems group_bytes after (Some new) (with_one stores.groups waiting) None
    → (more : List (List ℕ)) × IsStoring new after last (stored + grouped) now_grouped (map (decided_held stored true) helds) (bodies ++ more)
mend_in old new log after last stored grouped now_grouped helds bodies None stores is fits same file needs carried =
    absurd (needs (carried_settled log old stores.groups (subst (λ (waiting : Option (List (List ℕ))). CarriesItems group_bytes log (Some old) stores.groups waiting) is stores.carried)))
mend_in old new log after last stored grouped now_grouped helds bodies (Some group) stores is fits same file needs carried =
    let is_group : IsGroup group = subst (λ (waiting : Option (List (List ℕ))). IfSome waiting IsGroup) is stores.coming in
    let count : grouped ≡ length group = subst (λ (waiting : Option (List (List ℕ))). IfSome waiting (λ one. grouped ≡ length one)) is stores.coming_count in
    let right : AllByRecursion (IsHeldRight bodies (Some group)) helds = subst (λ (waiting : Option (List (List ℕ))). AllByRecursion (IsHeldRight bodies waiting) helds) is stores.held in (
      group,
      next old new log after last stored grouped helds bodies stores same file (stores.groups ++ group ∷ []) None (stored + grouped) now_grouped (map (decided_held stored true) helds) (bodies ++ group) carried
          (all_append IsGroup stores.groups (group ∷ []) stores.are (is_group, tt)) tt
          (ap (λ (all : List (List ℕ)). all ++ group) stores.bodies_are ∙ bodies_one_more (bodies_upto stores.older (last - 1)) stores.groups group)
          (omega (arith, stores.count, count, length-append bodies group)) tt
          (all_in bodies group stored helds stores.count (omega (arith, count, fits)) right),
    )

true_false : true ≡ false → ⊥
true_false is = cc

pub mend_stores : (is_in : Bool) (old new : Option Told) (log after : RecordLog) (last stored grouped now_stored now_grouped : ℕ) (helds now_helds : List Held) (bodies : List (List ℕ))
    → stored + grouped < 2 ^ 64 → StoresIn old log last stored grouped helds bodies
    → ((groups : List (List (List ℕ))) (waiting : Option (List (List ℕ))) → CarriesItems group_bytes log old groups waiting → CarriesItems group_bytes after new (cond is_in (with_one groups waiting) groups) None)
    → ChangesOnly (file_of log) old new → file_of after ≡ file_of log → (needs_mend log ≡ false → is_in ≡ false)
    → now_stored ≡ cond is_in (stored + grouped) stored → now_helds ≡ map (decided_held stored is_in) helds
    → (more : List (List ℕ)) × StoresIn new after last now_stored now_grouped now_helds (bodies ++ more)
mend_stores is_in None new log after last stored grouped now_stored now_grouped helds now_helds bodies fits stores carries others file needed stored_is held_is = absurd stores
mend_stores is_in (Some old) None log after last stored grouped now_stored now_grouped helds now_helds bodies fits stores carries others file needed stored_is held_is = absurd others
mend_stores true (Some old) (Some new) log after last stored grouped now_stored now_grouped helds now_helds bodies fits stores carries others file needed stored_is held_is =
    let found : (more : List (List ℕ)) × IsStoring new after last (stored + grouped) now_grouped (map (decided_held stored true) helds) (bodies ++ more) =
    mend_in old new log after last stored grouped now_grouped helds bodies stores.waiting stores refl fits (same_last (file_of log) last old new stores.file others) file (λ settled. true_false (needed settled))
    (carries stores.groups stores.waiting stores.carried) in (
      found.0,
      subst (λ (n : ℕ). IsStoring new after last n now_grouped now_helds (bodies ++ found.0)) (sym stored_is)
          (subst (λ (hs : List Held). IsStoring new after last (stored + grouped) now_grouped hs (bodies ++ found.0)) (sym held_is) found.1),
    )
mend_stores false (Some old) (Some new) log after last stored grouped now_stored now_grouped helds now_helds bodies fits stores carries others file needed stored_is held_is = (
  [],
  subst (λ (all : List (List ℕ)). IsStoring new after last now_stored now_grouped now_helds all) (sym (append-nil bodies))
      (subst (λ (n : ℕ). IsStoring new after last n now_grouped now_helds bodies) (sym stored_is)
      (subst (λ (hs : List Held). IsStoring new after last stored now_grouped hs bodies) (sym held_is)
      (mend_out old new log after last stored grouped now_grouped helds bodies stores (same_last (file_of log) last old new stores.file others) file (carries stores.groups stores.waiting stores.carried)))),
)

still : (old : Told) (new : Option Told) (log after : RecordLog) (last stored grouped : ℕ) (helds : List Held) (bodies : List (List ℕ)) → (stores : IsStoring old log last stored grouped helds bodies)
    → ChangesOnly (file_of log) (Some old) new → file_of after ≡ file_of log → CarriesItems group_bytes after new stores.groups stores.waiting → StoresIn new after last stored grouped helds bodies
still old None log after last stored grouped helds bodies stores others file carried = absurd others
still old (Some new) log after last stored grouped helds bodies stores others file carried =
    next old new log after last stored grouped helds bodies stores (same_last (file_of log) last old new stores.file others) file stores.groups stores.waiting stored grouped helds bodies carried
    stores.are stores.coming stores.bodies_are stores.count stores.coming_count stores.held

-- a mend that failed
pub still_stores : (old new : Option Told) (log after : RecordLog) (last stored grouped : ℕ) (helds : List Held) (bodies : List (List ℕ)) → StoresIn old log last stored grouped helds bodies
    → ((groups : List (List (List ℕ))) (waiting : Option (List (List ℕ))) → CarriesItems group_bytes log old groups waiting → CarriesItems group_bytes after new groups waiting)
    → ChangesOnly (file_of log) old new → file_of after ≡ file_of log → StoresIn new after last stored grouped helds bodies
still_stores None new log after last stored grouped helds bodies stores carries others file = absurd stores
still_stores (Some old) new log after last stored grouped helds bodies stores carries others file =
    still old new log after last stored grouped helds bodies stores others file (carries stores.groups stores.waiting stores.carried)

-- ---- the bodies that are held change, and nothing else

pub held_stores : (told : Option Told) (log : RecordLog) (last stored grouped : ℕ) (helds now_helds : List Held) (bodies : List (List ℕ))
    → ((waiting : Option (List (List ℕ))) → AllByRecursion (IsHeldRight bodies waiting) helds → AllByRecursion (IsHeldRight bodies waiting) now_helds)
    → StoresIn told log last stored grouped helds bodies → StoresIn told log last stored grouped now_helds bodies
held_stores None log last stored grouped helds now_helds bodies keeps stores = stores
held_stores (Some told) log last stored grouped helds now_helds bodies keeps stores =
    record {
      older = stores.older;
      groups = stores.groups;
      waiting = stores.waiting;
      file = stores.file;
      place = stores.place;
      few = stores.few;
      kept = stores.kept;
      carried = stores.carried;
      fresh = stores.fresh;
      are = stores.are;
      coming = stores.coming;
      bodies_are = stores.bodies_are;
      count = stores.count;
      coming_count = stores.coming_count;
      held = keeps stores.waiting stores.held;
    }

pub stored_count : (told : Option Told) (log : RecordLog) (last stored grouped : ℕ) (helds : List Held) (bodies : List (List ℕ))
    → StoresIn told log last stored grouped helds bodies → stored ≡ length bodies
stored_count None log last stored grouped helds bodies stores = absurd stores
stored_count (Some told) log last stored grouped helds bodies stores = stores.count

right_stored : (helds : List Held) (serial : ℕ) (body : List ℕ) (before : ℕ) (bodies : List (List ℕ)) (waiting : Option (List (List ℕ))) → AllByRecursion (IsHeldRight bodies waiting) helds
    → HasStored helds serial body before → slice_get bodies before ≡ Some body
right_stored [] serial body before bodies waiting all has = absurd has
right_stored (held ∷ helds) serial body before bodies waiting all (inl is) =
    subst (λ (bytes : List ℕ). slice_get bodies before ≡ Some bytes) is.bytes (subst (λ (stage : HeldStage). StandsRight bodies waiting stage (bytes_of held)) is.stage all.0)
right_stored (held ∷ helds) serial body before bodies waiting all (inr has) = right_stored helds serial body before bodies waiting all.1 has

-- a body that is stored stands behind so many others
pub stored_at : (told : Option Told) (log : RecordLog) (last stored grouped : ℕ) (helds : List Held) (bodies : List (List ℕ)) (serial : ℕ) (body : List ℕ) (before : ℕ)
    → StoresIn told log last stored grouped helds bodies → HasStored helds serial body before → slice_get bodies before ≡ Some body
stored_at None log last stored grouped helds bodies serial body before stores has = absurd stores
stored_at (Some told) log last stored grouped helds bodies serial body before stores has = right_stored helds serial body before bodies stores.waiting stores.held has

-- ---- a put

-- after an `Ok` the group is stored, after `Failed` it is undecided, and else nothing has changed
abbrev pub PutLeaves : Result ℕ LogFault → Option Told → RecordLog → ℕ → ℕ → ℕ → List Held → List (List ℕ) → List (List ℕ) → Type 0
PutLeaves (Ok x) told log last stored grouped helds bodies group = StoresIn told log last stored grouped helds (bodies ++ group)
PutLeaves (Err e) told log last stored grouped helds bodies group = StoresIn told log last stored grouped helds bodies

put_out : (old : Told) (new : Option Told) (log after : RecordLog) (last stored grouped now_stored now_grouped mark_grouped : ℕ) (helds marks now_helds : List Held) (bodies group : List (List ℕ))
    → (stores : IsStoring old log last stored grouped helds bodies) → AllByRecursion (IsHeldRight bodies (Some group)) marks → ChangesOnly (file_of log) (Some old) new → file_of after ≡ file_of log
    → AreDecided false stored mark_grouped marks now_stored now_grouped now_helds → CarriesItems group_bytes after new stores.groups None
    → StoresIn new after last now_stored now_grouped now_helds bodies
put_out old None log after last stored grouped now_stored now_grouped mark_grouped helds marks now_helds bodies group stores right others file done carried = absurd others
put_out old (Some new) log after last stored grouped now_stored now_grouped mark_grouped helds marks now_helds bodies group stores right others file done carried =
    next old new log after last stored grouped helds bodies stores (same_last (file_of log) last old new stores.file others) file stores.groups None now_stored now_grouped now_helds bodies carried
    stores.are tt stores.bodies_are (done.stored_is ∙ stores.count) tt
    (subst (AllByRecursion (IsHeldRight bodies None)) (sym done.held_is) (all_out bodies (Some group) stored marks right))

put_failed : (old : Told) (new : Option Told) (log after : RecordLog) (last stored grouped now_stored now_grouped mark_grouped : ℕ) (helds marks now_helds : List Held) (bodies group : List (List ℕ))
    → (stores : IsStoring old log last stored grouped helds bodies) → IsGroup group → mark_grouped ≡ length group → AllByRecursion (IsHeldRight bodies (Some group)) marks
    → ChangesOnly (file_of log) (Some old) new → file_of after ≡ file_of log
    → AreLeft stored mark_grouped marks now_stored now_grouped now_helds → CarriesItems group_bytes after new stores.groups (Some group)
    → StoresIn new after last now_stored now_grouped now_helds bodies
put_failed old None log after last stored grouped now_stored now_grouped mark_grouped helds marks now_helds bodies group stores is_group count right others file done carried = absurd others
put_failed old (Some new) log after last stored grouped now_stored now_grouped mark_grouped helds marks now_helds bodies group stores is_group count right others file done carried =
    next old new log after last stored grouped helds bodies stores (same_last (file_of log) last old new stores.file others) file stores.groups (Some group) now_stored now_grouped now_helds bodies carried
    stores.are is_group stores.bodies_are (done.stored_is ∙ stores.count) (done.grouped_is ∙ count)
    (subst (AllByRecursion (IsHeldRight bodies (Some group))) (sym done.held_is) right)

put_in : (old : Told) (new : Option Told) (log after : RecordLog) (last stored grouped now_stored now_grouped mark_grouped : ℕ) (helds marks now_helds : List Held) (bodies group : List (List ℕ))
    → (stores : IsStoring old log last stored grouped helds bodies) → IsGroup group → mark_grouped ≡ length group → stored + mark_grouped < 2 ^ 64
    → AllByRecursion (IsHeldRight bodies (Some group)) marks → ChangesOnly (file_of log) (Some old) new → file_of after ≡ file_of log
    → AreDecided true stored mark_grouped marks now_stored now_grouped now_helds → CarriesItems group_bytes after new (stores.groups ++ group ∷ []) None
    → StoresIn new after last now_stored now_grouped now_helds (bodies ++ group)
put_in old None log after last stored grouped now_stored now_grouped mark_grouped helds marks now_helds bodies group stores is_group count fits right others file done carried = absurd others
put_in old (Some new) log after last stored grouped now_stored now_grouped mark_grouped helds marks now_helds bodies group stores is_group count fits right others file done carried =
    next old new log after last stored grouped helds bodies stores (same_last (file_of log) last old new stores.file others) file (stores.groups ++ group ∷ []) None now_stored now_grouped now_helds (bodies ++ group) carried
    (all_append IsGroup stores.groups (group ∷ []) stores.are (is_group, tt)) tt
    (ap (λ (all : List (List ℕ)). all ++ group) stores.bodies_are ∙ bodies_one_more (bodies_upto stores.older (last - 1)) stores.groups group)
    (omega (arith, done.stored_is, stores.count, count, length-append bodies group)) tt
    (subst (AllByRecursion (IsHeldRight (bodies ++ group) None)) (sym done.held_is) (all_in bodies group stored marks stores.count (omega (arith, count, fits)) right))

put_by : (result : Result ℕ LogFault) (old : Told) (new : Option Told) (log after : RecordLog) (last stored grouped now_stored now_grouped mark_grouped : ℕ) (helds marks now_helds : List Held) (bodies group : List (List ℕ))
    → (stores : IsStoring old log last stored grouped helds bodies) → IsGroup group → mark_grouped ≡ length group → stored + mark_grouped < 2 ^ 64
    → AllByRecursion (IsHeldRight bodies (Some group)) marks → ChangesOnly (file_of log) (Some old) new → file_of after ≡ file_of log
    → IsDecidedBy result stored mark_grouped marks now_stored now_grouped now_helds → IsPutOf group_bytes after new stores.groups group result
    → PutLeaves result new after last now_stored now_grouped now_helds bodies group
put_by (Ok x) old new log after last stored grouped now_stored now_grouped mark_grouped helds marks now_helds bodies group stores is_group count fits right others file done carried =
    put_in old new log after last stored grouped now_stored now_grouped mark_grouped helds marks now_helds bodies group stores is_group count fits right others file done carried
put_by (Err Failed) old new log after last stored grouped now_stored now_grouped mark_grouped helds marks now_helds bodies group stores is_group count fits right others file done carried =
    put_failed old new log after last stored grouped now_stored now_grouped mark_grouped helds marks now_helds bodies group stores is_group count right others file done carried
put_by (Err NoMemory) old new log after last stored grouped now_stored now_grouped mark_grouped helds marks now_helds bodies group stores is_group count fits right others file done carried =
    put_out old new log after last stored grouped now_stored now_grouped mark_grouped helds marks now_helds bodies group stores right others file done carried
put_by (Err NeedsMend) old new log after last stored grouped now_stored now_grouped mark_grouped helds marks now_helds bodies group stores is_group count fits right others file done carried =
    put_out old new log after last stored grouped now_stored now_grouped mark_grouped helds marks now_helds bodies group stores right others file done carried
put_by (Err Full) old new log after last stored grouped now_stored now_grouped mark_grouped helds marks now_helds bodies group stores is_group count fits right others file done carried =
    put_out old new log after last stored grouped now_stored now_grouped mark_grouped helds marks now_helds bodies group stores right others file done carried
put_by (Err (BadRecord at)) old new log after last stored grouped now_stored now_grouped mark_grouped helds marks now_helds bodies group stores is_group count fits right others file done carried =
    put_out old new log after last stored grouped now_stored now_grouped mark_grouped helds marks now_helds bodies group stores right others file done carried

unwaiting : (told : Told) (log : RecordLog) (last stored grouped : ℕ) (helds : List Held) (bodies : List (List ℕ)) → needs_mend log ≡ false → (stores : IsStoring told log last stored grouped helds bodies)
    → stores.waiting ≡ None
unwaiting told log last stored grouped helds bodies settled stores = settled_waiting log told stores.groups stores.waiting settled stores.carried

pub put_stores : (result : Result ℕ LogFault) (old new : Option Told) (log after : RecordLog) (last stored grouped now_stored now_grouped mark_grouped : ℕ) (helds marks now_helds : List Held)
    (bodies group : List (List ℕ)) → needs_mend log ≡ false → StoresIn old log last stored grouped helds bodies → IsGroup group → mark_grouped ≡ length group → stored + mark_grouped < 2 ^ 64
    → (AllByRecursion (IsHeldRight bodies None) helds → AllByRecursion (IsHeldRight bodies (Some group)) marks)
    → ChangesOnly (file_of log) old new → file_of after ≡ file_of log → IsDecidedBy result stored mark_grouped marks now_stored now_grouped now_helds
    → ((groups : List (List (List ℕ))) → CarriesItems group_bytes log old groups None → IsPutOf group_bytes after new groups group result)
    → PutLeaves result new after last now_stored now_grouped now_helds bodies group
put_stores result None new log after last stored grouped now_stored now_grouped mark_grouped helds marks now_helds bodies group settled stores is_group count fits right others file done carries = absurd stores
put_stores result (Some old) new log after last stored grouped now_stored now_grouped mark_grouped helds marks now_helds bodies group settled stores is_group count fits right others file done carries =
    let none : stores.waiting ≡ None = unwaiting old log last stored grouped helds bodies settled stores in
    put_by result old new log after last stored grouped now_stored now_grouped mark_grouped helds marks now_helds bodies group stores is_group count fits
    (right (subst (λ (waiting : Option (List (List ℕ))). AllByRecursion (IsHeldRight bodies waiting) helds) none stores.held)) others file done
    (carries stores.groups (subst (λ (waiting : Option (List (List ℕ))). CarriesItems group_bytes log (Some old) stores.groups waiting) none stores.carried))
