-- What marking a group and deciding it does to the bodies that are held.
use Rattle.std.proofs.Common.{◌≡◌, ℕ, zero, suc, ◌+◌, ◌-◌, ◌<◌, ◌^◌, min, List, [], ◌∷◌, ◌++◌, length, take, drop, map, Bool, true, false, cond, not, ◌&&◌, ◌==◌, nat_lt, if◌then◌else◌, Option, Some, None, slice_get, refl, sym, ◌∙◌, ap, arith, add-zero, inl, inr, subst}
use Rattle.std.proofs.lemmas.Bool.{ltb-true, ltb-false}
use Rattle.std.proofs.lemmas.List.{append_assoc, length-append}
use Rattle.std.proofs.lemmas.Option.{slice_get_within}
use Rattle.std.specs.List.{filter, AllByRecursion}
use Rattle.body_journal.specs.declared.held.Held.{Held}
use Rattle.body_journal.specs.declared.held.Stage.{Stage}
use Rattle.body_journal.specs.declared.held.Stage.TheVariants.{Waiting, InGroup, Stored}
use Rattle.body_journal.specs.Held.{Queued, bytes_of, queued, is_waiting, is_grouped, is_queued, is_left, is_left_other, is_other, is_kept, others_in, grouped_in, decided, decided_held, marked, IsStoredAs, HasStored}
use Rattle.body_journal.specs.Marks.{IsUnmarked, AreUnmarked, queue_in}
use Rattle.body_journal.specs.Rooms.{queue_without}
use Rattle.body_journal.specs.Stores.{StandsRight, IsHeldRight}
use Rattle.body_journal.proofs.Lists.{all_map, filter_same, get_front, get_behind}

-- ---- a group is decided

decided_none : (stored : ℕ) (is_in : Bool) (stage : Stage) → is_grouped (decided stored is_in stage) ≡ false
decided_none stored is_in Waiting = refl
decided_none stored true (InGroup place) = refl
decided_none stored false (InGroup place) = refl
decided_none stored is_in (Stored before) = refl

pub decided_unmarked : (stored : ℕ) (is_in : Bool) (helds : List Held) → AreUnmarked (map (decided_held stored is_in) helds)
decided_unmarked stored is_in [] = tt
decided_unmarked stored is_in (held ∷ helds) = (decided_none stored is_in held.stage, decided_unmarked stored is_in helds)

decided_queued : (stored : ℕ) (is_in : Bool) (stage : Stage) → is_queued (decided stored is_in stage) ≡ is_left is_in stage
decided_queued stored is_in Waiting = refl
decided_queued stored true (InGroup place) = refl
decided_queued stored false (InGroup place) = refl
decided_queued stored is_in (Stored before) = refl

decided_waiting : (stored : ℕ) (is_in : Bool) (stage : Stage) → is_waiting (decided stored is_in stage) ≡ is_left is_in stage
decided_waiting stored is_in Waiting = refl
decided_waiting stored true (InGroup place) = refl
decided_waiting stored false (InGroup place) = refl
decided_waiting stored is_in (Stored before) = refl

left_queued : (stage : Stage) → is_left false stage ≡ is_queued stage
left_queued Waiting = refl
left_queued (InGroup place) = refl
left_queued (Stored before) = refl

pub queue_decided : (stored : ℕ) (is_in : Bool) (helds : List Held)
    → queue_in (map (decided_held stored is_in) helds) ≡ map queued (filter (λ (held : Held). is_left is_in held.stage) helds)
queue_decided stored is_in helds =
    filter_same (λ (held : Held). is_queued held.stage) (λ (held : Held). is_left is_in held.stage) (decided_held stored is_in) queued
    (λ held. decided_queued stored is_in held.stage) (λ held. refl) helds

pub others_decided : (stored : ℕ) (is_in : Bool) (serial : ℕ) (helds : List Held)
    → others_in serial (map (decided_held stored is_in) helds) ≡ map bytes_of (filter (is_left_other is_in serial) helds)
others_decided stored is_in serial helds =
    filter_same (is_other serial) (is_left_other is_in serial) (decided_held stored is_in) bytes_of
    (λ held. ap (λ (waits : Bool). waits && not (held.serial == serial)) (decided_waiting stored is_in held.stage)) (λ held. refl) helds

-- ---- a group is marked

unmarked_first : (held : Held) (helds : List Held) → IsUnmarked held → grouped_in (held ∷ helds) ≡ grouped_in helds
unmarked_first held helds none =
    ap (λ (b : Bool). map bytes_of (cond b (held ∷ filter (λ (one : Held). is_grouped one.stage) helds) (filter (λ (one : Held). is_grouped one.stage) helds))) none

-- what marking does with one
abbrev mark_by : Bool → ℕ → Held → Held
mark_by marks place held = if marks then record held { stage = InGroup place } else held

abbrev place_by : Bool → ℕ → ℕ
place_by marks place = if marks then place + 1 else place

grouped_step : (serial count place n : ℕ) (held : Held) (helds : List Held) (lt other : Bool) → lt ≡ nat_lt place count → count ≡ place + n → IsUnmarked held
    → ((place n : ℕ) → count ≡ place + n → grouped_in (marked serial count place helds) ≡ take n (others_in serial helds))
    → grouped_in (mark_by (lt && other) place held ∷ marked serial count (place_by (lt && other) place) helds)
    ≡ take n (map bytes_of (cond other (held ∷ filter (is_other serial) helds) (filter (is_other serial) helds)))
grouped_step serial count place zero held helds true other is_lt is none again = absurd (omega (arith, ltb-true place count (sym is_lt), is))
grouped_step serial count place (suc n) held helds true true is_lt is none again = ap (λ (bodies : List (List ℕ)). bytes_of held ∷ bodies) (again (place + 1) n (omega (arith, is)))
grouped_step serial count place (suc n) held helds true false is_lt is none again = unmarked_first held (marked serial count place helds) none ∙ again place (suc n) is
grouped_step serial count place zero held helds false true is_lt is none again = unmarked_first held (marked serial count place helds) none ∙ again place zero is
grouped_step serial count place zero held helds false false is_lt is none again = unmarked_first held (marked serial count place helds) none ∙ again place zero is
grouped_step serial count place (suc n) held helds false other is_lt is none again = absurd (omega (arith, ltb-false place count (sym is_lt), is))

-- the members of the group are the first of the others
pub grouped_marked : (serial count place n : ℕ) (helds : List Held) → count ≡ place + n → AreUnmarked helds
    → grouped_in (marked serial count place helds) ≡ take n (others_in serial helds)
grouped_marked serial count place zero [] is none = refl
grouped_marked serial count place (suc n) [] is none = refl
grouped_marked serial count place n (held ∷ helds) is none =
    grouped_step serial count place n held helds (nat_lt place count) (is_other serial held) refl is none.0 (λ place n is. grouped_marked serial count place n helds is none.1)

-- ---- each member stands at its place

right_unmarked : (bodies : List (List ℕ)) (waiting : Option (List (List ℕ))) (stage : Stage) (body : List ℕ) → is_grouped stage ≡ false
    → StandsRight bodies None stage body → StandsRight bodies waiting stage body
right_unmarked bodies waiting Waiting body none right = tt
right_unmarked bodies waiting (InGroup place) body none right = absurd (let no_such : true ≡ false = none in cc)
right_unmarked bodies waiting (Stored before) body none right = right

place_step : (serial count place n : ℕ) (held : Held) (helds : List Held) (lt other : Bool) (bodies before group : List (List ℕ)) → lt ≡ nat_lt place count → count ≡ place + n
    → IsUnmarked held → IsHeldRight bodies None held → place ≡ length before
    → group ≡ before ++ take n (map bytes_of (cond other (held ∷ filter (is_other serial) helds) (filter (is_other serial) helds)))
    → ((place n : ℕ) (before : List (List ℕ)) → count ≡ place + n → place ≡ length before → group ≡ before ++ take n (others_in serial helds)
    → AllByRecursion (IsHeldRight bodies (Some group)) (marked serial count place helds))
    → AllByRecursion (IsHeldRight bodies (Some group)) (mark_by (lt && other) place held ∷ marked serial count (place_by (lt && other) place) helds)
place_step serial count place zero held helds true other bodies before group is_lt is none right at are again = absurd (omega (arith, ltb-true place count (sym is_lt), is))
place_step serial count place (suc n) held helds true true bodies before group is_lt is none right at are again = (
  ap (λ (list : List (List ℕ)). slice_get list place) are ∙ get_behind before (bytes_of held ∷ take n (others_in serial helds)) 0 place (at ∙ sym (add-zero (length before))),
  again (place + 1) n (before ++ bytes_of held ∷ []) (omega (arith, is)) (omega (arith, at, length-append before (bytes_of held ∷ [])))
      (are ∙ sym (append_assoc before (bytes_of held ∷ []) (take n (others_in serial helds)))),
)
place_step serial count place (suc n) held helds true false bodies before group is_lt is none right at are again =
    (right_unmarked bodies (Some group) held.stage (bytes_of held) none right, again place (suc n) before is at are)
place_step serial count place zero held helds false true bodies before group is_lt is none right at are again =
    (right_unmarked bodies (Some group) held.stage (bytes_of held) none right, again place zero before is at are)
place_step serial count place zero held helds false false bodies before group is_lt is none right at are again =
    (right_unmarked bodies (Some group) held.stage (bytes_of held) none right, again place zero before is at are)
place_step serial count place (suc n) held helds false other bodies before group is_lt is none right at are again = absurd (omega (arith, ltb-false place count (sym is_lt), is))

pub places_marked : (serial count place n : ℕ) (helds : List Held) (bodies before group : List (List ℕ)) → count ≡ place + n → AreUnmarked helds
    → AllByRecursion (IsHeldRight bodies None) helds → place ≡ length before → group ≡ before ++ take n (others_in serial helds)
    → AllByRecursion (IsHeldRight bodies (Some group)) (marked serial count place helds)
places_marked serial count place n [] bodies before group is none right at are = tt
places_marked serial count place n (held ∷ helds) bodies before group is none right at are =
    place_step serial count place n held helds (nat_lt place count) (is_other serial held) bodies before group refl is none.0 right.0 at are
    (λ place n before is at are. places_marked serial count place n helds bodies before group is none.1 right.1 at are)

-- ---- and stands right once it is stored

right_in : (bodies group : List (List ℕ)) (stored : ℕ) (stage : Stage) (body : List ℕ) → stored ≡ length bodies → stored + length group < 2 ^ 64
    → StandsRight bodies (Some group) stage body → StandsRight (bodies ++ group) None (decided stored true stage) body
right_in bodies group stored Waiting body count fits right = tt
right_in bodies group stored (InGroup place) body count fits right =
    let within : place < length group = slice_get_within group place body right in
    get_behind bodies group place (min (stored + place) (2 ^ 64 - 1)) (omega (arith, count, fits, within)) ∙ right
right_in bodies group stored (Stored before) body count fits right = get_front bodies group before body right

pub all_in : (bodies group : List (List ℕ)) (stored : ℕ) (helds : List Held) → stored ≡ length bodies → stored + length group < 2 ^ 64
    → AllByRecursion (IsHeldRight bodies (Some group)) helds → AllByRecursion (IsHeldRight (bodies ++ group) None) (map (decided_held stored true) helds)
all_in bodies group stored helds count fits all =
    all_map (IsHeldRight bodies (Some group)) (IsHeldRight (bodies ++ group) None) (decided_held stored true) (λ held right. right_in bodies group stored held.stage (bytes_of held) count fits right) helds all

right_out : (bodies : List (List ℕ)) (waiting : Option (List (List ℕ))) (stored : ℕ) (stage : Stage) (body : List ℕ)
    → StandsRight bodies waiting stage body → StandsRight bodies None (decided stored false stage) body
right_out bodies waiting stored Waiting body right = tt
right_out bodies waiting stored (InGroup place) body right = tt
right_out bodies waiting stored (Stored before) body right = right

pub all_out : (bodies : List (List ℕ)) (waiting : Option (List (List ℕ))) (stored : ℕ) (helds : List Held)
    → AllByRecursion (IsHeldRight bodies waiting) helds → AllByRecursion (IsHeldRight bodies None) (map (decided_held stored false) helds)
all_out bodies waiting stored helds all =
    all_map (IsHeldRight bodies waiting) (IsHeldRight bodies None) (decided_held stored false) (λ held right. right_out bodies waiting stored held.stage (bytes_of held) right) helds all

-- ---- the queue

pub queue_left_out : (helds : List Held) → map queued (filter (λ (held : Held). is_left false held.stage) helds) ≡ queue_in helds
queue_left_out helds = sym (queue_decided 0 false helds) ∙ filter_same (λ (held : Held). is_queued held.stage) (λ (held : Held). is_queued held.stage) (decided_held 0 false) queued
    (λ held. decided_queued 0 false held.stage ∙ left_queued held.stage) (λ held. refl) helds

other_waits : (held : Held) (serial : ℕ) (stage : Stage) → is_waiting stage && not (held.serial == serial) ≡ true → is_queued stage ≡ true
other_waits held serial Waiting is = refl
other_waits held serial (InGroup place) is = refl
other_waits held serial (Stored before) is = absurd (let no_such : false ≡ true = is in cc)

queue_first : (held : Held) (rest others : List Held) (stage : Stage) → queue_in rest ≡ queue_in others
    → map queued (cond (is_queued stage) (held ∷ filter (λ (one : Held). is_queued one.stage) rest) (filter (λ (one : Held). is_queued one.stage) rest))
    ≡ map queued (cond (is_queued stage) (held ∷ filter (λ (one : Held). is_queued one.stage) others) (filter (λ (one : Held). is_queued one.stage) others))
queue_first held rest others Waiting same = ap (λ (queue : List Queued). queued held ∷ queue) same
queue_first held rest others (InGroup place) same = ap (λ (queue : List Queued). queued held ∷ queue) same
queue_first held rest others (Stored before) same = same

queue_mark : (held : Held) (place : ℕ) (rest others : List Held) (marks : Bool) → (marks ≡ true → is_queued held.stage ≡ true) → queue_in rest ≡ queue_in others
    → queue_in (mark_by marks place held ∷ rest) ≡ queue_in (held ∷ others)
queue_mark held place rest others true waits same =
    ap (λ (queue : List Queued). queued held ∷ queue) same
    ∙ sym (ap (λ (b : Bool). map queued (cond b (held ∷ filter (λ (one : Held). is_queued one.stage) others) (filter (λ (one : Held). is_queued one.stage) others))) (waits refl))
queue_mark held place rest others false waits same = queue_first held rest others held.stage same

and_second : (a b : Bool) → a && b ≡ true → b ≡ true
and_second true b is = is
and_second false b is = absurd (let no_such : false ≡ true = is in cc)

-- marks leave the queue as it is
pub queue_marked : (serial count place : ℕ) (helds : List Held) → queue_in (marked serial count place helds) ≡ queue_in helds
queue_marked serial count place [] = refl
queue_marked serial count place (held ∷ helds) =
    queue_mark held place (marked serial count (place_by (nat_lt place count && is_other serial held) place) helds) helds (nat_lt place count && is_other serial held)
    (λ marks. other_waits held serial held.stage (and_second (nat_lt place count) (is_other serial held) marks))
    (queue_marked serial count (place_by (nat_lt place count && is_other serial held) place) helds)

-- ---- the queue once the group is stored, and its first body has gone

abbrev kept_in : ℕ → ℕ → ℕ → List Held → ℕ → List Held
kept_in serial count stored helds place = filter (is_kept serial) (map (decided_held stored true) (marked serial count place helds))

put_step : (serial count place n stored : ℕ) (held : Held) (helds : List Held) (stage : Stage) (lt same : Bool) → lt ≡ nat_lt place count → count ≡ place + n → is_grouped stage ≡ false
    → ((place n : ℕ) → count ≡ place + n → queue_in (kept_in serial count stored helds place) ≡ drop n (queue_without serial (queue_in helds)))
    → (marks : Bool) → marks ≡ lt && (is_waiting stage && not same)
    → queue_in (cond (not same) (decided_held stored true (mark_by marks place (record held { stage = stage })) ∷ kept_in serial count stored helds (place_by marks place)) (kept_in serial count stored helds (place_by marks place)))
    ≡ drop n (cond (is_queued stage) (cond (not same) (queued held ∷ queue_without serial (queue_in helds)) (queue_without serial (queue_in helds))) (queue_without serial (queue_in helds)))
put_step serial count place n stored held helds (InGroup at) lt same is_lt is none again marks are = absurd (let no_such : true ≡ false = none in cc)
put_step serial count place n stored held helds (Stored before) true true is_lt is none again false are = again place n is
put_step serial count place n stored held helds (Stored before) true false is_lt is none again false are = again place n is
put_step serial count place n stored held helds (Stored before) false true is_lt is none again false are = again place n is
put_step serial count place n stored held helds (Stored before) false false is_lt is none again false are = again place n is
put_step serial count place n stored held helds (Stored before) true true is_lt is none again true are = absurd (let no_such : true ≡ false = are in cc)
put_step serial count place n stored held helds (Stored before) true false is_lt is none again true are = absurd (let no_such : true ≡ false = are in cc)
put_step serial count place n stored held helds (Stored before) false true is_lt is none again true are = absurd (let no_such : true ≡ false = are in cc)
put_step serial count place n stored held helds (Stored before) false false is_lt is none again true are = absurd (let no_such : true ≡ false = are in cc)
put_step serial count place n stored held helds Waiting true true is_lt is none again false are = again place n is
put_step serial count place n stored held helds Waiting false true is_lt is none again false are = again place n is
put_step serial count place n stored held helds Waiting true true is_lt is none again true are = absurd (let no_such : true ≡ false = are in cc)
put_step serial count place n stored held helds Waiting false true is_lt is none again true are = absurd (let no_such : true ≡ false = are in cc)
put_step serial count place n stored held helds Waiting true false is_lt is none again false are = absurd (let no_such : false ≡ true = are in cc)
put_step serial count place zero stored held helds Waiting true false is_lt is none again true are = absurd (omega (arith, ltb-true place count (sym is_lt), is))
put_step serial count place (suc n) stored held helds Waiting true false is_lt is none again true are = again (place + 1) n (omega (arith, is))
put_step serial count place n stored held helds Waiting false false is_lt is none again true are = absurd (let no_such : true ≡ false = are in cc)
put_step serial count place zero stored held helds Waiting false false is_lt is none again false are = ap (λ (queue : List Queued). queued held ∷ queue) (again place zero is)
put_step serial count place (suc n) stored held helds Waiting false false is_lt is none again false are = absurd (omega (arith, ltb-false place count (sym is_lt), is))

without_first : (serial : ℕ) (held : Held) (rest : List Held) (stage : Stage)
    → queue_without serial (map queued (cond (is_queued stage) (held ∷ rest) rest))
    ≡ cond (is_queued stage) (cond (not (held.serial == serial)) (queued held ∷ queue_without serial (map queued rest)) (queue_without serial (map queued rest))) (queue_without serial (map queued rest))
without_first serial held rest Waiting = refl
without_first serial held rest (InGroup place) = refl
without_first serial held rest (Stored before) = refl

kept_by : (serial stored place : ℕ) (held : Held) (marks : Bool) → is_kept serial (decided_held stored true (mark_by marks place held)) ≡ not (held.serial == serial)
kept_by serial stored place held true = refl
kept_by serial stored place held false = refl

pub queue_put : (serial count place n stored : ℕ) (helds : List Held) → count ≡ place + n → AreUnmarked helds
    → queue_in (kept_in serial count stored helds place) ≡ drop n (queue_without serial (queue_in helds))
queue_put serial count place zero stored [] is none = refl
queue_put serial count place (suc n) stored [] is none = refl
queue_put serial count place n stored (held ∷ helds) is none =
    let marks : Bool = nat_lt place count && is_other serial held in
    ap (λ (b : Bool). queue_in (cond b (decided_held stored true (mark_by (nat_lt place count && is_other serial held) place held) ∷ kept_in serial count stored helds (place_by (nat_lt place count && is_other serial held) place)) (kept_in serial count stored helds (place_by (nat_lt place count && is_other serial held) place))))
    (kept_by serial stored place held (nat_lt place count && is_other serial held))
    ∙ put_step serial count place n stored held helds held.stage (nat_lt place count) (held.serial == serial) refl is none.0 (λ place n is. queue_put serial count place n stored helds is none.1)
    (nat_lt place count && is_other serial held) refl
    ∙ ap (λ (queue : List Queued). drop n queue) (sym (without_first serial held (filter (λ (one : Held). is_queued one.stage) helds) held.stage))

kept_step : (serial : ℕ) (held : Held) (helds : List Held) (stage : Stage) (same : Bool) → queue_in (filter (is_kept serial) helds) ≡ queue_without serial (queue_in helds)
    → queue_in (cond (not same) (record held { stage = stage } ∷ filter (is_kept serial) helds) (filter (is_kept serial) helds))
    ≡ cond (is_queued stage) (cond (not same) (queued held ∷ queue_without serial (queue_in helds)) (queue_without serial (queue_in helds))) (queue_without serial (queue_in helds))
kept_step serial held helds Waiting true again = again
kept_step serial held helds Waiting false again = ap (λ (queue : List Queued). queued held ∷ queue) again
kept_step serial held helds (InGroup place) true again = again
kept_step serial held helds (InGroup place) false again = ap (λ (queue : List Queued). queued held ∷ queue) again
kept_step serial held helds (Stored before) true again = again
kept_step serial held helds (Stored before) false again = again

-- what stays in the queue once one has gone
pub queue_kept : (serial : ℕ) (helds : List Held) → queue_in (filter (is_kept serial) helds) ≡ queue_without serial (queue_in helds)
queue_kept serial [] = refl
queue_kept serial (held ∷ helds) =
    kept_step serial held helds held.stage (held.serial == serial) (queue_kept serial helds) ∙ sym (without_first serial held (filter (λ (one : Held). is_queued one.stage) helds) held.stage)

-- ---- the others of a group that is stored

members_step : (serial count place n stored : ℕ) (held : Held) (helds : List Held) (stage : Stage) (lt same : Bool) → lt ≡ nat_lt place count → count ≡ place + n → is_grouped stage ≡ false
    → ((place n j : ℕ) (one : Queued) → count ≡ place + n → j < n → slice_get (queue_without serial (queue_in helds)) j ≡ Some one
    → HasStored (kept_in serial count stored helds place) one.serial one.bytes (min (stored + (place + j)) (2 ^ 64 - 1)))
    → (marks : Bool) → marks ≡ lt && (is_waiting stage && not same) → (j : ℕ) (one : Queued) → j < n
    → slice_get (cond (is_queued stage) (cond (not same) (queued held ∷ queue_without serial (queue_in helds)) (queue_without serial (queue_in helds))) (queue_without serial (queue_in helds))) j ≡ Some one
    → HasStored (cond (not same) (decided_held stored true (mark_by marks place (record held { stage = stage })) ∷ kept_in serial count stored helds (place_by marks place)) (kept_in serial count stored helds (place_by marks place)))
    one.serial one.bytes (min (stored + (place + j)) (2 ^ 64 - 1))
members_step serial count place n stored held helds (InGroup at) lt same is_lt is none again marks are j one below found = absurd (let no_such : true ≡ false = none in cc)
members_step serial count place n stored held helds (Stored before) true true is_lt is none again false are j one below found = again place n j one is below found
members_step serial count place n stored held helds (Stored before) true false is_lt is none again false are j one below found = inr (again place n j one is below found)
members_step serial count place n stored held helds (Stored before) false true is_lt is none again false are j one below found = again place n j one is below found
members_step serial count place n stored held helds (Stored before) false false is_lt is none again false are j one below found = inr (again place n j one is below found)
members_step serial count place n stored held helds (Stored before) true true is_lt is none again true are j one below found = absurd (let no_such : true ≡ false = are in cc)
members_step serial count place n stored held helds (Stored before) true false is_lt is none again true are j one below found = absurd (let no_such : true ≡ false = are in cc)
members_step serial count place n stored held helds (Stored before) false true is_lt is none again true are j one below found = absurd (let no_such : true ≡ false = are in cc)
members_step serial count place n stored held helds (Stored before) false false is_lt is none again true are j one below found = absurd (let no_such : true ≡ false = are in cc)
members_step serial count place n stored held helds Waiting true true is_lt is none again false are j one below found = again place n j one is below found
members_step serial count place n stored held helds Waiting false true is_lt is none again false are j one below found = again place n j one is below found
members_step serial count place n stored held helds Waiting true true is_lt is none again true are j one below found = absurd (let no_such : true ≡ false = are in cc)
members_step serial count place n stored held helds Waiting false true is_lt is none again true are j one below found = absurd (let no_such : true ≡ false = are in cc)
members_step serial count place n stored held helds Waiting true false is_lt is none again false are j one below found = absurd (let no_such : false ≡ true = are in cc)
members_step serial count place zero stored held helds Waiting true false is_lt is none again true are j one below found = absurd (omega (arith, below))
members_step serial count place (suc n) stored held helds Waiting true false is_lt is none again true are zero one below found =
    let same : Some (queued held) ≡ Some one = found in
    let one_is : queued held ≡ one = cc in
    inl (subst (λ (q : Queued). IsStoredAs (decided_held stored true (record held { stage = InGroup place })) q.serial q.bytes (min (stored + (place + 0)) (2 ^ 64 - 1))) one_is
    (record { serial_is = refl; bytes = refl; stage = ap (λ (k : ℕ). Stored (min (stored + k) (2 ^ 64 - 1))) (sym (add-zero place)) }))
members_step serial count place (suc n) stored held helds Waiting true false is_lt is none again true are (suc j) one below found =
    let at : (place + 1) + j ≡ place + suc j = omega arith in
    inr (subst (λ (k : ℕ). HasStored (kept_in serial count stored helds (place + 1)) one.serial one.bytes (min (stored + k) (2 ^ 64 - 1))) at
    (again (place + 1) n j one (omega (arith, is)) (omega (arith, below)) found))
members_step serial count place n stored held helds Waiting false false is_lt is none again true are j one below found = absurd (let no_such : true ≡ false = are in cc)
members_step serial count place zero stored held helds Waiting false false is_lt is none again false are j one below found = absurd (omega (arith, below))
members_step serial count place (suc n) stored held helds Waiting false false is_lt is none again false are j one below found = absurd (omega (arith, ltb-false place count (sym is_lt), is))

-- they are held as stored behind one another
pub members_put : (serial count place n stored : ℕ) (helds : List Held) → count ≡ place + n → AreUnmarked helds → (j : ℕ) (one : Queued) → j < n
    → slice_get (queue_without serial (queue_in helds)) j ≡ Some one → HasStored (kept_in serial count stored helds place) one.serial one.bytes (min (stored + (place + j)) (2 ^ 64 - 1))
members_put serial count place n stored [] is none j one below found = absurd (let no_such : None ≡ Some one = found in cc)
members_put serial count place n stored (held ∷ helds) is none j one below found =
    subst
    (λ (b : Bool). HasStored (cond b (decided_held stored true (mark_by (nat_lt place count && is_other serial held) place held) ∷ kept_in serial count stored helds (place_by (nat_lt place count && is_other serial held) place)) (kept_in serial count stored helds (place_by (nat_lt place count && is_other serial held) place))) one.serial one.bytes (min (stored + (place + j)) (2 ^ 64 - 1)))
    (sym (kept_by serial stored place held (nat_lt place count && is_other serial held)))
    (members_step serial count place n stored held helds held.stage (nat_lt place count) (held.serial == serial) refl is none.0
    (λ place n j one is below found. members_put serial count place n stored helds is none.1 j one below found)
    (nat_lt place count && is_other serial held) refl j one below
    (subst (λ (queue : List Queued). slice_get queue j ≡ Some one) (without_first serial held (filter (λ (one : Held). is_queued one.stage) helds) held.stage) found))
