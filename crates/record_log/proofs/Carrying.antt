-- What a log carries, from what it has and keeps.
use Rattle.std.proofs.Common.{◌≡◌, ℕ, List, [], ◌∷◌, ◌++◌, true, false, IsTrue, Option, Some, None, refl, sym, ◌∙◌, ap, subst, inl, inr}
use Rattle.std.proofs.lemmas.Bool.{false≢true}
use Rattle.disk_core.specs.Moments.{Told, EachImage}
use Rattle.record_log.specs.declared.extent.Stage.{Stage}
use Rattle.record_log.specs.declared.extent.Stage.TheVariants.{Settled, Begun, Opening}
use Rattle.record_log.specs.declared.log.RecordLog.{RecordLog}
use Rattle.record_log.specs.Devices.{ChangesOnly, MomentsHave}
use Rattle.record_log.specs.Items.{Carries, Decides, LogsSome, with_one}
use Rattle.record_log.specs.Logs.{HasRecords, KeepsRecords, IsUndecided, IsEitherLog, IsSameLog, IsLeft, needs_mend, is_undecided}
use Rattle.record_log.specs.Records.{Spells}
use Rattle.record_log.specs.Sizes.{undecided_size}
use Rattle.record_log.proofs.Moving.{moments_weaker}

-- ---- what a settled log carries

pub carried_has : (log : RecordLog) (told : Option Told) (bodies : List (List ℕ)) → Carries log told bodies None → HasRecords log told bodies
carried_has log None bodies carried = tt
carried_has log (Some told) bodies carried = carried.has

pub carried_keeps : (log : RecordLog) (told : Option Told) (bodies : List (List ℕ)) → Carries log told bodies None → KeepsRecords log told bodies
carried_keeps log None bodies carried = tt
carried_keeps log (Some told) bodies carried = carried.keeps

pub carried_undecided : (log : RecordLog) (told : Option Told) (bodies : List (List ℕ)) (body : List ℕ) → Carries log told bodies (Some body) → IsUndecided log told bodies body
carried_undecided log None bodies body carried = tt
carried_undecided log (Some told) bodies body carried = carried

-- a device that carried a log goes on telling
pub settle : (before log : RecordLog) (old told : Option Told) (file : ℕ) (bodies : List (List ℕ)) (waiting : Option (List ℕ)) (found : List (List ℕ))
    → Carries before old bodies waiting → ChangesOnly file old told → HasRecords log told found → KeepsRecords log told found → Carries log told found None
settle before log None told file bodies waiting found carried goes has keeps = absurd carried
settle before log (Some old) None file bodies waiting found carried goes has keeps = absurd goes
settle before log (Some old) (Some told) file bodies waiting found carried goes has keeps = record { has = has; keeps = keeps }

pub unsettle : (before log : RecordLog) (old told : Option Told) (file : ℕ) (bodies : List (List ℕ)) (waiting : Option (List ℕ)) (found : List (List ℕ)) (body : List ℕ)
    → Carries before old bodies waiting → ChangesOnly file old told → IsUndecided log told found body → Carries log told found (Some body)
unsettle before log None told file bodies waiting found body carried goes undecided = absurd carried
unsettle before log (Some old) None file bodies waiting found body carried goes undecided = absurd goes
unsettle before log (Some old) (Some told) file bodies waiting found body carried goes undecided = undecided

-- ---- what is left

pub either_decides : (bodies : List (List ℕ)) (body image : List ℕ) → IsEitherLog bodies body image → LogsSome (Decides bodies (Some body)) image
either_decides bodies body image (inl log) = (bodies, inl refl, log)
either_decides bodies body image (inr log) = (bodies ++ body ∷ [], inr refl, log)

pub moments_decide : (file : ℕ) (bodies : List (List ℕ)) (body : List ℕ) (old new : Option Told) → MomentsHave file (IsEitherLog bodies body) old new
    → MomentsHave file (LogsSome (Decides bodies (Some body))) old new
moments_decide file bodies body old new goes = moments_weaker file (IsEitherLog bodies body) (LogsSome (Decides bodies (Some body))) (either_decides bodies body) old new goes

-- ---- whether a put is undecided

pub waits : (stage : Stage) (size : ℕ) → undecided_size stage ≡ Some size → IsTrue (is_undecided stage)
waits Settled size is = absurd cc
waits (Begun n) size is = refl
waits (Opening n) size is = refl

settled_waits : (stage : Stage) → stage ≡ Settled → IsTrue (is_undecided stage) → ⊥
settled_waits stage is waiting = let none : is_undecided stage ≡ false = subst (λ s. is_undecided s ≡ false) (sym is) refl in false≢true (subst (λ b. b ≡ true) none waiting)

-- nothing waits in a log that needs no mend
pub not_waiting : (log : RecordLog) (told : Option Told) (bodies : List (List ℕ)) (waiting : Option (List ℕ)) → needs_mend log ≡ false → Carries log told bodies waiting
    → waiting ≡ None
not_waiting log None bodies waiting none carried = absurd carried
not_waiting log (Some told) bodies None none carried = refl
not_waiting log (Some told) bodies (Some body) none carried = absurd (false≢true (subst (λ b. b ≡ true) none (waits log.extent.stage _ carried.size)))

-- and a put waits in one that needs a mend
pub waiting_one : (log : RecordLog) (told : Option Told) (bodies : List (List ℕ)) (waiting : Option (List ℕ)) → IsTrue (needs_mend log) → Carries log told bodies waiting
    → (body : List ℕ) × (waiting ≡ Some body)
waiting_one log None bodies waiting needs carried = absurd carried
waiting_one log (Some told) bodies None needs carried = absurd (settled_waits log.extent.stage carried.has.settled needs)
waiting_one log (Some told) bodies (Some body) needs carried = (body, refl)

nothing_waits : (body : List ℕ) → None ≡ Some body → ⊥
nothing_waits body same = cc

-- ---- a mend

-- the put that waited was taken in
pub mend_in : (before log : RecordLog) (old told : Option Told) (bodies : List (List ℕ)) (waiting : Option (List ℕ)) → IsTrue (needs_mend before)
    → Carries before old bodies waiting → ChangesOnly before.file old told
    → ((body : List ℕ) → IsUndecided before old bodies body → HasRecords log told (bodies ++ body ∷ []))
    → ((body : List ℕ) → IsUndecided before old bodies body → KeepsRecords log told (bodies ++ body ∷ [])) → Carries log told (with_one bodies waiting) None
mend_in before log old told bodies None needs carried goes has keeps =
    let one = waiting_one before old bodies None needs carried in absurd (nothing_waits one.0 one.1)
mend_in before log old told bodies (Some body) needs carried goes has keeps =
    let undecided : IsUndecided before old bodies body = carried_undecided before old bodies body carried in
    settle before log old told before.file bodies (Some body) (bodies ++ body ∷ []) carried goes (has body undecided) (keeps body undecided)

-- or left out
pub mend_out : (before log : RecordLog) (old told : Option Told) (bodies : List (List ℕ)) (waiting : Option (List ℕ)) → IsTrue (needs_mend before)
    → Carries before old bodies waiting → ChangesOnly before.file old told
    → ((body : List ℕ) → IsUndecided before old bodies body → HasRecords log told bodies)
    → ((body : List ℕ) → IsUndecided before old bodies body → KeepsRecords log told bodies) → Carries log told bodies None
mend_out before log old told bodies None needs carried goes has keeps =
    let one = waiting_one before old bodies None needs carried in absurd (nothing_waits one.0 one.1)
mend_out before log old told bodies (Some body) needs carried goes has keeps =
    let undecided : IsUndecided before old bodies body = carried_undecided before old bodies body carried in
    settle before log old told before.file bodies (Some body) bodies carried goes (has body undecided) (keeps body undecided)

-- or it waits still
pub mend_still : (before log : RecordLog) (old told : Option Told) (bodies : List (List ℕ)) (waiting : Option (List ℕ)) → IsTrue (needs_mend before)
    → Carries before old bodies waiting → ChangesOnly before.file old told
    → ((body : List ℕ) → IsUndecided before old bodies body → IsUndecided log told bodies body) → Carries log told bodies waiting
mend_still before log old told bodies None needs carried goes undecided =
    let one = waiting_one before old bodies None needs carried in absurd (nothing_waits one.0 one.1)
mend_still before log old told bodies (Some body) needs carried goes undecided =
    unsettle before log old told before.file bodies (Some body) bodies body carried goes (undecided body (carried_undecided before old bodies body carried))

pub mend_leaves : (before : RecordLog) (old told : Option Told) (bodies : List (List ℕ)) (waiting : Option (List ℕ)) → IsTrue (needs_mend before)
    → Carries before old bodies waiting → ((body : List ℕ) → IsUndecided before old bodies body → MomentsHave before.file (IsEitherLog bodies body) old told)
    → MomentsHave before.file (LogsSome (Decides bodies waiting)) old told
mend_leaves before old told bodies None needs carried moments =
    let one = waiting_one before old bodies None needs carried in absurd (nothing_waits one.0 one.1)
mend_leaves before old told bodies (Some body) needs carried moments =
    moments_decide before.file bodies body old told (moments body (carried_undecided before old bodies body carried))

-- ---- the same log

pub same_carries : (old new : RecordLog) (told : Option Told) (bodies : List (List ℕ)) (waiting : Option (List ℕ)) → IsSameLog old new → Carries old told bodies waiting
    → Carries new told bodies waiting
same_carries old new None bodies waiting same carried = carried
same_carries old new (Some told) bodies None same carried =
    record {
      has = record {
        settled = same.stage ∙ carried.has.settled;
        spelled = subst (λ (file : ℕ). Spells (told.now file).content bodies) (sym same.file) carried.has.spelled;
        sizes = same.sizes ∙ carried.has.sizes;
      };
      keeps = subst (λ (file : ℕ). EachImage file (λ image. Spells image bodies) told.now) (sym same.file) carried.keeps;
    }
same_carries old new (Some told) bodies (Some body) same carried =
    record {
      size = ap undecided_size same.stage ∙ carried.size;
      sizes = same.sizes ∙ carried.sizes;
      left = subst (λ (stage : Stage). EachImage new.file (IsLeft stage bodies body) told.now) (sym same.stage)
          (subst (λ (file : ℕ). EachImage file (IsLeft old.extent.stage bodies body) told.now) (sym same.file) carried.left);
    }

pub same_has : (old new : RecordLog) (told : Option Told) (bodies : List (List ℕ)) → IsSameLog old new → HasRecords old told bodies → HasRecords new told bodies
same_has old new None bodies same has = tt
same_has old new (Some told) bodies same has =
    record {
      settled = same.stage ∙ has.settled;
      spelled = subst (λ (file : ℕ). Spells (told.now file).content bodies) (sym same.file) has.spelled;
      sizes = same.sizes ∙ has.sizes;
    }

pub same_keeps : (old new : RecordLog) (told : Option Told) (bodies : List (List ℕ)) → IsSameLog old new → KeepsRecords old told bodies → KeepsRecords new told bodies
same_keeps old new None bodies same keeps = tt
same_keeps old new (Some told) bodies same keeps = subst (λ (file : ℕ). EachImage file (λ image. Spells image bodies) told.now) (sym same.file) keeps
