-- How a device goes on over several calls.
use Rattle.std.proofs.Common.{◌≡◌, ℕ, List, [], ◌∷◌, ◌++◌, refl, sym, ◌∙◌, ap, subst}
use Rattle.std.proofs.lemmas.List.{append_assoc}
use Rattle.std.specs.List.{AllByRecursion}
use Rattle.disk_core.specs.Moments.{Told, State, moments, SameBut, MomentsGoOn}

all_append : {X : Type 0} (P : X → Type 0) (xs ys : List X) → AllByRecursion P xs → AllByRecursion P ys → AllByRecursion P (xs ++ ys)
all_append P [] ys first second = second
all_append P (x ∷ xs) ys first second = (first.0, all_append P xs ys first.1 second)

all_weaker : {X : Type 0} (P Q : X → Type 0) → ((x : X) → P x → Q x) → (xs : List X) → AllByRecursion P xs → AllByRecursion Q xs
all_weaker P Q weaker [] all = tt
all_weaker P Q weaker (x ∷ xs) all = (weaker x all.0, all_weaker P Q weaker xs all.1)

-- a device that stands still goes on by no moment
pub goes_nowhere : (Q : State → Type 0) (told : Told) → MomentsGoOn Q told told
goes_nowhere Q told = record { come = []; are = refl; each = tt }

-- one moment more
pub goes_a_step : (Q : State → Type 0) (old new : Told) → new.past ≡ moments old → Q new.now → MomentsGoOn Q old new
goes_a_step Q old new past has = record { come = new.now ∷ []; are = ap (λ states. new.now ∷ states) past; each = (has, tt) }

-- two calls, one after the other
pub goes_further : (Q : State → Type 0) (old between new : Told) → MomentsGoOn Q old between → MomentsGoOn Q between new → MomentsGoOn Q old new
goes_further Q old between new first second =
    record {
      come = second.come ++ first.come;
      are = second.are ∙ ap (λ states. second.come ++ states) first.are ∙ sym (append_assoc second.come first.come (moments old));
      each = all_append Q second.come first.come second.each first.each;
    }

pub goes_weaker : (P Q : State → Type 0) → ((state : State) → P state → Q state) → (old new : Told) → MomentsGoOn P old new → MomentsGoOn Q old new
goes_weaker P Q weaker old new goes = record { come = goes.come; are = goes.are; each = all_weaker P Q weaker goes.come goes.each }

newest : State → List State → State
newest other [] = other
newest other (state ∷ states) = state

-- the state that a device comes to is the newest moment, or it stood still
now_of : (Q : State → Type 0) (old new : Told) (come : List State) → moments new ≡ come ++ moments old → AllByRecursion Q come → Q old.now → Q new.now
unfolding newest
now_of Q old new [] are each stood = let same : new.now ≡ old.now = ap (newest old.now) are in subst Q (sym same) stood
now_of Q old new (state ∷ come) are each stood = let same : new.now ≡ state = ap (newest old.now) are in subst Q (sym same) each.0

-- what holds before and at each new moment holds now
pub goes_to : (Q : State → Type 0) (old new : Told) → MomentsGoOn Q old new → Q old.now → Q new.now
goes_to Q old new goes stood = now_of Q old new goes.come goes.are goes.each stood

pub same_but_same : (file : ℕ) (state : State) → SameBut file state state
same_but_same file state other differs = refl

pub same_but_further : (file : ℕ) (old between new : State) → SameBut file old between → SameBut file between new → SameBut file old new
same_but_further file old between new first second other differs = second other differs ∙ first other differs

-- two calls that leave all files but one as they were
pub goes_in_file : (file : ℕ) (P : State → Type 0) (old between new : Told) → MomentsGoOn (λ state. SameBut file old.now state × P state) old between
    → MomentsGoOn (λ state. SameBut file between.now state × P state) between new → MomentsGoOn (λ state. SameBut file old.now state × P state) old new
goes_in_file file P old between new first second =
    let others : SameBut file old.now between.now =
    goes_to (SameBut file old.now) old between (goes_weaker (λ state. SameBut file old.now state × P state) (SameBut file old.now) (λ state has. has.0) old between first) (same_but_same file old.now) in
    let onward : MomentsGoOn (λ state. SameBut file old.now state × P state) between new =
    goes_weaker (λ state. SameBut file between.now state × P state) (λ state. SameBut file old.now state × P state)
    (λ state has. (same_but_further file old.now between.now state others has.0, has.1)) between new second in
    goes_further (λ state. SameBut file old.now state × P state) old between new first onward
