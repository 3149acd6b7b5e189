-- What a call that was noted does to what a disk tells.
use Rattle.std.proofs.Common.{◌≡◌, ◌≢◌, ℕ, ◌==◌, List, [], ◌∷◌, ◌++◌, true, false, if◌then◌else◌, Result, Ok, Err, is_ok, IsOk, refl, sym, ap, subst, ◌∙◌, arith}
use Rattle.std.proofs.lemmas.Bool.{false≢true}
use Rattle.std.proofs.lemmas.Bool.Decides.{nat_tests}
use Rattle.disk_core.specs.Files.{FileState}
use Rattle.disk_core.specs.Moments.{State, Told, Steps}
use Rattle.disk_mem.specs.Contents.{FileMap, bytes_in}
use Rattle.disk_mem.specs.Replay.{replayed, told_after, state_after, changed_by, bytes_after, file_of, IsApplied}
use Rattle.disk_mem.specs.declared.call.Call.{Call}
use Rattle.disk_mem.specs.declared.call.Call.TheVariants.{Write, Sync, Remove}

-- the newest call comes last
pub replayed-push : (told : Told) (calls : List Call) (call : Call) → replayed told (calls ++ call ∷ []) ≡ told_after (replayed told calls) call
replayed-push told [] call = refl
replayed-push told (first ∷ calls) call = replayed-push (told_after told first) calls call

pub choose_same : {A : Type 0} (file : ℕ) (new old : A) → (if file == file then new else old) ≡ new
choose_same file new old = grind (arith, nat_tests)

pub choose_other : {A : Type 0} (other file : ℕ) (new old : A) → other ≢ file → (if other == file then new else old) ≡ old
choose_other other file new old apart = grind (arith, nat_tests)

-- a call is one moment more, in which its file has changed so
steps_after : (told : Told) (call : Call) → Steps (file_of call) (λ old new. new ≡ changed_by call old) told (told_after told call)
steps_after told call = record {
  past = refl;
  others = λ other apart. choose_other other (file_of call) (changed_by call (told.now other)) (told.now other) apart;
  changed = choose_same (file_of call) (changed_by call (told.now (file_of call))) (told.now (file_of call));
}

pub steps_to : (old new : Told) (call : Call) → new ≡ told_after old call → Steps (file_of call) (λ before after. after ≡ changed_by call before) old new
steps_to old new call is =
    let P : Told → Type 0 = λ told. Steps (file_of call) (λ before after. after ≡ changed_by call before) old told in
    subst P (sym is) (steps_after old call)

content_after : (call : Call) (file : FileState) → bytes_after call file.content ≡ (changed_by call file).content
content_after (Write number at bytes) file = refl
content_after (Sync number) file = refl
content_after (Remove number) file = refl

-- a map that holds what reads give goes on holding it
pub tied_after : (call : Call) (old new : FileMap) (state : State) → ((file : ℕ) → bytes_in old file ≡ (state file).content) → IsApplied call old new
    → (file : ℕ) → bytes_in new file ≡ (state_after state call file).content
tied_after call old new state tied is file =
    is file ∙ elim (file == file_of call) as (λ b. (if b then bytes_after call (bytes_in old file) else bytes_in old file) ≡ (if b then changed_by call (state file) else state file).content) [
      | true ↦ ap (bytes_after call) (tied file) ∙ content_after call (state file)
      | false ↦ tied file
    ]

-- ---- a call is pushed behind those that were done

pub pushed : {T E : Type 0} (outcome : Result T E) (before after : List Call) (call : Call)
    → after ≡ (if is_ok outcome then before ++ call ∷ [] else before) → IsOk outcome → after ≡ before ++ call ∷ []
pushed (Ok value) before after call is ok = is
pushed (Err error) before after call is ok = absurd (false≢true ok)

replayed-pushed : (told : Told) (calls reserved after : List Call) (call : Call) → reserved ≡ calls → after ≡ reserved ++ call ∷ []
    → replayed told after ≡ told_after (replayed told calls) call
replayed-pushed told calls reserved after call same is =
    ap (replayed told) (is ∙ ap (λ done. done ++ call ∷ []) same) ∙ replayed-push told calls call

pub steps_pushed : (told : Told) (calls reserved after : List Call) (call : Call) → reserved ≡ calls → after ≡ reserved ++ call ∷ []
    → Steps (file_of call) (λ before now. now ≡ changed_by call before) (replayed told calls) (replayed told after)
steps_pushed told calls reserved after call same is =
    steps_to (replayed told calls) (replayed told after) call (replayed-pushed told calls reserved after call same is)

pub tied_pushed : (told : Told) (calls reserved after : List Call) (call : Call) (old new : FileMap)
    → reserved ≡ calls → after ≡ reserved ++ call ∷ []
    → ((file : ℕ) → bytes_in old file ≡ ((replayed told calls).now file).content) → IsApplied call old new
    → (file : ℕ) → bytes_in new file ≡ ((replayed told after).now file).content
tied_pushed told calls reserved after call old new same is tied done file =
    tied_after call old new (replayed told calls).now tied done file
    ∙ ap (λ one. (one.now file).content) (sym (replayed-pushed told calls reserved after call same is))
