-- The calls done once more, but for those behind which their file was not synced, leave what the syncs stored.
use Rattle.std.proofs.Common.{◌≡◌, ◌≢◌, ℕ, zero, suc, ◌+◌, ◌-◌, ◌<◌, ◌≤◌, ◌==◌, List, [], ◌∷◌, ◌++◌, length, take, drop, get_or, true, false, if◌then◌else◌, refl, sym, ap, subst, ◌∙◌, inl, inr, arith}
use Rattle.std.proofs.lemmas.Bool.{cases_lt, cases_eq}
use Rattle.std.proofs.lemmas.Bool.Decides.{nat_tests}
use Rattle.std.proofs.lemmas.List.{take_more, drop_more, take_all, drop_all}
use Rattle.std.specs.BTreeMap.{BTreeMap}
use Rattle.disk_core.specs.Files.{FileState}
use Rattle.disk_core.specs.Moments.{State, Told}
use Rattle.disk_mem.specs.Contents.{FileMap, bytes_in, SameBytes}
use Rattle.disk_mem.specs.Replay.{replayed, state_after, changed_by, bytes_after, file_of, stored_file, begun, IsApplied}
use Rattle.disk_mem.specs.Syncs.{syncs_in, syncs_of, count_in, AreCounted}
use Rattle.disk_mem.proofs.Replays.{replayed-push, choose_same, choose_other}
use Rattle.disk_mem.specs.declared.call.Call.{Call}
use Rattle.disk_mem.specs.declared.call.Call.TheVariants.{Write, Sync, Remove}

-- ---- how often a file is synced

syncs-drop : (file : ℕ) (calls : List Call) (i : ℕ) (call : Call) → i < length calls → call ≡ get_or calls i call
    → syncs_of file (drop i calls) ≡ syncs_in file call + syncs_of file (drop (i + 1) calls)
syncs-drop file calls i call within is =
    ap (syncs_of file) (drop_more calls i call within) ∙ ap (λ one. syncs_in file one + syncs_of file (drop (i + 1) calls)) (sym is)

syncs_in-bound : (file : ℕ) (call : Call) → syncs_in file call ≤ 1
syncs_in-bound file (Write other at bytes) = omega arith
syncs_in-bound file (Sync other) = elim (file == other) as (λ b. (if b then 1 else 0) ≤ 1) [ true ↦ omega arith | false ↦ omega arith ]
syncs_in-bound file (Remove other) = omega arith

syncs_of-bound : (file : ℕ) (calls : List Call) → syncs_of file calls ≤ length calls
syncs_of-bound file [] = omega arith
syncs_of-bound file (call ∷ calls) = omega (arith, syncs_in-bound file call, syncs_of-bound file calls)

-- what is counted and what is to come are all
abbrev pub CountSoFar : BTreeMap ℕ ℕ → List Call → ℕ → Type 0
CountSoFar counts calls i = (file : ℕ) → count_in counts file + syncs_of file (drop i calls) ≡ syncs_of file calls

pub count_fits : (counts : BTreeMap ℕ ℕ) (calls : List Call) (i : ℕ) (call : Call) → i < length calls → call ≡ get_or calls i call → CountSoFar counts calls i
    → (file : ℕ) → count_in counts file + syncs_in file call ≤ length calls
count_fits counts calls i call within is so_far file =
    omega (arith, so_far file, syncs-drop file calls i call within is, syncs_of-bound file calls)

pub count_step : (old new : BTreeMap ℕ ℕ) (calls : List Call) (i : ℕ) (call : Call) → i < length calls → call ≡ get_or calls i call → CountSoFar old calls i
    → ((file : ℕ) → count_in new file ≡ count_in old file + syncs_in file call) → CountSoFar new calls (i + 1)
count_step old new calls i call within is so_far step file =
    omega (arith, so_far file, step file, syncs-drop file calls i call within is)

pub count_end : (counts : BTreeMap ℕ ℕ) (calls : List Call) (i : ℕ) → length calls ≤ i → CountSoFar counts calls i → AreCounted counts calls
count_end counts calls i end so_far file = omega (arith, so_far file, ap (syncs_of file) (drop_all i calls end))

-- ---- the bytes of a file as far as the calls were redone

-- what reads give if a sync is still to come, and else what the last sync stored
abbrev pub right_bytes : ℕ → FileState → List ℕ
right_bytes zero file = file.stored
right_bytes (suc n) file = file.content

right_some : (n : ℕ) (file : FileState) → 0 < n → right_bytes n file ≡ file.content
right_some zero file some = absurd (omega arith)
right_some (suc n) file some = refl

right_none : (n : ℕ) (file : FileState) → n ≡ 0 → right_bytes n file ≡ file.stored
right_none zero file none = refl
right_none (suc n) file none = absurd (omega arith)

right_stored : (n : ℕ) (bytes : List ℕ) → right_bytes n (stored_file bytes) ≡ bytes
right_stored zero bytes = refl
right_stored (suc n) bytes = refl

syncs_here : Call → ℕ
syncs_here (Write file at bytes) = 0
syncs_here (Sync file) = 1
syncs_here (Remove file) = 0

syncs_in-here : (call : Call) → syncs_in (file_of call) call ≡ syncs_here call
unfolding syncs_here
syncs_in-here (Write file at bytes) = refl
syncs_in-here (Sync file) = grind (arith, nat_tests)
syncs_in-here (Remove file) = refl

syncs_in-elsewhere : (file : ℕ) (call : Call) → file ≢ file_of call → syncs_in file call ≡ 0
syncs_in-elsewhere file (Write other at bytes) apart = refl
syncs_in-elsewhere file (Sync other) apart = grind (arith, nat_tests)
syncs_in-elsewhere file (Remove other) apart = refl

-- the file of a call, of which n syncs are to come with it
redone_file : (call : Call) (n : ℕ) (old new : List ℕ) (file : FileState) → old ≡ right_bytes n file → syncs_here call ≤ n
    → (0 < n → new ≡ bytes_after call old) → (n ≡ 0 → new ≡ old) → new ≡ right_bytes (n - syncs_here call) (changed_by call file)
unfolding syncs_here
redone_file (Write number at bytes) n old new file is some done kept =
    let later : FileState = changed_by (Write number at bytes) file in
    elim (cases_lt 0 n) [
      | inl more ↦ done more ∙ ap (bytes_after (Write number at bytes)) (is ∙ right_some n file more) ∙ sym (right_some (n - 0) later (omega arith))
      | inr none ↦ kept (omega arith) ∙ is ∙ right_none n file (omega arith) ∙ sym (right_none (n - 0) later (omega arith))
    ]
redone_file (Sync number) n old new file is some done kept =
    done (omega arith) ∙ is ∙ right_some n file (omega arith) ∙ sym (right_stored (n - 1) file.content)
redone_file (Remove number) n old new file is some done kept =
    let later : FileState = changed_by (Remove number) file in
    elim (cases_lt 0 n) [
      | inl more ↦ done more ∙ sym (right_some (n - 0) later (omega arith))
      | inr none ↦ kept (omega arith) ∙ is ∙ right_none n file (omega arith) ∙ sym (right_none (n - 0) later (omega arith))
    ]

-- ---- all files

-- so far redone: the map has the right bytes of each file, and it is known how often each is synced in what is to come
pub record IsRedone (counts : BTreeMap ℕ ℕ) (bytes : FileMap) (state : State) (calls : List Call) : Type 0 where
  pub counted : AreCounted counts calls
  pub right : (file : ℕ) → bytes_in bytes file ≡ right_bytes (count_in counts file) (state file)

abbrev Redoes : Call → BTreeMap ℕ ℕ → FileMap → FileMap → Type 0
Redoes call counts old new =
    (0 < count_in counts (file_of call) → IsApplied call old new) × (count_in counts (file_of call) ≡ 0 → SameBytes old new)

here : (left later : BTreeMap ℕ ℕ) (old new : FileMap) (state : State) (call : Call) (calls : List Call) → IsRedone left old state (call ∷ calls)
    → ((file : ℕ) → count_in later file ≡ count_in left file - syncs_in file call) → Redoes call left old new
    → bytes_in new (file_of call) ≡ right_bytes (count_in later (file_of call)) (state_after state call (file_of call))
here left later old new state call calls so_far counts redoes =
    let file : ℕ = file_of call in
    redone_file call (count_in left file) (bytes_in old file) (bytes_in new file) (state file) (so_far.right file)
    (omega (arith, so_far.counted file, syncs_in-here call))
    (λ some. redoes.0 some file ∙ choose_same file (bytes_after call (bytes_in old file)) (bytes_in old file))
    (λ none. redoes.1 none file)
    ∙ ap (λ n. right_bytes n (changed_by call (state file))) (ap (λ n. count_in left file - n) (sym (syncs_in-here call)) ∙ sym (counts file))
    ∙ ap (right_bytes (count_in later file)) (sym (choose_same file (changed_by call (state file)) (state file)))

elsewhere : (left later : BTreeMap ℕ ℕ) (old new : FileMap) (state : State) (call : Call) (calls : List Call) → IsRedone left old state (call ∷ calls)
    → ((file : ℕ) → count_in later file ≡ count_in left file - syncs_in file call) → Redoes call left old new
    → (file : ℕ) → file ≢ file_of call → bytes_in new file ≡ right_bytes (count_in later file) (state_after state call file)
elsewhere left later old new state call calls so_far counts redoes file apart =
    let same : bytes_in new file ≡ bytes_in old file =
    elim (cases_lt 0 (count_in left (file_of call))) [
      | inl some ↦ redoes.0 some file ∙ choose_other file (file_of call) (bytes_after call (bytes_in old file)) (bytes_in old file) apart
      | inr none ↦ redoes.1 (omega arith) file
    ] in
    let count : count_in left file ≡ count_in later file = omega (arith, counts file, syncs_in-elsewhere file call apart) in
    same ∙ so_far.right file ∙ ap (λ n. right_bytes n (state file)) count
    ∙ ap (right_bytes (count_in later file)) (sym (choose_other file (file_of call) (changed_by call (state file)) (state file) apart))

redone_step : (left later : BTreeMap ℕ ℕ) (old new : FileMap) (state : State) (call : Call) (calls : List Call) → IsRedone left old state (call ∷ calls)
    → ((file : ℕ) → count_in later file ≡ count_in left file - syncs_in file call) → Redoes call left old new
    → IsRedone later new (state_after state call) calls
redone_step left later old new state call calls so_far counts redoes = record {
  counted = λ file. omega (arith, so_far.counted file, counts file);
  right = λ file. elim (cases_eq file (file_of call)) [
    | inl same ↦
        let P : ℕ → Type 0 = λ one. bytes_in new one ≡ right_bytes (count_in later one) (state_after state call one) in
        subst P (sym same) (here left later old new state call calls so_far counts redoes)
    | inr apart ↦ elsewhere left later old new state call calls so_far counts redoes file apart
  ];
}

-- ---- the loop

abbrev pub RedoneSoFar : (ℕ → List ℕ) → List Call → ℕ → BTreeMap ℕ ℕ → FileMap → Type 0
RedoneSoFar first calls i left bytes = IsRedone left bytes (replayed (begun first) (take i calls)).now (drop i calls)

pub redone_begins : (first : ℕ → List ℕ) (calls : List Call) (left : BTreeMap ℕ ℕ) (bytes : FileMap) → AreCounted left calls
    → ((file : ℕ) → bytes_in bytes file ≡ first file) → RedoneSoFar first calls 0 left bytes
redone_begins first calls left bytes counted same = record {
  counted = counted;
  right = λ file. same file ∙ sym (right_stored (count_in left file) (first file));
}

pub redone_more : (first : ℕ → List ℕ) (calls : List Call) (i : ℕ) (call : Call) (left later : BTreeMap ℕ ℕ) (old new : FileMap)
    → i < length calls → call ≡ get_or calls i call → RedoneSoFar first calls i left old
    → ((file : ℕ) → count_in later file ≡ count_in left file - syncs_in file call)
    → (0 < count_in left (file_of call) → IsApplied call old new) → (count_in left (file_of call) ≡ 0 → SameBytes old new)
    → RedoneSoFar first calls (i + 1) later new
redone_more first calls i call left later old new within is so_far counts done kept =
    let P : List Call → Type 0 = λ rest. IsRedone left old (replayed (begun first) (take i calls)).now rest in
    let rest : drop i calls ≡ call ∷ drop (i + 1) calls = drop_more calls i call within ∙ ap (λ one. one ∷ drop (i + 1) calls) (sym is) in
    let done_calls : take (i + 1) calls ≡ take i calls ++ call ∷ [] = take_more calls i call within ∙ ap (λ one. take i calls ++ one ∷ []) (sym is) in
    let Q : Told → Type 0 = λ told. IsRedone later new told.now (drop (i + 1) calls) in
    subst Q (sym (ap (replayed (begun first)) done_calls ∙ replayed-push (begun first) (take i calls) call))
    (redone_step left later old new (replayed (begun first) (take i calls)).now call (drop (i + 1) calls) (subst P rest so_far) counts (done, kept))

pub redone_ends : (first : ℕ → List ℕ) (calls : List Call) (i : ℕ) (left : BTreeMap ℕ ℕ) (bytes : FileMap) → length calls ≤ i → RedoneSoFar first calls i left bytes
    → (file : ℕ) → bytes_in bytes file ≡ ((replayed (begun first) calls).now file).stored
redone_ends first calls i left bytes end so_far file =
    let none : count_in left file ≡ 0 = so_far.counted file ∙ ap (syncs_of file) (drop_all i calls end) in
    so_far.right file ∙ right_none (count_in left file) ((replayed (begun first) (take i calls)).now file) none
    ∙ ap (λ done. ((replayed (begun first) done).now file).stored) (take_all i calls end)
