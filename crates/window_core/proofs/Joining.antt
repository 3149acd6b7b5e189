-- A run that is put behind others, and merged with the last of them.
use Rattle.std.proofs.Common.{◌≡◌, ◌↔◌, ◌+◌, ◌<◌, ◌≤◌, ℕ, List, [], ◌∷◌, ◌++◌, length, take, drop, set, get_or, refl, sym, ap, ◌∙◌, subst, arith, inl, inr}
use Rattle.std.specs.Prelude.{◌⊎◌}
use Rattle.std.specs.List.{AllByRecursion}
use Rattle.std.proofs.lemmas.List.{take-append-drop, take_more, drop_more, take_all, drop_all, length-take-le, get_or_read}
use Rattle.base_core.specs.Lists.{Has}
use Rattle.row_core.specs.declared.rows.Row.{Row}
use Rattle.row_core.specs.Rows.{StandInOrder}
use Rattle.window_core.specs.Runs.{all_of, run_at, AreOlder, RunsRise, AreRuns, IsMerge}
use Rattle.row_core.proofs.Lists.{of_each, each, all_of_both, in_front, behind, in_one}
use Rattle.window_core.proofs.Arranging.{older_of, are_older, older_runs, all_of-append, all_of_one}

-- the runs from `kept` on and the new rows are in one run
pub record IsJoined (runs : List (List Row)) (added : List Row) (kept : ℕ) (run : List Row) : Type 0 where
  pub within : kept ≤ length runs
  pub in_order : StandInOrder run
  pub older : (one other : Row) → Has (all_of (take kept runs)) one → Has run other → one.time < other.time
  pub has : (row : Row) → (Has run row ↔ (Has (all_of (drop kept runs)) row ⊎ Has added row))

pub joined_none : (runs : List (List Row)) (added : List Row) (kept : ℕ) → StandInOrder added → AreOlder (all_of runs) added → kept ≡ length runs → IsJoined runs added kept added
joined_none runs added kept order older all = record {
  within = omega (arith, all);
  in_order = order;
  older = λ one other there later.
      let In : List (List Row) → Type 0 = λ list. Has (all_of list) one in older_of (all_of runs) added older one other (subst In (take_all kept runs (omega (arith, all))) there) later;
  has = λ row. let In : List (List Row) → Type 0 = λ list. Has (all_of list) row in (
    λ there. inr there,
    elim [ inl h ↦ absurd (subst In (drop_all kept runs (omega (arith, all))) h) | inr h ↦ h ],
  );
}

in_taken : (runs : List (List Row)) (next : ℕ) (row : Row) → next < length runs → Has (all_of (take next runs)) row ⊎ Has (run_at runs next) row → Has (all_of (take (next + 1) runs)) row
in_taken runs next row within there =
    let In : List (List Row) → Type 0 = λ list. Has (all_of list) row in
    subst In (sym (take_more runs next [] within))
    ((all_of-append (take next runs) (run_at runs next ∷ []) row).1
    (elim there [ inl h ↦ inl h | inr h ↦ inr ((all_of_one (run_at runs next) row).1 h) ]))

pub last_older : (runs : List (List Row)) (added : List Row) (kept next : ℕ) (run : List Row) → IsJoined runs added kept run → kept ≡ next + 1 → AreOlder (run_at runs next) run
last_older runs added kept next run is step =
    are_older (run_at runs next) run (λ one other there later. is.older one other
    (subst (λ n. Has (all_of (take n runs)) one) (sym step) (in_taken runs next one (let within = is.within in omega (arith, within, step)) (inr there))) later)

older_by : (runs : List (List Row)) (added : List Row) (kept next : ℕ) (run : List Row) (one other : Row) → AreRuns runs → IsJoined runs added kept run → kept ≡ next + 1
    → next < length runs → Has (all_of (take next runs)) one → Has (run_at runs next) other ⊎ Has run other → one.time < other.time
older_by runs added kept next run one other are is step within there (inl own) =
    let whole : take next runs ++ drop next runs ≡ runs = take-append-drop next runs in
    let Rise : List (List Row) → Type 0 = λ list. RunsRise list in
    let In : List (List Row) → Type 0 = λ list. Has (all_of list) other in
    older_runs (take next runs) (drop next runs) (subst Rise (sym whole) are.1) one other there
    (subst In (sym (drop_more runs next [] within)) (in_front (run_at runs next) (all_of (drop (next + 1) runs)) other own))
older_by runs added kept next run one other are is step within there (inr later) =
    is.older one other (subst (λ n. Has (all_of (take n runs)) one) (sym step) (in_taken runs next one within (inl there))) later

has_by : (runs : List (List Row)) (added : List Row) (kept next : ℕ) (run made : List Row) (row : Row) → IsJoined runs added kept run → kept ≡ next + 1 → next < length runs
    → IsMerge (run_at runs next) run made → (Has made row ↔ (Has (all_of (drop next runs)) row ⊎ Has added row))
has_by runs added kept next run made row is step within merge =
    let In : List (List Row) → Type 0 = λ list. Has (all_of list) row in
    let At : ℕ → Type 0 = λ n. Has (all_of (drop n runs)) row in
    let left = drop_more runs next [] within in (
      λ there. elim ((merge.has row).0 there) [
        | inl own ↦ inl (subst In (sym left) (in_front (run_at runs next) (all_of (drop (next + 1) runs)) row own))
        | inr h ↦ (elim ((is.has row).0 h) [
          | inl later ↦ inl (subst In (sym left) (behind (run_at runs next) (all_of (drop (next + 1) runs)) row (subst At step later)))
          | inr new ↦ inr new
        ])
      ],
      elim [
        | inl there ↦ (elim (in_one (run_at runs next) (all_of (drop (next + 1) runs)) row (subst In left there)) [
          | inl own ↦ (merge.has row).1 (inl own)
          | inr later ↦ (merge.has row).1 (inr ((is.has row).1 (inl (subst At (sym step) later))))
        ])
        | inr new ↦ (merge.has row).1 (inr ((is.has row).1 (inr new)))
      ],
    )

pub joined_more : (runs : List (List Row)) (added : List Row) (kept next : ℕ) (run made : List Row) → AreRuns runs → IsJoined runs added kept run → kept ≡ next + 1
    → IsMerge (run_at runs next) run made → IsJoined runs added next made
joined_more runs added kept next run made are is step merge =
    let within : next < length runs = let wide = is.within in omega (arith, wide, step) in
    record {
      within = omega (arith, within);
      in_order = merge.in_order;
      older = λ one other there later. older_by runs added kept next run one other are is step within there ((merge.has other).0 later);
      has = λ row. has_by runs added kept next run made row is step within merge;
    }

-- ---- the runs with the new one
rise_more : (runs : List (List Row)) (run : List Row) → RunsRise runs → ((one other : Row) → Has (all_of runs) one → Has run other → one.time < other.time) → RunsRise (runs ++ run ∷ [])
rise_more [] run rise older = (are_older run [] (λ one other there later. absurd later), tt)
rise_more (first ∷ runs) run rise older = (
  are_older first (all_of (runs ++ run ∷ [])) (λ one other there later. elim ((all_of-append runs (run ∷ []) other).0 later) [
    | inl h ↦ older_of first (all_of runs) rise.0 one other there h
    | inr h ↦ older one other (in_front first (all_of runs) one there) ((all_of_one run other).0 h)
  ]),
  rise_more runs run rise.1 (λ one other there later. older one other (behind first (all_of runs) one there) later),
)

rise_front : (runs others : List (List Row)) → RunsRise (runs ++ others) → RunsRise runs
rise_front [] others rise = tt
rise_front (run ∷ runs) others rise = (
  are_older run (all_of runs) (λ one other there later. older_of run (all_of (runs ++ others)) rise.0 one other there ((all_of-append runs others other).1 (inl later))),
  rise_front runs others rise.1,
)

front_runs : (runs : List (List Row)) (kept : ℕ) → AreRuns runs → AreRuns (take kept runs)
front_runs runs kept are =
    let whole = sym (take-append-drop kept runs) in
    let Rise : List (List Row) → Type 0 = λ list. RunsRise list in
    let Stand : List (List Row) → Type 0 = λ list. AllByRecursion StandInOrder list in
    let both = subst Stand whole are.0 in (
      each StandInOrder (take kept runs) (λ run there. of_each StandInOrder (take kept runs ++ drop kept runs) both run (in_front (take kept runs) (drop kept runs) run there)),
      rise_front (take kept runs) (drop kept runs) (subst Rise whole are.1),
    )

pub joined_runs : (runs made : List (List Row)) (added : List Row) (kept : ℕ) (run : List Row) → AreRuns runs → IsJoined runs added kept run → made ≡ take kept runs ++ run ∷ [] → AreRuns made
joined_runs runs made added kept run are is put =
    let front = front_runs runs kept are in
    let Are : List (List Row) → Type 0 = λ list. AreRuns list in
    subst Are (sym put) (all_of_both StandInOrder (take kept runs) (run ∷ []) front.0 (is.in_order, tt), rise_more (take kept runs) run front.1 is.older)

pub joined_has : (runs made : List (List Row)) (added : List Row) (kept : ℕ) (run : List Row) → IsJoined runs added kept run → made ≡ take kept runs ++ run ∷ []
    → (row : Row) → (Has (all_of made) row ↔ (Has (all_of runs) row ⊎ Has added row))
joined_has runs made added kept run is put row =
    let In : List (List Row) → Type 0 = λ list. Has (all_of list) row in
    let whole = take-append-drop kept runs in (
      λ there. elim ((all_of-append (take kept runs) (run ∷ []) row).0 (subst In put there)) [
        | inl h ↦ inl (subst In whole ((all_of-append (take kept runs) (drop kept runs) row).1 (inl h)))
        | inr h ↦ (elim ((is.has row).0 ((all_of_one run row).0 h)) [
          | inl later ↦ inl (subst In whole ((all_of-append (take kept runs) (drop kept runs) row).1 (inr later)))
          | inr new ↦ inr new
        ])
      ],
      elim [
        | inl h ↦ subst In (sym put) ((all_of-append (take kept runs) (run ∷ []) row).1
            (elim ((all_of-append (take kept runs) (drop kept runs) row).0 (subst In (sym whole) h)) [
              | inl front ↦ inl front
              | inr later ↦ inr ((all_of_one run row).1 ((is.has row).1 (inl later)))
            ]))
        | inr new ↦ subst In (sym put) ((all_of-append (take kept runs) (run ∷ []) row).1 (inr ((all_of_one run row).1 ((is.has row).1 (inr new)))))
      ],
    )

-- nothing is put where the run is empty
pub nothing_has : (runs : List (List Row)) (added : List Row) → length added ≡ 0 → (row : Row) → (Has (all_of runs) row ↔ (Has (all_of runs) row ⊎ Has added row))
nothing_has runs [] none row = (λ there. inl there, elim [ inl h ↦ h | inr h ↦ absurd h ])
nothing_has runs (first ∷ added) none row = absurd (omega (arith, none))

-- ---- in place of the last runs
set_end : {A : Type 0} (front : List A) (old new : A) → set (front ++ old ∷ []) (length front) new ≡ front ++ new ∷ []
set_end [] old new = refl
set_end (first ∷ front) old new = ap (λ list. first ∷ list) (set_end front old new)

pub set_last : (runs cut : List (List Row)) (kept : ℕ) (run : List Row) → kept < length runs → cut ≡ take (kept + 1) runs → set cut kept run ≡ take kept runs ++ run ∷ []
set_last runs cut kept run within is =
    ap (λ list. set list kept run) (is ∙ take_more runs kept [] within)
    ∙ ap (λ n. set (take kept runs ++ get_or runs kept [] ∷ []) n run) (sym (length-take-le kept runs (omega (arith, within))))
    ∙ set_end (take kept runs) (get_or runs kept []) run

-- ---- a run that was read
pub older_read : (runs : List (List Row)) (added : List Row) (kept next : ℕ) (last run : List Row) → IsJoined runs added kept run → kept ≡ next + 1 → last ≡ get_or runs next last
    → AreOlder last run
older_read runs added kept next last run is step read =
    let within : next < length runs = let wide = is.within in omega (arith, wide, step) in
    subst (λ r. AreOlder r run) (sym (get_or_read runs next last within read [])) (last_older runs added kept next run is step)

pub joined_read : (runs : List (List Row)) (added : List Row) (kept next : ℕ) (last run made : List Row) → AreRuns runs → IsJoined runs added kept run → kept ≡ next + 1
    → last ≡ get_or runs next last → IsMerge last run made → IsJoined runs added next made
joined_read runs added kept next last run made are is step read merge =
    let within : next < length runs = let wide = is.within in omega (arith, wide, step) in
    joined_more runs added kept next run made are is step (subst (λ r. IsMerge r run made) (get_or_read runs next last within read []) merge)
