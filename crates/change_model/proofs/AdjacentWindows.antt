-- Several adjacent windows answer together.
use Rattle.std.proofs.Common.{◌≡◌, ℕ, ◌≤◌, min, List, [], ◌∷◌, ◌++◌, Option, Some, None, sym, subst, arith}
use Rattle.std.specs.List.{AllByRecursion}
use Rattle.row_core.specs.declared.rows.Index.{Index}
use Rattle.row_core.specs.declared.rows.Row.{Row}
use Rattle.row_core.specs.Rows.{IsLast}
use Rattle.change_model.specs.History.{History}
use Rattle.change_model.specs.Windows.{WindowData, IsLastAbove, AnswersFor}
use Rattle.change_model.specs.WindowLaws.{AdjacentWindowsLaw, LastAmongLaw, AreAdjacent, ServesKey, HaveNone, IsLastAmong}
use Rattle.change_model.proofs.WindowAnswers.{last_row_law, AnswersFor-raised, AnswersFor-earlier, AnswersFor-joined}
use Rattle.change_model.proofs.WindowSteps.{nothing_answers}

-- windows end where they begin or later
upto_after : (index : Index) (history : History) (key : List ℕ) (floor : ℕ) (windows : List WindowData) (from upto : ℕ)
    → AllByRecursion (ServesKey index history key floor) windows → AreAdjacent from windows upto → from ≤ upto
upto_after index history key floor [] from upto serve adjacent = omega arith
upto_after index history key floor (window ∷ newer) from upto serve adjacent =
    let rest = upto_after index history key floor newer window.upto upto serve.1 adjacent.1 in
    let times = serve.0.stands.window_is.times in
    let begins = adjacent.0 in omega arith

no_window : (window : WindowData) (older newer : List WindowData) → [] ≡ older ++ window ∷ newer → ⊥
no_window window [] newer e = cc
no_window window (first ∷ older) newer e = cc

-- one window more in front
record IsFront (index : Index) (history : History) (key : List ℕ) (floor time : ℕ) (window : WindowData) (from upto : ℕ) : Type 0 where
  serves : ServesKey index history key floor window
  begins : window.from ≡ from
  ends : window.upto ≤ upto
  up : floor ≤ time

-- the newer windows have a row of the key
by_newer : (index : Index) (history : History) (key : List ℕ) (floor time : ℕ) (window : WindowData) (from upto : ℕ) (row : Row)
    → IsFront index history key floor time window from upto
    → AnswersFor index history key window.upto (min time upto) floor (Some row) → AnswersFor index history key from (min time upto) floor (Some row)
by_newer index history key floor time window from upto row front newer =
    let times = front.serves.stands.window_is.times in
    let begins = front.begins in
    AnswersFor-earlier index history key from window.upto (min time upto) floor row (omega arith) newer

-- they have none
by_window : (index : Index) (history : History) (key : List ℕ) (floor time : ℕ) (window : WindowData) (from upto : ℕ) (found : Option Row)
    → IsFront index history key floor time window from upto
    → AnswersFor index history key window.upto (min time upto) floor None → IsLast window.rows key time found
    → AnswersFor index history key from (min time upto) floor found
by_window index history key floor time window from upto found front newer last =
    let times = front.serves.stands.window_is.times in
    let low = front.serves.low in
    let up = front.up in
    subst (λ above. AnswersFor index history key above (min time upto) floor found) front.begins
    (AnswersFor-joined index history key window.from window.upto upto time floor found times front.ends newer
    (AnswersFor-raised index history key window.from (min time window.upto) window.floor floor found low
    (front.serves.stands.answers key time found front.serves.key_in (omega arith) last)))

-- a row of the newest window that has one stands in the first window or in one behind it
in_windows : (index : Index) (history : History) (key : List ℕ) (floor time : ℕ) (window : WindowData) (newer : List WindowData) (from upto : ℕ) (row : Row)
    → IsFront index history key floor time window from upto
    → ((found : Option Row) → IsLastAmong newer key time found → AnswersFor index history key window.upto (min time upto) floor found)
    → (older : List WindowData) (has : WindowData) (rest : List WindowData) → window ∷ newer ≡ older ++ has ∷ rest → IsLast has.rows key time (Some row) → HaveNone key time rest
    → AnswersFor index history key from (min time upto) floor (Some row)
in_windows index history key floor time window newer from upto row front behind [] has rest are last none =
    let one : window ≡ has = cc in
    let others : newer ≡ rest = cc in
    by_window index history key floor time window from upto (Some row) front
    (behind None (subst (HaveNone key time) (sym others) none))
    (subst (λ (w : WindowData). IsLast w.rows key time (Some row)) (sym one) last)
in_windows index history key floor time window newer from upto row front behind (first ∷ older) has rest are last none =
    let others : newer ≡ older ++ has ∷ rest = cc in
    by_newer index history key floor time window from upto row front
    (behind (Some row) (record { older = older; window = has; newer = rest; windows_are = others; last = last; none_newer = none }))

pub adjacent_windows_law : AdjacentWindowsLaw
adjacent_windows_law index history [] from upto floor time key None serve adjacent up is = nothing_answers index history key from upto time floor None adjacent (λ row there at. there)
adjacent_windows_law index history [] from upto floor time key (Some row) serve adjacent up is = absurd (no_window is.window is.older is.newer is.windows_are)
adjacent_windows_law index history (window ∷ newer) from upto floor time key None serve adjacent up is =
    let front : IsFront index history key floor time window from upto =
    record { serves = serve.0; begins = adjacent.0; ends = upto_after index history key floor newer window.upto upto serve.1 adjacent.1; up = up } in
    by_window index history key floor time window from upto None front
    (adjacent_windows_law index history newer window.upto upto floor time key None serve.1 adjacent.1 up is.1)
    is.0
adjacent_windows_law index history (window ∷ newer) from upto floor time key (Some row) serve adjacent up is =
    let front : IsFront index history key floor time window from upto =
    record { serves = serve.0; begins = adjacent.0; ends = upto_after index history key floor newer window.upto upto serve.1 adjacent.1; up = up } in
    in_windows index history key floor time window newer from upto row front
    (λ found last. adjacent_windows_law index history newer window.upto upto floor time key found serve.1 adjacent.1 up last)
    is.older is.window is.newer is.windows_are is.last is.none_newer

pub last_among_law : LastAmongLaw
last_among_law index history windows upto floor time key found serve adjacent up within is =
    let same : min time upto ≡ time = omega arith in
    let answers = adjacent_windows_law index history windows 0 upto floor time key found serve adjacent up is in
    let last = subst (λ t. IsLastAbove index history key 0 t answers.last) same answers.last_is in
    (answers.last, (last_row_law index history key time answers.last).0 last, answers.found_is)
