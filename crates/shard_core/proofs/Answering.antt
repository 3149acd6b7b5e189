-- What the windows of a shard answer together is what the history says.
use Rattle.std.proofs.Common.{◌≡◌, ◌↔◌, ◌<◌, ◌≤◌, ℕ, List, [], ◌∷◌, ◌++◌, map, length, take, drop, refl, sym, ap, ◌∙◌, subst, arith, inl, inr}
use Rattle.std.specs.Prelude.{Option, Some, None}
use Rattle.std.specs.List.{AllByRecursion}
use Rattle.std.proofs.lemmas.List.{take-append-drop, length-take-le}
use Rattle.base_core.specs.Lists.{Has}
use Rattle.fed_bytes.specs.declared.span.Span.{Span}
use Rattle.fed_bytes.specs.Keys.{IsIn}
use Rattle.row_core.specs.declared.rows.Row.{Row}
use Rattle.row_core.specs.declared.rows.Cell.{Cell}
use Rattle.row_core.specs.declared.rows.Cell.TheVariants.{Value, Deleted}
use Rattle.row_core.specs.declared.rows.Chunk.{Chunk}
use Rattle.row_core.specs.Rows.{IsWithin, IsLast}
use Rattle.row_core.proofs.Lists.{of_each, each, in_front, behind, in_one}
use Rattle.window_merge.specs.Together.{AreAdjacent as AdjacentBy, rows_of_all}
use Rattle.window_merge.specs.Values.{IsValueCell, IsValueAt, IsPassed, AreValuesAt}
use Rattle.change_model.specs.History.{History}
use Rattle.change_model.specs.IndexRows.{IsLastRow}
use Rattle.row_core.specs.declared.rows.Index.{Index}
use Rattle.change_model.specs.Laws.{IsWritable, IsValue}
use Rattle.change_model.specs.Windows.{WindowData, MayBeFound, WindowStandsFor}
use Rattle.change_model.specs.WindowLaws.{AreAdjacent, ServesKey, HaveNone, IsFromNewest, IsLastAmong}
use Rattle.change_model.proofs.AdjacentWindows.{last_among_law}
use Rattle.change_model.proofs.Newest.{IsLastRow-one, IsLastRow-append}
use Rattle.change_model.proofs.WindowAnswers.{some_last}
use Rattle.disk_core.specs.Moments.{Told}
use Rattle.shard_core.specs.declared.window.AnyWindow.{AnyWindow}
use Rattle.shard_core.specs.declared.window.AnyWindow.TheVariants.{Live}
use Rattle.shard_core.specs.contracts.window.AnyWindowWindow.TheImpl as any_window
use Rattle.shard_core.specs.Shards.{ShardData, IsOver, HaveFloorsUpTo, ShardStandsFor}
use Rattle.shard_core.specs.Reading.{shard_rows, IsAnswered, IsLastValue, AreLastValues}
use Rattle.shard_core.specs.Viewing.{data_of}

abbrev rows_in : List WindowData → List Row
rows_in windows = rows_of_all (λ window. window.rows) windows

-- ---- rows of several windows
row_has : (windows : List WindowData) (window : WindowData) (row : Row) → Has windows window → Has window.rows row → Has (rows_in windows) row
row_has [] window row there stands = absurd there
row_has (first ∷ windows) window row (inl e) stands =
    let Stands : WindowData → Type 0 = λ w. Has w.rows row in in_front first.rows (rows_in windows) row (subst Stands (sym e) stands)
row_has (first ∷ windows) window row (inr there) stands = behind first.rows (rows_in windows) row (row_has windows window row there stands)

row_above : (span : Span) (windows : List WindowData) (from upto : ℕ) → AreAdjacent from windows upto → AllByRecursion (IsOver span) windows → (row : Row) → Has (rows_in windows) row → from < row.time
row_above span [] from upto adjacent over row there = absurd there
row_above span (window ∷ windows) from upto (begins, adjacent) over row there =
    elim (in_one window.rows (rows_in windows) row there) [
      | inl h ↦ let above = (of_each (IsWithin window.span window.from window.upto) window.rows over.0.window_is.within row h).above in omega (arith, above, begins)
      | inr h ↦ let later = row_above span windows window.upto upto adjacent over.1 row h in
          let times = over.0.window_is.times in omega (arith, later, times, begins)
    ]

pub row_in : (span : Span) (windows : List WindowData) → AllByRecursion (IsOver span) windows → (row : Row) → Has (rows_in windows) row → IsIn span row.key
row_in span [] over row there = absurd there
row_in span (window ∷ windows) over row there =
    elim (in_one window.rows (rows_in windows) row there) [
      | inl h ↦ subst (λ s. IsIn s row.key) over.0.span_is (of_each (IsWithin window.span window.from window.upto) window.rows over.0.window_is.within row h).key
      | inr h ↦ row_in span windows over.1 row h
    ]

-- ---- the newest window with a row of the key
none_among : (windows : List WindowData) (key : List ℕ) (time : ℕ) → IsLast (rows_in windows) key time None → HaveNone key time windows
none_among windows key time none = each (λ window. IsLast window.rows key time None) windows (λ window there row stands at. none row (row_has windows window row there stands) at)

some_among : (span : Span) (windows : List WindowData) (from upto : ℕ) (key : List ℕ) (time : ℕ) (row : Row) → AreAdjacent from windows upto → AllByRecursion (IsOver span) windows
    → IsLast (rows_in windows) key time (Some row) → IsFromNewest windows key time row
some_among span [] from upto key time row adjacent over last = absurd last.0
some_among span (window ∷ windows) from upto key time row (begins, adjacent) over last =
    elim (in_one window.rows (rows_in windows) row last.0) [
      | inl h ↦ record {
        older = [];
        window = window;
        newer = windows;
        windows_are = refl;
        last = (h, last.1, λ other there at. last.2 other (in_front window.rows (rows_in windows) other there) at);
        none_newer = each (λ newer. IsLast newer.rows key time None) windows (λ newer there other stands at.
            let among = row_has windows newer other there stands in
            let high = last.2 other (behind window.rows (rows_in windows) other among) at in
            let low = row_above span windows window.upto upto adjacent over.1 other among in
            let most = (of_each (IsWithin window.span window.from window.upto) window.rows over.0.window_is.within row h).at_most in
            absurd (omega (arith, high, low, most)));
      }
      | inr h ↦ let rest = some_among span windows window.upto upto key time row adjacent over.1
          (h, last.1, λ other there at. last.2 other (behind window.rows (rows_in windows) other there) at) in
          record {
            older = window ∷ rest.older;
            window = rest.window;
            newer = rest.newer;
            windows_are = ap (λ list. window ∷ list) rest.windows_are;
            last = rest.last;
            none_newer = rest.none_newer;
          }
    ]

among : (span : Span) (windows : List WindowData) (upto : ℕ) (key : List ℕ) (time : ℕ) (found : Option Row) → AreAdjacent 0 windows upto → AllByRecursion (IsOver span) windows
    → IsLast (rows_in windows) key time found → IsLastAmong windows key time found
among span windows upto key time None adjacent over last = none_among windows key time last
among span windows upto key time (Some row) adjacent over last = some_among span windows 0 upto key time row adjacent over last

-- ---- cells
value_of : (cell : Cell) → IsValueCell cell → (value : List ℕ) × (cell ≡ Value value)
value_of (Value value) h = (value, refl)
value_of Deleted h = absurd h

value_cell : (cell : Cell) (value : List ℕ) → cell ≡ Value value → IsValueCell cell
value_cell cell value e = subst IsValueCell (sym e) tt

get_row : Row → Option Row → Row
get_row other None = other
get_row other (Some row) = row

one_row : (row other : Row) → Some row ≡ Some other → row ≡ other
unfolding get_row
one_row row other e = ap (get_row row) e

not_deleted : (cell : Cell) (value : List ℕ) → cell ≡ Value value → cell ≡ Deleted → ⊥
not_deleted cell value p q = subst IsValueCell (sym p ∙ q) tt

-- what is found for a value is it
found_by : (rows : List Row) (key : List ℕ) (time floor : ℕ) (row : Row) (found : Option Row) → IsLast rows key time found → MayBeFound 0 floor (Some row) found → IsValue (Some row)
    → IsLast rows key time (Some row)
found_by rows key time floor row None last may (value, is) = absurd (not_deleted row.cell value is may.deleted)
found_by rows key time floor row (Some found) last may value = subst (λ r. IsLast rows key time (Some r)) (sym (one_row row found may)) last

-- ---- the history up to a time
-- windows that stand for a history end within it
ends_within : (index : Index) (history : History) (windows : List WindowData) (from upto : ℕ) → AreAdjacent from windows upto → AllByRecursion (WindowStandsFor index history) windows
    → from ≤ length history → upto ≤ length history
ends_within index history [] from upto adjacent stand begins = omega (arith, begins, adjacent)
ends_within index history (window ∷ windows) from upto (same, adjacent) stand begins = ends_within index history windows window.upto upto adjacent stand.1 stand.0.known

last_upto : (index : Index) (history : History) (key : List ℕ) (time : ℕ) (found : Option Row) → time ≤ length history
    → (IsLastRow index history key time found ↔ IsLastRow index (take time history) key time found)
last_upto index history key time found known =
    let long : length (take time history) ≡ time = length-take-le time history known in
    subst (λ (whole : History). IsLastRow index whole key time found ↔ IsLastRow index (take time history) key time found) (take-append-drop time history)
    (IsLastRow-append index (take time history) (drop time history) key time found (omega (arith, long)))

-- ---- a shard that stands for a history, which may be written up to a time
module _ (history : History) (floor : ℕ) (shard : ShardData) (time : ℕ) (stands : ShardStandsFor history floor shard) (writable : IsWritable (take time history)) (low : HaveFloorsUpTo time shard)
    (reached : time ≤ shard.upto) where
  known : time ≤ length history
  known =
      let ends : shard.upto ≤ length history = ends_within shard.index history shard.windows 0 shard.upto stands.shard_is.adjacent stands.stand (omega arith) in omega (arith, ends, reached)

  upto : (key : List ℕ) (found : Option Row) → (IsLastRow shard.index history key time found ↔ IsLastRow shard.index (take time history) key time found)
  upto key found = last_upto shard.index history key time found known

  serves : (key : List ℕ) → IsIn shard.span key → AllByRecursion (ServesKey shard.index history key time) shard.windows
  serves key within = each (ServesKey shard.index history key time) shard.windows (λ window there. record {
    stands = of_each (WindowStandsFor shard.index history) shard.windows stands.stand window there;
    key_in = subst (λ s. IsIn s key) (sym (of_each (IsOver shard.span) shard.windows stands.shard_is.over window there).span_is) within;
    low = of_each (λ (w : WindowData). w.floor ≤ time) shard.windows low window there;
  })

  answers : (key : List ℕ) (found : Option Row) → IsIn shard.span key → IsLast (shard_rows shard) key time found
      → (last : Option Row) × IsLastRow shard.index history key time last × MayBeFound 0 time last found
  answers key found within last =
      last_among_law shard.index history shard.windows shard.upto time time key found (serves key within) stands.shard_is.adjacent (omega arith) reached
      (among shard.span shard.windows shard.upto key time found stands.shard_is.adjacent stands.shard_is.over last)

  to_history : (span : Span) (next : Option (List ℕ)) (row : Row) → IsValueAt (shard_rows shard) time row × IsPassed span next row.key
      → IsLastValue (take time history) shard time row × IsAnswered shard span next row.key
  to_history span next row ((last, value), passed) =
      let own = row_in shard.span shard.windows stands.shard_is.over row last.0 in
      let (found, is, may) = answers row.key (Some row) own last in (
        ((upto row.key (Some row)).0 (subst (IsLastRow shard.index history row.key time) may is), value_of row.cell value),
        record { asked = passed.0; own = own; before = passed.1 },
      )

  of_history : (span : Span) (next : Option (List ℕ)) (row : Row) → IsLastValue (take time history) shard time row × IsAnswered shard span next row.key
      → IsValueAt (shard_rows shard) time row × IsPassed span next row.key
  of_history span next row ((last, value), answered) =
      let (found, own) = some_last (shard_rows shard) row.key time in
      let (is, is_last, may) = answers row.key found answered.own own in
      let same = IsLastRow-one shard.index (take time history) row.key time is (Some row) writable ((upto row.key is).0 is_last) last in
      let newest = found_by (shard_rows shard) row.key time time row found own (subst (λ l. MayBeFound 0 time l found) same may) value in
      ((newest, value_cell row.cell value.0 value.1), (answered.asked, answered.before))

  pub last_values : (span : Span) (most : ℕ) (chunk : Chunk) → AreValuesAt (shard_rows shard) span time most chunk
      → AreLastValues (take time history) shard span time chunk
  last_values span most chunk is = record {
    in_order = is.in_order;
    exactly = λ row. (λ there. to_history span chunk.next row ((is.exactly row).0 there), λ h. (is.exactly row).1 (of_history span chunk.next row h));
  }

-- ---- the windows in the code
pub same_rows : (windows : List AnyWindow) → rows_of_all (any_window.ghosts).rows windows ≡ rows_in (map data_of windows)
same_rows [] = refl
same_rows (window ∷ windows) = ap (λ list. (any_window.ghosts).rows window ++ list) (same_rows windows)

pub adjacent_by : (span : Span) (windows : List AnyWindow) (from upto : ℕ) → AreAdjacent from (map data_of windows) upto → AllByRecursion (IsOver span) (map data_of windows)
    → AdjacentBy (any_window.ghosts).span (any_window.ghosts).from (any_window.ghosts).upto span from windows upto
adjacent_by span [] from upto adjacent over = adjacent
adjacent_by span (window ∷ windows) from upto (begins, adjacent) over = (over.0.span_is, begins, adjacent_by span windows ((any_window.ghosts).upto window) upto adjacent over.1)

stands_one : (window : AnyWindow) (told : Option Told) → (any_window.ghosts).stands window told
stands_one (Live live) told = tt

-- windows in memory stand on each device
pub all_stand : (windows : List AnyWindow) (told : Option Told) → AllByRecursion (λ window. (any_window.ghosts).stands window told) windows
all_stand [] told = tt
all_stand (window ∷ windows) told = (stands_one window told, all_stand windows told)
