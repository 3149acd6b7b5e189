-- The windows are read one after the other, and what they gave is made one.
use Rattle.std.proofs.Common.{◌≡◌, ◌+◌, ◌<◌, ◌≤◌, ℕ, zero, suc, List, [], ◌∷◌, ◌++◌, length, take, drop, get_or, refl, sym, ap, ◌∙◌, subst, arith, inl, inr, append_assoc}
use Rattle.std.specs.Prelude.{◌⊎◌, None, Result, Ok, Err}
use Rattle.std.specs.List.{AllByRecursion}
use Rattle.std.proofs.lemmas.List.{append-nil, take-append-drop, take_more}
use Rattle.base_core.specs.Lists.{Has}
use Rattle.base_core.specs.Faults.{HasRisen}
use Rattle.fed_bytes.specs.declared.span.Span.{Span}
use Rattle.row_core.specs.declared.rows.Row.{Row}
use Rattle.row_core.specs.declared.rows.Chunk.{Chunk}
use Rattle.row_core.specs.Rows.{StandInOrder, IsWithin, HaveKeys, IsChunk, IsWindow}
use Rattle.window_core.specs.declared.fault.WindowFault.{WindowFault}
use Rattle.window_core.specs.declared.fault.WindowFault.TheVariants.{NoMemory, Failed, Damaged, BadRows}
use Rattle.window_core.specs.Windows.{IsPart, IsPassage, IsCause, IsCountedBy}
use Rattle.row_core.proofs.Lists.{of_each, each, in_one}
use Rattle.window_merge.specs.Merging.{AreEarlier, IsJoin}
use Rattle.window_merge.specs.Together.{AreAdjacent, AreKeptByOne, IsOfOne, rows_of_all}
use Rattle.window_merge.proofs.Joins.{row_of, join_order, part_join, chunk_join}
use Rattle.window_merge.proofs.Passages.{passage_join}

-- what is known of the windows of a kind, over one device
pub record Kind (W : Type 0) : Type 1 where
  pub span_of : W → Span
  pub from_of : W → ℕ
  pub upto_of : W → ℕ
  pub rows_of : W → List Row
  pub stands : W → Type 0
  pub kept : W → Row → Type 0

abbrev pub Adjacent : {W : Type 0} → Kind W → Span → ℕ → List W → ℕ → Type 0
Adjacent kind span from windows upto = AreAdjacent kind.span_of kind.from_of kind.upto_of span from windows upto

abbrev pub Lawful : {W : Type 0} → Kind W → Type 0
Lawful {W} kind = (window : W) → IsWindow (kind.span_of window) (kind.from_of window) (kind.upto_of window) (kind.rows_of window)

-- what a window's chunk says
pub record IsReadOf {W : Type 0} (kind : Kind W) (window : W) (key : List ℕ) (most : ℕ) (chunk : Chunk) : Type 0 where
  pub is_chunk : kind.stands window → IsChunk (kind.rows_of window) key most chunk
  pub part : IsPart (kind.span_of window) (kind.from_of window) (kind.upto_of window) key chunk
  pub passage : IsPassage (kind.span_of window) key most chunk
  pub kept : AllByRecursion (kind.kept window) chunk.rows

-- what the chunk of the first windows says
pub record IsReadOfAll {W : Type 0} (kind : Kind W) (windows front : List W) (key : List ℕ) (most : ℕ) (chunk : Chunk) : Type 0 where
  pub in_order : StandInOrder chunk.rows
  pub is_chunk : AllByRecursion kind.stands windows → IsChunk (rows_of_all kind.rows_of front) key most chunk
  pub part : (span : Span) (from upto : ℕ) → Adjacent kind span from front upto → IsPart span from upto key chunk
  pub passage : (span : Span) (from upto : ℕ) → Adjacent kind span from front upto → IsPassage span key most chunk
  pub kept : AreKeptByOne kind.span_of kind.from_of kind.upto_of kind.kept windows chunk.rows

-- ---- adjacent windows
-- the front of adjacent windows, and the last of them
pub record AreParted {W : Type 0} (kind : Kind W) (span : Span) (from : ℕ) (front : List W) (window : W) (upto : ℕ) : Type 0 where
  pub mid : ℕ
  pub others : Adjacent kind span from front mid
  pub span_is : kind.span_of window ≡ span
  pub from_is : kind.from_of window ≡ mid
  pub upto_is : kind.upto_of window ≡ upto

pub parted : {W : Type 0} (kind : Kind W) (span : Span) (from : ℕ) (front : List W) (window : W) (upto : ℕ) → Adjacent kind span from (front ++ window ∷ []) upto
    → AreParted kind span from front window upto
parted kind span from [] window upto (span_is, from_is, upto_is) = record { mid = from; others = refl; span_is = span_is; from_is = from_is; upto_is = upto_is }
parted kind span from (first ∷ front) window upto (span_is, from_is, rest) =
    let is = parted kind span (kind.upto_of first) front window upto rest in
    record { mid = is.mid; others = (span_is, from_is, is.others); span_is = is.span_is; from_is = is.from_is; upto_is = is.upto_is }

pub adjacent_front : {W : Type 0} (kind : Kind W) (span : Span) (from : ℕ) (front rest : List W) (upto : ℕ) → Adjacent kind span from (front ++ rest) upto
    → (mid : ℕ) × Adjacent kind span from front mid
adjacent_front kind span from [] rest upto adjacent = (from, refl)
adjacent_front kind span from (first ∷ front) rest upto (span_is, from_is, adjacent) =
    let (mid, is) = adjacent_front kind span (kind.upto_of first) front rest upto adjacent in (mid, (span_is, from_is, is))

pub times_rise : {W : Type 0} (kind : Kind W) → Lawful kind → (span : Span) (from : ℕ) (windows : List W) (upto : ℕ) → Adjacent kind span from windows upto → from ≤ upto
times_rise kind laws span from [] upto adjacent = omega (arith, adjacent)
times_rise kind laws span from (window ∷ windows) upto (span_is, from_is, adjacent) =
    let times = (laws window).times in
    let rest = times_rise kind laws span (kind.upto_of window) windows upto adjacent in omega (arith, times, rest, from_is)

row_upto : {W : Type 0} (kind : Kind W) → Lawful kind → (span : Span) (from : ℕ) (windows : List W) (upto : ℕ) → Adjacent kind span from windows upto
    → (row : Row) → Has (rows_of_all kind.rows_of windows) row → row.time ≤ upto
row_upto kind laws span from [] upto adjacent row there = absurd there
row_upto kind laws span from (window ∷ windows) upto (span_is, from_is, adjacent) row there =
    elim (in_one (kind.rows_of window) (rows_of_all kind.rows_of windows) row there) [
      | inl h ↦ let high = (of_each (IsWithin (kind.span_of window) (kind.from_of window) (kind.upto_of window)) (kind.rows_of window) (laws window).within row h).at_most in
          let rest = times_rise kind laws span (kind.upto_of window) windows upto adjacent in omega (arith, high, rest)
      | inr h ↦ row_upto kind laws span (kind.upto_of window) windows upto adjacent row h
    ]

rows_more : {W : Type 0} (rows_of : W → List Row) (front : List W) (window : W) → rows_of_all rows_of (front ++ window ∷ []) ≡ rows_of_all rows_of front ++ rows_of window
rows_more rows_of [] window = append-nil (rows_of window)
rows_more rows_of (first ∷ front) window =
    ap (λ list. rows_of first ++ list) (rows_more rows_of front window) ∙ sym (append_assoc (rows_of first) (rows_of_all rows_of front) (rows_of window))

-- ---- no window yet
no_keys : HaveKeys [] 0
no_keys = ([], (tt, λ key. (λ h. absurd h, λ (row, there, is). absurd there)), refl)

abbrev empty_chunk : Chunk
empty_chunk = record { rows = []; next = None }

pub read_none : {W : Type 0} (kind : Kind W) (windows : List W) (key : List ℕ) (most : ℕ) (rows : List Row) → rows ≡ []
    → IsReadOfAll kind windows [] key most (record { rows = rows; next = None })
read_none kind windows key most rows none = subst (λ list. IsReadOfAll kind windows [] key most (record { rows = list; next = None })) (sym none) (record {
  in_order = tt;
  is_chunk = λ stand. record {
    rest = [];
    count = 0;
    from = (tt, λ row. (λ there. absurd there, λ (there, up_to). there));
    keys = no_keys;
    ends = (refl, omega arith);
  };
  part = λ span from upto adjacent. record { in_order = tt; within = tt; from_key = tt; onward = tt; before_next = tt; next_in = tt };
  passage = λ span from upto adjacent. record { keys = []; rise = tt; from_key = tt; within = tt; rows = tt; passed = omega arith };
  kept = tt;
})

-- ---- one window more
module _ {W : Type 0} (kind : Kind W) (laws : Lawful kind) (windows front : List W) (window : W) (key : List ℕ) (most : ℕ) (before read after : Chunk) where
  -- the rows that were read before are older than those of the next window
  pub read_earlier : (span : Span) (from upto : ℕ) → Adjacent kind span from (front ++ window ∷ []) upto → IsReadOfAll kind windows front key most before → IsReadOf kind window key most read
      → AreEarlier before.rows read.rows
  read_earlier span from upto adjacent all own one other there later =
      let is = parted kind span from front window upto adjacent in
      let low = (of_each (IsWithin span from is.mid) before.rows (all.part span from is.mid is.others).within one there).at_most in
      let high = (of_each (IsWithin (kind.span_of window) (kind.from_of window) (kind.upto_of window)) read.rows own.part.within other later).above in
      let begins = is.from_is in omega (arith, low, high, begins)

  rows_earlier : (span : Span) (from mid upto : ℕ) → Adjacent kind span from front mid → kind.from_of window ≡ mid → AreEarlier (rows_of_all kind.rows_of front) (kind.rows_of window)
  rows_earlier span from mid upto adjacent begins one other there later =
      let low = row_upto kind laws span from front mid adjacent one there in
      let high = (of_each (IsWithin (kind.span_of window) (kind.from_of window) (kind.upto_of window)) (kind.rows_of window) (laws window).within other later).above in
      omega (arith, low, high, begins)

  more_chunk : (span : Span) (from upto : ℕ) → 1 ≤ most → Adjacent kind span from (front ++ window ∷ []) upto → Has windows window → IsReadOfAll kind windows front key most before
      → IsReadOf kind window key most read → IsJoin before read most after → AllByRecursion kind.stands windows → IsChunk (rows_of_all kind.rows_of (front ++ window ∷ [])) key most after
  more_chunk span from upto some adjacent there all own join stand =
      let is = parted kind span from front window upto adjacent in
      subst (λ rows. IsChunk rows key most after) (sym (rows_more kind.rows_of front window))
      (chunk_join key most (rows_of_all kind.rows_of front) (kind.rows_of window) before read after some
      (record { first = all.is_chunk stand; second = own.is_chunk (of_each kind.stands windows stand window there); times = rows_earlier span from is.mid upto is.others is.from_is })
      join)

  more_part : (span : Span) (from upto : ℕ) → 1 ≤ most → Adjacent kind span from (front ++ window ∷ []) upto → IsReadOfAll kind windows front key most before
      → IsReadOf kind window key most read → IsJoin before read most after → IsPart span from upto key after
  more_part span from upto some adjacent all own join =
      let is = parted kind span from front window upto adjacent in
      let times = (laws window).times in
      let begins = is.from_is in
      let ends = is.upto_is in
      part_join span from is.mid upto key most before read after some
      (record {
        first = all.part span from is.mid is.others;
        second = subst (λ s. IsPart s is.mid upto key read) is.span_is
            (subst (λ n. IsPart (kind.span_of window) n upto key read) is.from_is (subst (λ n. IsPart (kind.span_of window) (kind.from_of window) n key read) is.upto_is own.part));
        begins = times_rise kind laws span from front is.mid is.others;
        ends = omega (arith, times, begins, ends);
      })
      join

  more_passage : (span : Span) (from upto : ℕ) → Adjacent kind span from (front ++ window ∷ []) upto → IsReadOfAll kind windows front key most before
      → IsReadOf kind window key most read → IsJoin before read most after → IsPassage span key most after
  more_passage span from upto adjacent all own join =
      let is = parted kind span from front window upto adjacent in
      passage_join span key most before read after (all.passage span from is.mid is.others) (subst (λ s. IsPassage s key most read) is.span_is own.passage) join

  kept_by : Has windows window → IsReadOfAll kind windows front key most before → IsReadOf kind window key most read → (row : Row) → Has before.rows row ⊎ Has read.rows row
      → IsOfOne (λ w. IsWithin (kind.span_of w) (kind.from_of w) (kind.upto_of w) row × kind.kept w row) windows
  kept_by there all own row (inl h) =
      of_each (λ (r : Row). IsOfOne (λ w. IsWithin (kind.span_of w) (kind.from_of w) (kind.upto_of w) r × kind.kept w r) windows) before.rows all.kept row h
  kept_by there all own row (inr h) = (
    window,
    there,
    (of_each (IsWithin (kind.span_of window) (kind.from_of window) (kind.upto_of window)) read.rows own.part.within row h, of_each (kind.kept window) read.rows own.kept row h),
  )

  pub read_more : (span : Span) (from upto : ℕ) → 1 ≤ most → Adjacent kind span from (front ++ window ∷ []) upto → Has windows window → IsReadOfAll kind windows front key most before
      → IsReadOf kind window key most read → IsJoin before read most after → IsReadOfAll kind windows (front ++ window ∷ []) key most after
  read_more span from upto some adjacent there all own join = record {
    in_order = join_order before read after most join;
    is_chunk = more_chunk span from upto some adjacent there all own join;
    part = λ s a b are. more_part s a b some are all own join;
    passage = λ s a b are. more_passage s a b are all own join;
    kept = each (λ row. IsOfOne (λ w. IsWithin (kind.span_of w) (kind.from_of w) (kind.upto_of w) row × kind.kept w row) windows) after.rows
        (λ row h. kept_by there all own row (row_of before read after most row join h));
  }

-- ---- by the window at an index
pub has_at : {W : Type 0} (windows : List W) (index : ℕ) (window : W) → index < length windows → window ≡ get_or windows index window → Has windows window
has_at [] index window within is = absurd (omega (arith, within))
has_at (first ∷ windows) zero window within is = inl (sym is)
has_at (first ∷ windows) (suc index) window within is = inr (has_at windows index window (omega (arith, within)) is)

pub taken_more : {W : Type 0} (windows : List W) (index : ℕ) (window : W) → index < length windows → window ≡ get_or windows index window → take (index + 1) windows ≡ take index windows ++ window ∷ []
taken_more windows index window within is = take_more windows index window within ∙ ap (λ w. take index windows ++ w ∷ []) (sym is)

pub adjacent_taken : {W : Type 0} (kind : Kind W) (span : Span) (from upto : ℕ) (windows : List W) (index : ℕ) (window : W) → index < length windows → window ≡ get_or windows index window
    → Adjacent kind span from windows upto → (mid : ℕ) × Adjacent kind span from (take index windows ++ window ∷ []) mid
adjacent_taken kind span from upto windows index window within is adjacent =
    let (mid, front) = adjacent_front kind span from (take (index + 1) windows) (drop (index + 1) windows) upto
    (subst (λ list. Adjacent kind span from list upto) (sym (take-append-drop (index + 1) windows)) adjacent) in
    (mid, subst (λ list. Adjacent kind span from list mid) (taken_more windows index window within is) front)

-- ---- faults
risen_after : (a b d : ℕ) → a ≤ b → HasRisen b d → HasRisen a d
risen_after a b d up (inl less) = inl (omega (arith, up, less))
risen_after a b d up (inr last) = inr last

pub counted_after : {T : Type 0} (a b d : ℕ) (result : Result T WindowFault) → a ≤ b → IsCountedBy b d result → IsCountedBy a d result
counted_after a b d result up is = record { later = let later = is.later in omega (arith, up, later); cause = λ e. risen_after a b d up (is.cause e) }

pub cause_of_one : {W : Type 0} (bad : W → ℕ → Type 0) (windows : List W) (window : W) → Has windows window → (fault : WindowFault) → IsCause (bad window) fault
    → IsCause (λ block. IsOfOne (λ w. bad w block) windows) fault
cause_of_one bad windows window there NoMemory is = is
cause_of_one bad windows window there Failed is = is
cause_of_one bad windows window there (Damaged block kept found) is = is
cause_of_one bad windows window there (BadRows block) is = (window, there, is)

pub ok_is_no_err : {T E : Type 0} (value : T) (fault : E) → Ok value ≡ Err fault → ⊥
ok_is_no_err value fault e = cc
