-- Rows that are put at the end of flat buffers.
use Rattle.std.proofs.Common.{◌≡◌, ◌+◌, ◌-◌, ◌≤◌, ℕ, List, [], ◌∷◌, ◌++◌, length, take, drop, refl, sym, ap, ◌∙◌, subst, arith, append_assoc, Result, Ok, Err}
use Rattle.std.specs.Prelude.{Option, Some, None, OnOk, OnErr, slice_range}
use Rattle.std.specs.List.{AllByRecursion}
use Rattle.std.proofs.lemmas.List.{map-append, take-append-le, drop-append-le, drop_at, take_at, length-append, length-drop, append-nil}
use Rattle.row_core.specs.declared.rows.Row.{Row}
use Rattle.row_core.specs.declared.rows.Cell.TheVariants.{Value, Deleted}
use Rattle.window_core.specs.declared.packed.Spot.{Spot}
use Rattle.window_core.specs.Packed.{row_with, row_in, rows_in, cell_in, value_length, IsStored}
use Rattle.row_core.proofs.Lists.{each_weaker}

pub on_err : {T E : Type 0} (result : Result T E) (P : Type 0) → P → OnErr result P
on_err (Ok value) P p = tt
on_err (Err fault) P p = p

pub on_ok : {T E : Type 0} (result : Result T E) (P Q : Type 0) → (P → Q) → OnOk result P → OnOk result Q
on_ok (Ok value) P Q f p = f p
on_ok (Err fault) P Q f p = tt

-- ---- a longer buffer
length_dropped : (n : ℕ) (xs : List ℕ) → n ≤ length xs → length (drop n xs) + n ≡ length xs
length_dropped n xs h = let cut = length-drop n xs in omega (arith, cut, h)

range_longer : (xs ys : List ℕ) (from upto : ℕ) → from ≤ upto → upto ≤ length xs → slice_range (xs ++ ys) from upto ≡ slice_range xs from upto
range_longer xs ys from upto low high =
    let rest = length_dropped from xs (omega (arith, low, high)) in
    ap (take (upto - from)) (drop-append-le from xs ys (omega (arith, low, high))) ∙ take-append-le (upto - from) (drop from xs) ys (omega (arith, rest, low, high))

cell_longer : (xs ys : List ℕ) (begins : ℕ) (len : Option ℕ) → begins + value_length len ≤ length xs → cell_in (xs ++ ys) begins len ≡ cell_in xs begins len
cell_longer xs ys begins None h = refl
cell_longer xs ys begins (Some len) h = ap Value (range_longer xs ys begins (begins + len) (omega arith) h)

row_longer : (xs ys : List ℕ) (spot : Spot) → IsStored xs spot → row_in (xs ++ ys) spot ≡ row_in xs spot
row_longer xs ys spot h =
    let key = range_longer xs ys spot.begins (spot.begins + spot.key_len) (omega arith) (omega (arith, h)) in
    let cell = cell_longer xs ys (spot.begins + spot.key_len) spot.value_len h in
    (λ i. row_with (key i) spot.time (cell i))

rows_longer : (xs ys : List ℕ) (spots : List Spot) → AllByRecursion (IsStored xs) spots → rows_in (xs ++ ys) spots ≡ rows_in xs spots
rows_longer xs ys [] all = refl
rows_longer xs ys (spot ∷ spots) all = let one = row_longer xs ys spot all.0 in let others = rows_longer xs ys spots all.1 in (λ i. one i ∷ others i)

stored_longer : (xs ys : List ℕ) (spots : List Spot) → AllByRecursion (IsStored xs) spots → AllByRecursion (IsStored (xs ++ ys)) spots
stored_longer xs ys spots all = each_weaker (IsStored xs) (IsStored (xs ++ ys)) spots (λ spot h. let long = length-append xs ys in omega (arith, long, h)) all

-- after a failure
pub kept_rows : (xs ys zs : List ℕ) (spots same : List Spot) → zs ≡ xs ++ ys → same ≡ spots → AllByRecursion (IsStored xs) spots → rows_in zs same ≡ rows_in xs spots
kept_rows xs ys zs spots same long is all = (λ i. rows_in (long i) (is i)) ∙ rows_longer xs ys spots all

pub kept_stored : (xs ys zs : List ℕ) (spots same : List Spot) → zs ≡ xs ++ ys → same ≡ spots → AllByRecursion (IsStored xs) spots → AllByRecursion (IsStored zs) same
kept_stored xs ys zs spots same long is all =
    let Stored : List ℕ → List Spot → Type 0 = λ bytes list. AllByRecursion (IsStored bytes) list in
    subst (λ list. Stored zs list) (sym is) (subst (λ bytes. Stored bytes spots) (sym long) (stored_longer xs ys spots all))

-- ---- one more row
stored_more : (P : Spot → Type 0) (spots : List Spot) (spot : Spot) → AllByRecursion P spots → P spot → AllByRecursion P (spots ++ spot ∷ [])
stored_more P [] spot all h = (h, tt)
stored_more P (first ∷ spots) spot all h = (all.0, stored_more P spots spot all.1 h)

pub more_stored : (xs ys zs : List ℕ) (spots more : List Spot) (spot : Spot) → zs ≡ xs ++ ys → more ≡ spots ++ spot ∷ [] → AllByRecursion (IsStored xs) spots → IsStored zs spot
    → AllByRecursion (IsStored zs) more
more_stored xs ys zs spots more spot long is all h =
    subst (AllByRecursion (IsStored zs)) (sym is) (stored_more (IsStored zs) spots spot (kept_stored xs ys zs spots spots long refl all) h)

pub more_rows : (xs ys zs : List ℕ) (spots more : List Spot) (spot : Spot) (row : Row) → zs ≡ xs ++ ys → more ≡ spots ++ spot ∷ [] → AllByRecursion (IsStored xs) spots
    → row_in zs spot ≡ row → rows_in zs more ≡ rows_in xs spots ++ row ∷ []
more_rows xs ys zs spots more spot row long is all new =
    let front = kept_rows xs ys zs spots spots long refl all in
    ap (rows_in zs) is ∙ map-append (row_in zs) spots (spot ∷ []) ∙ (λ i. front i ++ new i ∷ [])

-- a list of this length, behind another
range_at : (xs ys zs : List ℕ) (from upto : ℕ) → from ≡ length xs → upto ≡ length xs + length ys → slice_range (xs ++ (ys ++ zs)) from upto ≡ ys
range_at xs ys zs from upto begins ends =
    ap (take (upto - from)) (drop_at xs (ys ++ zs) from (sym begins)) ∙ take_at ys zs (upto - from) (omega (arith, begins, ends))

pub value_row : (bytes key value all : List ℕ) (spot : Spot) (time : ℕ) → all ≡ bytes ++ (key ++ value) → spot.begins ≡ length bytes → spot.key_len ≡ length key
    → spot.value_len ≡ Some (length value) → spot.time ≡ time → row_in all spot ≡ row_with key time (Value value)
value_row bytes key value all spot time whole begins key_len value_len at =
    let first : slice_range all spot.begins (spot.begins + spot.key_len) ≡ key =
    ap (λ list. slice_range list spot.begins (spot.begins + spot.key_len)) whole ∙ range_at bytes key value spot.begins (spot.begins + spot.key_len) begins (omega (arith, begins, key_len)) in
    let again : all ≡ (bytes ++ key) ++ (value ++ []) = whole ∙ sym (append_assoc bytes key value) ∙ ap (λ list. (bytes ++ key) ++ list) (sym (append-nil value)) in
    let front = length-append bytes key in
    let start : spot.begins + spot.key_len ≡ length (bytes ++ key) = omega (arith, begins, key_len, front) in
    let second : slice_range all (spot.begins + spot.key_len) (spot.begins + spot.key_len + length value) ≡ value =
    ap (λ list. slice_range list (spot.begins + spot.key_len) (spot.begins + spot.key_len + length value)) again
    ∙ range_at (bytes ++ key) value [] (spot.begins + spot.key_len) (spot.begins + spot.key_len + length value) start (omega (arith, start)) in
    let cell : cell_in all (spot.begins + spot.key_len) spot.value_len ≡ Value value = ap (cell_in all (spot.begins + spot.key_len)) value_len ∙ ap Value second in
    (λ i. row_with (first i) (at i) (cell i))

pub deleted_row : (bytes key all : List ℕ) (spot : Spot) (time : ℕ) → all ≡ bytes ++ key → spot.begins ≡ length bytes → spot.key_len ≡ length key
    → spot.value_len ≡ None → spot.time ≡ time → row_in all spot ≡ row_with key time Deleted
deleted_row bytes key all spot time whole begins key_len value_len at =
    let again : all ≡ bytes ++ (key ++ []) = whole ∙ ap (λ list. bytes ++ list) (sym (append-nil key)) in
    let first : slice_range all spot.begins (spot.begins + spot.key_len) ≡ key =
    ap (λ list. slice_range list spot.begins (spot.begins + spot.key_len)) again ∙ range_at bytes key [] spot.begins (spot.begins + spot.key_len) begins (omega (arith, begins, key_len)) in
    let cell : cell_in all (spot.begins + spot.key_len) spot.value_len ≡ Deleted = ap (cell_in all (spot.begins + spot.key_len)) value_len in
    (λ i. row_with (first i) (at i) (cell i))

pub value_stored : (bytes key value all : List ℕ) (begins key_len : ℕ) (value_len : Option ℕ) → all ≡ bytes ++ (key ++ value) → begins ≡ length bytes → key_len ≡ length key
    → value_len ≡ Some (length value) → begins + key_len + value_length value_len ≤ length all
value_stored bytes key value all begins key_len value_len whole at key_is value_is =
    let long = ap length whole ∙ length-append bytes (key ++ value) in
    let behind = length-append key value in
    let size = ap value_length value_is in
    omega (arith, long, behind, at, key_is, size)

pub deleted_stored : (bytes key all : List ℕ) (begins key_len : ℕ) (value_len : Option ℕ) → all ≡ bytes ++ key → begins ≡ length bytes → key_len ≡ length key
    → value_len ≡ None → begins + key_len + value_length value_len ≤ length all
deleted_stored bytes key all begins key_len value_len whole at key_is value_is =
    let long = ap length whole ∙ length-append bytes key in
    let size = ap value_length value_is in
    omega (arith, long, at, key_is, size)
