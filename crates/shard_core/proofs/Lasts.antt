-- The last of several windows.
use Rattle.std.proofs.Common.{◌≡◌, ◌+◌, ◌<◌, ℕ, List, [], ◌∷◌, ◌++◌, length, map, take, set, get_or, refl, sym, ap, ◌∙◌, arith}
use Rattle.std.proofs.lemmas.List.{take_more, take_more_set, take_all, length-set}
use Rattle.row_core.specs.declared.rows.Row.{Row}
use Rattle.change_model.specs.WindowLaws.{IsNextWindow}
use Rattle.shard_core.specs.declared.window.AnyWindow.{AnyWindow}
use Rattle.shard_core.specs.Shards.{HaveNextLast}
use Rattle.shard_core.specs.Viewing.{data_of, EndBefore}

with_last : {A : Type 0} (xs : List A) (n : ℕ) (x : A) → n + 1 ≡ length xs → x ≡ get_or xs n x → xs ≡ take n xs ++ x ∷ []
with_last xs n x long read =
    let within : n < length xs = omega (arith, long) in
    sym (take_all (n + 1) xs (omega (arith, long))) ∙ take_more xs n x within ∙ ap (λ y. take n xs ++ y ∷ []) (sym read)

set_last : {A : Type 0} (xs : List A) (n : ℕ) (y : A) → n + 1 ≡ length xs → set xs n y ≡ take n xs ++ y ∷ []
set_last xs n y long =
    let within : n < length xs = omega (arith, long) in
    let same : length (set xs n y) ≡ length xs = length-set xs n y in
    sym (take_all (n + 1) (set xs n y) (omega (arith, long, same))) ∙ take_more_set xs n y within

pub mapped : {A B : Type 0} (f : A → B) (xs : List A) (x : A) → map f (xs ++ x ∷ []) ≡ map f xs ++ f x ∷ []
mapped f [] x = refl
mapped f (y ∷ xs) x = ap (λ list. f y ∷ list) (mapped f xs x)

pub next_last : (windows : List AnyWindow) (n : ℕ) (last filled : AnyWindow) (added : List Row) → n + 1 ≡ length windows → last ≡ get_or windows n last
    → IsNextWindow (data_of last) added (data_of filled) → HaveNextLast added (map data_of windows) (map data_of (set windows n filled))
next_last windows n last filled added long read is = record {
  older = map data_of (take n windows);
  last = data_of last;
  filled = data_of filled;
  were = ap (map data_of) (with_last windows n last long read) ∙ mapped data_of (take n windows) last;
  are = ap (map data_of) (set_last windows n filled long) ∙ mapped data_of (take n windows) filled;
  is_next = is;
}

pub same_last : (windows : List AnyWindow) (n : ℕ) (last filled : AnyWindow) → n + 1 ≡ length windows → last ≡ get_or windows n last → data_of filled ≡ data_of last
    → map data_of (set windows n filled) ≡ map data_of windows
same_last windows n last filled long read same =
    ap (map data_of) (set_last windows n filled long) ∙ mapped data_of (take n windows) filled ∙ ap (λ known. map data_of (take n windows) ++ known ∷ []) same
    ∙ sym (ap (map data_of) (with_last windows n last long read) ∙ mapped data_of (take n windows) last)

pub ends_last : (time : ℕ) (windows : List AnyWindow) (n : ℕ) (last : AnyWindow) → EndBefore time windows → n + 1 ≡ length windows → last ≡ get_or windows n last → time ≡ (data_of last).upto + 1
ends_last time windows n last ends long read = ends (take n windows) last (with_last windows n last long read)
