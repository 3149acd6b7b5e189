use Rattle.std.proofs.Common.{arith, ◌≡◌, ◌≢◌, ◌∷◌, ◌<◌, ◌+◌, ◌≤◌, ℕ, List, [], length, take, drop, get_or, ap, sym, ◌∙◌, Bool, false, ◌==◌}
use Rattle.std.proofs.lemmas.List.{take_more, drop_more, take_all, drop_all}
use Rattle.base_core.specs.declared.lines.LineEnd.{LineEnd}
use Rattle.base_core.specs.Lines.{lines_of, onto_first}
use Rattle.base_core.proofs.LineFronts.{onto_front, onto_front-more, onto_front-end, onto_front-rest}
use Rattle.base_core.proofs.lines.first_line.Goals as goal

pub returns-then-width-gt0-clause-cut : goal.returns-then-width-gt0-clause-cut
returns-then-width-gt0-clause-cut c =
    let read : lines_of c.args.end c.args.bytes.now ≡ onto_front c.split_at.result.0.now (lines_of c.args.end c.split_at.result.1.now) =
    rw (c.split_at.ensures.front, c.split_at.ensures.back) c.loop-at.invariant in
    let ended : lines_of c.args.end c.split_at.result.1.now ≡ [] ∷ lines_of c.args.end c.split_at-then-width-gt0.result.1.now =
    rw c.split_at-then-width-gt0.ensures.back (c.end_width-width.ensures.end c.if-width-gt0.true) in
    read ∙ ap (onto_front c.split_at.result.0.now) ended ∙ onto_front-end c.split_at.result.0.now _

-- the byte at the place goes onto the front
more : (end : LineEnd) (bytes : List ℕ) (at : ℕ) → at < length bytes
    → lines_of end bytes ≡ onto_front (take at bytes) (lines_of end (drop at bytes))
    → lines_of end (drop at bytes) ≡ onto_first (get_or bytes at 0) (lines_of end (drop (at + 1) bytes))
    → lines_of end bytes ≡ onto_front (take (at + 1) bytes) (lines_of end (drop (at + 1) bytes))
more end bytes at below so_far inside =
    so_far ∙ ap (onto_front (take at bytes)) inside
    ∙ sym (onto_front-more (take at bytes) (get_or bytes at 0) (lines_of end (drop (at + 1) bytes)))
    ∙ ap (λ front. onto_front front (lines_of end (drop (at + 1) bytes))) (sym (take_more bytes at 0 below))

pub loop-at-preserved : goal.loop-at-preserved
loop-at-preserved c =
    let bytes = c.args.bytes.now in
    let inside = c.end_width-width.ensures.inside (get_or bytes c.loop-at.at 0) (drop (c.loop-at.at + 1) bytes) (omega arith)
    (c.split_at.ensures.back ∙ drop_more bytes c.loop-at.at 0 c.loop-at-test.true) in
    more c.args.end bytes c.loop-at.at c.loop-at-test.true c.loop-at.invariant (rw c.split_at.ensures.back at inside)

-- a list that was tested is not empty
not_empty : (bytes : List ℕ) (empty : Bool) → empty ≡ false → empty ≡ (length bytes == 0) → bytes ≢ []
not_empty [] empty was is e = cc
not_empty (b ∷ bytes) empty was is e = cc

-- where no end was found
last : (end : LineEnd) (bytes : List ℕ) (at : ℕ) → length bytes ≤ at → bytes ≢ []
    → lines_of end bytes ≡ onto_front (take at bytes) (lines_of end (drop at bytes))
    → lines_of end bytes ≡ bytes ∷ []
last end bytes at past some so_far =
    so_far ∙ ap (λ rest. onto_front (take at bytes) (lines_of end rest)) (drop_all at bytes past)
    ∙ ap (λ front. onto_front front []) (take_all at bytes past) ∙ onto_front-rest bytes some

pub returns-clause-cut : goal.returns-clause-cut
returns-clause-cut c =
    let bytes = c.args.bytes.now in
    let some = not_empty bytes c.is_empty.result c.if-is_empty.false c.is_empty.ensures in
    rw (c.split_at-2.ensures.front, c.split_at-2.ensures.back, take_all (length bytes) bytes (omega arith), drop_all (length bytes) bytes (omega arith))
    (last c.args.end bytes c.loop-at.at c.loop-at-test.false some c.loop-at.invariant)
