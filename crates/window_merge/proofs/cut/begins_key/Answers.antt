use Rattle.std.proofs.Common.{sym, ◌∙◌, arith}
use Rattle.window_merge.proofs.Counting.{first_of_key, later_of_key, key_read, not_both, not_false}
use Rattle.window_merge.proofs.cut.begins_key.Goals as goal

pub returns-in-Some-clause-first : goal.returns-in-Some-clause-first
returns-in-Some-clause-first c = λ differ.
    let there = c.requires.there in
    let next = c.in-Some.ensures in
    first_of_key c.args.rows.now c.in-Some.before c.args.index c.requires.order (omega (arith, next)) there
    (λ same. not_both c.is_same.result differ
    (c.is_same.ensures.1 (key_read c.args.rows.now c.in-Some.before _ _ (omega (arith, next, there)) c.index-rows-before.is c.bytes.ensures ∙ same
    ∙ sym (key_read c.args.rows.now c.args.index _ _ there c.index-rows-index.is c.bytes-in-Some.ensures))))

pub returns-in-Some-clause-later : goal.returns-in-Some-clause-later
returns-in-Some-clause-later c = λ same.
    let there = c.requires.there in
    let next = c.in-Some.ensures in
    later_of_key c.args.rows.now c.in-Some.before c.args.index _ (omega (arith, next)) (omega (arith, next, there))
    (sym (key_read c.args.rows.now c.in-Some.before _ _ (omega (arith, next, there)) c.index-rows-before.is c.bytes.ensures) ∙ c.is_same.ensures.0 (not_false c.is_same.result same)
    ∙ key_read c.args.rows.now c.args.index _ _ there c.index-rows-index.is c.bytes-in-Some.ensures)
