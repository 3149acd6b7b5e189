use Rattle.std.proofs.Common.{sym, subst}
use Rattle.std.specs.Str.{IsValidUpTo}
use Rattle.query_text.specs.Reading.{BeginsNoCharacter}
use Rattle.query_text.proofs.Decoding.{none_at_end, none_behind}
use Rattle.query_text.proofs.decode.valid_front.Goals as goal

pub returns-in-Ok-clause-bad : goal.returns-in-Ok-clause-bad
returns-in-Ok-clause-bad c = none_at_end

pub returns-clause-bad : goal.returns-clause-bad
returns-clause-bad c =
    let length = c.valid_up_to-length.result in
    let valid = subst (IsValidUpTo c.args.bytes.now) (sym c.valid_up_to-length.ensures) c.in-Err.ensures.cases.1 in
    subst BeginsNoCharacter (sym c.split_at.ensures.back) (none_behind c.args.bytes.now length valid)
