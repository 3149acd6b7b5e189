use Rattle.std.proofs.Common.{◌≡◌, ◌∷◌, ◌∙◌, ap, arith}
use Rattle.body_codec.proofs.Steps.{no_kind, unknown_kind, no_count}
use Rattle.body_codec.proofs.read.read_head.Goals as goal

pub returns-in_default-split_first-clause-fault : goal.returns-in_default-split_first-clause-fault
returns-in_default-split_first-clause-fault c =
    let format : c.in-Some.format.now ≡ 1 = omega arith in
    let rest = c.in-Some.rest.now in
    no_kind c.args.bytes.now rest (c.in-Some.ensures.cases.0 ∙ ap (λ b. b ∷ rest) format) c.in_default-split_first.ensures.cases

pub returns-in_default-kind_of-clause-fault : goal.returns-in_default-kind_of-clause-fault
returns-in_default-kind_of-clause-fault c =
    let format : c.in-Some.format.now ≡ 1 = omega arith in
    let rest = c.in-Some.rest.now in
    unknown_kind c.args.bytes.now rest c.in-Some-split_first.byte.now c.in-Some-split_first.rest.now (c.in-Some.ensures.cases.0 ∙ ap (λ b. b ∷ rest) format)
    c.in-Some-split_first.ensures.cases.0 c.in_default-kind_of.ensures

pub returns-in_default-number_in-clause-fault : goal.returns-in_default-number_in-clause-fault
returns-in_default-number_in-clause-fault c =
    let format : c.in-Some.format.now ≡ 1 = omega arith in
    let rest = c.in-Some.rest.now in
    no_count c.args.bytes.now c.in-Some-kind_of.kind rest c.in-Some-split_first.rest.now c.in-Some-split_first.byte.now
    (c.in-Some.ensures.cases.0 ∙ ap (λ b. b ∷ rest) format) c.in-Some-split_first.ensures.cases.0 c.in-Some-kind_of.ensures c.in_default-number_in.ensures.cases
