use Rattle.std.proofs.Common.{arith, ap, sym, subst, ◌∙◌, ◌∷◌, ◌++◌}
use Rattle.std.specs.Int.{w64, to_be_bytes}
use Rattle.term_core.specs.Term.{IsLabel}
use Rattle.term_core.proofs.BadFields.{time_is_short, label_is_bad}
use Rattle.term_core.proofs.decode.read_blank.Goals as goal

pub returns-in_default : goal.returns-in_default
returns-in_default c = time_is_short c.args.fields.now c.in_default.ensures.cut

pub returns-in_default-label_in : goal.returns-in_default-label_in
returns-in_default-label_in c = label_is_bad c.args.fields.now c.in-Some.rest.now c.in-Some.at c.in-Some.ensures.cut c.in_default-label_in.ensures

pub returns : goal.returns
returns c =
    let label = c.in-Some-label_in.ensures in (
      (c.in-Some.ensures.fits, subst IsLabel (sym label.0) label.1),
      ap (λ l. 4 ∷ l) (c.in-Some.ensures.cut ∙ ap (λ l. to_be_bytes w64 c.in-Some.at ++ l) (sym label.0)),
    )
