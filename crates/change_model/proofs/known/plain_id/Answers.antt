use Rattle.std.proofs.Common.{Option, ℕ, subst, sym, ap, ◌∙◌}
use Rattle.std.proofs.lemmas.Option.{same_Some}
use Rattle.std.specs.Option.{option_copied}
use Rattle.change_model.specs.Numbering.{IsIdIn}
use Rattle.change_model.proofs.EntryNumbering.{from_base}
use Rattle.change_model.proofs.LaterIds.{id_later}
use Rattle.change_model.proofs.known.plain_id.Goals as goal

pub returns-in-Some : goal.returns-in-Some
returns-in-Some c time early base term told rule spelled is = from_base early base term c.in-Some.id told.grown (subst (λ (o : Option ℕ). IsIdIn early term o) c.in-Some.is is)

pub returns : goal.returns
returns c time early base term told rule spelled is =
    let key = same_Some _ _ (sym (ap option_copied c.in-Some-spelling.is) ∙ spelled) in
    id_later time early base _ term c.in-Some-spelling.spelling.now c.later_id.result told rule key (subst (λ (o : Option ℕ). IsIdIn early term o) c.in_default.is is) c.later_id.ensures.found c.later_id.ensures.fits
