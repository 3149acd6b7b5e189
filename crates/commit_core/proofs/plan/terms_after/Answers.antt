use Rattle.std.proofs.Common.{◌≡◌, ℕ, ◌-◌, length, map, Some, ap, sym, ◌∙◌, arith}
use Rattle.std.specs.Prelude.{slice_get, option_map}
use Rattle.std.specs.Arc.{arc_value}
use Rattle.std.proofs.lemmas.List.{length-map}
use Rattle.std.proofs.lemmas.Option.{slice_get-map, slice_get_within}
use Rattle.change_model.specs.declared.entry.Entry.{Entry}
use Rattle.commit_core.proofs.Planning.{last_terms}
use Rattle.commit_core.proofs.plan.terms_after.Goals as goal

pub returns-in-Some : goal.returns-in-Some
returns-in-Some c = λ history are.
    let entries = c.args.entries.now in
    let n : ℕ = length entries - 1 in
    let at : slice_get entries n ≡ Some c.in-Some.entry.now = sym c.in-Some.ensures.value in
    let within = slice_get_within entries n _ at in
    let mapped : slice_get (map arc_value entries) n ≡ Some (arc_value c.in-Some.entry.now) = slice_get-map arc_value entries n ∙ ap (λ o. option_map arc_value o) at in
    ap (λ (e : Entry). e.terms) c.deref.ensures ∙ last_terms history (map arc_value entries) n _ are mapped (omega (arith, within, length-map entries arc_value))
