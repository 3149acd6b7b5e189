use Rattle.std.proofs.Common.{rules, ◌≡◌, Some, sym, ◌∙◌, subst}
use Rattle.fed_bytes.specs.Keys.{IsIn}
use Rattle.change_model.specs.Laws.{IsValue}
use Rattle.bigfed.specs.Shown.{IsKept}
use Rattle.bigfed.proofs.Collected.{kept_one, kept_once}
use Rattle.std.proofs.lemmas.Option.{same_Some}
use Rattle.bigfed.proofs.shown.keep.Goals as goal

pub returns-clause-kept : goal.returns-clause-kept
returns-clause-kept c =
    let value : IsValue (Some c.args.row.now) = search rules in
    let within : IsIn c.args.span.now c.bytes.result.now = search rules in
    let key : c.bytes-2.result.now ≡ c.args.row.now.key = c.bytes-2.ensures in
    kept_one c.args.order c.args.span.now c.args.row.now c.args.found.now.items c.push.new.self.items c.in-Some.ids c.in_ok-push.ensures.items
    c.in-Some.ensures.fits (subst (IsIn c.args.span.now) c.bytes.ensures within) (sym key ∙ c.in-Some.ensures.spelled)
    (λ ids small same. same_Some _ _ (c.in-Some.ensures.again ids small (key ∙ same))) value

pub returns-clause-distinct : goal.returns-clause-distinct
returns-clause-distinct c = λ distinct apart.
    let value : IsValue (Some c.args.row.now) = search rules in
    let within : IsIn c.args.span.now c.bytes.result.now = search rules in
    let key : c.bytes-2.result.now ≡ c.args.row.now.key = c.bytes-2.ensures in
    let kept : IsKept c.args.order c.args.span.now c.args.row.now c.in-Some.ids =
    record {
      ids_are = c.in-Some.ensures.fits;
      within = subst (IsIn c.args.span.now) c.bytes.ensures within;
      key_is = sym key ∙ c.in-Some.ensures.spelled;
      value = value;
    } in
    kept_once c.args.found.now.items c.push.new.self.items c.in-Some.ids c.in_ok-push.ensures.items distinct (λ there. apart c.in-Some.ids there kept)
