use Rattle.std.proofs.Common.{◌≡◌, ◌++◌, ◌∙◌, List, Bool, Option, false, refl, sym, ap, subst, rules}
use Rattle.fed_bytes.specs.declared.span.Span.{Span}
use Rattle.row_core.specs.declared.rows.Row.{Row}
use Rattle.scan_core.specs.Scans.{Scanning, IsScan, IsFitting, Takes}
use Rattle.scan_core.proofs.Taking.{keeps, takes, with_part}
use Rattle.scan_core.proofs.scan.Scan.reply.Goals as goal

pub invariant_of-self-2 : goal.invariant_of-self-2
invariant_of-self-2 c =
    keeps _ c.args.reply c.go_on-self-inside.new.rest c.go_on-self-inside.result c.asked_after-self-inside.result c.append.new.self.items c.self.invariant
    (subst (λ (s : Scanning). s.done ≡ false) (sym c.self.view_is) c.requires.left)
    (search rules) c.asked_after-self-inside.ensures

pub returns-clause-takes : goal.returns-clause-takes
returns-clause-takes c =
    let old : Scanning = record {
      index = c.self.inside.index;
      time = c.self.inside.time;
      whole = c.self.inside.whole.value;
      rest = c.self.inside.rest;
      done = c.self.inside.done;
      asked = c.self.inside.asked;
      retired = c.self.inside.retired;
      behind = c.self.inside.behind;
      rows = c.self.inside.rows.items;
    } in
    let rest = c.go_on-self-inside.new.rest in
    let done = c.go_on-self-inside.result in
    let asked = c.asked_after-self-inside.result in
    let rows = c.append.new.self.items in
    subst (λ (s : Scanning). Takes s c.args.reply (with_part old rest done asked rows)) c.self.view_is
    (takes old c.args.reply rest done asked rows c.self.invariant
    (subst (λ (s : Scanning). s.done ≡ false) (sym c.self.view_is) c.requires.left)
    (subst (λ (s : Scanning). IsFitting s.rest c.args.reply) (sym c.self.view_is) c.requires.fits)
    (search rules) c.asked_after-self-inside.ensures (search rules))
