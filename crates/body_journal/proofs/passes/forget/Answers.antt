use Rattle.std.proofs.Common.{rules}
use Rattle.std.proofs.lemmas.Fn.{filter_same}
use Rattle.body_journal.specs.Held.{is_kept}
use Rattle.body_journal.proofs.passes.forget.Goals as goal

pub returns : goal.returns
returns c = filter_same _ (is_kept c.args.serial) _ (λ x b f called. search rules) c.args.held.now.items c.retain.new.self.items c.retain.ensures.filtered
