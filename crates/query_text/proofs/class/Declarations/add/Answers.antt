use Rattle.query_text.proofs.KnownPrefixes.{KnowsPrefixes-more}
use Rattle.query_text.proofs.class.Declarations.add.Goals as goal

pub returns-clause-knows : goal.returns-clause-knows
returns-clause-knows c =
    KnowsPrefixes-more c.args.self.now.list.items c.push.new.self.items c.args.self.now.prefixes c.insert.new.self c.args.declaration c.split_name.result.0.now
    c.requires c.split_name.ensures.before c.in_ok-push.ensures.items (λ other. c.in_ok-insert.ensures.updates.0 other)
