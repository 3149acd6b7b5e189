use Rattle.std.proofs.Common.{sym, ◌∙◌}
use Rattle.term_core.proofs.Spelling.{HasShortForm-from_IsTerm}
use Rattle.term_core.proofs.tests.respelled.Goals as goal

pub encode-requires : goal.encode-requires
encode-requires c = HasShortForm-from_IsTerm c.in_ok-term.term c.in_ok-term.ensures.found.0
