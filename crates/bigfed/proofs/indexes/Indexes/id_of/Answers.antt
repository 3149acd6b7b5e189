use Rattle.std.proofs.Common.{◌∙◌}
use Rattle.term_core.proofs.Spelling.{HasShortForm-from_IsTerm}
use Rattle.bigfed.proofs.indexes.Indexes.id_of.Goals as goal

pub encode-requires : goal.encode-requires
encode-requires c = HasShortForm-from_IsTerm c.args.term.now c.requires

pub returns : goal.returns
returns c history are = c.id_spelled.ensures history c.args.term.now are c.requires (c.as_slice.ensures.value ∙ c.in_ok-key.ensures)
