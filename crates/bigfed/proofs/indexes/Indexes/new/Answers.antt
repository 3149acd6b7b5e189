use Rattle.std.proofs.Common.{refl}
use Rattle.row_core.specs.declared.rows.Index.TheVariants.{T2i, I2t, Spo, Pos, Osp}
use Rattle.bigfed.proofs.Growth.{empty_is_writable}
use Rattle.bigfed.proofs.indexes.Indexes.new.Goals as goal

pub returns : goal.returns
returns c = record {
  writable = empty_is_writable;
  t2i = c.in_ok-empty_index.ensures T2i;
  i2t = c.in_ok-empty_index-2.ensures I2t;
  spo = c.in_ok-empty_index-3.ensures Spo;
  pos = c.in_ok-empty_index-4.ensures Pos;
  osp = c.in_ok-empty_index-5.ensures Osp;
  terms = refl;
}
