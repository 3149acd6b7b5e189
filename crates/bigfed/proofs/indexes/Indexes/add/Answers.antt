use Rattle.row_core.specs.declared.rows.Index.TheVariants.{T2i, I2t, Spo, Pos, Osp}
use Rattle.bigfed.proofs.Growth.{index_grows}
use Rattle.bigfed.proofs.indexes.Indexes.add.Goals as goal

pub returns : goal.returns
returns c history committed are writable last =
    let old = c.args.self.now in
    let entry = c.args.entry.now in
    record {
      writable = writable;
      t2i = index_grows T2i history committed old.t2i c.add.new.self entry.t2i entry.time are.t2i last.time last.t2i c.in_ok-add.ensures.rows c.in_ok-add.ensures.upto c.in_ok-add.ensures.span;
      i2t = index_grows I2t history committed old.i2t c.add-2.new.self entry.i2t entry.time are.i2t last.time last.i2t c.in_ok-add-2.ensures.rows c.in_ok-add-2.ensures.upto c.in_ok-add-2.ensures.span;
      spo = index_grows Spo history committed old.spo c.add-3.new.self entry.spo entry.time are.spo last.time last.spo c.in_ok-add-3.ensures.rows c.in_ok-add-3.ensures.upto c.in_ok-add-3.ensures.span;
      pos = index_grows Pos history committed old.pos c.add-4.new.self entry.pos entry.time are.pos last.time last.pos c.in_ok-add-4.ensures.rows c.in_ok-add-4.ensures.upto c.in_ok-add-4.ensures.span;
      osp = index_grows Osp history committed old.osp c.add-5.new.self entry.osp entry.time are.osp last.time last.osp c.in_ok-add-5.ensures.rows c.in_ok-add-5.ensures.upto c.in_ok-add-5.ensures.span;
      terms = last.terms;
    }
