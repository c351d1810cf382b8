use Rattle.std.proofs.Common.{replicate, []}
use Rattle.layout.proofs.Entries.{widest_step, count_step}
use Rattle.layout.proofs.tables.naturals_of.Goals as goal

pub loop-row-preserved : goal.loop-row-preserved
loop-row-preserved c =
    let gs = c.args.records.now.glyphs in
    let rs = c.args.rows.now in
    let i = c.loop-row.row-index in
    record {
      cells = widest_step gs c.args.columns rs i (record { entries = [] }) (replicate 32 1) c.loop-row.naturals.cells c.widen.new.self.cells c.loop-row-test.true (rw c.entries_of.ensures.value at c.widen.ensures.cells) c.loop-row.invariant.cells;
      count = count_step gs c.args.columns rs i (record { entries = [] }) c.loop-row.naturals.count c.widen.new.self.count c.loop-row-test.true (rw c.entries_of.ensures.value at c.widen.ensures.count) c.loop-row.invariant.count;
    }
