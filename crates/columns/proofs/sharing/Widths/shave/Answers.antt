use Rattle.std.proofs.Common.{arith}
use Rattle.shares.proofs.Shaving.{lowers_one, shaved_step, shaved_stop}
use Rattle.columns.proofs.sharing.Widths.shave.Goals as goal

pub loop-taken-preserved : goal.loop-taken-preserved
loop-taken-preserved c =
    let step = c.if-not-take_cell.ensures in record {
      after = shaved_step c.args.self.now.cells.now c.loop-taken.self.cells.now c.take_cell.new.self.cells.now c.loop-taken.taken c.loop-taken.invariant.after step;
      value = omega (arith, (lowers_one c.loop-taken.self.cells.now c.take_cell.new.self.cells.now step).1);
    }

pub returns-then-not-take_cell-clause-after : goal.returns-then-not-take_cell-clause-after
returns-then-not-take_cell-clause-after c =
    shaved_stop c.args.self.now.cells.now c.loop-taken.self.cells.now c.take_cell.new.self.cells.now c.loop-taken.taken c.args.excess c.args.self.now.fed c.loop-taken.invariant.after c.if-not-take_cell.ensures (omega arith)
