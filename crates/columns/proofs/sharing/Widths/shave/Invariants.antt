use Rattle.std.proofs.Common.{◌≡◌, ◌+◌, sum}
use Rattle.shares.specs.Shares.{shaved}
use Rattle.columns.proofs.sharing.Widths.shave.Given as goal

abbrev pub invariant-loop-taken : goal.invariant-loop-taken
invariant-loop-taken l = record {
  after : l.self.cells.now ≡ shaved l.taken l.initial.self.cells.now;
  value : l.taken + sum l.self.cells.now ≡ sum l.initial.self.cells.now;
}
