use Rattle.std.proofs.Common.{◌≡◌, take}
use Rattle.columns.specs.Layout.{slots}
use Rattle.columns.proofs.sharing.Widths.in_slots.Given as goal

abbrev pub invariant-loop-i : goal.invariant-loop-i
invariant-loop-i l = l.slots ≡ slots (take l.i l.self.cells.now)
