use Rattle.std.proofs.Common.{◌≡◌, ◌*◌, true}
use Rattle.shelf.specs.Bytes.{every}
use Rattle.shelf.proofs.Lawful.{cell_test}
use Rattle.shelf.proofs.checks.block_lawful.Given as goal

abbrev pub invariant-loop-i : goal.invariant-loop-i
invariant-loop-i l = every l.i (cell_test l.bytes (l.sides.width * l.sides.height) l.b) ≡ true
