use Rattle.std.proofs.Common.{◌≡◌, ℕ, ◌<◌, get_or}
use Rattle.page.specs.Cells.{fresh}
use Rattle.shelf.specs.Blocks.{shelf_byte}
use Rattle.shelf.proofs.layout.fill_fresh.Given as goal

abbrev pub invariant-loop-k : goal.invariant-loop-k
invariant-loop-k l = (j : ℕ) → j < l.k → get_or l.bytes j 0 ≡ shelf_byte l.sides.width l.sides.height (λ _. fresh) j
