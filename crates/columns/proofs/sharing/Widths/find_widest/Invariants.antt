use Rattle.std.proofs.Common.{ℕ, ◌<◌, ◌≤◌, length, get_or}
use Rattle.columns.proofs.sharing.Widths.find_widest.Given as goal

abbrev pub invariant-loop-i : goal.invariant-loop-i
invariant-loop-i l = (l.best < length l.self.cells.now)
    × ((k : ℕ) → k < l.i → get_or l.self.cells.now k 0 ≤ get_or l.self.cells.now l.best 0)
    × ((k : ℕ) → l.best < k → k < l.i → get_or l.self.cells.now k 0 < get_or l.self.cells.now l.best 0)
