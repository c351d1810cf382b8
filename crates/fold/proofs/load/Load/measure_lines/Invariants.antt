use Rattle.std.proofs.Common.{◌≡◌, [], length}
use Rattle.records.specs.Memory.{acted}
use Rattle.fold.specs.Parts.{part, spread}
use Rattle.fold.proofs.load.Load.measure_lines.Given as goal

-- the records so far, with the acts of what is left
abbrev pub invariant-loop-line : goal.invariant-loop-line
invariant-loop-line g l =
    let P = part (g.R.Ruler.meaning l.self.ruler.now) l.style l.code in
    acted l.records (spread P [] l.rest) ≡ acted l.initial.records (spread P [] l.s)

abbrev pub decreases-loop-line : goal.decreases-loop-line
decreases-loop-line g l = length l.rest
