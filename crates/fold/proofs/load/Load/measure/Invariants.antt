use Rattle.std.proofs.Common.{◌≡◌}
use Rattle.std.specs.List.{flat_map}
use Rattle.clusters.specs.Cuts.{cut}
use Rattle.glyphs.specs.Glyphs.{shown}
use Rattle.records.specs.Memory.{acted}
use Rattle.fold.specs.Parts.{puts, measured}
use Rattle.fold.proofs.load.Load.measure.Given as goal

-- the records so far, with the glyphs of the clusters that are left
abbrev pub invariant-loop-cut : goal.invariant-loop-cut
invariant-loop-cut g l =
    let it = l.cut-iterator in
    acted l.records (puts (flat_map (shown l.style) (cut (g.R.Ruler.meaning it.ruler.now).first it.text.now))) ≡ acted l.initial.records (measured (g.R.Ruler.meaning l.self.ruler.now) l.style l.s)
