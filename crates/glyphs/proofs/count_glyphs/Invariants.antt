use Rattle.std.proofs.Common.{◌≡◌, ◌+◌, ◌-◌, ◌^◌, ◌<◌, min, length}
use Rattle.std.specs.List.{flat_map}
use Rattle.style.specs.declared.Style.{Style}
use Rattle.clusters.specs.Cuts.{cut}
use Rattle.glyphs.specs.Glyphs.{shown, sanitized}
use Rattle.glyphs.proofs.count_glyphs.Given as goal

-- the count so far, with the glyphs of the clusters that are left, is the whole count
abbrev pub invariant-loop-cut : goal.invariant-loop-cut
invariant-loop-cut g l = let m = g.R.Ruler.meaning l.ruler in let it = l.cut-iterator in
    (l.count < 2 ^ 64)
    × ((t : Style) → min (l.count + length (flat_map (shown t) (cut (g.R.Ruler.meaning it.ruler.now).first it.text.now))) (2 ^ 64 - 1) ≡ min (length (sanitized m t l.text)) (2 ^ 64 - 1))
