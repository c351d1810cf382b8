use Rattle.std.proofs.Common.{◌≡◌, ◌+◌, ◌-◌, ◌≤◌, min, length}
use lib.Seq.{sets}
use Rattle.std.specs.List.{flat_map}
use Rattle.clusters.specs.Cuts.{cut}
use Rattle.glyphs.specs.Glyphs.{shown, sanitized}
use Rattle.glyphs.proofs.sanitize.Given as goal

-- the clusters that are left, written behind the glyphs so far, give the whole memory and the whole count
abbrev pub invariant-loop-cut : goal.invariant-loop-cut
invariant-loop-cut g l = let m = g.R.Ruler.meaning l.ruler in let it = l.cut-iterator in
    let xs = flat_map (shown l.style) (cut (g.R.Ruler.meaning it.ruler.now).first it.text.now) in
    (length l.glyphs ≡ length l.initial.glyphs)
    × (l.written ≤ length l.glyphs - l.from)
    × (sets l.glyphs (l.from + l.written) xs ≡ sets l.initial.glyphs l.from (sanitized m l.style l.text))
    × (min (l.written + length xs) (length l.initial.glyphs - l.from) ≡ min (length (sanitized m l.style l.text)) (length l.initial.glyphs - l.from))
