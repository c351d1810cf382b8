use Rattle.std.proofs.Common.{◌≡◌, ◌+◌, drop}
use Rattle.wrap_laws.specs.Breaks.{columns}
use Rattle.paint.proofs.lines.columns.Given as goal

-- the glyphs so far count the total, with those that are left
abbrev pub invariant-loop-glyph : goal.invariant-loop-glyph
invariant-loop-glyph l = columns l.width l.glyphs ≡ l.total + columns l.width (drop l.glyph-index l.glyphs)
