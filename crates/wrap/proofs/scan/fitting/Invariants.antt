use Rattle.std.proofs.Common.{◌≡◌, ◌+◌, drop}
use Rattle.wrap_laws.specs.Rules.{fitting}
use Rattle.wrap.proofs.scan.fitting.Given as goal

-- the glyphs so far fit, with those that fit in what is left of the row
abbrev pub invariant-loop-count : goal.invariant-loop-count
invariant-loop-count l = fitting l.width l.width l.glyphs ≡ l.count + fitting l.width l.room (drop l.count l.glyphs)
