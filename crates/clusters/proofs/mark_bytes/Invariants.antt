use Rattle.std.proofs.Common.{◌≡◌, ◌+◌, ◌-◌, ◌≤◌}
use Rattle.std.specs.Str.{chars}
use Rattle.clusters.specs.Cuts.{mark_bytes}
use Rattle.clusters.proofs.mark_bytes.Given as goal

-- the bytes passed so far, with those of the marks that still fit, are all
abbrev pub invariant-loop-code : goal.invariant-loop-code
invariant-loop-code l = (l.left ≤ l.room) × ((l.room - l.left) + mark_bytes l.left (chars l.code-iterator.bytes.now) ≡ mark_bytes l.room (chars l.fn.points.bytes.now))
