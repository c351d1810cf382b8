use Rattle.std.proofs.Common.{◌≡◌, replicate}
use Rattle.records.specs.Memory.{acted}
use Rattle.fold.specs.Parts.{puts}
use Rattle.fold.proofs.measure.show.Given as goal

abbrev pub invariant-loop : goal.invariant-loop
invariant-loop l = l.records ≡ acted l.initial.records (puts (replicate l.counter l.glyph))
