use Rattle.std.proofs.Common.{refl, arith}
use Rattle.layout.proofs.Ones.{ones_fed, ones_narrow}
use Rattle.layout.proofs.naturals.Naturals.new.Goals as goal

pub invariant_of-result : goal.invariant_of-result
invariant_of-result c = record { all = refl; few = omega arith; fed = ones_fed 32; narrow = ones_narrow 32 }
