use Rattle.std.proofs.Common.{arith}
use Rattle.std.proofs.lemmas.List.{length-take-le}
use Rattle.layout.proofs.Ones.{taken_fed, taken_fits}
use Rattle.layout.proofs.naturals.Naturals.lay_out.Goals as goal

pub invariant_of-columns : goal.invariant_of-columns
invariant_of-columns c =
    let cells = c.args.self.cells in
    let all = c.args.self.all in
    let n = c.max.result in
    let few = c.args.self.few in
    let long = length-take-le n cells (omega (arith, c.max.ensures)) in
    record {
      some = omega (arith, c.max.ensures);
      few = omega (arith, c.max.ensures);
      fed = taken_fed cells n (omega (arith, c.max.ensures)) c.args.self.fed;
      fits = taken_fits cells n (omega (arith, c.max.ensures)) c.args.self.narrow;
    }
