use Rattle.std.proofs.Common.{arith, refl}
use Rattle.columns.proofs.Slots.{raised_more, raised}
use Rattle.columns.proofs.natural_slots.Goals as goal

pub loop-n-preserved : goal.loop-n-preserved
loop-n-preserved c = raised_more _ c.loop-n.n-items c.loop-n.n-index c.max-in-loop-n.result c.loop-n-test.true c.loop-n.invariant c.max-in-loop-n.ensures

pub returns : goal.returns
returns c = raised c.args.given.now _ c.loop-n.n-items _ c.loop-n.n-index c.max.result c.requires c.max.ensures (rw c.copy_from_slice.ensures.after refl) refl c.loop-n.invariant (omega (arith, c.loop-n-test.false))
