use Rattle.shares.proofs.Totals.{fed_naturals}
use Rattle.columns.proofs.Filling.{naturals_few, naturals_fit, lent}
use Rattle.columns.proofs.lay_out.Goals as goal

pub invariant_of-columns : goal.invariant_of-columns
invariant_of-columns c =
    let ns = c.args.given.now in
    let few = naturals_few ns c.requires in
    rw (lent ns c.requires c.max-count.result c.natural_slots-natural.result c.max-count.ensures c.natural_slots-natural.ensures)
    (record { some = few.0; few = few.1; fed = fed_naturals ns; fits = naturals_fit ns c.requires })

pub returns : goal.returns
returns c =
    let ns = c.args.given.now in
    let e = lent ns c.requires c.max-count.result c.natural_slots-natural.result c.max-count.ensures c.natural_slots-natural.ensures in
    rw e at c.lay_out.ensures.value
