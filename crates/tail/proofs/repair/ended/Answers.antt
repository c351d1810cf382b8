use Rattle.tail.proofs.Repairs.{ended_chars}
use Rattle.tail.proofs.repair.ended.Goals as goal

pub returns : goal.returns
returns c =
    ended_chars c.args.text.now c.ends_with.result c.utf8.text c.ends_with.ensures.cases
