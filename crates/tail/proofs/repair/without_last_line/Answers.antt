use Rattle.std.proofs.Common.{◌≡◌, ◌+◌, take, sym, ◌∙◌, arith}
use Rattle.tail.proofs.Repairs.{one_line, last_lines}
use Rattle.tail.proofs.repair.without_last_line.Goals as goal

pub returns-in-Some : goal.returns-in-Some
returns-in-Some c =
    let h = c.in-Some.ensures.cases in
    let k : c.range.result.now ≡ take (c.in-Some.i + 1) c.args.text.now = grind arith in
    k ∙ last_lines c.args.text.now c.utf8.text c.in-Some.i h.0 h.1 h.3 h.4

pub returns-in-None : goal.returns-in-None
returns-in-None c =
    sym (one_line c.args.text.now c.utf8.text c.in-None.ensures.cases)
