use Rattle.std.proofs.Common.{◌∙◌}
use Rattle.fold.specs.Parts.{part}
use Rattle.fold.proofs.Walks.{feed_step, feed_end}
use Rattle.fold.proofs.load.Load.measure_lines.Goals as goal

pub loop-line-preserved : goal.loop-line-preserved
loop-line-preserved g c =
    let P = part (g.R.Ruler.meaning c.args.self.now.ruler.now) c.args.style c.args.code in
    let h = c.in-Some.ensures.cases in
    feed_step _ _ _ P c.loop-line.rest.now c.in-Some.line.now c.in-Some.behind.now h.0 h.1 c.measure_part.ensures.after c.end_line.ensures.after ∙ c.loop-line.invariant

pub returns : goal.returns
returns g c = record { after = feed_end _ _ _ c.loop-line.rest.now c.in_default.ensures.cases c.measure_part-2.ensures.after ∙ c.loop-line.invariant }
