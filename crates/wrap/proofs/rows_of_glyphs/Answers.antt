use Rattle.std.proofs.Common.{◌∙◌}
use Rattle.std.proofs.lemmas.Iterator.Consumers.{YieldsList-from_first, count_from_yields_List}
use Rattle.wrap_laws.specs.Breaks.{places}
use Rattle.wrap_laws.proofs.RowCounts.{row_counts}
use Rattle.wrap.proofs.rows_of_glyphs.Goals as goal

pub returns-clause-value : goal.returns-clause-value
returns-clause-value g c =
    let b = g.R.BreakingRule.meaning c.args.rule.now in
    let line = c.args.line.now in
    count_from_yields_List c.new.result _ c.count.ensures.ran (YieldsList-from_first (λ x. x) (λ s. places (g.R.BreakingRule.meaning s.rule.now) s.line.now s.width s.start) (places b line c.args.width 0) (cc))
    ∙ (row_counts b line c.args.width).0
