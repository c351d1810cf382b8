use Rattle.std.proofs.Common.{ap, ◌∙◌}
use Rattle.clusters.specs.Widths.{looked}
use Rattle.clusters.proofs.Ranges.{looked-table, widths-apart}
use Rattle.clusters.proofs.widths.columns.Goals as goal

pub returns-in-32-to-126-clause-apart : goal.returns-in-32-to-126-clause-apart
returns-in-32-to-126-clause-apart c = widths-apart

pub returns-in_default-clause-value : goal.returns-in_default-clause-value
returns-in_default-clause-value c = c.look_up.ensures.value ∙ ap (λ l. looked l c.args.code) c.ranges-in_default.ensures.value ∙ looked-table c.args.code

pub returns-in_default-clause-apart : goal.returns-in_default-clause-apart
returns-in_default-clause-apart c = widths-apart
