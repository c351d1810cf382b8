use Rattle.std.proofs.Common.{◌≡◌, ◌+◌, ◌*◌, ◌≤◌, length, map, take, sum_by}
use Rattle.blocks.specs.Reads.{entries_of}
use Rattle.layout_laws.specs.Layouts.{row_height, rule_count}
use Rattle.layout.proofs.Layout.rows_at.Given as goal

abbrev pub invariant-loop-row : goal.invariant-loop-row
invariant-loop-row g l = record {
  value : l.total ≡ rule_count (length l.rows) + sum_by (row_height (g.R.BreakingRule.meaning l.self.rule.now) l.widths) (map (entries_of l.self.records.now.glyphs l.columns) (take l.row-index l.rows));
  bound : l.total ≤ 3 + 65535 * l.row-index;
}
