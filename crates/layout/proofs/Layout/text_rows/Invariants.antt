use Rattle.std.proofs.Common.{◌≡◌, ◌*◌, ◌≤◌, map, take}
use Rattle.records.specs.Memory.{spanned}
use Rattle.layout_laws.specs.Layouts.{text_rows}
use Rattle.layout.proofs.Layout.text_rows.Given as goal

abbrev pub invariant-loop-line : goal.invariant-loop-line
invariant-loop-line g l = record {
  value : l.rows ≡ text_rows (g.R.BreakingRule.meaning l.self.rule.now) l.self.width (map (spanned l.self.records.now.glyphs) (take l.line-index l.line-items));
  bound : l.rows ≤ 65535 * l.line-index;
}
