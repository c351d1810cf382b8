use Rattle.std.proofs.Common.{◌≡◌, ◌≤◌, max, map}
use Rattle.records.specs.Memory.{spanned}
use Rattle.layout_laws.specs.Layouts.{row_height}
use Rattle.layout.proofs.Layout.row_height.Given as goal

-- the entries so far, with those that are left
abbrev pub invariant-loop-entry : goal.invariant-loop-entry
invariant-loop-entry g l = record {
  value : max l.height (row_height (g.R.BreakingRule.meaning l.self.rule.now) l.entry-iterator.b.rest.now (map (spanned l.self.records.now.glyphs) l.entry-iterator.a.rest.now))
      ≡ row_height (g.R.BreakingRule.meaning l.self.rule.now) l.widths (map (spanned l.self.records.now.glyphs) l.entries);
  bound : 1 ≤ l.height;
}
