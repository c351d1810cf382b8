use Rattle.std.proofs.Common.{◌&&◌, map}
use Rattle.records.specs.Memory.{spanned}
use Rattle.blocks.specs.Reads.{entries_of}
use Rattle.layout.proofs.Entries.{table_used}
use Rattle.layout.proofs.Layout.layout_table.Goals as goal

pub returns-clause-rows : goal.returns-clause-rows
returns-clause-rows g c =
    let m = c.args.self.now.records.now in
    let rs = map (entries_of m.glyphs c.args.info.columns) (spanned m.rows c.args.rows) in
    table_used (g.R.BreakingRule.meaning c.args.self.now.rule.now) c.layout_columns-columns.result c.args.self.now.width (c.args.self.now.streaming && c.args.info.open) rs c.rows_at-height.result
    (rw (c.is_growing-growing.ensures.value, c.rows_in-rows.ensures.value) at c.layout_columns-columns.ensures.value)
    (rw (c.widths_of.ensures.value, c.rows_in-rows.ensures.value) at c.rows_at-height.ensures.value)
