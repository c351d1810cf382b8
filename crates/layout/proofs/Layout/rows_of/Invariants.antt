use Rattle.std.proofs.Common.{◌≡◌, ◌+◌, ◌-◌, ◌*◌, ◌≤◌, length, map, take, sum_by}
use Rattle.blocks.specs.Reads.{piece_of}
use Rattle.layout_laws.specs.Layouts.{block_rows}
use Rattle.layout.proofs.Layout.rows_of.Given as goal

abbrev pub invariant-loop-block : goal.invariant-loop-block
invariant-loop-block g l = record {
  value : l.total ≡ (length l.blocks - 1) + sum_by (block_rows (g.R.BreakingRule.meaning l.self.rule.now) l.self.width l.self.streaming) (map (piece_of l.self.records.now.glyphs l.self.records.now.lines l.self.records.now.rows) (take l.block-index l.blocks));
  bound : l.total ≤ 65535 + 4294967295 * l.block-index;
}
