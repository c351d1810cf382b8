use Rattle.std.proofs.Common.{◌≡◌, ◌+◌, map, drop}
use Rattle.blocks.specs.Reads.{entries_of}
use Rattle.drawings.specs.Tables.{body, body_rows}
use Rattle.drawings.proofs.Trails.{Onward}
use Rattle.paint.specs.Pens.{frame_of}
use Rattle.paint.proofs.pen.Pen.draw_body.Given as goal

abbrev pub invariant-loop-row : goal.invariant-loop-row
invariant-loop-row g l =
    let s = g.S.Surface in
    let b = g.R.BreakingRule.meaning l.layout.rule.now in
    let entries = entries_of l.layout.records.now.glyphs l.count in
    let ws = l.columns.widths.now in
    let rest = body b l.columns.border l.columns.alignments ws in
    record {
      pen : l.self ≡ l.initial.self;
      counted : l.y + body_rows b ws (map entries (drop l.row-index l.rows)) ≡ l.top + body_rows b ws (map entries l.rows);
      drawn : Onward s.shows s.held s.rest s.lawful (frame_of l.initial.self) (rest l.top (map entries l.rows)) l.initial.page (rest l.y (map entries (drop l.row-index l.rows))) l.page;
    }
