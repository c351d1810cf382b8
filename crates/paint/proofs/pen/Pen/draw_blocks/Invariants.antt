use Rattle.std.proofs.Common.{◌≡◌, map, drop}
use Rattle.blocks.specs.Reads.{piece_of, blocks_of}
use Rattle.drawings.specs.Drawings.{blocks_strokes, drawing}
use Rattle.drawings.proofs.Trails.{Onward}
use Rattle.paint.specs.Pens.{frame_of}
use Rattle.paint.proofs.pen.Pen.draw_blocks.Given as goal

abbrev pub invariant-loop-block : goal.invariant-loop-block
invariant-loop-block g l =
    let s = g.S.Surface in
    let b = g.R.BreakingRule.meaning l.layout.rule.now in
    let m = l.layout.records.now in
    record {
      pen : l.self ≡ l.initial.self;
      drawn : Onward s.shows s.held s.rest s.lawful (frame_of l.initial.self) (drawing b l.layout.width l.layout.streaming l.border (blocks_of m)) l.initial.page
          (blocks_strokes b l.layout.width l.layout.streaming l.border l.y (map (piece_of m.glyphs m.lines m.rows) (drop l.block-index l.block-items))) l.page;
    }
