use Rattle.std.proofs.Common.{◌+◌, ◌≤◌, map, get_or, drop, refl, ap, subst, ◌∙◌, arith}
use Rattle.std.proofs.lemmas.List.{drop_all}
use Rattle.blocks.specs.Reads.{piece_of, blocks_of}
use Rattle.layout_laws.specs.Layouts.{block_rows}
use Rattle.drawings.specs.Drawings.{block_strokes, blocks_strokes, drawing}
use Rattle.drawings.specs.Frames.{Drawn}
use Rattle.drawings.proofs.Lists.{unseen_below}
use Rattle.drawings.proofs.SheetPlaces.{blocks_span, blocks_rows, blocks_lie}
use Rattle.drawings.proofs.Trails.{onward-more, onward-end, onward-unseen}
use Rattle.paint.specs.declared.pen.Pen.{Pen}
use Rattle.paint.specs.Pens.{frame_of}
use Rattle.paint.proofs.SheetSteps.{no_block, blocks_step}
use Rattle.paint.proofs.pen.Pen.draw_blocks.Goals as goal

pub returns-in_default-clause-after : goal.returns-in_default-clause-after
returns-in_default-clause-after g c =
    let s = g.S.Surface in
    let a = c.args in
    let b = g.R.BreakingRule.meaning a.layout.now.rule.now in
    let m = a.layout.now.records.now in
    let piece = piece_of m.glyphs m.lines m.rows in
    let l = c.loop-block in
    let k = l.block-index in
    let ks = c.blocks-block-items.result.now in
    let here = piece (get_or ks k no_block) in
    let left = map piece (drop (k + 1) ks) in
    let next = l.y + block_rows b a.layout.now.width a.layout.now.streaming here + 1 in
    let whole = drawing b a.layout.now.width a.layout.now.streaming a.border (blocks_of m) in
    let strokes = blocks_strokes b a.layout.now.width a.layout.now.streaming a.border next left in
    let P : Pen → Type 0 = λ p. Drawn s.shows s.held s.rest s.lawful (frame_of p) (block_strokes b a.layout.now.width a.layout.now.streaming a.border l.y here) l.page c.draw_block.new.page in
    let Q : Pen → Type 0 = λ p. p.bounds.bottom ≤ l.y + block_rows b a.layout.now.width a.layout.now.streaming here in
    let low = subst Q l.invariant.pen c.in_default.ensures.below in
    let more = onward-more s.shows s.held s.rest s.lawful (frame_of a.self.now) whole (blocks_strokes b a.layout.now.width a.layout.now.streaming a.border l.y (map piece (drop k ks))) (block_strokes b a.layout.now.width a.layout.now.streaming a.border l.y here) strokes a.page.now l.page c.draw_block.new.page
    (blocks_step b a.layout.now.width a.layout.now.streaming a.border piece ks k l.y next (omega arith) refl) l.invariant.drawn (subst P l.invariant.pen c.draw_block.ensures.after) in
    onward-unseen s.shows s.held s.rest s.lawful (frame_of a.self.now) whole strokes a.page.now c.draw_block.new.page more
    (unseen_below (frame_of a.self.now) 0 (blocks_span a.layout.now.width a.layout.now.streaming left) next (next + blocks_rows b a.layout.now.width a.layout.now.streaming left) strokes (omega (arith, low)) (blocks_lie b a.layout.now.width a.layout.now.streaming a.border next left))

pub returns-in_default-next_block-clause-after : goal.returns-in_default-next_block-clause-after
returns-in_default-next_block-clause-after g c =
    let s = g.S.Surface in
    let a = c.args in
    let b = g.R.BreakingRule.meaning a.layout.now.rule.now in
    let m = a.layout.now.records.now in
    let piece = piece_of m.glyphs m.lines m.rows in
    let l = c.loop-block in
    let k = l.block-index in
    let ks = c.blocks-block-items.result.now in
    let here = piece (get_or ks k no_block) in
    let left = map piece (drop (k + 1) ks) in
    let next = l.y + block_rows b a.layout.now.width a.layout.now.streaming here + 1 in
    let whole = drawing b a.layout.now.width a.layout.now.streaming a.border (blocks_of m) in
    let strokes = blocks_strokes b a.layout.now.width a.layout.now.streaming a.border next left in
    let P : Pen → Type 0 = λ p. Drawn s.shows s.held s.rest s.lawful (frame_of p) (block_strokes b a.layout.now.width a.layout.now.streaming a.border l.y here) l.page c.draw_block.new.page in
    let same = c.draw_block.ensures.bounds ∙ l.invariant.pen in
    let Q : Pen → Type 0 = λ p. p.bounds.bottom ≤ c.in-Some.below in
    let seen : c.draw_block.new.self.bounds.bottom ≤ c.in-Some.below = c.in_default-next_block.ensures.cases in
    let low = subst Q same seen in
    let more = onward-more s.shows s.held s.rest s.lawful (frame_of a.self.now) whole (blocks_strokes b a.layout.now.width a.layout.now.streaming a.border l.y (map piece (drop k ks))) (block_strokes b a.layout.now.width a.layout.now.streaming a.border l.y here) strokes a.page.now l.page c.draw_block.new.page
    (blocks_step b a.layout.now.width a.layout.now.streaming a.border piece ks k l.y next (omega arith) refl) l.invariant.drawn (subst P l.invariant.pen c.draw_block.ensures.after) in
    onward-unseen s.shows s.held s.rest s.lawful (frame_of a.self.now) whole strokes a.page.now c.draw_block.new.page more
    (unseen_below (frame_of a.self.now) 0 (blocks_span a.layout.now.width a.layout.now.streaming left) next (next + blocks_rows b a.layout.now.width a.layout.now.streaming left) strokes (omega (arith, low, c.in-Some.ensures.below)) (blocks_lie b a.layout.now.width a.layout.now.streaming a.border next left))

pub loop-block-preserved : goal.loop-block-preserved
loop-block-preserved g c =
    let s = g.S.Surface in
    let a = c.args in
    let b = g.R.BreakingRule.meaning a.layout.now.rule.now in
    let m = a.layout.now.records.now in
    let piece = piece_of m.glyphs m.lines m.rows in
    let l = c.loop-block in
    let k = l.block-index in
    let ks = c.blocks-block-items.result.now in
    let here = piece (get_or ks k no_block) in
    let left = map piece (drop (k + 1) ks) in
    let next = c.in-Some-next_block.next in
    let whole = drawing b a.layout.now.width a.layout.now.streaming a.border (blocks_of m) in
    let P : Pen → Type 0 = λ p. Drawn s.shows s.held s.rest s.lawful (frame_of p) (block_strokes b a.layout.now.width a.layout.now.streaming a.border l.y here) l.page c.draw_block.new.page in
    record {
      pen = c.draw_block.ensures.bounds ∙ l.invariant.pen;
      drawn = onward-more s.shows s.held s.rest s.lawful (frame_of a.self.now) whole (blocks_strokes b a.layout.now.width a.layout.now.streaming a.border l.y (map piece (drop k ks))) (block_strokes b a.layout.now.width a.layout.now.streaming a.border l.y here) (blocks_strokes b a.layout.now.width a.layout.now.streaming a.border next left) a.page.now l.page c.draw_block.new.page
          (blocks_step b a.layout.now.width a.layout.now.streaming a.border piece ks k l.y next (omega arith) (omega (arith, c.in-Some.ensures.below, c.in-Some-next_block.ensures.cases))) l.invariant.drawn (subst P l.invariant.pen c.draw_block.ensures.after);
    }

pub returns-clause-after : goal.returns-clause-after
returns-clause-after g c =
    let s = g.S.Surface in
    let a = c.args in
    let b = g.R.BreakingRule.meaning a.layout.now.rule.now in
    let m = a.layout.now.records.now in
    let piece = piece_of m.glyphs m.lines m.rows in
    let l = c.loop-block in
    let ks = c.blocks-block-items.result.now in
    onward-end s.shows s.held s.rest s.lawful (frame_of a.self.now) (drawing b a.layout.now.width a.layout.now.streaming a.border (blocks_of m)) (blocks_strokes b a.layout.now.width a.layout.now.streaming a.border l.y (map piece (drop l.block-index ks))) a.page.now l.page l.invariant.drawn
    (ap (λ xs. blocks_strokes b a.layout.now.width a.layout.now.streaming a.border l.y (map piece xs)) (drop_all l.block-index ks (omega arith)))
