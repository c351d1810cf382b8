use Rattle.std.proofs.Common.{◌+◌, drop, get_or, ap, ◌∙◌, arith}
use Rattle.std.proofs.lemmas.List.{drop_all}
use Rattle.wrap_laws.specs.Breaks.{no_glyph, columns}
use Rattle.drawings.specs.Strokes.{glyph_strokes, row_strokes}
use Rattle.drawings.proofs.Lists.{unseen_right}
use Rattle.drawings.proofs.RowPlaces.{row_lies}
use Rattle.drawings.proofs.Trails.{onward-more, onward-end, onward-unseen}
use Rattle.paint.specs.Pens.{frame_of}
use Rattle.paint.proofs.RowSteps.{row_step}
use Rattle.paint.proofs.pen.Pen.draw_row.Goals as goal

pub returns-then-x-from : goal.returns-then-x-from
returns-then-x-from g c =
    let s = g.S.Surface in
    let a = c.args in
    let l = c.loop-glyph in
    let left = drop l.glyph-index a.glyphs.now in
    record {
      after = onward-unseen s.shows s.held s.rest s.lawful (frame_of a.self.now) (row_strokes a.width a.start a.y a.glyphs.now) (row_strokes a.width l.x a.y left) a.page.now l.page l.invariant
          (unseen_right (frame_of a.self.now) l.x (l.x + columns a.width left) a.y (a.y + 1) (row_strokes a.width l.x a.y left) (omega arith) (row_lies a.width l.x a.y left));
    }

pub loop-glyph-preserved : goal.loop-glyph-preserved
loop-glyph-preserved g c =
    let s = g.S.Surface in
    let a = c.args in
    let l = c.loop-glyph in
    let k = l.glyph-index in
    onward-more s.shows s.held s.rest s.lawful (frame_of a.self.now) (row_strokes a.width a.start a.y a.glyphs.now) (row_strokes a.width l.x a.y (drop k a.glyphs.now))
    (glyph_strokes a.width l.x a.y (get_or a.glyphs.now k no_glyph)) (row_strokes a.width (l.x + c.from-x.result) a.y (drop (k + 1) a.glyphs.now)) a.page.now l.page c.draw_glyph.new.page
    (row_step a.width l.x a.y k c.from-x.result a.glyphs.now (omega arith) (c.from-x.ensures ∙ c.cells_of.ensures.value))
    l.invariant
    c.draw_glyph.ensures.after

pub returns : goal.returns
returns g c =
    let s = g.S.Surface in
    let a = c.args in
    let l = c.loop-glyph in
    record {
      after = onward-end s.shows s.held s.rest s.lawful (frame_of a.self.now) (row_strokes a.width a.start a.y a.glyphs.now) (row_strokes a.width l.x a.y (drop l.glyph-index a.glyphs.now)) a.page.now l.page l.invariant
          (ap (row_strokes a.width l.x a.y) (drop_all l.glyph-index a.glyphs.now (omega arith)));
    }
