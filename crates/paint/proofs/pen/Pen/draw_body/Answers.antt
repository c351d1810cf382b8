use Rattle.std.proofs.Common.{◌+◌, ◌<◌, ◌≤◌, map, length, drop, refl, subst, ◌∙◌, arith}
use Rattle.records.specs.Memory.{spanned}
use Rattle.blocks.specs.Reads.{entries_of}
use Rattle.layout_laws.specs.Layouts.{row_height}
use Rattle.drawings.specs.Tables.{table_row, body, body_rows}
use Rattle.drawings.specs.Frames.{Drawn}
use Rattle.drawings.proofs.Lists.{unseen_below}
use Rattle.drawings.proofs.RulePlaces.{span_of}
use Rattle.drawings.proofs.TablePlaces.{body_lies}
use Rattle.drawings.proofs.Trails.{onward-more, onward-unseen}
use Rattle.paint.specs.declared.pen.Pen.{Pen}
use Rattle.paint.specs.Pens.{frame_of}
use Rattle.paint.proofs.TableSteps.{body_step, body_rows_step}
use Rattle.paint.proofs.pen.Pen.draw_body.Goals as goal

pub returns-in_err-y-clause-after : goal.returns-in_err-y-clause-after
returns-in_err-y-clause-after g c =
    let s = g.S.Surface in
    let a = c.args in
    let b = g.R.BreakingRule.meaning a.layout.now.rule.now in
    let gs = a.layout.now.records.now.glyphs in
    let t = a.columns.border in
    let bits = a.columns.alignments in
    let ws = a.columns.widths.now in
    let entries = entries_of gs a.count in
    let l = c.loop-row in
    let k = l.row-index in
    let ss = c.entries_of-entries.result.now in
    let es = map (spanned gs) ss in
    let next = l.y + row_height b ws es in
    let left = map entries (drop (k + 1) a.rows.now) in
    let whole = body b t bits ws a.top (map entries a.rows.now) in
    let P : Pen → Type 0 = λ p. Drawn s.shows s.held s.rest s.lawful (frame_of p) (table_row b t bits ws l.y es) l.page c.draw_cells.new.page in
    let more = onward-more s.shows s.held s.rest s.lawful (frame_of a.self.now) whole (body b t bits ws l.y (map entries (drop k a.rows.now))) (table_row b t bits ws l.y es) (body b t bits ws next left) a.page.now l.page c.draw_cells.new.page
    (body_step b ws gs a.count k a.rows.now ss (omega arith) c.entries_of-entries.ensures.value t bits l.y next refl) l.invariant.drawn (subst P l.invariant.pen c.draw_cells.ensures.after) in
    let Q : Pen → Type 0 = λ p. p.bounds.bottom ≤ l.y in
    let low = subst Q l.invariant.pen c.in_err-y.ensures.below in
    onward-unseen s.shows s.held s.rest s.lawful (frame_of a.self.now) whole (body b t bits ws next left) a.page.now c.draw_cells.new.page more
    (unseen_below (frame_of a.self.now) 0 (span_of ws) next (next + body_rows b ws left) (body b t bits ws next left) (omega (arith, low)) (body_lies b t bits ws next left))

pub loop-row-preserved : goal.loop-row-preserved
loop-row-preserved g c =
    let s = g.S.Surface in
    let a = c.args in
    let b = g.R.BreakingRule.meaning a.layout.now.rule.now in
    let gs = a.layout.now.records.now.glyphs in
    let t = a.columns.border in
    let bits = a.columns.alignments in
    let ws = a.columns.widths.now in
    let entries = entries_of gs a.count in
    let l = c.loop-row in
    let k = l.row-index in
    let ss = c.entries_of-entries.result.now in
    let es = map (spanned gs) ss in
    let next = c.in_ok-y.y in
    let left = map entries (drop (k + 1) a.rows.now) in
    let whole = body b t bits ws a.top (map entries a.rows.now) in
    let in_rows : k < length a.rows.now = omega arith in
    let P : Pen → Type 0 = λ p. Drawn s.shows s.held s.rest s.lawful (frame_of p) (table_row b t bits ws l.y es) l.page c.draw_cells.new.page in
    record {
      pen = c.draw_cells.ensures.bounds ∙ l.invariant.pen;
      counted = omega (arith, l.invariant.counted, c.in_ok-y.ensures.below, body_rows_step b ws gs a.count k a.rows.now ss in_rows c.entries_of-entries.ensures.value);
      drawn = onward-more s.shows s.held s.rest s.lawful (frame_of a.self.now) whole (body b t bits ws l.y (map entries (drop k a.rows.now))) (table_row b t bits ws l.y es) (body b t bits ws next left) a.page.now l.page c.draw_cells.new.page
          (body_step b ws gs a.count k a.rows.now ss in_rows c.entries_of-entries.ensures.value t bits l.y next c.in_ok-y.ensures.below) l.invariant.drawn (subst P l.invariant.pen c.draw_cells.ensures.after);
    }
