use Rattle.std.proofs.Common.{◌+◌, map, arith}
use Rattle.records.specs.Memory.{spanned}
use Rattle.layout_laws.specs.Layouts.{row_height}
use Rattle.drawings.specs.Tables.{table_row}
use Rattle.drawings.proofs.Lists.{unseen_below}
use Rattle.drawings.proofs.RulePlaces.{span_of}
use Rattle.drawings.proofs.TablePlaces.{table_row_lies}
use Rattle.drawings.proofs.Trails.{drawn-unseen}
use Rattle.paint.specs.Pens.{frame_of}
use Rattle.paint.proofs.pen.Pen.draw_cells.Goals as goal

pub returns-then-top-from-clause-after : goal.returns-then-top-from-clause-after
returns-then-top-from-clause-after g c =
    let s = g.S.Surface in
    let a = c.args in
    let b = g.R.BreakingRule.meaning a.layout.now.rule.now in
    let ws = a.columns.widths.now in
    let es = map (spanned a.layout.now.records.now.glyphs) a.entries.now in
    let strokes = table_row b a.columns.border a.columns.alignments ws a.top es in
    drawn-unseen s.shows s.held s.rest s.lawful (frame_of a.self.now) strokes a.page.now (unseen_below (frame_of a.self.now) 0 (span_of ws) a.top (a.top + row_height b ws es) strokes (omega arith) (table_row_lies b a.columns.border a.columns.alignments ws a.top es))
