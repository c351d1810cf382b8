use Rattle.std.proofs.Common.{◌+◌, arith}
use Rattle.drawings.specs.Tables.{rule_strokes}
use Rattle.drawings.proofs.Lists.{unseen_below}
use Rattle.drawings.proofs.RulePlaces.{span_of}
use Rattle.drawings.proofs.TablePlaces.{rule_row_lies}
use Rattle.drawings.proofs.Trails.{drawn-unseen}
use Rattle.paint.specs.Pens.{frame_of}
use Rattle.paint.proofs.pen.Pen.draw_rule.Goals as goal

pub returns-then-y-from-clause-after : goal.returns-then-y-from-clause-after
returns-then-y-from-clause-after g c =
    let s = g.S.Surface in
    let a = c.args in
    let strokes = rule_strokes a.style a.corners a.y a.widths.now in
    drawn-unseen s.shows s.held s.rest s.lawful (frame_of a.self.now) strokes a.page.now (unseen_below (frame_of a.self.now) 0 (span_of a.widths.now) a.y (a.y + 1) strokes (omega arith) (rule_row_lies a.style a.corners a.y a.widths.now))
