use Rattle.std.proofs.Common.{◌+◌, ◌<◌, map, length, sym, arith}
use Rattle.std.proofs.lemmas.Bool.{eqb-false}
use Rattle.std.proofs.lemmas.List.{length-map}
use Rattle.blocks.specs.Reads.{entries_of}
use Rattle.drawings.specs.Tables.{inner, rule_strokes, body, body_rows}
use Rattle.drawings.proofs.Lists.{unseen_below}
use Rattle.drawings.proofs.RulePlaces.{span_of}
use Rattle.drawings.proofs.TablePlaces.{body_lies}
use Rattle.drawings.proofs.Trails.{onward-start, onward-more, onward-unseen}
use Rattle.paint.specs.Pens.{frame_of}
use Rattle.paint.proofs.TableSteps.{below_head_step}
use Rattle.drawings.specs.Tables.{below_head}
use Rattle.paint.proofs.pen.Pen.draw_below_head.Goals as goal

pub returns-in_err-y-clause-after : goal.returns-in_err-y-clause-after
returns-in_err-y-clause-after g c =
    let s = g.S.Surface in
    let a = c.args in
    let b = g.R.BreakingRule.meaning a.layout.now.rule.now in
    let t = a.columns.border in
    let bits = a.columns.alignments in
    let ws = a.columns.widths.now in
    let rs = map (entries_of a.layout.now.records.now.glyphs a.count) a.rows.now in
    let page = c.draw_rule-2.new.page in
    let whole = below_head b t bits ws a.top rs in
    let none = eqb-false (length a.rows.now) 0 (sym c.if-is_empty.ensures) in
    let some : 0 < length rs = omega (arith, none, length-map a.rows.now (entries_of a.layout.now.records.now.glyphs a.count)) in
    let more = onward-more s.shows s.held s.rest s.lawful (frame_of a.self.now) whole whole (rule_strokes t inner a.top ws) (body b t bits ws (a.top + 1) rs) a.page.now a.page.now page
    (below_head_step b t bits a.top ws rs some) (onward-start s.shows s.held s.rest s.lawful (frame_of a.self.now) whole a.page.now) c.draw_rule-2.ensures.after in
    onward-unseen s.shows s.held s.rest s.lawful (frame_of a.self.now) whole (body b t bits ws (a.top + 1) rs) a.page.now page more
    (unseen_below (frame_of a.self.now) 0 (span_of ws) (a.top + 1) (a.top + 1 + body_rows b ws rs) (body b t bits ws (a.top + 1) rs) (omega (arith, c.in_err-y.ensures.below)) (body_lies b t bits ws (a.top + 1) rs))
