use Rattle.std.proofs.Common.{◌≡◌, ℕ, ◌+◌, ◌≤◌, map, MatchOption, refl, subst, arith}
use Rattle.records.specs.Memory.{spanned}
use Rattle.blocks.specs.Reads.{entries_of}
use Rattle.layout_laws.specs.Layouts.{row_height}
use Rattle.drawings.specs.Tables.{table_row, below_head, below_head_rows, below_rule, below_rule_rows}
use Rattle.drawings.specs.Frames.{Drawn}
use Rattle.drawings.proofs.Lists.{unseen_below}
use Rattle.drawings.proofs.RulePlaces.{span_of}
use Rattle.drawings.proofs.TablePlaces.{below_head_lies}
use Rattle.drawings.proofs.Trails.{onward-start, onward-more, onward-unseen}
use Rattle.paint.specs.declared.pen.Pen.{Pen}
use Rattle.paint.specs.Pens.{frame_of}
use Rattle.paint.proofs.TableSteps.{below_rule_step, below_rule_rows_step}
use Rattle.paint.proofs.pen.Pen.draw_below_rule.Goals as goal

pub returns-in_err-y-clause-after : goal.returns-in_err-y-clause-after
returns-in_err-y-clause-after g c =
    let s = g.S.Surface in
    let a = c.args in
    let b = g.R.BreakingRule.meaning a.layout.now.rule.now in
    let gs = a.layout.now.records.now.glyphs in
    let t = a.columns.border in
    let bits = a.columns.alignments in
    let ws = a.columns.widths.now in
    let rest = map (entries_of gs a.count) c.in-Some.rows.now in
    let ss = c.entries_of-entries.result.now in
    let es = map (spanned gs) ss in
    let next = a.top + row_height b ws es in
    let page = c.draw_cells.new.page in
    let whole = below_rule b t bits ws a.top (map (entries_of gs a.count) a.rows.now) in
    let more = onward-more s.shows s.held s.rest s.lawful (frame_of a.self.now) whole whole (table_row b t bits ws a.top es) (below_head b t bits ws next rest) a.page.now a.page.now page
    (below_rule_step b ws gs a.count a.rows.now c.in-Some.rows.now c.in-Some.head.now ss c.in-Some.ensures.cases.0 c.entries_of-entries.ensures.value t bits a.top next refl)
    (onward-start s.shows s.held s.rest s.lawful (frame_of a.self.now) whole a.page.now) c.draw_cells.ensures.after in
    onward-unseen s.shows s.held s.rest s.lawful (frame_of a.self.now) whole (below_head b t bits ws next rest) a.page.now page more
    (unseen_below (frame_of a.self.now) 0 (span_of ws) next (next + below_head_rows b ws rest) (below_head b t bits ws next rest) (omega (arith, c.in_err-y.ensures.below)) (below_head_lies b t bits ws next rest))

pub returns-clause-after : goal.returns-clause-after
returns-clause-after g c =
    let s = g.S.Surface in
    let a = c.args in
    let b = g.R.BreakingRule.meaning a.layout.now.rule.now in
    let gs = a.layout.now.records.now.glyphs in
    let t = a.columns.border in
    let bits = a.columns.alignments in
    let ws = a.columns.widths.now in
    let rest = map (entries_of gs a.count) c.in-Some.rows.now in
    let ss = c.entries_of-entries.result.now in
    let es = map (spanned gs) ss in
    let next = c.in_ok-y.y in
    let page = c.draw_cells.new.page in
    let whole = below_rule b t bits ws a.top (map (entries_of gs a.count) a.rows.now) in
    let P : Pen → Type 0 = λ p. Drawn s.shows s.held s.rest s.lawful (frame_of p) (below_head b t bits ws next rest) page c.draw_below_head.new.page in
    let more = onward-more s.shows s.held s.rest s.lawful (frame_of a.self.now) whole whole (table_row b t bits ws a.top es) (below_head b t bits ws next rest) a.page.now a.page.now page
    (below_rule_step b ws gs a.count a.rows.now c.in-Some.rows.now c.in-Some.head.now ss c.in-Some.ensures.cases.0 c.entries_of-entries.ensures.value t bits a.top next c.in_ok-y.ensures.below)
    (onward-start s.shows s.held s.rest s.lawful (frame_of a.self.now) whole a.page.now) c.draw_cells.ensures.after in
    more c.draw_below_head.new.page (subst P c.draw_cells.ensures.bounds c.draw_below_head.ensures.after)

pub returns-clause-below : goal.returns-clause-below
returns-clause-below g c =
    let a = c.args in
    let b = g.R.BreakingRule.meaning a.layout.now.rule.now in
    let gs = a.layout.now.records.now.glyphs in
    let ws = a.columns.widths.now in
    let r = c.draw_below_head.result in
    let rest = map (entries_of gs a.count) c.in-Some.rows.now in
    let all = map (entries_of gs a.count) a.rows.now in
    let ss = c.entries_of-entries.result.now in
    let rows = below_rule_rows_step b ws gs a.count a.rows.now c.in-Some.rows.now c.in-Some.head.now ss c.in-Some.ensures.cases.0 c.entries_of-entries.ensures.value in
    let same : c.in_ok-y.y + below_head_rows b ws rest ≡ a.top + below_rule_rows b ws all = omega (arith, rows, c.in_ok-y.ensures.below) in
    let P : Pen → Type 0 = λ p. MatchOption r (p.bounds.bottom ≤ c.in_ok-y.y + below_head_rows b ws rest) (λ n. n ≡ c.in_ok-y.y + below_head_rows b ws rest) in
    let Q : ℕ → Type 0 = λ v. MatchOption r (a.self.now.bounds.bottom ≤ v) (λ n. n ≡ v) in
    subst Q same (subst P c.draw_cells.ensures.bounds c.draw_below_head.ensures.below)
