use Rattle.std.proofs.Common.{◌≡◌, ℕ, ◌+◌, ◌≤◌, ◌&&◌, List, map, MatchOption, refl, subst, ◌∙◌, ap, arith}
use Rattle.columns.specs.Layout.{shared_out}
use Rattle.blocks.specs.Reads.{entries_of}
use Rattle.layout_laws.specs.Layouts.{natural_widths, final_widths, rows_at}
use Rattle.drawings.specs.Tables.{upper, rule_strokes, below_rule, below_rule_rows, table_strokes}
use Rattle.drawings.specs.Frames.{Drawn}
use Rattle.drawings.proofs.Lists.{unseen_below}
use Rattle.drawings.proofs.RulePlaces.{span_of}
use Rattle.drawings.proofs.TablePlaces.{below_rule_lies, table_lies, table_rows_counted}
use Rattle.drawings.proofs.Trails.{drawn-unseen, onward-start, onward-more, onward-unseen}
use Rattle.paint.specs.Pens.{frame_of}
use Rattle.paint.proofs.TableSteps.{told_widths}
use Rattle.paint.proofs.pen.Pen.render_table.Goals as goal

pub returns-then-top-from-clause-after : goal.returns-then-top-from-clause-after
returns-then-top-from-clause-after g c =
    let s = g.S.Surface in
    let a = c.args in
    let b = g.R.BreakingRule.meaning a.layout.now.rule.now in
    let rs = map (entries_of a.layout.now.records.now.glyphs a.info.columns) a.rows.now in
    let ws = final_widths a.layout.now.width (a.layout.now.streaming && a.info.open) rs in
    let strokes = table_strokes b a.border a.info.alignments ws a.top rs in
    drawn-unseen s.shows s.held s.rest s.lawful (frame_of a.self.now) strokes a.page.now
    (unseen_below (frame_of a.self.now) 0 (span_of ws) a.top (a.top + rows_at b ws rs) strokes (omega arith) (table_lies b a.border a.info.alignments ws a.top rs))

pub returns-in_err-y-clause-after : goal.returns-in_err-y-clause-after
returns-in_err-y-clause-after g c =
    let s = g.S.Surface in
    let a = c.args in
    let b = g.R.BreakingRule.meaning a.layout.now.rule.now in
    let t = a.border in
    let bits = a.info.alignments in
    let rs = map (entries_of a.layout.now.records.now.glyphs a.info.columns) a.rows.now in
    let growing = a.layout.now.streaming && a.info.open in
    let ws = final_widths a.layout.now.width growing rs in
    let page = c.draw_rule.new.page in
    let whole = table_strokes b t bits ws a.top rs in
    let laid = c.layout_columns-laid.ensures.value ∙ ap (λ v. shared_out a.layout.now.width v (natural_widths rs)) c.is_growing-growing.ensures.value in
    let same = c.widths_of.ensures.value ∙ told_widths c.layout_columns-laid.result a.layout.now.width growing rs laid in
    let P : List ℕ → Type 0 = λ l. Drawn s.shows s.held s.rest s.lawful (frame_of a.self.now) (rule_strokes t upper a.top l) a.page.now page in
    let more = onward-more s.shows s.held s.rest s.lawful (frame_of a.self.now) whole whole (rule_strokes t upper a.top ws) (below_rule b t bits ws (a.top + 1) rs) a.page.now a.page.now page
    refl (onward-start s.shows s.held s.rest s.lawful (frame_of a.self.now) whole a.page.now) (subst P same c.draw_rule.ensures.after) in
    onward-unseen s.shows s.held s.rest s.lawful (frame_of a.self.now) whole (below_rule b t bits ws (a.top + 1) rs) a.page.now page more
    (unseen_below (frame_of a.self.now) 0 (span_of ws) (a.top + 1) (a.top + 1 + below_rule_rows b ws rs) (below_rule b t bits ws (a.top + 1) rs) (omega (arith, c.in_err-y.ensures.below)) (below_rule_lies b t bits ws (a.top + 1) rs))

pub returns-clause-after : goal.returns-clause-after
returns-clause-after g c =
    let s = g.S.Surface in
    let a = c.args in
    let b = g.R.BreakingRule.meaning a.layout.now.rule.now in
    let t = a.border in
    let bits = a.info.alignments in
    let rs = map (entries_of a.layout.now.records.now.glyphs a.info.columns) a.rows.now in
    let growing = a.layout.now.streaming && a.info.open in
    let ws = final_widths a.layout.now.width growing rs in
    let page = c.draw_rule.new.page in
    let whole = table_strokes b t bits ws a.top rs in
    let laid = c.layout_columns-laid.ensures.value ∙ ap (λ v. shared_out a.layout.now.width v (natural_widths rs)) c.is_growing-growing.ensures.value in
    let same = c.widths_of.ensures.value ∙ told_widths c.layout_columns-laid.result a.layout.now.width growing rs laid in
    let P : List ℕ → Type 0 = λ l. Drawn s.shows s.held s.rest s.lawful (frame_of a.self.now) (rule_strokes t upper a.top l) a.page.now page in
    let Q : List ℕ → Type 0 = λ l. Drawn s.shows s.held s.rest s.lawful (frame_of a.self.now) (below_rule b t bits l c.in_ok-y.y rs) page c.draw_below_rule.new.page in
    let R : ℕ → Type 0 = λ y. Drawn s.shows s.held s.rest s.lawful (frame_of a.self.now) (below_rule b t bits ws y rs) page c.draw_below_rule.new.page in
    let more = onward-more s.shows s.held s.rest s.lawful (frame_of a.self.now) whole whole (rule_strokes t upper a.top ws) (below_rule b t bits ws (a.top + 1) rs) a.page.now a.page.now page
    refl (onward-start s.shows s.held s.rest s.lawful (frame_of a.self.now) whole a.page.now) (subst P same c.draw_rule.ensures.after) in
    more c.draw_below_rule.new.page (subst R c.in_ok-y.ensures.below (subst Q same c.draw_below_rule.ensures.after))

pub returns-clause-below : goal.returns-clause-below
returns-clause-below g c =
    let a = c.args in
    let b = g.R.BreakingRule.meaning a.layout.now.rule.now in
    let rs = map (entries_of a.layout.now.records.now.glyphs a.info.columns) a.rows.now in
    let growing = a.layout.now.streaming && a.info.open in
    let ws = final_widths a.layout.now.width growing rs in
    let laid = c.layout_columns-laid.ensures.value ∙ ap (λ v. shared_out a.layout.now.width v (natural_widths rs)) c.is_growing-growing.ensures.value in
    let same = c.widths_of.ensures.value ∙ told_widths c.layout_columns-laid.result a.layout.now.width growing rs laid in
    let r = c.draw_below_rule.result in
    let P : List ℕ → Type 0 = λ l. MatchOption r (a.self.now.bounds.bottom ≤ c.in_ok-y.y + below_rule_rows b l rs) (λ n. n ≡ c.in_ok-y.y + below_rule_rows b l rs) in
    let Q : ℕ → Type 0 = λ v. MatchOption r (a.self.now.bounds.bottom ≤ v) (λ n. n ≡ v) in
    let sums : c.in_ok-y.y + below_rule_rows b ws rs ≡ a.top + rows_at b ws rs = omega (arith, table_rows_counted b ws rs, c.in_ok-y.ensures.below) in
    subst Q sums (subst P same c.draw_below_rule.ensures.below)
