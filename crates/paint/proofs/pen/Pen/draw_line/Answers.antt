use Rattle.std.proofs.Common.{◌≡◌, ℕ, ◌+◌, List, [], ◌∷◌, length, ap, sym, subst, arith}
use Rattle.std.specs.List.{AllByRecursion, slice_range}
use Rattle.wrap_laws.specs.Breaks.{places}
use Rattle.drawings.specs.Strokes.{aligned_strokes, rows_strokes, line_strokes}
use Rattle.drawings.proofs.Lists.{unseen_below}
use Rattle.drawings.proofs.RowPlaces.{IsRow, places_are_rows, rows_lie, rows_counted}
use Rattle.drawings.proofs.Trails.{onward-start, onward-same, onward-more, onward-end, onward-unseen}
use Rattle.paint.specs.Pens.{frame_of}
use Rattle.paint.proofs.pen.Pen.draw_line.Goals as goal

pub loop-start-init : goal.loop-start-init
loop-start-init g c =
    let s = g.S.Surface in
    let b = g.R.BreakingRule.meaning in
    let a = c.args in
    let it = c.into_iter-start-iterator.result in
    let all = places (b a.rule.now) a.line.now a.width 0 in
    let left = places (b it.rule.now) it.line.now it.width it.start in
    let same : left ≡ all = cc in
    let P : List (ℕ × ℕ) → Type 0 = λ rs. AllByRecursion (IsRow a.line.now a.width) rs in
    let strokes : List (ℕ × ℕ) → _ = rows_strokes a.alignment a.width a.x a.top a.line.now in
    record {
      next = tt;
      finite = tt;
      fits = subst P (sym same) (places_are_rows (b a.rule.now) a.line.now a.width 0);
      counted = ap (λ (rs : List (ℕ × ℕ)). a.top + length rs) same;
      drawn = onward-same s.shows s.held s.rest s.lawful (frame_of a.self.now) (strokes all) (strokes all) (strokes left) a.page.now a.page.now
          (onward-start s.shows s.held s.rest s.lawful (frame_of a.self.now) (strokes all) a.page.now) (ap strokes (sym same));
    }

pub returns-then-y-from-clause-after : goal.returns-then-y-from-clause-after
returns-then-y-from-clause-after g c =
    let s = g.S.Surface in
    let b = g.R.BreakingRule.meaning in
    let a = c.args in
    let l = c.loop-start in
    let it = l.start-iterator in
    let left = places (b it.rule.now) it.line.now it.width it.start in
    onward-unseen s.shows s.held s.rest s.lawful (frame_of a.self.now) (line_strokes (b a.rule.now) a.alignment a.width a.x a.top a.line.now) (rows_strokes a.alignment a.width a.x l.y a.line.now left) a.page.now l.page l.invariant.drawn
    (unseen_below (frame_of a.self.now) a.x (a.x + a.width) l.y (l.y + length left) (rows_strokes a.alignment a.width a.x l.y a.line.now left) (omega arith) (rows_lie a.alignment a.width a.x l.y a.line.now left l.invariant.fits))

pub returns-then-y-from-clause-below : goal.returns-then-y-from-clause-below
returns-then-y-from-clause-below g c =
    let a = c.args in
    let n = rows_counted (g.R.BreakingRule.meaning a.rule.now) a.line.now a.width in
    omega (arith, c.loop-start.invariant.counted)

pub loop-start-preserved : goal.loop-start-preserved
loop-start-preserved g c =
    let s = g.S.Surface in
    let b = g.R.BreakingRule.meaning in
    let a = c.args in
    let l = c.loop-start in
    let was = l.start-iterator in
    let it = c.next.new.self in
    let before = places (b was.rule.now) was.line.now was.width was.start in
    let left = places (b it.rule.now) it.line.now it.width it.start in
    let e : before ≡ (c.in-Some.start, c.in-Some.end) ∷ left = c.in-Some.ensures.steps in
    let P : List (ℕ × ℕ) → Type 0 = λ rs. AllByRecursion (IsRow a.line.now a.width) rs in
    let strokes : List (ℕ × ℕ) → _ = rows_strokes a.alignment a.width a.x l.y a.line.now in
    record {
      next = tt;
      finite = tt;
      fits = (subst P e l.invariant.fits).1;
      counted = omega (arith, l.invariant.counted, ap length e);
      drawn = onward-more s.shows s.held s.rest s.lawful (frame_of a.self.now) (line_strokes (b a.rule.now) a.alignment a.width a.x a.top a.line.now) (strokes before)
          (aligned_strokes a.alignment a.width a.x l.y (slice_range a.line.now c.in-Some.start c.in-Some.end)) (rows_strokes a.alignment a.width a.x (l.y + 1) a.line.now left) a.page.now l.page c.draw_aligned.new.page
          (ap strokes e) l.invariant.drawn c.draw_aligned.ensures.after;
    }

pub returns-clause-after : goal.returns-clause-after
returns-clause-after g c =
    let s = g.S.Surface in
    let b = g.R.BreakingRule.meaning in
    let a = c.args in
    let l = c.loop-start in
    let it = l.start-iterator in
    let left = places (b it.rule.now) it.line.now it.width it.start in
    let none : left ≡ [] = c.in-None.ensures.steps.0 in
    onward-end s.shows s.held s.rest s.lawful (frame_of a.self.now) (line_strokes (b a.rule.now) a.alignment a.width a.x a.top a.line.now) (rows_strokes a.alignment a.width a.x l.y a.line.now left) a.page.now l.page l.invariant.drawn
    (ap (rows_strokes a.alignment a.width a.x l.y a.line.now) none)

pub returns-clause-below : goal.returns-clause-below
returns-clause-below g c =
    let a = c.args in
    let it = c.loop-start.start-iterator in
    let left = places (g.R.BreakingRule.meaning it.rule.now) it.line.now it.width it.start in
    let none : left ≡ [] = c.in-None.ensures.steps.0 in
    omega (arith, c.loop-start.invariant.counted, ap length none, rows_counted (g.R.BreakingRule.meaning a.rule.now) a.line.now a.width)
