use Rattle.std.proofs.Common.{◌≡◌, ◌+◌, ◌-◌, ap, arith}
use Rattle.drawings.specs.Tables.{borders_from, borders}
use Rattle.drawings.proofs.Lists.{unseen_below}
use Rattle.drawings.proofs.RulePlaces.{span_of, borders_lie}
use Rattle.drawings.proofs.Trails.{onward-more, onward-end, onward-unseen}
use Rattle.paint.specs.Pens.{frame_of}
use Rattle.paint.proofs.RuleSteps.{borders_step}
use Rattle.paint.proofs.pen.Pen.draw_borders.Goals as goal

pub returns-then-y-from : goal.returns-then-y-from
returns-then-y-from g c =
    let s = g.S.Surface in
    let a = c.args in
    let l = c.loop-y in
    let left = a.top + a.height - l.y in
    record {
      after = onward-unseen s.shows s.held s.rest s.lawful (frame_of a.self.now) (borders a.style a.top a.widths.now a.height) (borders a.style l.y a.widths.now left) a.page.now l.page l.invariant
          (unseen_below (frame_of a.self.now) 0 (span_of a.widths.now) l.y (l.y + left) (borders a.style l.y a.widths.now left) (omega arith) (borders_lie a.style l.y a.widths.now left));
    }

pub loop-y-preserved : goal.loop-y-preserved
loop-y-preserved g c =
    let s = g.S.Surface in
    let a = c.args in
    let l = c.loop-y in
    let here = a.top + a.height - l.y in
    let left = a.top + a.height - (l.y + 1) in
    onward-more s.shows s.held s.rest s.lawful (frame_of a.self.now) (borders a.style a.top a.widths.now a.height) (borders a.style l.y a.widths.now here) (borders_from a.style 0 l.y a.widths.now) (borders a.style (l.y + 1) a.widths.now left) a.page.now l.page c.draw_borders_at.new.page
    (borders_step a.style l.y here left a.widths.now (omega arith)) l.invariant c.draw_borders_at.ensures.after

pub returns : goal.returns
returns g c =
    let s = g.S.Surface in
    let a = c.args in
    let l = c.loop-y in
    let left = a.top + a.height - l.y in
    let none : left ≡ 0 = omega arith in
    record {
      after = onward-end s.shows s.held s.rest s.lawful (frame_of a.self.now) (borders a.style a.top a.widths.now a.height) (borders a.style l.y a.widths.now left) a.page.now l.page l.invariant (ap (borders a.style l.y a.widths.now) none);
    }
