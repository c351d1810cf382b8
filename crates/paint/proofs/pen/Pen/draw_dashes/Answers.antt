use Rattle.std.proofs.Common.{◌≡◌, ◌+◌, ◌-◌, [], ◌∷◌, ap, arith}
use Rattle.drawings.specs.Strokes.{stroke}
use Rattle.drawings.specs.Tables.{dash, dashes}
use Rattle.drawings.proofs.Lists.{unseen_right}
use Rattle.drawings.proofs.RulePlaces.{dashes_lie}
use Rattle.drawings.proofs.Trails.{onward-more, onward-end, onward-unseen}
use Rattle.paint.specs.Pens.{frame_of}
use Rattle.paint.proofs.RuleSteps.{dashes_step}
use Rattle.paint.proofs.pen.Pen.draw_dashes.Goals as goal

pub returns-then-at-from : goal.returns-then-at-from
returns-then-at-from g c =
    let s = g.S.Surface in
    let a = c.args in
    let l = c.loop-at in
    let left = a.x + a.count - l.at in
    record {
      after = onward-unseen s.shows s.held s.rest s.lawful (frame_of a.self.now) (dashes a.style a.x a.y a.count) (dashes a.style l.at a.y left) a.page.now l.page l.invariant
          (unseen_right (frame_of a.self.now) l.at (l.at + left) a.y (a.y + 1) (dashes a.style l.at a.y left) (omega arith) (dashes_lie a.style l.at a.y left));
    }

pub loop-at-preserved : goal.loop-at-preserved
loop-at-preserved g c =
    let s = g.S.Surface in
    let a = c.args in
    let l = c.loop-at in
    let here = a.x + a.count - l.at in
    let left = a.x + a.count - (l.at + 1) in
    onward-more s.shows s.held s.rest s.lawful (frame_of a.self.now) (dashes a.style a.x a.y a.count) (dashes a.style l.at a.y here) (stroke l.at a.y dash a.style ∷ []) (dashes a.style (l.at + 1) a.y left) a.page.now l.page c.put.new.page
    (dashes_step a.style l.at a.y here left (omega arith)) l.invariant c.put.ensures.after

pub returns : goal.returns
returns g c =
    let s = g.S.Surface in
    let a = c.args in
    let l = c.loop-at in
    let left = a.x + a.count - l.at in
    let none : left ≡ 0 = omega arith in
    record {
      after = onward-end s.shows s.held s.rest s.lawful (frame_of a.self.now) (dashes a.style a.x a.y a.count) (dashes a.style l.at a.y left) a.page.now l.page l.invariant (ap (dashes a.style l.at a.y) none);
    }
