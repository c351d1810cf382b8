use Rattle.std.proofs.Common.{sym}
use Rattle.drawings.proofs.Trails.{drawn-put}
use Rattle.paint.specs.Pens.{frame_of}
use Rattle.paint.proofs.pen.Pen.put.Goals as goal

pub returns-in-Some : goal.returns-in-Some
returns-in-Some g c =
    let a = c.args in
    let s = g.S.Surface in
    record {
      after = drawn-put s.shows s.held s.rest s.lawful (frame_of a.self.now) a.x a.y c.in-Some.x c.in-Some.y a.symbol.now a.style a.page.now c.put.new.self c.put.result (sym c.in-Some.ensures.value) c.put.ensures.after;
    }
