use Rattle.std.proofs.Common.{sym, ◌∙◌, arith}
use Rattle.page.proofs.Rows.{placed}
use Rattle.grid.proofs.GridSurface.read.Goals as goal

pub bounds-self-place : goal.bounds-self-place
bounds-self-place c =
    let g = c.args.self.now in
    let on = placed g.width g.height _ _ _ _ c.args.x c.args.y _ c.sides-sides.ensures.wide c.sides-sides.ensures.high (sym c.hold.ensures.value ∙ c.if-not-hold.false) c.place.ensures.value in
    omega (arith, on.place, on.lent)
