use Rattle.std.proofs.Common.{◌≡◌, ℕ, ◌+◌, ◌*◌, ◌<◌, [], ◌∷◌, length, get_or, set, sym, refl, ap, ◌∙◌, arith, length-set, rules}
use Rattle.page.specs.Cells.{sound}
use Rattle.page.specs.Rows.{rows_page}
use Rattle.page.specs.Surfaces.{inside}
use Rattle.page.proofs.Puts.{Admitted, admitted}
use Rattle.page.proofs.Rows.{Placed, placed, rows_put}
use Rattle.grid.specs.Memory.{cell_at}
use Rattle.grid.specs.Grids.{grid_shows, grid_held, grid_rest, GridLawful}
use Rattle.grid.proofs.Writes.{cell_at-set, cell_at_beyond, sound-set}
use Rattle.grid.proofs.GridSurface.put.Goals.{After-place}
use Rattle.grid.proofs.GridSurface.put.Goals as goal

ok : (c : After-place) → Admitted (inside c.sides-sides.result.width c.sides-sides.result.height c.args.x c.args.y) c.args.symbol.now c.args.style c.in_ok-symbol.symbol
ok c = admitted _ _ _ _ (sym c.admit.ensures.value ∙ c.in_ok-symbol.was)

on : (c : After-place) → Placed c.args.self.now.width c.args.self.now.height (c.args.self.now.width * c.args.self.now.height) (length c.args.self.now.cells.now) c.args.x c.args.y c.place.result
on c =
    let g = c.args.self.now in
    placed g.width g.height (g.width * g.height) (length g.cells.now) _ _ c.args.x c.args.y c.place.result
    c.sides-sides.ensures.wide c.sides-sides.ensures.high (ok c).on c.place.ensures.value

pub write-requires : goal.write-requires
write-requires c = omega (arith, (on c).place, (on c).lent)

pub returns-clause-after : goal.returns-clause-after
returns-clause-after c =
    let g = c.args.self.now in
    let w = g.width in
    let h = g.height in
    let cells = g.cells.now in
    let v = c.inked-cell.result in
    let k = c.place.result in
    let new = c.write.new.cells in
    let before = (goal.at.returns-clause-after c).After-place in
    let wrote : new ≡ set cells k v = c.write.ensures.after in
    let kept : length new ≡ length cells = ap length wrote ∙ length-set cells k v in
    let bytes : (b : ℕ) → get_or c.args.symbol.now b 0 < 256 = λ b. search rules in
    let lt = write-requires before in
    rows_put w h (w * h) (length cells) _ _ _ _ k _ _ _
    (cell_at cells) c.unwrap.result v c.sides-sides.ensures.wide c.sides-sides.ensures.high c.place.ensures.value bytes (ok before)
    (sym c.read.ensures.value ∙ c.unwrap.ensures) c.inked-cell.ensures.value
    (cell_at new) (λ _ q _. ap (λ xs. cell_at xs q) wrote ∙ cell_at-set cells k v lt q)
    grid_shows grid_held grid_rest GridLawful g _
    refl (ap (λ m. rows_page w h (w * h) m (cell_at new)) kept)
    (ap (λ m. g.cells.ghost_name ∷ m ∷ w ∷ h ∷ []) kept)
    (λ p i j. ap (λ xs. cell_at xs (w * h + i)) wrote ∙ cell_at_beyond cells k (w * h) v (on before).place i)
    (λ good each q l. ap (λ xs. sound (cell_at xs q)) wrote ∙ sound-set cells k (w * h) v lt good each q l)
