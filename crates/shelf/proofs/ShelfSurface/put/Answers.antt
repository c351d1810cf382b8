use Rattle.std.proofs.Common.{◌≡◌, ℕ, ◌+◌, ◌*◌, ◌<◌, ◌≤◌, [], ◌∷◌, length, get_or, sym, refl, ap, ◌∙◌, subst, arith, rules}
use Rattle.style.specs.Symbols.{symbol_of}
use Rattle.page.specs.Cells.{inked, tidy}
use Rattle.page.specs.Rows.{rows_page}
use Rattle.page.specs.Surfaces.{inside}
use Rattle.page.proofs.Puts.{Admitted, admitted}
use Rattle.page.proofs.Rows.{Placed, placed, made_of, rows_put}
use Rattle.shelf.specs.Bytes.{slot, cell_in, cell_bytes, written}
use Rattle.shelf.specs.Blocks.{shelf_length, Lawful}
use Rattle.shelf.specs.Shelves.{shelf_shows, shelf_held, shelf_rest, ShelfLawful}
use Rattle.shelf.proofs.Slots.{slot_within, length-written}
use Rattle.shelf.proofs.Kept.{cell_in-written, lawful_written}
use Rattle.shelf.proofs.ShelfSurface.put.Goals.{After-place, After-write_cell}
use Rattle.shelf.proofs.ShelfSurface.put.Goals as goal

ok : (c : After-place) → Admitted (inside c.sides-sides.result.width c.sides-sides.result.height c.args.x c.args.y) c.args.symbol.now c.args.style c.in_ok-symbol.symbol
ok c = admitted _ _ _ _ (sym c.admit.ensures.value ∙ c.in_ok-symbol.was)

on : (c : After-place) → Placed c.args.self.now.width c.args.self.now.height (shelf_length c.args.self.now.width c.args.self.now.height) (length c.args.self.now.bytes.now) c.args.x c.args.y c.place.result
on c =
    let g = c.args.self.now in
    placed g.width g.height (shelf_length g.width g.height) (length g.bytes.now) _ _ c.args.x c.args.y c.place.result
    c.sides-sides.ensures.wide c.sides-sides.ensures.high (ok c).on c.place.ensures.value

pub write_cell-requires : goal.write_cell-requires
write_cell-requires c =
    let g = c.args.self.now in
    let at = on (goal.at.write_cell-requires c).After-place in
    let e = c.slot.ensures.value in
    omega (arith, at.lent, slot_within c.place.result (g.width * g.height) at.place)

wrote : (c : After-write_cell) → c.write_cell.new.bytes ≡ written c.args.self.now.bytes.now (slot c.place.result) (cell_bytes c.inked-cell.result)
wrote c = c.write_cell.ensures.after ∙ ap (λ p. written c.args.self.now.bytes.now p (cell_bytes c.inked-cell.result)) c.slot.ensures.value

pub returns-clause-after : goal.returns-clause-after
returns-clause-after c =
    let g = c.args.self.now in
    let bs = g.bytes.now in
    let w = g.width in
    let h = g.height in
    let n = shelf_length w h in
    let k = c.place.result in
    let v = c.inked-cell.result in
    let new = c.write_cell.new.bytes in
    let before = (goal.at.returns-clause-after c).After-place in
    let place = (on before).place in
    let bytes : (b : ℕ) → get_or c.args.symbol.now b 0 < 256 = λ b. search rules in
    let fill : n ≤ length bs = omega (arith, (on before).lent) in
    let kept : length new ≡ length bs = ap length (wrote c) ∙ length-written bs (slot k) (cell_bytes v) (omega (arith, slot_within k (w * h) place)) refl in
    rows_put w h n (length bs) _ _ _ _ k _ _ _
    (cell_in bs) c.unwrap.result v c.sides-sides.ensures.wide c.sides-sides.ensures.high c.place.ensures.value bytes (ok before)
    (sym c.read.ensures.value ∙ c.unwrap.ensures) c.inked-cell.ensures.value
    (cell_in new) (λ good q _. ap (λ l. cell_in l q) (wrote c) ∙ cell_in-written bs w h k v fill place good q)
    shelf_shows shelf_held shelf_rest ShelfLawful g _
    refl (ap (λ m. rows_page w h n m (cell_in new)) kept)
    (ap (λ m. g.bytes.ghost_name ∷ m ∷ w ∷ h ∷ []) kept)
    (λ p i j. refl)
    (λ good all. subst (λ l. Lawful l w h) (sym (wrote c)) (lawful_written bs w h k v fill place good all))

pub returns-clause-memory : goal.returns-clause-memory
returns-clause-memory c =
    let g = c.args.self.now in
    let bs = g.bytes.now in
    let k = c.place.result in
    let before = (goal.at.returns-clause-memory c).After-place in
    let bytes : (b : ℕ) → get_or c.args.symbol.now b 0 < 256 = λ b. search rules in
    wrote c
    ∙ ap (λ d. written bs (slot k) (cell_bytes d))
    (made_of g.width g.height (shelf_length g.width g.height) (length bs) _ _ _ _ k _ _ _
    (cell_in bs) c.unwrap.result c.inked-cell.result c.sides-sides.ensures.wide c.sides-sides.ensures.high c.place.ensures.value bytes (ok before)
    (sym c.read.ensures.value ∙ c.unwrap.ensures) c.inked-cell.ensures.value)
    ∙ ap (λ q. written bs (slot q) (cell_bytes (inked (symbol_of c.args.symbol.now) c.args.style (tidy (cell_in bs (c.args.y * g.width + c.args.x)))))) (on before).at
