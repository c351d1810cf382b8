use Rattle.std.proofs.Common.{◌≡◌, true, length, sym, refl, ap, ◌∙◌, subst}
use Rattle.page.specs.Cells.{fresh}
use Rattle.page.specs.Refusals.{memory_answer}
use Rattle.page.specs.Rows.{fits, rows_page}
use Rattle.page.proofs.Puts.{fitting, not_refused}
use Rattle.page.proofs.Rows.{rows-fresh}
use Rattle.shelf.specs.Bytes.{cell_in}
use Rattle.shelf.specs.Blocks.{shelf_length, shelved, Lawful}
use Rattle.shelf.proofs.Shelved.{length-shelved, cell_in-shelved, lawful_shelved}
use Rattle.shelf.proofs.Shelf.new.Goals as goal

pub returns-clause-cells : goal.returns-clause-cells
returns-clause-cells c =
    let w = c.args.width in
    let h = c.args.height in
    let n = shelf_length w h in
    let m = length c.args.bytes.now in
    let new = c.freshen.new.bytes in
    let fit : fits w h n m ≡ true =
    not_refused c.check.result (memory_answer w h n m) c.check.ensures.value (sym c.is_err.ensures.value ∙ c.if-is_err.false) in
    let all : new ≡ shelved w h (λ _. fresh) = c.freshen.ensures.after in
    let kept : length new ≡ m = ap length all ∙ length-shelved w h (λ _. fresh) ∙ sym (fitting w h n m fit).0 in
    λ i j.
    ap (λ k. (rows_page w h n k (cell_in new)).cell i j) kept
    ∙ rows-fresh w h n m (cell_in new) (λ _ k l. ap (λ xs. cell_in xs k) all ∙ cell_in-shelved w h (λ _. fresh) (λ _ _. refl) k l) i j

pub returns-clause-lawful : goal.returns-clause-lawful
returns-clause-lawful c =
    let w = c.args.width in
    let h = c.args.height in
    subst (λ l. Lawful l w h) (sym c.freshen.ensures.after) (lawful_shelved w h (λ _. fresh) (λ _ _. refl))
