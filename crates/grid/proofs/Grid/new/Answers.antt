use Rattle.std.proofs.Common.{◌≡◌, ◌*◌, true, length, replicate, sym, ap, ◌∙◌}
use Rattle.std.proofs.lemmas.List.{length-replicate}
use Rattle.page.specs.Cells.{fresh}
use Rattle.page.specs.Refusals.{memory_answer}
use Rattle.page.specs.Rows.{fits, rows_page}
use Rattle.page.proofs.Puts.{fitting, not_refused}
use Rattle.page.proofs.Rows.{rows-fresh}
use Rattle.grid.specs.Memory.{cell_at}
use Rattle.grid.proofs.Writes.{cell_at-fresh}
use Rattle.grid.proofs.Grid.new.Goals as goal

pub returns-clause-cells : goal.returns-clause-cells
returns-clause-cells c =
    let w = c.args.width in
    let h = c.args.height in
    let m = length c.args.cells.now in
    let after = c.freshen.new.cells in
    let fit : fits w h (w * h) m ≡ true =
    not_refused c.check.result (memory_answer w h (w * h) m) c.check.ensures.value (sym c.is_err.ensures.value ∙ c.if-is_err.false) in
    let all : after ≡ replicate (w * h) fresh = c.freshen.ensures.after ∙ ap (λ k. replicate k fresh) (fitting w h (w * h) m fit).0 in
    let kept = ap length all ∙ length-replicate (w * h) fresh ∙ sym (fitting w h (w * h) m fit).0 in
    λ i j.
    ap (λ k. (rows_page w h (w * h) k (cell_at after)).cell i j) kept
    ∙ rows-fresh w h (w * h) m (cell_at after) (λ _ k l. ap (λ xs. cell_at xs k) all ∙ cell_at-fresh (w * h) k l) i j
