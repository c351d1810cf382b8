use Rattle.std.proofs.Common.{eqb, ltb, sym, refl, ap, ◌∙◌, arith}
use Rattle.std.proofs.lemmas.Bool.{cond-false, le-ltb}
use Rattle.std.specs.Cmp.Lexicographic.{pointwise}
use Rattle.page.specs.Cells.{sound}
use Rattle.shelf.specs.Bytes.{cell_bytes, holds, no_bytes}
use Rattle.shelf.proofs.Tests.{holds-is}
use Rattle.shelf.proofs.Lawful.{slot-used}
use Rattle.shelf.proofs.checks.slot_lawful.Goals as goal

pub returns-then-k-cells : goal.returns-then-k-cells
returns-then-k-cells c =
    let bs = c.args.slot in
    record {
      value = holds-is bs no_bytes c.eq.result (omega arith) refl c.eq.ensures
          ∙ sym (cond-false (ltb c.args.k c.args.cells) _ (holds bs 0 no_bytes) (le-ltb c.args.k c.args.cells c.if-k-cells.true));
    }

pub returns-then-is_sound : goal.returns-then-is_sound
returns-then-is_sound c =
    let bs = c.args.slot in
    let is = c.cell_from-cell.ensures.value in
    record {
      value = slot-used bs c.args.cells c.args.k 0 c.eq-then-is_sound.result c.if-k-cells.false
          (sym (c.is_sound.ensures.value ∙ ap sound is) ∙ c.if-is_sound.true)
          (holds-is bs (cell_bytes c.cell_from-cell.result) c.eq-then-is_sound.result (omega arith) refl
          (c.eq-then-is_sound.ensures ∙ ap (λ l. pointwise eqb bs l) c.cell_bytes.ensures.value)
          ∙ ap (λ d. holds bs 0 (cell_bytes d)) is);
    }
