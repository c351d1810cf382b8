use Rattle.std.proofs.Common.{◌≡◌, ℕ, ◌+◌, [], get_or, is_ok, sym, ap, ◌∙◌}
use Rattle.style.specs.Symbols.{symbol_of}
use Rattle.page.specs.declared.cells.Cell.{Cell}
use Rattle.page.specs.Cells.{inked}
use Rattle.page.specs.Layers.{pair_cell}
use Rattle.page.proofs.Below.{below_left, below_right}
use Rattle.page_tests.proofs.layered.paired.Goals as goal

pub returns : goal.returns
returns g c =
    let ml = g.L.Surface in
    let mr = g.R.Surface in
    let x = c.args.x in
    let y = c.args.y in
    let new = c.put-answer.new.self in
    let e = c.put-answer.ensures.after in
    let w = (ml.shows c.args.l).wide in
    let ew : (ml.shows new.left).wide ≡ w = ap (λ l. get_or l 0 0) e.kept in
    let ink : Cell → Cell = λ d. inked (symbol_of c.args.symbol.now) c.args.style d in
    let f = (ml.shows c.args.l).cell in
    let h = (mr.shows c.args.r).cell in
    let f' = (ml.shows new.left).cell in
    let h' = (mr.shows new.right).cell in
    let over = λ (p q : ℕ). ap (λ n. pair_cell n f' h' p q) (sym ew) ∙ e.cells p q in
    let past = λ (p q : ℕ). ap (λ n. f' (n + p) q) (sym ew) ∙ e.hidden [] p q in
    record {
      left = λ i j. ap (λ t. (ml.shows t.0).cell i j) c.into_parts-l.ensures.value ∙ below_left w x y f f' h h' (is_ok c.put-answer.result) ink over past i j;
      right = λ i j. ap (λ t. (mr.shows t.1).cell i j) c.into_parts-l.ensures.value ∙ below_right w x y f f' h h' (is_ok c.put-answer.result) ink over past i j;
    }
