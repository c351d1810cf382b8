use Rattle.std.proofs.Common.{◌≡◌, ◌+◌, cond, ◌||◌, ltb, [], get_or, is_ok, sym, ap, ◌∙◌, subst}
use Rattle.style.specs.Symbols.{symbol_of}
use Rattle.page.specs.Cells.{fresh, inked}
use Rattle.page.proofs.Below.{below_window}
use Rattle.page_tests.proofs.layered.windowed.Goals as goal

pub returns : goal.returns
returns g c =
    let m = g.S.Surface in
    let a = c.args.a in
    let b = c.args.b in
    let new = c.put-r.new.self in
    let e = c.put-r.ensures.after in
    let ex : new.x ≡ a = ap (λ l. get_or l 0 0) e.kept in
    let ey : new.y ≡ b = ap (λ l. get_or l 1 0) e.kept in
    let f = (m.shows c.args.s).cell in
    let h = (m.shows new.below).cell in
    record {
      cells = λ i j. ap (λ s. (m.shows s).cell i j) c.into_inner.ensures.value
          ∙ below_window a b c.args.x c.args.y f h (is_ok c.put-r.result) (inked (symbol_of c.args.symbol.now) c.args.style (f (a + c.args.x) (b + c.args.y)))
          (λ p q. ap (λ n. h (n + p) (b + q)) (sym ex) ∙ ap (λ n. h (new.x + p) (n + q)) (sym ey) ∙ e.cells p q)
          (λ p q. ap (λ n. cond (ltb p n || ltb q b) (h p q) fresh) (sym ex) ∙ ap (λ n. cond (ltb p new.x || ltb q n) (h p q) fresh) (sym ey) ∙ e.hidden [] p q)
          i j;
      lawful = λ l. subst m.lawful (sym c.into_inner.ensures.value) (e.still l);
    }
