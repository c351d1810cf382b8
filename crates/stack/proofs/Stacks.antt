-- What the slots of a stack say of the list that it holds.
use Rattle.std.proofs.Common.{◌≡◌, ℕ, zero, suc, ◌+◌, ◌-◌, ◌≤◌, List, [], ◌∷◌, reverse, length, get_or, take, sym, refl, ap, ◌∙◌, arith}
use Rattle.std.proofs.lemmas.List.{take_more, reverse-append}
use Rattle.stack.specs.Stacks.{laid, popped}

-- without the top, one place less is taken
pub laid_pop : {X : Type 0} (xs : List X) (d : ℕ) → d ≤ length xs → laid xs (d - 1) ≡ popped (laid xs d)
laid_pop xs zero h = refl
laid_pop [] (suc d) h = absurd (omega arith)
laid_pop (y ∷ ys) (suc d) h =
    let k : suc d - 1 ≡ d = omega arith in
    let e : suc d ≡ d + 1 = omega arith in
    ap (laid (y ∷ ys)) k ∙ sym (ap (λ n. popped (laid (y ∷ ys) n)) e ∙ ap popped (ap reverse (take_more (y ∷ ys) d y (omega arith)) ∙ reverse-append (take d (y ∷ ys)) (get_or (y ∷ ys) d y ∷ [])))
