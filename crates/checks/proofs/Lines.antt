-- The lines of a text are its parts between line feeds.
use Rattle.std.proofs.Common.{◌≡◌, ℕ, Bool, true, false, cond, ◌&&◌, ◌||◌, eqb, List, [], ◌∷◌, ◌++◌, length, sym, refl, ap, ◌∙◌, arith}
use Rattle.std.specs.List.{slice_split, onto_first, list_all}
use Rattle.std.proofs.lemmas.Bool.Decides.{nat_tests}
use Rattle.std.proofs.lemmas.List.{append-nil, append_assoc}
use Rattle.checks.specs.Measures.{every, empty_or, filled, lines_of}

abbrev pub parts : List ℕ → List (List ℕ)
parts s = slice_split (λ b. eqb b 10) s

-- the parts with what stands before the first
abbrev onto : List ℕ → List (List ℕ) → List (List ℕ)
onto so [] = so ∷ []
onto so (l ∷ ls) = (so ++ l) ∷ ls

onto_one : (so : List ℕ) (b : ℕ) (ls : List (List ℕ)) → onto (so ++ (b ∷ [])) ls ≡ onto so (onto_first b ls)
onto_one so b [] = refl
onto_one so b (l ∷ ls) = ap (λ p. p ∷ ls) (append_assoc so (b ∷ []) l)

onto_nothing_by : (t : Bool) (b : ℕ) (ls : List (List ℕ)) → onto [] (cond t ([] ∷ ls) (onto_first b ls)) ≡ cond t ([] ∷ ls) (onto_first b ls)
onto_nothing_by true b ls = refl
onto_nothing_by false b [] = refl
onto_nothing_by false b (l ∷ ls) = refl

onto_nothing : (s : List ℕ) → onto [] (parts s) ≡ parts s
onto_nothing [] = refl
onto_nothing (b ∷ bs) = onto_nothing_by (eqb b 10) b (parts bs)

cut : (t : Bool) (so : List ℕ) (b : ℕ) (ls new on : List (List ℕ)) → new ≡ ls → on ≡ onto (so ++ (b ∷ [])) ls → cond t (so ∷ new) on ≡ onto so (cond t ([] ∷ ls) (onto_first b ls))
cut true so b ls new on h g = ap (λ l. so ∷ l) h ∙ ap (λ l. l ∷ ls) (sym (append-nil so))
cut false so b ls new on h g = g ∙ onto_one so b ls

lines_by_parts : (s so : List ℕ) → lines_of so s ≡ onto so (parts s)
lines_by_parts [] so = ap (λ l. l ∷ []) (sym (append-nil so))
lines_by_parts (b ∷ bs) so = cut (eqb b 10) so b (parts bs) (lines_of [] bs) (lines_of (so ++ (b ∷ [])) bs) (lines_by_parts bs [] ∙ onto_nothing bs) (lines_by_parts bs (so ++ (b ∷ [])))

every_filled : (a : List ℕ → Bool) (ls : List (List ℕ)) → list_all (empty_or a) ls ≡ every a (filled ls)
every_filled a [] = refl
every_filled a ([] ∷ ls) = every_filled a ls
every_filled a ((b ∷ l) ∷ ls) =
    let z : eqb (length (b ∷ l)) 0 ≡ false = grind (arith, nat_tests) in
    ap (λ t. (t || a (b ∷ l)) && list_all (empty_or a) ls) z ∙ ap (λ t. a (b ∷ l) && t) (every_filled a ls)

pub every_part_is_a_line : (a : List ℕ → Bool) (s : List ℕ) → list_all (empty_or a) (parts s) ≡ every a (filled (lines_of [] s))
every_part_is_a_line a s = every_filled a (parts s) ∙ ap (λ ls. every a (filled ls)) (sym (lines_by_parts s [] ∙ onto_nothing s))
