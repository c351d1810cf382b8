use Rattle.std.proofs.Common.{◌≡◌, ℕ, suc, ◌≤◌, Bool, true, false, cond, List, [], ◌∷◌, ◌++◌, length, take, sym, refl, ap, ◌∙◌, arith}
use Rattle.std.proofs.lemmas.List.{append_assoc}
use Rattle.blocks.specs.Pieces.{Line, Piece, keep, trim, settle, settled}

abbrev pub is_nil : {X : Type 0} → List X → Bool
is_nil [] = true
is_nil (x ∷ xs) = false

pub is_nil-push : {X : Type 0} (xs : List X) (x : X) → false ≡ is_nil (xs ++ (x ∷ []))
is_nil-push [] x = refl
is_nil-push (y ∷ ys) x = refl

keep_full : (l : Line) (ls : List Line) (x : Line) → keep l (ls ++ (x ∷ [])) ≡ l ∷ (ls ++ (x ∷ []))
keep_full [] [] x = refl
keep_full [] (y ∷ ys) x = refl
keep_full (g ∷ gs) ls x = refl

pub trim_end : (ls : List Line) (h : Line) → trim (ls ++ (h ∷ [])) ≡ cond (is_nil h) (trim ls) (ls ++ (h ∷ []))
trim_end [] [] = refl
trim_end [] (g ∷ gs) = refl
trim_end (l ∷ ls) [] = ap (keep l) (trim_end ls [])
trim_end (l ∷ ls) (g ∷ gs) = ap (keep l) (trim_end ls (g ∷ gs)) ∙ keep_full l ls (g ∷ gs)

keep-take : (l : Line) (t ls : List Line) → take (length t) ls ≡ t → take (length (keep l t)) (l ∷ ls) ≡ keep l t
keep-take [] [] ls e = refl
keep-take [] (x ∷ xs) ls e = ap (λ r. [] ∷ r) e
keep-take (g ∷ gs) t ls e = ap (λ r. (g ∷ gs) ∷ r) e

pub trim-take : (ls : List Line) → take (length (trim ls)) ls ≡ trim ls
trim-take [] = refl
trim-take (l ∷ ls) = keep-take l (trim ls) ls (trim-take ls)

keep_le : (l : Line) (t : List Line) (n : ℕ) → length t ≤ n → length (keep l t) ≤ suc n
keep_le [] [] n h = omega arith
keep_le [] (x ∷ xs) n h = omega arith
keep_le (g ∷ gs) t n h = omega arith

pub trim_le : (ls : List Line) → length (trim ls) ≤ length ls
trim_le [] = omega arith
trim_le (l ∷ ls) = keep_le l (trim ls) (length ls) (trim_le ls)

pub settled-append : (ps qs : List Piece) → settled (ps ++ qs) ≡ settled ps ++ settled qs
settled-append [] qs = refl
settled-append (p ∷ ps) qs = ap (λ l. settle p ++ l) (settled-append ps qs) ∙ sym (append_assoc (settle p) (settled ps) (settled qs))
