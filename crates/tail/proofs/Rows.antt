-- Delimiter rows: an entry with a backslash is none of hyphens.
use Rattle.std.proofs.Common.{◌≡◌, ℕ, ◌<◌, Bool, true, false, not, ◌&&◌, ◌||◌, eqb, List, [], ◌∷◌, ◌++◌, length, sym, refl, ap, ◌∙◌, ⊎_elim, true≢false, append_assoc, arith}
use Rattle.std.specs.Char.{is_whitespace}
use Rattle.std.proofs.lemmas.Bool.{cond_both, eq-eqb, ne_eqb, eqb-true, and_left, and_right, and_parts, or_from, cases_Bool}
use Rattle.tail.specs.Texts.{all, any, is, before, past, trimmed, ends_with, front, without_first, without_last}
use Rattle.tail.specs.Lines.{onto, parts}
use Rattle.tail.proofs.Spelling.{any_some}
use Rattle.tail.proofs.Pieces.{length-onto, pieces_bounds}
use Rattle.tail.specs.Entries.{delimits, all_delimit, pieces}

abbrev has : List ℕ → Bool
has cs = any (is 92) cs

-- what trimming and colons take away is no backslash
white_not : (c : ℕ) → is_whitespace c ≡ true → eqb c 92 ≡ false
white_not c w = ne_eqb c 92 (λ q. true≢false (sym w ∙ ap is_whitespace q))

white_none : (cs : List ℕ) → all is_whitespace cs ≡ true → has cs ≡ false
white_none [] e = refl
white_none (c ∷ cs) e = or_from (eqb c 92) (has cs) (white_not c (and_parts (is_whitespace c) (all is_whitespace cs) e).0) (white_none cs (and_parts (is_whitespace c) (all is_whitespace cs) e).1)

has-past : (cs : List ℕ) → has (past is_whitespace cs) ≡ has cs
has-past [] = refl
has-past (c ∷ cs) = ⊎_elim (λ (w : is_whitespace c ≡ true). rw (w, white_not c w) (has-past cs)) (λ (w : is_whitespace c ≡ false). rw w refl) (cases_Bool (is_whitespace c))

has-before : (cs : List ℕ) → has (before is_whitespace cs) ≡ has cs
has-before [] = refl
has-before (c ∷ cs) = ⊎_elim
    (λ (w : (is_whitespace c && all is_whitespace cs) ≡ true). rw w (sym (white_none (c ∷ cs) w)))
    (λ (w : (is_whitespace c && all is_whitespace cs) ≡ false). rw w (ap (λ b. eqb c 92 || b) (has-before cs)))
    (cases_Bool (is_whitespace c && all is_whitespace cs))

has-first : (cs : List ℕ) → has (without_first 58 cs) ≡ has cs
has-first [] = refl
has-first (c ∷ cs) = ⊎_elim (λ (e : eqb c 58 ≡ true). rw (eqb-true c 58 e) refl) (λ (e : eqb c 58 ≡ false). rw e refl) (cases_Bool (eqb c 58))

has-front : (cs : List ℕ) → ends_with 58 cs ≡ true → has (front cs) ≡ has cs
has-front [] e = refl
has-front (c ∷ []) e = rw (eqb-true c 58 e) refl
has-front (c ∷ b ∷ cs) e = ap (λ t. eqb c 92 || t) (has-front (b ∷ cs) e)

has-last : (cs : List ℕ) → has (without_last 58 cs) ≡ has cs
has-last cs = cond_both (ends_with 58 cs) (front cs) cs (λ l. has l ≡ has cs) (λ e. has-front cs e) (λ _. refl)

has-hyphens : (cs : List ℕ) → has cs ≡ true → all (is 45) cs ≡ false
has-hyphens [] e = sym e
has-hyphens (c ∷ cs) e = ⊎_elim
    (λ (h : eqb c 45 ≡ true). rw h (has-hyphens cs (rw (eqb-true c 45 h) at e)))
    (λ (h : eqb c 45 ≡ false). rw h refl)
    (cases_Bool (eqb c 45))

no_entry : (e : List ℕ) → has e ≡ true → delimits e ≡ false
no_entry e h =
    let l = without_last 58 (without_first 58 (trimmed e)) in
    and_right (not (eqb (length l) 0)) (all (is 45) l) (has-hyphens l (has-last (without_first 58 (trimmed e)) ∙ (has-first (trimmed e) ∙ (has-before (past is_whitespace e) ∙ (has-past e ∙ h)))))

-- so that the pipes which a backslash escapes need not be told from the others
abbrev behind : List ℕ → List (List ℕ) → List (List ℕ)
behind xs [] = []
behind xs (e ∷ es) = (xs ++ e) ∷ es

spoilt : (xs : List ℕ) (c : ℕ) (ls : List (List ℕ)) → c ≡ 92 → 0 < length ls → all_delimit (behind xs (onto c ls)) ≡ false
spoilt xs c [] q h = absurd (omega arith)
spoilt xs c (e ∷ es) q h = and_left (delimits (xs ++ (c ∷ e))) (all_delimit es) (no_entry (xs ++ (c ∷ e)) (any_some (is 92) xs e c (eq-eqb c 92 q)))

behind-onto : (xs : List ℕ) (c : ℕ) (ls : List (List ℕ)) → behind xs (onto c ls) ≡ behind (xs ++ (c ∷ [])) ls
behind-onto xs c [] = refl
behind-onto xs c (e ∷ es) = ap (λ l. l ∷ es) (sym (append_assoc xs (c ∷ []) e))

length-parts : (cs : List ℕ) → 0 < length (parts 124 cs)
length-parts [] = omega arith
length-parts (c ∷ cs) = cond_both (eqb c 124) ([] ∷ parts 124 cs) (onto c (parts 124 cs)) (λ l. 0 < length l) (λ _. omega arith) (λ _. omega (arith, length-onto c (parts 124 cs), length-parts cs))

behind_nothing : (ls : List (List ℕ)) → behind [] ls ≡ ls
behind_nothing [] = refl
behind_nothing (e ∷ es) = refl

plain_pipes : (xs cs : List ℕ) → all_delimit (behind xs (pieces false cs)) ≡ all_delimit (behind xs (parts 124 cs))
plain_pipes xs [] = refl
plain_pipes xs (c ∷ cs) = ⊎_elim
    (λ (e : eqb c 124 ≡ true). rw e (ap (λ b. delimits (xs ++ []) && b) (simp behind_nothing at (plain_pipes [] cs))))
    (λ (e : eqb c 124 ≡ false). rw e (⊎_elim
    (λ (q : eqb c 92 ≡ true). spoilt xs c (pieces (eqb c 92) cs) (eqb-true c 92 q) (pieces_bounds (eqb c 92) cs).0 ∙ sym (spoilt xs c (parts 124 cs) (eqb-true c 92 q) (length-parts cs)))
    (λ (q : eqb c 92 ≡ false). rw (q, behind-onto xs c (pieces false cs), behind-onto xs c (parts 124 cs)) (plain_pipes (xs ++ (c ∷ [])) cs))
    (cases_Bool (eqb c 92))))
    (cases_Bool (eqb c 124))

pub all_plain : (cs : List ℕ) → all_delimit (parts 124 cs) ≡ all_delimit (pieces false cs)
all_plain cs = sym (simp behind_nothing at (plain_pipes [] cs))
