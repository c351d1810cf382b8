-- Laws of the words of a line.
use Rattle.std.proofs.Common.{◌≡◌, ℕ, suc, ◌<◌, Bool, cond, eqb, List, [], ◌∷◌, ◌++◌, length, get_or, Some, None, Decides, Option, sym, refl, ap, ◌∙◌, subst, arith, Bor, MatchOption}
use Rattle.std.specs.Str.{bytes_eq}
use Rattle.std.proofs.lemmas.Slice.Eq.{bytes_eq-Decides}
use Rattle.std.proofs.lemmas.Str.Pattern.{IsSplitOnceResult, split_parts}
use Rattle.std.proofs.lemmas.Bool.{ne_eqb, cond-false}
use Rattle.std.proofs.lemmas.Bool.Decides.{same_from_decides}
use Rattle.words.specs.Pieces.{prefixed, words_of, leads, past}

-- No byte is a space.
abbrev pub Unspaced : List ℕ → Type 0
Unspaced bs = (i : ℕ) → i < length bs → get_or bs i 0 ≡ 32 → ⊥

words_no_space : (c : ℕ) (cs : List ℕ) → (c ≡ 32 → ⊥) → words_of (c ∷ cs) ≡ prefixed c (words_of cs)
words_no_space c cs h = cond-false (eqb c 32) ([] ∷ words_of cs) (prefixed c (words_of cs)) (ne_eqb c 32 h)

pub words_last : (bs : List ℕ) → Unspaced bs → words_of bs ≡ bs ∷ []
words_last [] h = refl
words_last (c ∷ cs) h = words_no_space c cs (h 0 (omega arith)) ∙ ap (prefixed c) (words_last cs (λ i l. h (suc i) (omega arith)))

pub words_cut : (xs ys : List ℕ) → Unspaced xs → words_of (xs ++ (32 ∷ ys)) ≡ xs ∷ words_of ys
words_cut [] ys h = refl
words_cut (c ∷ cs) ys h = words_no_space c (cs ++ (32 ∷ ys)) (h 0 (omega arith)) ∙ ap (prefixed c) (words_cut cs ys (λ i l. h (suc i) (omega arith)))

-- What a split at the first space tells of the words.
pub words_split : (bs : List ℕ) (r : Option (Bor (List ℕ) × Bor (List ℕ))) → IsSplitOnceResult 32 bs r → MatchOption r (words_of bs ≡ bs ∷ []) (λ x. words_of bs ≡ x.0.now ∷ words_of x.1.now)
words_split bs None h = words_last bs (split_parts 32 bs None h (omega arith))
words_split bs (Some x) h = let p = split_parts 32 bs (Some x) h (omega arith) in ap words_of p.0 ∙ words_cut x.0.now x.1.now p.1

-- What a comparison with the first word tells.
pub leads-told : (b : Bool) (word w : List ℕ) (left ws : List (List ℕ)) → Decides b (w ≡ word) → left ≡ w ∷ ws → (b ≡ leads word left) × (cond b ws left ≡ past word left)
leads-told b word w left ws d e =
    let same = same_from_decides b (bytes_eq w word) d (bytes_eq-Decides w word) in
    subst (λ (l : List (List ℕ)). (b ≡ leads word l) × (cond b ws l ≡ past word l)) (sym e) (same, ap (λ (t : Bool). cond t ws (w ∷ ws)) same)

-- The same of a comparison whose answer is the one that is defined.
pub leads_same : (b : Bool) (word w : List ℕ) (left ws : List (List ℕ)) → b ≡ bytes_eq w word → left ≡ w ∷ ws → (b ≡ leads word left) × (cond b ws left ≡ past word left)
leads_same b word w left ws d e = leads-told b word w left ws (subst (λ (t : Bool). Decides t (w ≡ word)) (sym d) (bytes_eq-Decides w word)) e
