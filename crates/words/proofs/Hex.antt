-- Byte strings read pair by pair.
use Rattle.std.proofs.Common.{◌≡◌, ℕ, ◌+◌, ◌-◌, ◌*◌, ◌/◌, ◌%◌, ◌<◌, ◌≤◌, Bool, true, false, cond, ◌&&◌, eqb, List, [], ◌∷◌, ◌++◌, length, get_or, take, drop, Some, None, Ok, Err, Result, sym, refl, ap, ◌∙◌, append_assoc, arith}
use Rattle.std.proofs.lemmas.List.{flat_map_more, take_more, take_all}
use Rattle.words.specs.declared.faults.Fault.{Fault}
use Rattle.words.specs.declared.faults.Fault.TheVariants.{NotBytes, TooManyWords}
use Rattle.words.specs.Bytes.{is_hex, hex_value, hex_in, ended, hex_digit, hex_of}
use Rattle.words.specs.Pieces.{words_of, prefixed}
use Rattle.words.specs.Outcomes.{and_then}

-- the bytes xs, and behind them those of what is left of a word
abbrev pub behind : List ℕ → List ℕ → Result (List ℕ) Fault
behind xs left = and_then (hex_in left) (λ bs. Ok (xs ++ bs))

appended : (xs : List ℕ) (n : ℕ) (r : Result (List ℕ) Fault) → and_then (and_then r (λ bs. Ok (n ∷ bs))) (λ bs. Ok (xs ++ bs)) ≡ and_then r (λ bs. Ok ((xs ++ (n ∷ [])) ++ bs))
appended xs n (Ok bs) = ap (λ (l : List ℕ). Ok l) (sym (append_assoc xs (n ∷ []) bs))
appended xs n (Err e) = refl

pair_yes : (t : Bool) (v byte : ℕ) (xs cs : List ℕ) → Some byte ≡ cond t (Some v) None → and_then (cond t (and_then (hex_in cs) (λ bs. Ok (v ∷ bs))) (Err NotBytes)) (λ bs. Ok (xs ++ bs)) ≡ behind (xs ++ (byte ∷ [])) cs
pair_yes true v byte xs cs e = let same : byte ≡ v = cc in rw same (appended xs v (hex_in cs))
pair_yes false v byte xs cs e = let no : ◌≡◌ {A = ℕ} 0 1 = cc in absurd (omega arith)

-- a pair of digits more is read
pub hex_more : (word xs ys left : List ℕ) (byte : ℕ) → 2 ≤ length left → hex_in word ≡ behind xs left
    → cond (is_hex (get_or left 0 0) && is_hex (get_or left 1 0)) (Some (16 * hex_value (get_or left 0 0) + hex_value (get_or left 1 0))) None ≡ Some byte
    → ys ≡ xs ++ (byte ∷ []) → hex_in word ≡ behind ys (take (length left - 2) (drop 2 left))
hex_more word xs ys [] byte h inv e new = absurd (omega arith)
hex_more word xs ys (a ∷ []) byte h inv e new = absurd (omega arith)
hex_more word xs ys (a ∷ b ∷ cs) byte h inv e new =
    rw (new, take_all (length (a ∷ b ∷ cs) - 2) cs (omega arith)) (inv ∙ pair_yes _ _ byte xs cs (sym e))

-- a line has a word, be it an empty one
pub never_ended : (bs : List ℕ) → Err TooManyWords ≡ ended (words_of bs)
never_ended [] = refl
never_ended (c ∷ cs) = one (eqb c 32) (words_of cs)
  where
    one : (t : Bool) (ws : List (List ℕ)) → Err TooManyWords ≡ ended (cond t ([] ∷ ws) (prefixed c ws))
    one true ws = refl
    one false [] = refl
    one false (w ∷ ws) = refl

-- two bytes written one after the other
pub two_pushed : (a b c ex ey : List ℕ) (x y v w : ℕ) → b ≡ a ++ ex → ex ≡ x ∷ [] → x ≡ v → c ≡ b ++ ey → ey ≡ y ∷ [] → y ≡ w → c ≡ a ++ (v ∷ w ∷ [])
two_pushed a b c ex ey x y v w p q r s t u =
    s ∙ (ap (λ (l : List ℕ). b ++ l) (t ∙ ap (λ n. n ∷ []) u)
    ∙ (ap (λ (l : List ℕ). l ++ (w ∷ [])) (p ∙ ap (λ (l : List ℕ). a ++ l) (q ∙ ap (λ n. n ∷ []) r)) ∙ append_assoc a (v ∷ []) (w ∷ [])))

-- a byte more is written behind the first i bytes
pub hexed_more : (bs before after : List ℕ) (i : ℕ) → i < length bs → before ≡ hex_of (take i bs)
    → after ≡ before ++ (hex_digit (get_or bs i 0 / 16) ∷ hex_digit (get_or bs i 0 % 16) ∷ []) → after ≡ hex_of (take (i + 1) bs)
hexed_more bs before after i h e f =
    let n = get_or bs i 0 in
    let pair : ℕ → List ℕ = λ b. hex_digit (b / 16) ∷ hex_digit (b % 16) ∷ [] in
    f ∙ (ap (λ (l : List ℕ). l ++ pair n) e ∙ (flat_map_more pair [] (take i bs) n ∙ ap hex_of (sym (take_more bs i 0 h))))
