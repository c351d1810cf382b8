-- Widths in the slots of a layout.
use Rattle.std.proofs.Common.{◌≡◌, ℕ, ◌+◌, ◌-◌, ◌<◌, ◌≤◌, max, List, [], ◌∷◌, ◌++◌, map, length, get_or, take, drop, set, replicate, sym, refl, ap, ◌∙◌, append-nil, arith}
use Rattle.std.proofs.lemmas.List.{append_assoc, set_at, length-take-le, length-map, take_at, drop_at, take_all, drop_all, drop_more, map_more, drop-replicate, places}
use Rattle.shares.specs.Shares.{naturals}
use Rattle.columns.specs.Layout.{slots}

-- one number more made at least 1
pub raised_more : (xs ys : List ℕ) (i m : ℕ) → i < length xs → ys ≡ map (max 1) (take i xs) ++ drop i xs → m ≡ max (get_or ys i 0) 1 → set ys i m ≡ map (max 1) (take (i + 1) xs) ++ drop (i + 1) xs
raised_more xs ys i m h e v =
    let f : ℕ → ℕ = max 1 in
    let x = get_or xs i 0 in
    let p = map f (take i xs) in
    let r = drop (i + 1) xs in
    let n : length p ≡ i = length-map (take i xs) f ∙ length-take-le i xs (omega arith) in
    let all : ys ≡ p ++ (x ∷ r) = e ∙ ap (λ l. p ++ l) (drop_more xs i 0 h) in
    let here : get_or ys i 0 ≡ get_or xs i 0 = ap (λ l. get_or l i 0) all ∙ get_or_at p x r i n in
    let w : m ≡ max 1 (get_or xs i 0) = omega (arith, v, here) in
    ap (λ l. set l i m) all
    ∙ (set_at p x r m i n
    ∙ (ap (λ y. p ++ (y ∷ r)) w
    ∙ (sym (append_assoc p (f x ∷ []) r) ∙ ap (λ l. l ++ r) (sym (map_more f xs i 0 h)))))
  where
    get_or_at : (p : List ℕ) (x : ℕ) (r : List ℕ) (i : ℕ) → length p ≡ i → get_or (p ++ (x ∷ r)) i 0 ≡ x
    get_or_at p x r i e = grind (arith, places)

-- all numbers in their slots, and each that is used made at least 1
pub raised : (ns xs ys free : List ℕ) (i m : ℕ) → length ns ≤ 32 → m ≡ max (length ns) 1 → free ≡ ns ++ drop (length ns) (replicate 32 0) → xs ≡ take m free → ys ≡ map (max 1) (take i xs) ++ drop i xs → length xs ≤ i → ys ++ drop m free ≡ slots (naturals ns)
raised ns xs ys free i m few count held used e le =
    made ∙ at ns few
  where
    f : ℕ → ℕ
    f = max 1

    made : ys ++ drop m free ≡ map f (take (max (length ns) 1) (ns ++ drop (length ns) (replicate 32 0))) ++ drop (max (length ns) 1) (ns ++ drop (length ns) (replicate 32 0))
    made = ap (λ l. l ++ drop m free) (e ∙ (rw (take_all i xs le, drop_all i xs le) (append-nil (map f xs)) ∙ ap (map f) used)) ∙ rw (count, held) refl

    at : (ns : List ℕ) → length ns ≤ 32 → map f (take (max (length ns) 1) (ns ++ drop (length ns) (replicate 32 0))) ++ drop (max (length ns) 1) (ns ++ drop (length ns) (replicate 32 0)) ≡ slots (naturals ns)
    at [] h = refl
    at (n ∷ ns) h =
        let all = n ∷ ns in
        let z : List ℕ = drop (length all) (replicate 32 0) in
        let m : length (n ∷ ns) ≡ max (length (n ∷ ns)) 1 = omega arith in
        rw (take_at all z (max (length all) 1) m, drop_at all z (max (length all) 1) m, drop-replicate {X = ℕ} (length all) 32 0, length-map all f) refl

-- the used slots
pub take-slots : (xs : List ℕ) (n : ℕ) → length xs ≡ n → take n (slots xs) ≡ xs
take-slots xs n e = take_at xs (replicate (32 - length xs) 0) n e
