-- The width ranges: looking up, and that they are apart.
use Rattle.std.proofs.Common.{◌≡◌, ℕ, zero, suc, ◌+◌, ◌<◌, Bool, true, false, cond, ◌&&◌, ◌||◌, eqb, ltb, leb, List, [], ◌∷◌, ◌++◌, length, get_or, refl, ap, ◌∙◌, arith, ◌≤◌}
use Rattle.std.proofs.lemmas.Bool.Decides.{nat_tests}
use Rattle.std.proofs.lemmas.Bool.{and_parts, leb-true}
use Rattle.std.specs.List.Sorted.{IsNonDecreasingBy}
use Rattle.std.specs.Ordering.{ordering_index}
use Rattle.std.specs.declared.cmp.Ordering.TheVariants.{Equal}
use Rattle.clusters.specs.Widths.{standing, inside, zero_width, wide, columns_of, Apart, Range, table, ascends, looked}

-- the ranges of a table that have n columns
abbrev chosen : ℕ → List Range → List (ℕ × ℕ)
chosen n [] = []
chosen n (r ∷ rs) = cond (eqb r.2 n) ((r.0, r.1) ∷ chosen n rs) (chosen n rs)

-- every range of a table has 0 or 2 columns
abbrev even : List Range → Bool
even [] = true
even (r ∷ rs) = (eqb r.2 0 || eqb r.2 2) && even rs

-- the first of ascending ranges begins at n or later, ends no earlier than it begins, and the others lie behind it
rising : (n : ℕ) (r : Range) (rs : List Range) → ascends n (r ∷ rs) ≡ true → (n ≤ r.0) × (r.0 ≤ r.1) × (ascends (r.1 + 1) rs ≡ true)
rising n r rs a =
    let p = and_parts (leb n r.0) (leb r.0 r.1 && ascends (r.1 + 1) rs) a in
    let q = and_parts (leb r.0 r.1) (ascends (r.1 + 1) rs) p.1 in
    (leb-true n r.0 p.0, leb-true r.0 r.1 q.0, q.1)

-- what lies before ascending ranges lies in none of them
none_before : (n k c : ℕ) (rs : List Range) → ascends n rs ≡ true → c < n → inside (chosen k rs) c ≡ false
none_before n k c [] a h = refl
none_before n k c (r ∷ rs) a h =
    let up = rising n r rs a in
    let i = none_before (r.1 + 1) k c rs up.2 (omega arith) in
    grind (arith, nat_tests)

-- looking up in ascending ranges finds the columns of the range that holds the code point
looked-chosen : (n c : ℕ) (rs : List Range) → ascends n rs ≡ true → even rs ≡ true → looked rs c ≡ cond (inside (chosen 0 rs) c) 0 (cond (inside (chosen 2 rs) c) 2 1)
looked-chosen n c [] a e = refl
looked-chosen n c (r ∷ rs) a e =
    let up = rising n r rs a in
    let w = and_parts (eqb r.2 0 || eqb r.2 2) (even rs) e in
    let rest = looked-chosen (r.1 + 1) c rs up.2 w.1 in
    let z : c < r.1 + 1 → inside (chosen 0 rs) c ≡ false = none_before (r.1 + 1) 0 c rs up.2 in
    let t : c < r.1 + 1 → inside (chosen 2 rs) c ≡ false = none_before (r.1 + 1) 2 c rs up.2 in
    grind (arith, nat_tests)

-- the whole table by one computed test each: it ascends, and its ranges are those of the definition
table-ascends : ascends 0 table ≡ true
table-ascends = refl

table-even : even table ≡ true
table-even = refl

table_zeros : chosen 0 table ≡ zero_width
table_zeros = refl

table_twos : chosen 2 table ≡ wide
table_twos = refl

pub looked-table : (c : ℕ) → looked table c ≡ columns_of c
looked-table c =
    looked-chosen 0 c table table-ascends table-even
    ∙ ap (λ l. cond (inside l c) 0 (cond (inside (chosen 2 table) c) 2 1)) table_zeros
    ∙ ap (λ l. cond (inside zero_width c) 0 (cond (inside l c) 2 1)) table_twos

-- whether a range meets none of the others
abbrev clear : ℕ × ℕ → List (ℕ × ℕ) → Bool
clear r [] = true
clear r (q ∷ rs) = (ltb r.1 q.0 || ltb q.1 r.0) && clear r rs

-- whether no two ranges meet
abbrev apart : List (ℕ × ℕ) → Bool
apart [] = true
apart (r ∷ rs) = clear r rs && apart rs

-- a number in a range that meets none of the others is in none of them
not_both : (r : ℕ × ℕ) (rs : List (ℕ × ℕ)) (j c : ℕ) → clear r rs ≡ true → j < length rs → inside (r ∷ []) c ≡ true → inside (get_or rs j (0, 0) ∷ []) c ≡ true → ⊥
not_both r [] j c a h p q = omega arith
not_both r (x ∷ rs) zero c a h p q = grind (arith, nat_tests)
not_both r (x ∷ rs) (suc j) c a h p q = not_both r rs j c (and_parts (ltb r.1 x.0 || ltb x.1 r.0) (clear r rs) a).1 (omega arith) p q

ranges_apart : (rs : List (ℕ × ℕ)) → apart rs ≡ true → Apart rs
ranges_apart [] a i j c hi hj p q = absurd (omega arith)
ranges_apart (r ∷ rs) a zero zero c hi hj p q = refl
ranges_apart (r ∷ rs) a zero (suc j) c hi hj p q = absurd (not_both r rs j c (and_parts (clear r rs) (apart rs) a).0 (omega arith) p q)
ranges_apart (r ∷ rs) a (suc i) zero c hi hj p q = absurd (not_both r rs i c (and_parts (clear r rs) (apart rs) a).0 (omega arith) q p)
ranges_apart (r ∷ rs) a (suc i) (suc j) c hi hj p q = ap suc (ranges_apart rs (and_parts (clear r rs) (apart rs) a).1 i j c (omega arith) (omega arith) p q)

-- all ranges of the rule, by one computed test
pub widths-apart : Apart (zero_width ++ wide)
widths-apart = ranges_apart (zero_width ++ wide) refl

-- each of ascending ranges begins at n or later, and ends no earlier than it begins
within : (n j : ℕ) (rs : List Range) (d : Range) → ascends n rs ≡ true → j < length rs → (n ≤ (get_or rs j d).0) × ((get_or rs j d).0 ≤ (get_or rs j d).1)
within n j [] d a h = absurd (omega arith)
within n zero (r ∷ rs) d a h = grind (arith, nat_tests)
within n (suc j) (r ∷ rs) d a h =
    let up = rising n r rs a in
    let w = within (r.1 + 1) j rs d up.2 (omega arith) in
    (omega arith, w.1)

-- ascending ranges stand to a code point in order
pub standing_rises : (n c : ℕ) (rs : List Range) → ascends n rs ≡ true → IsNonDecreasingBy (λ r. ordering_index (standing c r)) rs
standing_rises n c [] a i j d l h = absurd (omega arith)
standing_rises n c (r ∷ rs) a zero zero d l h = omega arith
standing_rises n c (r ∷ rs) a (suc i) zero d l h = absurd (omega arith)
standing_rises n c (r ∷ rs) a zero (suc j) d l h =
    let up = rising n r rs a in
    let w = within (r.1 + 1) j rs d up.2 (omega arith) in
    grind (arith, nat_tests)
standing_rises n c (r ∷ rs) a (suc i) (suc j) d l h = standing_rises (r.1 + 1) c rs (rising n r rs a).2 i j d (omega arith) (omega arith)

-- a code point in one of ascending ranges has its columns
pub looked_found : (n c i : ℕ) (rs : List Range) (d : Range) → ascends n rs ≡ true → i < length rs → standing c (get_or rs i d) ≡ Equal → looked rs c ≡ (get_or rs i d).2
looked_found n c i [] d a h e = absurd (omega arith)
looked_found n c zero (r ∷ rs) d a h e = grind (arith, nat_tests)
looked_found n c (suc i) (r ∷ rs) d a h e =
    let up = rising n r rs a in
    let w = within (r.1 + 1) i rs d up.2 (omega arith) in
    let more = looked_found (r.1 + 1) c i rs d up.2 (omega arith) e in
    grind (arith, nat_tests)

-- a code point in none of some ranges takes one column
pub looked_missed : (c : ℕ) (rs : List Range) → ((i : ℕ) (d : Range) → i < length rs → standing c (get_or rs i d) ≡ Equal → ⊥) → looked rs c ≡ 1
looked_missed c [] o = refl
looked_missed c (r ∷ rs) o =
    let rest = looked_missed c rs (λ i d h e. o (suc i) d (omega arith) e) in
    let first : standing c r ≡ Equal → ⊥ = o 0 r (omega arith) in
    grind (arith, nat_tests)
