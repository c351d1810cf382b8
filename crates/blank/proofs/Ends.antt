use Rattle.std.proofs.Common.{◌≡◌, ℕ, ◌+◌, ◌-◌, ◌≤◌, Bool, true, List, length, drop, sym, ap, ◌∙◌, arith}
use Rattle.std.proofs.lemmas.List.{drop-drop, length-drop}
use Rattle.blank.specs.Ends.{start_of, HoldsEnds}

-- an end of the bytes behind where one of their ends begins is an end of that end
pub drop_in : (bs t : List ℕ) (m k : ℕ) → drop m bs ≡ t → m ≤ k → drop (k - m) t ≡ drop k bs
drop_in bs t m k e l =
    let s : m + (k - m) ≡ k = omega arith in
    ap (drop (k - m)) (sym e) ∙ (drop-drop (k - m) m bs ∙ ap (λ n. drop n bs) s)

-- all of the bytes hold each end of them
pub holds_all : (p : List ℕ → Bool) (bs : List ℕ) → HoldsEnds p bs bs
holds_all p bs =
    let z : start_of bs bs ≡ 0 = omega arith in
    record { short = omega arith; ends = ap (λ n. drop n bs) z; holds = λ k h. omega arith }

-- what is behind a place holds the ends, if none of them begins before the place
pub holds_behind : (p : List ℕ → Bool) (bs : List ℕ) (v : ℕ) → v ≤ length bs → ((k : ℕ) → p (drop k bs) ≡ true → v ≤ k) → HoldsEnds p bs (drop v bs)
holds_behind p bs v l f =
    let d : length (drop v bs) ≡ length bs - v = length-drop v bs in
    let s : start_of bs (drop v bs) ≡ v = omega arith in
    record { short = omega arith; ends = ap (λ n. drop n bs) s; holds = λ k h. omega (arith, f k h) }

-- the ends that an end of an end holds
pub holds_within : (p q : List ℕ → Bool) (bs t w : List ℕ) → ((s : List ℕ) → q s ≡ true → p s ≡ true) → HoldsEnds p bs t → HoldsEnds q t w → HoldsEnds q bs w
holds_within p q bs t w f a b =
    let m = start_of bs t in
    let s : start_of bs w - m ≡ start_of t w = omega arith in
    record {
      short = omega arith;
      ends = sym (drop_in bs t m (start_of bs w) a.ends (omega arith)) ∙ (ap (λ n. drop n t) s ∙ b.ends);
      holds = λ k h.
          let l : m ≤ k = a.holds k (f (drop k bs) h) in
          omega (arith, b.holds (k - m) (ap q (drop_in bs t m k a.ends l) ∙ h));
    }
