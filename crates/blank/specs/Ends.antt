-- Ends of some bytes.
use Rattle.std.specs.Prelude.{◌≡◌, ℕ, ◌-◌, ◌≤◌, Bool, true, List, length, drop}

-- Where w begins in the bytes that it ends.
abbrev pub start_of : List ℕ → List ℕ → ℕ
start_of bs w = length bs - length w

-- HoldsEnds p bs w means that w is an end of the bytes, and that no end which passes the test begins before it.
pub record HoldsEnds (p : List ℕ → Bool) (bs w : List ℕ) : Type 0 where
  pub short : length w ≤ length bs
  pub ends : drop (start_of bs w) bs ≡ w
  pub holds : (k : ℕ) → p (drop k bs) ≡ true → start_of bs w ≤ k

-- IsLongestEnd p bs w means that w is the longest end of the bytes that passes the test.
abbrev pub IsLongestEnd : (List ℕ → Bool) → List ℕ → List ℕ → Type 0
IsLongestEnd p bs w = HoldsEnds p bs w × (p w ≡ true)
