-- Cutting a string, for every way to find the first cluster of what is left.
use Rattle.std.proofs.Common.{◌≡◌, ℕ, zero, suc, ◌-◌, ◌≤◌, List, [], ◌∷◌, ◌++◌, length, take, drop, sym, refl, ap, ◌∙◌, subst, arith, take-append-drop}
use Rattle.std.specs.List.{flat_map, AllByRecursion as All}
use Rattle.clusters.specs.declared.Cluster.{Cluster}
use Rattle.clusters.specs.Cuts.{Cut, cut_off, cut_from, cut}

-- a cluster has at least one byte, and no more than are left
abbrev pub Onward : (List ℕ → Cluster) → Type 0
Onward first = (b : ℕ) (s : List ℕ) → (1 ≤ (first (b ∷ s)).len) × ((first (b ∷ s)).len ≤ length (b ∷ s))

pub cut-behind : (first : List ℕ → Cluster) (k : ℕ) (s : List ℕ) → cut_from first k s ≡ cut first (drop k s)
cut-behind first zero [] = refl
cut-behind first zero (b ∷ s) = refl
cut-behind first (suc k) [] = refl
cut-behind first (suc k) (b ∷ s) = cut-behind first k s

drop_less : (n b : ℕ) (s : List ℕ) → 1 ≤ n → drop (n - 1) s ≡ drop n (b ∷ s)
drop_less zero b s h = absurd (omega arith)
drop_less (suc n) b s h = let e : suc n - 1 ≡ n = omega arith in ap (λ k. drop k s) e

-- a string is its first cluster, and then the clusters of what is left
pub cut_more : (first : List ℕ → Cluster) → Onward first → (b : ℕ) (s : List ℕ) →
    cut first (b ∷ s) ≡ cut_off (first (b ∷ s)) (b ∷ s) ∷ cut first (drop (first (b ∷ s)).len (b ∷ s))
cut_more first on b s =
    let n = (first (b ∷ s)).len in
    ap (λ (l : List Cut). cut_off (first (b ∷ s)) (b ∷ s) ∷ l) (cut-behind first (n - 1) s ∙ ap (cut first) (drop_less n b s (on b s).0))

joins_behind : (first : List ℕ → Cluster) → Onward first → (k : ℕ) (s : List ℕ) → flat_map (λ c. c.bytes) (cut_from first k s) ≡ drop k s
joins_behind first on zero [] = refl
joins_behind first on (suc k) [] = refl
joins_behind first on zero (b ∷ s) =
    let n = (first (b ∷ s)).len in
    ap (λ l. take n (b ∷ s) ++ l) (joins_behind first on (n - 1) s ∙ drop_less n b s (on b s).0) ∙ take-append-drop n (b ∷ s)
joins_behind first on (suc k) (b ∷ s) = joins_behind first on k s

-- the clusters of a string join to it
pub cut_joins : (first : List ℕ → Cluster) → Onward first → (s : List ℕ) → flat_map (λ c. c.bytes) (cut first s) ≡ s
cut_joins first on s = joins_behind first on 0 s

-- what holds of the first cluster of every string of a kind that cutting keeps, holds of all clusters
pub cut_all : (first : List ℕ → Cluster) → Onward first → (Kind : List ℕ → Type 0) (Q : Cut → Type 0) →
    ((b : ℕ) (s : List ℕ) → Kind (b ∷ s) → Q (cut_off (first (b ∷ s)) (b ∷ s)) × Kind (drop (first (b ∷ s)).len (b ∷ s))) →
    (k : ℕ) (s : List ℕ) → Kind (drop k s) → All Q (cut_from first k s)
cut_all first on Kind Q step zero [] h = tt
cut_all first on Kind Q step (suc k) [] h = tt
cut_all first on Kind Q step zero (b ∷ s) h =
    let n = (first (b ∷ s)).len in
    ((step b s h).0, cut_all first on Kind Q step (n - 1) s (subst Kind (sym (drop_less n b s (on b s).0)) (step b s h).1))
cut_all first on Kind Q step (suc k) (b ∷ s) h = cut_all first on Kind Q step k s h
