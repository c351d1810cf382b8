-- The laws of the byte ruler.
use Rattle.std.proofs.Common.{ℕ, zero, suc, ◌≤◌, ◌&&◌, leb, List, ◌∷◌, get_or, arith}
use Rattle.std.specs.List.{AllByRecursion as All}
use Rattle.std.proofs.lemmas.Bool.Decides.{nat_tests}
use Rattle.std.proofs.lemmas.Bool.{cond_both}
use Rattle.clusters.specs.Cuts.{cut_off, cut, byte_first, HidesControls}
use Rattle.clusters.proofs.Cutting.{Onward, cut_all}

pub byte_onward : Onward byte_first
byte_onward b s = (omega arith, omega arith)

pub byte_small : (s : List ℕ) → ((byte_first s).len ≤ 8) × ((byte_first s).width ≤ 2)
byte_small s = (omega arith, cond_both (leb 32 (get_or s 0 0) && leb (get_or s 0 0) 126) 1 0 (λ n. n ≤ 2) (λ _. omega arith) (λ _. omega arith))

hides_byte : (b : ℕ) (s : List ℕ) → HidesControls (cut_off (byte_first (b ∷ s)) (b ∷ s))
hides_byte b s zero h t = grind (arith, nat_tests)
hides_byte b s (suc i) h t = absurd (omega arith)

pub byte_hides : (s : List ℕ) → All HidesControls (cut byte_first s)
byte_hides s = cut_all byte_first byte_onward (λ _. Unit {0}) HidesControls (λ b s _. (hides_byte b s, tt)) 0 s tt
