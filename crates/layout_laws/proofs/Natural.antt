-- A natural width is that of a column's widest entry.
use Rattle.std.proofs.Common.{◌≡◌, ℕ, zero, suc, ◌<◌, ◌≤◌, max, ◌⊎◌, List, [], ◌∷◌, length, map, get_or, inl, inr, ⊎_elim, arith}
use Rattle.std.proofs.lemmas.List.{length-map, get_or-map, get_or_past}
use Rattle.std.proofs.lemmas.Bool.{cases_lt}
use Rattle.shares.specs.Shares.{naturals}
use Rattle.blocks.specs.Pieces.{Line}
use Rattle.layout_laws.specs.Layouts.{entry_width, widest_entries}
use Rattle.layout_laws.specs.Laws.{width_at, ColumnsHoldTheirEntries, ColumnsAreNoWider}
use Rattle.layout_laws.proofs.Widest.{get_or-wider}

-- a width is kept, or it is made 1
kept_or_one : (ws : List ℕ) (k : ℕ) → (get_or (naturals ws) k 0 ≡ get_or ws k 0) ⊎ ((get_or ws k 0 ≡ 0) × (get_or (naturals ws) k 0 ≡ 1))
kept_or_one [] zero = inr (omega arith, omega arith)
kept_or_one [] (suc k) = inl (omega arith)
kept_or_one (w ∷ ws) k =
    ⊎_elim
    (λ h. let e = get_or-map (max 1) (w ∷ ws) k 0 0 h in
    ⊎_elim (λ s. inl (omega arith)) (λ s. inr (omega arith, omega arith)) (cases_lt 0 (get_or (w ∷ ws) k 0)))
    (λ h. inl (omega (arith, get_or_past (w ∷ ws) k 0 h, get_or_past (naturals (w ∷ ws)) k 0 (omega (arith, length-map (w ∷ ws) (max 1))))))
    (cases_lt k (length (w ∷ ws)))

widest_holds : (rs : List (List Line)) (i k : ℕ) → width_at rs i k ≤ get_or (widest_entries rs) k 0
widest_holds [] i k = omega arith
widest_holds (r ∷ rs) zero k = omega (arith, get_or-wider (map entry_width r) (widest_entries rs) k)
widest_holds (r ∷ rs) (suc i) k = omega (arith, get_or-wider (map entry_width r) (widest_entries rs) k, widest_holds rs i k)

widest_is_one : (rs : List (List Line)) (k : ℕ) → 0 < get_or (widest_entries rs) k 0 → (i : ℕ) × (i < length rs) × (width_at rs i k ≡ get_or (widest_entries rs) k 0)
widest_is_one [] k h = absurd (omega arith)
widest_is_one (r ∷ rs) k h =
    let e = get_or-wider (map entry_width r) (widest_entries rs) k in
    ⊎_elim
    (λ s. let rest = widest_is_one rs k (omega arith) in (suc rest.0, omega (arith, rest.1), omega (arith, e, rest.2)))
    (λ s. (0, omega arith, omega (arith, e)))
    (cases_lt (get_or (map entry_width r) k 0) (get_or (widest_entries rs) k 0))

pub columns_hold_their_entries : ColumnsHoldTheirEntries
columns_hold_their_entries rs i k =
    ⊎_elim (λ e. omega (arith, widest_holds rs i k)) (λ e. omega (arith, widest_holds rs i k, e.0)) (kept_or_one (widest_entries rs) k)

pub columns_are_no_wider : ColumnsAreNoWider
columns_are_no_wider rs k h =
    ⊎_elim
    (λ e. let one = widest_is_one rs k (omega arith) in (one.0, one.1, omega (arith, one.2, e)))
    (λ e. absurd (omega (arith, e.1)))
    (kept_or_one (widest_entries rs) k)
