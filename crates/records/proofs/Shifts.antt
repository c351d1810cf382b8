use Rattle.std.proofs.Common.{◌≡◌, ℕ, ◌<◌, ◌≤◌, ◌/◌, ◌^◌}
use Rattle.std.proofs.Math.Nat.{div-eq_of_lt, pow-le-pow_right, zero-lt-suc, lt_of_lt_of_le}

-- a number of 64 bits has none behind them
pub none_left : (a k : ℕ) → a < 2 ^ 64 → 64 ≤ k → a / 2 ^ k ≡ 0
none_left a k f l = div-eq_of_lt (lt_of_lt_of_le f (pow-le-pow_right (zero-lt-suc 1) l))
