use Rattle.std.proofs.Common.{◌≡◌, ℕ, ◌<◌, ◌≤◌, true, false}
use Rattle.wrap_laws.specs.Breaks.{space_at}
use Rattle.wrap.proofs.scan.last_break.Given as goal

abbrev pub invariant-search : goal.invariant-search
invariant-search l = (l.at ≤ l.end) × ((m : ℕ) → l.at ≤ m → m < l.end → space_at l.line m ≡ false)

abbrev pub decreases-search : goal.decreases-search
decreases-search l = l.at

abbrev pub invariant-loop-before : goal.invariant-loop-before
invariant-loop-before l = (l.before ≤ l.at) × ((m : ℕ) → l.before ≤ m → m < l.at → space_at l.line m ≡ true)

abbrev pub decreases-loop-before : goal.decreases-loop-before
decreases-loop-before l = l.before
