-- Where the strokes of rules and borders lie.
use Rattle.std.proofs.Common.{ℕ, zero, suc, ◌+◌, ◌≤◌, List, [], ◌∷◌, arith}
use Rattle.style.specs.declared.Style.{Style}
use Rattle.drawings.specs.declared.Corners.{Corners}
use Rattle.drawings.specs.Tables.{dashes, rule_from, borders_from, borders}
use Rattle.drawings.proofs.Lists.{Lies, AllLie, all-append, lie_in}

-- How many cells columns of these widths take with all their borders.
abbrev pub span_of : List ℕ → ℕ
span_of [] = 1
span_of (w ∷ ws) = w + 3 + span_of ws

pub span_some : (ws : List ℕ) → 1 ≤ span_of ws
span_some [] = omega arith
span_some (w ∷ ws) = omega (arith, span_some ws)

-- Dashes stand side by side.
pub dashes_lie : (t : Style) (x y n : ℕ) → AllLie x (x + n) y (y + 1) (dashes t x y n)
dashes_lie t x y zero = tt
dashes_lie t x y (suc n) = (
  record { from_x = omega arith; to_x = omega arith; from_y = omega arith; to_y = omega arith },
  lie_in (x + 1) (x + 1 + n) y (y + 1) x (x + suc n) y (y + 1) (dashes t (x + 1) y n) (omega arith) (omega arith) (omega arith) (omega arith) (dashes_lie t (x + 1) y n),
)

-- A rule stands in its row, as wide as its columns.
pub rule_lies : (t : Style) (c : Corners) (corner : List ℕ) (x y : ℕ) (ws : List ℕ) → AllLie x (x + span_of ws) y (y + 1) (rule_from t c corner x y ws)
rule_lies t c corner x y [] = (record { from_x = omega arith; to_x = omega arith; from_y = omega arith; to_y = omega arith }, tt)
rule_lies t c corner x y (w ∷ ws) =
    let whole = x + span_of (w ∷ ws) in (
      record { from_x = omega arith; to_x = omega arith; from_y = omega arith; to_y = omega arith },
      all-append (Lies x whole y (y + 1)) (dashes t (x + 1) y (w + 2)) (rule_from t c c.middle (x + (w + 3)) y ws)
          (lie_in (x + 1) (x + 1 + (w + 2)) y (y + 1) x whole y (y + 1) (dashes t (x + 1) y (w + 2)) (omega arith) (omega arith) (omega arith) (omega arith) (dashes_lie t (x + 1) y (w + 2)))
          (lie_in (x + (w + 3)) (x + (w + 3) + span_of ws) y (y + 1) x whole y (y + 1) (rule_from t c c.middle (x + (w + 3)) y ws) (omega arith) (omega arith) (omega arith) (omega arith) (rule_lies t c c.middle (x + (w + 3)) y ws)),
    )

-- The borders of a row stand in it.
pub borders_from_lie : (t : Style) (x y : ℕ) (ws : List ℕ) → AllLie x (x + span_of ws) y (y + 1) (borders_from t x y ws)
borders_from_lie t x y [] = (record { from_x = omega arith; to_x = omega arith; from_y = omega arith; to_y = omega arith }, tt)
borders_from_lie t x y (w ∷ ws) = (
  record { from_x = omega arith; to_x = omega arith; from_y = omega arith; to_y = omega arith },
  lie_in (x + (w + 3)) (x + (w + 3) + span_of ws) y (y + 1) x (x + span_of (w ∷ ws)) y (y + 1) (borders_from t (x + (w + 3)) y ws) (omega arith) (omega arith) (omega arith) (omega arith) (borders_from_lie t (x + (w + 3)) y ws),
)

-- The borders of h rows stand in these.
pub borders_lie : (t : Style) (y : ℕ) (ws : List ℕ) (h : ℕ) → AllLie 0 (span_of ws) y (y + h) (borders t y ws h)
borders_lie t y ws zero = tt
borders_lie t y ws (suc h) =
    all-append (Lies 0 (span_of ws) y (y + suc h)) (borders_from t 0 y ws) (borders t (y + 1) ws h)
    (lie_in 0 (0 + span_of ws) y (y + 1) 0 (span_of ws) y (y + suc h) (borders_from t 0 y ws) (omega arith) (omega arith) (omega arith) (omega arith) (borders_from_lie t 0 y ws))
    (lie_in 0 (span_of ws) (y + 1) (y + 1 + h) 0 (span_of ws) y (y + suc h) (borders t (y + 1) ws h) (omega arith) (omega arith) (omega arith) (omega arith) (borders_lie t (y + 1) ws h))
