-- Each border stands behind its columns.
use Rattle.std.proofs.Common.{zero, suc, ◌+◌, [], ◌∷◌, Some, take, ap, ◌∙◌, arith}
use Rattle.std.proofs.lemmas.List.Sums.{sum_by-cons}
use Rattle.drawings.specs.Strokes.{stroke}
use Rattle.drawings.specs.Tables.{bar}
use Rattle.drawing_laws.specs.Laws.{BordersStandBehindTheirColumns}

pub borders_stand : BordersStandBehindTheirColumns
borders_stand t x y zero [] h = ap (λ v. Some (stroke v y bar t)) (omega arith)
borders_stand t x y (suc k) [] h = absurd (omega arith)
borders_stand t x y zero (w ∷ ws) h = ap (λ v. Some (stroke v y bar t)) (omega arith)
borders_stand t x y (suc k) (w ∷ ws) h =
    borders_stand t (x + (w + 3)) y k ws (omega arith)
    ∙ ap (λ v. Some (stroke v y bar t)) (omega (arith, sum_by-cons (λ n. n) w (take k ws)))
