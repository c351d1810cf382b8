-- Every stroke of a sheet stands above its height.
use Rattle.std.proofs.Common.{◌≡◌, ℕ, ◌+◌, ◌<◌, ◌≤◌, Bool, false, eqb, List, [], ◌∷◌, sym, subst, ◌∙◌, arith}
use Rattle.std.specs.List.{AllByRecursion}
use Rattle.std.proofs.lemmas.Bool.{cond-false}
use Rattle.std.proofs.lemmas.Bool.Decides.{nat_tests}
use Rattle.std.proofs.lemmas.List.Sums.{sum_by-cons}
use Rattle.style.specs.declared.Style.{Style}
use Rattle.wrap_laws.specs.Breaks.{Breaking}
use Rattle.blocks.specs.Pieces.{Piece}
use Rattle.layout_laws.specs.Layouts.{block_rows, total_rows, height}
use Rattle.drawings.specs.Strokes.{Stroke}
use Rattle.drawings.specs.Drawings.{block_strokes, blocks_strokes, drawing}
use Rattle.drawings.proofs.Lists.{Lies, all-append, all-each}
use Rattle.drawings.proofs.SheetPlaces.{block_span, block_lies}

-- Blocks from row y on stand above the row behind the last one.
blocks_low : (b : Breaking) (w : ℕ) (streaming : Bool) (t : Style) (y : ℕ) (ps : List Piece) → AllByRecursion (λ (s : Stroke). s.y < y + total_rows b w streaming ps) (blocks_strokes b w streaming t y ps)
blocks_low b w streaming t y [] = tt
blocks_low b w streaming t y (p ∷ []) =
    let end = y + total_rows b w streaming (p ∷ []) in
    all-append (λ (s : Stroke). s.y < end) (block_strokes b w streaming t y p) []
    (all-each (Lies 0 (block_span w streaming p) y (y + block_rows b w streaming p)) (λ (s : Stroke). s.y < end) (block_strokes b w streaming t y p) (λ s l. omega (arith, l.to_y, sum_by-cons (block_rows b w streaming) p [])) (block_lies b w streaming t y p))
    tt
blocks_low b w streaming t y (p ∷ q ∷ ps) =
    let end = y + total_rows b w streaming (p ∷ q ∷ ps) in
    let next = y + block_rows b w streaming p + 1 in
    let same : next + total_rows b w streaming (q ∷ ps) ≡ end = omega (arith, sum_by-cons (block_rows b w streaming) p (q ∷ ps)) in
    all-append (λ (s : Stroke). s.y < end) (block_strokes b w streaming t y p) (blocks_strokes b w streaming t next (q ∷ ps))
    (all-each (Lies 0 (block_span w streaming p) y (y + block_rows b w streaming p)) (λ (s : Stroke). s.y < end) (block_strokes b w streaming t y p) (λ s l. omega (arith, l.to_y, same)) (block_lies b w streaming t y p))
    (subst (λ e. AllByRecursion (λ (s : Stroke). s.y < e) (blocks_strokes b w streaming t next (q ∷ ps))) same (blocks_low b w streaming t next (q ∷ ps)))

none_before : (n : ℕ) → 0 + n ≡ n
none_before n = omega arith

pub strokes_low : (b : Breaking) (w : ℕ) (streaming : Bool) (t : Style) (ps : List Piece) → 1 ≤ w → AllByRecursion (λ s. s.y < height b w streaming ps) (drawing b w streaming t ps)
strokes_low b w streaming t ps h =
    let wide : eqb w 0 ≡ false = grind (arith, nat_tests) in
    let same : 0 + total_rows b w streaming ps ≡ height b w streaming ps = none_before (total_rows b w streaming ps) ∙ sym (cond-false (eqb w 0) 0 (total_rows b w streaming ps) wide) in
    subst (λ e. AllByRecursion (λ (s : Stroke). s.y < e) (drawing b w streaming t ps)) same (blocks_low b w streaming t 0 ps)
