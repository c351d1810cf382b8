-- The walk over the columns, two bits each, meets the bits of each column.
use Rattle.std.proofs.Common.{◌≡◌, ℕ, suc, ◌+◌, ◌*◌, ◌/◌, ◌%◌, ◌^◌, cond, eqb, List, [], ◌∷◌, ◌++◌, refl, sym, ap, ◌∙◌, arith}
use Rattle.std.proofs.lemmas.Bool.Decides.{nat_tests}
use Rattle.std.proofs.Math.Nat.{div-div-eq-div-mul, two-pow-succ, div-one}
use Rattle.wrap_laws.specs.Breaks.{Breaking}
use Rattle.records.specs.declared.kinds.Info.{Info}
use Rattle.records.specs.Alignments.{alignment}
use Rattle.records.specs.declared.kinds.Alignment.{Alignment}
use Rattle.records.specs.declared.kinds.Alignment.TheVariants.{Left, Centre, Right}
use Rattle.blocks.specs.Pieces.{Line}
use Rattle.drawings.specs.Strokes.{line_strokes}
use Rattle.drawings.specs.Tables.{entries_from}
use Rattle.drawings.specs.Tables.{alignment as by_lowest}
use Rattle.drawing_laws.specs.Laws.{entries_by, ColumnsAlignByTheirBits}

-- Whichever of the two is asked first.
both : (n : ℕ) → by_lowest n ≡ cond (eqb (n % 4) 2) Centre (cond (eqb (n % 4) 3) Right Left)
both n = grind (arith, nat_tests)

same_alignment : (i : Info) (k a : ℕ) → a ≡ i.alignments / 2 ^ (2 * k) → by_lowest a ≡ alignment i k
same_alignment i k a e = both a ∙ ap (λ n. cond (eqb (n % 4) 2) Centre (cond (eqb (n % 4) 3) Right Left)) e

four_more : (k : ℕ) → 2 ^ (2 * k) * 4 ≡ 2 ^ (2 * (k + 1))
four_more k =
    let d : 2 * (k + 1) ≡ suc (suc (2 * k)) = omega arith in
    let one = two-pow-succ (suc (2 * k)) in
    let two = two-pow-succ (2 * k) in
    let sum : 2 ^ (2 * k) * 4 ≡ 2 ^ suc (suc (2 * k)) = omega (arith, one, two) in
    sum ∙ ap (λ m. 2 ^ m) (sym d)

next_bits : (n k a : ℕ) → a ≡ n / 2 ^ (2 * k) → a / 4 ≡ n / 2 ^ (2 * (k + 1))
next_bits n k a e =
    ap (λ m. m / 4) e
    ∙ div-div-eq-div-mul n (2 ^ (2 * k)) 4
    ∙ ap (λ m. n / m) (four_more k)

walk : (b : Breaking) (i : Info) (k a x y : ℕ) (ws : List ℕ) (es : List Line) → a ≡ i.alignments / 2 ^ (2 * k) → entries_from b a x y ws es ≡ entries_by b i k x y ws es
walk b i k a x y [] es e = refl
walk b i k a x y (w ∷ ws) [] e = refl
walk b i k a x y (w ∷ ws) (l ∷ es) e =
    ap (λ (v : Alignment). line_strokes b v w (x + 2) y l ++ entries_from b (a / 4) (x + (w + 3)) y ws es) (same_alignment i k a e)
    ∙ ap (λ r. line_strokes b (alignment i k) w (x + 2) y l ++ r) (walk b i (k + 1) (a / 4) (x + (w + 3)) y ws es (next_bits i.alignments k a e))

pub columns_by_bits : ColumnsAlignByTheirBits
columns_by_bits b i x y ws es = walk b i 0 i.alignments x y ws es (sym (div-one i.alignments))
