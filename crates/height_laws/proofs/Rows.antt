-- Rows counted against records.
use Rattle.std.proofs.Common.{◌≡◌, ℕ, zero, suc, ◌+◌, ◌-◌, ◌*◌, ◌<◌, ◌≤◌, Bool, List, [], ◌∷◌, ◌&&◌, length, sum_by, refl, ap, arith}
use Rattle.std.specs.List.{AllByRecursion as All}
use Rattle.std.proofs.lemmas.Bool.Decides.{nat_tests}
use Rattle.std.proofs.lemmas.List.Sums.{sum_by-cons}
use Rattle.wrap_laws.specs.Breaks.{Breaking, rows}
use Rattle.blocks.specs.Pieces.{Line, Piece, text, table, keep, trim, settled}
use Rattle.blocks.specs.Needs.{Needs}
use Rattle.blocks.specs.Stands.{Within}
use Rattle.parse.specs.Sketches.{parsed, needed}
use Rattle.laws.specs.Accounts.{glyphs_in, glyphs_over, weigh, account, Solid}
use Rattle.laws.specs.Stands.{stretches}
use Rattle.laws.proofs.Books.{settles}
use Rattle.laws.proofs.Runs.{counts_its_blocks, texts_are_solid}
use Rattle.layout_laws.proofs.Counts.{rows_le}
use Rattle.layout_laws.specs.Layouts.{final_widths, row_height, rule_count, text_rows, block_rows, total_rows}
use Rattle.height_laws.specs.Bounds.{most_rows, LoadsAreLow}

text_le : (b : Breaking) (w : ℕ) (ls : List Line) → text_rows b w ls ≤ length ls + (glyphs_in ls - 1)
text_le b w [] = omega arith
text_le b w (l ∷ ls) =
    let c = sum_by-cons (λ x. rows b x w) l ls in
    let h = rows_le b l w in
    let t = text_le b w ls in
    omega arith

-- lines without a glyph are all trimmed away
trim_none : (ls : List Line) → glyphs_in ls ≡ 0 → trim ls ≡ []
trim_none [] e = refl
trim_none ([] ∷ ls) e = ap (keep []) (trim_none ls (omega arith))
trim_none ((g ∷ gs) ∷ ls) e = absurd (omega arith)

some_glyph : (ls : List Line) (n : ℕ) → 0 < length ls → trim ls ≡ ls → n ≡ glyphs_in ls → 1 ≤ n
some_glyph ls zero h t e = let none = trim_none ls (omega arith) in absurd (omega (arith, ap length none, ap length t))
some_glyph ls (suc n) h t e = omega arith

row_le : (b : Breaking) (ws : List ℕ) (es : List Line) → row_height b ws es ≤ 1 + glyphs_in es
row_le b [] es = omega arith
row_le b (w ∷ ws) [] = omega arith
row_le b (w ∷ ws) (e ∷ es) = let h = rows_le b e w in let t = row_le b ws es in omega arith

body_le : (b : Breaking) (ws : List ℕ) (rs : List (List Line)) → sum_by (row_height b ws) rs ≤ length rs + glyphs_over rs
body_le b ws [] = omega arith
body_le b ws (r ∷ rs) =
    let c = sum_by-cons (row_height b ws) r rs in
    let h = row_le b ws r in
    let t = body_le b ws rs in
    omega arith

rules_le : (n : ℕ) → rule_count n ≤ 3
rules_le n = grind (arith, nat_tests)

-- what a block takes with the gap beside it
block_le : (b : Breaking) (w : ℕ) (streaming : Bool) (p : Piece) → Solid p → block_rows b w streaming p + 1 ≤ (weigh p).glyphs + (weigh p).lines + (weigh p).rows + 4 * (weigh p).tables
block_le b w streaming (text ls) s =
    let h = text_le b w ls in
    let k = some_glyph ls (glyphs_in ls) s.0 s.1 refl in
    omega arith
block_le b w streaming (table i rs) s =
    let h = body_le b (final_widths w (streaming && i.open) rs) rs in
    let k = rules_le (length rs) in
    omega arith

blocks_le : (b : Breaking) (w : ℕ) (streaming : Bool) (ps : List Piece) → All Solid ps →
    sum_by (block_rows b w streaming) ps + length ps ≤ (account ps).glyphs + (account ps).lines + (account ps).rows + 4 * (account ps).tables
blocks_le b w streaming [] s = omega arith
blocks_le b w streaming (p ∷ ps) s =
    let c = sum_by-cons (block_rows b w streaming) p ps in
    let h = block_le b w streaming p s.0 in
    let t = blocks_le b w streaming ps s.1 in
    omega arith

some_block : (b : Breaking) (w : ℕ) (streaming : Bool) (ps : List Piece) → All Solid ps → total_rows b w streaming ps ≤ most_rows (account ps)
some_block b w streaming [] s = omega arith
some_block b w streaming (p ∷ ps) s = let h = blocks_le b w streaming (p ∷ ps) s in omega arith

pub rows_follow_records : (b : Breaking) (w : ℕ) (streaming : Bool) (ps : List Piece) → All Solid ps → total_rows b w streaming ps ≤ most_rows (account ps)
rows_follow_records b w streaming ps s = some_block b w streaming ps s

low_settled : (b : Breaking) (w : ℕ) (streaming : Bool) (ps qs : List Piece) (n : Needs) (g l r : ℕ) → n ≡ account ps → Within n g l r → qs ≡ settled ps → All Solid qs → total_rows b w streaming qs ≤ 59211
low_settled b w streaming ps qs n g l r e h q s =
    let k = settles ps in
    let most = rows_follow_records b w streaming qs s in
    let a = ap (λ (x : Needs). x.glyphs) e in
    let c = ap (λ (x : Needs). x.lines) e in
    let d = ap (λ (x : Needs). x.rows) e in
    let f = ap (λ (x : Needs). x.tables) e in
    let i = ap (λ (x : List Piece). (account x).glyphs) q in
    let j = ap (λ (x : List Piece). (account x).lines) q in
    let m = ap (λ (x : List Piece). (account x).rows) q in
    let o = ap (λ (x : List Piece). (account x).tables) q in
    omega arith

pub loads_are_low : LoadsAreLow
loads_are_low r y t [] es g l w c h = λ b v streaming. omega arith
loads_are_low r y t (x ∷ source) es g l w c h =
    λ b v streaming. low_settled b v streaming (stretches r y t (x ∷ source) es) (parsed r y t (x ∷ source) es) (needed r y t (x ∷ source) es) g l w
    (counts_its_blocks r y t (x ∷ source) es c) h refl (texts_are_solid r y t (x ∷ source) es)
