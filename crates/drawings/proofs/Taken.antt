-- Where the glyphs of a sheet and the style of its borders can be put, a page takes every stroke of its drawing.
use Rattle.std.proofs.Common.{◌≡◌, ℕ, zero, suc, ◌+◌, ◌-◌, ◌/◌, ◌≤◌, Bool, true, cond, ◌&&◌, eqb, ltb, leb, List, [], ◌∷◌, length, take, drop, refl, ap, arith}
use Rattle.std.specs.List.{AllByRecursion, slice_range}
use Rattle.std.proofs.lemmas.Bool.{cond_both, and_from, le-leb}
use Rattle.style.specs.declared.Style.{Style}
use Rattle.style.specs.Styles.{known_colours}
use Rattle.style.specs.Symbols.{unpacked, bytes_of}
use Rattle.glyphs.specs.declared.Glyph.{Glyph}
use Rattle.wrap_laws.specs.Breaks.{Breaking, counted, columns, places, rows}
use Rattle.blocks.specs.Pieces.{Line, Piece, text, table}
use Rattle.layout_laws.specs.Layouts.{row_height, final_widths, block_rows}
use Rattle.records.specs.declared.kinds.Alignment.{Alignment}
use Rattle.records.specs.declared.kinds.Alignment.TheVariants.{Left}
use Rattle.drawings.specs.declared.Corners.{Corners}
use Rattle.drawings.specs.Strokes.{Stroke, stroke, stand_in, symbol_in, indent, glyph_strokes, row_strokes, aligned_strokes, rows_strokes, line_strokes, text_strokes}
use Rattle.drawings.specs.Tables.{upper, inner, lower, bar, dash, alignment, dashes, rule_from, rule_strokes, borders_from, borders, entries_from, table_row, body, below_head, below_rule}
use Rattle.drawings.specs.Drawings.{block_strokes, blocks_strokes}
use Rattle.drawings.specs.Pages.{taken, GlyphTaken, PieceTaken}
use Rattle.drawings.proofs.Lists.{all-append}

abbrev pub IsTaken : Stroke → Type 0
IsTaken p = taken p ≡ true

abbrev pub AllTaken : List Stroke → Type 0
AllTaken ps = AllByRecursion IsTaken ps

pub length_unpacked : (n v : ℕ) → length (unpacked n v) ≡ n
length_unpacked zero v = refl
length_unpacked (suc n) v = ap suc (length_unpacked n (v / 256))

stroke_taken : (x y : ℕ) (s : List ℕ) (t : Style) → length s ≤ 8 → known_colours t ≡ true → IsTaken (stroke x y s t)
stroke_taken x y s t h k = and_from (leb (length s) 8) (known_colours t) (le-leb (length s) 8 h) k

glyph_taken : (w x y : ℕ) (g : Glyph) → GlyphTaken g → AllTaken (glyph_strokes w x y g)
glyph_taken w x y g h =
    let short : length (symbol_in w g) ≤ 8 = cond_both (ltb w g.width) stand_in (bytes_of g.symbol) (λ s. length s ≤ 8) (λ e. omega arith) (λ e. omega (arith, length_unpacked g.symbol.len g.symbol.bytes, h.0)) in
    cond_both (eqb (counted w g) 0) [] (stroke x y (symbol_in w g) g.style ∷ cond (ltb 1 (counted w g)) (stroke (x + 1) y [] g.style ∷ []) []) AllTaken
    (λ e. tt)
    (λ e. (
      stroke_taken x y (symbol_in w g) g.style short h.1,
      cond_both (ltb 1 (counted w g)) (stroke (x + 1) y [] g.style ∷ []) [] AllTaken (λ f. (stroke_taken (x + 1) y [] g.style (omega arith) h.1, tt)) (λ f. tt),
    ))

row_taken : (w x y : ℕ) (gs : List Glyph) → AllByRecursion GlyphTaken gs → AllTaken (row_strokes w x y gs)
row_taken w x y [] h = tt
row_taken w x y (g ∷ gs) h = all-append IsTaken (glyph_strokes w x y g) (row_strokes w (x + counted w g) y gs) (glyph_taken w x y g h.0) (row_taken w (x + counted w g) y gs h.1)

all-take : {X : Type 0} (P : X → Type 0) (n : ℕ) (xs : List X) → AllByRecursion P xs → AllByRecursion P (take n xs)
all-take P zero xs h = tt
all-take P (suc n) [] h = tt
all-take P (suc n) (x ∷ xs) h = (h.0, all-take P n xs h.1)

all-drop : {X : Type 0} (P : X → Type 0) (n : ℕ) (xs : List X) → AllByRecursion P xs → AllByRecursion P (drop n xs)
all-drop P zero xs h = h
all-drop P (suc n) [] h = tt
all-drop P (suc n) (x ∷ xs) h = all-drop P n xs h.1

rows_taken : (a : Alignment) (w x y : ℕ) (line : Line) (rs : List (ℕ × ℕ)) → AllByRecursion GlyphTaken line → AllTaken (rows_strokes a w x y line rs)
rows_taken a w x y line [] h = tt
rows_taken a w x y line (r ∷ rs) h =
    let row = slice_range line r.0 r.1 in
    all-append IsTaken (aligned_strokes a w x y row) (rows_strokes a w x (y + 1) line rs)
    (row_taken w (x + indent a w (columns w row)) y row (all-take GlyphTaken (r.1 - r.0) (drop r.0 line) (all-drop GlyphTaken r.0 line h)))
    (rows_taken a w x (y + 1) line rs h)

line_taken : (b : Breaking) (a : Alignment) (w x y : ℕ) (line : Line) → AllByRecursion GlyphTaken line → AllTaken (line_strokes b a w x y line)
line_taken b a w x y line h = rows_taken a w x y line (places b line w 0) h

text_taken : (b : Breaking) (w y : ℕ) (ls : List Line) → AllByRecursion (λ l. AllByRecursion GlyphTaken l) ls → AllTaken (text_strokes b w y ls)
text_taken b w y [] h = tt
text_taken b w y (l ∷ ls) h = all-append IsTaken (line_strokes b Left w 0 y l) (text_strokes b w (y + rows b l w) ls) (line_taken b Left w 0 y l h.0) (text_taken b w (y + rows b l w) ls h.1)

module _ (t : Style) (k : known_colours t ≡ true) where
  dashes_taken : (x y n : ℕ) → AllTaken (dashes t x y n)
  dashes_taken x y zero = tt
  dashes_taken x y (suc n) = (stroke_taken x y dash t (omega arith) k, dashes_taken (x + 1) y n)

  rule_taken : (c : Corners) (corner : List ℕ) (x y : ℕ) (ws : List ℕ) → length corner ≤ 8 → length c.middle ≤ 8 → length c.right ≤ 8 → AllTaken (rule_from t c corner x y ws)
  rule_taken c corner x y [] h m r = (stroke_taken x y c.right t r k, tt)
  rule_taken c corner x y (w ∷ ws) h m r = (
    stroke_taken x y corner t h k,
    all-append IsTaken (dashes t (x + 1) y (w + 2)) (rule_from t c c.middle (x + (w + 3)) y ws) (dashes_taken (x + 1) y (w + 2)) (rule_taken c c.middle (x + (w + 3)) y ws m m r),
  )

  borders_from_taken : (x y : ℕ) (ws : List ℕ) → AllTaken (borders_from t x y ws)
  borders_from_taken x y [] = (stroke_taken x y bar t (omega arith) k, tt)
  borders_from_taken x y (w ∷ ws) = (stroke_taken x y bar t (omega arith) k, borders_from_taken (x + (w + 3)) y ws)

  borders_taken : (y : ℕ) (ws : List ℕ) (h : ℕ) → AllTaken (borders t y ws h)
  borders_taken y ws zero = tt
  borders_taken y ws (suc h) = all-append IsTaken (borders_from t 0 y ws) (borders t (y + 1) ws h) (borders_from_taken 0 y ws) (borders_taken (y + 1) ws h)

  entries_taken : (b : Breaking) (bits x y : ℕ) (ws : List ℕ) (es : List Line) → AllByRecursion (λ l. AllByRecursion GlyphTaken l) es → AllTaken (entries_from b bits x y ws es)
  entries_taken b bits x y [] es h = tt
  entries_taken b bits x y (w ∷ ws) [] h = tt
  entries_taken b bits x y (w ∷ ws) (e ∷ es) h =
      all-append IsTaken (line_strokes b (alignment bits) w (x + 2) y e) (entries_from b (bits / 4) (x + (w + 3)) y ws es) (line_taken b (alignment bits) w (x + 2) y e h.0) (entries_taken b (bits / 4) (x + (w + 3)) y ws es h.1)

  table_row_taken : (b : Breaking) (bits : ℕ) (ws : List ℕ) (y : ℕ) (es : List Line) → AllByRecursion (λ l. AllByRecursion GlyphTaken l) es → AllTaken (table_row b t bits ws y es)
  table_row_taken b bits ws y es h = all-append IsTaken (borders t y ws (row_height b ws es)) (entries_from b bits 0 y ws es) (borders_taken y ws (row_height b ws es)) (entries_taken b bits 0 y ws es h)

  lower_taken : (y : ℕ) (ws : List ℕ) → AllTaken (rule_strokes t lower y ws)
  lower_taken y ws = rule_taken lower lower.left 0 y ws (omega arith) (omega arith) (omega arith)

  body_taken : (b : Breaking) (bits : ℕ) (ws : List ℕ) (y : ℕ) (rs : List (List Line)) → AllByRecursion (λ r. AllByRecursion (λ l. AllByRecursion GlyphTaken l) r) rs → AllTaken (body b t bits ws y rs)
  body_taken b bits ws y [] h = lower_taken y ws
  body_taken b bits ws y (r ∷ rs) h = all-append IsTaken (table_row b t bits ws y r) (body b t bits ws (y + row_height b ws r) rs) (table_row_taken b bits ws y r h.0) (body_taken b bits ws (y + row_height b ws r) rs h.1)

  below_head_taken : (b : Breaking) (bits : ℕ) (ws : List ℕ) (y : ℕ) (rs : List (List Line)) → AllByRecursion (λ r. AllByRecursion (λ l. AllByRecursion GlyphTaken l) r) rs → AllTaken (below_head b t bits ws y rs)
  below_head_taken b bits ws y [] h = lower_taken y ws
  below_head_taken b bits ws y (r ∷ rs) h =
      all-append IsTaken (rule_strokes t inner y ws) (body b t bits ws (y + 1) (r ∷ rs)) (rule_taken inner inner.left 0 y ws (omega arith) (omega arith) (omega arith)) (body_taken b bits ws (y + 1) (r ∷ rs) h)

  below_rule_taken : (b : Breaking) (bits : ℕ) (ws : List ℕ) (y : ℕ) (rs : List (List Line)) → AllByRecursion (λ r. AllByRecursion (λ l. AllByRecursion GlyphTaken l) r) rs → AllTaken (below_rule b t bits ws y rs)
  below_rule_taken b bits ws y [] h = lower_taken y ws
  below_rule_taken b bits ws y (head ∷ rs) h =
      all-append IsTaken (table_row b t bits ws y head) (below_head b t bits ws (y + row_height b ws head) rs) (table_row_taken b bits ws y head h.0) (below_head_taken b bits ws (y + row_height b ws head) rs h.1)

  block_taken : (b : Breaking) (w : ℕ) (streaming : Bool) (y : ℕ) (p : Piece) → PieceTaken p → AllTaken (block_strokes b w streaming t y p)
  block_taken b w streaming y (text ls) h = text_taken b w y ls h
  block_taken b w streaming y (table i rs) h =
      let ws = final_widths w (streaming && i.open) rs in
      all-append IsTaken (rule_strokes t upper y ws) (below_rule b t i.alignments ws (y + 1) rs) (rule_taken upper upper.left 0 y ws (omega arith) (omega arith) (omega arith)) (below_rule_taken b i.alignments ws (y + 1) rs h)

  -- Every stroke of blocks is one that a page takes.
  pub blocks_taken : (b : Breaking) (w : ℕ) (streaming : Bool) (y : ℕ) (ps : List Piece) → AllByRecursion PieceTaken ps → AllTaken (blocks_strokes b w streaming t y ps)
  blocks_taken b w streaming y [] h = tt
  blocks_taken b w streaming y (p ∷ ps) h =
      let next = y + block_rows b w streaming p + 1 in
      all-append IsTaken (block_strokes b w streaming t y p) (blocks_strokes b w streaming t next ps) (block_taken b w streaming y p h.0) (blocks_taken b w streaming next ps h.1)
