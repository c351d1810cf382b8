use Rattle.std.proofs.Common.{ℕ, ◌+◌, Bool, true, false, cond, ltb, List, [], ◌∷◌, ◌++◌, length, set, Option, Some, None}
use Rattle.glyphs.specs.declared.Glyph.{Glyph}
use Rattle.records.specs.declared.kinds.Span.{Span}
use Rattle.records.specs.declared.kinds.Row.{Row}
use Rattle.records.specs.declared.kinds.Info.{Info}
use Rattle.records.specs.declared.kinds.Block.{Block}
use Rattle.records.specs.declared.kinds.Block.TheVariants.{Text, Table}
use Rattle.records.specs.Acts.{Act, put, end_line, begin_table, end_entry, end_head, end_row, end_table}
use Rattle.records.specs.Memory.{span, blank_row, entered, up}

-- The table under way, as the records keep it.
pub record Grid : Type 0 where
  pub info : Option Info
  pub row : Row
  pub entries : ℕ

abbrev pub grid : Option Info → Row → ℕ → Grid
grid i r n = record { info = i; row = r; entries = n }

-- What is written, as lists that only grow at their ends: `old` and `gone` are the lines and rows of blocks.
pub record Flat : Type 0 where
  pub glyphs : List Glyph
  pub from : ℕ
  pub bare : Bool
  pub old : List Span
  pub lines : List Span
  pub full : ℕ
  pub gone : List Row
  pub rows : List Row
  pub acc : Grid
  pub blocks : List Block

abbrev pub place : ℕ → ℕ → Span
place a n = record { start = a; len = n }

abbrev pub flined : Flat → Flat
flined f = record { glyphs = f.glyphs; from = length f.glyphs; bare = true; old = f.old; lines = f.lines ++ (span f.from (length f.glyphs) ∷ []); full = cond f.bare f.full (length f.lines + 1); gone = f.gone; rows = f.rows; acc = f.acc; blocks = f.blocks }

abbrev pub fadded : Flat → Block → Flat
fadded f b = record { glyphs = f.glyphs; from = f.from; bare = f.bare; old = f.old; lines = f.lines; full = f.full; gone = f.gone; rows = f.rows; acc = f.acc; blocks = f.blocks ++ (b ∷ []) }

abbrev pub ftexted : Flat → Flat
ftexted f = cond (ltb 0 f.full) (fadded f (Text (place (length f.old) f.full))) f

abbrev pub ffresh : Flat → Flat
ffresh f = record { glyphs = f.glyphs; from = f.from; bare = f.bare; old = f.old ++ f.lines; lines = []; full = 0; gone = f.gone; rows = f.rows; acc = f.acc; blocks = f.blocks }

abbrev pub fflushed : Flat → Flat
fflushed f = ffresh (ftexted (flined f))

abbrev pub frowed : Flat → List Row → List Row → Grid → Flat
frowed f g rs a = record { glyphs = f.glyphs; from = f.from; bare = f.bare; old = f.old; lines = f.lines; full = f.full; gone = g; rows = rs; acc = a; blocks = f.blocks }

abbrev pub fbegun : Flat → Info → Flat
fbegun f i = frowed f (f.gone ++ f.rows) (blank_row ∷ []) (grid (Some i) blank_row 0)

abbrev pub fclosed : Flat → Flat
fclosed f = frowed f (f.gone ++ f.rows) [] (grid None f.acc.row f.acc.entries)

abbrev pub fended : Option Info → Flat → Flat
fended None f = f
fended (Some i) f = fclosed (fadded f (Table i (place (length f.gone) (length f.rows))))

abbrev pub flat : Flat → Act → Flat
flat f (put g) = record { glyphs = f.glyphs ++ (g ∷ []); from = f.from; bare = false; old = f.old; lines = f.lines; full = f.full; gone = f.gone; rows = f.rows; acc = f.acc; blocks = f.blocks }
flat f end_line = flined f
flat f (begin_table i) = fbegun (fflushed f) i
flat f end_entry = record { glyphs = f.glyphs; from = length f.glyphs; bare = true; old = f.old; lines = f.lines; full = f.full; gone = f.gone; rows = f.rows; acc = grid f.acc.info (entered f.acc.row f.acc.entries (span f.from (length f.glyphs))) (up f.acc.entries); blocks = f.blocks }
flat f end_head = frowed f f.gone (set f.rows 0 f.acc.row) (grid f.acc.info blank_row 0)
flat f end_row = frowed f f.gone (f.rows ++ (f.acc.row ∷ [])) (grid f.acc.info blank_row 0)
flat f end_table = fended f.acc.info f
