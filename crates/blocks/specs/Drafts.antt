-- What the acts make, as lists.
use Rattle.std.specs.Prelude.{Bool, true, false, cond, List, [], ◌∷◌, ◌++◌, map, fold, slice_set}
use Rattle.records.specs.declared.kinds.Info.{Info}
use Rattle.records.specs.Acts.{Act, put, end_line, begin_table, end_entry, end_head, end_row, end_table}
use Rattle.blocks.specs.Pieces.{Line, Piece, text, table, resized, settled}

-- A sheet that is being written.
pub record Draft : Type 0 where
  -- the stretches of text and the tables that are done
  pub pieces : List Piece
  -- the lines that have ended since
  pub lines : List Line
  -- the open line, or the open entry
  pub here : Line
  -- whether a table is being written, and what it was told
  pub begun : Bool
  pub info : Info
  -- its rows, the header first, and the entries of its open row
  pub rows : List (List Line)
  pub row : List Line

abbrev pub draft : List Piece → List Line → Line → Bool → Info → List (List Line) → List Line → Draft
draft ps ls h b i rs r = record { pieces = ps; lines = ls; here = h; begun = b; info = i; rows = rs; row = r }

-- The text so far is a stretch, its open line included, and a new one begins.
abbrev pub flush : Draft → Draft
flush d = draft (d.pieces ++ (text (d.lines ++ (d.here ∷ [])) ∷ [])) [] [] d.begun d.info d.rows d.row

-- What an act does.
abbrev pub draw : Draft → Act → Draft
draw d (put g) = draft d.pieces d.lines (d.here ++ (g ∷ [])) d.begun d.info d.rows d.row
draw d end_line = draft d.pieces (d.lines ++ (d.here ∷ [])) [] d.begun d.info d.rows d.row
draw d (begin_table i) = draft (flush d).pieces [] [] true i ([] ∷ []) []
draw d end_entry = draft d.pieces d.lines [] d.begun d.info d.rows (d.row ++ (d.here ∷ []))
draw d end_head = draft d.pieces d.lines d.here d.begun d.info (slice_set d.rows 0 d.row) []
draw d end_row = draft d.pieces d.lines d.here d.begun d.info (d.rows ++ (d.row ∷ [])) []
draw d end_table = cond d.begun (draft (d.pieces ++ (table d.info (map (resized d.info.columns) d.rows) ∷ [])) d.lines d.here false d.info [] d.row) d

abbrev pub drawn : Draft → List Act → Draft
drawn d xs = fold draw d xs

-- Nothing is written yet.
abbrev pub clean : Draft
clean = draft [] [] [] false (record { columns = 0; alignments = 0; «open» = false }) [] []

-- The blocks of a draft, its last stretch flushed.
abbrev pub finished : Draft → List Piece
finished d = settled (flush d).pieces
