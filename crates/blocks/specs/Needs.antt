-- How many records the acts need.
use Rattle.std.specs.Prelude.{ℕ, ◌+◌, List, fold}
use Rattle.records.specs.Acts.{Act, put, end_line, begin_table, end_entry, end_head, end_row, end_table}

pub record Needs : Type 0 where
  pub glyphs : ℕ
  pub lines : ℕ
  pub rows : ℕ
  pub tables : ℕ

abbrev pub needs : ℕ → ℕ → ℕ → ℕ → Needs
needs g l r t = record { glyphs = g; lines = l; rows = r; tables = t }

-- What an act needs besides.
abbrev pub tally : Needs → Act → Needs
tally n (put g) = needs (n.glyphs + 1) n.lines n.rows n.tables
tally n end_line = needs n.glyphs (n.lines + 1) n.rows n.tables
tally n (begin_table i) = needs n.glyphs (n.lines + 1) (n.rows + 1) (n.tables + 1)
tally n end_entry = n
tally n end_head = n
tally n end_row = needs n.glyphs n.lines (n.rows + 1) n.tables
tally n end_table = n

-- What acts need with the line that is open at their end.
abbrev pub tallied : List Act → Needs
tallied xs = let n : Needs = fold tally (needs 0 0 0 0) xs in needs n.glyphs (n.lines + 1) n.rows n.tables
