-- What the rules give to ten worked sheets.
use Rattle.std.specs.Prelude.{◌≡◌, true, [], ◌∷◌, map, codes}
use Rattle.wrap_laws.specs.Breaks.{Breaking, rows}
use Rattle.tail.specs.Entries.{cell_count}
use Rattle.tail.specs.Cook.{cooked}
use Rattle.markdown.specs.Sheets.{switched}
use Rattle.markdown.specs.Tables.{height_of}
use Rattle.markdown.specs.Pictures.{picture}
use Rattle.worked.specs.Fixtures.{line, three_columns, two_columns, Tells, Both, overhang, column_strokes, cell_rows, cells}

-- Ten worked sheets, by the word rule and the cutting rule.
pub record TenSheets (word cutting : Breaking) : Type 0 where
  -- On a page of 25 cells columns of 5, 9 and 9 cells get 5 each, and 8 cells are taken.
  pub level : Tells 25 three_columns (5 ∷ 5 ∷ 5 ∷ []) 8
  -- On a page of 24 one more is taken, from the rightmost of the three.
  pub rightmost : Tells 24 three_columns (5 ∷ 5 ∷ 4 ∷ []) 9
  -- On a page of 34 they stay as they are, and while the sheet is streaming the last gets one more.
  pub fitting : Tells 34 three_columns (5 ∷ 9 ∷ 9 ∷ []) 0
      × Tells 34 (switched true three_columns) (5 ∷ 9 ∷ 10 ∷ []) 0
  -- On a page of 12, columns 0 to 11, each has one, and the right border, at column 12, falls off.
  pub narrowest : Tells 12 three_columns (1 ∷ 1 ∷ 1 ∷ []) 20
      × Both word cutting (λ b. overhang 12 (picture b 12 three_columns) ≡
      column_strokes 12 (codes "┐│││││││││┤│││││││││┘"))
  -- A fresh page of 20 by 6 cells on which header a, b and row 10, 7 are painted shows this, every cell of it, 5 rows high.
  pub high : Both word cutting (λ b. height_of b 20 two_columns ≡ 5)
  pub drawn : Both word cutting (λ b. cell_rows 20 6 (picture b 20 two_columns) ≡ map cells
      (codes "┌────┬───┐          " ∷
      codes "│ a  │ b │          " ∷
      codes "├────┼───┤          " ∷
      codes "│ 10 │ 7 │          " ∷
      codes "└────┴───┘          " ∷
      codes "                    " ∷ []))
  -- In 5 cells a line with a word of 6 has 3 rows by the word rule, 2 by the cutting rule.
  pub long_word : let l = line (codes "a cccccc d") in (rows word l 5 ≡ 3) × (rows cutting l 5 ≡ 2)
  -- In 2 cells a line of four spaces has 1 row by the word rule, 2 by the cutting rule.
  pub spaces : let l = line (codes "    ") in (rows word l 2 ≡ 1) × (rows cutting l 2 ≡ 2)
  -- A header alone gets a line feed and a delimiter row.
  pub header : cooked (codes "|a") ≡ codes "|a\n|---|"
  -- An unfinished delimiter row becomes a whole one for as many entries as the header has.
  pub delimiter_row : cooked (codes "|a|b\n|---|:") ≡ codes "|a|b\n|---|---|"
  -- A pipe, a letter, two backslashes and a pipe are one entry.
  pub backslashes : cell_count (codes "|a\\\\|") ≡ 1
