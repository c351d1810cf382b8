use Rattle.std.specs.Prelude.{◌≡◌, ℕ, ◌≤◌, List, Ok}
use Rattle.std.specs.List.{AllByRecursion}
use Rattle.glyphs.specs.Rulings.{Ruling}
use Rattle.events.specs.declared.event.Event.{Event}
use Rattle.events.specs.declared.styles.MarkdownStyles.{MarkdownStyles}
use Rattle.checks.specs.Checks.{checked}
use Rattle.blocks.specs.Pieces.{Piece, settled}
use Rattle.blocks.specs.Drafts.{flush}
use Rattle.parse.specs.Sketches.{written, parsed, needed}
use Rattle.laws.specs.Accounts.{account, Even, Solid}

-- The stretches of text, untrimmed, and the tables of a load; its blocks are these, settled.
abbrev pub stretches : Ruling → MarkdownStyles → List ℕ → List ℕ → List Event → List Piece
stretches r y text source es = (flush (written r y text source es).draft).pieces

-- Where the events are admitted, a load counts exactly the glyphs, lines, rows and tables of its stretches and tables.
abbrev pub CountsItsBlocks : Type 0
CountsItsBlocks = (r : Ruling) (y : MarkdownStyles) (text source : List ℕ) (es : List Event) → checked r.admits text es ≡ Ok tt →
    needed r y text source es ≡ account (stretches r y text source es)

-- Settling loses no glyph, no row and no table, and no line but empty ones at the end of a stretch.
abbrev pub SettlingLosesEmptyLines : Type 0
SettlingLosesEmptyLines = (ps : List Piece) →
    ((account (settled ps)).glyphs ≡ (account ps).glyphs) × ((account (settled ps)).rows ≡ (account ps).rows) × ((account (settled ps)).tables ≡ (account ps).tables) × ((account (settled ps)).lines ≤ (account ps).lines)

-- Where the events are admitted, every row of a table has an entry for each of its columns.
abbrev pub RowsAreEven : Type 0
RowsAreEven = (r : Ruling) (y : MarkdownStyles) (text source : List ℕ) (es : List Event) → checked r.admits text es ≡ Ok tt → AllByRecursion Even (parsed r y text source es)

-- No block is an empty text, nor ends with an empty line.
abbrev pub TextsAreSolid : Type 0
TextsAreSolid = (r : Ruling) (y : MarkdownStyles) (text source : List ℕ) (es : List Event) → AllByRecursion Solid (parsed r y text source es)
