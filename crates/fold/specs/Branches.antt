-- What each event does to the sheet that is being written.
use Rattle.std.specs.Prelude.{ℕ, Bool, cond, not, ◌||◌, List, [], ◌∷◌}
use Rattle.style.specs.declared.Style.{Style}
use Rattle.glyphs.specs.Rulings.{Ruling}
use Rattle.glyphs.specs.Glyphs.{space, glyph_of}
use Rattle.events.specs.declared.event.Tag.{Tag}
use Rattle.events.specs.declared.event.Tag.TheVariants.{Strong, Emphasis, CodeBlock, Paragraph, Heading, Item, Table, TableHead, TableRow, TableCell}
use Rattle.events.specs.declared.event.Tag.TheVariants as tag
use Rattle.events.specs.declared.event.Kind.{Kind}
use Rattle.events.specs.declared.event.Kind.TheVariants.{Text, Code, SoftBreak, HardBreak, Start, End, Other}
use Rattle.events.specs.declared.styles.MarkdownStyles.{MarkdownStyles}
use Rattle.records.specs.declared.kinds.Info.{Info}
use Rattle.records.specs.Acts.{Act, put, end_line, begin_table, end_entry, end_head, end_row, end_table}
use Rattle.fold.specs.declared.mode.Mode.{Mode}
use Rattle.fold.specs.declared.mode.InItem.{InItem}
use Rattle.fold.specs.declared.mode.InItem.TheVariants.{No, First, Later}
use Rattle.fold.specs.declared.mode.Spot.{Spot}
use Rattle.fold.specs.Parts.{measured, part, spread}

-- Whether the stretch of text has more than one line, or something in its only one.
abbrev pub filled : Spot → Bool
filled p = p.more || not p.bare

-- What goes into the open line; in a table into the open entry, and nowhere outside an entry.
abbrev pub into : Spot → Mode → List Act → List Act
into p m xs = cond p.table (cond m.entry xs []) xs

-- What only a table does.
abbrev pub in_table : Spot → List Act → List Act
in_table p xs = cond p.table xs []

-- The "- " of an item, in dark gray.
abbrev pub gray : Style
gray = record { fg = 9; bg = 0; add = 0; remove = 0 }

abbrev pub bullet : List Act
bullet = put (glyph_of (45 ∷ []) 1 gray) ∷ put (space gray) ∷ []

-- A Text: in an entry as a whole; outside tables its parts, those of a code block in its style.
abbrev pub text_acts : Ruling → MarkdownStyles → Mode → Style → Spot → List ℕ → List Act
text_acts r y m t p s = cond p.table (cond m.entry (measured r t s) []) (spread (part r (cond m.code y.code_block t) m.code) [] s)

-- What goes before a paragraph: nothing before the first one of an item, which goes behind its "- "; else the line ends, outside items twice.
abbrev pub apart : InItem → List Act
apart No = end_line ∷ end_line ∷ []
apart First = []
apart Later = end_line ∷ []

-- The start of a tag.
abbrev pub start_acts : Mode → Spot → Info → Tag → List Act
start_acts m p i Strong = []
start_acts m p i Emphasis = []
start_acts m p i CodeBlock = cond p.bare [] (end_line ∷ end_line ∷ [])
start_acts m p i Paragraph = cond (filled p) (apart m.item) []
start_acts m p i Heading = cond (filled p) (end_line ∷ end_line ∷ []) []
start_acts m p i Item = cond (filled p) (end_line ∷ bullet) bullet
start_acts m p i tag.List = cond (filled p) (end_line ∷ []) []
start_acts m p i Table = begin_table i ∷ []
start_acts m p i TableHead = []
start_acts m p i TableRow = []
start_acts m p i TableCell = []

-- The end of a tag.
abbrev pub end_acts : Spot → Tag → List Act
end_acts p Strong = []
end_acts p Emphasis = []
end_acts p CodeBlock = cond p.bare [] (end_line ∷ [])
end_acts p Paragraph = []
end_acts p Heading = []
end_acts p Item = []
end_acts p tag.List = []
end_acts p Table = end_table ∷ []
end_acts p TableHead = in_table p (end_head ∷ [])
end_acts p TableRow = in_table p (end_row ∷ [])
end_acts p TableCell = in_table p (end_entry ∷ [])

-- An event, where t is the style in force, i what a table is told, and s what the event names in the text.
abbrev pub acts : Ruling → MarkdownStyles → Mode → Style → Spot → Info → Kind → List ℕ → List Act
acts r y m t p i Text s = text_acts r y m t p s
acts r y m t p i Code s = into p m (measured r y.code_inline s)
acts r y m t p i SoftBreak s = into p m (put (space t) ∷ [])
acts r y m t p i HardBreak s = cond p.table (cond m.entry (put (space t) ∷ []) []) (end_line ∷ [])
acts r y m t p i (Start k) s = start_acts m p i k
acts r y m t p i (End k) s = end_acts p k
acts r y m t p i Other s = []
