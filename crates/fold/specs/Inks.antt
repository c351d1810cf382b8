-- The styles in force, the newest first, on a stack of 65 places: the base and one for each mark that may be open.
use Rattle.std.specs.Prelude.{ℕ, List, [], ◌∷◌}
use Rattle.style.specs.declared.Style.{Style}
use Rattle.style.specs.Styles.{patched, adding}
use Rattle.stack.specs.Stacks.{pushed, popped}
use Rattle.events.specs.declared.event.Tag.{Tag}
use Rattle.events.specs.declared.event.Tag.TheVariants.{Strong, Emphasis, CodeBlock, Paragraph, Heading, Item, Table, TableHead, TableRow, TableCell}
use Rattle.events.specs.declared.event.Tag.TheVariants as tag
use Rattle.events.specs.declared.event.Kind.{Kind}
use Rattle.events.specs.declared.event.Kind.TheVariants.{Text, Code, SoftBreak, HardBreak, Start, End, Other}
use Rattle.events.specs.declared.styles.MarkdownStyles.{MarkdownStyles}

-- The style in force.
abbrev pub in_force : MarkdownStyles → List Style → Style
in_force y [] = y.base
in_force y (s ∷ ss) = s

-- Bold and italic are laid over what is in force, a heading takes its place, a table's head is laid over it.
abbrev pub start_ink : MarkdownStyles → ℕ → List Style → Tag → List Style
start_ink y room ss Strong = pushed room ss (patched (patched (in_force y ss) (adding 1)) y.bold)
start_ink y room ss Emphasis = pushed room ss (patched (patched (in_force y ss) (adding 2)) y.italic)
start_ink y room ss CodeBlock = ss
start_ink y room ss Paragraph = ss
start_ink y room ss Heading = pushed room ss y.heading
start_ink y room ss Item = ss
start_ink y room ss tag.List = ss
start_ink y room ss Table = ss
start_ink y room ss TableHead = pushed room ss (patched (in_force y ss) y.table_header)
start_ink y room ss TableRow = ss
start_ink y room ss TableCell = ss

abbrev pub end_ink : List Style → Tag → List Style
end_ink ss Strong = popped ss
end_ink ss Emphasis = popped ss
end_ink ss CodeBlock = ss
end_ink ss Paragraph = ss
end_ink ss Heading = popped ss
end_ink ss Item = ss
end_ink ss tag.List = ss
end_ink ss Table = ss
end_ink ss TableHead = popped ss
end_ink ss TableRow = ss
end_ink ss TableCell = ss

abbrev pub restyled : MarkdownStyles → ℕ → List Style → Kind → List Style
restyled y room ss Text = ss
restyled y room ss Code = ss
restyled y room ss SoftBreak = ss
restyled y room ss HardBreak = ss
restyled y room ss (Start k) = start_ink y room ss k
restyled y room ss (End k) = end_ink ss k
restyled y room ss Other = ss
