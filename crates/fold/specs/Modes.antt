-- Where in the tags an event leaves the fold.
use Rattle.std.specs.Prelude.{Bool, true, false}
use Rattle.events.specs.declared.event.Tag.{Tag}
use Rattle.events.specs.declared.event.Tag.TheVariants.{Strong, Emphasis, CodeBlock, Paragraph, Heading, Item, Table, TableHead, TableRow, TableCell}
use Rattle.events.specs.declared.event.Tag.TheVariants as tag
use Rattle.events.specs.declared.event.Kind.{Kind}
use Rattle.events.specs.declared.event.Kind.TheVariants.{Text, Code, SoftBreak, HardBreak, Start, End, Other}
use Rattle.fold.specs.declared.mode.Mode.{Mode}
use Rattle.fold.specs.declared.mode.InItem.{InItem}
use Rattle.fold.specs.declared.mode.InItem.TheVariants.{No, First, Later}

abbrev pub moded : Bool → InItem → Bool → Mode
moded c i e = record { code = c; item = i; entry = e }

-- Before the first event.
abbrev pub outside : Mode
outside = moded false No false

-- Behind an item's first paragraph the next one is the first no more.
abbrev pub past_first : InItem → InItem
past_first No = No
past_first First = Later
past_first Later = Later

abbrev pub start_mode : Mode → Tag → Mode
start_mode m Strong = m
start_mode m Emphasis = m
start_mode m CodeBlock = moded true m.item m.entry
start_mode m Paragraph = moded m.code (past_first m.item) m.entry
start_mode m Heading = m
start_mode m Item = moded m.code First m.entry
start_mode m tag.List = m
start_mode m Table = moded m.code m.item false
start_mode m TableHead = m
start_mode m TableRow = m
start_mode m TableCell = moded m.code m.item true

abbrev pub end_mode : Mode → Tag → Mode
end_mode m Strong = m
end_mode m Emphasis = m
end_mode m CodeBlock = moded false m.item m.entry
end_mode m Paragraph = m
end_mode m Heading = m
end_mode m Item = moded m.code No m.entry
end_mode m tag.List = m
end_mode m Table = m
end_mode m TableHead = m
end_mode m TableRow = m
end_mode m TableCell = moded m.code m.item false

abbrev pub moved : Mode → Kind → Mode
moved m Text = m
moved m Code = m
moved m SoftBreak = m
moved m HardBreak = m
moved m (Start k) = start_mode m k
moved m (End k) = end_mode m k
moved m Other = m
