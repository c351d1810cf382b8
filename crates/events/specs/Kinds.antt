-- The kinds of events, by their numbers.
use Rattle.std.specs.Prelude.{ℕ, ◌-◌, cond, ◌&&◌, Some, None, Option, ◌==◌, nat_le}
use Rattle.events.specs.declared.event.Tag.{Tag}
use Rattle.events.specs.declared.event.Tag.TheVariants.{Strong, Emphasis, CodeBlock, Paragraph, Heading, Item, List, Table, TableHead, TableRow, TableCell}
use Rattle.events.specs.declared.event.Kind.{Kind}
use Rattle.events.specs.declared.event.Kind.TheVariants.{Text, Code, SoftBreak, HardBreak, Start, End, Other}
use Rattle.events.specs.declared.event.Unknown.{Unknown}

-- What is said of a number that means nothing.
abbrev pub unknown : Unknown
unknown = record {}

-- The number that starts a tag.
abbrev pub start_of : Tag → ℕ
start_of Strong = 10
start_of Emphasis = 11
start_of CodeBlock = 12
start_of Paragraph = 13
start_of Heading = 14
start_of Item = 15
start_of List = 16
start_of Table = 17
start_of TableHead = 18
start_of TableRow = 19
start_of TableCell = 20

-- The tag that a number starts.
abbrev pub tag_of : ℕ → Option Tag
tag_of n =
    cond (n == 10) (Some Strong) (
    cond (n == 11) (Some Emphasis) (
    cond (n == 12) (Some CodeBlock) (
    cond (n == 13) (Some Paragraph) (
    cond (n == 14) (Some Heading) (
    cond (n == 15) (Some Item) (
    cond (n == 16) (Some List) (
    cond (n == 17) (Some Table) (
    cond (n == 18) (Some TableHead) (
    cond (n == 19) (Some TableRow) (
    cond (n == 20) (Some TableCell) (
    None)))))))))))

-- The start of a tag, the end of a tag, if there is a tag.
abbrev pub starting : Option Tag → Option Kind
starting None = None
starting (Some t) = Some (Start t)

abbrev pub ending : Option Tag → Option Kind
ending None = None
ending (Some t) = Some (End t)

-- The kind that a number means: 0 to 3 and 50 by themselves, 10 to 20 a start, 30 to 40 the matching end.
abbrev pub kind_of : ℕ → Option Kind
kind_of n =
    cond (n == 0) (Some Text) (
    cond (n == 1) (Some Code) (
    cond (n == 2) (Some SoftBreak) (
    cond (n == 3) (Some HardBreak) (
    cond (nat_le 10 n && nat_le n 20) (starting (tag_of n)) (
    cond (nat_le 30 n && nat_le n 40) (ending (tag_of (n - 20))) (
    cond (n == 50) (Some Other) (
    None)))))))
