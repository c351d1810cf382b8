-- What a sheet shows of itself.
use Rattle.blocks.specs.Reads.{blocks_of}
use Rattle.records.specs.Memory.{Memory}
use Rattle.markdown.specs.declared.Markdown.{Markdown}
use Rattle.markdown.specs.Sheets.{Sheet, sheet, Limits, limits_in}

-- What it holds, the memory in which it holds it, and its limits.
abbrev pub sheet_of : Markdown → Sheet
sheet_of m = sheet (blocks_of m.records) m.border m.streaming

abbrev pub memory_of : Markdown → Memory
memory_of m = m.records

abbrev pub limits_of : Markdown → Limits
limits_of m = limits_in m.records
