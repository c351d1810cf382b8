use Rattle.std.specs.Prelude.{Bool, cond, ◌&&◌, bit_or, nat_le, nat_lt}
use Rattle.style.specs.declared.Style.{Style}
use Rattle.style.specs.declared.Symbol.{Symbol}
use Rattle.style.specs.Symbols.{whole}
use Rattle.style.specs.Styles.{colour_over, without}
use Rattle.page.specs.declared.cells.Cell.{Cell}

-- a cell on which nothing was put: one space, all else 0
abbrev pub fresh : Cell
fresh = record { symbol = record { bytes = 32; len = 1 }; fg = 0; bg = 0; modifiers = 0 }

-- what is read past the end of a list of cells
abbrev pub no_cell : Cell
no_cell = record { symbol = record { bytes = 0; len = 0 }; fg = 0; bg = 0; modifiers = 0 }

-- what a put of a symbol and a style makes of a cell
abbrev pub inked : Symbol → Style → Cell → Cell
inked s t c = record {
  symbol = s;
  fg = colour_over c.fg t.fg;
  bg = colour_over c.bg t.bg;
  modifiers = without (bit_or c.modifiers t.add) t.remove;
}

-- whether a record is a cell: a symbol, colours of at most 16, a set of 8 modifiers
abbrev pub sound : Cell → Bool
sound c = whole c.symbol && (nat_le c.fg 16 && (nat_le c.bg 16 && nat_lt c.modifiers 256))

-- a record as it is shown: a fresh cell where it is none
abbrev pub tidy : Cell → Cell
tidy c = cond (sound c) c fresh
