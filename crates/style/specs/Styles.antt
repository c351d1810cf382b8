use Rattle.std.specs.Prelude.{ℕ, ◌-◌, Bool, cond, ◌&&◌, ◌==◌, bit_and, bit_or, nat_le}
use Rattle.style.specs.declared.Style.{Style}

-- the upper colour where it is set, else the lower
abbrev pub colour_over : ℕ → ℕ → ℕ
colour_over lower upper = cond (upper == 0) lower upper

-- the members of the 8-bit set a that are not in b
abbrev pub without : ℕ → ℕ → ℕ
without a b = bit_and a (255 - b)

-- the style s with t laid over it
abbrev pub patched : Style → Style → Style
patched s t = record {
  fg = colour_over s.fg t.fg;
  bg = colour_over s.bg t.bg;
  add = bit_or (without s.add t.remove) t.add;
  remove = bit_or (without s.remove t.add) t.remove;
}

-- the style that only adds the modifiers m
abbrev pub adding : ℕ → Style
adding m = record { fg = 0; bg = 0; add = m; remove = 0 }

-- whether both colours exist: 0 for none, or one of the 16
abbrev pub known_colours : Style → Bool
known_colours t = nat_le t.fg 16 && nat_le t.bg 16
