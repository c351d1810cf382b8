-- The eight styles of a sheet: their defaults and the check of their colours.
use Rattle.std.specs.Prelude.{ℕ, ◌+◌, Bool, cond, ◌&&◌, List, [], ◌∷◌, Ok, Err, Result, nat_le}
use Rattle.style.specs.declared.Style.{Style}
use Rattle.events.specs.declared.styles.MarkdownStyles.{MarkdownStyles}
use Rattle.events.specs.declared.refusal.Refusal.{Refusal}
use Rattle.events.specs.declared.refusal.Refusal.TheVariants as refused

-- A style with a foreground, or with modifiers, alone.
abbrev pub in_colour : ℕ → ℕ → Style
in_colour colour modifiers = record { fg = colour; bg = 0; add = modifiers; remove = 0 }

-- The styles of a sheet for which none were set: code yellow and green, headings cyan and bold, borders dark gray.
abbrev pub defaults : MarkdownStyles
defaults = record {
  base = in_colour 0 0;
  code_inline = in_colour 4 0;
  code_block = in_colour 3 0;
  bold = in_colour 0 1;
  italic = in_colour 0 2;
  heading = in_colour 7 1;
  table_border = in_colour 9 0;
  table_header = in_colour 0 1;
}

-- The styles by their numbers.
abbrev pub in_order : MarkdownStyles → List Style
in_order s = s.base ∷ s.code_inline ∷ s.code_block ∷ s.bold ∷ s.italic ∷ s.heading ∷ s.table_border ∷ s.table_header ∷ []

-- Whether both colours of a style exist.
abbrev pub has_colours : Style → Bool
has_colours s = nat_le s.fg 16 && nat_le s.bg 16

-- The first style without, counted from n, is refused.
abbrev pub styles_checked : ℕ → List Style → Result (Unit {0}) Refusal
styles_checked n [] = Ok tt
styles_checked n (s ∷ ss) = cond (has_colours s) (styles_checked (n + 1) ss) (Err (refused.Style n))
