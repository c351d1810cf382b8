-- The answers of the two rules. A row that starts at s ends by the first glyph that does not fit in it.
use Rattle.std.specs.Prelude.{◌≡◌, ℕ, zero, suc, ◌+◌, ◌-◌, ◌<◌, ◌≤◌, Bool, true, false, cond, not, ◌&&◌, ◌||◌, List, [], ◌∷◌, length, drop, Some, None, Option, nat_le, nat_lt}
use Rattle.std.specs.List.{prefix_len}
use Rattle.glyphs.specs.declared.Glyph.{Glyph}
use Rattle.glyphs.specs.Glyphs.{is_space}
use Rattle.wrap_laws.specs.Breaks.{Breaks, counted, space_at}

-- How many glyphs from the front fit in what is left of a row of w columns.
abbrev pub fitting : ℕ → ℕ → List Glyph → ℕ
fitting w room [] = 0
fitting w room (g ∷ gs) = cond (nat_le (counted w g) room) (suc (fitting w (room - counted w g) gs)) 0

-- The first glyph that does not fit in the row that starts at s; the line's end where all do, and s itself past that.
abbrev pub first_misfit : List Glyph → ℕ → ℕ → ℕ
first_misfit line w s = s + fitting w w (drop s line)

-- Cutting rule: fill each row; skip nothing.
abbrev pub cutting_break : Breaks
cutting_break line w s = (first_misfit line w s, first_misfit line w s)

-- The first place from k on that holds no space, or the line's end where there is none.
abbrev pub past_spaces : List Glyph → ℕ → ℕ
past_spaces line k = k + prefix_len is_space (drop k line)

-- Whether a non-space stands before k in the row that starts at s.
abbrev pub worded : List Glyph → ℕ → ℕ → Bool
worded line s zero = false
worded line s (suc k) = (nat_le s k && not (space_at line k)) || worded line s k

-- The last space before i with a non-space before it in the row that starts at s.
abbrev pub last_break : List Glyph → ℕ → ℕ → Option ℕ
last_break line s zero = None
last_break line s (suc k) = cond (space_at line k && worded line s k) (Some k) (last_break line s k)

-- k is the last space before i with a non-space before it in the row that starts at s (so behind k no space is left before i).
pub record IsLastBreak (line : List Glyph) (s i k : ℕ) : Type 0 where
  pub before : k < i
  pub space : space_at line k ≡ true
  pub word : (m : ℕ) × (s ≤ m) × (m < k) × (space_at line m ≡ false)
  pub last : (m : ℕ) → k < m → m < i → space_at line m ≡ false

-- No space before i has a non-space before it in the row that starts at s.
abbrev pub NoBreak : List Glyph → ℕ → ℕ → Type 0
NoBreak line s i = (k m : ℕ) → s ≤ m → m < k → k < i → space_at line k ≡ true → space_at line m ≡ true

-- A row that breaks at a space ends there, and the next starts behind that space; with no such space it ends before the glyph i.
abbrev pub broken_at : ℕ → Option ℕ → ℕ × ℕ
broken_at i (Some k) = (k, k + 1)
broken_at i None = (i, i)

-- Word rule, for the row that starts at s and whose first glyph that does not fit is i: if the rest fits, it is the row;
-- if i is a space, the row ends there and the next starts at the next non-space; else it breaks at the last space with a non-space before it.
abbrev pub word_break_at : List Glyph → ℕ → ℕ → ℕ × ℕ
word_break_at line s i = cond (nat_lt i (length line)) (cond (space_at line i) (i, past_spaces line i) (broken_at i (last_break line s i))) (i, i)

-- Word rule: the row ends by its first glyph that does not fit.
abbrev pub word_break : Breaks
word_break line w s = word_break_at line s (first_misfit line w s)
