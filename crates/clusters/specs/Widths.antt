-- How many columns a code point takes.
use Rattle.std.specs.Prelude.{◌≡◌, ℕ, ◌+◌, ◌<◌, Bool, true, false, cond, ◌&&◌, ◌||◌, List, [], ◌∷◌, ◌++◌, length, nat_le, nat_lt, slice_index_or}
use Rattle.std.specs.declared.cmp.Ordering.{Ordering}
use Rattle.std.specs.declared.cmp.Ordering.TheVariants.{Less, Equal, Greater}

-- Whether c lies in one of the ranges, each from its first number to its last.
abbrev pub inside : List (ℕ × ℕ) → ℕ → Bool
inside [] c = false
inside (r ∷ rs) c = (nat_le r.0 c && nat_le c r.1) || inside rs c

-- The controls.
abbrev pub controls : List (ℕ × ℕ)
controls = (0x0000, 0x001F) ∷ (0x007F, 0x009F) ∷ []

-- The marks, which stand over the code point before them.
abbrev pub marks : List (ℕ × ℕ)
marks = (0x0300, 0x036F) ∷ []

-- What else shows nothing by itself.
abbrev pub hidden : List (ℕ × ℕ)
hidden = (0x0600, 0x0605) ∷ (0x200B, 0x200F) ∷ (0xFEFF, 0xFEFF) ∷ []

-- What takes two columns.
abbrev pub wide : List (ℕ × ℕ)
wide = (0x1100, 0x115F) ∷ (0x2E80, 0x303E) ∷ (0x3041, 0x4DBF) ∷ (0x4E00, 0x9FFF) ∷ (0xAC00, 0xD7A3) ∷ (0xF900, 0xFAFF) ∷ (0xFE30, 0xFE4F) ∷ (0xFF01, 0xFF60) ∷ (0xFFE0, 0xFFE6) ∷ (0x20000, 0x2FFFD) ∷ (0x30000, 0x3FFFD) ∷ []

-- What takes no column.
abbrev pub zero_width : List (ℕ × ℕ)
zero_width = controls ++ (marks ++ hidden)

abbrev pub is_control : ℕ → Bool
is_control c = inside controls c

abbrev pub is_mark : ℕ → Bool
is_mark c = inside marks c

-- The columns of a code point that begins a cluster.
abbrev pub columns_of : ℕ → ℕ
columns_of c = cond (inside zero_width c) 0 (cond (inside wide c) 2 1)

-- No number lies in two of the ranges.
abbrev pub Apart : List (ℕ × ℕ) → Type 0
Apart rs = (i j c : ℕ) → i < length rs → j < length rs → inside (slice_index_or rs i (0, 0) ∷ []) c ≡ true → inside (slice_index_or rs j (0, 0) ∷ []) c ≡ true → i ≡ j

-- A range from its first number to its last, with its columns.
abbrev pub Range : Type 0
Range = ℕ × ℕ × ℕ

-- All the ranges in ascending order.
abbrev pub table : List Range
table =
    (0x0000, 0x001F, 0) ∷ (0x007F, 0x009F, 0) ∷ (0x0300, 0x036F, 0) ∷ (0x0600, 0x0605, 0) ∷ (0x1100, 0x115F, 2) ∷ (0x200B, 0x200F, 0)
    ∷ (0x2E80, 0x303E, 2) ∷ (0x3041, 0x4DBF, 2) ∷ (0x4E00, 0x9FFF, 2) ∷ (0xAC00, 0xD7A3, 2) ∷ (0xF900, 0xFAFF, 2) ∷ (0xFE30, 0xFE4F, 2)
    ∷ (0xFEFF, 0xFEFF, 0) ∷ (0xFF01, 0xFF60, 2) ∷ (0xFFE0, 0xFFE6, 2) ∷ (0x20000, 0x2FFFD, 2) ∷ (0x30000, 0x3FFFD, 2) ∷ []

-- Whether the ranges begin at n or later, and each behind the one before it.
abbrev pub ascends : ℕ → List Range → Bool
ascends n [] = true
ascends n (r ∷ rs) = nat_le n r.0 && (nat_le r.0 r.1 && ascends (r.1 + 1) rs)

-- How a range stands to a code point: before it, behind it, or around it.
abbrev pub standing : ℕ → Range → Ordering
standing c r = cond (nat_lt c r.0) Greater (cond (nat_le c r.1) Equal Less)

-- A code point looked up in ascending ranges: 1 where none holds it.
abbrev pub looked : List Range → ℕ → ℕ
looked [] c = 1
looked (r ∷ rs) c = cond (nat_lt c r.0) 1 (cond (nat_le c r.1) r.2 (looked rs c))
