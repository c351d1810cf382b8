use Rattle.std.specs.Prelude.{ℕ, zero, suc, ◌+◌, ◌*◌, ◌/◌, ◌%◌, ◌^◌, Bool, cond, ◌&&◌, List, [], ◌∷◌, length, Some, None, Option, nat_le, nat_lt}
use Rattle.style.specs.declared.Symbol.{Symbol}

-- bytes as one number, the first lowest
abbrev pub packed : List ℕ → ℕ
packed [] = 0
packed (b ∷ bs) = b + 256 * packed bs

-- the lowest n bytes of a number, the lowest first
abbrev pub unpacked : ℕ → ℕ → List ℕ
unpacked zero v = []
unpacked (suc n) v = v % 256 ∷ unpacked n (v / 256)

-- the bytes of a symbol
abbrev pub bytes_of : Symbol → List ℕ
bytes_of s = unpacked s.len s.bytes

-- the symbol of these bytes
abbrev pub symbol_of : List ℕ → Symbol
symbol_of bs = record { bytes = packed bs; len = length bs }

-- the symbol of these bytes if they are at most 8
abbrev pub symbol_from : List ℕ → Option Symbol
symbol_from bs = cond (nat_lt 8 (length bs)) None (Some (symbol_of bs))

-- whether a record is a symbol: at most 8 bytes, and nothing past them
abbrev pub whole : Symbol → Bool
whole s = nat_le s.len 8 && nat_lt s.bytes (2 ^ (8 * s.len))
