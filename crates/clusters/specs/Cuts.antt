-- Cutting a byte string into clusters, and the first cluster of what is left, for the byte ruler and the UTF-8 ruler.
use Rattle.std.specs.Prelude.{◌≡◌, ℕ, zero, suc, ◌+◌, ◌-◌, ◌<◌, min, true, cond, ◌&&◌, List, [], ◌∷◌, length, take, nat_le, slice_index}
use Rattle.std.specs.Char.{len_utf8 as width, is_ascii_control}
use Rattle.std.specs.Str.{chars}
use Rattle.clusters.specs.declared.Cluster.{Cluster}
use Rattle.clusters.specs.Widths.{is_control, is_mark, columns_of}

-- A cluster cut out of a string: its bytes and its width.
pub record Cut : Type 0 where
  pub bytes : List ℕ
  pub width : ℕ

-- The cluster at the front of s.
abbrev pub cut_off : Cluster → List ℕ → Cut
cut_off c s = record { bytes = take c.len s; width = c.width }

-- The clusters of a string behind the next k bytes. Where no cluster is under way one begins: the first of what is left.
abbrev pub cut_from : (List ℕ → Cluster) → ℕ → List ℕ → List Cut
cut_from first k [] = []
cut_from first zero (b ∷ s) = cut_off (first (b ∷ s)) (b ∷ s) ∷ cut_from first ((first (b ∷ s)).len - 1) s
cut_from first (suc k) (b ∷ s) = cut_from first k s

-- The clusters of a string.
abbrev pub cut : (List ℕ → Cluster) → List ℕ → List Cut
cut first s = cut_from first 0 s

-- A cluster that holds a byte from 0 to 31 or 127 has width 0.
abbrev pub HidesControls : Cut → Type 0
HidesControls c = (i : ℕ) → i < length c.bytes → is_ascii_control (slice_index c.bytes i) ≡ true → c.width ≡ 0

-- The byte ruler: each byte is a cluster.
abbrev pub byte_columns : ℕ → ℕ
byte_columns b = cond (nat_le 32 b && nat_le b 126) 1 0

abbrev pub byte_first : List ℕ → Cluster
byte_first s = record { len = 1; width = byte_columns (slice_index s 0) }

-- How many bytes the marks at the front of some code points take, as far as they fit into the room.
abbrev pub mark_bytes : ℕ → List ℕ → ℕ
mark_bytes room [] = 0
mark_bytes room (c ∷ cs) = cond (is_mark c && nat_le (width c) room) (width c + mark_bytes (room - width c) cs) 0

-- The first cluster of some code points: the first with the marks after it that fit in 8 bytes, none after a control.
abbrev pub point_first : List ℕ → Cluster
point_first [] = record { len = 1; width = 0 }
point_first (c ∷ cs) = record { len = width c + cond (is_control c) 0 (mark_bytes (8 - width c) cs); width = columns_of c }

-- The UTF-8 ruler: the first cluster of the code points that the bytes spell. Bytes that are no text spell something too; it ends where they end.
abbrev pub utf8_first : List ℕ → Cluster
utf8_first s = record { len = min (length s) (point_first (chars s)).len; width = (point_first (chars s)).width }
