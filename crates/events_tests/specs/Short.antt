-- A ruler that tells whole texts from their lines.
use Rattle.std.specs.Prelude.{◌&&◌, length, nat_le, nat_lt}
use Rattle.clusters.specs.Cuts.{byte_first}
use Rattle.clusters.proofs.Cutting.{cut_joins}
use Rattle.clusters.proofs.ByteLaws.{byte_onward, byte_small, byte_hides}
use Rattle.glyphs.specs.Rulings.{Ruling}

-- It admits one byte or two, and each byte is a cluster.
abbrev pub short_ruling : Ruling
short_ruling = record {
  admits = λ s. nat_lt 0 (length s) && nat_le (length s) 2;
  first = byte_first;
  onward = byte_onward;
  small = byte_small;
  joins = λ s _. cut_joins byte_first byte_onward s;
  hides = λ s _. byte_hides s;
}
