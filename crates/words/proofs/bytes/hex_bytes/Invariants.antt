use Rattle.std.proofs.Common.{◌≡◌, length, vec_items}
use Rattle.words.specs.Bytes.{hex_in}
use Rattle.words.proofs.Hex.{behind}
use Rattle.words.proofs.bytes.hex_bytes.Given as goal

abbrev pub invariant-loop-left : goal.invariant-loop-left
invariant-loop-left l = hex_in l.word ≡ behind (vec_items l.bytes) l.left

abbrev pub decreases-loop-left : goal.decreases-loop-left
decreases-loop-left l = length l.left
