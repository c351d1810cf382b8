use Rattle.std.proofs.Common.{◌≡◌, take, string_bytes}
use Rattle.words.specs.Bytes.{hex_of}
use Rattle.words.proofs.bytes.hex_of.Given as goal

abbrev pub invariant-loop-b : goal.invariant-loop-b
invariant-loop-b l = string_bytes l.text ≡ hex_of (take l.b-index l.bytes)
