use Rattle.std.proofs.Common.{string_bytes}
use Rattle.words.proofs.Hex.{hexed_more}
use Rattle.words.proofs.bytes.hex_of.Goals as goal

pub loop-b-preserved : goal.loop-b-preserved
loop-b-preserved c =
    hexed_more c.args.bytes.now (string_bytes c.loop-b.text) (string_bytes c.push_byte.new.text) c.loop-b.b-index c.loop-b-test.true c.loop-b.invariant c.in_ok-push_byte.ensures
