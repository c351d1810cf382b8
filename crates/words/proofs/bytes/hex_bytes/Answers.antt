use Rattle.std.proofs.Common.{vec_items, sym, ◌∙◌}
use Rattle.words.proofs.Hex.{hex_more}
use Rattle.words.proofs.bytes.hex_bytes.Goals as goal

pub loop-left-preserved : goal.loop-left-preserved
loop-left-preserved c =
    hex_more c.args.word.now (vec_items c.loop-left.bytes) (vec_items c.push.new.self) c.loop-left.left.now c.in_ok-byte.byte c.in-len2-up.len_at_least c.loop-left.invariant
    (sym c.hex_pair.ensures ∙ c.in_ok-byte.ensures.ok_part) c.in_ok-push.ensures.items
