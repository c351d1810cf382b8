use Rattle.std.proofs.Common.{string_bytes}
use Rattle.words.proofs.Hex.{two_pushed}
use Rattle.words.proofs.bytes.push_byte.Goals as goal

pub returns : goal.returns
returns c =
    let high = c.in_ok-push.ensures in
    let low = c.in_ok-push-2.ensures in
    two_pushed (string_bytes c.args.text.now) (string_bytes c.push.new.self) (string_bytes c.push-2.new.self) _ _ _ _ _ _
    high.bytes (high.ascii c.hex_digit.ensures.bound) c.hex_digit.ensures.value
    low.bytes (low.ascii c.hex_digit-2.ensures.bound) c.hex_digit-2.ensures.value
