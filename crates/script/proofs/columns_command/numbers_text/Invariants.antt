use Rattle.std.proofs.Common.{◌≡◌, take, string_bytes}
use Rattle.script.specs.Shares.{spaced}
use Rattle.script.proofs.columns_command.numbers_text.Given as goal

abbrev pub invariant-loop-n : goal.invariant-loop-n
invariant-loop-n l = string_bytes l.text ≡ spaced (take l.n-index l.numbers)
