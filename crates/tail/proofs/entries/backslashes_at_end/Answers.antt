use Rattle.std.proofs.Common.{arith, lit<}
use Rattle.std.specs.Str.{chars}
use Rattle.tail.proofs.Endings.{ends_off, ends_gone, at_end-none}
use Rattle.tail.proofs.entries.backslashes_at_end.Goals as goal

pub returns : goal.returns
returns c =
    let s = c.args.text.now in
    let t = c.trim_end_matches in
    let r = t.result.now in
    let off = ends_off 92 (lit< tt) s r t.ensures.matches.0.0 c.utf8.text t.ensures.matches.0.1 in
    omega (arith, off.1, at_end-none 92 (chars r) (ends_gone 92 (lit< tt) r off.0 t.ensures.matches.1), t.ensures.bound)
