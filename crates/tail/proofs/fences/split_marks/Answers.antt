use Rattle.std.proofs.Common.{sym, ◌∙◌, arith, subst}
use Rattle.std.specs.Str.{chars}
use Rattle.std.specs.Str.Pattern.{IsTrimStartMatches, FindsCharPrefix}
use Rattle.tail.specs.Fences.{sign}
use Rattle.tail.proofs.Marks.{sign_low, leading_none, past-none, marks_off, marks_gone}
use Rattle.tail.proofs.fences.split_marks.Goals as goal

pub returns : goal.returns
returns c =
    let d = sign c.args.mark in
    let low = sign_low c.args.mark in
    let s = c.args.text.now in
    let r = c.trim_start_matches-rest.result.now in
    let h = subst (λ k. IsTrimStartMatches (FindsCharPrefix k) s r) c.sign.ensures c.trim_start_matches-rest.ensures.matches in
    let off = marks_off d low s r h.0.0 c.utf8.text h.0.1 in
    let f = marks_gone d low r off.0 h.1 in
    record { count = omega (arith, off.1, leading_none d (chars r) f, c.trim_start_matches-rest.ensures.bound); rest = sym (past-none d (chars r) f) ∙ off.2 }
