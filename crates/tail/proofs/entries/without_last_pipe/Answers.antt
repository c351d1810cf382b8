use Rattle.std.proofs.Common.{◌%◌, Some, None, sym, ap, ◌∙◌, lit<}
use Rattle.std.proofs.lemmas.Str.Pattern.{strip_suffix_char}
use Rattle.tail.proofs.Ends.{pipe_off, pipe_on, pipe_none}
use Rattle.tail.proofs.entries.without_last_pipe.Goals as goal

pub returns-then-backslashes_at_end-eq0 : goal.returns-then-backslashes_at_end-eq0
returns-then-backslashes_at_end-eq0 c =
    let t = c.args.text.now in
    sym (pipe_off t c.utf8.text c.in-Some.inner.now (strip_suffix_char 124 t (Some c.in-Some.inner) c.in-Some.ensures.cases (lit< tt)) (sym (ap (λ n. n % 2) c.backslashes_at_end.ensures) ∙ c.if-backslashes_at_end-eq0.true))

pub returns-else-backslashes_at_end-eq0 : goal.returns-else-backslashes_at_end-eq0
returns-else-backslashes_at_end-eq0 c =
    let t = c.args.text.now in
    sym (pipe_on t c.utf8.text c.in-Some.inner.now (strip_suffix_char 124 t (Some c.in-Some.inner) c.in-Some.ensures.cases (lit< tt)) (λ q. c.if-backslashes_at_end-eq0.false (ap (λ n. n % 2) c.backslashes_at_end.ensures ∙ q)))

pub returns-in_default : goal.returns-in_default
returns-in_default c =
    let t = c.args.text.now in
    sym (pipe_none t c.utf8.text (strip_suffix_char 124 t None c.in_default.ensures.cases (lit< tt)))
