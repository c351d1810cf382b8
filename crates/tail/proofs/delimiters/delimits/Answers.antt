use Rattle.std.proofs.Common.{refl, ap, ◌∙◌, rules}
use Rattle.std.proofs.lemmas.Iterator.{YieldsList-from_chars}
use Rattle.std.proofs.lemmas.Iterator.Search.{all_from_yields_List}
use Rattle.tail.specs.Texts.{all, is, without_first, without_last}
use Rattle.tail.proofs.Spelling.{trim_chars, empty_by}
use Rattle.tail.proofs.delimiters.delimits.Goals as goal

pub returns-then-not-is_empty : goal.returns-then-not-is_empty
returns-then-not-is_empty c =
    let t = c.without_last-hyphens in
    let e = t.ensures ∙ ap (without_last 58) (c.without_first.ensures ∙ ap (without_first 58) (trim_chars c.args.entry.now c.trim.result.now c.utf8.entry c.trim.utf8 c.trim.ensures.trim)) in
    rw (empty_by t.result.now _ _ _ t.utf8 e c.is_empty.ensures c.if-not-is_empty.true)
    (all_from_yields_List (is 45) _ _ _ c.all.ensures.ran (YieldsList-from_chars t.result.now t.utf8 c.chars.ensures.rest) (λ x b q k. search rules) ∙ ap (all (is 45)) e)

pub returns-else-not-is_empty : goal.returns-else-not-is_empty
returns-else-not-is_empty c =
    let t = c.without_last-hyphens in
    let e = t.ensures ∙ ap (without_last 58) (c.without_first.ensures ∙ ap (without_first 58) (trim_chars c.args.entry.now c.trim.result.now c.utf8.entry c.trim.utf8 c.trim.ensures.trim)) in
    rw (c.if-not-is_empty.false, empty_by t.result.now _ _ _ t.utf8 e c.is_empty.ensures c.if-not-is_empty.false) refl
