use Rattle.std.proofs.Common.{refl, ap, ◌∙◌, rules}
use Rattle.std.proofs.lemmas.Iterator.{YieldsList-from_chars}
use Rattle.std.proofs.lemmas.Iterator.Search.{all_from_yields_List}
use Rattle.tail.specs.Texts.{all}
use Rattle.tail.specs.Entries.{delimiter_char}
use Rattle.tail.proofs.Spelling.{trim_chars, empty_by}
use Rattle.tail.proofs.delimiters.delimiter_charset.Goals as goal

pub returns-then-not-is_empty : goal.returns-then-not-is_empty
returns-then-not-is_empty c =
    let t = c.trim-trimmed in
    let e = trim_chars c.args.line.now t.result.now c.utf8.line t.utf8 t.ensures.trim in
    rw (empty_by t.result.now _ _ _ t.utf8 e c.is_empty.ensures c.if-not-is_empty.true)
    (all_from_yields_List delimiter_char _ _ _ c.all.ensures.ran (YieldsList-from_chars t.result.now t.utf8 c.chars.ensures.rest) (λ x b q k. search rules) ∙ ap (all delimiter_char) e)

pub returns-else-not-is_empty : goal.returns-else-not-is_empty
returns-else-not-is_empty c =
    let t = c.trim-trimmed in
    let e = trim_chars c.args.line.now t.result.now c.utf8.line t.utf8 t.ensures.trim in
    rw (c.if-not-is_empty.false, empty_by t.result.now _ _ _ t.utf8 e c.is_empty.ensures c.if-not-is_empty.false) refl
