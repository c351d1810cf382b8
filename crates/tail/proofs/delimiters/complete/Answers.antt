use Rattle.std.proofs.Common.{false, sym, ap, ◌∙◌, lit<, rules}
use Rattle.std.specs.Str.{chars}
use Rattle.std.proofs.lemmas.Bool.{eq-eqb}
use Rattle.std.proofs.Math.Bool.{and-true}
use Rattle.std.proofs.lemmas.Iterator.Search.{all_from_yields_List}
use Rattle.tail.specs.Entries.{delimits, all_delimit, pieces, cell_count}
use Rattle.tail.proofs.Splits.{split_yields}
use Rattle.tail.proofs.Rows.{all_plain}
use Rattle.tail.proofs.delimiters.complete.Goals as goal

pub returns-then-cell_count-cols : goal.returns-then-cell_count-cols
returns-then-cell_count-cols c =
    let i = c.undecorated.result.now in
    let each = all_from_yields_List delimits _ _ _ c.all.ensures.ran (split_yields 124 (lit< tt) i c.undecorated.utf8 c.split.ensures.text c.split.ensures.has_more c.split.ensures.pattern) (λ x b q k. search rules) in
    rw (eq-eqb (cell_count (chars c.args.line.now)) c.args.cols (sym c.cell_count.ensures.value ∙ c.if-cell_count-cols.true))
    (each ∙ (all_plain (chars i) ∙ (ap (λ l. all_delimit (pieces false l)) c.undecorated.ensures ∙ sym (and-true _))))
