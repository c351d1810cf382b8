use Rattle.std.proofs.Common.{◌≡◌, List, ℕ, true, Some, sym, ap, ◌∙◌}
use Rattle.std.specs.Str.{chars}
use Rattle.tail.specs.Entries.{unfinished}
use Rattle.tail.proofs.Repairs.{bytes_replaced}
use Rattle.tail.proofs.repair.after_two.Goals as goal

pub returns : goal.returns
returns c =
    let on : unfinished (chars c.args.line.now) ≡ true = sym c.delimiter_charset.ensures ∙ c.if-not-delimiter_charset.false in
    rw (sym c.lone_pipe.ensures ∙ c.if-lone_pipe.false, ← c.cell_count-cols.ensures.value, sym c.complete.ensures ∙ c.if-complete.false, on, sym c.ended.ensures ∙ c.if-ended.false) (ap (λ (x : List ℕ). Some x) (bytes_replaced c.args.text.now c.without_last_line.result.now c.cell_count-cols.result c.without_last_line.ensures))
