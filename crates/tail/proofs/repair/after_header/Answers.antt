use Rattle.std.proofs.Common.{List, ℕ, cond, not, [], ◌∷◌, ◌++◌, Some, sym, ap, ◌∙◌}
use Rattle.std.specs.Str.{chars}
use Rattle.tail.specs.Entries.{delimiter_row, cell_count}
use Rattle.tail.proofs.Repairs.{bytes_appended}
use Rattle.tail.proofs.repair.after_header.Goals as goal

pub returns : goal.returns
returns c =
    let bs = c.args.text.now in
    let row = ap (λ n. bs ++ (cond (not c.ended.result) (10 ∷ []) [] ++ delimiter_row n)) c.cell_count.ensures.value ∙ bytes_appended bs c.ended.result (cell_count (chars c.args.header.now)) c.utf8.text c.ended.ensures in
    rw (sym c.lone_pipe.ensures ∙ c.if-lone_pipe.false) (ap (λ (x : List ℕ). Some x) row)
