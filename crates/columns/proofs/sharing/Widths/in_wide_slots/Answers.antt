use Rattle.std.proofs.Common.{ℕ, List, ◌++◌, length, ap}
use Rattle.std.proofs.lemmas.List.{drop-replicate}
use Rattle.columns.proofs.sharing.Widths.in_wide_slots.Goals as goal

pub returns : goal.returns
returns c =
    let cells = c.args.self.now.cells.now in
    rw c.copy_from_slice.ensures.after (ap (λ (l : List ℕ). cells ++ l) (drop-replicate {X = ℕ} (length cells) 32 0))
