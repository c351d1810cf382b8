use Rattle.layout.proofs.Layout.block_rows.Goals as goal

pub returns-in-Table : goal.returns-in-Table
returns-in-Table g c = record { value = rw c.in-Table.is c.layout_table.ensures.rows }
