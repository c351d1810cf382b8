use Rattle.std.proofs.Common.{◌≡◌, ◌+◌, ◌≤◌, List, map, MatchOption, sym, subst}
use Rattle.records.specs.declared.kinds.Block.{Block}
use Rattle.records.specs.declared.kinds.Row.{Row}
use Rattle.blocks.specs.Pieces.{table}
use Rattle.blocks.specs.Reads.{entries_of, piece_of}
use Rattle.layout_laws.specs.Layouts.{block_rows}
use Rattle.paint.proofs.pen.Pen.draw_block.Goals as goal

pub returns-in-Table-clause-below : goal.returns-in-Table-clause-below
returns-in-Table-clause-below g c =
    let a = c.args in
    let b = g.R.BreakingRule.meaning a.layout.now.rule.now in
    let m = a.layout.now.records.now in
    let info = c.in-Table.info in
    let r = c.render_table.result in
    let P : List Row → Type 0 = λ rs. MatchOption r (a.self.now.bounds.bottom ≤ a.top + block_rows b a.layout.now.width a.layout.now.streaming (table info (map (entries_of m.glyphs info.columns) rs))) (λ n. n ≡ a.top + block_rows b a.layout.now.width a.layout.now.streaming (table info (map (entries_of m.glyphs info.columns) rs))) in
    let Q : Block → Type 0 = λ k. MatchOption r (a.self.now.bounds.bottom ≤ a.top + block_rows b a.layout.now.width a.layout.now.streaming (piece_of m.glyphs m.lines m.rows k)) (λ n. n ≡ a.top + block_rows b a.layout.now.width a.layout.now.streaming (piece_of m.glyphs m.lines m.rows k)) in
    subst Q (sym c.in-Table.is) (subst P c.rows_in.ensures.value c.render_table.ensures.below)
