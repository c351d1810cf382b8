use Rattle.std.proofs.Common.{◌≡◌, false, [], refl, sym, subst, rules}
use Rattle.records.specs.Memory.{Memory}
use Rattle.blocks.specs.Reads.{blocks_of}
use Rattle.markdown.specs.Sheets.{Sheet, sheet, empty_sheet, lent_of, lent_in}
use Rattle.markdown.specs.Fronts.{IsUntouched}
use Rattle.markdown.specs.Holds.{Beginning, made_over}
use Rattle.markdown.specs.Pasts.{past, Law}
use Rattle.markdown.proofs.Runs.{law_start}
use Rattle.markdown.proofs.Markdown.new.Goals as goal

-- the law of a sheet that is empty, over memory as it was lent
starts : (b : Beginning) (s : Sheet) (m : Memory) → s ≡ empty_sheet → b ≡ made_over (lent_in m) → IsUntouched (lent_in m) m → Law (past b [] []) s m
starts b s m empty over untouched =
    subst (λ x. Law (past x [] []) s m) (sym over) (subst (λ t. Law (past (made_over (lent_in m)) [] []) t m) (sym empty) (law_start (made_over (lent_in m)) m untouched refl))

pub returns-clause-past : goal.returns-clause-past
returns-clause-past c =
    let made : sheet (blocks_of c.new.result) c.new-2.result.table_border false ≡ empty_sheet = search rules in
    let over : made_over (lent_of c.args.glyphs.now c.args.lines.now c.args.rows.now) ≡ made_over (lent_in c.new.result) = search rules in
    let untouched : IsUntouched (lent_in c.new.result) c.new.result = search rules in
    starts _ _ c.new.result made over untouched

pub invariant_of-result-clause-lived : goal.invariant_of-result-clause-lived
invariant_of-result-clause-lived c =
    let made : sheet (blocks_of c.new.result) c.new-2.result.table_border false ≡ empty_sheet = search rules in
    let untouched : IsUntouched (lent_in c.new.result) c.new.result = search rules in
    ∣ (_, starts _ _ c.new.result made refl untouched) ∣₁
