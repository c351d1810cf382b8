use Rattle.std.proofs.Common.{◌≡◌, ℕ, Result, List, length, sym, subst, ap, rules}
use Rattle.std.proofs.Math.Logic.{∥∥₁_map}
use Rattle.style.specs.declared.Style.{Style}
use Rattle.events.specs.declared.refusal.Refusal.{Refusal}
use Rattle.blocks.specs.Reads.{blocks_of}
use Rattle.layout_laws.specs.Layouts.{Low}
use Rattle.markdown.specs.Sheets.{sheet, on_ok}
use Rattle.markdown.specs.Outcomes.{load_outcome}
use Rattle.markdown.specs.Calls.{Load, load, load_of}
use Rattle.markdown.specs.Replies.{load_ended}
use Rattle.markdown.specs.Pasts.{Past, longer, Law, HasSomePast}
use Rattle.markdown.specs.Views.{sheet_of, memory_of}
use Rattle.markdown.specs.GoesOn.{HasPast}
use Rattle.markdown.proofs.Loads.{load_low}
use Rattle.markdown.proofs.Lives.{load_lives}
use Rattle.markdown.proofs.GoesOn.{goes_on}
use Rattle.markdown.proofs.Markdown.load.Goals as goal
use Rattle.markdown.proofs.Markdown.load.Goals.{After-refill}
use Rattle.markdown.proofs.Markdown.load.Given.{Over}

low : (g : Over) (c : After-refill g) → Low (blocks_of c.refill.new.records)
low g c =
    let old = c.args.self.now.records in
    load_low (g.R.Ruler.meaning c.args.ruler.now) c.args.styles.now c.args.text.now c.new-source.result c.args.events.now (length old.glyphs) (length old.lines) (length old.rows)
    c.refill.result (blocks_of old) (blocks_of c.refill.new.records) c.refill.ensures.answer c.refill.ensures.blocks c.args.self.now.low

-- the load, of a source
abbrev given : (g : Over) (c : After-refill g) → List ℕ → Load
given g c source = load_of (g.R.Ruler.meaning c.args.ruler.now) c.args.styles.now c.args.text.now source c.args.events.now

-- the past is one load longer, whatever came of the load
lives : (g : Over) (c : After-refill g) (b : Style) → b ≡ on_ok c.refill.result c.args.styles.now.table_border c.args.self.now.border → (p : Past) → HasPast p c.args.self.now →
    Law (longer p (load (given g c c.args.source.now)) (load_ended (load_outcome c.refill.result))) (sheet (blocks_of c.refill.new.records) b c.args.self.now.streaming) c.refill.new.records
lives g c b e p law =
    let m = c.args.self.now in
    subst (λ (o : List ℕ). Law (longer p (load (given g c o)) (load_ended (load_outcome c.refill.result))) (sheet (blocks_of c.refill.new.records) b m.streaming) c.refill.new.records) c.new-source.ensures.made
    (load_lives p (sheet_of m) (memory_of m) law (given g c c.new-source.result) c.refill.result (blocks_of c.refill.new.records) b c.refill.new.records c.refill.ensures.answer c.refill.ensures.blocks e c.refill.ensures.front c.refill.ensures.same c.refill.ensures.room)

-- and so the sheet has some past
lived : (g : Over) (c : After-refill g) (b : Style) → b ≡ on_ok c.refill.result c.args.styles.now.table_border c.args.self.now.border → HasSomePast (sheet (blocks_of c.refill.new.records) b c.args.self.now.streaming) c.refill.new.records
lived g c b e = ∥∥₁_map c.args.self.now.lived (λ h. (_, lives g c b e h.0 h.1))

-- the border after a load of this result
border_by : (g : Over) (c : After-refill g) (q : Result (Unit {0}) Refusal) → c.refill.result ≡ q → on_ok q c.args.styles.now.table_border c.args.self.now.border ≡ on_ok c.refill.result c.args.styles.now.table_border c.args.self.now.border
border_by g c q was = sym (ap (λ r. on_ok r c.args.styles.now.table_border c.args.self.now.border) was)

pub invariant_of-self : goal.invariant_of-self
invariant_of-self g c =
    let before = (goal.at.invariant_of-self g c).After-refill in
    record { low = low g before; lived = lived g before c.args.self.now.border (border_by g before _ c.in_err-refill.was) }

pub invariant_of-self-2 : goal.invariant_of-self-2
invariant_of-self-2 g c =
    let before = (goal.at.invariant_of-self-2 g c).After-refill in
    record { low = low g before; lived = lived g before c.args.styles.now.table_border (border_by g before _ c.in_ok-refill.was) }

pub returns-in_err-refill-clause-past : goal.returns-in_err-refill-clause-past
returns-in_err-refill-clause-past g c =
    let m = c.args.self.now in
    let before = (goal.at.returns-in_err-refill-clause-past g c).After-refill in
    let same : c.refill.result ≡ c.from_residual.result = search rules in
    goes_on _ _ m.lived
    (λ p law. subst (λ (q : Result (Unit {0}) Refusal). Law (longer p (load (given g before c.args.source.now)) (load_ended (load_outcome q))) (sheet (blocks_of c.refill.new.records) m.border m.streaming) c.refill.new.records) same
    (lives g before m.border (border_by g before _ c.in_err-refill.was) p law))

pub returns-clause-past : goal.returns-clause-past
returns-clause-past g c =
    let m = c.args.self.now in
    let before = (goal.at.returns-clause-past g c).After-refill in
    let border = c.args.styles.now.table_border in
    goes_on _ _ m.lived
    (λ p law. subst (λ (q : Result (Unit {0}) Refusal). Law (longer p (load (given g before c.args.source.now)) (load_ended (load_outcome q))) (sheet (blocks_of c.refill.new.records) border m.streaming) c.refill.new.records) c.in_ok-refill.was
    (lives g before border (border_by g before _ c.in_ok-refill.was) p law))
