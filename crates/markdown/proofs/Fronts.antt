-- After an admitted load its records stand at the front of the memory.
use Rattle.std.proofs.Common.{◌≡◌, ℕ, ◌+◌, List, [], ◌∷◌, length, Ok, Err, Result, refl, sym, subst, ap, ◌∙◌, arith}
use Rattle.std.proofs.lemmas.List.{length-append}
use Rattle.glyphs.specs.declared.Glyph.{Glyph}
use Rattle.glyphs.specs.Rulings.{Ruling}
use Rattle.events.specs.declared.event.Event.{Event}
use Rattle.events.specs.declared.styles.MarkdownStyles.{MarkdownStyles}
use Rattle.records.specs.declared.kinds.Span.{Span}
use Rattle.records.specs.declared.kinds.Row.{Row}
use Rattle.records.specs.Memory.{Memory}
use Rattle.blocks.specs.Needs.{Needs}
use Rattle.blocks.specs.Pieces.{Piece, text, table}
use Rattle.blocks.specs.Fronts.{rows_over}
use Rattle.checks.specs.Checks.{and_then, checked}
use Rattle.events.specs.declared.refusal.Refusal.{Refusal}
use Rattle.parse.specs.Sketches.{needed}
use Rattle.parse.proofs.Programs.{fold_front}
use Rattle.events.specs.Styles.{in_order, styles_checked}
use Rattle.laws.specs.Accounts.{account}
use Rattle.laws.specs.Stands.{stretches}
use Rattle.laws.proofs.Runs.{counts_its_blocks}
use Rattle.markdown.specs.Answers.{answered}
use Rattle.markdown.specs.Sheets.{refilled}
use Rattle.markdown.specs.Calls.{load_of}
use Rattle.markdown.specs.Fronts.{StandsInFront}
use Rattle.markdown.proofs.Loads.{answer_within, load_uses}

-- the rows of tables are those that they account for
rows_many : (ps : List Piece) → (account ps).rows ≡ length (rows_over ps)
rows_many [] = refl
rows_many (text ls ∷ ps) = omega (arith, rows_many ps)
rows_many (table i rs ∷ ps) = ap (λ n. length rs + n) (rows_many ps) ∙ sym (length-append rs (rows_over ps))

both_ok : (p q : Result (Unit {0}) Refusal) → and_then p q ≡ Ok tt → (p ≡ Ok tt) × (q ≡ Ok tt)
both_ok (Ok tt) q e = (refl, e)
both_ok (Err x) q e = absurd (cc)

-- an admitted load counts no row but those of its tables
all_rows : (r : Ruling) (y : MarkdownStyles) (t o : List ℕ) (es : List Event) (g l w : ℕ) → answered r y t o es g l w ≡ Ok tt → (needed r y t o es).rows ≡ length (rows_over (stretches r y t o es))
all_rows r y t o es g l w e =
    let c = both_ok (checked r.admits t es) _ (both_ok (styles_checked 0 (in_order y)) _ e).1 in
    ap (λ (n : Needs). n.rows) (counts_its_blocks r y t o es c.0) ∙ rows_many (stretches r y t o es)

stands : (r : Ruling) (y : MarkdownStyles) (t o : List ℕ) (es : List Event) (gs : List Glyph) (ls : List Span) (rs : List Row) →
    answered r y t o es (length gs) (length ls) (length rs) ≡ Ok tt → StandsInFront (load_of r y t o es) (refilled r y t o es gs ls rs)
stands r y t [] es gs ls rs e = record { counts = refl; front = record { glyphs = refl; lines = refl; rows = tt; alone = λ xs vs ws. refl } }
stands r y t (b ∷ o) es gs ls rs e =
    record {
      counts = load_uses r y t (b ∷ o) es gs ls rs e;
      front = fold_front r y t (b ∷ o) es gs ls rs (answer_within r y t (b ∷ o) es (length gs) (length ls) (length rs) e) (all_rows r y t (b ∷ o) es (length gs) (length ls) (length rs) e);
    }

pub load_front : (r : Ruling) (y : MarkdownStyles) (t o : List ℕ) (es : List Event) (gs : List Glyph) (ls : List Span) (rs : List Row) (m : Memory) → m ≡ refilled r y t o es gs ls rs →
    answered r y t o es (length gs) (length ls) (length rs) ≡ Ok tt → StandsInFront (load_of r y t o es) m
load_front r y t o es gs ls rs m e a = subst (StandsInFront (load_of r y t o es)) (sym e) (stands r y t o es gs ls rs a)
