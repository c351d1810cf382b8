use Rattle.std.proofs.Common.{◌≡◌, ℕ, ◌<◌, ◌≤◌, min, Bool, true, false, cond, eqb, leb, List, [], ◌∷◌, length, Ok, Err, Result, refl, sym, subst, ap, ◌∙◌, arith}
use Rattle.std.proofs.lemmas.Bool.{leb-true}
use Rattle.std.proofs.lemmas.Bool.Decides.{nat_tests}
use Rattle.glyphs.specs.declared.Glyph.{Glyph}
use Rattle.glyphs.specs.Rulings.{Ruling}
use Rattle.events.specs.declared.event.Event.{Event}
use Rattle.events.specs.declared.styles.MarkdownStyles.{MarkdownStyles}
use Rattle.events.specs.declared.refusal.Refusal.{Refusal}
use Rattle.events.specs.declared.refusal.Refusal.TheVariants as refused
use Rattle.events.specs.declared.refusal.Amount.TheVariants.{Glyphs, Lines, Rows, Tables}
use Rattle.events.specs.Styles.{in_order, styles_checked}
use Rattle.checks.specs.Checks.{and_then, checked}
use Rattle.records.specs.declared.kinds.Span.{Span}
use Rattle.records.specs.declared.kinds.Row.{Row}
use Rattle.records.specs.declared.kinds.Used.{Used}
use Rattle.records.specs.Memory.{Memory}
use Rattle.blocks.specs.Needs.{Needs}
use Rattle.blocks.specs.Pieces.{Piece}
use Rattle.layout_laws.specs.Layouts.{Low}
use Rattle.height_laws.proofs.Rows.{loads_are_low}
use Rattle.blocks.proofs.Counts.{same_needs}
use Rattle.blocks.specs.Reads.{blocks_of}
use Rattle.blocks.specs.Stands.{Within}
use Rattle.parse.specs.Sketches.{parsed, needed}
use Rattle.parse.specs.Stands.{filled}
use Rattle.parse.proofs.Programs.{fold_shows, fold_counts}
use Rattle.markdown.specs.Answers.{limited_by, limited, answered}
use Rattle.markdown.specs.Sheets.{Limits, lent_of, limits_by, limits_in, on_ok, count_of, in_use, refilled}

pub then_next : (p q : Result (Unit {0}) Refusal) → p ≡ Ok tt → q ≡ and_then p q
then_next (Ok u) q e = refl
then_next (Err x) q e = absurd (cc)

then_ok : (p q : Result (Unit {0}) Refusal) → and_then p q ≡ Ok tt → q ≡ Ok tt
then_ok (Ok u) q e = e
then_ok (Err x) q e = absurd (cc)

then_ok_first : (p q : Result (Unit {0}) Refusal) → and_then p q ≡ Ok tt → p ≡ Ok tt
then_ok_first (Ok tt) q e = refl
then_ok_first (Err x) q e = absurd (cc)

cond_ok : (b : Bool) (p : Result (Unit {0}) Refusal) (x : Refusal) → cond b p (Err x) ≡ Ok tt → (b ≡ true) × (p ≡ Ok tt)
cond_ok true p x e = (refl, e)
cond_ok false p x e = absurd (cc)

nat_le_min : (m n k : ℕ) → k < 65535 → m ≡ min 65535 n → leb m k ≡ leb n k
nat_le_min m n k h e = grind (arith, nat_tests)

-- counts that stop above every limit are refused as the needs are
pub same_limits : (u : Used) (n : Needs) (g l r : ℕ) → u.glyphs ≡ min 65535 n.glyphs → u.lines ≡ min 65535 n.lines → u.rows ≡ min 65535 n.rows → u.tables ≡ min 65535 n.tables →
    limited_by u.glyphs u.lines u.rows u.tables g l r ≡ limited n g l r
same_limits u n g l r a b c d =
    let T : Bool → Result (Unit {0}) Refusal = λ v. cond v (Ok tt) (Err (refused.Amount Tables)) in
    let R : Bool → Bool → Result (Unit {0}) Refusal = λ w v. cond w (T v) (Err (refused.Amount Rows)) in
    let L : Bool → Bool → Bool → Result (Unit {0}) Refusal = λ x w v. cond x (R w v) (Err (refused.Amount Lines)) in
    let G : Bool → Bool → Bool → Bool → Result (Unit {0}) Refusal = λ y x w v. cond y (L x w v) (Err (refused.Amount Glyphs)) in
    ap (λ y. G y (leb u.lines (min l 4096)) (leb u.rows (min r 4096)) (leb u.tables 255)) (nat_le_min u.glyphs n.glyphs (min g 50000) (omega arith) a)
    ∙ (ap (λ x. G (leb n.glyphs (min g 50000)) x (leb u.rows (min r 4096)) (leb u.tables 255)) (nat_le_min u.lines n.lines (min l 4096) (omega arith) b)
    ∙ (ap (λ w. G (leb n.glyphs (min g 50000)) (leb n.lines (min l 4096)) w (leb u.tables 255)) (nat_le_min u.rows n.rows (min r 4096) (omega arith) c)
    ∙ ap (λ v. G (leb n.glyphs (min g 50000)) (leb n.lines (min l 4096)) (leb n.rows (min r 4096)) v) (nat_le_min u.tables n.tables 255 (omega arith) d)))

-- what is counted in memory without a place
pub dry_limits : (r : Ruling) (y : MarkdownStyles) (t o : List ℕ) (es : List Event) (u : Used) (g l w : ℕ) → u ≡ (filled r y t o es [] [] []).used →
    limited_by u.glyphs u.lines u.rows u.tables g l w ≡ limited (needed r y t o es) g l w
dry_limits r y t o es u g l w e =
    let k = fold_counts r y t o es [] [] [] in
    same_limits u (needed r y t o es) g l w
    (ap (λ (v : Used). v.glyphs) e ∙ k.glyphs) (ap (λ (v : Used). v.lines) e ∙ k.lines) (ap (λ (v : Used). v.rows) e ∙ k.rows) (ap (λ (v : Used). v.tables) e ∙ k.tables)

pub limited_within : (n : Needs) (g l r : ℕ) → limited n g l r ≡ Ok tt → Within n g l r
limited_within n g l r e =
    let p3 = cond (leb n.tables 255) (Ok tt) (Err (refused.Amount Tables)) in
    let p2 = cond (leb n.rows (min r 4096)) p3 (Err (refused.Amount Rows)) in
    let p1 = cond (leb n.lines (min l 4096)) p2 (Err (refused.Amount Lines)) in
    let c0 = cond_ok (leb n.glyphs (min g 50000)) p1 (refused.Amount Glyphs) e in
    let c1 = cond_ok (leb n.lines (min l 4096)) p2 (refused.Amount Lines) c0.1 in
    let c2 = cond_ok (leb n.rows (min r 4096)) p3 (refused.Amount Rows) c1.1 in
    let c3 = cond_ok (leb n.tables 255) (Ok tt) (refused.Amount Tables) c2.1 in
    record { glyphs = leb-true _ _ c0.0; lines = leb-true _ _ c1.0; rows = leb-true _ _ c2.0; tables = leb-true _ _ c3.0 }

pub answer_within : (r : Ruling) (y : MarkdownStyles) (t o : List ℕ) (es : List Event) (g l w : ℕ) → answered r y t o es g l w ≡ Ok tt → Within (needed r y t o es) g l w
answer_within r y t o es g l w e =
    limited_within (needed r y t o es) g l w (then_ok (checked r.admits t es) _ (then_ok (styles_checked 0 (in_order y)) _ e))

-- a source with something in it
pub refilled_some : (r : Ruling) (y : MarkdownStyles) (t o : List ℕ) (es : List Event) (gs : List Glyph) (ls : List Span) (rs : List Row) → eqb (length o) 0 ≡ false → filled r y t o es gs ls rs ≡ refilled r y t o es gs ls rs
refilled_some r y t [] es gs ls rs e = absurd (cc)
refilled_some r y t (b ∷ o) es gs ls rs e = refl

-- after an admitted load the records hold the blocks of the events
pub load_shows : (r : Ruling) (y : MarkdownStyles) (t o : List ℕ) (es : List Event) (gs : List Glyph) (ls : List Span) (rs : List Row) →
    answered r y t o es (length gs) (length ls) (length rs) ≡ Ok tt → blocks_of (refilled r y t o es gs ls rs) ≡ parsed r y t o es
load_shows r y t [] es gs ls rs e = refl
load_shows r y t (b ∷ o) es gs ls rs e = fold_shows r y t (b ∷ o) es gs ls rs (answer_within r y t (b ∷ o) es (length gs) (length ls) (length rs) e)

pub load_blocks : (r : Ruling) (y : MarkdownStyles) (t o : List ℕ) (es : List Event) (gs : List Glyph) (ls : List Span) (rs : List Row) (m : Memory) → m ≡ refilled r y t o es gs ls rs →
    answered r y t o es (length gs) (length ls) (length rs) ≡ Ok tt → blocks_of m ≡ parsed r y t o es
load_blocks r y t o es gs ls rs m e a = ap blocks_of e ∙ load_shows r y t o es gs ls rs a

min_same : (m n k : ℕ) → m ≡ min 65535 n → n ≤ k → k < 65535 → m ≡ n
min_same m n k e h l = omega arith

-- after an admitted load as many records are in use as its events need
pub load_uses : (r : Ruling) (y : MarkdownStyles) (t o : List ℕ) (es : List Event) (gs : List Glyph) (ls : List Span) (rs : List Row) →
    answered r y t o es (length gs) (length ls) (length rs) ≡ Ok tt → count_of (refilled r y t o es gs ls rs) ≡ in_use r y t o es
load_uses r y t [] es gs ls rs e = refl
load_uses r y t (b ∷ o) es gs ls rs e =
    let k = fold_counts r y t (b ∷ o) es gs ls rs in
    let w = answer_within r y t (b ∷ o) es (length gs) (length ls) (length rs) e in
    let n = needed r y t (b ∷ o) es in
    same_needs _ _ _ _ n.glyphs n.lines n.rows n.tables
    (min_same _ n.glyphs (min (length gs) 50000) k.glyphs w.glyphs (omega arith)) (min_same _ n.lines (min (length ls) 4096) k.lines w.lines (omega arith))
    (min_same _ n.rows (min (length rs) 4096) k.rows w.rows (omega arith)) (min_same _ n.tables 255 k.tables w.tables (omega arith))

-- lent memory keeps its length
pub load_room : (r : Ruling) (y : MarkdownStyles) (t o : List ℕ) (es : List Event) (gs : List Glyph) (ls : List Span) (rs : List Row) (m : Memory) → m ≡ refilled r y t o es gs ls rs →
    limits_in m ≡ limits_by (lent_of gs ls rs)
load_room r y t [] es gs ls rs m e = ap limits_in e
load_room r y t (b ∷ o) es gs ls rs m e =
    let k = fold_counts r y t (b ∷ o) es gs ls rs in
    let f = filled r y t (b ∷ o) es gs ls rs in
    let P : ℕ → ℕ → ℕ → Limits = λ x y z. record { glyphs = x; lines = y; rows = z } in
    ap limits_in e ∙ (ap (λ x. P x (length f.lines) (length f.rows)) k.glyphs_room ∙ (ap (λ x. P (length gs) x (length f.rows)) k.lines_room ∙ ap (λ x. P (length gs) (length ls) x) k.rows_room))

-- what an admitted load leaves is as low as every sheet, and so is what a refused one leaves
pub load_low : (r : Ruling) (y : MarkdownStyles) (t o : List ℕ) (es : List Event) (g l w : ℕ) (q : Result (Unit {0}) Refusal) (old new : List Piece) → q ≡ answered r y t o es g l w → new ≡ on_ok q (parsed r y t o es) old → Low old → Low new
load_low r y t o es g l w (Ok tt) old new e f h = subst Low (sym f) (loads_are_low r y t o es g l w (then_ok_first (checked r.admits t es) _ (then_ok (styles_checked 0 (in_order y)) _ (sym e))) (answer_within r y t o es g l w (sym e)))
load_low r y t o es g l w (Err x) old new e f h = subst Low (sym f) h
