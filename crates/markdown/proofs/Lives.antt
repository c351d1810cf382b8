-- Each call makes the past of a sheet longer by itself and its answer.
use Rattle.std.proofs.Common.{◌≡◌, ℕ, Bool, true, false, cond, List, [], Some, None, Option, Ok, Err, Result, is_ok, refl, sym, ap, ◌∙◌}
use Rattle.std.specs.Option.{is_some}
use Rattle.std.proofs.lemmas.Bool.{cond-true, cond-false}
use Rattle.style.specs.declared.Style.{Style}
use Rattle.records.specs.Memory.{Memory}
use Rattle.wrap_laws.specs.Breaks.{Breaking}
use Rattle.page.specs.declared.cells.Cell.{Cell}
use Rattle.page.specs.Surfaces.{Page}
use Rattle.events.specs.declared.refusal.Refusal.{Refusal}
use Rattle.blocks.specs.Pieces.{Piece}
use Rattle.layout_laws.specs.Layouts.{Table, table_at}
use Rattle.drawings.specs.declared.Area.{Area}
use Rattle.drawings.specs.Pages.{on_page, painted, Paint}
use Rattle.paint.specs.declared.refusals.Refusal.{Refusal as RenderRefusal}
use Rattle.paint.specs.declared.refusals.Refusal.TheVariants.{PastEdge}
use Rattle.paint.specs.Refusals.{answered as render_answered}
use Rattle.markdown.specs.declared.tables.TableLayout.{TableLayout}
use Rattle.markdown.specs.declared.tables.TableRefusal.{TableRefusal}
use Rattle.markdown.specs.Sheets.{Sheet, sheet, on_ok, switched, limits_in}
use Rattle.markdown.specs.Tables.{height_of, told, table_answered, table_placed}
use Rattle.markdown.specs.Pictures.{picture}
use Rattle.markdown.specs.Outcomes.{admitted, refused, load_outcome, table_outcome, render_outcome}
use Rattle.markdown.specs.Calls.{Load, load, switch, question, height, paint, load_answer, blocks_in, loaded}
use Rattle.markdown.specs.Fronts.{StandsInFront}
use Rattle.markdown.specs.Replies.{load_ended, switch_ended, question_ended, height_is, paint_ended, table_verdict, render_verdict, PageAfter}
use Rattle.markdown.specs.Pasts.{Past, longer, limits_after, Law}
use Rattle.markdown.proofs.Held.{after_load, after_switch, after_other, keeps_other, keeps_load}
use Rattle.markdown.proofs.Runs.{law_more}

-- a table question and a paint by number
pub table_ends : (n : ℕ) (s : Sheet) (r : Result (Unit {0}) TableRefusal) → r ≡ table_answered n s → table_outcome r ≡ table_verdict n s
table_ends n s r e = ap table_outcome e ∙ by (table_at s.blocks n)
  where
    by : (o : Option Table) → table_outcome (told o) ≡ cond (is_some o) admitted (refused 10 [])
    by None = refl
    by (Some t) = refl

pub render_ends : (a : Area) (w h : ℕ) (r : Result (Unit {0}) RenderRefusal) → r ≡ render_answered a w h → render_outcome r ≡ render_verdict a w h
render_ends a w h r e = ap render_outcome e ∙ by (on_page a w h)
  where
    by : (c : Bool) → render_outcome (cond c (Ok tt) (Err PastEdge)) ≡ cond c admitted (refused 5 [])
    by true = refl
    by false = refl

-- the page after a paint, admitted or refused
on_true : (c : Bool) → ◌≡◌ {A = Result (Unit {0}) RenderRefusal} (Ok tt) (cond c (Ok tt) (Err PastEdge)) → c ≡ true
on_true true e = refl
on_true false e = absurd (cc)

on_false : (c : Bool) (x : RenderRefusal) → ◌≡◌ {A = Result (Unit {0}) RenderRefusal} (Err x) (cond c (Ok tt) (Err PastEdge)) → c ≡ false
on_false true x e = absurd (cc)
on_false false x e = refl

pub page_after : {A : Type 0} (shows : A → Page) (held : A → List ℕ) (rest : A → List ℕ → ℕ → ℕ → Cell) (lawful : A → Type 0) (b : Breaking) (a : Area) (s : Sheet) (r : Result (Unit {0}) RenderRefusal) (old new : A) →
    r ≡ render_answered a (shows old).wide (shows old).high → (is_ok r ≡ true → Paint shows held rest lawful a (picture b a.width s) old new) → (is_ok r ≡ false → new ≡ old) → PageAfter b a s (shows old) (shows new)
page_after shows held rest lawful b a s (Ok tt) old new e f g =
    let p = f refl in
    let x = shows old in
    record {
      wide = p.as_wide;
      high = p.as_high;
      cells = λ i j. p.cells i j ∙ sym (cond-true (on_page a x.wide x.high) (painted a (picture b a.width s) x.cell i j) (x.cell i j) (on_true (on_page a x.wide x.high) e));
    }
page_after {A} shows held rest lawful b a s (Err z) old new e f g =
    let same = g refl in
    let x = shows old in
    record {
      wide = ap (λ (y : A). (shows y).wide) same;
      high = ap (λ (y : A). (shows y).high) same;
      cells = λ i j. ap (λ (y : A). (shows y).cell i j) same ∙ sym (cond-false (on_page a x.wide x.high) (painted a (picture b a.width s) x.cell i j) (x.cell i j) (on_false (on_page a x.wide x.high) z e));
    }

module _ (p : Past) (s : Sheet) (m : Memory) (law : Law p s m) where
  pub height_lives : (b : Breaking) (w h : ℕ) → h ≡ height_of b w s → Law (longer p (height b w) (height_is h)) s m
  height_lives b w h e =
      let c = height b w in
      law_more p s s m m c (height_is h) law e (after_other p.beginning p.calls s s law.holds c refl refl refl) (keeps_other p.beginning p.calls m c refl law.memory) refl

  pub question_lives : (b : Breaking) (n w : ℕ) (old new : TableLayout) (r : Result (Unit {0}) TableRefusal) → r ≡ table_answered n s → new ≡ table_placed b n w s old →
      Law (longer p (question b n w old) (question_ended (table_outcome r) new)) s m
  question_lives b n w old new r e f =
      let c = question b n w old in
      law_more p s s m m c (question_ended (table_outcome r) new) law (table_ends n s r e, f) (after_other p.beginning p.calls s s law.holds c refl refl refl) (keeps_other p.beginning p.calls m c refl law.memory) refl

  pub paint_lives : (b : Breaking) (a : Area) (x y : Page) (r : Result (Unit {0}) RenderRefusal) → r ≡ render_answered a x.wide x.high → PageAfter b a s x y →
      Law (longer p (paint b a x) (paint_ended (render_outcome r) y)) s m
  paint_lives b a x y r e f =
      let c = paint b a x in
      law_more p s s m m c (paint_ended (render_outcome r) y) law (render_ends a x.wide x.high r e, f) (after_other p.beginning p.calls s s law.holds c refl refl refl) (keeps_other p.beginning p.calls m c refl law.memory) refl

  pub switch_lives : (on : Bool) → Law (longer p (switch on) switch_ended) (switched on s) m
  switch_lives on =
      law_more p s (switched on s) m m (switch on) switch_ended law tt (after_switch p.beginning p.calls s (switched on s) law.holds on refl) (keeps_other p.beginning p.calls m (switch on) refl law.memory) refl

  pub load_lives : (l : Load) (r : Result (Unit {0}) Refusal) (ps : List Piece) (b : Style) (n : Memory) → r ≡ load_answer (limits_in m) l → ps ≡ on_ok r (blocks_in l) s.blocks → b ≡ on_ok r l.styles.table_border s.border →
      (is_ok r ≡ true → StandsInFront l n) → (is_ok r ≡ false → n ≡ m) → limits_in n ≡ limits_in m → Law (longer p (load l) (load_ended (load_outcome r))) (sheet ps b s.streaming) n
  load_lives l r ps b n e f g front same room =
      let t = sheet ps b s.streaming in
      let here : r ≡ load_answer (limits_after p) l = e ∙ ap (λ k. load_answer k l) law.room in
      let is : t ≡ loaded r l s = ap (λ (qs : List Piece). sheet qs b s.streaming) f ∙ ap (λ (c : Style). sheet (on_ok r (blocks_in l) s.blocks) c s.streaming) g in
      law_more p s t m n (load l) (load_ended (load_outcome r)) law (ap load_outcome here) (after_load p.beginning p.calls s t law.holds l r here is) (keeps_load p.beginning p.calls m n l r here front same law.memory) room
