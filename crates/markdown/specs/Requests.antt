-- What requests mean.
use Rattle.std.specs.Prelude.{◌≡◌, ℕ, false, List, is_ok}
use Rattle.glyphs.specs.Rulings.{Ruling}
use Rattle.wrap_laws.specs.Breaks.{Breaking}
use Rattle.page.specs.declared.cells.Cell.{Cell}
use Rattle.page.specs.Surfaces.{Page}
use Rattle.markdown.specs.declared.requests.Request.{Request}
use Rattle.markdown.specs.declared.requests.Request.TheVariants.{Load, Streaming, Table, Height, Paint}
use Rattle.markdown.specs.Outcomes.{load_outcome, table_outcome, render_outcome}
use Rattle.markdown.specs.Calls.{Call, load, load_of, switch, question, height, paint}
use Rattle.markdown.specs.Replies.{Answer, load_ended, switch_ended, question_ended, height_is, paint_ended}

-- The call that a request makes.
abbrev pub call_in : {R B S : Type 0} → (R → Ruling) → (B → Breaking) → (S → Page) → Request R B S → Call
call_in ruling breaking shows (Load l) = load (load_of (ruling l.ruler) l.styles l.text.now l.source.now l.events.now)
call_in ruling breaking shows (Streaming on) = switch on
call_in ruling breaking shows (Table q) = question (breaking q.rule) q.number q.width q.layout
call_in ruling breaking shows (Height m) = height (breaking m.rule) m.width
call_in ruling breaking shows (Paint p) = paint (breaking p.rule) p.area (shows p.page)

-- The answer that a request keeps.
abbrev pub answer_in : {R B S : Type 0} → (S → Page) → Request R B S → Answer
answer_in shows (Load l) = load_ended (load_outcome l.answer)
answer_in shows (Streaming on) = switch_ended
answer_in shows (Table q) = question_ended (table_outcome q.answer) q.layout
answer_in shows (Height m) = height_is m.answer
answer_in shows (Paint p) = paint_ended (render_outcome p.answer) (shows p.page)

-- Below a surface nothing moved: it lies where it lay, its hidden cells are as they were, and its memory stays lawful.
pub record StaysBelow {S : Type 0} (held : S → List ℕ) (rest : S → List ℕ → ℕ → ℕ → Cell) (lawful : S → Type 0)
    (old new : S) : Type 0 where
  pub kept : held new ≡ held old
  pub hidden : (p : List ℕ) (i j : ℕ) → rest new p i j ≡ rest old p i j
  pub still : lawful old → lawful new

-- A request is answered: but for its answer it is as it was, and a page on which a paint was refused is what it was.
abbrev pub IsAnswered : {R B S : Type 0} → (S → List ℕ) → (S → List ℕ → ℕ → ℕ → Cell) → (S → Type 0) →
    Request R B S → Request R B S → Type 0
IsAnswered held rest lawful (Load l) (Load k) = k ≡ record l { answer = k.answer }
IsAnswered held rest lawful (Streaming on) (Streaming now) = now ≡ on
IsAnswered held rest lawful (Table q) (Table p) = p ≡ record q { layout = p.layout; answer = p.answer }
IsAnswered held rest lawful (Height m) (Height n) = n ≡ record m { answer = n.answer }
IsAnswered held rest lawful (Paint p) (Paint q) =
    (q ≡ record p { page = q.page; answer = q.answer })
    × StaysBelow held rest lawful p.page q.page
    × (is_ok q.answer ≡ false → q.page ≡ p.page)
IsAnswered held rest lawful old new = ⊥
