use Rattle.std.proofs.Common.{ℕ, List, [], ◌∷◌, ◌∙◌, ap, subst, length, arith}
use Rattle.std.specs.List.{slice_range}
use Rattle.style.specs.Symbols.{bytes_of}
use Rattle.drawings.specs.Strokes.{stroke}
use Rattle.drawings.specs.Frames.{Drawn}
use Rattle.drawings.proofs.Trails.{drawn-untaken}
use Rattle.paint.specs.Pens.{frame_of}
use Rattle.paint.proofs.RowSteps.{front_bytes, long_untaken}
use Rattle.paint.proofs.pen.Pen.draw_symbol.Goals as goal

pub returns-in-Some : goal.returns-in-Some
returns-in-Some g c =
    let s = g.S.Surface in
    let a = c.args in
    let h = c.in-Some.ensures.lookup.0 in
    let short = h.1 in
    let n = c.from.result in
    let same = h.2 ∙ ap (λ (l : List ℕ). slice_range l 0 n) c.to_bytes-bytes.ensures.value ∙ front_bytes a.symbol n c.from.ensures (omega (arith, ap length c.to_bytes-bytes.ensures.value)) in
    let P : List ℕ → Type 0 = λ b. Drawn s.shows s.held s.rest s.lawful (frame_of a.self.now) (stroke a.x a.y b a.style ∷ []) a.page.now c.put.new.page in
    record { after = subst P same c.put.ensures.after }

pub returns-in_default : goal.returns-in_default
returns-in_default g c =
    let s = g.S.Surface in
    let a = c.args in
    record { after = drawn-untaken s.shows s.held s.rest s.lawful (frame_of a.self.now) (stroke a.x a.y (bytes_of a.symbol) a.style) a.page.now (long_untaken a.x a.y a.symbol a.style (omega (arith, c.in_default.ensures.lookup.0, ap length c.to_bytes-bytes.ensures.value))) }
