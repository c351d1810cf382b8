-- Pens as frames.
use Rattle.std.specs.Prelude.{ℕ, ◌+◌, min, max}
use Rattle.drawings.specs.Frames.{Frame}
use Rattle.paint.specs.declared.pen.Bounds.{Bounds}
use Rattle.paint.specs.declared.pen.Pen.{Pen}

-- The frame through which a pen draws.
abbrev pub frame_of : Pen → Frame
frame_of p = record { x = p.x; y = p.y; left = p.bounds.left; top = p.bounds.top; right = p.bounds.right; bottom = p.bounds.bottom }

-- The pen with other bounds.
abbrev pub with_bounds : Pen → Bounds → Pen
with_bounds p b = record { x = p.x; y = p.y; bounds = b }

-- The part of the bounds that lies in w cells and h rows from a place on.
abbrev pub cut_bounds : Bounds → ℕ → ℕ → ℕ → ℕ → Bounds
cut_bounds b x y w h = record { left = max b.left x; top = max b.top y; right = min b.right (x + w); bottom = min b.bottom (y + h) }
