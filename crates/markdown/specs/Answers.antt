-- What a load answers.
use Rattle.std.specs.Prelude.{ℕ, min, cond, List, Ok, Err, Result, nat_le}
use Rattle.glyphs.specs.Rulings.{Ruling}
use Rattle.events.specs.declared.event.Event.{Event}
use Rattle.events.specs.declared.styles.MarkdownStyles.{MarkdownStyles}
use Rattle.events.specs.declared.refusal.Refusal.{Refusal}
use Rattle.events.specs.declared.refusal.Refusal.TheVariants as refused
use Rattle.events.specs.declared.refusal.Amount.{Amount}
use Rattle.events.specs.declared.refusal.Amount.TheVariants.{Glyphs, Lines, Rows, Tables}
use Rattle.events.specs.Styles.{in_order, styles_checked}
use Rattle.checks.specs.Checks.{and_then, checked}
use Rattle.blocks.specs.Needs.{Needs}
use Rattle.parse.specs.Sketches.{needed}

-- An amount up to its limit.
abbrev pub within : ℕ → ℕ → Amount → Result (Unit {0}) Refusal
within count limit amount = cond (nat_le count limit) (Ok tt) (Err (refused.Amount amount))

-- The first amount that passes its limit: 50,000 glyphs, 4,096 lines and 4,096 rows, or the lent memory where that is smaller; 255 tables.
abbrev pub limited_by : ℕ → ℕ → ℕ → ℕ → ℕ → ℕ → ℕ → Result (Unit {0}) Refusal
limited_by glyphs lines rows tables g l r =
    cond (nat_le glyphs (min g 50000))
    (cond (nat_le lines (min l 4096))
    (cond (nat_le rows (min r 4096))
    (cond (nat_le tables 255) (Ok tt) (Err (refused.Amount Tables)))
    (Err (refused.Amount Rows)))
    (Err (refused.Amount Lines)))
    (Err (refused.Amount Glyphs))

abbrev pub limited : Needs → ℕ → ℕ → ℕ → Result (Unit {0}) Refusal
limited n g l r = limited_by n.glyphs n.lines n.rows n.tables g l r

-- The styles, then the events one by one and the marks that stay open, then the amounts that are needed.
abbrev pub answered : Ruling → MarkdownStyles → List ℕ → List ℕ → List Event → ℕ → ℕ → ℕ → Result (Unit {0}) Refusal
answered r y text source es g l w =
    and_then (styles_checked 0 (in_order y)) (and_then (checked r.admits text es) (limited (needed r y text source es) g l w))
