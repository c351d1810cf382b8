-- What a table is told at its start.
use Rattle.std.specs.Prelude.{ℕ, max, cond, List, drop, ◌==◌}
use Rattle.blank.specs.Blanks.{is_blank}
use Rattle.events.specs.declared.event.Event.{Event}
use Rattle.records.specs.declared.kinds.Info.{Info}

-- A table without columns has one, aligned left. It is open when the source from its end is blank; an end past the source counts as its length.
abbrev pub info_of : Event → List ℕ → Info
info_of e source = record {
  columns = max e.columns 1;
  alignments = cond (e.columns == 0) 0 e.alignments;
  «open» = is_blank (drop e.end source);
}
