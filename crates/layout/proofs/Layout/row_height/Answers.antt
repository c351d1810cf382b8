use Rattle.std.proofs.Common.{map, inl, inr, ⊎_elim, arith}
use Rattle.records.specs.Memory.{spanned}
use Rattle.layout_laws.specs.Layouts.{row_height}
use Rattle.layout.proofs.Entries.{height_some, height_step, height_end}
use Rattle.layout.proofs.Layout.row_height.Goals as goal

pub loop-entry-init : goal.loop-entry-init
loop-entry-init g c =
    let some = height_some (g.R.BreakingRule.meaning c.args.self.now.rule.now) c.args.widths.now (map (spanned c.args.self.now.records.now.glyphs) c.args.entries.now) in
    record {
      value = rw (c.into_iter-entry-iterator.ensures.into_iter_gives, c.zip-entry-items.ensures.second.0, c.zip-entry-items.ensures.first, c.iter.ensures.rest) (omega arith);
      bound = omega arith;
    }

pub loop-entry-preserved : goal.loop-entry-preserved
loop-entry-preserved g c =
    let steps = c.in-Some.ensures.steps in
    let b = g.R.BreakingRule.meaning c.args.self.now.rule.now in
    let gs = c.args.self.now.records.now.glyphs in
    record {
      value = height_step b gs
          c.loop-entry.entry-iterator.b.rest.now c.next.new.self.b.rest.now c.loop-entry.entry-iterator.a.rest.now c.next.new.self.a.rest.now
          c.in-Some.width.now c.in-Some.entry.now c.loop-entry.height c.max-height.result (row_height b c.args.widths.now (map (spanned gs) c.args.entries.now))
          steps.1 steps.0 (omega (arith, c.max-height.ensures, c.line_rows.ensures.value)) c.loop-entry.invariant.value;
      bound = omega (arith, c.max-height.ensures, c.loop-entry.invariant.bound);
    }

pub returns : goal.returns
returns g c =
    let b = g.R.BreakingRule.meaning c.args.self.now.rule.now in
    let gs = c.args.self.now.records.now.glyphs in
    record {
      value = height_end b gs c.loop-entry.entry-iterator.b.rest.now c.loop-entry.entry-iterator.a.rest.now c.loop-entry.height
          (row_height b c.args.widths.now (map (spanned gs) c.args.entries.now)) (⊎_elim (λ p. inl p.1.0) (λ p. inr p.1.0) c.in-None.ensures.steps) c.loop-entry.invariant.bound c.loop-entry.invariant.value;
    }
