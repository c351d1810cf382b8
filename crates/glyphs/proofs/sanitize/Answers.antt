use Rattle.std.proofs.Common.{◌+◌, sym, ap, ◌∙◌, arith, rules}
use Rattle.std.proofs.lemmas.Grind.{common_steps}
use Rattle.std.specs.List.{flat_map}
use lib.Seq.{sets}
use Rattle.glyphs.specs.Pieces.{piece}
use Rattle.glyphs.specs.Glyphs.{shown, sanitized}
use Rattle.glyphs.proofs.Walking.{written_step, overwritten_sets}
use Rattle.glyphs.proofs.Cleaning.{sanitized_sized, sanitized-clean}
use Rattle.glyphs.proofs.sanitize.Goals as goal

pub loop-cut-preserved : goal.loop-cut-preserved
loop-cut-preserved g c =
    let t = c.args.style in
    let e = c.in-Some.ensures.steps in
    let p = c.args.from + c.loop-cut.written in
    let k = c.fill-written.result in (
      c.fill-written.auto.glyphs ∙ c.loop-cut.auto.glyphs,
      omega arith,
      written_step t (piece c.in-Some.cut) _ _ e c.loop-cut.glyphs c.fill-written.new.glyphs p k (c.args.from + (c.loop-cut.written + k)) c.glyph_count-count.result c.glyph_of.result c.glyph_count-count.ensures.value c.glyph_of.ensures.value c.fill-written.ensures.after c.fill-written.ensures.value (omega arith)
          ∙ c.loop-cut.invariant.2,
      grind (arith, common_steps),
    )

pub returns-clause-after : goal.returns-clause-after
returns-clause-after g c =
    let m = g.R.Ruler.meaning c.args.ruler.now in
    ap (λ l. sets c.loop-cut.glyphs (c.args.from + c.loop-cut.written) (flat_map (shown c.args.style) l)) (sym c.in-None.ensures.steps.0)
    ∙ c.loop-cut.invariant.2
    ∙ sym (overwritten_sets c.args.glyphs.now c.args.from (sanitized m c.args.style c.args.text.now))

pub returns-clause-bound : goal.returns-clause-bound
returns-clause-bound g c = sanitized_sized (g.R.Ruler.meaning c.args.ruler.now) c.args.style c.args.text.now

pub returns-clause-clean : goal.returns-clause-clean
returns-clause-clean g c = sanitized-clean (g.R.Ruler.meaning c.args.ruler.now) c.args.style c.args.text.now (λ i. search rules)
