use Rattle.std.proofs.Common.{length, sym, refl, ap, ◌∙◌, arith}
use Rattle.std.specs.Str.Iter.{chars_rest}
use Rattle.std.proofs.lemmas.Bool.{ne_eqb}
use Rattle.tail.specs.Scanning.{mark_class}
use Rattle.tail.specs.declared.fences.Mark.TheVariants.{Backtick, Tilde}
use Rattle.tail.proofs.Spelling.{trim_start_chars, decodes_none, first_char}
use Rattle.tail.proofs.fences.classify.Goals as goal

pub returns-in_default : goal.returns-in_default
returns-in_default c =
    let t = c.trim_start-text in
    let none = decodes_none t.result.now (sym (ap length c.chars.ensures.rest) ∙ c.in_default.ensures.steps.0.0) in
    rw (sym (trim_start_chars c.args.line.now t.result.now t.utf8 t.ensures.trim) ∙ none) refl

pub returns-in-124 : goal.returns-in-124
returns-in-124 c =
    let t = c.trim_start-text in
    let e = first_char c.args.line.now t.result.now (chars_rest c.next.new.self) c.in-Some.first t.utf8 t.ensures.trim (sym c.chars.ensures.rest ∙ c.in-Some.ensures.steps.0) in
    rw (e, c.in-124.is) refl

pub returns-in-96 : goal.returns-in-96
returns-in-96 c =
    let t = c.trim_start-text in
    let e = first_char c.args.line.now t.result.now (chars_rest c.next.new.self) c.in-Some.first t.utf8 t.ensures.trim (sym c.chars.ensures.rest ∙ c.in-Some.ensures.steps.0) in
    c.classify_marks.ensures ∙ ap (mark_class Backtick) (trim_start_chars c.args.line.now t.result.now t.utf8 t.ensures.trim) ∙ sym (rw (e, c.in-96.is) refl)

pub returns-in-126 : goal.returns-in-126
returns-in-126 c =
    let t = c.trim_start-text in
    let e = first_char c.args.line.now t.result.now (chars_rest c.next.new.self) c.in-Some.first t.utf8 t.ensures.trim (sym c.chars.ensures.rest ∙ c.in-Some.ensures.steps.0) in
    c.classify_marks-in-126.ensures ∙ ap (mark_class Tilde) (trim_start_chars c.args.line.now t.result.now t.utf8 t.ensures.trim) ∙ sym (rw (e, c.in-126.is) refl)

pub returns-in_default-first : goal.returns-in_default-first
returns-in_default-first c =
    let t = c.trim_start-text in
    let x = c.in-Some.first in
    let e = first_char c.args.line.now t.result.now (chars_rest c.next.new.self) x t.utf8 t.ensures.trim (sym c.chars.ensures.rest ∙ c.in-Some.ensures.steps.0) in
    rw (e, ne_eqb x 124 (λ q. omega arith), ne_eqb x 96 (λ q. omega arith), ne_eqb x 126 (λ q. omega arith)) refl
