use Rattle.std.proofs.Common.{◌≡◌, true, cond, [], ◌∷◌, ◌++◌, IsUtf8, sym, refl, ap, ◌∙◌, subst, rules, None, Option, lit<}
use Rattle.std.specs.Str.Pattern.{FindsChar, IsSplitAtFirstMatch}
use Rattle.std.specs.Str.Iter.{split_text, split_has_more, split_pattern}
use Rattle.std.specs.Str.{chars}
use Rattle.tail.specs.Lines.{lines_of}
use Rattle.tail.specs.Fences.{belongs}
use Rattle.tail.specs.declared.fences.Fence.{Fence}
use Rattle.tail.proofs.Splits.{finished, parts_left, split_step, finish_none, finish_step}
use Rattle.tail.proofs.scan.run_at_end.Goals as goal

pub loop-line-init : goal.loop-line-init
loop-line-init c =
    let i = c.into_iter-line-iterator.result in
    let t = c.args.text.now in
    let u : IsUtf8 t = search rules in
    let k : split_pattern i ≡ 10 = search rules in
    let e : split_text i ≡ t = search rules in
    let v : split_has_more i ≡ true = search rules in
    (tt, tt, k, (λ _. subst IsUtf8 (sym e) u), tt, ([], refl, ap (λ b. finished None [] (parts_left 10 b (split_text i))) v ∙ (ap (λ w. finished None [] (lines_of (chars w))) e ∙ finish_none None (lines_of (chars t)))))

pub loop-line-preserved : goal.loop-line-preserved
loop-line-preserved c =
    let s = c.loop-line.line-iterator in
    let t = c.next.new.self in
    let inv = c.loop-line.invariant in
    let h = c.in-Some.ensures.steps in
    let x = c.in-Some.line.now in
    let l = chars x in
    let f = c.loop-line.scanner.fence in
    let run = inv.5.0 in
    let new = cond (belongs f l) (run ++ (l ∷ [])) [] in
    let live = sym h.0 in
    let u = inv.3 live in
    let p = subst (λ d. IsSplitAtFirstMatch (FindsChar d) (split_text s) x (split_has_more t) (split_text t)) inv.2 h.1.1 in
    let k = split_step 10 (lit< tt) (split_text s) x (split_text t) u (split_has_more t) p in
    let left = parts_left 10 (split_has_more t) (split_text t) in (
      tt,
      tt,
      h.1.0 ∙ inv.2,
      k.1,
      c.read-scanner.ensures.sound,
      (
        new,
        c.read-scanner.ensures.run run inv.5.1,
        ap (λ (g : Option Fence). finished g new left) c.read-scanner.ensures.fence ∙ (sym (finish_step f run l left)
            ∙ (ap (finished f run) (sym (ap (λ b. parts_left 10 b (split_text s)) live ∙ k.0)) ∙ inv.5.2)),
      ),
    )
