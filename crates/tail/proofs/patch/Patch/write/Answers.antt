use Rattle.std.proofs.Common.{◌≡◌, ℕ, ◌+◌, ◌*◌, ◌<◌, cond, [], ◌∷◌, ◌++◌, length, take, drop, set, sym, refl, ap, ◌∙◌, append_assoc, arith}
use Rattle.std.proofs.lemmas.List.{length-append, take_at}
use Rattle.tail.specs.Entries.{delimiter_row}
use Rattle.tail.specs.Patches.{patched, size}
use Rattle.tail.proofs.Pastes.{length-patched, row_behind, fed, all_two}
use Rattle.tail.proofs.patch.Patch.write.Goals as goal
use Rattle.tail.proofs.patch.Patch.write.Goals.{then-self, else-self}

pub returns-clause-after : goal.returns-clause-after
returns-clause-after c =
    let s = c.args.self.kept.now in
    let row = delimiter_row c.args.self.cols in
    let m = 1 + 4 * c.args.self.cols in
    let out = c.args.out.now in
    let x = c.if-self.out in
    let z = c.delimiter_row.new.out in
    let at = c.if-self.at in
    let copied = c.copy_from_slice.ensures.after ∙ c.as_bytes.ensures.value in
    elim c.if-self.branch [
      | then-self q ↦ let room : length c.args.self.kept.now < length c.args.out.now = omega (arith, c.requires) in
          row_behind (s ++ (10 ∷ [])) (drop (length s + 1) out) x z row at m (q.out-is ∙ (ap (λ l. set (l ++ drop (length s) out) (length s) 10) copied ∙ fed s out room)) (q.at-is ∙ sym (length-append s (10 ∷ []))) c.delimiter_row.ensures
          ∙ (all_two (s ++ (10 ∷ [])) row out (length s + 1) m (length s + 1 + m) refl ∙ ap (λ l. l ++ drop (length s + 1 + m) out) (append_assoc s (10 ∷ []) row)
          ∙ sym (ap (λ b. (s ++ (cond b (10 ∷ []) [] ++ row)) ++ drop (length s + cond b 1 0 + m) out) q.if-self.true))
      | else-self q ↦
          row_behind s (drop (length s) out) x z row at m (q.out-is ∙ ap (λ l. l ++ drop (length s) out) copied) q.at-is c.delimiter_row.ensures
          ∙ (all_two s row out (length s) m (length s + 0 + m) (let z : length c.args.self.kept.now + 0 + (1 + 4 * c.args.self.cols) ≡ length c.args.self.kept.now + (1 + 4 * c.args.self.cols) = omega arith in z)
          ∙ sym (ap (λ b. (s ++ (cond b (10 ∷ []) [] ++ row)) ++ drop (length s + cond b 1 0 + m) out) q.if-self.false))
    ]

pub returns-clause-text : goal.returns-clause-text
returns-clause-text c =
    let p = c.args.self in
    let n = c.if-self.at + 1 + 4 * c.args.self.cols in
    let whole : c.if-self.at + 1 + 4 * c.args.self.cols ≡ size c.args.self = elim c.if-self.branch [
      | then-self q ↦ let z : cond {A = ℕ} c.args.self.line_feed 1 0 ≡ 1 = ap (λ b. cond b 1 0) q.if-self.true in omega (arith, q.at-is)
      | else-self q ↦ let z : cond {A = ℕ} c.args.self.line_feed 1 0 ≡ 0 = ap (λ b. cond b 1 0) q.if-self.false in omega (arith, q.at-is)
    ] in
    ap (take n) (returns-clause-after c) ∙ take_at (patched p) (drop (size p) c.args.out.now) n (length-patched p ∙ sym whole)
