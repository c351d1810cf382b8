use Rattle.std.proofs.Common.{◌≡◌, ℕ, ◌<◌, ◌≤◌, length, refl, arith}
use Rattle.std.proofs.lemmas.Bool.{le-leb, lt-leb}
use Rattle.std.proofs.lemmas.Result.{err_from_is_err_and}
use Rattle.std.proofs.lemmas.Str.{is_utf8-from_IsUtf8}
use Rattle.tail.specs.Patches.{patched}
use Rattle.tail.proofs.Pastes.{length-patched}
use Rattle.tail.proofs.Verdicts.{utf8_no, valid_from}
use Rattle.tail.proofs.judge.judge.Goals as goal

pub returns-in_err-text : goal.returns-in_err-text
returns-in_err-text c =
    let bs = c.args.source.now in
    let p = err_from_is_err_and c.from_residual.result c.from_residual.ensures.1 in
    let h = c.in_err-text.ensures in
    rw (p.1, p.2, h.1.2, utf8_no bs h.0, ← valid_from bs h.1.0 h.1.1 (length bs) (omega (arith, h.1.1.short))) (record { value = refl; after = λ out l. refl; text = tt; bound = tt })

pub returns-in_default-clause-value : goal.returns-in_default-clause-value
returns-in_default-clause-value c = rw (is_utf8-from_IsUtf8 c.args.source.now c.in_ok-text.ensures.1, ← c.in_ok-text.ensures.0, ← c.in_default.ensures) refl

pub returns-then-needed-room : goal.returns-then-needed-room
returns-then-needed-room c =
    let n = length-patched c.in-Some.patch in
    let short : (k : ℕ) → k ≡ c.args.room → k < length (patched c.in-Some.patch) = λ k e. omega arith in
    let off = λ (k : ℕ) (e : k ≡ c.args.room). lt-leb (length (patched c.in-Some.patch)) k (short k e) in
    rw (is_utf8-from_IsUtf8 c.args.source.now c.in_ok-text.ensures.1, ← c.in_ok-text.ensures.0, ← c.in-Some.ensures)
    (record { value = rw (off c.args.room refl, n, c.size-needed.ensures) refl; after = λ out l. rw (off (length out) l) refl; text = tt; bound = tt })

pub returns : goal.returns
returns c =
    let n = length-patched c.in-Some.patch in
    let room : (k : ℕ) → k ≡ c.args.room → length (patched c.in-Some.patch) ≤ k = λ k e. omega arith in
    let on = λ (k : ℕ) (e : k ≡ c.args.room). le-leb (length (patched c.in-Some.patch)) k (room k e) in
    rw (is_utf8-from_IsUtf8 c.args.source.now c.in_ok-text.ensures.1, ← c.in_ok-text.ensures.0, ← c.in-Some.ensures)
    (record { value = rw (on c.args.room refl, n) refl; after = λ out l. rw (on (length out) l, n) refl; text = refl; bound = omega arith })
