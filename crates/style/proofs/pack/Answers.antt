use Rattle.std.proofs.Common.{ℕ, ◌≡◌, length, replicate, get_or, ◌∙◌, arith}
use Rattle.std.proofs.lemmas.List.{places}
use borrow.Rule.Slice.PartMut.{put_mid}
use Rattle.style.proofs.Symbols.{packed-word}
use Rattle.style.proofs.pack.Goals as goal

pub returns : goal.returns
returns c =
    let s = c.args.text.now in
    let word = put_mid 0 (length s) (replicate 8 0) c.copy_from_slice.new.self in
    let same : (i : ℕ) → get_or word i 0 ≡ get_or s i 0 = λ i. grind (arith, places) in
    c.from_le_bytes.ensures ∙ packed-word s word c.requires same
