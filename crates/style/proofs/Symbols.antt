use Rattle.std.proofs.Common.{◌≡◌, ℕ, zero, suc, ◌+◌, ◌*◌, ◌/◌, ◌%◌, ◌^◌, ◌<◌, ◌≤◌, List, [], ◌∷◌, length, get_or, drop, refl, ap, ◌∙◌, arith, pow_mono}
use Rattle.std.proofs.lemmas.List.{drop_all}
use Rattle.std.proofs.lemmas.Nat.{pow-add, div_below}
use Rattle.std.specs.Int.{from_le_bytes, w64}
use Rattle.style.specs.Symbols.{packed, unpacked}

byte_more : (k : ℕ) → 2 ^ (8 * suc k) ≡ 2 ^ (8 * k) * 256
byte_more k = let x : 8 * suc k ≡ 8 * k + 8 = omega arith in ap (λ y. 2 ^ y) x ∙ pow-add 2 (8 * k) 8

pub small : (k n : ℕ) → k ≤ 8 → n < 2 ^ (8 * k) → n < 2 ^ 64
small k n h p = let q : 8 * k ≤ 64 = omega arith in omega (arith, pow_mono q)

-- the bytes from i on, one by one
packed-from : (s : List ℕ) (i : ℕ) → packed (drop i s) ≡ get_or s i 0 + 256 * packed (drop (suc i) s)
packed-from [] zero = refl
packed-from [] (suc i) = refl
packed-from (b ∷ s) zero = refl
packed-from (b ∷ s) (suc i) = packed-from s i

-- up to 8 bytes are packed as a word that is padded with 0
pub packed-word : (bs word : List ℕ) → length bs ≤ 8 → ((i : ℕ) → get_or word i 0 ≡ get_or bs i 0) → from_le_bytes w64 word ≡ packed bs
packed-word bs word l same =
    let end : packed (drop 8 bs) ≡ 0 = ap packed (drop_all 8 bs l) in
    omega (
      arith,
      end,
      packed-from bs 0,
      packed-from bs 1,
      packed-from bs 2,
      packed-from bs 3,
      packed-from bs 4,
      packed-from bs 5,
      packed-from bs 6,
      packed-from bs 7,
      same 0,
      same 1,
      same 2,
      same 3,
      same 4,
      same 5,
      same 6,
      same 7,
    )

-- what was packed comes out again
pub unpacked-packed : (bs : List ℕ) → ((i : ℕ) → get_or bs i 0 < 256) → unpacked (length bs) (packed bs) ≡ bs
unpacked-packed [] h = refl
unpacked-packed (b ∷ bs) h =
    let low : (b + 256 * packed bs) % 256 ≡ b = omega (arith, h 0) in
    let high : (b + 256 * packed bs) / 256 ≡ packed bs = omega (arith, h 0) in
    ap (λ x. x ∷ unpacked (length bs) ((b + 256 * packed bs) / 256)) low
    ∙ ap (λ v. b ∷ unpacked (length bs) v) high
    ∙ ap (λ l. b ∷ l) (unpacked-packed bs (λ i. h (suc i)))

above : (v i : ℕ) → v < 2 ^ (8 * suc i) → v / 256 < 2 ^ (8 * i)
above v i h = let e = byte_more i in div_below v 256 (2 ^ (8 * i)) (omega arith) (omega arith)

-- n bytes make a number below 2 ^ (8 * n)
pub packed_lt : (bs : List ℕ) → ((i : ℕ) → get_or bs i 0 < 256) → packed bs < 2 ^ (8 * length bs)
packed_lt [] h = omega arith
packed_lt (b ∷ bs) h = omega (arith, byte_more (length bs), packed_lt bs (λ i. h (suc i)), h 0)

-- a number below 2 ^ (8 * n) is made of its lowest n bytes
pub packed-unpacked : (n v : ℕ) → v < 2 ^ (8 * n) → packed (unpacked n v) ≡ v
packed-unpacked zero v h = omega arith
packed-unpacked (suc n) v h =
    ap (λ k. v % 256 + 256 * k) (packed-unpacked n (v / 256) (above v n h)) ∙ (omega arith)
