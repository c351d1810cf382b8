-- Decoding one code point from the bytes at the front.
use Rattle.std.proofs.Common.{◌≡◌, ℕ, zero, suc, ◌+◌, ◌-◌, ◌*◌, ◌<◌, ◌≤◌, List, [], ◌∷◌, length, get_or, drop, refl, ap, ◌∙◌, arith}
use Rattle.std.specs.Str.{chars}
use Rattle.std.specs.Str.{chars_after, continuation_len, lead_bits}
use Rattle.std.proofs.lemmas.Bool.Decides.{nat_tests}

-- a code point whose bytes have all come
after_none : (c : ℕ) (s : List ℕ) → chars_after 0 c s ≡ c ∷ chars s
unfolding chars
after_none c [] = refl
after_none c (b ∷ s) = refl

after_short : (n c : ℕ) (s : List ℕ) → length s < n → chars_after n c s ≡ []
after_short zero c s h = absurd (omega arith)
after_short (suc n) c [] h = refl
after_short (suc n) c (b ∷ s) h = after_short n (c * 64 + (b - 128)) s (omega arith)

-- fewer bytes than the first one asks for spell nothing
pub decodes_short : (s : List ℕ) → length s < 1 + continuation_len (get_or s 0 0) → chars s ≡ []
unfolding chars
decodes_short [] h = refl
decodes_short (a ∷ s) h = after_short (continuation_len a) (lead_bits a) s (omega arith)

-- six more bits
abbrev pub joined_bits : ℕ → ℕ → ℕ
joined_bits c b = c * 64 + (b - 128)

pub decodes_one : (s : List ℕ) → 1 ≤ length s → get_or s 0 0 < 128 → chars s ≡ lead_bits (get_or s 0 0) ∷ chars (drop 1 s)
unfolding chars
decodes_one [] h l = absurd (omega arith)
decodes_one (a ∷ s) h l =
    let e : continuation_len a ≡ 0 = grind (arith, nat_tests) in
    ap (λ n. chars_after n (lead_bits a) s) e ∙ after_none (lead_bits a) s

pub decodes_two : (s : List ℕ) → 2 ≤ length s → 128 ≤ get_or s 0 0 → get_or s 0 0 < 224 → chars s ≡ joined_bits (lead_bits (get_or s 0 0)) (get_or s 1 0) ∷ chars (drop 2 s)
unfolding chars
decodes_two [] h l u = absurd (omega arith)
decodes_two (a ∷ []) h l u = absurd (omega arith)
decodes_two (a ∷ b ∷ s) h l u =
    let e : continuation_len a ≡ 1 = grind (arith, nat_tests) in
    ap (λ n. chars_after n (lead_bits a) (b ∷ s)) e ∙ after_none (joined_bits (lead_bits a) b) s

pub decodes_three : (s : List ℕ) → 3 ≤ length s → 224 ≤ get_or s 0 0 → get_or s 0 0 < 240 → chars s ≡ joined_bits (joined_bits (lead_bits (get_or s 0 0)) (get_or s 1 0)) (get_or s 2 0) ∷ chars (drop 3 s)
unfolding chars
decodes_three [] h l u = absurd (omega arith)
decodes_three (a ∷ []) h l u = absurd (omega arith)
decodes_three (a ∷ b ∷ []) h l u = absurd (omega arith)
decodes_three (a ∷ b ∷ d ∷ s) h l u =
    let e : continuation_len a ≡ 2 = grind (arith, nat_tests) in
    ap (λ n. chars_after n (lead_bits a) (b ∷ d ∷ s)) e ∙ after_none (joined_bits (joined_bits (lead_bits a) b) d) s

pub decodes_four : (s : List ℕ) → 4 ≤ length s → 240 ≤ get_or s 0 0 → chars s ≡ joined_bits (joined_bits (joined_bits (lead_bits (get_or s 0 0)) (get_or s 1 0)) (get_or s 2 0)) (get_or s 3 0) ∷ chars (drop 4 s)
unfolding chars
decodes_four [] h l = absurd (omega arith)
decodes_four (a ∷ []) h l = absurd (omega arith)
decodes_four (a ∷ b ∷ []) h l = absurd (omega arith)
decodes_four (a ∷ b ∷ d ∷ []) h l = absurd (omega arith)
decodes_four (a ∷ b ∷ d ∷ f ∷ s) h l =
    let e : continuation_len a ≡ 3 = grind (arith, nat_tests) in
    ap (λ n. chars_after n (lead_bits a) (b ∷ d ∷ f ∷ s)) e ∙ after_none (joined_bits (joined_bits (joined_bits (lead_bits a) b) d) f) s
