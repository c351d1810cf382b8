use Rattle.std.proofs.Common.{◌≡◌, ℕ, ◌-◌, ◌*◌, ◌^◌, ◌<◌, ◌≤◌, true, cond, ◌&&◌, eqb, ltb, leb, List, length, get_or, ap, arith}
use lib.Bits.{bit_or}
use Rattle.std.proofs.lemmas.Nat.{and_le_r}
use Rattle.std.proofs.lemmas.Bool.{cond_both, and_parts, and_from, leb-true, le-leb, lt-ltb, ltb-true}
use Rattle.style.specs.declared.Style.{Style}
use Rattle.style.specs.Styles.{colour_over}
use Rattle.style.specs.Symbols.{symbol_of, whole}
use Rattle.style.proofs.Symbols.{packed_lt}
use Rattle.page.specs.declared.cells.Cell.{Cell}
use Rattle.page.specs.Cells.{fresh, inked, sound, tidy}

-- a sound record is shown as it is
pub tidy_same : (c : Cell) → sound c ≡ true → tidy c ≡ c
tidy_same c e = ap (λ b. cond b c fresh) e

-- what is known of a sound record
pub record Parts (c : Cell) : Type 0 where
  pub short : c.symbol.len ≤ 8
  pub low : c.symbol.bytes < 2 ^ (8 * c.symbol.len)
  pub front : c.fg ≤ 16
  pub back : c.bg ≤ 16
  pub few : c.modifiers < 256

pub sound_parts : (c : Cell) → sound c ≡ true → Parts c
sound_parts c e =
    let a = and_parts (whole c.symbol) (leb c.fg 16 && (leb c.bg 16 && ltb c.modifiers 256)) e in
    let b = and_parts (leb c.symbol.len 8) (ltb c.symbol.bytes (2 ^ (8 * c.symbol.len))) a.0 in
    let d = and_parts (leb c.fg 16) (leb c.bg 16 && ltb c.modifiers 256) a.1 in
    let f = and_parts (leb c.bg 16) (ltb c.modifiers 256) d.1 in
    record {
      short = leb-true c.symbol.len 8 b.0;
      low = ltb-true c.symbol.bytes (2 ^ (8 * c.symbol.len)) b.1;
      front = leb-true c.fg 16 d.0;
      back = leb-true c.bg 16 f.0;
      few = ltb-true c.modifiers 256 f.1;
    }

pub sound_from : (c : Cell) → Parts c → sound c ≡ true
sound_from c p =
    and_from (whole c.symbol) (leb c.fg 16 && (leb c.bg 16 && ltb c.modifiers 256))
    (and_from (leb c.symbol.len 8) (ltb c.symbol.bytes (2 ^ (8 * c.symbol.len))) (le-leb c.symbol.len 8 p.short) (lt-ltb c.symbol.bytes (2 ^ (8 * c.symbol.len)) p.low))
    (and_from (leb c.fg 16) (leb c.bg 16 && ltb c.modifiers 256) (le-leb c.fg 16 p.front)
    (and_from (leb c.bg 16) (ltb c.modifiers 256) (le-leb c.bg 16 p.back) (lt-ltb c.modifiers 256 p.few)))

over_le : (a b : ℕ) → a ≤ 16 → b ≤ 16 → colour_over a b ≤ 16
over_le a b p q = cond_both (eqb b 0) a b (λ c. c ≤ 16) (λ e. p) (λ e. q)

-- a put that is admitted leaves a sound cell
pub inked-sound : (bs : List ℕ) (t : Style) (c : Cell) → ((i : ℕ) → get_or bs i 0 < 256) → length bs ≤ 8 → t.fg ≤ 16 → t.bg ≤ 16 → sound c ≡ true → sound (inked (symbol_of bs) t c) ≡ true
inked-sound bs t c bytes l f b e =
    let p = sound_parts c e in
    sound_from (inked (symbol_of bs) t c) (record {
      short = l;
      low = packed_lt bs bytes;
      front = over_le c.fg t.fg p.front f;
      back = over_le c.bg t.bg p.back b;
      few = omega (arith, and_le_r (bit_or c.modifiers t.add) (255 - t.remove));
    })
