use Rattle.std.proofs.Common.{◌≡◌, ℕ, zero, suc, ◌+◌, ◌-◌, ◌<◌, ◌≤◌, Bool, true, false, cond, ltb, List, [], ◌∷◌, ◌++◌, length, take, set, Option, Some, None, sym, refl, ap, ◌∙◌, subst, arith, rules}
use Rattle.std.proofs.lemmas.Bool.Decides.{nat_tests}
use Rattle.std.proofs.lemmas.List.{take_more_set, append_assoc, append-nil, length-append, length_push, length-set, set-append_right}
use Rattle.glyphs.specs.declared.Glyph.{Glyph}
use Rattle.records.specs.declared.kinds.Row.{Row}
use Rattle.records.specs.declared.kinds.Info.{Info}
use Rattle.records.specs.declared.kinds.TableAcc.{TableAcc}
use Rattle.records.specs.declared.kinds.Block.{Block}
use Rattle.records.specs.declared.kinds.Block.TheVariants.{Text, Table}
use Rattle.records.specs.Acts.{put, end_entry, end_head, end_row, end_table}
use Rattle.records.specs.Memory.{Memory, act, up, span, blank_row, entered, added, lined, texted, fresh, begun, closed, ended}
use Rattle.blocks.specs.Reads.{Fits}
use Rattle.blocks.proofs.Flats.{Grid, grid, Flat, place, flat, flined, fadded, ftexted, ffresh, fbegun, fended}

-- n places of xs are written, and hold ys
pub record Part {X : Type 0} (xs : List X) (n : ℕ) (ys : List X) : Type 0 where
  pub holds : take n xs ≡ ys
  pub many : n ≡ length ys

abbrev pub grid_of : TableAcc → Grid
grid_of a = grid a.info a.row a.entries

-- the records hold the lists
pub record Keeps (m : Memory) (f : Flat) : Type 0 where
  pub glyphs : Part m.glyphs m.used.glyphs f.glyphs
  pub from : m.text.from ≡ f.from
  pub bare : m.text.bare ≡ f.bare
  pub lines : Part m.lines m.used.lines (f.old ++ f.lines)
  pub first : m.text.first ≡ length f.old
  pub full : m.text.full ≡ length f.old + f.full
  pub rows : Part m.rows m.used.rows (f.gone ++ f.rows)
  pub head : m.table.head ≡ length f.gone
  pub acc : grid_of m.table ≡ f.acc
  pub blocks : Part m.blocks m.used.blocks f.blocks

up_fits : (n k : ℕ) → up n ≤ k → up n < 65535 → (up n ≡ n + 1) × (n < k)
up_fits n k h l = grind (arith, nat_tests)

-- one more
part_more : {X : Type 0} (xs : List X) (n : ℕ) (ys : List X) (x : X) → Part xs n ys → (up n ≤ length (set xs n x)) × (up n < 65535) → Part (set xs n x) (up n) (ys ++ (x ∷ []))
part_more xs n ys x p h =
    let u = up_fits n (length (set xs n x)) h.0 h.1 in
    let k : n < length xs = omega (arith, length-set xs n x, u.1) in
    record {
      holds = ap (λ i. take i (set xs n x)) u.0 ∙ (take_more_set xs n x k ∙ ap (λ l. l ++ (x ∷ [])) p.holds);
      many = omega (arith, u.0, length_push ys x, p.many);
    }

part_as : {X : Type 0} (xs : List X) (n : ℕ) (ys zs : List X) → Part xs n ys → ys ≡ zs → Part xs n zs
part_as xs n ys zs p e = record { holds = p.holds ∙ e; many = p.many ∙ ap length e }

pub keeps_put : (m : Memory) (f : Flat) (g : Glyph) → Keeps m f → Fits (act m (put g)) → Keeps (act m (put g)) (flat f (put g))
keeps_put m f g k h = let p = part_more m.glyphs m.used.glyphs f.glyphs g k.glyphs h.glyphs in search rules

spans : (a b c d : ℕ) → a ≡ c → b ≡ d → span a b ≡ span c d
spans a b c d p q = rw (p, q) refl

full_more : (b c : Bool) (m o n u v : ℕ) → b ≡ c → m ≡ o + n → u ≡ o + v → cond b m u ≡ o + cond c n v
full_more b c m o n u v e p q = rw e (elim c as (λ x. cond x m u ≡ o + cond x n v) [ true ↦ p | false ↦ q ])

pub keeps_lined : (m : Memory) (f : Flat) → Keeps m f → Fits (lined m) → Keeps (lined m) (flined f)
keeps_lined m f k h =
    let n = m.used.lines in
    let s = span m.text.from m.used.glyphs in
    let e : s ≡ span f.from (length f.glyphs) = spans m.text.from m.used.glyphs f.from (length f.glyphs) k.from k.glyphs.many in
    let u = up_fits n (length (set m.lines n s)) h.lines.0 h.lines.1 in
    let w : up n ≡ length f.old + (length f.lines + 1) = omega (arith, u.0, k.lines.many, length-append f.old f.lines) in
    let p = part_as (set m.lines n s) (up n) ((f.old ++ f.lines) ++ (s ∷ [])) (f.old ++ (f.lines ++ (span f.from (length f.glyphs) ∷ [])))
    (part_more m.lines n (f.old ++ f.lines) s k.lines h.lines)
    (append_assoc f.old f.lines (s ∷ []) ∙ ap (λ x. f.old ++ (f.lines ++ (x ∷ []))) e) in
    let v = full_more m.text.bare f.bare m.text.full (length f.old) f.full (up n) (length f.lines + 1) k.bare k.full w in
    search rules

keeps_added : (m : Memory) (f : Flat) (b c : Block) → b ≡ c → Keeps m f → Fits (added m b) → Keeps (added m b) (fadded f c)
keeps_added m f b c e k h =
    let p = part_as (set m.blocks m.used.blocks b) (up m.used.blocks) (f.blocks ++ (b ∷ [])) (f.blocks ++ (c ∷ [])) (part_more m.blocks m.used.blocks f.blocks b k.blocks h.blocks) (ap (λ x. f.blocks ++ (x ∷ [])) e) in
    search rules

keeps_if : (b c : Bool) (m : Memory) (f : Flat) (x y : Block) → b ≡ c → x ≡ y → Keeps m f → Fits (cond b (added m x) m) → Keeps (cond b (added m x) m) (cond c (fadded f y) f)
keeps_if true true m f x y e q k h = keeps_added m f x y q k h
keeps_if false false m f x y e q k h = k
keeps_if true false m f x y e q k h = absurd (cc)
keeps_if false true m f x y e q k h = absurd (cc)

pub keeps_texted : (m : Memory) (f : Flat) → Keeps m f → Fits (texted m) → Keeps (texted m) (ftexted f)
keeps_texted m f k h =
    let o = length f.old in
    let e : ltb m.text.first m.text.full ≡ ltb 0 f.full = rw (k.first, k.full) (grind (arith, nat_tests)) in
    let q : Text (span m.text.first m.text.full) ≡ Text (place o f.full) = rw (k.first, k.full) (let z : o + f.full - o ≡ f.full = omega arith in ap (λ n. Text (place o n)) z) in
    keeps_if (ltb m.text.first m.text.full) (ltb 0 f.full) m f (Text (span m.text.first m.text.full)) (Text (place o f.full)) e q k h

pub keeps_fresh : (m : Memory) (f : Flat) → Keeps m f → Keeps (fresh m) (ffresh f)
keeps_fresh m f k =
    let p = part_as m.lines m.used.lines (f.old ++ f.lines) ((f.old ++ f.lines) ++ []) k.lines (sym (append-nil (f.old ++ f.lines))) in
    let n = k.lines.many in
    search rules

pub keeps_begun : (m : Memory) (f : Flat) (i : Info) → Keeps m f → Fits (begun m i) → Keeps (begun m i) (fbegun f i)
keeps_begun m f i k h = let p = part_more m.rows m.used.rows (f.gone ++ f.rows) blank_row k.rows h.rows in search rules

pub keeps_entry : (m : Memory) (f : Flat) → Keeps m f → Keeps (act m end_entry) (flat f end_entry)
keeps_entry m f k =
    let a = ap (λ (a : Grid). grid a.info (entered a.row a.entries (span m.text.from m.used.glyphs)) (up a.entries)) k.acc
    ∙ ap (λ s. grid f.acc.info (entered f.acc.row f.acc.entries s) (up f.acc.entries)) (spans m.text.from m.used.glyphs f.from (length f.glyphs) k.from k.glyphs.many) in
    search rules

take-set_in : (xs : List Row) (n i : ℕ) (x : Row) → take n (set xs i x) ≡ set (take n xs) i x
take-set_in [] zero i x = refl
take-set_in [] (suc n) i x = refl
take-set_in (y ∷ ys) zero i x = refl
take-set_in (y ∷ ys) (suc n) zero x = refl
take-set_in (y ∷ ys) (suc n) (suc i) x = ap (λ l. y ∷ l) (take-set_in ys n i x)

abbrev renewed : Grid → Grid
renewed a = grid a.info blank_row 0

pub keeps_head : (m : Memory) (f : Flat) → Keeps m f → Keeps (act m end_head) (flat f end_head)
keeps_head m f k =
    let z : m.table.head - length f.gone ≡ 0 = omega (arith, k.head) in
    let r : m.table.row ≡ f.acc.row = ap (λ (a : Grid). a.row) k.acc in
    let s : set (f.gone ++ f.rows) m.table.head m.table.row ≡ f.gone ++ set f.rows 0 f.acc.row =
    set-append_right f.gone f.rows (length f.gone) m.table.head m.table.row refl (omega (arith, k.head)) ∙ (ap (λ i. f.gone ++ set f.rows i m.table.row) z ∙ ap (λ q. f.gone ++ set f.rows 0 q) r) in
    let p = take-set_in m.rows m.used.rows m.table.head m.table.row ∙ (ap (λ l. set l m.table.head m.table.row) k.rows.holds ∙ s) in
    let n = k.rows.many ∙ (sym (length-set (f.gone ++ f.rows) m.table.head m.table.row) ∙ ap length s) in
    let a = ap renewed k.acc in
    search rules

pub keeps_row : (m : Memory) (f : Flat) → Keeps m f → Fits (act m end_row) → Keeps (act m end_row) (flat f end_row)
keeps_row m f k h =
    let r : m.table.row ≡ f.acc.row = ap (λ (a : Grid). a.row) k.acc in
    let p = part_as (set m.rows m.used.rows m.table.row) (up m.used.rows) ((f.gone ++ f.rows) ++ (m.table.row ∷ [])) (f.gone ++ (f.rows ++ (f.acc.row ∷ [])))
    (part_more m.rows m.used.rows (f.gone ++ f.rows) m.table.row k.rows h.rows)
    (append_assoc f.gone f.rows (m.table.row ∷ []) ∙ ap (λ x. f.gone ++ (f.rows ++ (x ∷ []))) r) in
    let a = ap renewed k.acc in
    search rules

closed-fits : (m : Memory) → Fits (closed m) → Fits m
closed-fits m h = search rules

keeps_closed : (m : Memory) (f : Flat) (i : Info) → Keeps m f → Fits (ended (Some i) m) → Keeps (ended (Some i) m) (fended (Some i) f)
keeps_closed m f i k h =
    let n : m.used.rows - m.table.head ≡ length f.rows = omega (arith, k.rows.many, k.head, length-append f.gone f.rows) in
    let b = Table i (span m.table.head m.used.rows) in
    let c = Table i (place (length f.gone) (length f.rows)) in
    let e : b ≡ c = ap (λ l. Table i (place m.table.head l)) n ∙ ap (λ o. Table i (place o (length f.rows))) k.head in
    let a = keeps_added m f b c e k (closed-fits (added m b) h) in
    let p = part_as m.rows m.used.rows (f.gone ++ f.rows) ((f.gone ++ f.rows) ++ []) k.rows (sym (append-nil (f.gone ++ f.rows))) in
    let g = ap (λ (q : Grid). grid None q.row q.entries) k.acc in
    search rules

keeps_ended : (o : Option Info) (m : Memory) (f : Flat) → Keeps m f → Fits (ended o m) → Keeps (ended o m) (fended o f)
keeps_ended None m f k h = k
keeps_ended (Some i) m f k h = keeps_closed m f i k h

pub keeps_table : (m : Memory) (f : Flat) → Keeps m f → Fits (act m end_table) → Keeps (act m end_table) (flat f end_table)
keeps_table m f k h = subst (λ o. Keeps (act m end_table) (fended o f)) (ap (λ (a : Grid). a.info) k.acc) (keeps_ended m.table.info m f k h)
