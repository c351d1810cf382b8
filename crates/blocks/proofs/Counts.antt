use Rattle.std.proofs.Common.{◌≡◌, ℕ, ◌+◌, ◌*◌, ◌≤◌, min, Bool, true, false, cond, ltb, List, [], ◌∷◌, length, fold, Option, Some, None, refl, ap, arith, rules}
use Rattle.std.specs.Option.{is_some}
use Rattle.std.proofs.lemmas.Bool.Decides.{nat_tests}
use Rattle.std.proofs.lemmas.List.{length-set}
use Rattle.records.specs.declared.kinds.Info.{Info}
use Rattle.records.specs.declared.kinds.Block.{Block}
use Rattle.records.specs.declared.kinds.Block.TheVariants.{Text}
use Rattle.records.specs.Acts.{Act, put, end_line, begin_table, end_entry, end_head, end_row, end_table}
use Rattle.records.specs.Memory.{Memory, act, acted, up, span, added, lined, fresh, flushed, ended}
use Rattle.blocks.specs.Needs.{Needs, needs, tally}

abbrev pub one : Bool → ℕ
one true = 1
one false = 0

-- the counts are the needs, up to where they stop; the lists keep their lengths; a table gives at most two blocks
pub record Counts (m : Memory) (n : Needs) (g l r b : ℕ) : Type 0 where
  pub glyphs : m.used.glyphs ≡ min 65535 n.glyphs
  pub lines : m.used.lines ≡ min 65535 n.lines
  pub rows : m.used.rows ≡ min 65535 n.rows
  pub tables : m.used.tables ≡ min 65535 n.tables
  pub glyphs_room : length m.glyphs ≡ g
  pub lines_room : length m.lines ≡ l
  pub rows_room : length m.rows ≡ r
  pub blocks_room : length m.blocks ≡ b
  pub two : m.used.blocks + one (is_some m.table.info) ≤ 2 * n.tables

pub up-min : (m n : ℕ) → m ≡ min 65535 n → up m ≡ min 65535 (n + 1)
up-min m n e = grind (arith, nat_tests)

up_le : (n : ℕ) → up n ≤ n + 1
up_le n = grind (arith, nat_tests)

-- the same after a flush: one line more, and at most one block
pub record Flushed (m : Memory) (n : Needs) (g l r b : ℕ) : Type 0 where
  pub glyphs : m.used.glyphs ≡ min 65535 n.glyphs
  pub lines : m.used.lines ≡ min 65535 (n.lines + 1)
  pub rows : m.used.rows ≡ min 65535 n.rows
  pub tables : m.used.tables ≡ min 65535 n.tables
  pub glyphs_room : length m.glyphs ≡ g
  pub lines_room : length m.lines ≡ l
  pub rows_room : length m.rows ≡ r
  pub blocks_room : length m.blocks ≡ b
  pub two : m.used.blocks ≤ 2 * n.tables + 1

flushed_if : (b : Bool) (m : Memory) (x : Block) (n : Needs) (g l r k : ℕ) → Counts m n g l r k →
    Flushed (fresh (cond b (added (lined m) x) (lined m))) n g l r k
flushed_if true m x n g l r k c = let u = up_le m.used.blocks in search (rules, up-min, length-set)
flushed_if false m x n g l r k c = search (rules, up-min, length-set)

pub counts_flushed : (m : Memory) (n : Needs) (g l r k : ℕ) → Counts m n g l r k → Flushed (flushed m) n g l r k
counts_flushed m n g l r k c = flushed_if (ltb (lined m).text.first (lined m).text.full) m (Text (span (lined m).text.first (lined m).text.full)) n g l r k c

counts_ended : (o : Option Info) (m : Memory) (n : Needs) (g l r k : ℕ) → o ≡ m.table.info → Counts m n g l r k → Counts (ended o m) n g l r k
counts_ended None m n g l r k e c = c
counts_ended (Some i) m n g l r k e c =
    let u = up_le m.used.blocks in
    let o = ap (λ o. one (is_some o)) e in
    search (rules, length-set)

counts_act : (m : Memory) (n : Needs) (g l r k : ℕ) (a : Act) → Counts m n g l r k → Counts (act m a) (tally n a) g l r k
counts_act m n g l r k (put x) c = search (rules, up-min, length-set)
counts_act m n g l r k end_line c = search (rules, up-min, length-set)
counts_act m n g l r k (begin_table i) c = let f = counts_flushed m n g l r k c in search (rules, up-min, length-set)
counts_act m n g l r k end_entry c = search rules
counts_act m n g l r k end_head c = search (rules, length-set)
counts_act m n g l r k end_row c = search (rules, up-min, length-set)
counts_act m n g l r k end_table c = counts_ended m.table.info m n g l r k refl c

pub counts_run : (xs : List Act) (m : Memory) (n : Needs) (g l r k : ℕ) → Counts m n g l r k → Counts (acted m xs) (fold tally n xs) g l r k
counts_run [] m n g l r k c = c
counts_run (a ∷ xs) m n g l r k c = counts_run xs (act m a) (tally n a) g l r k (counts_act m n g l r k a c)

pub same_needs : (g l r t a b c d : ℕ) → g ≡ a → l ≡ b → r ≡ c → t ≡ d → needs g l r t ≡ needs a b c d
same_needs g l r t a b c d p q u v = rw (p, q, u, v) refl
