use Rattle.std.proofs.Common.{◌≡◌, ℕ, ◌+◌, ◌<◌, ◌≤◌, min, Bool, true, false, cond, ltb, List, [], ◌∷◌, ◌++◌, map, length, take, drop, set, fold, Option, Some, None, sym, refl, ap, subst, ◌∙◌, arith, rules}
use Rattle.std.specs.List.{AllZip}
use Rattle.std.proofs.lemmas.Bool.Decides.{nat_tests}
use Rattle.std.proofs.lemmas.List.{append-nil, append_assoc, length-set, take-append-drop}
use Rattle.glyphs.specs.declared.Glyph.{Glyph}
use Rattle.records.specs.declared.kinds.Span.{Span}
use Rattle.records.specs.declared.kinds.Row.{Row}
use Rattle.records.specs.declared.kinds.Info.{Info}
use Rattle.records.specs.declared.kinds.Block.{Block}
use Rattle.records.specs.declared.kinds.Block.TheVariants.{Text, Table}
use Rattle.records.specs.Acts.{Act, put, end_line, begin_table, end_entry, end_head, end_row, end_table}
use Rattle.records.specs.Memory.{Memory, act, acted, up, span, spanned, blank_row, blank, added, lined, texted, fresh, flushed, begun, ended}
use Rattle.blocks.specs.Pieces.{settled}
use Rattle.blocks.specs.Drafts.{Draft, draw, drawn, clean, flush, finished}
use Rattle.blocks.specs.Reads.{piece_of, blocks_of, Fits}
use Rattle.blocks.specs.Needs.{needs, tally, tallied}
use Rattle.blocks.specs.Fronts.{glyphs_put, rows_over, SaysRow}
use Rattle.blocks.specs.Stands.{Within, MemoryShowsDraft, FrontShowsDraft}
use Rattle.blocks.proofs.Flats.{Flat, flat, flined, fadded, fended, fflushed, place, grid}
use Rattle.blocks.proofs.Kept.{Part, Keeps, keeps_put, keeps_lined, keeps_texted, keeps_fresh, keeps_begun, keeps_entry, keeps_head, keeps_row, keeps_table}
use Rattle.blocks.proofs.Draws.{Draws, draws_put, draws_lined, draws_flush, draws_begin, draws_head, draws_row, draws_table, draws_entry}
use Rattle.blocks.proofs.Tells.{Tells, only_gone, tells_flush, tells_act}
use Rattle.blocks.proofs.Counts.{Counts, counts_run, counts_flushed}

up_back : (n k : ℕ) → up n ≤ k → n ≤ k
up_back n k h = grind (arith, nat_tests)

up_low : (n : ℕ) → up n < 65535 → n < 65535
up_low n h = grind (arith, nat_tests)

set_back : {X : Type 0} (xs : List X) (n i : ℕ) (x : X) → (up n ≤ length (set xs i x)) × (up n < 65535) → (n ≤ length xs) × (n < 65535)
set_back xs n i x h = (up_back n (length xs) (omega (arith, length-set xs i x)), up_low n h.1)

same_back : {X : Type 0} (xs : List X) (n i : ℕ) (x : X) → (n ≤ length (set xs i x)) × (n < 65535) → (n ≤ length xs) × (n < 65535)
same_back xs n i x h = (omega (arith, length-set xs i x), h.1)

lined_back : (m : Memory) → Fits (lined m) → Fits m
lined_back m h = let b = set_back m.lines m.used.lines m.used.lines (span m.text.from m.used.glyphs) h.lines in search rules

added_back : (m : Memory) (b : Block) → Fits (added m b) → Fits m
added_back m b h = let x = set_back m.blocks m.used.blocks m.used.blocks b h.blocks in search rules

if_back : (b : Bool) (m : Memory) (x : Block) → Fits (cond b (added m x) m) → Fits m
if_back true m x h = added_back m x h
if_back false m x h = h

texted_back : (m : Memory) → Fits (texted m) → Fits m
texted_back m h = if_back (ltb m.text.first m.text.full) m (Text (span m.text.first m.text.full)) h

fresh_back : (m : Memory) → Fits (fresh m) → Fits m
fresh_back m h = search rules

pub flushed_back : (m : Memory) → Fits (flushed m) → Fits m
flushed_back m h = lined_back m (texted_back (lined m) (fresh_back (texted (lined m)) h))

begun_back : (m : Memory) (i : Info) → Fits (begun m i) → Fits m
begun_back m i h = let b = set_back m.rows m.used.rows m.used.rows blank_row h.rows in search rules

ended_back : (o : Option Info) (m : Memory) → Fits (ended o m) → Fits m
ended_back None m h = h
ended_back (Some i) m h = added_back m (Table i (span m.table.head m.used.rows)) (search rules)

fits_back : (m : Memory) (a : Act) → Fits (act m a) → Fits m
fits_back m (put g) h = let b = set_back m.glyphs m.used.glyphs m.used.glyphs g h.glyphs in search rules
fits_back m end_line h = lined_back m h
fits_back m (begin_table i) h = flushed_back m (begun_back (flushed m) i h)
fits_back m end_entry h = search rules
fits_back m end_head h = let b = same_back m.rows m.used.rows m.table.head m.table.row h.rows in search rules
fits_back m end_row h = let b = set_back m.rows m.used.rows m.used.rows m.table.row h.rows in search rules
fits_back m end_table h = ended_back m.table.info m h

fits_run : (xs : List Act) (m : Memory) → Fits (acted m xs) → Fits m
fits_run [] m h = h
fits_run (a ∷ xs) m h = fits_back m a (fits_run xs (act m a) h)

keeps_flushed : (m : Memory) (f : Flat) → Keeps m f → Fits (flushed m) → Keeps (flushed m) (fflushed f)
keeps_flushed m f k h =
    let t : Fits (texted (lined m)) = fresh_back (texted (lined m)) h in
    let l = keeps_lined m f k (texted_back (lined m) t) in
    keeps_fresh _ _ (keeps_texted (lined m) (flined f) l t)

keeps_act : (m : Memory) (f : Flat) (a : Act) → Keeps m f → Fits (act m a) → Keeps (act m a) (flat f a)
keeps_act m f (put g) k h = keeps_put m f g k h
keeps_act m f end_line k h = keeps_lined m f k h
keeps_act m f (begin_table i) k h = keeps_begun (flushed m) (fflushed f) i (keeps_flushed m f k (begun_back (flushed m) i h)) h
keeps_act m f end_entry k h = keeps_entry m f k
keeps_act m f end_head k h = keeps_head m f k
keeps_act m f end_row k h = keeps_row m f k h
keeps_act m f end_table k h = keeps_table m f k h

draws_act : (f : Flat) (d : Draft) (a : Act) → Draws f d → Draws (flat f a) (draw d a)
draws_act f d (put g) k = draws_put f d g k
draws_act f d end_line k = draws_lined f d k
draws_act f d (begin_table i) k = draws_begin f d i k
draws_act f d end_entry k = draws_entry f d k
draws_act f d end_head k = draws_head f d k
draws_act f d end_row k = draws_row f d k
draws_act f d end_table k = draws_table f d k

rest : {X : Type 0} (xs : List X) (n : ℕ) (ys : List X) → Part xs n ys → xs ≡ ys ++ drop n xs
rest xs n ys p = sym (take-append-drop n xs) ∙ ap (λ l. l ++ drop n xs) p.holds

read : (m : Memory) (f : Flat) (d : Draft) → Keeps m f → Draws f d → blocks_of m ≡ settled d.pieces
read m f d k w =
    let gs = drop m.used.glyphs m.glyphs in
    let ls = drop m.used.lines m.lines in
    let rs = drop m.used.rows m.rows in
    let g = rest m.glyphs m.used.glyphs f.glyphs k.glyphs in
    let l = rest m.lines m.used.lines (f.old ++ f.lines) k.lines ∙ append_assoc f.old f.lines ls in
    let r = rest m.rows m.used.rows (f.gone ++ f.rows) k.rows ∙ append_assoc f.gone f.rows rs in
    ap (map (piece_of m.glyphs m.lines m.rows)) k.blocks.holds
    ∙ (ap (λ x. map (piece_of x m.lines m.rows) f.blocks) g
    ∙ (ap (λ x. map (piece_of (f.glyphs ++ gs) x m.rows) f.blocks) l
    ∙ (ap (λ x. map (piece_of (f.glyphs ++ gs) (f.old ++ (f.lines ++ ls)) x) f.blocks) r
    ∙ w.blocks gs (f.lines ++ ls) (f.rows ++ rs))))

-- the records and the lists after all acts
ends : (xs : List Act) (m : Memory) (f : Flat) (d : Draft) → Keeps m f → Draws f d → Tells f d → Fits (flushed (acted m xs)) →
    Keeps (flushed (acted m xs)) (fflushed (fold flat f xs)) × Draws (fflushed (fold flat f xs)) (flush (drawn d xs)) × Tells (fflushed (fold flat f xs)) (flush (drawn d xs))
ends [] m f d k w t h = (keeps_flushed m f k h, draws_flush f d w, tells_flush f d w t)
ends (a ∷ xs) m f d k w t h =
    ends xs (act m a) (flat f a) (draw d a) (keeps_act m f a k (fits_run xs (act m a) (flushed_back (acted (act m a) xs) h))) (draws_act f d a w) (tells_act f d a w t) h

abbrev bare_flat : Flat
bare_flat = record { glyphs = []; from = 0; bare = true; old = []; lines = []; full = 0; gone = []; rows = []; acc = grid None blank_row 0; blocks = [] }

-- and after all acts on lent memory of which nothing is in use
ends_from : (gs : List Glyph) (ls : List Span) (rs : List Row) (xs : List Act) → Fits (flushed (acted (blank gs ls rs) xs)) →
    Keeps (flushed (acted (blank gs ls rs) xs)) (fflushed (fold flat bare_flat xs)) × Draws (fflushed (fold flat bare_flat xs)) (flush (drawn clean xs)) × Tells (fflushed (fold flat bare_flat xs)) (flush (drawn clean xs))
ends_from gs ls rs xs h = ends xs (blank gs ls rs) bare_flat clean
    (search rules)
    (record { from = omega arith; here = refl; bare = refl; lines = λ x. refl; full = refl; begun = refl; info = λ i e. cc; row = λ x. refl; entries = refl; rows = λ x. refl; blocks = λ x y z. refl })
    (record { old = λ x. refl; few = omega arith; gone = λ l x. tt })
    h

shows_from : (gs : List Glyph) (ls : List Span) (rs : List Row) (xs : List Act) → Fits (flushed (acted (blank gs ls rs) xs)) → blocks_of (flushed (acted (blank gs ls rs) xs)) ≡ finished (drawn clean xs)
shows_from gs ls rs xs h =
    let e = ends_from gs ls rs xs h in
    read (flushed (acted (blank gs ls rs) xs)) (fflushed (fold flat bare_flat xs)) (flush (drawn clean xs)) e.0 e.1

-- the glyphs of the lists are those that were put
fflushed_glyphs : (f : Flat) → (fflushed f).glyphs ≡ f.glyphs
fflushed_glyphs f = by (ltb 0 (flined f).full)
  where
    by : (b : Bool) → (cond b (fadded (flined f) (Text (place (length (flined f).old) (flined f).full))) (flined f)).glyphs ≡ f.glyphs
    by true = refl
    by false = refl

fended_glyphs : (o : Option Info) (f : Flat) → (fended o f).glyphs ≡ f.glyphs
fended_glyphs None f = refl
fended_glyphs (Some i) f = refl

put_glyphs : (xs : List Act) (f : Flat) → (fold flat f xs).glyphs ≡ f.glyphs ++ glyphs_put xs
put_glyphs [] f = sym (append-nil f.glyphs)
put_glyphs (put g ∷ xs) f = put_glyphs xs (flat f (put g)) ∙ append_assoc f.glyphs (g ∷ []) (glyphs_put xs)
put_glyphs (end_line ∷ xs) f = put_glyphs xs (flat f end_line)
put_glyphs (begin_table i ∷ xs) f = put_glyphs xs (flat f (begin_table i)) ∙ ap (λ gs. gs ++ glyphs_put xs) (fflushed_glyphs f)
put_glyphs (end_entry ∷ xs) f = put_glyphs xs (flat f end_entry)
put_glyphs (end_head ∷ xs) f = put_glyphs xs (flat f end_head)
put_glyphs (end_row ∷ xs) f = put_glyphs xs (flat f end_row)
put_glyphs (end_table ∷ xs) f = put_glyphs xs (flat f end_table) ∙ ap (λ gs. gs ++ glyphs_put xs) (fended_glyphs f.acc.info f)

min_le : (m n k j : ℕ) → m ≡ min 65535 n → n ≤ min k j → j < 65535 → (m ≤ k) × (m < 65535)
min_le m n k j e h l = (omega arith, omega arith)

pub counted : (gs : List Glyph) (ls : List Span) (rs : List Row) (xs : List Act) → Counts (acted (blank gs ls rs) xs) (fold tally (needs 0 0 0 0) xs) (length gs) (length ls) (length rs) 511
counted gs ls rs xs = counts_run xs (blank gs ls rs) (needs 0 0 0 0) (length gs) (length ls) (length rs) 511
    (search rules)

within_fits : (gs : List Glyph) (ls : List Span) (rs : List Row) (xs : List Act) → Within (tallied xs) (length gs) (length ls) (length rs) → Fits (flushed (acted (blank gs ls rs) xs))
within_fits gs ls rs xs w =
    let m = acted (blank gs ls rs) xs in
    let n = fold tally (needs 0 0 0 0) xs in
    let f = counts_flushed m n (length gs) (length ls) (length rs) 511 (counted gs ls rs xs) in
    let g = min_le (flushed m).used.glyphs n.glyphs (length gs) 50000 f.glyphs w.glyphs (omega arith) in
    let l = min_le (flushed m).used.lines (n.lines + 1) (length ls) 4096 f.lines w.lines (omega arith) in
    let r = min_le (flushed m).used.rows n.rows (length rs) 4096 f.rows w.rows (omega arith) in
    search rules

pub memory_shows : MemoryShowsDraft
memory_shows gs ls rs xs w = shows_from gs ls rs xs (within_fits gs ls rs xs w)

-- no more rows are in use than the tables have, if every row that is counted is in one
all_used : (gs : List Glyph) (ls : List Span) (rs : List Row) (xs : List Act) → Within (tallied xs) (length gs) (length ls) (length rs) → (a b : ℕ) →
    (flushed (acted (blank gs ls rs) xs)).used.rows ≡ a → (tallied xs).rows ≡ b → a ≤ b
all_used gs ls rs xs w a b e c =
    let n = fold tally (needs 0 0 0 0) xs in
    let f = counts_flushed (acted (blank gs ls rs) xs) n (length gs) (length ls) (length rs) 511 (counted gs ls rs xs) in
    omega (arith, f.rows, e, c)

-- and the records in use alone say it, in their order
pub front_shows : FrontShowsDraft
front_shows gs ls rs xs w c =
    let m = flushed (acted (blank gs ls rs) xs) in
    let f = fflushed (fold flat bare_flat xs) in
    let e = ends_from gs ls rs xs (within_fits gs ls rs xs w) in
    let d = flush (drawn clean xs) in
    let x = drop m.used.glyphs m.glyphs in
    let g = rest m.glyphs m.used.glyphs f.glyphs e.0.glyphs in
    let many : length (f.gone ++ f.rows) ≤ length (rows_over d.pieces) = all_used gs ls rs xs w (length (f.gone ++ f.rows)) (length (rows_over d.pieces)) e.0.rows.many c in
    record {
      lines =
          ap (map (spanned m.glyphs)) (e.0.lines.holds ∙ append-nil f.old)
          ∙ (ap (λ l. map (spanned l) f.old) g ∙ e.2.old x);
      rows =
          subst (λ l. AllZip (SaysRow m.glyphs) l (rows_over d.pieces)) (sym e.0.rows.holds)
          (subst (λ l. AllZip (SaysRow l) (f.gone ++ f.rows) (rows_over d.pieces)) (sym g) (only_gone f d e.2 many x));
      glyphs = e.0.glyphs.holds ∙ (fflushed_glyphs (fold flat bare_flat xs) ∙ put_glyphs xs bare_flat);
      alone = λ x y z.
          ap (map (piece_of (take m.used.glyphs m.glyphs ++ x) (take m.used.lines m.lines ++ y) (take m.used.rows m.rows ++ z))) e.0.blocks.holds
          ∙ (ap (λ a. map (piece_of (a ++ x) (take m.used.lines m.lines ++ y) (take m.used.rows m.rows ++ z)) f.blocks) e.0.glyphs.holds
          ∙ (ap (λ a. map (piece_of (f.glyphs ++ x) a (take m.used.rows m.rows ++ z)) f.blocks) (ap (λ a. a ++ y) e.0.lines.holds ∙ append_assoc f.old f.lines y)
          ∙ (ap (λ a. map (piece_of (f.glyphs ++ x) (f.old ++ (f.lines ++ y)) a) f.blocks) (ap (λ a. a ++ z) e.0.rows.holds ∙ append_assoc f.gone f.rows z)
          ∙ e.1.blocks x (f.lines ++ y) (f.rows ++ z))));
    }
