use Rattle.std.proofs.Common.{◌≡◌, ℕ, zero, suc, ◌+◌, ◌-◌, ◌<◌, ◌≤◌, min, Bool, true, false, cond, ltb, List, [], ◌∷◌, ◌++◌, map, length, take, drop, set, replicate, Option, Some, None, sym, refl, ap, ◌∙◌, inl, inr, arith, rules}
use Rattle.std.specs.Option.{is_some}
use Rattle.std.proofs.lemmas.Bool.Decides.{nat_tests, leb_tells}
use Rattle.std.proofs.lemmas.List.{append_assoc, append-nil, length_push, length-map, length-drop, length-take, drop-append-le, drop_all, drop_at, take_at, take-append-le, take-map, take-replicate, map_push, map-set, set_past}
use Rattle.std.proofs.lemmas.Simd.{map-map}
use Rattle.glyphs.specs.declared.Glyph.{Glyph}
use Rattle.records.specs.declared.kinds.Span.{Span}
use Rattle.records.specs.declared.kinds.Row.{Row}
use Rattle.records.specs.declared.kinds.Info.{Info}
use Rattle.records.specs.declared.kinds.Block.{Block}
use Rattle.records.specs.declared.kinds.Block.TheVariants.{Text, Table}
use Rattle.records.specs.Acts.{put, end_line, begin_table, end_entry, end_head, end_row, end_table}
use Rattle.records.specs.Memory.{span, spanned}
use Rattle.blocks.specs.Pieces.{Line, text, table, trim, texts, settled, padded, resized}
use Rattle.blocks.specs.Drafts.{Draft, draft, flush, draw}
use Rattle.blocks.specs.Reads.{entries_of, piece_of}
use Rattle.blocks.proofs.Flats.{Flat, place, flat, flined, fadded, ffresh, fflushed, fbegun, fended}
use Rattle.blocks.proofs.Counts.{up-min}
use Rattle.blocks.proofs.Trims.{is_nil, is_nil-push, trim_end, trim-take, trim_le, settled-append}

-- all 32 entries of a row record
abbrev pub whole_of : List Glyph → Row → List Line
whole_of gs r = map (spanned gs) r.entries

-- the lists hold the draft, whatever is written behind them
pub record Draws (f : Flat) (d : Draft) : Type 0 where
  pub from : f.from ≤ length f.glyphs
  pub here : drop f.from f.glyphs ≡ d.here
  pub bare : f.bare ≡ is_nil d.here
  pub lines : (x : List Glyph) → map (spanned (f.glyphs ++ x)) f.lines ≡ d.lines
  pub full : f.full ≡ length (trim d.lines)
  pub begun : is_some f.acc.info ≡ d.begun
  pub info : (i : Info) → f.acc.info ≡ Some i → i ≡ d.info
  pub row : (x : List Glyph) → whole_of (f.glyphs ++ x) f.acc.row ≡ padded d.row
  pub entries : f.acc.entries ≡ min 65535 (length d.row)
  pub rows : (x : List Glyph) → map (whole_of (f.glyphs ++ x)) f.rows ≡ map padded d.rows
  pub blocks : (x : List Glyph) (y : List Span) (z : List Row) → map (piece_of (f.glyphs ++ x) (f.old ++ y) (f.gone ++ z)) f.blocks ≡ settled d.pieces

pub draws_put : (f : Flat) (d : Draft) (g : Glyph) → Draws f d → Draws (flat f (put g)) (draw d (put g))
draws_put f d g k =
    let more : (x : List Glyph) → (f.glyphs ++ (g ∷ [])) ++ x ≡ f.glyphs ++ (g ∷ x) = λ x. append_assoc f.glyphs (g ∷ []) x in
    record {
      from = omega (arith, k.from, length_push f.glyphs g);
      here = drop-append-le f.from f.glyphs (g ∷ []) k.from ∙ ap (λ l. l ++ (g ∷ [])) k.here;
      bare = is_nil-push d.here g;
      lines = λ x. ap (λ l. map (spanned l) f.lines) (more x) ∙ k.lines (g ∷ x);
      full = k.full;
      begun = k.begun;
      info = k.info;
      row = λ x. ap (λ l. whole_of l f.acc.row) (more x) ∙ k.row (g ∷ x);
      entries = k.entries;
      rows = λ x. ap (λ l. map (whole_of l) f.rows) (more x) ∙ k.rows (g ∷ x);
      blocks = λ x y z. ap (λ l. map (piece_of l (f.old ++ y) (f.gone ++ z)) f.blocks) (more x) ∙ k.blocks (g ∷ x) y z;
    }

-- the open line as a record of it reads
line_read : (gs x : List Glyph) (a : ℕ) → a ≤ length gs → spanned (gs ++ x) (span a (length gs)) ≡ drop a gs
line_read gs x a h = ap (take (length gs - a)) (drop-append-le a gs x h) ∙ take_at (drop a gs) x (length gs - a) (length-drop a gs)

full_step : (b : Bool) (u n : ℕ) (ls : List Line) (h : Line) → b ≡ is_nil h → u ≡ length (trim ls) → n ≡ length ls → cond b u (n + 1) ≡ length (trim (ls ++ (h ∷ [])))
full_step b u n ls [] e p q = rw (e, p) (ap length (sym (trim_end ls [])))
full_step b u n ls (g ∷ gs) e p q = rw (e, q) (sym (ap length (trim_end ls (g ∷ gs)) ∙ length_push ls (g ∷ gs)))

count_lines : (f : Flat) (d : Draft) → Draws f d → length f.lines ≡ length d.lines
count_lines f d k = sym (length-map f.lines (spanned (f.glyphs ++ []))) ∙ ap length (k.lines [])

pub draws_lined : (f : Flat) (d : Draft) → Draws f d → Draws (flined f) (draw d end_line)
draws_lined f d k =
    let s = span f.from (length f.glyphs) in
    let here = drop_all (length f.glyphs) f.glyphs (omega arith) in
    let lines : (x : List Glyph) → map (spanned (f.glyphs ++ x)) (f.lines ++ (s ∷ [])) ≡ d.lines ++ (d.here ∷ []) = λ x.
    map_push (spanned (f.glyphs ++ x)) f.lines s ∙ (ap (λ l. l ++ (spanned (f.glyphs ++ x) s ∷ [])) (k.lines x) ∙ ap (λ l. d.lines ++ (l ∷ [])) (line_read f.glyphs x f.from k.from ∙ k.here)) in
    let full = full_step f.bare f.full (length f.lines) d.lines d.here k.bare k.full (count_lines f d k) in
    search rules

abbrev pub stretched : Draft → Draft
stretched d = draft (d.pieces ++ (text d.lines ∷ [])) [] d.here d.begun d.info d.rows d.row

abbrev with_blocks : Flat → List Block → Flat
with_blocks f bs = record { glyphs = f.glyphs; from = f.from; bare = f.bare; old = f.old ++ f.lines; lines = []; full = 0; gone = f.gone; rows = f.rows; acc = f.acc; blocks = bs }

draws_with : (f : Flat) (d : Draft) (bs : List Block) → Draws f d →
    ((x : List Glyph) (y : List Span) (z : List Row) → map (piece_of (f.glyphs ++ x) ((f.old ++ f.lines) ++ y) (f.gone ++ z)) bs ≡ settled d.pieces ++ (texts (trim d.lines) ++ [])) → Draws (with_blocks f bs) (stretched d)
draws_with f d bs k e =
    let blocks : (x : List Glyph) (y : List Span) (z : List Row) → map (piece_of (f.glyphs ++ x) ((f.old ++ f.lines) ++ y) (f.gone ++ z)) bs ≡ settled (d.pieces ++ (text d.lines ∷ [])) = λ x y z. e x y z ∙ sym (settled-append d.pieces (text d.lines ∷ [])) in
    search rules

old_blocks : (f : Flat) (d : Draft) → Draws f d → (x : List Glyph) (y : List Span) (z : List Row) → map (piece_of (f.glyphs ++ x) ((f.old ++ f.lines) ++ y) (f.gone ++ z)) f.blocks ≡ settled d.pieces
old_blocks f d k x y z = ap (λ l. map (piece_of (f.glyphs ++ x) l (f.gone ++ z)) f.blocks) (append_assoc f.old f.lines y) ∙ k.blocks x (f.lines ++ y) z

text_read : (f : Flat) (d : Draft) → Draws f d → (x : List Glyph) (y : List Span) →
    map (spanned (f.glyphs ++ x)) (take f.full (drop (length f.old) ((f.old ++ f.lines) ++ y))) ≡ trim d.lines
text_read f d k x y =
    let le : f.full ≤ length f.lines = omega (arith, k.full, trim_le d.lines, count_lines f d k) in
    let F = spanned (f.glyphs ++ x) in
    ap (λ l. map F (take f.full (drop (length f.old) l))) (append_assoc f.old f.lines y)
    ∙ (ap (λ l. map F (take f.full l)) (drop_at f.old (f.lines ++ y) (length f.old) refl)
    ∙ (ap (map F) (take-append-le f.full f.lines y le)
    ∙ (sym (take-map F f.full f.lines)
    ∙ (ap (take f.full) (k.lines x) ∙ (ap (λ n. take n d.lines) k.full ∙ trim-take d.lines)))))

texts_full : (ls : List Line) → 0 < length ls → text ls ∷ [] ≡ texts ls ++ []
texts_full [] h = absurd (omega arith)
texts_full (l ∷ ls) h = refl

texts-none : (ls : List Line) → length ls ≤ 0 → [] ≡ texts ls ++ []
texts-none [] h = refl
texts-none (l ∷ ls) h = absurd (omega arith)

flush_by : (b : Bool) (f : Flat) (d : Draft) → ltb 0 f.full ≡ b → Draws f d → Draws (ffresh (cond b (fadded f (Text (place (length f.old) f.full))) f)) (stretched d)
flush_by true f d e k =
    let h : 0 < length (trim d.lines) = grind (arith, nat_tests, k.full) in
    let t = Text (place (length f.old) f.full) in
    draws_with f d (f.blocks ++ (t ∷ [])) k
    (λ x y z. map_push (piece_of (f.glyphs ++ x) ((f.old ++ f.lines) ++ y) (f.gone ++ z)) f.blocks t
    ∙ (ap (λ l. l ++ (piece_of (f.glyphs ++ x) ((f.old ++ f.lines) ++ y) (f.gone ++ z) t ∷ [])) (old_blocks f d k x y z)
    ∙ (ap (λ l. settled d.pieces ++ (text l ∷ [])) (text_read f d k x y) ∙ ap (λ l. settled d.pieces ++ l) (texts_full (trim d.lines) h))))
flush_by false f d e k =
    let h : length (trim d.lines) ≤ 0 = grind (arith, nat_tests, k.full) in
    draws_with f d f.blocks k
    (λ x y z. old_blocks f d k x y z ∙ (sym (append-nil (settled d.pieces)) ∙ ap (λ l. settled d.pieces ++ l) (texts-none (trim d.lines) h)))

pub draws_flush : (f : Flat) (d : Draft) → Draws f d → Draws (fflushed f) (flush d)
draws_flush f d k = flush_by (ltb 0 (flined f).full) (flined f) (draw d end_line) refl (draws_lined f d k)

draws_begun : (f : Flat) (d : Draft) (i : Info) → Draws f d → Draws (fbegun f i) (draft d.pieces d.lines d.here true i ([] ∷ []) [])
draws_begun f d i k =
    let blocks : (x : List Glyph) (y : List Span) (z : List Row) → map (piece_of (f.glyphs ++ x) (f.old ++ y) ((f.gone ++ f.rows) ++ z)) f.blocks ≡ settled d.pieces = λ x y z. ap (λ l. map (piece_of (f.glyphs ++ x) (f.old ++ y) l) f.blocks) (append_assoc f.gone f.rows z) ∙ k.blocks x y (f.rows ++ z) in
    search rules

pub draws_begin : (f : Flat) (d : Draft) (i : Info) → Draws f d → Draws (flat f (begin_table i)) (draw d (begin_table i))
draws_begin f d i k = draws_begun (fflushed f) (flush d) i (draws_flush f d k)

pub draws_head : (f : Flat) (d : Draft) → Draws f d → Draws (flat f end_head) (draw d end_head)
draws_head f d k =
    let rows : (x : List Glyph) → map (whole_of (f.glyphs ++ x)) (set f.rows 0 f.acc.row) ≡ map padded (set d.rows 0 d.row) = λ x.
    map-set (whole_of (f.glyphs ++ x)) f.rows 0 f.acc.row ∙ (ap (λ l. set l 0 (whole_of (f.glyphs ++ x) f.acc.row)) (k.rows x) ∙ (ap (set (map padded d.rows) 0) (k.row x) ∙ sym (map-set padded d.rows 0 d.row))) in
    search rules

pub draws_row : (f : Flat) (d : Draft) → Draws f d → Draws (flat f end_row) (draw d end_row)
draws_row f d k =
    let rows : (x : List Glyph) → map (whole_of (f.glyphs ++ x)) (f.rows ++ (f.acc.row ∷ [])) ≡ map padded (d.rows ++ (d.row ∷ [])) = λ x.
    map_push (whole_of (f.glyphs ++ x)) f.rows f.acc.row ∙ (ap (λ l. l ++ (whole_of (f.glyphs ++ x) f.acc.row ∷ [])) (k.rows x) ∙ (ap (λ l. map padded d.rows ++ (l ∷ [])) (k.row x) ∙ sym (map_push padded d.rows d.row))) in
    search rules

-- an entry set behind those that came
set-padded : (k j : ℕ) (D : List Line) (h : Line) → k ≤ j → set (take k (D ++ replicate j [])) (length D) h ≡ take k ((D ++ (h ∷ [])) ++ replicate j [])
set-padded zero j [] h e = refl
set-padded (suc k) zero [] h e = absurd (omega arith)
set-padded (suc k) (suc j) [] h e = ap (λ l. h ∷ l) (take-replicate k j [] (omega arith) ∙ sym (take-replicate k (suc j) [] (omega arith)))
set-padded zero j (d ∷ D) h e = refl
set-padded (suc k) j (d ∷ D) h e = ap (λ l. d ∷ l) (set-padded k j D h (omega arith))

padded-push : (D : List Line) (h : Line) (n : ℕ) → n ≡ min 65535 (length D) → set (padded D) n h ≡ padded (D ++ (h ∷ []))
padded-push D h n e =
    elim (leb_tells (length D) 65535) [
      | inl p ↦ (let q : n ≡ length D = omega (arith, p.1) in ap (λ i. set (padded D) i h) q ∙ set-padded 32 32 D h (omega arith))
      | inr p ↦ (let m : length (padded D) ≤ 32 = omega (arith, length-take 32 (D ++ replicate 32 [])) in
          set_past (padded D) n h (omega (arith, p.1)) ∙ (sym (set_past (padded D) (length D) h (omega (arith, p.1))) ∙ set-padded 32 32 D h (omega arith)))
    ]

pub draws_entry : (f : Flat) (d : Draft) → Draws f d → Draws (flat f end_entry) (draw d end_entry)
draws_entry f d k =
    let s = span f.from (length f.glyphs) in
    let r = f.acc.row in
    let n = f.acc.entries in
    let here = drop_all (length f.glyphs) f.glyphs (omega arith) in
    let row : (x : List Glyph) → map (spanned (f.glyphs ++ x)) (set r.entries n s) ≡ padded (d.row ++ (d.here ∷ [])) = λ x.
    map-set (spanned (f.glyphs ++ x)) r.entries n s
    ∙ (ap (λ l. set l n (spanned (f.glyphs ++ x) s)) (k.row x)
    ∙ (ap (set (padded d.row) n) (line_read f.glyphs x f.from k.from ∙ k.here)
    ∙ padded-push d.row d.here n k.entries)) in
    let entries = up-min n (length d.row) k.entries ∙ ap (min 65535) (sym (length_push d.row d.here)) in
    search rules

table_read : (f : Flat) (d : Draft) (n : ℕ) → Draws f d → (x : List Glyph) (z : List Row) →
    map (entries_of (f.glyphs ++ x) n) (take (length f.rows) (drop (length f.gone) ((f.gone ++ f.rows) ++ z))) ≡ map (resized n) d.rows
table_read f d n k x z =
    let F = entries_of (f.glyphs ++ x) n in
    ap (λ l. map F (take (length f.rows) (drop (length f.gone) l))) (append_assoc f.gone f.rows z)
    ∙ (ap (λ l. map F (take (length f.rows) l)) (drop_at f.gone (f.rows ++ z) (length f.gone) refl)
    ∙ (ap (map F) (take_at f.rows z (length f.rows) refl)
    ∙ (sym (map-map (take n) (whole_of (f.glyphs ++ x)) f.rows) ∙ (ap (map (take n)) (k.rows x) ∙ map-map (take n) padded d.rows))))

draws_closed : (f : Flat) (d : Draft) (i : Info) → i ≡ d.info → Draws f d → Draws (fended (Some i) f) (draft (d.pieces ++ (table d.info (map (resized d.info.columns) d.rows) ∷ [])) d.lines d.here false d.info [] d.row)
draws_closed f d i e k =
    let t = Table i (place (length f.gone) (length f.rows)) in
    let p = table d.info (map (resized d.info.columns) d.rows) in
    let blocks : (x : List Glyph) (y : List Span) (z : List Row) → map (piece_of (f.glyphs ++ x) (f.old ++ y) ((f.gone ++ f.rows) ++ z)) (f.blocks ++ (t ∷ [])) ≡ settled (d.pieces ++ (p ∷ [])) = λ x y z.
    map_push (piece_of (f.glyphs ++ x) (f.old ++ y) ((f.gone ++ f.rows) ++ z)) f.blocks t
    ∙ (ap (λ l. l ++ (piece_of (f.glyphs ++ x) (f.old ++ y) ((f.gone ++ f.rows) ++ z) t ∷ []))
    (ap (λ l. map (piece_of (f.glyphs ++ x) (f.old ++ y) l) f.blocks) (append_assoc f.gone f.rows z) ∙ k.blocks x y (f.rows ++ z))
    ∙ (ap (λ (j : Info). settled d.pieces ++ (table j (map (entries_of (f.glyphs ++ x) j.columns) (take (length f.rows) (drop (length f.gone) ((f.gone ++ f.rows) ++ z)))) ∷ [])) e
    ∙ (ap (λ l. settled d.pieces ++ (table d.info l ∷ [])) (table_read f d d.info.columns k x z)
    ∙ sym (settled-append d.pieces (p ∷ []))))) in
    search rules

draws_ended : (o : Option Info) (c : Bool) (f : Flat) (d : Draft) → f.acc.info ≡ o → is_some o ≡ c → Draws f d →
    Draws (fended o f) (cond c (draft (d.pieces ++ (table d.info (map (resized d.info.columns) d.rows) ∷ [])) d.lines d.here false d.info [] d.row) d)
draws_ended None false f d q e k = k
draws_ended None true f d q e k = absurd (cc)
draws_ended (Some i) false f d q e k = absurd (cc)
draws_ended (Some i) true f d q e k = draws_closed f d i (k.info i q) k

pub draws_table : (f : Flat) (d : Draft) → Draws f d → Draws (flat f end_table) (draw d end_table)
draws_table f d k = draws_ended f.acc.info d.begun f d refl k.begun k
