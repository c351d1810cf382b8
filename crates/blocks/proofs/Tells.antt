-- The order of the lines and rows that are written.
use Rattle.std.proofs.Common.{◌≡◌, ℕ, zero, suc, ◌≤◌, Bool, true, false, cond, ltb, List, [], ◌∷◌, ◌++◌, map, length, take, Option, Some, None, sym, refl, ap, ◌∙◌, subst, arith}
use Rattle.std.specs.List.{AllZip}
use Rattle.std.specs.Option.{is_some}
use Rattle.std.proofs.lemmas.List.{append_assoc, append-nil, length-append, length-map, map-append, nil_from_length}
use Rattle.glyphs.specs.declared.Glyph.{Glyph}
use Rattle.records.specs.declared.kinds.Row.{Row}
use Rattle.records.specs.declared.kinds.Info.{Info}
use Rattle.records.specs.declared.kinds.Block.{Block}
use Rattle.records.specs.declared.kinds.Block.TheVariants.{Text}
use Rattle.records.specs.Acts.{Act, put, end_line, begin_table, end_entry, end_head, end_row, end_table}
use Rattle.records.specs.Memory.{spanned}
use Rattle.blocks.specs.Pieces.{Line, Piece, text, table, padded, resized}
use Rattle.blocks.specs.Drafts.{Draft, draft, flush, draw}
use Rattle.blocks.specs.Fronts.{lines_over, rows_over, SaysRow}
use Rattle.blocks.proofs.Flats.{Flat, place, flat, flined, fadded, ffresh, fflushed, fbegun, fended}
use Rattle.blocks.proofs.Draws.{Draws, whole_of, stretched, draws_lined}

-- the lines of the finished stretches, and the rows of the tables unless some are in none
pub record Tells (f : Flat) (d : Draft) : Type 0 where
  pub old : (x : List Glyph) → map (spanned (f.glyphs ++ x)) f.old ≡ lines_over d.pieces
  pub few : length (rows_over d.pieces) ≤ length f.gone
  pub gone : length f.gone ≤ length (rows_over d.pieces) → (x : List Glyph) → AllZip (SaysRow (f.glyphs ++ x)) f.gone (rows_over d.pieces)

-- one more stretch, and one more table
lines_over-text : (ps : List Piece) (ls : List Line) → lines_over (ps ++ (text ls ∷ [])) ≡ lines_over ps ++ ls
lines_over-text [] ls = append-nil ls
lines_over-text (text xs ∷ ps) ls = ap (λ l. xs ++ l) (lines_over-text ps ls) ∙ sym (append_assoc xs (lines_over ps) ls)
lines_over-text (table i rs ∷ ps) ls = lines_over-text ps ls

lines_over-table : (ps : List Piece) (i : Info) (rs : List (List Line)) → lines_over (ps ++ (table i rs ∷ [])) ≡ lines_over ps
lines_over-table [] i rs = refl
lines_over-table (text xs ∷ ps) i rs = ap (λ l. xs ++ l) (lines_over-table ps i rs)
lines_over-table (table j ts ∷ ps) i rs = lines_over-table ps i rs

rows_over-text : (ps : List Piece) (ls : List Line) → rows_over (ps ++ (text ls ∷ [])) ≡ rows_over ps
rows_over-text [] ls = refl
rows_over-text (text xs ∷ ps) ls = rows_over-text ps ls
rows_over-text (table j ts ∷ ps) ls = ap (λ l. ts ++ l) (rows_over-text ps ls)

rows_over-table : (ps : List Piece) (i : Info) (rs : List (List Line)) → rows_over (ps ++ (table i rs ∷ [])) ≡ rows_over ps ++ rs
rows_over-table [] i rs = append-nil rs
rows_over-table (text xs ∷ ps) i rs = rows_over-table ps i rs
rows_over-table (table j ts ∷ ps) i rs = ap (λ l. ts ++ l) (rows_over-table ps i rs) ∙ sym (append_assoc ts (rows_over ps) rs)

-- two lists behind two others
zip_append : {A B : Type 0} (R : A → B → Type 0) (xs us : List A) (ys vs : List B) → AllZip R xs ys → AllZip R us vs → AllZip R (xs ++ us) (ys ++ vs)
zip_append R [] us [] vs a b = b
zip_append R [] us (y ∷ ys) vs a b = absurd a
zip_append R (x ∷ xs) us [] vs a b = absurd a
zip_append R (x ∷ xs) us (y ∷ ys) vs a b = (a.0, zip_append R xs us ys vs a.1 b)

-- the front of a list, cut by its own length
take_own : {X : Type 0} (n : ℕ) (xs : List X) → take (length (take n xs)) xs ≡ take n xs
take_own zero xs = refl
take_own (suc n) [] = refl
take_own (suc n) (x ∷ xs) = ap (λ l. x ∷ l) (take_own n xs)

-- whole rows say rows of n columns
says_rows : (gs : List Glyph) (n : ℕ) (rs : List Row) (ds : List (List Line)) → map (whole_of gs) rs ≡ map padded ds → AllZip (SaysRow gs) rs (map (resized n) ds)
says_rows gs n [] [] e = tt
says_rows gs n [] (d ∷ ds) e = absurd (cc)
says_rows gs n (r ∷ rs) [] e = absurd (cc)
says_rows gs n (r ∷ rs) (d ∷ ds) e =
    let h : whole_of gs r ≡ padded d = cc in
    let t : map (whole_of gs) rs ≡ map padded ds = cc in
    (ap (take (length (resized n d))) h ∙ take_own n (padded d), says_rows gs n rs ds t)

tells_put : (f : Flat) (d : Draft) (g : Glyph) → Tells f d → Tells (flat f (put g)) (draw d (put g))
tells_put f d g k =
    let more : (x : List Glyph) → (f.glyphs ++ (g ∷ [])) ++ x ≡ f.glyphs ++ (g ∷ x) = λ x. append_assoc f.glyphs (g ∷ []) x in
    record {
      old = λ x. ap (λ l. map (spanned l) f.old) (more x) ∙ k.old (g ∷ x);
      few = k.few;
      gone = λ h x. subst (λ l. AllZip (SaysRow l) f.gone (rows_over d.pieces)) (sym (more x)) (k.gone h (g ∷ x));
    }

tells_lined : (f : Flat) (d : Draft) → Tells f d → Tells (flined f) (draw d end_line)
tells_lined f d k = record { old = k.old; few = k.few; gone = k.gone }

tells_stretched : (f : Flat) (d : Draft) → Draws f d → Tells f d → Tells (ffresh f) (stretched d)
tells_stretched f d w k =
    let e = rows_over-text d.pieces d.lines in
    record {
      old = λ x.
          map-append (spanned (f.glyphs ++ x)) f.old f.lines
          ∙ (ap (λ l. l ++ map (spanned (f.glyphs ++ x)) f.lines) (k.old x)
          ∙ (ap (λ l. lines_over d.pieces ++ l) (w.lines x) ∙ sym (lines_over-text d.pieces d.lines)));
      few = subst (λ l. length l ≤ length f.gone) (sym e) k.few;
      gone = subst (λ l. length f.gone ≤ length l → (x : List Glyph) → AllZip (SaysRow (f.glyphs ++ x)) f.gone l) (sym e) k.gone;
    }

tells_by : (b : Bool) (f : Flat) (d : Draft) (t : Block) → Draws f d → Tells f d → Tells (ffresh (cond b (fadded f t) f)) (stretched d)
tells_by true f d t w k = let s = tells_stretched f d w k in record { old = s.old; few = s.few; gone = s.gone }
tells_by false f d t w k = tells_stretched f d w k

pub tells_flush : (f : Flat) (d : Draft) → Draws f d → Tells f d → Tells (fflushed f) (flush d)
tells_flush f d w k =
    tells_by (ltb 0 (flined f).full) (flined f) (draw d end_line) (Text (place (length f.old) (flined f).full)) (draws_lined f d w) (tells_lined f d k)

-- rows that came in no table: there are none if there are as many as the tables have
no_rows : (g r : List Row) (n : ℕ) → n ≤ length g → length (g ++ r) ≤ n → r ≡ []
no_rows g r n h l = nil_from_length r (omega (arith, length-append g r))

pub only_gone : (f : Flat) (d : Draft) → Tells f d → length (f.gone ++ f.rows) ≤ length (rows_over d.pieces) → (x : List Glyph) → AllZip (SaysRow (f.glyphs ++ x)) (f.gone ++ f.rows) (rows_over d.pieces)
only_gone f d k h x =
    let R = SaysRow (f.glyphs ++ x) in
    let e : f.gone ++ f.rows ≡ f.gone = ap (λ l. f.gone ++ l) (no_rows f.gone f.rows (length (rows_over d.pieces)) k.few h) ∙ append-nil f.gone in
    subst (λ l. AllZip R l (rows_over d.pieces)) (sym e) (k.gone (subst (λ l. length l ≤ length (rows_over d.pieces)) e h) x)

tells_begun : (f : Flat) (d : Draft) (i : Info) → Tells f d → Tells (fbegun f i) (draft d.pieces d.lines d.here true i ([] ∷ []) [])
tells_begun f d i k = record { old = k.old; few = omega (arith, length-append f.gone f.rows, k.few); gone = only_gone f d k }

tells_closed : (f : Flat) (d : Draft) (i : Info) → Draws f d → Tells f d → Tells (fended (Some i) f) (draft (d.pieces ++ (table d.info (map (resized d.info.columns) d.rows) ∷ [])) d.lines d.here false d.info [] d.row)
tells_closed f d i w k =
    let n = d.info.columns in
    let rs = map (resized n) d.rows in
    let e = rows_over-table d.pieces d.info rs in
    let many : length f.rows ≡ length rs = sym (length-map f.rows (whole_of (f.glyphs ++ []))) ∙ (ap length (w.rows []) ∙ (length-map d.rows padded ∙ sym (length-map d.rows (resized n)))) in
    let l = length-append f.gone f.rows in
    let o = length-append (rows_over d.pieces) rs in
    record {
      old = λ x. k.old x ∙ sym (lines_over-table d.pieces d.info rs);
      few = omega (arith, ap length e, l, o, many, k.few);
      gone = λ h x. subst (AllZip (SaysRow (f.glyphs ++ x)) (f.gone ++ f.rows)) (sym e)
          (zip_append (SaysRow (f.glyphs ++ x)) f.gone f.rows (rows_over d.pieces) rs
          (k.gone (omega (arith, ap length e, l, o, many, h)) x) (says_rows (f.glyphs ++ x) n f.rows d.rows (w.rows x)));
    }

tells_ended : (o : Option Info) (c : Bool) (f : Flat) (d : Draft) → is_some o ≡ c → Draws f d → Tells f d →
    Tells (fended o f) (cond c (draft (d.pieces ++ (table d.info (map (resized d.info.columns) d.rows) ∷ [])) d.lines d.here false d.info [] d.row) d)
tells_ended None false f d e w k = k
tells_ended None true f d e w k = absurd (cc)
tells_ended (Some i) false f d e w k = absurd (cc)
tells_ended (Some i) true f d e w k = tells_closed f d i w k

pub tells_act : (f : Flat) (d : Draft) (a : Act) → Draws f d → Tells f d → Tells (flat f a) (draw d a)
tells_act f d (put g) w k = tells_put f d g k
tells_act f d end_line w k = tells_lined f d k
tells_act f d (begin_table i) w k = tells_begun (fflushed f) (flush d) i (tells_flush f d w k)
tells_act f d end_entry w k = record { old = k.old; few = k.few; gone = k.gone }
tells_act f d end_head w k = record { old = k.old; few = k.few; gone = k.gone }
tells_act f d end_row w k = record { old = k.old; few = k.few; gone = k.gone }
tells_act f d end_table w k = tells_ended f.acc.info d.begun f d w.begun w k
