use Rattle.std.proofs.Common.{◌≡◌, ℕ, zero, suc, ◌+◌, ◌≤◌, Bool, true, false, cond, List, [], ◌∷◌, ◌++◌, map, length, take, set, replicate, fold, refl, ap, ◌∙◌, arith, rules}
use Rattle.std.specs.List.{AllByRecursion as All}
use Rattle.std.proofs.lemmas.List.{length_push, length-append, length-map, length-replicate, length-take-le}
use Rattle.records.specs.declared.kinds.Info.{Info}
use Rattle.records.specs.Acts.{Act, put, end_line, begin_table, end_entry, end_head, end_row, end_table}
use Rattle.blocks.specs.Pieces.{Line, Piece, text, table, keep, trim, texts, settled, resized}
use Rattle.blocks.specs.Drafts.{Draft, draft, draw, drawn}
use Rattle.blocks.specs.Needs.{Needs, tally}
use Rattle.blocks.proofs.Trims.{trim_le}
use Rattle.blocks.proofs.Counts.{one}
use Rattle.laws.specs.Accounts.{glyphs_in, glyphs_over, weigh, account, Even, Solid}

pub glyphs_in-push : (ls : List Line) (l : Line) → glyphs_in (ls ++ (l ∷ [])) ≡ glyphs_in ls + length l
glyphs_in-push [] l = omega arith
glyphs_in-push (x ∷ ls) l = omega (arith, glyphs_in-push ls l)

glyphs_over-push : (rs : List (List Line)) (r : List Line) → glyphs_over (rs ++ (r ∷ [])) ≡ glyphs_over rs + glyphs_in r
glyphs_over-push [] r = omega arith
glyphs_over-push (x ∷ rs) r = omega (arith, glyphs_over-push rs r)

-- one more block
pub record Pushed (ps : List Piece) (p : Piece) : Type 0 where
  pub glyphs : (account (ps ++ (p ∷ []))).glyphs ≡ (account ps).glyphs + (weigh p).glyphs
  pub lines : (account (ps ++ (p ∷ []))).lines ≡ (account ps).lines + (weigh p).lines
  pub rows : (account (ps ++ (p ∷ []))).rows ≡ (account ps).rows + (weigh p).rows
  pub tables : (account (ps ++ (p ∷ []))).tables ≡ (account ps).tables + (weigh p).tables

pub account-push : (ps : List Piece) (p : Piece) → Pushed ps p
account-push [] p = search rules
account-push (q ∷ ps) p = let k = account-push ps p in search rules

pub all_push : {X : Type 0} (P : X → Type 0) (xs : List X) (x : X) → All P xs → P x → All P (xs ++ (x ∷ []))
all_push P [] x a h = (h, tt)
all_push P (y ∷ ys) x a h = (a.0, all_push P ys x a.1 h)

-- rows that are made even keep their glyphs
blanks : (k j : ℕ) (x : Line) → length x ≡ 0 → glyphs_in (take k (replicate j x)) ≡ 0
blanks zero j x e = refl
blanks (suc k) zero x e = refl
blanks (suc k) (suc j) x e = omega (arith, blanks k j x e)

padding : (r : List Line) (k j : ℕ) → length r ≤ k → glyphs_in (take k (r ++ replicate j [])) ≡ glyphs_in r
padding [] k j h = blanks k j [] refl
padding (l ∷ r) zero j h = absurd (omega arith)
padding (l ∷ r) (suc k) j h = ap (λ n. length l + n) (padding r k j (omega arith))

take_less : {X : Type 0} (n m : ℕ) (xs : List X) → n ≤ m → take n (take m xs) ≡ take n xs
take_less zero m xs h = refl
take_less (suc n) zero xs h = absurd (omega arith)
take_less (suc n) (suc m) [] h = refl
take_less (suc n) (suc m) (x ∷ xs) h = ap (λ l. x ∷ l) (take_less n m xs (omega arith))

resized_glyphs : (n : ℕ) (r : List Line) → length r ≤ n → n ≤ 32 → glyphs_in (resized n r) ≡ glyphs_in r
resized_glyphs n r h k = ap glyphs_in (take_less n 32 (r ++ replicate 32 []) k) ∙ padding r n 32 h

resized-length : (n : ℕ) (r : List Line) → n ≤ 32 → length (resized n r) ≡ n
resized-length n r k =
    let none : Line = [] in
    ap length (take_less n 32 (r ++ replicate 32 []) k)
    ∙ length-take-le n (r ++ replicate 32 []) (omega (arith, length-append r (replicate 32 []), length-replicate 32 none))

rows_glyphs : (n : ℕ) (rs : List (List Line)) → All (λ r. length r ≤ n) rs → n ≤ 32 → glyphs_over (map (resized n) rs) ≡ glyphs_over rs
rows_glyphs n [] a k = refl
rows_glyphs n (r ∷ rs) a k = omega (arith, resized_glyphs n r a.0 k, rows_glyphs n rs a.1 k)

rows-even : (n : ℕ) (rs : List (List Line)) → n ≤ 32 → All (λ r. length r ≡ n) (map (resized n) rs)
rows-even n [] k = tt
rows-even n (r ∷ rs) k = (resized-length n r k, rows-even n rs k)

-- what is counted is what stands in the draft
pub record Books (n : Needs) (d : Draft) : Type 0 where
  pub glyphs : n.glyphs ≡ (account d.pieces).glyphs + glyphs_in d.lines + length d.here + glyphs_over d.rows + glyphs_in d.row
  pub lines : n.lines ≡ (account d.pieces).lines + length d.lines
  pub rows : n.rows ≡ (account d.pieces).rows + length d.rows
  pub tables : n.tables ≡ (account d.pieces).tables + one d.begun
  pub even : All Even d.pieces

-- where an act loses nothing
abbrev pub Safe : Draft → Act → Type 0
Safe d (put g) = Unit {0}
Safe d end_line = Unit {0}
Safe d (begin_table i) = (d.begun ≡ false) × (d.rows ≡ []) × (d.row ≡ [])
Safe d end_entry = Unit {0}
Safe d end_head = d.rows ≡ [] ∷ []
Safe d end_row = Unit {0}
Safe d end_table = (d.begun ≡ true) × (1 ≤ d.info.columns) × (d.info.columns ≤ 32) × All (λ r. length r ≤ d.info.columns) d.rows

abbrev pub SafeRun : Draft → List Act → Type 0
SafeRun d [] = Unit {0}
SafeRun d (a ∷ xs) = Safe d a × SafeRun (draw d a) xs

begin_books : (n : Needs) (d : Draft) (i : Info) → Books n d → Safe d (begin_table i) → Books (tally n (begin_table i)) (draw d (begin_table i))
begin_books n d i k s =
    let p = account-push d.pieces (text (d.lines ++ (d.here ∷ []))) in
    let g = glyphs_in-push d.lines d.here in
    let l = length_push d.lines d.here in
    let b = ap one s.0 in
    let a = ap glyphs_over s.1 in
    let c = ap length s.1 in
    let w = ap glyphs_in s.2 in
    let e : All Even (d.pieces ++ (text (d.lines ++ (d.here ∷ [])) ∷ [])) = all_push Even d.pieces (text (d.lines ++ (d.here ∷ []))) k.even tt in
    search rules

closed_books : (n : Needs) (d : Draft) → Books n d → Safe d end_table → Books n (draft (d.pieces ++ (table d.info (map (resized d.info.columns) d.rows) ∷ [])) d.lines d.here false d.info [] d.row)
closed_books n d k s =
    let c = d.info.columns in
    let t = table d.info (map (resized c) d.rows) in
    let p = account-push d.pieces t in
    let g = rows_glyphs c d.rows s.3 s.2 in
    let l = length-map d.rows (resized c) in
    let b = ap one s.0 in
    let e : All Even (d.pieces ++ (t ∷ [])) = all_push Even d.pieces t k.even (s.1, s.2, rows-even c d.rows s.2) in
    search rules

books_if : (b : Bool) (n : Needs) (x d : Draft) → b ≡ true → Books n x → Books n (cond b x d)
books_if true n x d e k = k
books_if false n x d e k = absurd (cc)

books_act : (n : Needs) (d : Draft) (a : Act) → Books n d → Safe d a → Books (tally n a) (draw d a)
books_act n d (put g) k s = let h = length_push d.here g in search rules
books_act n d end_line k s = let g = glyphs_in-push d.lines d.here in let l = length_push d.lines d.here in search rules
books_act n d (begin_table i) k s = begin_books n d i k s
books_act n d end_entry k s = let g = glyphs_in-push d.row d.here in search rules
books_act n d end_head k s =
    let o = ap glyphs_over s in
    let g : glyphs_over (set d.rows 0 d.row) ≡ glyphs_in d.row + 0 = ap (λ l. glyphs_over (set l 0 d.row)) s in
    let a = ap length s in
    let l : length (set d.rows 0 d.row) ≡ 1 = ap (λ l. length (set l 0 d.row)) s in
    search rules
books_act n d end_row k s = let g = glyphs_over-push d.rows d.row in let l = length_push d.rows d.row in search rules
books_act n d end_table k s = books_if d.begun n _ d s.0 (closed_books n d k s)

pub books_run : (xs : List Act) (n : Needs) (d : Draft) → Books n d → SafeRun d xs → Books (fold tally n xs) (drawn d xs)
books_run [] n d k s = k
books_run (a ∷ xs) n d k s = books_run xs (tally n a) (draw d a) (books_act n d a k s.0) s.1

-- settling
keep_glyphs : (l : Line) (ls : List Line) → glyphs_in (keep l ls) ≡ length l + glyphs_in ls
keep_glyphs [] [] = omega arith
keep_glyphs [] (x ∷ ls) = omega arith
keep_glyphs (g ∷ gs) ls = refl

trim_glyphs : (ls : List Line) → glyphs_in (trim ls) ≡ glyphs_in ls
trim_glyphs [] = refl
trim_glyphs (l ∷ ls) = keep_glyphs l (trim ls) ∙ ap (λ n. length l + n) (trim_glyphs ls)

trim-keep : (l : Line) (t : List Line) → trim t ≡ t → trim (keep l t) ≡ keep l t
trim-keep [] [] e = refl
trim-keep [] (x ∷ xs) e = ap (keep []) e
trim-keep (g ∷ gs) t e = ap (λ r. (g ∷ gs) ∷ r) e

trim-trim : (ls : List Line) → trim (trim ls) ≡ trim ls
trim-trim [] = refl
trim-trim (l ∷ ls) = trim-keep l (trim ls) (trim-trim ls)

pub record Settles (ps qs : List Piece) : Type 0 where
  pub glyphs : (account qs).glyphs ≡ (account ps).glyphs
  pub rows : (account qs).rows ≡ (account ps).rows
  pub tables : (account qs).tables ≡ (account ps).tables
  pub lines : (account qs).lines ≤ (account ps).lines

settles_text : (ls t : List Line) (ps qs : List Piece) → glyphs_in t ≡ glyphs_in ls → length t ≤ length ls → Settles ps qs → Settles (text ls ∷ ps) (texts t ++ qs)
settles_text ls [] ps qs g l k = search rules
settles_text ls (x ∷ t) ps qs g l k = search rules

pub settles : (ps : List Piece) → Settles ps (settled ps)
settles [] = search rules
settles (text ls ∷ ps) = settles_text ls (trim ls) ps (settled ps) (trim_glyphs ls) (trim_le ls) (settles ps)
settles (table i rs ∷ ps) = let k = settles ps in search rules

solid_text : (t : List Line) (qs : List Piece) → trim t ≡ t → All Solid qs → All Solid (texts t ++ qs)
solid_text [] qs e a = a
solid_text (x ∷ t) qs e a = ((omega arith, e), a)

pub solid : (ps : List Piece) → All Solid (settled ps)
solid [] = tt
solid (text ls ∷ ps) = solid_text (trim ls) (settled ps) (trim-trim ls) (solid ps)
solid (table i rs ∷ ps) = (tt, solid ps)

even_text : (t : List Line) (qs : List Piece) → All Even qs → All Even (texts t ++ qs)
even_text [] qs a = a
even_text (x ∷ t) qs a = (tt, a)

pub even-settled : (ps : List Piece) → All Even ps → All Even (settled ps)
even-settled [] a = tt
even-settled (text ls ∷ ps) a = even_text (trim ls) (settled ps) (even-settled ps a.1)
even-settled (table i rs ∷ ps) a = (a.0, even-settled ps a.1)
