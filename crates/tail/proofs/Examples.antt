-- The worked examples, by evaluation.
use Rattle.std.proofs.Common.{◌≡◌, [], ◌∷◌, ◌++◌, codes, refl}
use lib.Utf8.{encode}
use Rattle.std.specs.Str.{chars, is_utf8}
use Rattle.tail.specs.Cook.{cooked, valid_length}
use Rattle.tail.specs.Entries.{cell_count}

header : cooked (codes "|a") ≡ codes "|a" ++ (10 ∷ codes "|---|")
unfolding chars encode
header = refl

second : cooked (codes "|a|b" ++ (10 ∷ codes "|---|:")) ≡ codes "|a|b" ++ (10 ∷ codes "|---|---|")
unfolding chars encode
second = refl

escaped : cell_count (124 ∷ 97 ∷ 92 ∷ 92 ∷ 124 ∷ []) ≡ 1
escaped = refl

valid : valid_length (97 ∷ 195 ∷ []) ≡ 1
unfolding chars encode is_utf8
valid = refl
