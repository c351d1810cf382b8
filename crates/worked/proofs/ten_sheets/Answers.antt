use Rattle.std.specs.Prelude.{refl}
use Rattle.std.specs.Char.{encode_utf8}
use Rattle.std.specs.Str.{chars, is_utf8}
use Rattle.worked.proofs.ten_sheets.Goals as goal

pub returns : goal.returns
unfolding chars is_utf8 encode_utf8
returns c = record {
  level = λ b old. refl;
  rightmost = λ b old. refl;
  fitting = (λ b old. refl, λ b old. refl);
  narrowest = (λ b old. refl, (refl, refl));
  high = (refl, refl);
  drawn = (refl, refl);
  long_word = (refl, refl);
  spaces = (refl, refl);
  header = refl;
  delimiter_row = refl;
  backslashes = refl;
}
