-- Text of white space.
use Rattle.std.specs.Prelude.{ℕ, Bool, true, ◌&&◌, List, [], ◌∷◌}
use Rattle.std.specs.Char.{is_whitespace}
use Rattle.std.specs.Str.{chars}
use Rattle.clusters.specs.Texts.{is_text}

-- Whether all code points are white space.
abbrev pub all_white : List ℕ → Bool
all_white [] = true
all_white (c ∷ cs) = is_whitespace c && all_white cs

-- Whether bytes are text of white space alone.
abbrev pub is_blank : List ℕ → Bool
is_blank bs = is_text bs && all_white (chars bs)
