-- What a ruler means, and what the two supplied rulers mean. Their laws are proved in the crate below.
use Rattle.std.specs.Prelude.{◌≡◌, ℕ, ◌≤◌, Bool, true, List, ◌∷◌, length, drop}
use Rattle.std.specs.List.{flat_map, AllByRecursion}
use Rattle.clusters.specs.declared.Cluster.{Cluster}
use Rattle.clusters.specs.Texts.{is_text}
use Rattle.clusters.specs.Cuts.{Cut, cut_off, cut, HidesControls, byte_first, utf8_first}
use Rattle.clusters.proofs.Cutting.{cut_joins}
use Rattle.clusters.proofs.ByteLaws.{byte_onward, byte_small, byte_hides}
use Rattle.clusters.proofs.Spelling.{utf8_onward, utf8_small, utf8_hides}

-- What a ruler means.
pub record Ruling : Type 0 where
  -- whether a byte string is admitted
  pub admits : List ℕ → Bool
  -- the first cluster of what is left of a string
  pub first : List ℕ → Cluster
  -- a cluster has at least one byte, and no more than are left
  pub onward : (b : ℕ) (s : List ℕ) → (1 ≤ (first (b ∷ s)).len) × ((first (b ∷ s)).len ≤ length (b ∷ s))
  -- a cluster has at most 8 bytes and a width of at most 2
  pub small : (s : List ℕ) → ((first s).len ≤ 8) × ((first s).width ≤ 2)
  -- the clusters of an admitted string join to it
  pub joins : (s : List ℕ) → admits s ≡ true → flat_map (λ c. c.bytes) (cut first s) ≡ s
  -- a cluster of an admitted string hides its control bytes
  pub hides : (s : List ℕ) → admits s ≡ true → AllByRecursion HidesControls (cut first s)

-- The cluster of a string that begins at a place.
abbrev pub cut_at : Ruling → List ℕ → ℕ → Cut
cut_at m s at = cut_off (m.first (drop at s)) (drop at s)

-- The byte ruler admits all; each byte is a cluster.
abbrev pub byte_ruling : Ruling
byte_ruling = record {
  admits = λ _. true;
  first = byte_first;
  onward = byte_onward;
  small = byte_small;
  joins = λ s _. cut_joins byte_first byte_onward s;
  hides = λ s _. byte_hides s;
}

-- The UTF-8 ruler admits text; a cluster is a code point with its marks.
abbrev pub utf8_ruling : Ruling
utf8_ruling = record {
  admits = is_text;
  first = utf8_first;
  onward = utf8_onward;
  small = utf8_small;
  joins = λ s _. cut_joins utf8_first utf8_onward s;
  hides = utf8_hides;
}
