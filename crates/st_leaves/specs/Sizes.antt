-- Leaves below a part of a variable, and how large a list of them is.
use Rattle.std.specs.Prelude.{◌≡◌, ℕ, ◌+◌, List, [], ◌∷◌, map, length, max, min}
use Rattle.std.specs.List.{flat_map}
use Rattle.st_leaves.specs.declared.limited.Choices.{Choices}
use Rattle.st_leaves.specs.declared.limited.Size.{Size}

-- a leaf below some part: how many bytes the rest of its path has, and how many its value takes
pub record LeafSize : Type 0 where
  pub path : ℕ
  pub bytes : ℕ

abbrev pub leaf : ℕ → ℕ → LeafSize
leaf path bytes = record { path = path; bytes = bytes }

-- below a part of so many bytes
abbrev pub below : ℕ → List LeafSize → List LeafSize
below n leaves = map (λ l. leaf (n + l.path) l.bytes) leaves

-- one copy below each of these parts, as an array has them
abbrev pub copies : List ℕ → List LeafSize → List LeafSize
copies texts leaves = flat_map (λ n. below n leaves) texts

-- each of these texts before each of those
abbrev pub pairs : List ℕ → List ℕ → List ℕ
pairs texts more = flat_map (λ n. map (λ m. n + m) more) texts

abbrev pub total_bytes : List LeafSize → ℕ
total_bytes [] = 0
total_bytes (l ∷ ls) = l.bytes + total_bytes ls

abbrev pub largest : List ℕ → ℕ
largest [] = 0
largest (n ∷ ns) = max n (largest ns)

abbrev pub longest_path : List LeafSize → ℕ
longest_path leaves = largest (map (λ l. l.path) leaves)

-- the counts of a list, each up to 1,000,000
pub record IsSize (size : Size) (xs : List LeafSize) : Type 0 where
  pub leaves : size.leaves ≡ min (length xs) 1000000
  pub bytes : size.bytes ≡ min (total_bytes xs) 1000000
  pub longest : size.longest ≡ min (longest_path xs) 1000000

-- the same of texts
pub record AreChoices (choices : Choices) (texts : List ℕ) : Type 0 where
  pub count : choices.count ≡ min (length texts) 1000000
  pub longest : choices.longest ≡ min (largest texts) 1000000
