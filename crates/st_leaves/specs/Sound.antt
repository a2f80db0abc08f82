-- Lists of leaves that can be numbered and looked up by their paths.
use Rattle.std.specs.Prelude.{◌≡◌, ◌≢◌, ◌≤◌, List, length}
use Rattle.std.specs.List.{All, AllPairs}
use Rattle.st_values.specs.Values.{IsValue}
use Rattle.st_values.specs.Words.{raised}
use Rattle.st_values.specs.declared.value.Value.{Value}
use Rattle.st_tree.specs.declared.leaf.Leaf.{Leaf}

-- the value is one of the leaf's type
pub record IsValueOf (leaf : Leaf) (value : Value) : Type 0 where
  pub elem : value.elem ≡ leaf.elem
  pub in_range : IsValue value

-- What a program's leaves keep: no two have the same path, each path is its shown text in upper case and has at most 255
-- bytes, there are at most 65536 leaves, and each begins with a value of its type.
pub record IsSound (leaves : List Leaf) : Type 0 where
  pub distinct : AllPairs (λ leaf other. leaf.path ≢ other.path) leaves
  pub shown : All (λ leaf. leaf.path ≡ raised leaf.shown) leaves
  pub short : All (λ leaf. length leaf.path ≤ 255) leaves
  pub few : length leaves ≤ 65536
  pub initial : All (λ leaf. IsValueOf leaf leaf.initial) leaves
