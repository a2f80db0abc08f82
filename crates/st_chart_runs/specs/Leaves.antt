-- Values of leaves that stand together.
use Rattle.std.specs.Prelude.{ℕ, ◌+◌, ◌<◌, List, length}
use Rattle.st_values.specs.declared.value.Value.{Value}
use Rattle.st_tree.specs.declared.leaf.Leaf.{Leaf}
use Rattle.st_layout.specs.Layout.{IsValueAt}
use Rattle.st_memory.specs.Memory.{value_at}

-- values of the types of the leaves that stand from this one on
abbrev pub FitFrom : List Leaf → ℕ → List Value → Type 0
FitFrom leaves leaf cells = (i : ℕ) → i < length cells → IsValueAt leaves (leaf + i) (value_at cells i)
