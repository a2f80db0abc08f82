-- Values of a layout's leaves.
use Rattle.std.proofs.Common.{ℕ, suc, zero, ◌<◌, List, [], ◌∷◌, length, map, set, arith}
use Rattle.std.specs.List.{All}
use Rattle.std.proofs.lemmas.List.{length-set}
use Rattle.st_tree.specs.declared.leaf.Leaf.{Leaf}
use Rattle.st_values.specs.declared.value.Value.{Value}
use Rattle.st_leaves.specs.Sound.{IsValueOf}
use Rattle.st_layout.specs.Layout.{IsValueAt}
use Rattle.st_memory.specs.Memory.{AreValues, Content, Fits, value_at, with_value}

-- the value of a leaf is one of its type
pub value_fits : (leaves : List Leaf) (values : List Value) (i : ℕ) → AreValues leaves values → i < length leaves → IsValueAt leaves i (value_at values i)
value_fits [] [] i fit below = absurd (omega (arith, below))
value_fits [] (value ∷ values) i fit below = absurd fit
value_fits (leaf ∷ leaves) [] i fit below = absurd fit
value_fits (leaf ∷ leaves) (value ∷ values) zero fit below = fit.0
value_fits (leaf ∷ leaves) (value ∷ values) (suc i) fit below = value_fits leaves values i fit.1 (omega (arith, below))

-- the values still fit after one is replaced by another of the leaf's type
pub set_values_fit : (leaves : List Leaf) (values : List Value) (i : ℕ) (value : Value) → AreValues leaves values → IsValueAt leaves i value → AreValues leaves (set values i value)
set_values_fit [] [] i value fit one = fit
set_values_fit [] (old ∷ values) i value fit one = absurd fit
set_values_fit (leaf ∷ leaves) [] i value fit one = absurd fit
set_values_fit (leaf ∷ leaves) (old ∷ values) zero value fit one = (one, fit.1)
set_values_fit (leaf ∷ leaves) (old ∷ values) (suc i) value fit one = (fit.0, set_values_fit leaves values i value fit.1 one)

pub with_value_fits : (leaves : List Leaf) (content : Content) (i : ℕ) (value : Value) → Fits leaves content → IsValueAt leaves i value → Fits leaves (with_value content i value)
with_value_fits leaves content i value fit one = record {
  types = set_values_fit leaves content.values i value fit.types one;
  values = omega (arith, fit.values, length-set content.values i value);
  forced = fit.forced;
}

-- each leaf's initial value
pub initial_values_fit : (leaves : List Leaf) → All (λ leaf. IsValueOf leaf leaf.initial) leaves → AreValues leaves (map (λ leaf. leaf.initial) leaves)
initial_values_fit [] each = tt
initial_values_fit (leaf ∷ leaves) each = (each 0 leaf (omega arith), initial_values_fit leaves (λ i d below. each (suc i) d (omega (arith, below))))
