-- Values of leaves that stand together, stored one after the other.
use Rattle.std.proofs.Common.{◌≡◌, ℕ, zero, suc, ◌+◌, ◌<◌, Bool, List, [], ◌∷◌, length, get_or, drop, Some, refl, arith}
use Rattle.st_values.specs.declared.value.Value.{Value}
use Rattle.st_meaning.specs.Meaning.{Values, stored_to}
use Rattle.st_chart_runs.proofs.Stretches.{written}

cut_at : (cells : Values) (k : ℕ) (d : Value) → k < length cells → drop k cells ≡ get_or cells k d ∷ drop (suc k) cells
cut_at [] k d below = absurd (omega (arith, below))
cut_at (v ∷ cells) zero d below = refl
cut_at (v ∷ cells) (suc k) d below = cut_at cells k d (omega (arith, below))

-- one of the values is stored, and then those behind it
pub stored_before : (marks marks' : List Bool) (values values' : Values) (leaf next : ℕ) (cells : Values) (k : ℕ) (d : Value) → k < length cells → next ≡ leaf + 1
    → marks' ≡ marks → values' ≡ stored_to marks values (get_or cells k d) (Some leaf)
    → written marks' values' next (drop (suc k) cells) ≡ written marks values leaf (drop k cells)
stored_before marks marks' values values' leaf next cells k d below e same is = rw (e, same, is, cut_at cells k d below) refl
