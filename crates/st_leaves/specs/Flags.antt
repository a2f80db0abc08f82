-- The flags of steps, and the leaves that say whether their charts have begun (2.6.2).
use Rattle.std.specs.Prelude.{◌≡◌, ℕ, ◌≤◌, ◌<◌, ◌-◌, Bool, true, false, List, [], ◌∷◌, ◌++◌, codes, get_or, length}
use Rattle.std.specs.List.{AllByRecursion}
use Rattle.st_values.specs.Words.{raised}
use Rattle.st_values.specs.declared.elem.Elem.TheVariants as elems
use Rattle.st_types.specs.Compositions.{Composition}
use Rattle.st_values.specs.Values.{truth}
use Rattle.st_leaves.specs.LeavesIn.{LeafIn, Use, active, begun, input, leaves_of_whole, plain}
use Rattle.st_leaves.specs.Paths.{Path, field, kept, path_text}

abbrev pub no_leaf_in : LeafIn
no_leaf_in = record { path = []; spine = []; initial = truth false; use' = plain }

abbrev pub leaf_in_at : List LeafIn → ℕ → LeafIn
leaf_in_at leaves i = get_or leaves i no_leaf_in

-- the first says whether the chart has begun of which the second is the flag of a step
pub record IsFlagOf (chart flag : LeafIn) : Type 0 where
  pub front : Path
  pub spine : List (List ℕ)
  pub whole : List ℕ
  pub step : List ℕ
  pub flag_path : flag.path ≡ front ++ (field step ∷ field (codes "X") ∷ [])
  pub flag_spine : flag.spine ≡ spine ++ (whole ∷ codes "step" ∷ [])
  pub chart_path : chart.path ≡ front ++ (kept (codes "CHART") ∷ [])
  pub chart_spine : chart.spine ≡ spine ++ (whole ∷ [])
  pub chart_use : chart.use' ≡ begun
  pub chart_type : chart.initial.elem ≡ elems.Bool

-- the chart stands so many leaves before
pub record HasChart (leaves : List LeafIn) (i back : ℕ) : Type 0 where
  pub behind : back ≤ i
  pub flag : IsFlagOf (leaf_in_at leaves (i - back)) (leaf_in_at leaves i)

-- each flag of a step has its chart
abbrev pub HaveCharts : List LeafIn → Type 0
HaveCharts leaves = (i back : ℕ) → i < length leaves → (leaf_in_at leaves i).use' ≡ active back → HasChart leaves i back

abbrev pub WholesHaveCharts : Type 0
WholesHaveCharts = (c : Composition) → HaveCharts (leaves_of_whole c)

-- ---- which leaves are flags

-- the last byte of a text
abbrev pub last_of : List ℕ → ℕ
last_of [] = 0
last_of (b ∷ []) = b
last_of (b ∷ c ∷ bs) = last_of (c ∷ bs)

-- an operator may write the leaf
abbrev pub is_open_use : Use → Bool
is_open_use plain = true
is_open_use input = true
is_open_use _ = false

-- of the leaves that no operator may write, the one whose path ends with `X` in upper case is the flag of a step
pub record IsTold (l : LeafIn) : Type 0 where
  pub begins : is_open_use l.use' ≡ false → 0 < length (path_text l.path)
  pub flag : is_open_use l.use' ≡ false → last_of (raised (path_text l.path)) ≡ 88 → (back : ℕ) × (l.use' ≡ active back)

abbrev pub WholesTellFlags : Type 0
WholesTellFlags = (c : Composition) → AllByRecursion IsTold (leaves_of_whole c)
