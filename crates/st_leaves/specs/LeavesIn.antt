-- The leaves of what variables consist of (2.3.3, 2.4.1, 2.5.2, 2.6): the parts that hold one value each, in order.
use Rattle.std.specs.Prelude.{ℕ, ◌+◌, ℤ, pos, Bool, false, List, [], ◌∷◌, ◌++◌, map, drop, length, codes, Option, Some, None, if◌then◌else◌}
use Rattle.std.specs.List.{flat_map, list_any}
use Rattle.st_values.specs.declared.elem.Elem.{Elem}
use Rattle.st_values.specs.declared.elem.Elem.TheVariants as elems
use Rattle.st_values.specs.declared.value.Value.{Value}
use Rattle.st_values.specs.Values.{truth}
use Rattle.st_tree.specs.declared.tree.constant.Constant.{Constant}
use Rattle.st_tree.specs.declared.tree.declaration.Subrange.{Subrange}
use Rattle.st_tree.specs.declared.tree.declaration.VarKind.{VarKind}
use Rattle.st_tree.specs.declared.tree.declaration.VarKind.TheVariants as var_kinds
use Rattle.st_tree.specs.declared.tree.unit.ChartElement.{ChartElement}
use Rattle.st_tree.specs.declared.tree.unit.Step.{Step}
use Rattle.st_types.specs.Compositions.{Composition, unknown, elementary, array, composed, standard, Members, none, member}
use Rattle.st_types.specs.Initials.{value_written, zero_of}
use Rattle.st_types.specs.Names.{steps_in}
use Rattle.st_types.specs.Standard.{Kept, Pin, block_name, kept_by, pins_of}
use Rattle.st_types.specs.declared.standard.StandardBlock.{StandardBlock}
use Rattle.st_leaves.specs.Charts.{is_pulse, stored_by}
use Rattle.st_leaves.specs.Leaves.{numbers_in}
use Rattle.st_leaves.specs.Paths.{Path, Selector, field, index, kept}

-- what a leaf is for
pub data Use : Type 0 where
  -- a variable
  plain : Use
  -- a variable of the program that a scan may set from outside (VAR_INPUT)
  input : Use
  -- what a block, a step or an action keeps for itself
  hidden : Use
  -- whether a chart has begun
  begun : Use
  -- whether a step is active; the leaf that says whether its chart has begun stands so many leaves before
  active : ℕ → Use
  -- for how long a step has been active
  elapsed : Use
  -- whether a step has given its pulses; the leaves that say whether it is active and whether its chart has begun stand so many leaves before
  pulsed : ℕ → ℕ → Use

-- a leaf, seen from a whole that it is a part of
pub record LeafIn : Type 0 where
  -- the way to it
  pub path : Path
  -- what each front of the path is, the empty one first: the name of a type, `array`, `step`, `action`
  pub spine : List (List ℕ)
  -- the value that it begins with
  pub initial : Value
  pub use' : Use

-- the leaves of a part, seen from the whole
abbrev pub within : Selector → List ℕ → List LeafIn → List LeafIn
within s name leaves = map (λ l. record { path = s ∷ l.path; spine = name ∷ l.spine; initial = l.initial; use' = l.use' }) leaves

-- one leaf of a whole of this name
abbrev pub one : Selector → List ℕ → Value → Use → List LeafIn
one s name value use' = record { path = s ∷ []; spine = name ∷ []; initial = value; use' = use' } ∷ []

-- ---- arrays (2.4.1.1)

-- the lists of subscripts, the last of which changes fastest
abbrev pub subscript_lists : List Subrange → List (List ℤ)
subscript_lists [] = [] ∷ []
subscript_lists (r ∷ rs) = flat_map (λ i. map (λ is. i ∷ is) (subscript_lists rs)) (numbers_in r)

-- the leaves of an element begin with a value where one is written
abbrev pub starting : Option Constant → List LeafIn → List LeafIn
starting None leaves = leaves
starting (Some c) leaves = map (λ l. record { path = l.path; spine = l.spine; initial = value_written l.initial.elem c; use' = l.use' }) leaves

abbrev pub first_written : List (Option Constant) → Option Constant
first_written [] = None
first_written (c ∷ cs) = c

-- one element after the other, the first of which begin with these values
abbrev pub elements_in : List (List ℤ) → List (Option Constant) → List LeafIn → List LeafIn
elements_in [] firsts leaves = []
elements_in (is ∷ others) firsts leaves = within (index is) (codes "array") (starting (first_written firsts) leaves) ++ elements_in others (drop 1 firsts) leaves

-- ---- standard function blocks (2.5.2.3)

abbrev pub pin_leaf : List ℕ → Pin → List LeafIn
pin_leaf name p = one (field p.name) name (zero_of p.elem) plain

abbrev pub kept_leaf : List ℕ → Kept → List LeafIn
kept_leaf name k = one (kept k.name) name (zero_of k.elem) hidden

abbrev pub block_leaves : StandardBlock → List LeafIn
block_leaves b = flat_map (pin_leaf (block_name b)) (pins_of b) ++ flat_map (kept_leaf (block_name b)) (kept_by b)

-- ---- charts (2.6), in a unit of this name

-- whether a step is active, for how long, since when, and, where it has any, whether it has given its pulses
abbrev pub state_in : ℕ → Bool → Bool → List LeafIn
state_in back is_initial has_pulse =
    one (field (codes "X")) (codes "step") (truth is_initial) (active back)
    ++ one (field (codes "T")) (codes "step") (zero_of elems.Time) elapsed
    ++ one (kept (codes "M")) (codes "step") (zero_of elems.Time) hidden
    ++ (if has_pulse then one (kept (codes "P")) (codes "step") (truth false) (pulsed 3 (back + 3)) else [])

-- of a step, whose first leaf stands so many leaves behind that of the chart
abbrev pub step_in : List ℕ → ℕ → Step → List LeafIn
step_in name back s = within (field s.name.spelling) name (state_in back s.is_initial (list_any is_pulse s.associations))

abbrev pub all_steps_in : List ℕ → ℕ → List Step → List LeafIn
all_steps_in name back [] = []
all_steps_in name back (s ∷ steps) = step_in name back s ++ all_steps_in name (back + length (step_in name back s)) steps

-- of a name that some association stores
abbrev pub stored_in : List ℕ → List ℕ → List LeafIn
stored_in name stored = within (field stored) name (one (kept (codes "S")) (codes "action") (truth false) hidden)

-- whether the chart has begun, then its steps in the order of the text, then the names that it stores
abbrev pub whole_chart_in : List ℕ → List (List ℕ) → List Step → List LeafIn
whole_chart_in name stored steps =
    one (kept (codes "CHART")) name (truth false) begun
    ++ all_steps_in name 1 steps
    ++ flat_map (stored_in name) stored

-- of a chart that stores these names; without elements there is none
abbrev pub chart_in : List ℕ → List (List ℕ) → List ChartElement → List LeafIn
chart_in name stored [] = []
chart_in name stored elements = whole_chart_in name stored (flat_map steps_in elements)

-- ---- what variables consist of

abbrev pub member_names : Members → List (List ℕ)
member_names none = []
member_names (member name kind c ms) = name ∷ member_names ms

abbrev mutual
  pub leaves_in : Composition → List LeafIn
  leaves_in unknown = []
  leaves_in (elementary v) = record { path = []; spine = []; initial = v; use' = plain } ∷ []
  leaves_in (array ranges firsts c) = elements_in (subscript_lists ranges) firsts (leaves_in c)
  leaves_in (composed name ms chart) = members_in name ms ++ chart_in name (stored_by (member_names ms) chart) chart
  leaves_in (standard b) = block_leaves b

  -- of the members of a whole of this name, in order
  pub members_in : List ℕ → Members → List LeafIn
  members_in name none = []
  members_in name (member field' kind c ms) = within (field field') name (leaves_in c) ++ members_in name ms

-- ---- the program

abbrev pub as_input : Use → Use
as_input plain = input
as_input use' = use'

-- what is a variable of the program under this kind
abbrev pub used_as : VarKind → List LeafIn → List LeafIn
used_as var_kinds.Input leaves = map (λ l. record { path = l.path; spine = l.spine; initial = l.initial; use' = as_input l.use' }) leaves
used_as kind leaves = leaves

abbrev pub variables_in : List ℕ → Members → List LeafIn
variables_in name none = []
variables_in name (member field' kind c ms) = within (field field') name (used_as kind (leaves_in c)) ++ variables_in name ms

-- of a program: its variables in order, and then its chart
abbrev pub leaves_of_whole : Composition → List LeafIn
leaves_of_whole (composed name ms chart) = variables_in name ms ++ chart_in name (stored_by (member_names ms) chart) chart
leaves_of_whole c = leaves_in c
