-- The way along the parts of a variable.
use Rattle.std.specs.Prelude.{ℕ, pos, ◌+◌, ◌≡◌, ◌≤◌, ◌<◌, if◌then◌else◌, Bool, true, false, ◌&&◌, ◌||◌, not, List, [], ◌∷◌, ◌++◌, drop, get_or, take, length, Option}
use Rattle.st_values.specs.declared.elem.Elem.{Elem}
use Rattle.st_tree.specs.declared.tree.expression.Part.{Part}
use Rattle.st_types.specs.Compositions.{Composition}
use Rattle.st_leaves.specs.Places.{count}
use Rattle.st_leaves.specs.Selected.{element_of, selected_by, subscripts_of}
use Rattle.st_meaning.specs.Offsets.{IsSmall}
use Rattle.st_meaning.specs.Sound.{is_fixed, types_in}
use Rattle.st_meaning.specs.Terms.{Parts, whole, field_part, element_part}
use Rattle.st_meaning.specs.Typing.{part_typed}
use Rattle.st_meaning.specs.Wholes.{Whole, type_of}
use Rattle.st_code.specs.Code.{Line, added, at, base_of, index_code, plain, terms_code}
use Rattle.st_code.specs.declared.instr.Instr.{Instr}
use Rattle.st_emit_expressions.specs.Emits.{terms_in}
use Rattle.st_emit_expressions.specs.Trees.{parts_in}
use Rattle.st_tree.specs.declared.tree.expression.Expression.{Expression}
use Rattle.st_code.specs.declared.instr.Instr.TheVariants.{Index, IndexBelow, Push}
use Rattle.st_places.specs.Parts.{IsNodeOf, TablesView, part_in}
use Rattle.st_emit_expressions.specs.declared.places.Stop.{Stop}
use Rattle.st_emit_expressions.specs.declared.places.Taken.{Taken}
use Rattle.st_places.specs.declared.node.Dimension.{Dimension}

-- what the first of some parts selects
abbrev pub behind_part : Composition → Parts → Composition
behind_part c whole = c
behind_part c (field_part name ps) = selected_by c name
behind_part c (element_part line ts ps) = element_of c

-- what all parts select
abbrev pub behind_parts : Whole → Composition → List Part → Composition
behind_parts w c [] = c
behind_parts w c (p ∷ ps) = behind_parts w (behind_part c (part_typed w p whole)) ps

-- subscripts stand before what the first of some parts selects
abbrev pub indexed_by : Bool → Parts → Bool
indexed_by before whole = before
indexed_by before (field_part name ps) = before
indexed_by before (element_part line ts ps) = true

-- subscripts stand among some parts, or before them
abbrev pub is_indexed : Whole → Bool → List Part → Bool
is_indexed w before [] = before
is_indexed w before (p ∷ ps) = is_indexed w (indexed_by before (part_typed w p whole)) ps

-- what one part selects
pub record IsTaken (w : Whole) (tables : TablesView) (c : Composition) (p : Part) (t : Taken) : Type 0 where
  pub node : IsNodeOf tables t.node
  pub small : IsSmall (part_in tables t.node)
  pub part : part_in tables t.node ≡ behind_part c (part_typed w p whole)
  pub type : (rest : Parts) → type_of c (part_typed w p rest) ≡ type_of (part_in tables t.node) rest
  pub base : (rest : Parts) → base_of c (part_typed w p rest) ≡ t.before + base_of (part_in tables t.node) rest
  pub fixed : (rest : Parts) → is_fixed (part_typed w p rest) ≡ (t.is_member && is_fixed rest)
  pub indexed : (before : Bool) → indexed_by before (part_typed w p whole) ≡ (before || not t.is_member)
  pub fits : t.before + count (part_in tables t.node) ≤ count c

-- the part that stands before the further ones, and what its place has as a type
pub record IsStop (w : Whole) (tables : TablesView) (type : Option Elem) (c : Composition) (front back : List Part) (s : Stop) : Type 0 where
  pub node : IsNodeOf tables s.node
  pub small : IsSmall (part_in tables s.node)
  pub part : part_in tables s.node ≡ behind_parts w c front
  pub indexed : s.is_indexed ≡ is_indexed w false front
  pub same : type_of (part_in tables s.node) (parts_in w back) ≡ type

-- the parts that stand before each of these
pub record AreStops (w : Whole) (tables : TablesView) (type : Option Elem) (c : Composition) (ps : List Part) (all : List Stop) : Type 0 where
  pub number : length all ≡ length ps
  pub each : (i : ℕ) (s : Stop) → i < length ps → s ≡ get_or all i s → IsStop w tables type c (take i ps) (drop i ps) s

abbrev pub dimension_code : Elem → Dimension → Bool → Instr
dimension_code e d is_last = if is_last then Index e d.last d.stride d.low else IndexBelow e d.last d.stride d.low

abbrev pub is_none : List Dimension → Bool
is_none [] = true
is_none (d ∷ ds) = false

-- the code of subscripts of these types, with the last one first
abbrev pub each_dimension : ℕ → List Elem → List Dimension → List Line
each_dimension line (e ∷ es) (d ∷ ds) = each_dimension line es ds ++ at line (dimension_code e d (is_none ds))
each_dimension line _ _ = []

-- without subscripts the distance is 0
abbrev pub dimensions_code : ℕ → List Elem → List Dimension → List Line
dimensions_code line es [] = plain (Push (pos 0))
dimensions_code line es ds = each_dimension line es ds

-- the code of subscripts of a part
abbrev pub element_code : Whole → Bool → ℕ → List Expression → Composition → List Line
element_code w more line xs c =
    terms_code w.variables (terms_in w xs) ++ (index_code line (count (element_of c)) (types_in w.variables (terms_in w xs)) (subscripts_of c) ++ added more)
