-- What variables consist of (2.3.3, 2.4.1, 2.5.2): types without the names of types. Arrays aren't unfolded: all elements of one
-- consist of the same.
use Rattle.std.specs.Char.{to_ascii_uppercase}
use Rattle.std.specs.Prelude.{ℕ, zero, suc, Bool, true, false, List, [], ◌∷◌, map, codes, length, Option, Some, None, if◌then◌else◌}
use Rattle.st_values.specs.declared.value.Value.{Value}
use Rattle.st_tree.specs.declared.tree.constant.Constant.{Constant}
use Rattle.st_tree.specs.declared.tree.declaration.DeclaredType.TheVariants as declared_types
use Rattle.st_tree.specs.declared.tree.declaration.Initial.{Initial}
use Rattle.st_tree.specs.declared.tree.declaration.Initial.TheVariants as initials
use Rattle.st_tree.specs.declared.tree.declaration.Subrange.{Subrange}
use Rattle.st_tree.specs.declared.tree.declaration.VarKind.{VarKind}
use Rattle.st_tree.specs.declared.tree.declaration.VarKind.TheVariants as var_kinds
use Rattle.st_tree.specs.declared.tree.unit.ChartElement.{ChartElement}
use Rattle.st_tree.specs.Kinds.{is_constant}
use Rattle.st_types.specs.Initials.{element_initial, first_values, initial_of, unit_element_initial, value_written, zero_of}
use Rattle.st_types.specs.Names.{Declared, Declares, Named, chart_in, members_of, unit_at, variables_in}
use Rattle.st_types.specs.Names as names
use Rattle.st_types.specs.Types.{Elements, elements_in, shape_of}
use Rattle.st_types.specs.declared.base.Base.{Base}
use Rattle.st_types.specs.declared.base.Base.TheVariants as bases
use Rattle.st_types.specs.declared.standard.StandardBlock.{StandardBlock}

mutual
  pub data Composition : Type 0 where
    -- what can't be known
    unknown : Composition
    -- one value, and the one that it begins with
    elementary : Value → Composition
    -- the subscripts, with which values the first elements begin, where such are written, and one element
    array : List Subrange → List (Option Constant) → Composition → Composition
    -- a structure, an instance or a program: the name of its type in upper case, what is declared in it but constants, and its chart
    composed : List ℕ → Members → List ChartElement → Composition
    standard : StandardBlock → Composition

  -- each with its name as it is declared, and what it is for
  pub data Members : Type 0 where
    none : Members
    member : List ℕ → VarKind → Composition → Members → Members

-- what begins with a value that is written
abbrev pub started : Option Initial → Composition → Composition
started (Some (initials.Constant c)) (elementary v) = elementary (value_written v.elem c)
started (Some (initials.Array position items)) (array ranges firsts c) = array ranges (first_values items) c
started _ c = c

-- ---- `inside` gives what each type consists of

abbrev pub subscripted : Option (List Subrange) → Composition → Composition
subscripted None c = c
subscripted (Some ranges) c = array ranges [] c

-- an array type, whose elements begin with this where it is written
abbrev pub elements_composition : (Base → Composition) → Option Initial → Option Elements → Composition
elements_composition inside initial None = unknown
elements_composition inside initial (Some elements) = array elements.subscripts [] (started initial (inside elements.element))

module _ (units : List Named) where
  -- what a declaration says, without a value that it writes itself
  abbrev pub specified_composition : (Base → Composition) → Declared → Composition
  specified_composition inside v =
      subscripted (shape_of units v.specification).subscripts (started (element_initial units v.specification) (inside (shape_of units v.specification).base))

  abbrev pub declared_composition : (Base → Composition) → Declared → Composition
  declared_composition inside v = started (initial_of units v) (specified_composition inside v)

  -- what is declared but constants, in order
  abbrev pub members_by : (Base → Composition) → List Declared → Members
  members_by inside [] = none
  members_by inside (v ∷ vs) =
      if is_constant v.kind then members_by inside vs else member v.name.spelling v.kind (declared_composition inside v) (members_by inside vs)

  -- of a unit whose instances are named so
  abbrev pub unit_composition : (Base → Composition) → List ℕ → Declares → Composition
  unit_composition inside name (names.type (declared_types.Structure position members)) = composed name (members_by inside (members_of members)) []
  unit_composition inside name unit = composed name (members_by inside (variables_in unit)) (chart_in unit)

  abbrev pub optional_composition : (Base → Composition) → Option Named → Composition
  optional_composition inside None = unknown
  optional_composition inside (Some unit) = unit_composition inside (map to_ascii_uppercase unit.name.spelling) unit.declares

  -- what has this type, through at most so many units
  unfoldable pub composition_within : ℕ → Base → Composition
  composition_within zero base = unknown
  composition_within (suc more) bases.Unknown = unknown
  composition_within (suc more) (bases.Elementary e) = elementary (zero_of e)
  composition_within (suc more) (bases.Array i) = elements_composition (composition_within more) (unit_element_initial units (unit_at units i)) (elements_in units (bases.Array i))
  composition_within (suc more) (bases.Structure i) = optional_composition (composition_within more) (unit_at units i)
  composition_within (suc more) (bases.Block i) = optional_composition (composition_within more) (unit_at units i)
  composition_within (suc more) (bases.Standard b) = standard b

  -- what a program's variables consist of
  unfoldable pub composition_of : Declares → Composition
  composition_of unit = unit_composition (composition_within (suc (length units))) (codes "PROGRAM") unit
