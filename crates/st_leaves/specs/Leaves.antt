-- The leaves of a variable: the parts of it that hold one value each (2.3.3, 2.4.1, 2.5.2).
use Rattle.std.specs.Prelude.{ℕ, zero, suc, ℤ, pos, ◌-ℤ◌, List, [], ◌∷◌, ◌++◌, map, length, codes, Option, Some, None, if◌then◌else◌}
use Rattle.std.specs.List.{flat_map}
use Rattle.std.specs.Fmt.{signed_decimal}
use Rattle.st_tree.specs.declared.tree.constant.SignedInteger.{SignedInteger}
use Rattle.st_tree.specs.declared.tree.declaration.DeclaredType.TheVariants as declared_types
use Rattle.st_tree.specs.declared.tree.declaration.Subrange.{Subrange}
use Rattle.st_tree.specs.Kinds.{is_constant}
use Rattle.st_tree.specs.Literals.{number_of}
use Rattle.st_types.specs.Names.{Declared, Declares, Named, chart_in, members_of, unit_at, variables_in}
use Rattle.st_types.specs.Names as names
use Rattle.st_types.specs.Standard.{kept_by, pins_of}
use Rattle.st_types.specs.Types.{Elements, elements_in, shape_of}
use Rattle.st_types.specs.declared.base.Base.{Base}
use Rattle.st_types.specs.declared.base.Base.TheVariants as bases
use Rattle.st_types.specs.declared.standard.StandardBlock.{StandardBlock}
use Rattle.st_leaves.specs.Subscripts.{numbers, values_from}
use Rattle.st_leaves.specs.declared.subrange.Number.{Number}
use Rattle.st_leaves.specs.Charts.{LeafBelow, below, chart_leaves, kept_under, named, stored_of}

-- ---- the elements of an array

-- the number that is written, as subscripts are counted
abbrev pub number_written : SignedInteger → Number
number_written written = record { is_negative = written.is_negative; magnitude = written.magnitude }

-- all numbers from the lower bound to the upper one
abbrev pub numbers_in : Subrange → List ℤ
numbers_in r = numbers (values_from (number_of r.upper -ℤ number_of r.lower)) (number_of r.lower)

-- a number before the texts of further subscripts
abbrev pub subscript_text : ℤ → List ℕ → List ℕ
subscript_text i [] = signed_decimal i
subscript_text i rest = signed_decimal i ++ codes "," ++ rest

-- the text of each choice of subscripts, the last of which changes fastest
abbrev pub choices : List Subrange → List (List ℕ)
choices [] = [] ∷ []
choices (r ∷ rs) = flat_map (λ i. map (subscript_text i) (choices rs)) (numbers_in r)

-- the leaves of each element
abbrev pub array_leaves : List Subrange → List LeafBelow → List LeafBelow
array_leaves ranges leaves = flat_map (λ text. below (codes "[" ++ text ++ codes "]") leaves) (choices ranges)

-- ---- standard function blocks (2.5.2.3)

abbrev pub standard_leaves : StandardBlock → List LeafBelow
standard_leaves b = map (λ p. named p.name p.elem) (pins_of b) ++ map (λ k. kept_under k.name k.elem) (kept_by b)

-- ---- variables: `inside` gives the leaves of what has a type

abbrev pub elements_leaves : (Base → List LeafBelow) → Option Elements → List LeafBelow
elements_leaves inside None = []
elements_leaves inside (Some elements) = array_leaves elements.subscripts (inside elements.element)

abbrev pub shape_leaves : (Base → List LeafBelow) → Option (List Subrange) → Base → List LeafBelow
shape_leaves inside None base = inside base
shape_leaves inside (Some ranges) base = array_leaves ranges (inside base)

module _ (units : List Named) where
  -- A constant has no leaves.
  abbrev pub declared_leaves : (Base → List LeafBelow) → Declared → List LeafBelow
  declared_leaves inside v =
      if is_constant v.kind then [] else
      below (codes "." ++ v.name.spelling) (shape_leaves inside (shape_of units v.specification).subscripts (shape_of units v.specification).base)

  -- of a structure its members, of an instance and a program the variables and then the chart
  abbrev pub unit_leaves : (Base → List LeafBelow) → Declares → List LeafBelow
  unit_leaves inside (names.type (declared_types.Structure position members)) = flat_map (declared_leaves inside) (members_of members)
  unit_leaves inside unit = flat_map (declared_leaves inside) (variables_in unit) ++ chart_leaves (stored_of unit) (chart_in unit)

  abbrev pub optional_leaves : (Base → List LeafBelow) → Option Named → List LeafBelow
  optional_leaves inside None = []
  optional_leaves inside (Some unit) = unit_leaves inside unit.declares

  -- of what has this type, through at most so many units
  unfoldable pub leaves_within : ℕ → Base → List LeafBelow
  leaves_within zero base = []
  leaves_within (suc more) bases.Unknown = []
  leaves_within (suc more) (bases.Elementary e) = record { path = []; elem = e } ∷ []
  leaves_within (suc more) (bases.Array i) = elements_leaves (leaves_within more) (elements_in units (bases.Array i))
  leaves_within (suc more) (bases.Structure i) = optional_leaves (leaves_within more) (unit_at units i)
  leaves_within (suc more) (bases.Block i) = optional_leaves (leaves_within more) (unit_at units i)
  leaves_within (suc more) (bases.Standard b) = standard_leaves b

  -- the leaves of a unit's variables, each with its path behind the unit's name
  unfoldable pub leaves_of : Declares → List LeafBelow
  leaves_of unit = unit_leaves (leaves_within (suc (length units))) unit
