-- The leaves by which a size is counted are those of what variables consist of.
use Rattle.std.proofs.Common.{◌≡◌, ℕ, zero, suc, Bool, true, false, if◌then◌else◌, List, [], ◌∷◌, ◌++◌, codes, length, map, Option, Some, None, refl, ap, sym, ◌∙◌, append-nil}
use Rattle.std.specs.Char.{to_ascii_uppercase}
use Rattle.std.specs.List.{flat_map}
use Rattle.st_tree.specs.declared.tree.declaration.DeclaredType.TheVariants as declared_types
use Rattle.st_tree.specs.declared.tree.declaration.Initial.{Initial}
use Rattle.st_tree.specs.declared.tree.declaration.Subrange.{Subrange}
use Rattle.st_tree.specs.declared.tree.declaration.VarKind.{VarKind}
use Rattle.st_tree.specs.declared.tree.unit.ChartElement.{ChartElement}
use Rattle.st_tree.specs.Kinds.{is_constant}
use Rattle.st_types.specs.Compositions.{Composition, composed, elements_composition, Members, member, composition_of, composition_within, declared_composition, members_by, optional_composition, started, subscripted, unit_composition}
use Rattle.st_types.specs.Initials.{element_initial, initial_of, unit_element_initial}
use Rattle.st_types.specs.Names.{Declared, Declares, Named, chart_in, members_of, unit_at, variables_in}
use Rattle.st_types.specs.Names as names
use Rattle.st_types.specs.Types.{Elements, elements_in, shape_of}
use Rattle.st_types.specs.declared.base.Base.{Base}
use Rattle.st_types.specs.declared.base.Base.TheVariants as bases
use Rattle.st_leaves.specs.Charts.{LeafBelow, below, chart_leaves, stored_by, variable_names}
use Rattle.st_leaves.specs.Compositions.{counted, LeavesAreThoseOfTheComposition}
use Rattle.st_leaves.specs.Leaves.{array_leaves, declared_leaves, elements_leaves, leaves_of, leaves_within, optional_leaves, shape_leaves, unit_leaves}
use Rattle.st_leaves.specs.LeavesIn.{leaves_in, member_names, members_in, within}
use Rattle.st_leaves.specs.LeavesIn as leaves
use Rattle.st_leaves.specs.Paths.{field}
use Rattle.st_leaves.proofs.Counted.{counts, counts_append, counts_array, counts_block, counts_chart, counts_started, counts_whole, counts_within}
use Rattle.st_leaves.proofs.Spellings.{variables_are_members}

abbrev composition_leaves : Composition → List LeafBelow
composition_leaves c = counts (leaves_in c)

abbrev member_leaves : List ℕ → Members → List LeafBelow
member_leaves name ms = counts (members_in name ms)

-- one more member, where it is no constant
one_more : (is_left_out : Bool) (whole name : List ℕ) (kind : VarKind) (here rest : List LeafBelow) (c : Composition) (ms : Members)
    → here ≡ composition_leaves c → rest ≡ member_leaves whole ms
    → (if is_left_out then [] else below (codes "." ++ name) here) ++ rest ≡ member_leaves whole (if is_left_out then ms else member name kind c ms)
one_more true whole name kind here rest c ms same more = more
one_more false whole name kind here rest c ms same more =
    ap (λ ls. below (codes "." ++ name) ls ++ rest) same ∙ ap (λ ls. below (codes "." ++ name) (composition_leaves c) ++ ls) more
    ∙ ap (λ ls. ls ++ member_leaves whole ms) (sym (counts_within (field name) whole (leaves_in c)))
    ∙ sym (counts_append (within (field name) whole (leaves_in c)) (members_in whole ms))

module _ (units : List Named) (f : Base → List LeafBelow) (g : Base → Composition) (same : (b : Base) → f b ≡ composition_leaves (g b)) where
  of_started : (initial : Option Initial) (base : Base) → f base ≡ composition_leaves (started initial (g base))
  of_started initial base = same base ∙ sym (counts_started initial (g base))

  of_shape : (ranges : Option (List Subrange)) (initial : Option Initial) (base : Base) → shape_leaves f ranges base ≡ composition_leaves (subscripted ranges (started initial (g base)))
  of_shape None initial base = of_started initial base
  of_shape (Some ranges) initial base = ap (array_leaves ranges) (of_started initial base) ∙ sym (counts_array ranges [] (leaves_in (started initial (g base))))

  of_elements : (initial : Option Initial) (elements : Option Elements) → elements_leaves f elements ≡ composition_leaves (elements_composition g initial elements)
  of_elements initial None = refl
  of_elements initial (Some elements) =
      ap (array_leaves elements.subscripts) (of_started initial elements.element) ∙ sym (counts_array elements.subscripts [] (leaves_in (started initial (g elements.element))))

  of_one : (v : Declared) → shape_leaves f (shape_of units v.specification).subscripts (shape_of units v.specification).base ≡ composition_leaves (declared_composition units g v)
  of_one v =
      of_shape (shape_of units v.specification).subscripts (element_initial units v.specification) (shape_of units v.specification).base
      ∙ sym (counts_started (initial_of units v) (subscripted (shape_of units v.specification).subscripts (started (element_initial units v.specification) (g (shape_of units v.specification).base))))

  of_declared : (whole : List ℕ) (vs : List Declared) → flat_map (declared_leaves units f) vs ≡ member_leaves whole (members_by units g vs)
  of_declared whole [] = refl
  of_declared whole (v ∷ vs) =
      one_more (is_constant v.kind) whole v.name.spelling v.kind (shape_leaves f (shape_of units v.specification).subscripts (shape_of units v.specification).base)
      (flat_map (declared_leaves units f) vs) (declared_composition units g v) (members_by units g vs) (of_one v) (of_declared whole vs)

  -- the variables, and then the chart
  of_variables : (whole : List ℕ) (vs : List Declared) (chart : List ChartElement)
      → flat_map (declared_leaves units f) vs ++ chart_leaves (stored_by (variable_names vs) chart) chart ≡ composition_leaves (composed whole (members_by units g vs) chart)
  of_variables whole vs chart =
      let ms = members_by units g vs in
      let stored = stored_by (member_names ms) chart in
      ap (λ names. flat_map (declared_leaves units f) vs ++ chart_leaves (stored_by names chart) chart) (variables_are_members units g vs)
      ∙ ap (λ ls. ls ++ chart_leaves stored chart) (of_declared whole vs) ∙ ap (λ ls. member_leaves whole ms ++ ls) (sym (counts_chart whole stored chart))
      ∙ sym (counts_append (members_in whole ms) (leaves.chart_in whole stored chart))

  of_unit : (whole : List ℕ) (unit : Declares) → unit_leaves units f unit ≡ composition_leaves (unit_composition units g whole unit)
  of_unit whole (names.type (declared_types.Structure position members)) =
      sym (append-nil (flat_map (declared_leaves units f) (members_of members))) ∙ of_variables whole (members_of members) []
  of_unit whole (names.type (declared_types.Derived specification initial)) = refl
  of_unit whole (names.function function) = of_variables whole (variables_in (names.function function)) (chart_in (names.function function))
  of_unit whole (names.block block) = of_variables whole (variables_in (names.block block)) (chart_in (names.block block))
  of_unit whole (names.program program) = of_variables whole (variables_in (names.program program)) (chart_in (names.program program))

  of_optional : (unit : Option Named) → optional_leaves units f unit ≡ composition_leaves (optional_composition units g unit)
  of_optional None = refl
  of_optional (Some unit) = of_unit (map to_ascii_uppercase unit.name.spelling) unit.declares

-- of what has this type, through at most so many units
pub leaves_of_bases : (units : List Named) (most : ℕ) (base : Base) → leaves_within units most base ≡ map counted (leaves_in (composition_within units most base))
unfolding leaves_within composition_within
leaves_of_bases units zero base = refl
leaves_of_bases units (suc most) bases.Unknown = refl
leaves_of_bases units (suc most) (bases.Elementary e) = refl
leaves_of_bases units (suc most) (bases.Array i) =
    of_elements units (leaves_within units most) (composition_within units most) (leaves_of_bases units most) (unit_element_initial units (unit_at units i)) (elements_in units (bases.Array i))
leaves_of_bases units (suc most) (bases.Structure i) = of_optional units (leaves_within units most) (composition_within units most) (leaves_of_bases units most) (unit_at units i)
leaves_of_bases units (suc most) (bases.Block i) = of_optional units (leaves_within units most) (composition_within units most) (leaves_of_bases units most) (unit_at units i)
leaves_of_bases units (suc most) (bases.Standard b) = sym (counts_block b)

pub leaves_are_those_of_the_composition : LeavesAreThoseOfTheComposition
unfolding leaves_of composition_of
leaves_are_those_of_the_composition units unit =
    of_unit units (leaves_within units (suc (length units))) (composition_within units (suc (length units))) (leaves_of_bases units (suc (length units))) (codes "PROGRAM") unit
    ∙ sym (counts_whole (unit_composition units (composition_within units (suc (length units))) (codes "PROGRAM") unit))
