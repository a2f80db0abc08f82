-- The chart of a unit, by its parts.
use Rattle.std.proofs.Common.{◌≡◌, ◌==◌, not, Bool, true, false, ℕ, ◌+◌, ◌<◌, List, [], ◌∷◌, ◌++◌, Some, length, take, get_or, refl, ap, ◌∙◌, arith, append-nil}
use Rattle.std.specs.List.{flat_map}
use Rattle.std.proofs.lemmas.Bool.Decides.{nat_tests}
use Rattle.std.proofs.lemmas.Grind.{flat_map-append}
use Rattle.std.proofs.lemmas.List.{take_more}
use Rattle.st_tree.specs.declared.tree.declaration.DeclaredType.TheVariants as declared_types
use Rattle.st_tree.specs.declared.tree.unit.ChartElement.{ChartElement}
use Rattle.st_tree.specs.declared.tree.unit.Step.{Step}
use Rattle.st_types.specs.Inside.{declared_by, named_by}
use Rattle.st_types.specs.Names.{Declared, Declares, Named, chart_in, steps_in, unit_at}
use Rattle.st_types.specs.Names as names
use Rattle.st_types.specs.declared.unit.NamedUnit.{NamedUnit}
use Rattle.st_scopes.specs.Declarations.{names_at, names_in}
use Rattle.st_leaves.specs.Charts.{stored_by, stored_of, variable_names}
use Rattle.st_leaves.specs.LeavesIn as leaves
use Rattle.st_chart_parts.specs.Charts.{has_any, leaves_of_parts, parts_in, parts_of}
use Rattle.st_chart_parts.proofs.Units.{names_of_unit, same_unit}

-- ---- the leaves of a chart are those of its parts

pub leaves_are : (name : List ℕ) (stored : List (List ℕ)) (elements : List ChartElement) → leaves.chart_in name stored elements ≡ leaves_of_parts name (parts_in stored elements)
leaves_are name stored [] = refl
leaves_are name stored (e ∷ es) = refl

-- ---- of a unit

-- what a unit declares, where it has a chart
stored_declared : (unit : Declares) → stored_by (variable_names (names_in unit)) (chart_in unit) ≡ stored_of unit
stored_declared (names.type (declared_types.Structure position members)) = refl
stored_declared (names.type (declared_types.Derived specification initial)) = refl
stored_declared (names.function f) = refl
stored_declared (names.block b) = refl
stored_declared (names.program p) = refl

-- the chart that is read is that of the unit
the_chart : (units : List Named) (i : ℕ) (read : NamedUnit) (u : Named) (elements : List ChartElement) → Some (named_by read) ≡ unit_at units i → unit_at units i ≡ Some u → elements ≡ chart_in (declared_by read.kind) → elements ≡ chart_in u.declares
the_chart units i read u elements read_at at elements_are = elements_are ∙ ap (λ (v : Named). chart_in v.declares) (same_unit (named_by read) u (read_at ∙ at))

pub unit_parts : (units : List Named) (i : ℕ) (read : NamedUnit) (u : Named) (vs : List Declared) (elements : List ChartElement) (is_there : Bool) (steps : List Step) (stored : List (List ℕ)) → Some (named_by read) ≡ unit_at units i
    → unit_at units i ≡ Some u → vs ≡ names_at units i → elements ≡ chart_in (declared_by read.kind) → is_there ≡ has_any elements → steps ≡ flat_map steps_in elements → stored ≡ stored_by (variable_names vs) elements
    → record { is_there = is_there; steps = steps; stored = stored } ≡ parts_of u.declares
unit_parts units i read u vs elements is_there steps stored read_at at vs_are elements_are there_is steps_are stored_are =
    let chart = the_chart units i read u elements read_at at elements_are in
    let names : stored ≡ stored_of u.declares = stored_are
    ∙ ap (λ ds. stored_by (variable_names ds) elements) (vs_are ∙ names_of_unit units i u at) ∙ ap (stored_by (variable_names (names_in u.declares))) chart ∙ stored_declared u.declares in
    ap (λ b. record { is_there = b; steps = steps; stored = stored }) there_is ∙ ap (λ ss. record { is_there = has_any elements; steps = ss; stored = stored }) steps_are
    ∙ ap (λ ns. parts_in ns elements) names ∙ ap (parts_in (stored_of u.declares)) chart

-- whether there is a chart, by how many elements it has
pub any_by_length : (elements : List ChartElement) (b : Bool) → b ≡ (length elements == 0) → not b ≡ has_any elements
any_by_length [] b is = ap not is
any_by_length (e ∷ es) true is = absurd (grind (arith, nat_tests, is))
any_by_length (e ∷ es) false is = refl
