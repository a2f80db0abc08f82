-- What the variables of a unit consist of: what is declared in it, and its chart.
use Rattle.std.proofs.Common.{◌≡◌, ℕ, List, [], refl, ap}
use Rattle.st_tree.specs.declared.tree.declaration.DeclaredType.TheVariants as declared_types
use Rattle.st_types.specs.Compositions.{composed, members_by}
use Rattle.st_types.specs.Names.{Declares, Named, chart_in}
use Rattle.st_types.specs.Names as names
use Rattle.st_meaning.specs.Steps.{chart_within}
use Rattle.st_meaning.specs.Units.{root_name, unit_root}
use Rattle.st_meaning.proofs.BegunFunctions.{functions_declare_their_results}
use Rattle.st_places.specs.Laws.{ChartsAreInBodies}
use Rattle.st_places.specs.Parts.{inside, own_names}

-- whatever the unit is named as
pub root_is : (units : List Named) (name : List ℕ) (d : Declares) → unit_root units name d ≡ composed name (members_by units (inside units) (own_names d)) (chart_in d)
root_is units name (names.type (declared_types.Derived specification initial)) = refl
root_is units name (names.type (declared_types.Structure position members)) = refl
root_is units name (names.function f) = ap (λ ms. composed name ms []) (functions_declare_their_results units f)
root_is units name (names.block b) = refl
root_is units name (names.program p) = refl

pub charts_are_in_bodies : ChartsAreInBodies
charts_are_in_bodies units u = ap chart_within (root_is units (root_name u.name.spelling u.declares) u.declares)
