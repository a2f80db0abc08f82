-- The names of each unit of a text without faults are apart.
use Rattle.std.proofs.Common.{◌≡◌, ℕ, zero, suc, List, [], ◌∷◌, ◌++◌, Some, subst}
use Rattle.std.specs.List.{AllByRecursion as Each, flat_map}
use Rattle.st_tree.specs.declared.tree.declaration.DeclaredType.TheVariants as declared_types
use Rattle.st_tree.specs.declared.tree.position.Identifier.{Identifier}
use Rattle.st_tree.specs.declared.tree.unit.Pou.{Pou}
use Rattle.st_faults.specs.declared.fault.Fault.{Fault}
use Rattle.st_types.specs.Names.{Declares, Named, chart_of, unit_at}
use Rattle.st_types.specs.Names as names
use Rattle.st_types.specs.Scopes.{Scope, scope_of}
use Rattle.st_check_units.specs.Declarations.{block_faults, declaration_faults, declared_names}
use Rattle.st_check_units.specs.Repeats.{repeated}
use Rattle.st_check_units.specs.Units.{body_of_faults, chart_names, names_faults, node_faults, pou_faults, unit_faults, units_faults, variable_names}
use Rattle.st_check_units.specs.declared.permitted.Permitted.TheVariants as permits
use Rattle.st_check.proofs.Apart.{NamesAreApart, apart, nothing_each, nothing_parts}
use Rattle.st_check.proofs.DistinctNames.{UnitsAreApart, own_names}

-- what holds of each unit holds of the one that is found
found_holds : (P : Named → Type 0) (units : List Named) (i : ℕ) (u : Named) → Each P units → unit_at units i ≡ Some u → P u
found_holds P [] i u all found = absurd (cc)
found_holds P (v ∷ vs) zero u all found = (let same : v ≡ u = cc in subst P same all.0)
found_holds P (v ∷ vs) (suc i) u all found = found_holds P vs i u all.1 found

first_nothing : (fs gs hs : List Fault) → fs ++ gs ++ hs ≡ [] → fs ≡ []
first_nothing fs gs hs none = (nothing_parts fs gs (nothing_parts (fs ++ gs) hs none).0).0

module _ (units : List Named) (scope : Scope) where
  pou_apart : (unit : Declares) (p : Pou) → pou_faults units scope unit p ≡ [] → NamesAreApart (variable_names p.variables ++ chart_names (chart_of p.body))
  pou_apart unit p none =
      apart [] (variable_names p.variables ++ chart_names (chart_of p.body))
      (first_nothing (repeated [] (variable_names p.variables ++ chart_names (chart_of p.body))) (flat_map (block_faults units unit) p.variables) (body_of_faults scope p.name p.body) none)

  unit_apart : (name : Identifier) (unit : Declares) → unit_faults units scope name unit ≡ [] → NamesAreApart (own_names unit)
  unit_apart name (names.type (declared_types.Derived specification initial)) none = tt
  unit_apart name (names.type (declared_types.Structure position members)) none =
      apart [] (declared_names members) (nothing_parts (repeated [] (declared_names members)) (flat_map (declaration_faults units permits.Types) members) none).0
  unit_apart name (names.function f) none =
      apart (f.name.spelling ∷ []) (variable_names f.variables)
      (first_nothing (repeated (f.name.spelling ∷ []) (variable_names f.variables)) (flat_map (block_faults units (names.function f)) f.variables) _ none)
  unit_apart name (names.block b) none = pou_apart (names.block b) b none
  unit_apart name (names.program p) none = pou_apart (names.program p) p none

-- no rule is broken in a unit of a text without faults
pub unit_faultless : (units : List Named) (i : ℕ) (u : Named) → node_faults units ≡ [] → unit_at units i ≡ Some u → unit_faults units (scope_of units u.declares) u.name u.declares ≡ []
unit_faultless units i u none found =
    found_holds (λ v. unit_faults units (scope_of units v.declares) v.name v.declares ≡ []) units i u
    (nothing_each (λ v. unit_faults units (scope_of units v.declares) v.name v.declares) units (nothing_parts (names_faults [] units) (units_faults units) none).1) found

pub units_apart : (units : List Named) → node_faults units ≡ [] → UnitsAreApart units
units_apart units none i u found = unit_apart units (scope_of units u.declares) u.name u.declares (unit_faultless units i u none found)
