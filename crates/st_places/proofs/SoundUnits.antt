-- Bounds and names in the units of checked programs.
use Rattle.std.proofs.Common.{◌≡◌, ℕ, suc, Bool, true, false, if◌then◌else◌, List, [], ◌∷◌, ◌++◌, codes, length, Some, refl, ap, append-nil, subst, sym}
use Rattle.std.specs.List.{AllByRecursion, flat_map}
use Rattle.std.proofs.lemmas.List.Elements.{recursion_from_All}
use Rattle.st_check.specs.Laws.{IsOneValue}
use Rattle.st_check.specs.Programs.{text_of}
use Rattle.st_check.proofs.Apart.{NamesAreApart, apart, nothing_parts}
use Rattle.st_check.proofs.DistinctNames.{UnitsAreApart, distinct_composed, distinct_of, distinct_within, of_blocks}
use Rattle.st_check.proofs.ElementaryFunctions.{elementary_functions}
use Rattle.st_check.proofs.ShortUnits.{short_of}
use Rattle.st_check.proofs.Small.{has_bounds}
use Rattle.st_check.proofs.UnitsApart.{unit_faultless, units_apart}
use Rattle.st_check.proofs.UnitsShort.{units_short}
use Rattle.st_check_units.specs.Declarations.{block_faults}
use Rattle.st_check_units.specs.Repeats.{repeated}
use Rattle.st_check_units.specs.Units.{node_faults, unit_faults, variable_names}
use Rattle.st_leaves.specs.Bounds.{HasBounds}
use Rattle.st_leaves.specs.Distinct.{HasDistinctNames}
use Rattle.st_meaning.specs.Offsets.{HasSmallArrays, HaveSmallArrays}
use Rattle.st_meaning.specs.Units.{result_declared, root_name, unit_root}
use Rattle.st_meaning.proofs.BegunFunctions.{functions_declare_their_results}
use Rattle.st_tree.specs.declared.tree.declaration.DeclaredType.TheVariants as declared_types
use Rattle.st_tree.specs.declared.tree.unit.Function.{Function}
use Rattle.st_tree.specs.Kinds.{is_constant}
use Rattle.st_types.specs.Compositions.{Composition, composed, composition_of, declared_composition, member, members_by, unit_composition}
use Rattle.st_types.specs.Names.{Declared, Declares, Named, unit_at, units_of, variables_of}
use Rattle.st_types.specs.Names as names
use Rattle.st_types.specs.Scopes.{scope_of}
use Rattle.st_places.specs.Laws.{IsSoundUnit, UnitsAreSound}
use Rattle.st_places.specs.Callables.{AreElementary}
use Rattle.st_places.specs.Parts.{inside, is_function}

module _ (units : List Named) where
  -- the result of a function is one value
  root_bounds : (name other : List ℕ) (d : Declares) → HasBounds (unit_composition units (inside units) name d) → HasBounds (unit_root units other d)
  root_bounds name other (names.type (declared_types.Derived specification initial)) h = h
  root_bounds name other (names.type (declared_types.Structure position members)) h = h
  root_bounds name other (names.function f) h = (tt, h)
  root_bounds name other (names.block b) h = h
  root_bounds name other (names.program p) h = h

  -- no variable of a function is named as the function
  function_apart : (u : Named) (f : Function) → unit_faults units (scope_of units (names.function f)) u.name (names.function f) ≡ [] → NamesAreApart (f.name ∷ variable_names f.variables)
  function_apart u f none =
      apart [] (f.name ∷ variable_names f.variables)
      (nothing_parts (repeated (f.name.spelling ∷ []) (variable_names f.variables)) (flat_map (block_faults units (names.function f)) f.variables)
      (nothing_parts (repeated (f.name.spelling ∷ []) (variable_names f.variables) ++ flat_map (block_faults units (names.function f)) f.variables) _ none).0).0

  function_distinct : UnitsAreApart units → (name : List ℕ) (f : Function) → NamesAreApart (f.name ∷ variable_names f.variables) → HasDistinctNames (unit_root units name (names.function f))
  function_distinct apart_units name f apart_names =
      subst (λ ms. HasDistinctNames (composed name ms [])) (sym (functions_declare_their_results units f))
      (distinct_composed units (inside units) (distinct_within units apart_units (suc (length units))) name (result_declared f ∷ variables_of f.variables) [] (f.name ∷ variable_names f.variables)
      (ap (λ ns. f.name.spelling ∷ ns) (of_blocks f.variables)) (subst NamesAreApart (sym (append-nil (f.name ∷ variable_names f.variables))) apart_names))

  root_distinct : UnitsAreApart units → (u : Named) (d : Declares) → unit_faults units (scope_of units d) u.name d ≡ [] → (name other : List ℕ)
      → HasDistinctNames (unit_composition units (inside units) name d) → HasDistinctNames (unit_root units other d)
  root_distinct apart_units u (names.type (declared_types.Derived specification initial)) none name other h = h
  root_distinct apart_units u (names.type (declared_types.Structure position members)) none name other h = h
  root_distinct apart_units u (names.function f) none name other h = function_distinct apart_units other f (function_apart u f none)
  root_distinct apart_units u (names.block b) none name other h = h
  root_distinct apart_units u (names.program p) none name other h = h

  -- each variable of a function is one value, and no array
  one_value : (c : Composition) → IsOneValue c → HasSmallArrays c
  one_value c one = subst HasSmallArrays (sym one.is) tt

  members_small : (vs : List Declared) → AllByRecursion (λ v. IsOneValue (declared_composition units (inside units) v)) vs → HaveSmallArrays (members_by units (inside units) vs)
  members_small [] each = tt
  members_small (v ∷ vs) each = by (is_constant v.kind) (members_small vs each.1)
    where
      by : (b : Bool) → HaveSmallArrays (members_by units (inside units) vs) → HaveSmallArrays (if b then members_by units (inside units) vs else member v.name.spelling v.kind (declared_composition units (inside units) v) (members_by units (inside units) vs))
      by true others = others
      by false others = (one_value (declared_composition units (inside units) v) each.0, others)

  root_arrays : AreElementary units → (i : ℕ) (u : Named) (d : Declares) → unit_at units i ≡ Some u → u.declares ≡ d → (name : List ℕ) → is_function d ≡ true
      → HasSmallArrays (unit_root units name d)
  root_arrays elementary' i u (names.function f) at is name function = (
    tt,
    members_small (variables_of f.variables)
        (recursion_from_All (λ v. IsOneValue (declared_composition units (inside units) v)) (variables_of f.variables) (elementary' i u f at is)),
  )
  root_arrays elementary' i u (names.type t) at is name function = absurd (cc)
  root_arrays elementary' i u (names.block b) at is name function = absurd (cc)
  root_arrays elementary' i u (names.program p) at is name function = absurd (cc)

  sound_unit : node_faults units ≡ [] → AreElementary units → (i : ℕ) (u : Named) → unit_at units i ≡ Some u → IsSoundUnit units u
  unfolding composition_of
  sound_unit faultless elementary' i u at = record {
    bounds =
        root_bounds (codes "PROGRAM") (root_name u.name.spelling u.declares) u.declares
        (has_bounds (composition_of units u.declares) (short_of units (units_short units faultless) u.declares (units_short units faultless i u at)));
    distinct =
        root_distinct (units_apart units faultless) u u.declares (unit_faultless units i u faultless at) (codes "PROGRAM") (root_name u.name.spelling u.declares)
        (distinct_of units (units_apart units faultless) u.declares (units_apart units faultless i u at));
    arrays = root_arrays elementary' i u u.declares at refl (root_name u.name.spelling u.declares);
  }

pub units_are_sound : UnitsAreSound
units_are_sound program checked i u at = sound_unit (units_of (text_of program)) checked.faultless (elementary_functions program checked) i u at
