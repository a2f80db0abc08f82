-- What names stand for in the scope of a unit.
use Rattle.std.proofs.Common.{◌≡◌, ℕ, zero, suc, ◌<◌, Bool, false, List, [], ◌∷◌, length, get_or, map, Option, Some, None, is_some, refl, sym, ◌∙◌, ap, ◌⊎◌, inl, inr}
use Rattle.std.specs.List.{slice_get}
use Rattle.std.proofs.lemmas.List.{length-map}
use Rattle.std.specs.Option.{option_map, option_map_or}
use Rattle.std.proofs.lemmas.Option.{same_Some, slice_get_read}
use Rattle.st_types.specs.Tables.{first_of}
use Rattle.st_tree.specs.declared.tree.position.Identifier.{Identifier}
use Rattle.st_tree.specs.declared.tree.unit.Action.{Action}
use Rattle.st_tree.specs.declared.tree.unit.Step.{Step}
use Rattle.st_tree.specs.declared.tree.unit.Unit.{Unit as Section}
use Rattle.st_types.specs.Inside.{declares_at}
use Rattle.st_scopes.specs.Lookups.{optional_unit_callee, optional_unit_member, optional_variable}
use Rattle.st_types.specs.Names.{Declares, Named, actions_of, is_action, is_among, is_step, number_of, steps_of, unit_at, unit_by, units_of}
use Rattle.st_scopes.specs.Declarations.{names_at, names_in}
use Rattle.st_scopes.specs.UnitNames.{unit_names}
use Rattle.st_scopes.specs.declared.names.UnitNames.{UnitNames}
use Rattle.st_types.specs.Scopes.{callee_named, member_of, optional_callee, optional_member, optional_scope, scope_at, scope_of, global_callee, symbol_callee}
use Rattle.st_types.specs.Standard.{standard_of}
use Rattle.st_types.specs.Types.{elements_in}
use Rattle.st_types.specs.declared.base.Base.{Base}
use Rattle.st_types.specs.declared.base.Base.TheVariants as bases
use Rattle.st_types.specs.declared.standard.Standard.{Standard}
use Rattle.st_values.specs.Words.{is_word}
use Rattle.st_types.proofs.Places.{list_any-map, position-any}
use Rattle.st_types.proofs.Units.{there}

-- ---- names in charts

named_among : {X : Type 0} (identifier : X → Identifier) (xs : List X) (name : List ℕ) → is_some (first_of (map (λ x. (identifier x).spelling) xs) name) ≡ is_among name (map identifier xs)
named_among identifier xs name =
    position-any (λ n. is_word n name) (map (λ x. (identifier x).spelling) xs)
    ∙ (list_any-map (λ x. (identifier x).spelling) (λ n. is_word n name) xs ∙ sym (list_any-map identifier (λ i. is_word i.spelling name) xs))

abbrev pub optional_step : Option Declares → List ℕ → Bool
optional_step None name = false
optional_step (Some unit) name = is_step unit name

abbrev pub optional_action : Option Declares → List ℕ → Bool
optional_action None name = false
optional_action (Some unit) name = is_action unit name

pub step_among : (unit : Declares) (name : List ℕ) → is_some (first_of (map (λ s. s.name.spelling) (steps_of unit)) name) ≡ is_step unit name
step_among unit name = named_among (λ (s : Step). s.name) (steps_of unit) name

pub action_among : (unit : Declares) (name : List ℕ) → is_some (first_of (map (λ a. a.name.spelling) (actions_of unit)) name) ≡ is_action unit name
action_among unit name = named_among (λ (a : Action). a.name) (actions_of unit) name

-- ---- the unit of a number

-- what is told of each unit, at a number
pub told_at : {X : Type 0} (f : Declares → X) (units : List Named) (i : ℕ) → slice_get (map (λ u. f u.declares) units) i ≡ option_map f (declares_at units i)
told_at f [] i = refl
told_at f (u ∷ us) zero = refl
told_at f (u ∷ us) (suc i) = told_at f us i

pub member_at : (units : List Named) (unit : Option Named) (name : List ℕ) → optional_member units unit name ≡ optional_unit_member units (option_map (λ (u : Named). u.declares) unit) name
member_at units None name = refl
member_at units (Some unit) name = refl

pub callee_at : (units : List Named) (unit : Option Named) → optional_callee units unit ≡ optional_unit_callee units (option_map (λ (u : Named). u.declares) unit)
callee_at units None = refl
callee_at units (Some unit) = refl

-- ---- the scope of a unit

module _ (units : List Named) where
  variable_by : (unit : Option Named) (name : List ℕ) → (optional_scope units unit).variable name ≡ optional_variable units (option_map (λ (u : Named). u.declares) unit) name
  unfolding scope_of
  variable_by None name = refl
  variable_by (Some unit) name = refl

  step_by : (unit : Option Named) (name : List ℕ) → (optional_scope units unit).step name ≡ optional_step (option_map (λ (u : Named). u.declares) unit) name
  unfolding scope_of
  step_by None name = refl
  step_by (Some unit) name = refl

  action_by : (unit : Option Named) (name : List ℕ) → (optional_scope units unit).action name ≡ optional_action (option_map (λ (u : Named). u.declares) unit) name
  unfolding scope_of
  action_by None name = refl
  action_by (Some unit) name = refl

module _ (place : List Section × ℕ) where
  pub scope-variable : (name : List ℕ) → (scope_at place).variable name ≡ optional_variable (units_of place.0) (declares_at (units_of place.0) place.1) name
  unfolding scope_at
  scope-variable name = variable_by (units_of place.0) (unit_at (units_of place.0) place.1) name

  pub scope-step : (name : List ℕ) → (scope_at place).step name ≡ optional_step (declares_at (units_of place.0) place.1) name
  unfolding scope_at
  scope-step name = step_by (units_of place.0) (unit_at (units_of place.0) place.1) name

  pub scope-action : (name : List ℕ) → (scope_at place).action name ≡ optional_action (declares_at (units_of place.0) place.1) name
  unfolding scope_at
  scope-action name = action_by (units_of place.0) (unit_at (units_of place.0) place.1) name

  module _ (below : place.1 < length (units_of place.0)) where
    pub scope-elements : (base : Base) → (scope_at place).elements base ≡ elements_in (units_of place.0) base
    unfolding scope_at scope_of
    scope-elements base = let unit = there (units_of place.0) place.1 below in ap (λ (u : Option Named). (optional_scope (units_of place.0) u).elements base) unit.1

    pub scope-member : (base : Base) (name : List ℕ) → (scope_at place).member base name ≡ member_of (units_of place.0) base name
    unfolding scope_at scope_of
    scope-member base name = let unit = there (units_of place.0) place.1 below in ap (λ (u : Option Named). (optional_scope (units_of place.0) u).member base name) unit.1

    pub scope-callee : (name : List ℕ) → (scope_at place).callee name ≡ symbol_callee (global_callee (units_of place.0) name (standard_of name)) ((scope_at place).variable name)
    unfolding scope_at scope_of callee_named
    scope-callee name =
        let unit = there (units_of place.0) place.1 below in
        ap (λ (u : Option Named). (optional_scope (units_of place.0) u).callee name) unit.1
        ∙ sym (ap (λ (u : Option Named). symbol_callee (global_callee (units_of place.0) name (standard_of name)) ((optional_scope (units_of place.0) u).variable name)) unit.1)

-- ---- a step, an action, a variable, a member and what can be called, as they are looked up

module _ (units : List Named) where
  pub step-found : (unit : Option Declares) (found : UnitNames) (name : List ℕ) → option_map (unit_names units) unit ≡ Some found → is_some (first_of found.chart.steps name) ≡ optional_step unit name
  step-found None found name is = cc
  step-found (Some unit) found name is =
      sym (ap (λ (n : UnitNames). is_some (first_of n.chart.steps name)) (same_Some (unit_names units unit) found is)) ∙ step_among unit name

  pub step-missing : (unit : Option Declares) (name : List ℕ) → option_map (unit_names units) unit ≡ None → false ≡ optional_step unit name
  step-missing None name is = refl
  step-missing (Some unit) name is = cc

  pub action-found : (unit : Option Declares) (found : UnitNames) (name : List ℕ) → option_map (unit_names units) unit ≡ Some found → is_some (first_of found.chart.actions name) ≡ optional_action unit name
  action-found None found name is = cc
  action-found (Some unit) found name is =
      sym (ap (λ (n : UnitNames). is_some (first_of n.chart.actions name)) (same_Some (unit_names units unit) found is)) ∙ action_among unit name

  pub action-missing : (unit : Option Declares) (name : List ℕ) → option_map (unit_names units) unit ≡ None → false ≡ optional_action unit name
  action-missing None name is = refl
  action-missing (Some unit) name is = cc

  pub member-numbered : (base : Base) (i : ℕ) (name : List ℕ) → (base ≡ bases.Structure i) ⊎ (base ≡ bases.Block i) → optional_unit_member units (declares_at units i) name ≡ member_of units base name
  unfolding member_of
  member-numbered base i name (inl is) = sym (ap (λ (b : Base). member_of units b name) is ∙ member_at units (unit_at units i) name)
  member-numbered base i name (inr is) = sym (ap (λ (b : Base). member_of units b name) is ∙ member_at units (unit_at units i) name)

  pub callee-global : (name : List ℕ) (standard : Option Standard) (i : ℕ) → standard ≡ None → number_of units name ≡ Some i → optional_unit_callee units (declares_at units i) ≡ global_callee units name standard
  callee-global name standard i none number =
      sym (ap (global_callee units name) none ∙ (ap (λ (n : Option ℕ). optional_callee units (unit_by units n)) number ∙ callee_at units (unit_at units i)))

  names-found : (unit : Option Declares) (found : UnitNames) → option_map (unit_names units) unit ≡ Some found → found.declarations ≡ option_map_or names_in unit []
  names-found None found is = cc
  names-found (Some unit) found is = sym (ap (λ (n : UnitNames). n.declarations) (same_Some (unit_names units unit) found is))

  -- what is declared in the unit that is read
  pub names-read : (all : List UnitNames) (i : ℕ) (found : UnitNames) → all ≡ map (λ u. unit_names units u.declares) units → i < length units → found ≡ get_or all i found → found.declarations ≡ names_at units i
  names-read all i found are below read =
      let len : length units ≡ length all = sym (ap length are ∙ length-map units (λ (u : Named). unit_names units u.declares)) in
      names-found (declares_at units i) found (sym (told_at (unit_names units) units i) ∙ (sym (ap (λ (ns : List UnitNames). slice_get ns i) are) ∙ slice_get_read all (length units) i found len below read))
