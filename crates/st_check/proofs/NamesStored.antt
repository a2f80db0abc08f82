-- What the charts of a text without faults store is declared.
use Rattle.std.proofs.Common.{◌≡◌, ℕ, Bool, true, false, cond, ◌||◌, not, if◌then◌else◌, List, [], ◌∷◌, ◌++◌, Option, Some, None, map, option_map, refl, ap, sym, ◌∙◌, subst}
use Rattle.std.specs.List.{All, AllByRecursion as Each, Contains, flat_map, list_any}
use Rattle.std.proofs.lemmas.List.Elements.{All-from_recursion, Contains-append_left, Contains-append_right, Contains-push}
use Rattle.std.proofs.lemmas.List.Folds.{list_any-append}
use Rattle.st_tree.specs.declared.tree.declaration.VarKind.{VarKind}
use Rattle.st_tree.specs.declared.tree.declaration.VarKind.TheVariants as var_kinds
use Rattle.st_tree.specs.declared.tree.position.Identifier.{Identifier}
use Rattle.st_tree.specs.declared.tree.unit.Action.{Action}
use Rattle.st_tree.specs.declared.tree.unit.Association.{Association}
use Rattle.st_tree.specs.declared.tree.unit.Body.{Body}
use Rattle.st_tree.specs.declared.tree.unit.Body.TheVariants as bodies
use Rattle.st_tree.specs.declared.tree.unit.ChartElement.{ChartElement}
use Rattle.st_tree.specs.declared.tree.unit.ChartElement.TheVariants as chart_elements
use Rattle.st_tree.specs.declared.tree.unit.Pou.{Pou}
use Rattle.st_faults.specs.Faults.{fault, when}
use Rattle.st_faults.specs.declared.fault.Rule.TheVariants as rules
use Rattle.st_types.proofs.Cases.{by_test}
use Rattle.st_tree.specs.Kinds.{is_constant}
use Rattle.st_types.specs.Names.{Declared, Declares, Named, actions_in, chart_in, chart_of, declared_named, is_action, steps_in, unit_at, variables_in, variables_of}
use Rattle.st_types.specs.Names as names
use Rattle.st_types.specs.Scopes.{purpose_of, scope_of, symbol, symbol_of, variable_named, variable_shape}
use Rattle.st_types.specs.Types.{Shape, elem_of, is_unknown}
use Rattle.st_values.specs.Words.{is_word}
use Rattle.st_check_units.specs.Charts.{associated_faults, association_faults, element_faults, initial_step_faults, initial_steps, is_boolean_type, qualifier_faults}
use Rattle.st_check_units.specs.Declarations.{block_faults}
use Rattle.st_check_units.specs.Repeats.{repeated}
use Rattle.st_check_units.specs.Units.{body_of_faults, chart_names, node_faults, pou_faults, unit_faults}
use Rattle.st_check_units.specs.Units as rules_of
use Rattle.st_leaves.specs.Charts.{action_names, as_declared, associated_names, associations_in, each_once, is_stored_by, storable, stored_by, stored_names, stored_of, variable_names}
use Rattle.st_leaves.proofs.Pairs.{each_append, each_filter, each_map, each_weaker}
use Rattle.st_check.proofs.Apart.{nothing_each, nothing_parts}
use Rattle.st_check.proofs.UnitsApart.{unit_faultless}

-- one of these is the same as the name
abbrev IsDeclared : List (List ℕ) → List ℕ → Type 0
IsDeclared declared name = list_any (λ d. is_word d name) declared ≡ true

-- ---- names that are declared

-- as it is declared, it is one of those that are
among : (declared : List (List ℕ)) (name : List ℕ) → IsDeclared declared name → Contains declared (as_declared declared name)
among [] name is = absurd (cc)
among (d ∷ ds) name is =
    by_test (is_word d name)
    (λ t. subst (λ b. Contains (d ∷ ds) (cond b d (as_declared ds name))) (sym t) (Contains-append_left (d ∷ []) ds d (Contains-push [] d)))
    (λ t. subst (λ b. Contains (d ∷ ds) (cond b d (as_declared ds name))) (sym t)
    (Contains-append_right (d ∷ []) ds (as_declared ds name) (among ds name (ap (λ b. b || list_any (λ e. is_word e name) ds) (sym t) ∙ is))))

-- what holds of names holds of each of them once
pub each_named : (P : List ℕ → Type 0) (names : List (List ℕ)) → Each P names → Each P (each_once names)
each_named P [] each = tt
each_named P (name ∷ names) each = (each.0, each_filter P (λ other. not (is_word name other)) (each_once names) (each_named P names each.1))

-- what holds of the names of all associations holds of those that are stored
each_stored : (P : List ℕ → Type 0) (associations : List Association) → Each (λ a. P a.name.spelling) associations → Each P (stored_names associations)
each_stored P associations each =
    each_filter P (is_stored_by associations) (associated_names associations)
    (each_named P (map (λ (a : Association). a.name.spelling) associations) (each_map P (λ (a : Association). a.name.spelling) associations each))

stored_among : (variables : List (List ℕ)) (elements : List ChartElement) → Each (λ (a : Association). IsDeclared (variables ++ action_names elements) a.name.spelling) (associations_in elements)
    → All (Contains (variables ++ action_names elements)) (stored_by variables elements)
stored_among variables elements each =
    let declared = variables ++ action_names elements in
    let associations = associations_in elements in
    All-from_recursion (Contains declared) (stored_by variables elements)
    (each_map (Contains declared) (as_declared declared) (stored_names associations)
    (each_weaker (IsDeclared declared) (λ name. Contains declared (as_declared declared name)) (stored_names associations) (among declared) (each_stored (IsDeclared declared) associations each)))

-- ---- variables and actions

-- a constant isn't associated
isnt_constant : (name : Identifier) (kind : VarKind) (shape : Shape) → associated_faults name (Some (symbol (purpose_of kind) shape)) ≡ [] → is_constant kind ≡ false
isnt_constant name var_kinds.Constant shape none =
    let fixed = (nothing_parts (when (not (is_unknown shape.base || is_boolean_type (elem_of shape))) (fault name.position rules.TypeMismatch)) (fault name.position rules.NotAssignable ∷ []) none).1 in
    absurd (cc)
isnt_constant name var_kinds.Internal shape none = refl
isnt_constant name var_kinds.Input shape none = refl
isnt_constant name var_kinds.Output shape none = refl

-- the first of this name is no constant
variable_there : (vs : List Declared) (name : List ℕ) (v : Declared) → declared_named vs name ≡ Some v → is_constant v.kind ≡ false → IsDeclared (variable_names vs) name
variable_there [] name v found other = absurd (cc)
variable_there (w ∷ vs) name v found other =
    list_any-append (λ d. is_word d name) (storable w) (variable_names vs)
    ∙ by_test (is_word w.name.spelling name)
    (λ t.
    let same : w ≡ v = some_is w v (sym (ap (λ b. cond b (Some w) (declared_named vs name)) t) ∙ found) in
    let kept : storable w ≡ w.name.spelling ∷ [] = ap (λ b. cond b [] (w.name.spelling ∷ [])) (ap (λ (u : Declared). is_constant u.kind) same ∙ other) in
    ap (λ ns. list_any (λ d. is_word d name) ns || list_any (λ d. is_word d name) (variable_names vs)) kept
    ∙ ap (λ b. (b || false) || list_any (λ d. is_word d name) (variable_names vs)) t)
    (λ t. either (list_any (λ d. is_word d name) (storable w)) (variable_there vs name v (sym (ap (λ b. cond b (Some w) (declared_named vs name)) t) ∙ found) other)) where
      some_is : (a b : Declared) → Some a ≡ Some b → a ≡ b
      some_is a b h = cc

      either : (a : Bool) {b : Bool} → b ≡ true → (a || b) ≡ true
      either true h = refl
      either false h = h

action_there : (actions : List Action) (name : List ℕ) → list_any (λ (i : Identifier). is_word i.spelling name) (map (λ (a : Action). a.name) actions) ≡ true
    → IsDeclared (map (λ (a : Action). a.name.spelling) actions) name
action_there actions name is = same actions ∙ is where
  same : (as' : List Action) → list_any (λ d. is_word d name) (map (λ (a : Action). a.name.spelling) as') ≡ list_any (λ (i : Identifier). is_word i.spelling name) (map (λ (a : Action). a.name) as')
  same [] = refl
  same (a ∷ as') = ap (λ b. is_word a.name.spelling name || b) (same as')

either_there : (variables actions : List (List ℕ)) (name : List ℕ) → list_any (λ d. is_word d name) variables || list_any (λ d. is_word d name) actions ≡ true → IsDeclared (variables ++ actions) name
either_there variables actions name is = list_any-append (λ d. is_word d name) variables actions ∙ is

or_true : (a : Bool) → (a || true) ≡ true
or_true true = refl
or_true false = refl

or_first : (a b : Bool) → a ≡ true → (a || b) ≡ true
or_first a b is = ap (λ c. c || b) is

-- ---- what is associated in a chart without faults, in a unit with these variables

module _ (units : List Named) (unit : Declares) (vs : List Declared) (elements : List ChartElement)
    (variables : (name : List ℕ) → variable_named units unit name ≡ option_map (symbol_of units unit) (declared_named vs name)) (actions : (name : List ℕ) → is_action unit name ≡ list_any (λ (i : Identifier). is_word i.spelling name) (map (λ (a : Action). a.name) (flat_map actions_in elements))) where
  of_variable : (name : Identifier) (found : Option Declared) → declared_named vs name.spelling ≡ found → associated_faults name (option_map (symbol_of units unit) found) ≡ [] → IsDeclared (variable_names vs) name.spelling
  of_variable name None is none = absurd (cc)
  of_variable name (Some v) is none = variable_there vs name.spelling v is (isnt_constant name v.kind (variable_shape units unit v) none)

  of_association : (a : Association) → association_faults (scope_of units unit) a ≡ [] → IsDeclared (variable_names vs ++ action_names elements) a.name.spelling
  unfolding scope_of
  of_association a none =
      let name = a.name.spelling in
      let by_variable = associated_faults a.name (variable_named units unit name) in
      let rest = (nothing_parts (qualifier_faults a.name a.qualifier) (if is_action unit name then [] else by_variable) none).1 in
      either_there (variable_names vs) (action_names elements) name
      (by_test (is_action unit name)
      (λ t. ap (λ b. list_any (λ d. is_word d name) (variable_names vs) || b) (action_there (flat_map actions_in elements) name (sym (actions name) ∙ t)) ∙ or_true (list_any (λ d. is_word d name) (variable_names vs)))
      (λ t.
      let faultless = subst (λ found. associated_faults a.name found ≡ []) (variables name) (sym (ap (λ (b : Bool). if b then [] else by_variable) t) ∙ rest) in
      or_first (list_any (λ d. is_word d name) (variable_names vs)) (list_any (λ d. is_word d name) (action_names elements)) (of_variable a.name (declared_named vs name) refl faultless)))

  of_elements : (es : List ChartElement) → flat_map (element_faults (scope_of units unit)) es ≡ []
      → Each (λ (a : Association). IsDeclared (variable_names vs ++ action_names elements) a.name.spelling) (associations_in es)
  of_elements [] none = tt
  of_elements (chart_elements.Step s ∷ es) none =
      let parts = nothing_parts (flat_map (association_faults (scope_of units unit)) s.associations) (flat_map (element_faults (scope_of units unit)) es) none in
      each_append (λ (a : Association). IsDeclared (variable_names vs ++ action_names elements) a.name.spelling) s.associations (associations_in es)
      (each_weaker (λ a. association_faults (scope_of units unit) a ≡ []) (λ (a : Association). IsDeclared (variable_names vs ++ action_names elements) a.name.spelling) s.associations of_association
      (nothing_each (association_faults (scope_of units unit)) s.associations parts.0)) (of_elements es parts.1)
  of_elements (chart_elements.Transition t ∷ es) none = of_elements es (nothing_parts (element_faults (scope_of units unit) (chart_elements.Transition t)) (flat_map (element_faults (scope_of units unit)) es) none).1
  of_elements (chart_elements.Action a ∷ es) none = of_elements es (nothing_parts (element_faults (scope_of units unit) (chart_elements.Action a)) (flat_map (element_faults (scope_of units unit)) es) none).1

-- a chart of the unit
in_body : (units : List Named) (unit : Declares) (vs : List Declared) (name : Identifier) (body : Body) → ((n : List ℕ) → variable_named units unit n ≡ option_map (symbol_of units unit) (declared_named vs n))
    → ((n : List ℕ) → is_action unit n ≡ list_any (λ (i : Identifier). is_word i.spelling n) (map (λ (a : Action). a.name) (flat_map actions_in (chart_of body)))) → body_of_faults (scope_of units unit) name body ≡ []
    → All (Contains (variable_names vs ++ action_names (chart_of body))) (stored_by (variable_names vs) (chart_of body))
in_body units unit vs name (bodies.Statements statements) variables actions none = stored_among (variable_names vs) [] tt
in_body units unit vs name (bodies.Chart elements) variables actions none =
    stored_among (variable_names vs) elements
    (of_elements units unit vs elements variables actions elements (nothing_parts (initial_step_faults name (initial_steps elements)) (flat_map (element_faults (scope_of units unit)) elements) none).1)

body_faultless : (units : List Named) (unit : Declares) (p : Pou) → pou_faults units (scope_of units unit) unit p ≡ [] → body_of_faults (scope_of units unit) p.name p.body ≡ []
body_faultless units unit p none =
    (nothing_parts (repeated [] (rules_of.variable_names p.variables ++ chart_names (chart_of p.body)) ++ flat_map (block_faults units unit) p.variables) (body_of_faults (scope_of units unit) p.name p.body) none).1

in_unit : (units : List Named) (name : Identifier) (unit : Declares) → unit_faults units (scope_of units unit) name unit ≡ []
    → All (Contains (variable_names (variables_in unit) ++ action_names (chart_in unit))) (stored_of unit)
unfolding variable_named
in_unit units name (names.type d) none = stored_among [] [] tt
in_unit units name (names.function f) none = stored_among (variable_names (variables_of f.variables)) [] tt
in_unit units name (names.block b) none =
    in_body units (names.block b) (variables_of b.variables) b.name b.body (λ n. refl) (λ n. refl) (body_faultless units (names.block b) b none)
in_unit units name (names.program p) none =
    in_body units (names.program p) (variables_of p.variables) p.name p.body (λ n. refl) (λ n. refl) (body_faultless units (names.program p) p none)

pub stored_declared : (units : List Named) (i : ℕ) (u : Named) → node_faults units ≡ [] → unit_at units i ≡ Some u
    → All (Contains (variable_names (variables_in u.declares) ++ action_names (chart_in u.declares))) (stored_of u.declares)
stored_declared units i u none found = in_unit units u.name u.declares (unit_faultless units i u none found)
