-- Charts without faults are strict.
use Rattle.std.proofs.Common.{◌≡◌, ℕ, Bool, true, false, ◌||◌, not, if◌then◌else◌, List, [], ◌∷◌, ◌++◌, codes, map, Option, Some, None, is_some, refl, sym, ap, ◌∙◌, subst}
use Rattle.std.specs.Char.{to_ascii_lowercase}
use Rattle.std.specs.List.{AllByRecursion as Each, flat_map}
use Rattle.std.specs.Str.{bytes_eq}
use Rattle.st_values.specs.Values.{in_range}
use Rattle.st_values.specs.Words.{is_word}
use Rattle.st_values.specs.declared.elem.Elem.{Elem}
use Rattle.st_values.specs.declared.elem.Elem.TheVariants as elems
use Rattle.st_values.specs.declared.value.Value.{Value}
use Rattle.st_tree.specs.declared.tree.constant.Duration.{Duration}
use Rattle.st_tree.specs.declared.tree.position.Identifier.{Identifier}
use Rattle.st_tree.specs.declared.tree.unit.ActionQualifier.{ActionQualifier}
use Rattle.st_tree.specs.declared.tree.unit.Association.{Association}
use Rattle.st_tree.specs.declared.tree.unit.ChartElement.{ChartElement}
use Rattle.st_tree.specs.declared.tree.unit.ChartElement.TheVariants as chart_elements
use Rattle.st_tree.specs.declared.tree.unit.Transition.{Transition}
use Rattle.st_faults.specs.Faults.{fault, when}
use Rattle.st_faults.specs.declared.fault.Rule.TheVariants as rules
use Rattle.st_types.specs.Names.{Declares, actions_in, is_action, is_step, steps_in}
use Rattle.st_types.specs.Scopes.{Scope}
use Rattle.st_types.specs.Types.{elem_of, is_unknown}
use Rattle.st_types.specs.declared.symbol.Symbol.{Symbol}
use Rattle.st_leaves.specs.Charts.{associations_of}
use Rattle.st_leaves.specs.Selected.{selected_by}
use Rattle.st_check_expressions.specs.Known.{Known}
use Rattle.st_check_expressions.specs.Variables.{is_fixed_purpose}
use Rattle.st_check_expressions.specs.Walk.{known}
use Rattle.st_check_statements.specs.Statements.{around, body_faults, condition_faults}
use Rattle.st_check_units.specs.Charts.{associated_faults, association_faults, duration_faults, element_faults, is_boolean_type, is_qualifier, is_timed, is_untimed, qualifier_faults, step_name_faults}
use Rattle.st_leaves.proofs.Pairs.{each_append}
use Rattle.st_check.proofs.Apart.{kept_when, nothing_parts}
use Rattle.st_meaning.proofs.TypedTerms.{same_type}
use Rattle.st_charts.specs.declared.table.Qualifier.{Qualifier}
use Rattle.st_charts.specs.declared.table.Qualifier.TheVariants.{NonStored, Reset, Stored, Limited, Delayed, Pulse}
use Rattle.st_meaning.specs.Sketched.{qualifier_named, qualifier_of, time_in, time_of, transitions_in}
use Rattle.st_meaning.specs.Terms.{whole, field_part}
use Rattle.st_meaning.specs.Typing.{actions_of, tests_of}
use Rattle.st_meaning.specs.Wholes.{Whole, type_of}
use Rattle.st_compile.specs.Charts.{AreActions, AreTests, IsQualified, IsTimed, IsUntimed, action_then, delayed, limited, no_action, no_test, non_stored, pulse, reset, stored, test_then, timed, unqualified, untimed}
use Rattle.st_compile.specs.Ties.{IsVariable, is_constant, is_member, Ties}
use Rattle.st_compile.proofs.Chains.{holds}
use Rattle.st_compile.proofs.Expressions.{expression_fits}
use Rattle.st_compile.proofs.Literals.{stays}
use Rattle.st_compile.proofs.Made.{made_known, made_value}
use Rattle.st_compile.proofs.Places.{or_true}
use Rattle.st_compile.proofs.Statements.{body_strict}
use Rattle.st_compile.proofs.Words.{same_word}

bool_of : (o : Option Elem) → is_boolean_type o ≡ true → o ≡ Some elems.Bool
bool_of None h = cc
bool_of (Some e) h = ap (λ (t : Elem). Some t) (same_type e elems.Bool h)

-- ---- qualifiers

-- in lower case
abbrev pub lower_qualifier : List ℕ → Qualifier
lower_qualifier letter =
    if bytes_eq letter (codes "r") then Reset else if bytes_eq letter (codes "s") then Stored else if bytes_eq letter (codes "l") then Limited
    else if bytes_eq letter (codes "d") then Delayed else if bytes_eq letter (codes "p") then Pulse else NonStored

untimed_is : (letter : List ℕ) → is_untimed letter ≡ true → IsUntimed (map to_ascii_lowercase letter) (qualifier_named letter)
untimed_is letter = by (is_word (codes "N") letter) (is_word (codes "S") letter) (is_word (codes "R") letter) (is_word (codes "P") letter) refl refl refl refl where
  spelled : (word : List ℕ) → is_word word letter ≡ true → IsUntimed (map to_ascii_lowercase word) (lower_qualifier (map to_ascii_lowercase word))
      → IsUntimed (map to_ascii_lowercase letter) (qualifier_named letter)
  spelled word h is = subst (λ (l : List ℕ). IsUntimed l (lower_qualifier l)) (sym (same_word word letter h)) is

  by : (n s r p : Bool) → is_word (codes "N") letter ≡ n → is_word (codes "S") letter ≡ s → is_word (codes "R") letter ≡ r → is_word (codes "P") letter ≡ p
      → (n || s || r || p) ≡ true → IsUntimed (map to_ascii_lowercase letter) (qualifier_named letter)
  by true s r p is_n is_s is_r is_p h = spelled (codes "N") is_n non_stored
  by false true r p is_n is_s is_r is_p h = spelled (codes "S") is_s stored
  by false false true p is_n is_s is_r is_p h = spelled (codes "R") is_r reset
  by false false false true is_n is_s is_r is_p h = spelled (codes "P") is_p pulse
  by false false false false is_n is_s is_r is_p h = absurd (cc)

timed_is : (letter : List ℕ) → is_timed letter ≡ true → IsTimed (map to_ascii_lowercase letter) (qualifier_named letter)
timed_is letter = by (is_word (codes "L") letter) (is_word (codes "D") letter) refl refl where
  spelled : (word : List ℕ) → is_word word letter ≡ true → IsTimed (map to_ascii_lowercase word) (lower_qualifier (map to_ascii_lowercase word))
      → IsTimed (map to_ascii_lowercase letter) (qualifier_named letter)
  spelled word h is = subst (λ (l : List ℕ). IsTimed l (lower_qualifier l)) (sym (same_word word letter h)) is

  by : (l d : Bool) → is_word (codes "L") letter ≡ l → is_word (codes "D") letter ≡ d → (l || d) ≡ true → IsTimed (map to_ascii_lowercase letter) (qualifier_named letter)
  by true d is_l is_d h = spelled (codes "L") is_l limited
  by false true is_l is_d h = spelled (codes "D") is_d delayed
  by false false is_l is_d h = absurd (cc)

qualified : (name : Identifier) (q : Option ActionQualifier) → qualifier_faults name q ≡ [] → IsQualified q (qualifier_of q) (time_of q)
qualified name None h = unqualified
qualified name (Some q) h =
    let parts = nothing_parts (when (not (is_qualifier q)) (fault name.position rules.MalformedChart)) (duration_faults q.duration) h in
    by q.duration refl (holds (is_qualifier q) (fault name.position rules.MalformedChart) parts.0) parts.1 where
      by : (d : Option Duration) → q.duration ≡ d → (if is_some d then is_timed q.name.spelling else is_untimed q.name.spelling) ≡ true → duration_faults d ≡ []
          → IsQualified (Some q) (qualifier_named q.name.spelling) (time_in d)
      by None written is_letter none = untimed written (untimed_is q.name.spelling is_letter)
      by (Some d) written is_letter none =
          let inside = holds (in_range elems.Time d.milliseconds) (fault d.position rules.OutOfRange) none in
          subst (IsQualified (Some q) (qualifier_named q.name.spelling)) (sym (ap (λ (v : Value). v.bits) (stays elems.Time d.milliseconds inside)))
          (timed written (timed_is q.name.spelling is_letter) inside)

-- ---- associations and their links

-- what is associated: an action, or a BOOL variable
pub data IsAssociated (w : Whole) (d : Declares) (name : List ℕ) : Type 0 where
  with_action : is_action d name ≡ true → type_of w.variables (field_part name whole) ≡ None → IsAssociated w d name
  with_variable : type_of w.variables (field_part name whole) ≡ Some elems.Bool → IsAssociated w d name

abbrev pub IsStrictAssociation : Whole → Declares → Association → Type 0
IsStrictAssociation w d a = IsAssociated w d a.name.spelling × IsQualified a.qualifier (qualifier_of a.qualifier) (time_of a.qualifier)

-- each leads from steps to steps
abbrev pub IsBetween : Declares → Transition → Type 0
IsBetween d t = Each (λ n. is_step d n.spelling ≡ true) t.from × Each (λ n. is_step d n.spelling ≡ true) t.to

-- what is so of the elements of a chart
pub record ChartHolds (w : Whole) (d : Declares) (elements : List ChartElement) : Type 0 where
  pub tests : AreTests w (flat_map transitions_in elements) (tests_of w (flat_map transitions_in elements))
  pub between : Each (IsBetween d) (flat_map transitions_in elements)
  pub actions : AreActions w (flat_map actions_in elements) (actions_of w (flat_map actions_in elements))
  pub associations : Each (IsStrictAssociation w d) (associations_of (flat_map steps_in elements))

-- the scope of a unit looks actions and steps up so
module _ (scope : Scope) (w : Whole) (ties : Ties scope w) (d : Declares) (steps : (name : List ℕ) → scope.step name ≡ is_step d name) (acts : (name : List ℕ) → scope.action name ≡ is_action d name) where
  associated : (a : Association) → (if scope.action a.name.spelling then [] else associated_faults a.name (scope.variable a.name.spelling)) ≡ [] → IsAssociated w d a.name.spelling
  associated a h = by (scope.action a.name.spelling) refl h where
    variable_is : (s : Symbol) → IsVariable scope w a.name.spelling s → associated_faults a.name (Some s) ≡ [] → IsAssociated w d a.name.spelling
    variable_is s (is_constant x purpose is shape) h =
        let parts = nothing_parts (when (not (is_unknown s.shape.base || is_boolean_type (elem_of s.shape))) (fault a.name.position rules.TypeMismatch)) (when (is_fixed_purpose s.purpose) (fault a.name.position rules.NotAssignable)) h in
        absurd (let e : true ≡ false = sym (ap is_fixed_purpose purpose) ∙ kept_when (is_fixed_purpose s.purpose) (fault a.name.position rules.NotAssignable) parts.1 in cc)
    variable_is s (is_member empty is) h =
        let parts = nothing_parts (when (not (is_unknown s.shape.base || is_boolean_type (elem_of s.shape))) (fault a.name.position rules.TypeMismatch)) (when (is_fixed_purpose s.purpose) (fault a.name.position rules.NotAssignable)) h in
        let fits = holds (is_unknown s.shape.base || is_boolean_type (elem_of s.shape)) (fault a.name.position rules.TypeMismatch) parts.0 in
        let c = selected_by w.variables a.name.spelling in
        let own = bool_of (elem_of s.shape) (or_true (is_unknown s.shape.base) (is_boolean_type (elem_of s.shape)) fits (made_known scope s.shape c is)) in
        with_variable (made_value scope s.shape c is elems.Bool own)

    found : (o : Option Symbol) → scope.variable a.name.spelling ≡ o → associated_faults a.name o ≡ [] → IsAssociated w d a.name.spelling
    found None q h = absurd (cc)
    found (Some s) q h = variable_is s (ties.variable a.name.spelling s q) h

    by : (b : Bool) → scope.action a.name.spelling ≡ b → (if b then [] else associated_faults a.name (scope.variable a.name.spelling)) ≡ [] → IsAssociated w d a.name.spelling
    by true q h = with_action (sym (acts a.name.spelling) ∙ q) (ties.action a.name.spelling q)
    by false q h = found (scope.variable a.name.spelling) refl h

  associations_strict : (as' : List Association) → flat_map (association_faults scope) as' ≡ [] → Each (IsStrictAssociation w d) as'
  associations_strict [] h = tt
  associations_strict (a ∷ as') h =
      let parts = nothing_parts (association_faults scope a) (flat_map (association_faults scope) as') h in
      let own = nothing_parts (qualifier_faults a.name a.qualifier) (if scope.action a.name.spelling then [] else associated_faults a.name (scope.variable a.name.spelling)) parts.0 in
      ((associated a own.1, qualified a.name a.qualifier own.0), associations_strict as' parts.1)

  are_steps : (ns : List Identifier) → flat_map (step_name_faults scope) ns ≡ [] → Each (λ n. is_step d n.spelling ≡ true) ns
  are_steps [] h = tt
  are_steps (n ∷ ns) h =
      let parts = nothing_parts (step_name_faults scope n) (flat_map (step_name_faults scope) ns) h in
      (sym (steps n.spelling) ∙ holds (scope.step n.spelling) (fault n.position rules.MalformedChart) parts.0, are_steps ns parts.1)

  pub chart_strict : (elements : List ChartElement) → flat_map (element_faults scope) elements ≡ [] → ChartHolds w d elements
  chart_strict [] h = record { tests = no_test; between = tt; actions = no_action; associations = tt }
  chart_strict (chart_elements.Step s ∷ es) h =
      let parts = nothing_parts (flat_map (association_faults scope) s.associations) (flat_map (element_faults scope) es) h in
      let rest = chart_strict es parts.1 in
      record {
        tests = rest.tests;
        between = rest.between;
        actions = rest.actions;
        associations = each_append (IsStrictAssociation w d) s.associations (associations_of (flat_map steps_in es)) (associations_strict s.associations parts.0) rest.associations;
      }
  chart_strict (chart_elements.Transition t ∷ es) h =
      let names = flat_map (step_name_faults scope) t.from ++ flat_map (step_name_faults scope) t.to in
      let parts = nothing_parts (names ++ condition_faults scope t.condition) (flat_map (element_faults scope) es) h in
      let own = nothing_parts names (condition_faults scope t.condition) parts.0 in
      let ends = nothing_parts (flat_map (step_name_faults scope) t.from) (flat_map (step_name_faults scope) t.to) own.0 in
      let rest = chart_strict es parts.1 in
      record {
        tests = test_then (expression_fits scope w ties t.condition (Known.position (known scope t.condition)) elems.Bool own.1).term rest.tests;
        between = ((are_steps t.from ends.0, are_steps t.to ends.1), rest.between);
        actions = rest.actions;
        associations = rest.associations;
      }
  chart_strict (chart_elements.Action a ∷ es) h =
      let parts = nothing_parts (body_faults scope a.statements) (flat_map (element_faults scope) es) h in
      let rest = chart_strict es parts.1 in
      record {
        tests = rest.tests;
        between = rest.between;
        actions = action_then (body_strict scope w ties a.statements (around false []) parts.0) rest.actions;
        associations = rest.associations;
      }
