-- What takes a value without a fault is a place, which has a type.
use Rattle.std.proofs.Common.{◌≡◌, ℕ, Bool, true, false, ◌&&◌, ◌||◌, not, if◌then◌else◌, List, [], ◌∷◌, ◌++◌, codes, Option, Some, None, is_some, refl, sym, ap, ◌∙◌, subst}
use Rattle.std.specs.List.{list_any}
use Rattle.st_values.proofs.Cases.{both}
use Rattle.st_values.specs.Words.{is_word}
use Rattle.st_values.specs.declared.elem.Elem.{Elem}
use Rattle.st_values.specs.declared.elem.Elem.TheVariants as elems
use Rattle.st_tree.specs.declared.tree.expression.Variable.{Variable}
use Rattle.st_tree.specs.declared.tree.position.Identifier.{Identifier}
use Rattle.st_faults.specs.Faults.{fault, when}
use Rattle.st_faults.specs.declared.fault.Rule.TheVariants as rules
use Rattle.st_operators.specs.Operators.{is_integer}
use Rattle.st_types.specs.Scopes.{Scope, elem_due}
use Rattle.st_types.specs.Types.{elem_of, is_unknown, is_value, plain}
use Rattle.st_types.specs.declared.base.Base.TheVariants as bases
use Rattle.st_types.specs.declared.symbol.Due.TheVariants as dues
use Rattle.st_types.specs.declared.symbol.Symbol.{Symbol}
use Rattle.st_leaves.specs.Selected.{selected_by}
use Rattle.st_check_expressions.specs.Variables.{PartKnown, VariableKnown, is_fixed, is_fixed_purpose, lost, parts_faults, route, select_all, start, start_by, step_start, target_faults, unknown_faults, variable_from, variable_of}
use Rattle.st_check_expressions.specs.Variables as variables
use Rattle.st_check_expressions.specs.declared.route.Route.{Route}
use Rattle.st_check_expressions.specs.declared.route.Start.{Start}
use Rattle.st_check_statements.specs.Statements.{counter_due, counter_faults, counts, is_integer_type, may_count}
use Rattle.st_check.proofs.Apart.{kept_when, neither, nothing_parts}
use Rattle.st_meaning.specs.Terms.{Parts, whole, field_part}
use Rattle.st_meaning.specs.Typing.{through}
use Rattle.st_meaning.specs.Wholes.{Whole, type_of}
use Rattle.st_compile.specs.Terms.{IsPlace, variable}
use Rattle.st_compile.specs.Ties.{IsMadeOf, IsVariable, is_constant, is_member, Ties}
use Rattle.st_compile.proofs.Chains.{holds}
use Rattle.st_compile.proofs.Made.{made_known, made_value}
use Rattle.st_compile.proofs.Places.{PartsFit, elementary_whole, or_true, way}

some_of : (o : Option Elem) → is_some o ≡ true → (e : Elem) × (o ≡ Some e)
some_of (Some e) h = (e, refl)
some_of None h = cc

module _ (scope : Scope) (w : Whole) (ties : Ties scope w) where
  module _ (v : Variable) (counters : List (List ℕ)) where
    pub record TargetAs (k : VariableKnown) (ps : Parts) : Type 0 where
      pub elem : Elem
      pub known : is_unknown k.reached.shape.base ≡ false
      pub own : elem_of k.reached.shape ≡ Some elem
      pub place : IsPlace w v ps
      pub type : type_of w.variables ps ≡ Some elem

    abbrev Goal : List PartKnown → List (Parts → Parts) → Option Symbol → Start → Type 0
    Goal ks fs symbol s = target_faults counters (variable_from scope v.name ks symbol s) ≡ [] → TargetAs (variable_from scope v.name ks symbol s) (field_part v.name.spelling (through fs))

    -- its way is without faults, it has a value, and it is kept by nothing
    record TargetHolds (k : VariableKnown) : Type 0 where
      pub faults : k.faults ≡ []
      pub value : (is_unknown k.reached.shape.base || is_value k.reached.shape) ≡ true
      pub free : is_fixed k.symbol ≡ false
      pub direct : k.reached.through ≡ false

    target_holds : (k : VariableKnown) → target_faults counters k ≡ [] → TargetHolds k
    target_holds k h =
        let valued = is_unknown k.reached.shape.base || is_value k.reached.shape in
        let counted = k.whole && list_any (is_word k.name.spelling) counters in
        let kept = is_fixed k.symbol || k.reached.through || counted in
        let two = nothing_parts (k.faults ++ when (not valued) (fault k.name.position rules.TypeMismatch)) (when kept (fault k.name.position rules.NotAssignable)) h in
        let one = nothing_parts k.faults (when (not valued) (fault k.name.position rules.TypeMismatch)) two.0 in
        let free = neither (is_fixed k.symbol || k.reached.through) counted (kept_when kept (fault k.name.position rules.NotAssignable) two.1) in
        let each = neither (is_fixed k.symbol) k.reached.through free.0 in
        record { faults = one.0; value = holds valued (fault k.name.position rules.TypeMismatch) one.1; free = each.0; direct = each.1 }

    constant_target : (symbol : Symbol) (ks : List PartKnown) (fs : List (Parts → Parts)) → is_fixed_purpose symbol.purpose ≡ true → Goal ks fs (Some symbol) (start (route symbol.shape false) None 0)
    constant_target symbol ks fs fixed h =
        let is = target_holds (variable_from scope v.name ks (Some symbol) (start (route symbol.shape false) None 0)) h in
        absurd (let e : true ≡ false = sym fixed ∙ is.free in cc)

    member_target : (symbol : Symbol) → IsMadeOf scope symbol.shape (selected_by w.variables v.name.spelling) → (ks : List PartKnown) (fs : List (Parts → Parts)) → PartsFit scope w v.parts ks fs
        → Goal ks fs (Some symbol) (start (route symbol.shape false) None 0)
    member_target symbol from ks fs fit h =
        let r = route symbol.shape false in
        let end = select_all scope r ks in
        let is = target_holds (variable_from scope v.name ks (Some symbol) (start r None 0)) h in
        let reached = way scope w v.parts ks fs fit r (selected_by w.variables v.name.spelling) from is.faults in
        let known = made_known scope end.shape reached.at reached.is_made in
        let some = some_of (elem_of end.shape) (or_true (is_unknown end.shape.base) (is_value end.shape) is.value known) in
        record {
          elem = some.0;
          known = known;
          own = some.1;
          place = variable reached.parts_are;
          type = reached.type ∙ made_value scope end.shape reached.at reached.is_made some.0 some.1;
        }

    -- a part of a step takes no value
    last_target : (e : Elem) (n : Identifier) (ks : List PartKnown) (fs : List (Parts → Parts)) → Goal (variables.field n ∷ ks) fs None (start (route (plain (bases.Elementary e)) true) None 1)
    last_target e n ks fs h =
        let r = route (plain (bases.Elementary e)) true in
        let is = target_holds (variable_from scope v.name (variables.field n ∷ ks) None (start r None 1)) h in
        let direct = subst (λ (zs : List PartKnown). Route.through (select_all scope r zs) ≡ false) (elementary_whole scope w ties e true ks is.faults) is.direct in
        absurd (let q : true ≡ false = direct in cc)

    named_target : (n : Identifier) (ks : List PartKnown) (fs : List (Parts → Parts)) → Goal (variables.field n ∷ ks) fs None (step_start v.name (variables.field n ∷ ks))
    named_target n ks fs = by (is_word (codes "X") n.spelling) (is_word (codes "T") n.spelling) where
      by : (x t : Bool) → Goal (variables.field n ∷ ks) fs None
          (if x then start (route (plain (bases.Elementary elems.Bool)) true) None 1
          else if t then start (route (plain (bases.Elementary elems.Time)) true) None 1
          else start (lost false) (Some n.position) 1)
      by true t = last_target elems.Bool n ks fs
      by false true = last_target elems.Time n ks fs
      by false false = λ h. absurd (cc)

    step_target : (ks : List PartKnown) (fs : List (Parts → Parts)) → Goal ks fs None (step_start v.name ks)
    step_target [] fs = λ h. absurd (cc)
    step_target (variables.field n ∷ ks) fs = named_target n ks fs
    step_target (variables.subscripts position xs ∷ ks) fs = λ h. absurd (cc)

    pub variable_target : (ks : List PartKnown) (fs : List (Parts → Parts)) → PartsFit scope w v.parts ks fs → target_faults counters (variable_of scope v.name ks) ≡ []
        → TargetAs (variable_of scope v.name ks) (field_part v.name.spelling (through fs))
    variable_target ks fs fit = by (scope.variable v.name.spelling) refl where
      unknown_target : (b : Bool) → Goal ks fs None (if b then step_start v.name ks else start (lost false) (Some v.name.position) 0)
      unknown_target true = step_target ks fs
      unknown_target false = λ h. absurd (cc)

      found_target : (symbol : Symbol) → IsVariable scope w v.name.spelling symbol → Goal ks fs (Some symbol) (start (route symbol.shape false) None 0)
      found_target symbol (is_constant x purpose is shape) = constant_target symbol ks fs (ap is_fixed_purpose purpose)
      found_target symbol (is_member none from) = member_target symbol from ks fs fit

      by : (symbol : Option Symbol) → scope.variable v.name.spelling ≡ symbol → Goal ks fs symbol (start_by scope v.name ks symbol)
      by (Some symbol) q = found_target symbol (ties.variable v.name.spelling symbol q)
      by None q = unknown_target (scope.step v.name.spelling)

  -- ---- what FOR counts

  pub record Counter (name : List ℕ) : Type 0 where
    pub elem : Elem
    pub integer : is_integer elem ≡ true
    pub type : type_of w.variables (field_part name whole) ≡ Some elem
    pub due : counter_due (scope.variable name) ≡ dues.Type elem

  integer_of : (o : Option Elem) → is_integer_type o ≡ true → (e : Elem) × (o ≡ Some e) × (is_integer e ≡ true)
  integer_of (Some e) h = (e, refl, h)
  integer_of None h = cc

  pub counter_is : (n : Identifier) (counters : List (List ℕ)) → counter_faults counters n (scope.variable n.spelling) ≡ [] → Counter n.spelling
  counter_is n counters h = by (scope.variable n.spelling) refl h where
    found : (s : Symbol) → scope.variable n.spelling ≡ Some s → may_count counters n.spelling s ≡ true → IsVariable scope w n.spelling s → Counter n.spelling
    found s q may (is_constant x purpose is shape) =
        let free = (both (counts s.shape) (not (is_fixed_purpose s.purpose)) (both (counts s.shape && not (is_fixed_purpose s.purpose)) (not (list_any (is_word n.spelling) counters)) may).0).1 in
        absurd (let e : false ≡ true = sym (ap (λ p. not (is_fixed_purpose p)) purpose) ∙ free in cc)
    found s q may (is_member none from) =
        let can = (both (counts s.shape) (not (is_fixed_purpose s.purpose)) (both (counts s.shape && not (is_fixed_purpose s.purpose)) (not (list_any (is_word n.spelling) counters)) may).0).0 in
        let c = selected_by w.variables n.spelling in
        let is = integer_of (elem_of s.shape) (or_true (is_unknown s.shape.base) (is_integer_type (elem_of s.shape)) can (made_known scope s.shape c from)) in
        record {
          elem = is.0;
          integer = is.2;
          type = made_value scope s.shape c from is.0 is.1;
          due = ap counter_due q ∙ ap (λ (b : Bool). if b then elem_due (elem_of s.shape) else dues.Any) can ∙ ap elem_due is.1;
        }

    by : (o : Option Symbol) → scope.variable n.spelling ≡ o → counter_faults counters n o ≡ [] → Counter n.spelling
    by None q h = absurd (cc)
    by (Some s) q h = found s q (holds (may_count counters n.spelling s) (fault n.position rules.NotAssignable) h) (ties.variable n.spelling s q)
