-- A variable without faults is a constant, a place of the type that is due, or a part of a step.
use Rattle.std.proofs.Common.{◌≡◌, ℕ, Bool, true, false, if◌then◌else◌, List, [], ◌∷◌, ◌++◌, codes, Option, Some, None, refl, sym, ap, ◌∙◌, subst}
use Rattle.st_values.specs.Types.{is_same}
use Rattle.st_values.specs.Words.{is_word}
use Rattle.st_values.specs.declared.elem.Elem.{Elem}
use Rattle.st_values.specs.declared.elem.Elem.TheVariants as elems
use Rattle.st_values.specs.declared.value.Value.{Value}
use Rattle.st_tree.specs.declared.tree.expression.Argument.TheOpen.{Expression-F, Part-F}
use Rattle.st_tree.specs.declared.tree.expression.Expression.{roll-Expression}
use Rattle.st_tree.specs.declared.tree.expression.Part.{Part, roll-Part}
use Rattle.st_tree.specs.declared.tree.expression.Variable.{Variable}
use Rattle.st_tree.specs.declared.tree.position.Identifier.{Identifier}
use Rattle.st_tree.specs.declared.tree.position.Position.{Position}
use Rattle.st_faults.specs.Faults.{fault}
use Rattle.st_faults.specs.declared.fault.Fault.{Fault}
use Rattle.st_faults.specs.declared.fault.Rule.TheVariants as rules
use Rattle.st_types.specs.Scopes.{Scope}
use Rattle.st_types.specs.Types.{Shape, elem_of, is_unknown, plain}
use Rattle.st_types.specs.declared.base.Base.TheVariants as bases
use Rattle.st_types.specs.declared.symbol.Symbol.{Symbol}
use Rattle.st_leaves.specs.Selected.{selected_by}
use Rattle.st_check_expressions.specs.Known.{Known}
use Rattle.st_check_expressions.specs.Variables.{PartKnown, VariableKnown, lost, misfit, parts_faults, route, select_all, start, start_by, step_start, unknown_faults, value_of, variable_from, variable_of}
use Rattle.st_check_expressions.specs.Variables as variables
use Rattle.st_check_expressions.specs.declared.route.Start.{Start}
use Rattle.st_check.proofs.Apart.{nothing_parts}
use Rattle.st_meaning.proofs.TypedTerms.{same_type}
use Rattle.st_meaning.specs.Steps.{step_elem}
use Rattle.st_meaning.specs.Terms.{Term, constant, stored, of_step, Parts, whole, field_part, element_part}
use Rattle.st_meaning.specs.Typing.{Typed, constant_or, fitted, nil, part_or_step, place_typed, step_part, step_value, through, untyped, variable_typed}
use Rattle.st_meaning.specs.Wholes.{Whole, type_of}
use Rattle.st_compile.specs.Terms.{IsTerm, IsPlace, variable, AreParts, no_part, constant_at}
use Rattle.st_compile.specs.Terms as strict
use Rattle.st_compile.specs.Ties.{IsMadeOf, IsStep, IsVariable, is_constant, is_member, Ties}
use Rattle.st_compile.proofs.Chains.{Fits, StrictAs, holds}
use Rattle.st_compile.proofs.Made.{made_known, made_value}
use Rattle.st_compile.proofs.Places.{PartsFit, no_parts_fit, more_parts_fit, field_fits, subscripts_fits, elementary_whole, way}

same_self : (e : Elem) → is_same e e ≡ true
same_self elems.Bool = refl
same_self elems.Sint = refl
same_self elems.Int = refl
same_self elems.Dint = refl
same_self elems.Lint = refl
same_self elems.Usint = refl
same_self elems.Uint = refl
same_self elems.Udint = refl
same_self elems.Ulint = refl
same_self elems.Byte = refl
same_self elems.Word = refl
same_self elems.Dword = refl
same_self elems.Lword = refl
same_self elems.Time = refl

-- at its own type a term stays as it is
pub fitted_own : (e : Elem) (t : Term) → fitted e t e ≡ t
fitted_own e t = ap (λ (b : Bool). if b then t else nil e) (same_self e)

-- a value that has the type that is due
misfit_none : (fits_all : Bool) (own : Option Elem) (at : Position) (e : Elem) → fits_all ≡ false → misfit fits_all own at e ≡ [] → own ≡ Some e
misfit_none fits_all (Some d) at e known h = ap (λ (t : Elem). Some t) (same_type d e (holds (is_same d e) (fault at rules.TypeMismatch) h))
misfit_none fits_all None at e known h = absurd (let q : false ≡ true = sym known ∙ holds fits_all (fault at rules.TypeMismatch) h in cc)

-- what is typed at one place alone
place_as : (w : Whole) (ps : Parts) (e : Elem) → type_of w.variables ps ≡ Some e → place_typed ps (type_of w.variables ps) ≡ place_typed ps (Some e)
place_as w ps e h = ap (place_typed ps) h

pub typed_place : (w : Whole) (name : List ℕ) (qs : Parts) (e : Elem) → constant_at w (field_part name qs) ≡ None → type_of w.variables (field_part name qs) ≡ Some e
    → variable_typed w (field_part name qs) ≡ place_typed (field_part name qs) (Some e)
typed_place w name whole e none h =
    ap (constant_or (place_typed (field_part name whole) (type_of w.variables (field_part name whole)))) none ∙ place_as w (field_part name whole) e h
typed_place w name (field_part part whole) e none h = ap (part_or_step w.variables name part) h
typed_place w name (field_part part (field_part other ps)) e none h = place_as w (field_part name (field_part part (field_part other ps))) e h
typed_place w name (field_part part (element_part line ts ps)) e none h = place_as w (field_part name (field_part part (element_part line ts ps))) e h
typed_place w name (element_part line ts ps) e none h = place_as w (field_part name (element_part line ts ps)) e h

constant_none : (w : Whole) (name : List ℕ) (qs : Parts) → w.constants name ≡ None → constant_at w (field_part name qs) ≡ None
constant_none w name whole h = h
constant_none w name (field_part part ps) h = refl
constant_none w name (element_part line ts ps) h = refl

module _ (scope : Scope) (w : Whole) (ties : Ties scope w) (v : Variable) where
  abbrev Goal : List PartKnown → List (Parts → Parts) → Option Symbol → Start → Type 0
  Goal ks fs symbol s = Fits w (roll-Expression (Expression-F.Variable v)) (value_of (variable_from scope v.name ks symbol s)) (variable_typed w (field_part v.name.spelling (through fs)))

  -- ---- a constant

  constant_strict : (x : Value) → w.constants v.name.spelling ≡ Some x → v.parts ≡ [] → (t : Elem) → x.elem ≡ t
      → IsTerm w t (roll-Expression (Expression-F.Variable v)) ((variable_typed w (field_part v.name.spelling whole)).as_type t)
  constant_strict x is bare t same =
      let place : IsPlace w v (field_part v.name.spelling whole) = variable (subst (λ (ps : List Part). AreParts w ps whole) (sym bare) no_part) in
      let name = field_part v.name.spelling whole in
      let value : (variable_typed w name).as_type x.elem ≡ constant x =
      ap (λ (c : Option Value). Typed.as_type (constant_or (place_typed name (type_of w.variables name)) c) x.elem) is ∙ fitted_own x.elem (constant x) in
      subst (λ (d : Elem). IsTerm w d (roll-Expression (Expression-F.Variable v)) ((variable_typed w name).as_type d)) same
      (subst (IsTerm w x.elem (roll-Expression (Expression-F.Variable v))) (sym value) (strict.named place is))

  constant_fits : (symbol : Symbol) (x : Value) → w.constants v.name.spelling ≡ Some x → symbol.shape ≡ plain (bases.Elementary x.elem)
      → (parts : List Part) (ks : List PartKnown) (fs : List (Parts → Parts)) → PartsFit scope w parts ks fs → v.parts ≡ parts → Goal ks fs (Some symbol) (start (route symbol.shape false) None 0)
  constant_fits symbol x is shape parts ks fs fit same at t h =
      let r = route symbol.shape false in
      let both = nothing_parts (parts_faults scope r ks) (misfit (is_unknown (select_all scope r ks).shape.base) (elem_of (select_all scope r ks).shape) at t) h in
      let plain_faults = subst (λ (s : Shape). parts_faults scope (route s false) ks ≡ []) shape both.0 in
      by parts ks fs fit same (elementary_whole scope w ties x.elem false ks plain_faults) both.1 where
        by : (parts : List Part) (ks : List PartKnown) (fs : List (Parts → Parts)) → PartsFit scope w parts ks fs → v.parts ≡ parts → ks ≡ []
            → misfit (is_unknown (select_all scope (route symbol.shape false) ks).shape.base) (elem_of (select_all scope (route symbol.shape false) ks).shape) at t ≡ []
            → StrictAs w (roll-Expression (Expression-F.Variable v)) t (value_of (variable_from scope v.name ks (Some symbol) (start (route symbol.shape false) None 0))) (variable_typed w (field_part v.name.spelling (through fs)))
        by parts ks fs no_parts_fit same none h =
            let own : elem_of symbol.shape ≡ Some x.elem = ap elem_of shape in
            let known : is_unknown symbol.shape.base ≡ false = ap (λ (s : Shape). is_unknown s.base) shape in
            let fits : elem_of symbol.shape ≡ Some t = misfit_none (is_unknown symbol.shape.base) (elem_of symbol.shape) at t known h in
            let due : x.elem ≡ t = let e : Some x.elem ≡ Some t = sym own ∙ fits in cc in
            let name = field_part v.name.spelling whole in
            record {
              own = own ∙ sym (ap (λ (c : Option Value). Typed.own (constant_or (place_typed name (type_of w.variables name)) c)) is);
              known = known;
              term = constant_strict x is same t due;
            }
        by parts ks fs (more_parts_fit fit more) same none h = absurd (cc)

  -- ---- a place

  member_fits : (symbol : Symbol) → w.constants v.name.spelling ≡ None → IsMadeOf scope symbol.shape (selected_by w.variables v.name.spelling)
      → (ks : List PartKnown) (fs : List (Parts → Parts)) → PartsFit scope w v.parts ks fs → Goal ks fs (Some symbol) (start (route symbol.shape false) None 0)
  member_fits symbol none is ks fs fit at t h =
      let r = route symbol.shape false in
      let end = select_all scope r ks in
      let both = nothing_parts (parts_faults scope r ks) (misfit (is_unknown end.shape.base) (elem_of end.shape) at t) h in
      let reached = way scope w v.parts ks fs fit r (selected_by w.variables v.name.spelling) is both.0 in
      let known = made_known scope end.shape reached.at reached.is_made in
      let own : elem_of end.shape ≡ Some t = misfit_none (is_unknown end.shape.base) (elem_of end.shape) at t known both.1 in
      let ps = field_part v.name.spelling (through fs) in
      let type : type_of w.variables ps ≡ Some t = reached.type ∙ made_value scope end.shape reached.at reached.is_made t own in
      let unnamed = constant_none w v.name.spelling (through fs) none in
      let place = typed_place w v.name.spelling (through fs) t unnamed type in
      let same : (variable_typed w ps).as_type t ≡ stored ps = ap (λ (y : Typed). y.as_type t) place ∙ fitted_own t (stored ps) in
      record {
        own = own ∙ sym (ap Typed.own place);
        known = known;
        term = subst (IsTerm w t (roll-Expression (Expression-F.Variable v))) (sym same) (strict.place (variable reached.parts_are) unnamed type);
      }

  -- ---- a part of a step

  abbrev own_value : List ℕ → Bool → Typed
  own_value name is_time = record { own = Some (step_elem is_time); as_type = fitted (step_elem is_time) (of_step is_time name) }

  step_typed : (name part : List ℕ) (is_time : Bool) → IsStep w name → step_part part ≡ Some is_time → variable_typed w (field_part name (field_part part whole)) ≡ own_value name is_time
  step_typed name part is_time is which =
      ap (part_or_step w.variables name part) (is.apart part) ∙ ap (step_value w.variables name) which
      ∙ ap (λ (b : Bool). if b then own_value name is_time else untyped) is.step

  step_found : (is_time : Bool) → IsStep w v.name.spelling → (part : List ℕ) → step_part part ≡ Some is_time → AreParts w v.parts (field_part part whole)
      → (at : Position) (t : Elem) (faults : List Fault) → faults ++ misfit false (Some (step_elem is_time)) at t ≡ []
      → (Some (step_elem is_time) ≡ (variable_typed w (field_part v.name.spelling (field_part part whole))).own)
      × IsTerm w t (roll-Expression (Expression-F.Variable v)) ((variable_typed w (field_part v.name.spelling (field_part part whole))).as_type t)
  step_found is_time is part which parts at t faults h =
      let e = step_elem is_time in
      let ps = field_part v.name.spelling (field_part part whole) in
      let fits : Some e ≡ Some t = misfit_none false (Some e) at t refl (nothing_parts faults (misfit false (Some e) at t) h).1 in
      let due : e ≡ t = cc in
      let typed_is = step_typed v.name.spelling part is_time is which in
      let same : (variable_typed w ps).as_type e ≡ of_step is_time v.name.spelling = ap (λ (y : Typed). y.as_type e) typed_is ∙ fitted_own e (of_step is_time v.name.spelling) in
      let place : IsPlace w v ps = variable parts in (
        sym (ap Typed.own typed_is),
        subst (λ (d : Elem). IsTerm w d (roll-Expression (Expression-F.Variable v)) ((variable_typed w ps).as_type d)) due
            (subst (IsTerm w e (roll-Expression (Expression-F.Variable v))) (sym same) (strict.step place (is.apart part) which is.step)),
      )

  -- of the part that is named last
  last_fits : (is_time : Bool) → IsStep w v.name.spelling → (n : Identifier) → step_part n.spelling ≡ Some is_time
      → (parts : List Part) (ks : List PartKnown) (fs : List (Parts → Parts)) → PartsFit scope w parts ks fs
      → v.parts ≡ (roll-Part (Part-F.Field n) ∷ parts)
      → Goal (variables.field n ∷ ks) ((λ ps. field_part n.spelling ps) ∷ fs) None (start (route (plain (bases.Elementary (step_elem is_time))) true) None 1)
  last_fits is_time is n which parts ks fs fit same at t h =
      let r = route (plain (bases.Elementary (step_elem is_time))) true in
      let both = nothing_parts (parts_faults scope r ks) (misfit (is_unknown (select_all scope r ks).shape.base) (elem_of (select_all scope r ks).shape) at t) h in
      by parts ks fs fit same (elementary_whole scope w ties (step_elem is_time) true ks both.0) h where
        by : (parts : List Part) (ks : List PartKnown) (fs : List (Parts → Parts)) → PartsFit scope w parts ks fs
            → v.parts ≡ (roll-Part (Part-F.Field n) ∷ parts) → ks ≡ []
            → Known.faults_at (value_of (variable_from scope v.name (variables.field n ∷ ks) None (start (route (plain (bases.Elementary (step_elem is_time))) true) None 1))) at t ≡ []
            → StrictAs w (roll-Expression (Expression-F.Variable v)) t (value_of (variable_from scope v.name (variables.field n ∷ ks) None (start (route (plain (bases.Elementary (step_elem is_time))) true) None 1)))
            (variable_typed w (field_part v.name.spelling (through ((λ ps. field_part n.spelling ps) ∷ fs))))
        by parts ks fs no_parts_fit same none h =
            let parts_are : AreParts w v.parts (field_part n.spelling whole) = subst (λ (ps : List Part). AreParts w ps (field_part n.spelling whole)) (sym same) (strict.field n no_part) in
            let found = step_found is_time is n.spelling which parts_are at t [] h in
            record { own = found.0; known = refl; term = found.1 }
        by parts ks fs (more_parts_fit fit more) same none h = absurd (cc)

  abbrev Started : List PartKnown → List (Parts → Parts) → Type 0
  Started ks fs = Goal ks fs None (step_start v.name ks)

  named_fits : IsStep w v.name.spelling → (n : Identifier) (parts : List Part) (ks : List PartKnown) (fs : List (Parts → Parts)) → PartsFit scope w parts ks fs
      → v.parts ≡ (roll-Part (Part-F.Field n) ∷ parts)
      → Started (variables.field n ∷ ks) ((λ ps. field_part n.spelling ps) ∷ fs)
  named_fits is n parts ks fs fit same = by (is_word (codes "X") n.spelling) (is_word (codes "T") n.spelling) refl refl where
    by : (x t : Bool) → is_word (codes "X") n.spelling ≡ x → is_word (codes "T") n.spelling ≡ t
        → Goal (variables.field n ∷ ks) ((λ ps. field_part n.spelling ps) ∷ fs) None
        (if x then start (route (plain (bases.Elementary elems.Bool)) true) None 1
        else if t then start (route (plain (bases.Elementary elems.Time)) true) None 1
        else start (lost false) (Some n.position) 1)
    by true t p q = last_fits false is n (ap (λ (b : Bool). if b then Some false else if is_word (codes "T") n.spelling then Some true else None) p) parts ks fs fit same
    by false true p q =
        last_fits true is n (ap (λ (b : Bool). if b then Some false else if is_word (codes "T") n.spelling then Some true else None) p
        ∙ ap (λ (b : Bool). if b then Some true else None) q) parts ks fs fit same
    by false false p q = λ at t h. absurd (cc)

  step_fits : IsStep w v.name.spelling → (parts : List Part) (ks : List PartKnown) (fs : List (Parts → Parts)) → PartsFit scope w parts ks fs → v.parts ≡ parts → Started ks fs
  step_fits is parts ks fs no_parts_fit same = λ at t h. absurd (cc)
  step_fits is parts ks fs (more_parts_fit {parts = others} {ks = ls} {fs = gs} (field_fits n) fit) same = named_fits is n others ls gs fit same
  step_fits is parts ks fs (more_parts_fit {parts = others} {ks = ls} {fs = gs} (subscripts_fits position xs subscripts) fit) same = λ at t h. absurd (cc)

  -- ---- whichever it is

  pub variable_fits : (ks : List PartKnown) (fs : List (Parts → Parts)) → PartsFit scope w v.parts ks fs
      → Fits w (roll-Expression (Expression-F.Variable v)) (value_of (variable_of scope v.name ks)) (variable_typed w (field_part v.name.spelling (through fs)))
  variable_fits ks fs fit = by (scope.variable v.name.spelling) refl where
    unknown_fits : (b : Bool) → scope.step v.name.spelling ≡ b → scope.variable v.name.spelling ≡ None
        → Goal ks fs None (if b then step_start v.name ks else start (lost false) (Some v.name.position) 0)
    unknown_fits true q none = step_fits (ties.step v.name.spelling none q) v.parts ks fs fit refl
    unknown_fits false q none = λ at t h. absurd (cc)

    found_fits : (symbol : Symbol) → IsVariable scope w v.name.spelling symbol → Goal ks fs (Some symbol) (start (route symbol.shape false) None 0)
    found_fits symbol (is_constant x purpose is shape) = constant_fits symbol x is shape v.parts ks fs fit refl
    found_fits symbol (is_member none is) = member_fits symbol none is ks fs fit

    by : (symbol : Option Symbol) → scope.variable v.name.spelling ≡ symbol → Goal ks fs symbol (start_by scope v.name ks symbol)
    by (Some symbol) q = found_fits symbol (ties.variable v.name.spelling symbol q)
    by None q = unknown_fits (scope.step v.name.spelling) refl q
