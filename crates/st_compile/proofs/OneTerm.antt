-- A strict term is the one that typing gives: there are no two.
use Rattle.std.proofs.Common.{◌≡◌, ℕ, suc, Bool, true, if◌then◌else◌, List, [], ◌∷◌, map, Option, Some, None, refl, sym, ap, ◌∙◌}
use Rattle.std.specs.List.{flat_map}
use Rattle.st_values.specs.Values.{wrapped}
use Rattle.st_values.specs.declared.elem.Elem.{Elem}
use Rattle.st_values.specs.declared.elem.Elem.TheVariants as elems
use Rattle.st_values.specs.declared.value.Value.{Value}
use Rattle.st_tree.specs.declared.tree.constant.Constant.{Constant}
use Rattle.st_tree.specs.declared.tree.expression.Argument.{Argument, fold-roll-Argument}
use Rattle.st_tree.specs.declared.tree.expression.Argument.TheOpen.{Argument-F, Expression-F, Part-F}
use Rattle.st_tree.specs.declared.tree.expression.Call.{Call, fold_out-Call}
use Rattle.st_tree.specs.declared.tree.expression.Expression.{Expression, fold-roll-Expression}
use Rattle.st_tree.specs.declared.tree.expression.Operation.{Operation, fold_out-Operation}
use Rattle.st_tree.specs.declared.tree.expression.Part.{Part, fold-roll-Part}
use Rattle.st_tree.specs.declared.tree.expression.Variable.{Variable, fold_out-Variable}
use Rattle.st_types.specs.Initials.{value_written}
use Rattle.st_types.specs.OwnTypes.{first_own, or_lint}
use Rattle.st_types.specs.Scopes.{no_scope}
use Rattle.st_types.specs.Standard.{standard_of}
use Rattle.st_types.specs.declared.standard.Standard.{Standard}
use Rattle.st_types.specs.declared.standard.StandardFunction.{StandardFunction}
use Rattle.st_types.specs.declared.standard.StandardFunction.TheVariants as functions
use Rattle.st_meaning.specs.Operations.{takes_two}
use Rattle.st_meaning.specs.Steps.{has_step, step_elem}
use Rattle.st_meaning.specs.Terms.{Term, constant, stored, of_step, unary, binary, selection, call, Terms, more_terms, Parts, whole, field_part, element_part}
use Rattle.st_meaning.specs.Typing.{Passed, Typed, alone, argument_typed, arguments_from, as_input, call_typed, call_typed_in, chained, combined, combined_all, constant_or, converted, fitted, function_called, function_typed, go_to, input_at, joined, nil, operation_typed, part_or_step, part_typed, place_of, place_typed, shifted, sources_from, step_part, step_value, terms_of, through, typed, unnamed, untyped, variable_typed}
use Rattle.st_meaning.specs.Wholes.{Called, Input, Whole, type_of}
use Rattle.st_meaning.specs.declared.operation.Binary.{Binary}
use Rattle.st_meaning.specs.declared.operation.Binary.TheVariants as binaries
use Rattle.st_meaning.specs.declared.operation.Unary.TheVariants as unaries
use Rattle.st_compile.specs.Terms as strict
use Rattle.st_compile.specs.Terms.{AreAll, AreCombined, AreCompared, AreGiven, AreParts, AreSubscripts, IsCalled, IsFunction, IsLiteral, IsPlace, IsTerm, constant_at, own_type, positional, shift_of, value}
use Rattle.st_compile.proofs.Chains.{compared_as, compared_own, joined_as}
use Rattle.st_compile.proofs.Literals.{counted, stays}
use Rattle.st_compile.proofs.Variables.{fitted_own, typed_place}

pub literal_one : (e : Elem) (c : Constant) (v : Value) → IsLiteral e c v → value_written e c ≡ v
literal_one e c v (strict.integer {n = n} {e = d} timed inside) = ap (wrapped d) (counted d n inside) ∙ stays d _ inside
literal_one e c v (strict.stated {v = u} inside) = stays u.elem u.bits inside
literal_one e c v (strict.duration {d = d} inside) = stays elems.Time d.milliseconds inside
literal_one e c v strict.false_is = refl
literal_one e c v strict.true_is = refl

module _ (w : Whole) where
  abbrev made : Operation → Typed → Typed
  made o a = joined o.operator o.position.line a (typed w o.operand)

  made_is : (os : List Operation) → map (operation_typed w) os ≡ map made os
  made_is [] = refl
  made_is (o ∷ os) = ap (λ (f : Typed → Typed). f ∷ map (operation_typed w) os) (fold_out-Operation _ _ _ _ _ _ _ _ _ _ _ _ o) ∙ ap (λ (fs : List (Typed → Typed)). made o ∷ fs) (made_is os)

  named_one : (ps : Parts) (x : Value) → constant_at w ps ≡ Some x → (variable_typed w ps).as_type x.elem ≡ constant x
  named_one (field_part name whole) x h =
      ap (λ (c : Option Value). Typed.as_type (constant_or (place_typed (field_part name whole) (type_of w.variables (field_part name whole))) c) x.elem) h ∙ fitted_own x.elem (constant x)
  named_one whole x h = cc
  named_one (element_part line ts ps) x h = cc
  named_one (field_part name (field_part part ps)) x h = cc
  named_one (field_part name (element_part line ts ps)) x h = cc

  stored_one : (ps : Parts) (e : Elem) → constant_at w ps ≡ None → type_of w.variables ps ≡ Some e → (name : List ℕ) (qs : Parts) → ps ≡ field_part name qs → (variable_typed w ps).as_type e ≡ stored ps
  stored_one ps e none_is type name qs same =
      ap (λ (z : Parts). (variable_typed w z).as_type e) same
      ∙ ap (λ (y : Typed). y.as_type e) (typed_place w name qs e (ap (constant_at w) (sym same) ∙ none_is) (ap (type_of w.variables) (sym same) ∙ type)) ∙ fitted_own e (stored (field_part name qs)) ∙ ap stored (sym same)

  step_one : (name part : List ℕ) (is_time : Bool) → type_of w.variables (field_part name (field_part part whole)) ≡ None → step_part part ≡ Some is_time
      → has_step w.variables name ≡ true → (variable_typed w (field_part name (field_part part whole))).as_type (step_elem is_time) ≡ of_step is_time name
  step_one name part is_time none_is which has =
      ap (λ (y : Typed). y.as_type (step_elem is_time)) (ap (part_or_step w.variables name part) none_is ∙ ap (step_value w.variables name) which
      ∙ ap (λ (b : Bool). if b then record { own = Some (step_elem is_time); as_type = fitted (step_elem is_time) (of_step is_time name) } else untyped) has)
      ∙ fitted_own (step_elem is_time) (of_step is_time name)

  as_shift : (f : StandardFunction) (o : Binary) (x n : Typed) → shift_of f ≡ Some o → function_typed f (x ∷ n ∷ []) ≡ shifted o x n
  as_shift functions.Shl o x n h = ap (λ (p : Binary). shifted p x n) (let e : binaries.ShiftLeft ≡ o = cc in e)
  as_shift functions.Shr o x n h = ap (λ (p : Binary). shifted p x n) (let e : binaries.ShiftRight ≡ o = cc in e)
  as_shift functions.Rol o x n h = ap (λ (p : Binary). shifted p x n) (let e : binaries.RotateLeft ≡ o = cc in e)
  as_shift functions.Ror o x n h = ap (λ (p : Binary). shifted p x n) (let e : binaries.RotateRight ≡ o = cc in e)
  as_shift functions.Abs o x n h = absurd (cc)
  as_shift functions.Min o x n h = absurd (cc)
  as_shift functions.Max o x n h = absurd (cc)
  as_shift functions.Limit o x n h = absurd (cc)
  as_shift functions.Sel o x n h = absurd (cc)

  passed_is : (xs : List Expression) → unnamed (flat_map (λ a. a) (map (argument_typed w) (map positional xs))) ≡ map (typed w) xs
  passed_is [] = refl
  passed_is (x ∷ xs) =
      ap (λ (p : List Passed). unnamed (flat_map (λ a. a) (p ∷ map (argument_typed w) (map positional xs)))) (fold-roll-Argument _ _ _ _ _ _ _ _ _ _ _ _ (Argument-F.Positional x))
      ∙ ap (λ (ys : List Typed). typed w x ∷ ys) (passed_is xs)

  call_is : (c : Call) → call_typed_in w c ≡ call_typed w c.name.position.line c.name.spelling (standard_of c.name.spelling) (flat_map (λ a. a) (map (argument_typed w) c.arguments))
  call_is c = fold_out-Call _ _ _ _ _ _ _ _ _ _ _ _ c

  place_starts : (v : Variable) (ps : Parts) → IsPlace w v ps → (qs : Parts) × (ps ≡ field_part v.name.spelling qs)
  place_starts v ps (strict.variable {ps = qs} parts) = (qs, refl)

  mutual
    pub term_one : (e : Elem) (x : Expression) (t : Term) → IsTerm w e x t → (typed w x).as_type e ≡ t
    term_one e x t (strict.literal {e = d} {c = c} {v = v} h) = ap (λ (y : Typed). y.as_type d) (fold-roll-Expression _ _ _ _ _ _ _ _ _ _ _ _ (Expression-F.Constant c)) ∙ ap constant (literal_one d c v h)
    term_one e x t (strict.named {v = v} {ps = ps} {x = c} place is) =
        ap (λ (y : Typed). y.as_type c.elem) (fold-roll-Expression _ _ _ _ _ _ _ _ _ _ _ _ (Expression-F.Variable v)) ∙ ap (λ (z : Parts). (variable_typed w z).as_type c.elem) (place_one v ps place) ∙ named_one ps c is
    term_one e x t (strict.place {e = d} {v = v} {ps = ps} place none_is type) =
        let start = place_starts v ps place in
        ap (λ (y : Typed). y.as_type d) (fold-roll-Expression _ _ _ _ _ _ _ _ _ _ _ _ (Expression-F.Variable v)) ∙ ap (λ (z : Parts). (variable_typed w z).as_type d) (place_one v ps place)
        ∙ stored_one ps d none_is type v.name.spelling start.0 start.1
    term_one e x t (strict.step {v = v} {name = name} {part = part} {is_time = is_time} place none_is which has) =
        ap (λ (y : Typed). y.as_type (step_elem is_time)) (fold-roll-Expression _ _ _ _ _ _ _ _ _ _ _ _ (Expression-F.Variable v))
        ∙ ap (λ (z : Parts). (variable_typed w z).as_type (step_elem is_time)) (place_one v (field_part name (field_part part whole)) place) ∙ step_one name part is_time none_is which has
    term_one e x t (strict.parenthesized {e = d} position {x = y} {t = a} h) = ap (λ (z : Typed). z.as_type d) (fold-roll-Expression _ _ _ _ _ _ _ _ _ _ _ _ (Expression-F.Parenthesized position y)) ∙ term_one d y a h
    term_one e x t (strict.negate {e = d} position {x = y} {t = a} takes h) =
        ap (λ (z : Typed). z.as_type d) (fold-roll-Expression _ _ _ _ _ _ _ _ _ _ _ _ (Expression-F.Negate position y))
        ∙ ap (λ (b : Bool). if b then unary unaries.Negate ((typed w y).as_type d) else nil d) takes ∙ ap (unary unaries.Negate) (term_one d y a h)
    term_one e x t (strict.complement {e = d} position {x = y} {t = a} takes h) =
        ap (λ (z : Typed). z.as_type d) (fold-roll-Expression _ _ _ _ _ _ _ _ _ _ _ _ (Expression-F.Not position y))
        ∙ ap (λ (b : Bool). if b then unary unaries.Complement ((typed w y).as_type d) else nil d) takes ∙ ap (unary unaries.Complement) (term_one d y a h)
    term_one e x t (strict.combination {e = d} position {x = y} {os = os} {a = a} {t = b} h others) =
        ap (λ (z : Typed). z.as_type d) (fold-roll-Expression _ _ _ _ _ _ _ _ _ _ _ _ (Expression-F.Chain position y os))
        ∙ ap (λ (fs : List (Typed → Typed)). (chained (typed w y) fs).as_type d) (made_is os) ∙ combined_one d (typed w y) a os b (term_one d y a h) others
    term_one e x t (strict.comparison position y o {os = os} {a = a} {b = b} {t = c} compares h k others) =
        let due = or_lint (first_own (own_type w y ∷ own_type w o.operand ∷ [])) in
        let first : (made o (typed w y)).as_type elems.Bool ≡ binary (binaries.Operator o.operator) o.position.line a b =
        compared_as no_scope w o.operator o.position.line (typed w y) (typed w o.operand) due refl compares
        ∙ ap (λ (z : Term). binary (binaries.Operator o.operator) o.position.line z ((typed w o.operand).as_type due)) (term_one due y a h)
        ∙ ap (binary (binaries.Operator o.operator) o.position.line a) (term_one due o.operand b k) in
        ap (λ (z : Typed). z.as_type elems.Bool) (fold-roll-Expression _ _ _ _ _ _ _ _ _ _ _ _ (Expression-F.Chain position y (o ∷ os)))
        ∙ ap (λ (fs : List (Typed → Typed)). (chained (typed w y) fs).as_type elems.Bool) (made_is (o ∷ os))
        ∙ compared_one (made o (typed w y)) (binary (binaries.Operator o.operator) o.position.line a b) os c (compared_own no_scope w o.operator o.position.line (typed w y) (typed w o.operand) compares) first others
    term_one e x t (strict.called {e = d} {c = c} {t = a} h) = ap (λ (z : Typed). z.as_type d) (fold-roll-Expression _ _ _ _ _ _ _ _ _ _ _ _ (Expression-F.Call c)) ∙ called_one d c a h

    combined_one : (e : Elem) (a : Typed) (b : Term) (os : List Operation) (t : Term) → a.as_type e ≡ b → AreCombined w e b os t → (chained a (map made os)).as_type e ≡ t
    combined_one e a b os t same strict.all_combined = same
    combined_one e a b os t same (strict.combined_with {o = o} {os = more} {b = c} plain takes h others) =
        combined_one e (made o a) _ more t
        (joined_as no_scope w o.operator o.position.line a (typed w o.operand) e plain takes ∙ ap (λ (z : Term). binary (binaries.Operator o.operator) o.position.line z ((typed w o.operand).as_type e)) same
        ∙ ap (binary (binaries.Operator o.operator) o.position.line b) (term_one e o.operand c h)) others

    compared_one : (a : Typed) (b : Term) (os : List Operation) (t : Term) → a.own ≡ Some elems.Bool → a.as_type elems.Bool ≡ b → AreCompared w b os t → (chained a (map made os)).as_type elems.Bool ≡ t
    compared_one a b os t own same strict.all_compared = same
    compared_one a b os t own same (strict.compared_with {o = o} {os = more} {b = c} compares h others) =
        let due : or_lint (first_own (a.own ∷ (typed w o.operand).own ∷ [])) ≡ elems.Bool = ap (λ (z : Option Elem). or_lint (first_own (z ∷ (typed w o.operand).own ∷ []))) own in
        compared_one (made o a) _ more t (compared_own no_scope w o.operator o.position.line a (typed w o.operand) compares)
        (compared_as no_scope w o.operator o.position.line a (typed w o.operand) elems.Bool due compares ∙ ap (λ (z : Term). binary (binaries.Operator o.operator) o.position.line z ((typed w o.operand).as_type elems.Bool)) same
        ∙ ap (binary (binaries.Operator o.operator) o.position.line b) (term_one elems.Bool o.operand c h)) others

    pub place_one : (v : Variable) (ps : Parts) → IsPlace w v ps → place_of w v ≡ ps
    place_one v ps (strict.variable {ps = qs} parts) = fold_out-Variable _ _ _ _ _ _ _ _ _ _ _ _ v ∙ ap (field_part v.name.spelling) (parts_one v.parts qs parts)

    parts_one : (parts : List Part) (ps : Parts) → AreParts w parts ps → through (map (part_typed w) parts) ≡ ps
    parts_one parts ps strict.no_part = refl
    parts_one parts ps (strict.field n {parts = more} {ps = qs} h) =
        ap (λ (f : Parts → Parts). f (through (map (part_typed w) more))) (fold-roll-Part _ _ _ _ _ _ _ _ _ _ _ _ (Part-F.Field n)) ∙ ap (field_part n.spelling) (parts_one more qs h)
    parts_one parts ps (strict.element position {xs = xs} {ts = ts} {parts = more} {ps = qs} subscripts h) =
        ap (λ (f : Parts → Parts). f (through (map (part_typed w) more))) (fold-roll-Part _ _ _ _ _ _ _ _ _ _ _ _ (Part-F.Subscripts position xs))
        ∙ ap (λ (us : Terms). element_part position.line us (through (map (part_typed w) more))) (subscripts_one xs ts subscripts) ∙ ap (element_part position.line ts) (parts_one more qs h)

    subscripts_one : (xs : List Expression) (ts : Terms) → AreSubscripts w xs ts → terms_of (map (typed w) xs) ≡ ts
    subscripts_one xs ts strict.no_subscript = refl
    subscripts_one xs ts (strict.subscript {x = x} {xs = more} {t = t} {ts = us} integer h others) =
        ap (λ (z : Term). more_terms z (terms_of (map (typed w) more))) (term_one (or_lint (own_type w x)) x t h) ∙ ap (more_terms t) (subscripts_one more us others)

    called_one : (e : Elem) (c : Call) (t : Term) → IsCalled w e c t → (call_typed_in w c).as_type e ≡ t
    called_one e c t (strict.function f {xs = xs} {t = a} is arguments h) =
        ap (λ (y : Typed). y.as_type e) (call_is c) ∙ ap (λ (s : Option Standard). (call_typed w c.name.position.line c.name.spelling s (flat_map (λ a. a) (map (argument_typed w) c.arguments))).as_type e) is
        ∙ ap (λ (as' : List Argument). (function_typed f (unnamed (flat_map (λ a. a) (map (argument_typed w) as')))).as_type e) arguments
        ∙ ap (λ (ys : List Typed). (function_typed f ys).as_type e) (passed_is xs) ∙ function_one f e xs t h
    called_one e c t (strict.conversion {from = from} {to = to} {x = x} {a = a} is arguments h) =
        ap (λ (y : Typed). y.as_type to) (call_is c) ∙ ap (λ (s : Option Standard). (call_typed w c.name.position.line c.name.spelling s (flat_map (λ a. a) (map (argument_typed w) c.arguments))).as_type to) is
        ∙ ap (λ (as' : List Argument). (converted from to (unnamed (flat_map (λ a. a) (map (argument_typed w) as')))).as_type to) arguments
        ∙ ap (λ (ys : List Typed). (converted from to ys).as_type to) (passed_is (x ∷ [])) ∙ fitted_own to (unary (unaries.Convert to) ((typed w x).as_type from)) ∙ ap (unary (unaries.Convert to)) (term_one from x a h)
    called_one e c t (strict.own f {ts = ts} no_standard is full given) =
        let ps = flat_map (λ a. a) (map (argument_typed w) c.arguments) in
        let made_term = λ (us : Terms). call c.name.position.line f.number f.result us (sources_from (go_to f.inputs 0 ps) 0 f.inputs) in
        ap (λ (y : Typed). y.as_type f.result) (call_is c) ∙ ap (λ (s : Option Standard). (call_typed w c.name.position.line c.name.spelling s ps).as_type f.result) no_standard
        ∙ ap (λ (o : Option Called). (function_called c.name.position.line o ps).as_type f.result) is ∙ fitted_own f.result (made_term (arguments_from f.inputs 0 ps)) ∙ ap made_term (given_one f.inputs 0 c.arguments ts given)

    function_one : (f : StandardFunction) (e : Elem) (xs : List Expression) (t : Term) → IsFunction w f e xs t → (function_typed f (map (typed w) xs)).as_type e ≡ t
    function_one f e xs t (strict.absolute {x = x} {a = a} takes h) = ap (λ (b : Bool). if b then unary unaries.Absolute ((typed w x).as_type e) else nil e) takes ∙ ap (unary unaries.Absolute) (term_one e x a h)
    function_one f e xs t (strict.least {x = x} {y = y} {xs = more} {a = a} h others) = all_one binaries.Least e (typed w x) a (y ∷ more) t (term_one e x a h) refl others
    function_one f e xs t (strict.greatest {x = x} {y = y} {xs = more} {a = a} h others) = all_one binaries.Greatest e (typed w x) a (y ∷ more) t (term_one e x a h) refl others
    function_one f e xs t (strict.limited {low = low} {x = x} {high = high} {a = a} {b = b} {c = c} h k l) =
        ap (λ (z : Term). binary binaries.Least 0 (binary binaries.Greatest 0 z ((typed w x).as_type e)) ((typed w high).as_type e)) (term_one e low a h)
        ∙ ap (λ (z : Term). binary binaries.Least 0 (binary binaries.Greatest 0 a z) ((typed w high).as_type e)) (term_one e x b k)
        ∙ ap (binary binaries.Least 0 (binary binaries.Greatest 0 a b)) (term_one e high c l)
    function_one f e xs t (strict.selected {g = g} {x = x} {y = y} {a = a} {b = b} {c = c} h k l) =
        ap (λ (z : Term). selection z ((typed w x).as_type e) ((typed w y).as_type e)) (term_one elems.Bool g a h) ∙ ap (λ (z : Term). selection a z ((typed w y).as_type e)) (term_one e x b k) ∙ ap (selection a b) (term_one e y c l)
    function_one f e xs t (strict.shifted {o = o} {x = x} {n = n} {a = a} {b = b} which takes h integer k) =
        ap (λ (y : Typed). y.as_type e) (as_shift f o (typed w x) (typed w n) which) ∙ ap (λ (c : Bool). if c then binary o 0 ((typed w x).as_type e) (alone (typed w n)) else nil e) takes
        ∙ ap (λ (z : Term). binary o 0 z (alone (typed w n))) (term_one e x a h) ∙ ap (binary o 0 a) (term_one (or_lint (own_type w n)) n b k)

    all_one : (o : Binary) (e : Elem) (a : Typed) (b : Term) (ys : List Expression) (t : Term) → a.as_type e ≡ b → takes_two o e ≡ true → AreAll w o e b ys t → (combined_all o a (map (typed w) ys)).as_type e ≡ t
    all_one o e a b ys t same takes strict.all_taken = same
    all_one o e a b ys t same takes (strict.taken_with {y = y} {ys = more} {b = c} h others) =
        all_one o e (combined o 0 a (typed w y)) _ more t
        (ap (λ (d : Bool). if d then binary o 0 (a.as_type e) ((typed w y).as_type e) else nil e) takes ∙ ap (λ (z : Term). binary o 0 z ((typed w y).as_type e)) same ∙ ap (binary o 0 b) (term_one e y c h)) takes others

    given_one : (inputs : List Input) (place : ℕ) (as' : List Argument) (ts : Terms) → AreGiven w inputs place as' ts → arguments_from inputs place (flat_map (λ a. a) (map (argument_typed w) as')) ≡ ts
    given_one inputs place as' ts strict.all_given = refl
    given_one inputs place as' ts (strict.by_place {i = i} {x = x} {as' = more} {t = t} {ts = us} at h others) =
        ap (λ (p : List Passed). arguments_from inputs place (flat_map (λ a. a) (p ∷ map (argument_typed w) more))) (fold-roll-Argument _ _ _ _ _ _ _ _ _ _ _ _ (Argument-F.Positional x))
        ∙ ap (λ (o : Option Input). more_terms (as_input (typed w x) o) (arguments_from inputs (suc place) (flat_map (λ a. a) (map (argument_typed w) more)))) at
        ∙ ap (λ (z : Term). more_terms z (arguments_from inputs (suc place) (flat_map (λ a. a) (map (argument_typed w) more)))) (term_one i.initial.elem x t h) ∙ ap (more_terms t) (given_one inputs (suc place) more us others)
    given_one inputs place as' ts (strict.by_name {number = number} n {i = i} {x = x} {as' = more} {t = t} {ts = us} which at h others) =
        ap (λ (p : List Passed). arguments_from inputs place (flat_map (λ a. a) (p ∷ map (argument_typed w) more))) (fold-roll-Argument _ _ _ _ _ _ _ _ _ _ _ _ (Argument-F.Input n x))
        ∙ ap (λ (o : Option ℕ). more_terms (as_input (typed w x) (input_at inputs o)) (arguments_from inputs (suc place) (flat_map (λ a. a) (map (argument_typed w) more)))) which
        ∙ ap (λ (o : Option Input). more_terms (as_input (typed w x) o) (arguments_from inputs (suc place) (flat_map (λ a. a) (map (argument_typed w) more)))) at
        ∙ ap (λ (z : Term). more_terms z (arguments_from inputs (suc place) (flat_map (λ a. a) (map (argument_typed w) more)))) (term_one i.initial.elem x t h) ∙ ap (more_terms t) (given_one inputs (suc place) more us others)
