-- Standard functions (2.5.1.5): where no fault is found, each has a term.
use Rattle.std.proofs.Common.{◌≡◌, ℕ, suc, ◌+◌, ◌≤◌, Bool, true, ◌||◌, not, if◌then◌else◌, List, [], ◌∷◌, map, length, Option, Some, refl, sym, ap, ◌∙◌, subst, arith}
use Rattle.st_values.proofs.Cases.{below}
use Rattle.st_values.specs.declared.elem.Elem.{Elem}
use Rattle.st_values.specs.declared.elem.Elem.TheVariants as elems
use Rattle.st_tree.specs.declared.tree.expression.Expression.{Expression}
use Rattle.st_faults.specs.Faults.{fault, when}
use Rattle.st_faults.specs.declared.fault.Rule.TheVariants as rules
use Rattle.st_operators.specs.Operators.{is_integer}
use Rattle.st_types.specs.OwnTypes.{first_own, gives, is_at_most, least_arguments, most_arguments, or_lint, standard_own}
use Rattle.st_types.specs.Scopes.{Scope}
use Rattle.st_types.specs.declared.standard.StandardFunction.{StandardFunction}
use Rattle.st_types.specs.declared.standard.StandardFunction.TheVariants as functions
use Rattle.st_types.specs.declared.symbol.Callee.TheVariants as callees
use Rattle.st_types.specs.declared.symbol.Due.TheVariants as dues
use Rattle.st_check_expressions.specs.Calls.{ArgumentKnown, arguments_faults}
use Rattle.st_check_expressions.specs.Calls as calls
use Rattle.st_check_expressions.specs.Known.{Known, alone, faults_alone, faults_as}
use Rattle.st_check_expressions.specs.Walk.{known}
use Rattle.st_check.proofs.Apart.{nothing_parts}
use Rattle.st_meaning.specs.Operations.{takes_two}
use Rattle.st_meaning.specs.Terms.{Term, unary, binary}
use Rattle.st_meaning.specs.Typing.{Typed, combined, combined_all, function_typed, nil, typed}
use Rattle.st_meaning.specs.Typing as typings
use Rattle.st_meaning.specs.Wholes.{Whole}
use Rattle.st_meaning.specs.declared.operation.Binary.{Binary}
use Rattle.st_meaning.specs.declared.operation.Binary.TheVariants as binaries
use Rattle.st_meaning.specs.declared.operation.Unary.TheVariants as unaries
use Rattle.st_compile.specs.Terms.{AreAll, all_taken, taken_with, IsFunction, IsTerm, absolute, greatest, least, limited, selected, shift_of, shifted}
use Rattle.st_compile.proofs.Chains.{Fits, StrictAs, alone_own, first_of, holds}
use Rattle.st_compile.proofs.Places.{EachFits, either_true}

module _ (scope : Scope) (w : Whole) where
  -- an argument by its position
  abbrev pub given : Expression → ArgumentKnown
  given x = calls.positional (known scope x)

  abbrev pub owns : List Expression → List (Option Elem)
  owns xs = map (λ x. Known.own (known scope x)) xs

  -- no fault where this type is due
  abbrev IsAt : Elem → Expression → Type 0
  IsAt e x = Known.faults_at (known scope x) (Known.position (known scope x)) e ≡ []

  abbrev AreAt : Elem → List Expression → Type 0
  AreAt e [] = Unit {0}
  AreAt e (x ∷ xs) = IsAt e x × AreAt e xs

  at_own : (x : Expression) (e : Elem) → Fits w x (known scope x) (typed w x) → IsAt e x → StrictAs w x e (known scope x) (typed w x)
  at_own x e fits h = fits (Known.position (known scope x)) e h

  least_at : (e : Elem) (n : ℕ) (xs : List Expression) → arguments_faults (callees.Standard functions.Min) (dues.Type e) n (map given xs) ≡ [] → AreAt e xs
  least_at e n [] h = tt
  least_at e n (x ∷ xs) h =
      let parts = nothing_parts (Known.faults_at (known scope x) (Known.position (known scope x)) e) (arguments_faults (callees.Standard functions.Min) (dues.Type e) (n + 1) (map given xs)) h in
      (parts.0, least_at e (n + 1) xs parts.1)

  greatest_at : (e : Elem) (n : ℕ) (xs : List Expression) → arguments_faults (callees.Standard functions.Max) (dues.Type e) n (map given xs) ≡ [] → AreAt e xs
  greatest_at e n [] h = tt
  greatest_at e n (x ∷ xs) h =
      let parts = nothing_parts (Known.faults_at (known scope x) (Known.position (known scope x)) e) (arguments_faults (callees.Standard functions.Max) (dues.Type e) (n + 1) (map given xs)) h in
      (parts.0, greatest_at e (n + 1) xs parts.1)

  -- ---- MIN and MAX

  all_from : (o : Binary) (e : Elem) (a : Typed) (ys : List Expression) → takes_two o e ≡ true → EachFits scope w ys → AreAt e ys
      → AreAll w o e (a.as_type e) ys ((combined_all o a (map (typed w) ys)).as_type e)
  all_from o e a [] takes fits h = all_taken
  all_from o e a (y ∷ ys) takes fits h =
      let same : (combined o 0 a (typed w y)).as_type e ≡ binary o 0 (a.as_type e) ((typed w y).as_type e) =
      ap (λ (b : Bool). if b then binary o 0 (a.as_type e) ((typed w y).as_type e) else nil e) takes in
      taken_with (at_own y e fits.0 h.0).term
      (subst (λ (t : Term). AreAll w o e t ys ((combined_all o (combined o 0 a (typed w y)) (map (typed w) ys)).as_type e)) same
      (all_from o e (combined o 0 a (typed w y)) ys takes fits.1 h.1))

  all_own : (o : Binary) (e : Elem) (a : Typed) (ys : List Expression) → EachFits scope w ys → AreAt e ys → first_own (a.own ∷ owns ys) ≡ (combined_all o a (map (typed w) ys)).own
  all_own o e a [] fits h = alone_own scope w a.own
  all_own o e a (y ∷ ys) fits h =
      ap (λ (b : Option Elem). first_own (a.own ∷ b ∷ owns ys)) (at_own y e fits.0 h.0).own ∙ sym (first_of scope w a.own (typed w y).own (owns ys))
      ∙ all_own o e (combined o 0 a (typed w y)) ys fits.1 h.1

  -- ---- each function

  pub record FunctionFits (f : StandardFunction) (e : Elem) (xs : List Expression) : Type 0 where
    pub own : standard_own f (owns xs) ≡ (function_typed f (map (typed w) xs)).own
    pub term : IsFunction w f e xs ((function_typed f (map (typed w) xs)).as_type e)

  as_many : (n count : ℕ) → is_at_most n (Some count) ≡ true → n ≤ count
  as_many n count h = let few = below n (suc count) h in omega (arith, few)

  abbrev Faultless : StandardFunction → Elem → List Expression → Type 0
  Faultless f e xs = arguments_faults (callees.Standard f) (dues.Type e) 0 (map given xs) ≡ []

  absolute_fits : (e : Elem) (xs : List Expression) → EachFits scope w xs → 1 ≤ length xs → length xs ≤ 1 → Faultless functions.Abs e xs → is_integer e ≡ true → FunctionFits functions.Abs e xs
  absolute_fits e [] fits low high h takes = absurd (omega arith)
  absolute_fits e (x ∷ []) fits low high h takes =
      let is = at_own x e fits.0 (nothing_parts (Known.faults_at (known scope x) (Known.position (known scope x)) e) [] h).0 in
      record {
        own = alone_own scope w (Known.own (known scope x)) ∙ is.own;
        term = subst (λ (b : Bool). IsFunction w functions.Abs e (x ∷ []) (if b then unary unaries.Absolute ((typed w x).as_type e) else nil e)) (sym takes) (absolute takes is.term);
      }
  absolute_fits e (x ∷ y ∷ xs) fits low high h takes = absurd (omega arith)

  least_fits : (e : Elem) (xs : List Expression) → EachFits scope w xs → 2 ≤ length xs → Faultless functions.Min e xs → FunctionFits functions.Min e xs
  least_fits e [] fits low h = absurd (omega arith)
  least_fits e (x ∷ []) fits low h = absurd (omega arith)
  least_fits e (x ∷ y ∷ xs) fits low h =
      let ats = least_at e 0 (x ∷ y ∷ xs) h in
      let is = at_own x e fits.0 ats.0 in
      record {
        own = ap (λ (a : Option Elem). first_own (a ∷ owns (y ∷ xs))) is.own ∙ all_own binaries.Least e (typed w x) (y ∷ xs) fits.1 ats.1;
        term = least is.term (all_from binaries.Least e (typed w x) (y ∷ xs) refl fits.1 ats.1);
      }

  greatest_fits : (e : Elem) (xs : List Expression) → EachFits scope w xs → 2 ≤ length xs → Faultless functions.Max e xs → FunctionFits functions.Max e xs
  greatest_fits e [] fits low h = absurd (omega arith)
  greatest_fits e (x ∷ []) fits low h = absurd (omega arith)
  greatest_fits e (x ∷ y ∷ xs) fits low h =
      let ats = greatest_at e 0 (x ∷ y ∷ xs) h in
      let is = at_own x e fits.0 ats.0 in
      record {
        own = ap (λ (a : Option Elem). first_own (a ∷ owns (y ∷ xs))) is.own ∙ all_own binaries.Greatest e (typed w x) (y ∷ xs) fits.1 ats.1;
        term = greatest is.term (all_from binaries.Greatest e (typed w x) (y ∷ xs) refl fits.1 ats.1);
      }

  limit_fits : (e : Elem) (xs : List Expression) → EachFits scope w xs → 3 ≤ length xs → length xs ≤ 3 → Faultless functions.Limit e xs → FunctionFits functions.Limit e xs
  limit_fits e [] fits low high h = absurd (omega arith)
  limit_fits e (x ∷ []) fits low high h = absurd (omega arith)
  limit_fits e (x ∷ y ∷ []) fits low high h = absurd (omega arith)
  limit_fits e (x ∷ y ∷ z ∷ v ∷ xs) fits low high h = absurd (omega arith)
  limit_fits e (x ∷ y ∷ z ∷ []) fits low high h =
      let f = callees.Standard functions.Limit in
      let parts = nothing_parts (faults_as (known scope x) (dues.Type e)) (arguments_faults f (dues.Type e) 1 (map given (y ∷ z ∷ []))) h in
      let more = nothing_parts (faults_as (known scope y) (dues.Type e)) (arguments_faults f (dues.Type e) 2 (map given (z ∷ []))) parts.1 in
      let last = nothing_parts (faults_as (known scope z) (dues.Type e)) [] more.1 in
      let a = at_own x e fits.0 parts.0 in
      let b = at_own y e fits.1.0 more.0 in
      let c = at_own z e fits.1.1.0 last.0 in
      record {
        own = ap (λ (o : Option Elem). first_own (o ∷ owns (y ∷ z ∷ []))) a.own ∙ ap (λ (o : Option Elem). first_own ((typed w x).own ∷ o ∷ owns (z ∷ []))) b.own
            ∙ ap (λ (o : Option Elem). first_own ((typed w x).own ∷ (typed w y).own ∷ o ∷ [])) c.own ∙ sym (first_of scope w (typed w x).own (typed w y).own ((typed w z).own ∷ []));
        term = limited a.term b.term c.term;
      }

  select_fits : (e : Elem) (xs : List Expression) → EachFits scope w xs → 3 ≤ length xs → length xs ≤ 3 → Faultless functions.Sel e xs → FunctionFits functions.Sel e xs
  select_fits e [] fits low high h = absurd (omega arith)
  select_fits e (x ∷ []) fits low high h = absurd (omega arith)
  select_fits e (x ∷ y ∷ []) fits low high h = absurd (omega arith)
  select_fits e (x ∷ y ∷ z ∷ v ∷ xs) fits low high h = absurd (omega arith)
  select_fits e (x ∷ y ∷ z ∷ []) fits low high h =
      let f = callees.Standard functions.Sel in
      let parts = nothing_parts (faults_as (known scope x) (dues.Type elems.Bool)) (arguments_faults f (dues.Type e) 1 (map given (y ∷ z ∷ []))) h in
      let more = nothing_parts (faults_as (known scope y) (dues.Type e)) (arguments_faults f (dues.Type e) 2 (map given (z ∷ []))) parts.1 in
      let last = nothing_parts (faults_as (known scope z) (dues.Type e)) [] more.1 in
      let a = at_own x elems.Bool fits.0 parts.0 in
      let b = at_own y e fits.1.0 more.0 in
      let c = at_own z e fits.1.1.0 last.0 in
      record {
        own = ap (λ (o : Option Elem). first_own (o ∷ owns (z ∷ []))) b.own ∙ ap (λ (o : Option Elem). first_own ((typed w y).own ∷ o ∷ [])) c.own;
        term = selected a.term b.term c.term;
      }

  -- the count, where any integer type is due
  pub count_strict : (n : Expression) → Fits w n (known scope n) (typed w n) → faults_as (known scope n) dues.Integer ≡ []
      → (is_integer (or_lint (typed w n).own) ≡ true) × IsTerm w (or_lint (typed w n).own) n (typings.alone (typed w n))
  count_strict n fits h =
      let k = known scope n in
      let own = nothing_parts (faults_alone k) (when (not (is_integer (alone k) || k.fits_all)) (fault k.position rules.TypeMismatch)) h in
      let is = fits k.position (alone k) own.0 in
      let whole_number = either_true (is_integer (alone k)) k.fits_all (holds (is_integer (alone k) || k.fits_all) (fault k.position rules.TypeMismatch) own.1) is.known in
      let same : alone k ≡ or_lint (typed w n).own = ap or_lint is.own in
      (subst (λ (e : Elem). is_integer e ≡ true) same whole_number, subst (λ (e : Elem). IsTerm w e n ((typed w n).as_type e)) same is.term)

  shift_term : (f : StandardFunction) (o : Binary) (e : Elem) (x n : Expression) → shift_of f ≡ Some o → takes_two o e ≡ true → StrictAs w x e (known scope x) (typed w x)
      → (is_integer (or_lint (typed w n).own) ≡ true) × IsTerm w (or_lint (typed w n).own) n (typings.alone (typed w n))
      → IsFunction w f e (x ∷ n ∷ []) ((typings.shifted o (typed w x) (typed w n)).as_type e)
  shift_term f o e x n which takes is count =
      subst (λ (b : Bool). IsFunction w f e (x ∷ n ∷ []) (if b then binary o 0 ((typed w x).as_type e) (typings.alone (typed w n)) else nil e)) (sym takes) (shifted which takes is.term count.0 count.1)

  shl_fits : (e : Elem) (xs : List Expression) → EachFits scope w xs → 2 ≤ length xs → length xs ≤ 2 → Faultless functions.Shl e xs → takes_two binaries.ShiftLeft e ≡ true → FunctionFits functions.Shl e xs
  shl_fits e [] fits low high h takes = absurd (omega arith)
  shl_fits e (x ∷ []) fits low high h takes = absurd (omega arith)
  shl_fits e (x ∷ y ∷ z ∷ xs) fits low high h takes = absurd (omega arith)
  shl_fits e (x ∷ n ∷ []) fits low high h takes =
      let parts = nothing_parts (faults_as (known scope x) (dues.Type e)) (arguments_faults (callees.Standard functions.Shl) (dues.Type e) 1 (map given (n ∷ []))) h in
      let last = nothing_parts (faults_as (known scope n) dues.Integer) [] parts.1 in
      let is = at_own x e fits.0 parts.0 in
      record {
        own = alone_own scope w (Known.own (known scope x)) ∙ is.own;
        term = shift_term functions.Shl binaries.ShiftLeft e x n refl takes is (count_strict n fits.1.0 last.0);
      }

  shr_fits : (e : Elem) (xs : List Expression) → EachFits scope w xs → 2 ≤ length xs → length xs ≤ 2 → Faultless functions.Shr e xs → takes_two binaries.ShiftRight e ≡ true → FunctionFits functions.Shr e xs
  shr_fits e [] fits low high h takes = absurd (omega arith)
  shr_fits e (x ∷ []) fits low high h takes = absurd (omega arith)
  shr_fits e (x ∷ y ∷ z ∷ xs) fits low high h takes = absurd (omega arith)
  shr_fits e (x ∷ n ∷ []) fits low high h takes =
      let parts = nothing_parts (faults_as (known scope x) (dues.Type e)) (arguments_faults (callees.Standard functions.Shr) (dues.Type e) 1 (map given (n ∷ []))) h in
      let last = nothing_parts (faults_as (known scope n) dues.Integer) [] parts.1 in
      let is = at_own x e fits.0 parts.0 in
      record {
        own = alone_own scope w (Known.own (known scope x)) ∙ is.own;
        term = shift_term functions.Shr binaries.ShiftRight e x n refl takes is (count_strict n fits.1.0 last.0);
      }

  rol_fits : (e : Elem) (xs : List Expression) → EachFits scope w xs → 2 ≤ length xs → length xs ≤ 2 → Faultless functions.Rol e xs → takes_two binaries.RotateLeft e ≡ true → FunctionFits functions.Rol e xs
  rol_fits e [] fits low high h takes = absurd (omega arith)
  rol_fits e (x ∷ []) fits low high h takes = absurd (omega arith)
  rol_fits e (x ∷ y ∷ z ∷ xs) fits low high h takes = absurd (omega arith)
  rol_fits e (x ∷ n ∷ []) fits low high h takes =
      let parts = nothing_parts (faults_as (known scope x) (dues.Type e)) (arguments_faults (callees.Standard functions.Rol) (dues.Type e) 1 (map given (n ∷ []))) h in
      let last = nothing_parts (faults_as (known scope n) dues.Integer) [] parts.1 in
      let is = at_own x e fits.0 parts.0 in
      record {
        own = alone_own scope w (Known.own (known scope x)) ∙ is.own;
        term = shift_term functions.Rol binaries.RotateLeft e x n refl takes is (count_strict n fits.1.0 last.0);
      }

  ror_fits : (e : Elem) (xs : List Expression) → EachFits scope w xs → 2 ≤ length xs → length xs ≤ 2 → Faultless functions.Ror e xs → takes_two binaries.RotateRight e ≡ true → FunctionFits functions.Ror e xs
  ror_fits e [] fits low high h takes = absurd (omega arith)
  ror_fits e (x ∷ []) fits low high h takes = absurd (omega arith)
  ror_fits e (x ∷ y ∷ z ∷ xs) fits low high h takes = absurd (omega arith)
  ror_fits e (x ∷ n ∷ []) fits low high h takes =
      let parts = nothing_parts (faults_as (known scope x) (dues.Type e)) (arguments_faults (callees.Standard functions.Ror) (dues.Type e) 1 (map given (n ∷ []))) h in
      let last = nothing_parts (faults_as (known scope n) dues.Integer) [] parts.1 in
      let is = at_own x e fits.0 parts.0 in
      record {
        own = alone_own scope w (Known.own (known scope x)) ∙ is.own;
        term = shift_term functions.Ror binaries.RotateRight e x n refl takes is (count_strict n fits.1.0 last.0);
      }

  pub standard_fits : (f : StandardFunction) (e : Elem) (xs : List Expression) → EachFits scope w xs → is_at_most (least_arguments f) (Some (length xs)) ≡ true
      → is_at_most (length xs) (most_arguments f) ≡ true → Faultless f e xs → gives (callees.Standard f) e ≡ true → FunctionFits f e xs
  standard_fits functions.Abs e xs fits low high h takes = absolute_fits e xs fits (as_many 1 (length xs) low) (as_many (length xs) 1 high) h takes
  standard_fits functions.Min e xs fits low high h takes = least_fits e xs fits (as_many 2 (length xs) low) h
  standard_fits functions.Max e xs fits low high h takes = greatest_fits e xs fits (as_many 2 (length xs) low) h
  standard_fits functions.Limit e xs fits low high h takes = limit_fits e xs fits (as_many 3 (length xs) low) (as_many (length xs) 3 high) h
  standard_fits functions.Sel e xs fits low high h takes = select_fits e xs fits (as_many 3 (length xs) low) (as_many (length xs) 3 high) h
  standard_fits functions.Shl e xs fits low high h takes = shl_fits e xs fits (as_many 2 (length xs) low) (as_many (length xs) 2 high) h takes
  standard_fits functions.Shr e xs fits low high h takes = shr_fits e xs fits (as_many 2 (length xs) low) (as_many (length xs) 2 high) h takes
  standard_fits functions.Rol e xs fits low high h takes = rol_fits e xs fits (as_many 2 (length xs) low) (as_many (length xs) 2 high) h takes
  standard_fits functions.Ror e xs fits low high h takes = ror_fits e xs fits (as_many 2 (length xs) low) (as_many (length xs) 2 high) h takes
