-- Operators and their operands: where no fault is found, each node has a term.
use Rattle.std.proofs.Common.{◌≡◌, ℕ, Bool, true, false, ◌&&◌, not, if◌then◌else◌, List, [], ◌∷◌, ◌++◌, map, Option, Some, None, refl, sym, ap, ◌∙◌, subst}
use Rattle.std.specs.List.{list_all}
use Rattle.st_values.proofs.Cases.{both}
use Rattle.st_values.specs.declared.elem.Elem.{Elem}
use Rattle.st_values.specs.declared.elem.Elem.TheVariants as elems
use Rattle.st_tree.specs.declared.operator.BinOp.{BinOp}
use Rattle.st_tree.specs.declared.operator.BinOp.TheVariants as operators
use Rattle.st_tree.specs.declared.tree.constant.Constant.{Constant}
use Rattle.st_tree.specs.declared.tree.expression.Argument.TheOpen.{Expression-F}
use Rattle.st_tree.specs.declared.tree.expression.Expression.{Expression, roll-Expression}
use Rattle.st_tree.specs.declared.tree.expression.Operation.{Operation}
use Rattle.st_tree.specs.declared.tree.position.Position.{Position}
use Rattle.st_faults.specs.Faults.{fault, when}
use Rattle.st_faults.specs.declared.fault.Fault.{Fault}
use Rattle.st_faults.specs.declared.fault.Rule.TheVariants as rules
use Rattle.st_operators.specs.Operators.{is_comparison}
use Rattle.st_types.specs.OwnTypes.{compared_type, first_own, or_lint}
use Rattle.st_operators.specs.Operators as own_types
use Rattle.st_types.specs.Scopes.{Scope}
use Rattle.st_check_expressions.specs.Known.{Known, OperandKnown, all_combine, all_compare, chain, combines, compared_at, complemented, negated, operands_at, operators_of, owns_of, parenthesized}
use Rattle.st_check_expressions.specs.Known as knowns
use Rattle.st_check_expressions.specs.Walk.{known}
use Rattle.st_check.proofs.Apart.{kept_when, nothing_parts}
use Rattle.st_check.proofs.DataTypes.{is_true}
use Rattle.st_meaning.specs.Operations.{takes_one, takes_two}
use Rattle.st_meaning.specs.Terms.{Term, unary, binary}
use Rattle.st_meaning.specs.Typing.{Typed, chained, combined, compared, joined, nil, prefixed, typed}
use Rattle.st_meaning.specs.Typing as typings
use Rattle.st_meaning.specs.Wholes.{Whole}
use Rattle.st_meaning.specs.declared.operation.Binary.TheVariants as binaries
use Rattle.st_meaning.specs.declared.operation.Unary.TheVariants as unaries
use Rattle.st_meaning.proofs.TypedTerms.{same_type}
use Rattle.st_compile.specs.Terms.{AreCombined, all_combined, combined_with, AreCompared, all_compared, compared_with, IsTerm, common_type}
use Rattle.st_compile.specs.Terms as strict
use Rattle.st_compile.proofs.Literals.{literal_is, literal_known}

-- a rule that isn't broken holds
pub holds : (b : Bool) (f : Fault) → when (not b) f ≡ [] → b ≡ true
holds b f h = is_true b (kept_when (not b) f h)

-- ---- both sides take the same types

takes_alike : (o : BinOp) (e : Elem) → own_types.takes o e ≡ takes_two (binaries.Operator o) e
takes_alike operators.Add e = refl
takes_alike operators.Sub e = refl
takes_alike operators.Mul e = refl
takes_alike operators.Div e = refl
takes_alike operators.Mod e = refl
takes_alike operators.And e = refl
takes_alike operators.Or e = refl
takes_alike operators.Xor e = refl
takes_alike _ e = refl

-- ---- what is known of an expression, and what it means

-- where this type is due: the own type of both, which can be known, and a term
pub record StrictAs (w : Whole) (x : Expression) (t : Elem) (k : Known) (y : Typed) : Type 0 where
  pub own : k.own ≡ y.own
  pub known : k.fits_all ≡ false
  pub term : IsTerm w t x (y.as_type t)

abbrev pub Fits : Whole → Expression → Known → Typed → Type 0
Fits w x k y = (at : Position) (t : Elem) → k.faults_at at t ≡ [] → StrictAs w x t k y

module _ (scope : Scope) (w : Whole) where
  pub literal_fits : (c : Constant) → Fits w (roll-Expression (Expression-F.Constant c)) (knowns.literal c) (typings.literal c)
  literal_fits c at t h = record { own = refl; known = literal_known c at t h; term = strict.literal (literal_is c at t h) }

  pub parenthesized_fits : (position : Position) (x : Expression) (k : Known) (y : Typed) → Fits w x k y
      → Fits w (roll-Expression (Expression-F.Parenthesized position x)) (parenthesized position k) y
  parenthesized_fits position x k y fits at t h = let is = fits at t h in record { own = is.own; known = is.known; term = strict.parenthesized position is.term }

  pub negate_fits : (position : Position) (x : Expression) (k : Known) (y : Typed) → Fits w x k y
      → Fits w (roll-Expression (Expression-F.Negate position x)) (negated position k) (prefixed unaries.Negate y)
  negate_fits position x k y fits at t h =
      let parts = nothing_parts (k.faults_at k.position t) (when (not (own_types.negates t)) (fault at rules.TypeMismatch)) h in
      let is = fits k.position t parts.0 in
      let takes : takes_one unaries.Negate t ≡ true = holds (own_types.negates t) (fault at rules.TypeMismatch) parts.1 in
      record {
        own = is.own;
        known = refl;
        term = subst (λ b. IsTerm w t (roll-Expression (Expression-F.Negate position x)) (if b then unary unaries.Negate (y.as_type t) else nil t)) (sym takes)
            (strict.negate position takes is.term);
      }

  pub complement_fits : (position : Position) (x : Expression) (k : Known) (y : Typed) → Fits w x k y
      → Fits w (roll-Expression (Expression-F.Not position x)) (complemented position k) (prefixed unaries.Complement y)
  complement_fits position x k y fits at t h =
      let parts = nothing_parts (k.faults_at k.position t) (when (not (own_types.complements t)) (fault at rules.TypeMismatch)) h in
      let is = fits k.position t parts.0 in
      let takes : takes_one unaries.Complement t ≡ true = holds (own_types.complements t) (fault at rules.TypeMismatch) parts.1 in
      record {
        own = is.own;
        known = refl;
        term = subst (λ b. IsTerm w t (roll-Expression (Expression-F.Not position x)) (if b then unary unaries.Complement (y.as_type t) else nil t)) (sym takes)
            (strict.complement position takes is.term);
      }

  -- ---- chains: of each operation what is known of it, and what it makes of its left operand

  abbrev pub known_of : Operation → OperandKnown
  known_of o = record { operator = o.operator; operand = known scope o.operand }

  abbrev pub made_of : Operation → Typed → Typed
  made_of o a = joined o.operator o.position.line a (typed w o.operand)

  abbrev pub OperandFits : Operation → Type 0
  OperandFits o = Fits w o.operand (known scope o.operand) (typed w o.operand)

  abbrev pub OperandsFit : List Operation → Type 0
  OperandsFit [] = Unit {0}
  OperandsFit (o ∷ os) = OperandFits o × OperandsFit os

  -- ---- operators that give what they take

  abbrev Combine : List Operation → Elem → Type 0
  Combine os t = all_combine (operators_of (map known_of os)) t ≡ true

  pub joined_as : (o : BinOp) (line : ℕ) (a b : Typed) (t : Elem) → is_comparison o ≡ false → takes_two (binaries.Operator o) t ≡ true
      → (joined o line a b).as_type t ≡ binary (binaries.Operator o) line (a.as_type t) (b.as_type t)
  joined_as o line a b t plain takes =
      ap (λ (c : Bool). Typed.as_type (if c then compared o line a b else combined (binaries.Operator o) line a b) t) plain
      ∙ ap (λ (c : Bool). if c then binary (binaries.Operator o) line (a.as_type t) (b.as_type t) else nil t) takes

  joined_own : (o : BinOp) (line : ℕ) (a b : Typed) → is_comparison o ≡ false → (joined o line a b).own ≡ first_own (a.own ∷ b.own ∷ [])
  joined_own o line a b plain = ap (λ (c : Bool). Typed.own (if c then compared o line a b else combined (binaries.Operator o) line a b)) plain

  not_false : (b : Bool) → not b ≡ true → b ≡ false
  not_false true h = cc
  not_false false h = refl

  -- the operator of one, and those behind it
  combine_parts : (t : Elem) (o : Operation) (os : List Operation) → Combine (o ∷ os) t
      → (is_comparison o.operator ≡ false) × (takes_two (binaries.Operator o.operator) t ≡ true) × Combine os t
  combine_parts t o os h =
      let all = both (combines o.operator t) (all_combine (operators_of (map known_of os)) t) h in
      let one = both (not (is_comparison o.operator)) (own_types.takes o.operator t) all.0 in
      (not_false (is_comparison o.operator) one.0, sym (takes_alike o.operator t) ∙ one.1, all.1)

  combined_from : (t : Elem) (a : Typed) (os : List Operation) → Combine os t → OperandsFit os → operands_at (map known_of os) t ≡ []
      → AreCombined w t (a.as_type t) os ((chained a (map made_of os)).as_type t)
  combined_from t a [] combine fits h = all_combined
  combined_from t a (o ∷ os) combine fits h =
      let is_one = combine_parts t o os combine in
      let parts = nothing_parts (Known.faults_at (known scope o.operand) (Known.position (known scope o.operand)) t) (operands_at (map known_of os) t) h in
      let is = fits.0 (Known.position (known scope o.operand)) t parts.0 in
      let same = joined_as o.operator o.position.line a (typed w o.operand) t is_one.0 is_one.1 in
      combined_with is_one.0 is_one.1 is.term
      (subst (λ (b : Term). AreCombined w t b os ((chained (made_of o a) (map made_of os)).as_type t)) same (combined_from t (made_of o a) os is_one.2 fits.1 parts.1))

  pub first_of : (a b : Option Elem) (more : List (Option Elem)) → first_own (first_own (a ∷ b ∷ []) ∷ more) ≡ first_own (a ∷ b ∷ more)
  first_of (Some e) b more = refl
  first_of None (Some e) more = refl
  first_of None None more = refl

  combined_own : (t : Elem) (a : Typed) (os : List Operation) → Combine os t → OperandsFit os → operands_at (map known_of os) t ≡ []
      → first_own (a.own ∷ owns_of (map known_of os)) ≡ (chained a (map made_of os)).own
  combined_own t a [] combine fits h = by a.own where
    by : (own : Option Elem) → first_own (own ∷ []) ≡ own
    by None = refl
    by (Some e) = refl
  combined_own t a (o ∷ os) combine fits h =
      let is_one = combine_parts t o os combine in
      let parts = nothing_parts (Known.faults_at (known scope o.operand) (Known.position (known scope o.operand)) t) (operands_at (map known_of os) t) h in
      let is = fits.0 (Known.position (known scope o.operand)) t parts.0 in
      ap (λ (b : Option Elem). first_own (a.own ∷ b ∷ owns_of (map known_of os))) is.own
      ∙ sym (first_of a.own (typed w o.operand).own (owns_of (map known_of os)))
      ∙ ap (λ (b : Option Elem). first_own (b ∷ owns_of (map known_of os))) (sym (joined_own o.operator o.position.line a (typed w o.operand) is_one.0))
      ∙ combined_own t (made_of o a) os is_one.2 fits.1 parts.1

  -- ---- comparisons

  abbrev EachCompares : List Operation → Type 0
  EachCompares os = list_all is_comparison (operators_of (map known_of os)) ≡ true

  pub compared_as : (o : BinOp) (line : ℕ) (a b : Typed) (e : Elem) → or_lint (first_own (a.own ∷ b.own ∷ [])) ≡ e → is_comparison o ≡ true
      → (joined o line a b).as_type elems.Bool ≡ binary (binaries.Operator o) line (a.as_type e) (b.as_type e)
  compared_as o line a b e is compares =
      ap (λ (c : Bool). Typed.as_type (if c then compared o line a b else combined (binaries.Operator o) line a b) elems.Bool) compares
      ∙ ap (λ (t : Elem). binary (binaries.Operator o) line (a.as_type t) (b.as_type t)) is

  pub compared_own : (o : BinOp) (line : ℕ) (a b : Typed) → is_comparison o ≡ true → (joined o line a b).own ≡ Some elems.Bool
  compared_own o line a b compares = ap (λ (c : Bool). Typed.own (if c then compared o line a b else combined (binaries.Operator o) line a b)) compares

  compared_from : (a : Typed) (os : List Operation) → a.own ≡ Some elems.Bool → EachCompares os → OperandsFit os → compared_at (map known_of os) elems.Bool ≡ []
      → AreCompared w (a.as_type elems.Bool) os ((chained a (map made_of os)).as_type elems.Bool)
  compared_from a [] own compare fits h = all_compared
  compared_from a (o ∷ os) own compare fits h =
      let compares = both (is_comparison o.operator) (list_all is_comparison (operators_of (map known_of os))) compare in
      let parts = nothing_parts (Known.faults_at (known scope o.operand) (Known.position (known scope o.operand)) elems.Bool) (compared_at (map known_of os) elems.Bool) h in
      let is = fits.0 (Known.position (known scope o.operand)) elems.Bool parts.0 in
      let due : or_lint (first_own (a.own ∷ (typed w o.operand).own ∷ [])) ≡ elems.Bool = ap (λ (b : Option Elem). or_lint (first_own (b ∷ (typed w o.operand).own ∷ []))) own in
      let same = compared_as o.operator o.position.line a (typed w o.operand) elems.Bool due compares.0 in
      compared_with compares.0 is.term
      (subst (λ (b : Term). AreCompared w b os ((chained (made_of o a) (map made_of os)).as_type elems.Bool)) same
      (compared_from (made_of o a) os (compared_own o.operator o.position.line a (typed w o.operand) compares.0) compares.1 fits.1 parts.1))

  chained_own : (a : Typed) (os : List Operation) → a.own ≡ Some elems.Bool → EachCompares os → (chained a (map made_of os)).own ≡ Some elems.Bool
  chained_own a [] own compare = own
  chained_own a (o ∷ os) own compare =
      let compares = both (is_comparison o.operator) (list_all is_comparison (operators_of (map known_of os))) compare in
      chained_own (made_of o a) os (compared_own o.operator o.position.line a (typed w o.operand) compares.0) compares.1

  -- ---- whole chains

  comparison_fits : (position : Position) (x : Expression) (o : Operation) (os : List Operation) → Fits w x (known scope x) (typed w x) → OperandsFit (o ∷ os)
      → is_comparison o.operator ≡ true
      → Fits w (roll-Expression (Expression-F.Chain position x (o ∷ os))) (chain position (known scope x) (map known_of (o ∷ os))) (chained (typed w x) (map made_of (o ∷ os)))
  comparison_fits position x o os fits others q at t h =
      let k = known scope x in
      let l = known scope o.operand in
      let e = compared_type k.own (l.own ∷ owns_of (map known_of os)) in
      let none = subst (λ (c : Bool). (if c then knowns.comparison_faults e k (map known_of (o ∷ os)) at t else knowns.arithmetic_faults k (map known_of (o ∷ os)) at t) ≡ []) q h in
      let second = nothing_parts (k.faults_at k.position e ++ compared_at (map known_of (o ∷ os)) e) (when (not (own_types.is_boolean t && all_compare (operators_of (map known_of (o ∷ os))))) (fault at rules.TypeMismatch)) none in
      let compare = both (own_types.is_boolean t) (all_compare (operators_of (map known_of (o ∷ os)))) (holds (own_types.is_boolean t && all_compare (operators_of (map known_of (o ∷ os)))) (fault at rules.TypeMismatch) second.1) in
      let compares = both (is_comparison o.operator) (list_all is_comparison (operators_of (map known_of os))) compare.1 in
      let first = nothing_parts (k.faults_at k.position e) (compared_at (map known_of (o ∷ os)) e) second.0 in
      let third = nothing_parts (l.faults_at l.position e) (compared_at (map known_of os) elems.Bool) first.1 in
      let left = fits k.position e first.0 in
      let right = others.0 l.position e third.0 in
      let boolean : t ≡ elems.Bool = same_type t elems.Bool compare.0 in
      let due : e ≡ common_type w x o.operand = ap (λ (a : Option Elem). or_lint (first_own (a ∷ l.own ∷ []))) left.own ∙ ap (λ (b : Option Elem). or_lint (first_own ((typed w x).own ∷ b ∷ []))) right.own in
      let c = common_type w x o.operand in
      let left_term = subst (λ (d : Elem). IsTerm w d x ((typed w x).as_type d)) due left.term in
      let right_term = subst (λ (d : Elem). IsTerm w d o.operand ((typed w o.operand).as_type d)) due right.term in
      let own = compared_own o.operator o.position.line (typed w x) (typed w o.operand) q in
      let same = compared_as o.operator o.position.line (typed w x) (typed w o.operand) c refl q in
      let rest = compared_from (made_of o (typed w x)) os own compares.1 others.1 third.1 in
      let whole = chained (made_of o (typed w x)) (map made_of os) in
      record {
        own = ap (λ (b : Bool). if b then Some elems.Bool else first_own (k.own ∷ owns_of (map known_of (o ∷ os)))) q ∙ sym (chained_own (made_of o (typed w x)) os own compares.1);
        known = refl;
        term = subst (λ (d : Elem). IsTerm w d (roll-Expression (Expression-F.Chain position x (o ∷ os))) (whole.as_type d)) (sym boolean)
            (strict.comparison position x o q left_term right_term (subst (λ (b : Term). AreCompared w b os (whole.as_type elems.Bool)) same rest));
      }

  combination_fits : (position : Position) (x : Expression) (o : Operation) (os : List Operation) → Fits w x (known scope x) (typed w x) → OperandsFit (o ∷ os)
      → is_comparison o.operator ≡ false
      → Fits w (roll-Expression (Expression-F.Chain position x (o ∷ os))) (chain position (known scope x) (map known_of (o ∷ os))) (chained (typed w x) (map made_of (o ∷ os)))
  combination_fits position x o os fits others q at t h =
      let k = known scope x in
      let ls = map known_of (o ∷ os) in
      let e = compared_type k.own (owns_of ls) in
      let none = subst (λ (c : Bool). (if c then knowns.comparison_faults e k ls at t else knowns.arithmetic_faults k ls at t) ≡ []) q h in
      let taken = all_combine (operators_of ls) t in
      let second = nothing_parts (k.faults_at k.position t ++ operands_at ls t) (when (not taken) (fault at rules.TypeMismatch)) none in
      let first = nothing_parts (k.faults_at k.position t) (operands_at ls t) second.0 in
      let left = fits k.position t first.0 in
      let combine = holds taken (fault at rules.TypeMismatch) second.1 in
      record {
        own = ap (λ (b : Bool). if b then Some elems.Bool else first_own (k.own ∷ owns_of ls)) q ∙ ap (λ (a : Option Elem). first_own (a ∷ owns_of ls)) left.own
            ∙ combined_own t (typed w x) (o ∷ os) combine others first.1;
        known = refl;
        term = strict.combination position left.term (combined_from t (typed w x) (o ∷ os) combine others first.1);
      }

  pub alone_own : (own : Option Elem) → first_own (own ∷ []) ≡ own
  alone_own None = refl
  alone_own (Some e) = refl

  pub chain_fits : (position : Position) (x : Expression) (os : List Operation) → Fits w x (known scope x) (typed w x) → OperandsFit os
      → Fits w (roll-Expression (Expression-F.Chain position x os)) (chain position (known scope x) (map known_of os)) (chained (typed w x) (map made_of os))
  chain_fits position x [] fits others = λ at t h.
      let k = known scope x in
      let is = fits k.position t (nothing_parts (k.faults_at k.position t) [] (nothing_parts (k.faults_at k.position t ++ []) [] h).0).0 in
      record { own = alone_own k.own ∙ is.own; known = refl; term = strict.combination position is.term all_combined }
  chain_fits position x (o ∷ os) fits others = by (is_comparison o.operator) refl where
    by : (b : Bool) → is_comparison o.operator ≡ b
        → Fits w (roll-Expression (Expression-F.Chain position x (o ∷ os))) (chain position (known scope x) (map known_of (o ∷ os))) (chained (typed w x) (map made_of (o ∷ os)))
    by true q = comparison_fits position x o os fits others q
    by false q = combination_fits position x o os fits others q
