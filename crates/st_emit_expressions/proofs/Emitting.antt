-- Code of expressions that is made from the last instruction to the first.
use Rattle.std.proofs.Common.{◌≡◌, ℕ, suc, ◌+◌, ◌-◌, ◌*◌, ◌<◌, ◌≤◌, ◌==◌, Bool, true, false, if◌then◌else◌, List, [], ◌∷◌, ◌++◌, length, take, drop, get_or, reverse, refl, sym, ap, subst, ◌∙◌, arith, append_assoc, append-nil}
use Rattle.std.specs.Prelude.{Option, Some, None, IsTrue}
use Rattle.std.specs.Option.{is_some}
use Rattle.std.proofs.lemmas.Bool.Decides.{Decides-eqb}
use Rattle.std.proofs.lemmas.List.{reverse-append}
use Rattle.st_values.specs.Types.{is_same, place_of}
use Rattle.st_values.specs.declared.elem.Elem.{Elem}
use Rattle.st_values.specs.declared.elem.Elem.TheVariants as elems
use Rattle.st_tree.specs.declared.operator.BinOp.{BinOp}
use Rattle.st_tree.specs.declared.operator.BinOp.TheVariants as operators
use Rattle.st_tree.specs.declared.tree.declaration.Subrange.{Subrange}
use Rattle.st_tree.specs.declared.tree.expression.Argument.{Argument}
use Rattle.st_tree.specs.declared.tree.expression.Call.{Call, out-Call}
use Rattle.st_tree.specs.declared.tree.expression.Expression.{Expression}
use Rattle.st_tree.specs.declared.tree.expression.Expression.TheVariants as expressions
use Rattle.st_tree.specs.declared.tree.expression.Operation.{Operation, out-Operation}
use Rattle.st_tree.specs.declared.tree.expression.Part.{Part}
use Rattle.st_tree.specs.declared.tree.expression.Part.TheVariants as selectors
use Rattle.st_tree.specs.declared.tree.position.Identifier.{Identifier}
use Rattle.st_tree.specs.declared.tree.position.Position.{Position}
use Rattle.st_types.specs.Compositions.{Composition, unknown, elementary, array, composed, standard}
use Rattle.st_leaves.specs.Bounds.{HasBounds}
use Rattle.st_types.specs.OwnTypes.{first_own, or_lint}
use Rattle.st_types.specs.Standard.{standard_of}
use Rattle.st_types.specs.declared.standard.Standard.{Standard}
use Rattle.st_types.specs.declared.standard.Standard.TheVariants as standards
use Rattle.st_types.specs.declared.standard.StandardFunction.TheVariants as functions
use Rattle.st_tree.specs.Literals.{number_of}
use Rattle.st_leaves.specs.Places.{count, extent, extent_of}
use Rattle.st_leaves.specs.Selected.{element_of, selected_by, subscripts_of, takes_subscripts}
use Rattle.st_operators.specs.Operators.{type_given, is_bits, is_comparison, is_integer, takes}
use Rattle.st_meaning.specs.Operations.{binary_type}
use Rattle.st_meaning.specs.Sound.{term_type, types_in}
use Rattle.st_meaning.specs.Terms.{Term, Parts, binary, selection, unary, whole, field_part, element_part, how_many}
use Rattle.st_meaning.specs.Typing.{Typed, alone, call_typed_in, combined, combined_all, compared, joined, nil, part_typed, typed}
use Rattle.st_meaning.specs.Wholes.{Whole, type_of}
use Rattle.st_meaning.specs.declared.operation.Binary.{Binary}
use Rattle.st_meaning.specs.declared.operation.Binary.TheVariants as binaries
use Rattle.st_meaning.specs.declared.operation.Unary.TheVariants as unaries
use Rattle.st_code.specs.Code.{Line, added, at, index_code, parts_code, plain, term_code, terms_code}
use Rattle.st_code.specs.declared.instr.Instr.TheVariants.{Apply, Combine, Index, IndexBelow, Select}
use Rattle.st_code.proofs.Parts.{named_bounds}
use Rattle.st_emit_expressions.specs.Calls.{AreTyped, arguments_code, gives_type, optional, positionals, standard_typed, takes_number}
use Rattle.st_emit_expressions.specs.Emits.{Emits, Leaves, own_types, terms_in}
use Rattle.st_emit_expressions.specs.Places.{behind_part, behind_parts, dimensions_code, element_code, indexed_by, is_indexed}
use Rattle.st_meaning.proofs.Stretches.{selected_fits}
use Rattle.st_places.specs.Dimensions.{dimensions_in}
use Rattle.st_emit_expressions.specs.Trees.{chain_of, operand_type, parts_in}
use Rattle.st_places.specs.declared.node.Dimension.{Dimension}
use Rattle.st_emit_expressions.proofs.Owns.{call_stands, standard_is_untyped}
use Rattle.st_emit_expressions.proofs.Trees.{chain_is, chain_more, field_is, left_is, subscripts_are}
use Rattle.st_emit_expressions.proofs.Ways.{behind_more, counted_terms, element_bounds, element_fits, indexed_more}

-- ---- types

numbered : List Elem
numbered = elems.Bool ∷ elems.Sint ∷ elems.Int ∷ elems.Dint ∷ elems.Lint ∷ elems.Usint ∷ elems.Uint ∷ elems.Udint ∷ elems.Ulint ∷ elems.Byte ∷ elems.Word ∷ elems.Dword ∷ elems.Lword ∷ elems.Time ∷ []

back : (e : Elem) → get_or numbered (place_of e) elems.Bool ≡ e
unfolding numbered
back elems.Bool = refl
back elems.Sint = refl
back elems.Int = refl
back elems.Dint = refl
back elems.Lint = refl
back elems.Usint = refl
back elems.Uint = refl
back elems.Udint = refl
back elems.Ulint = refl
back elems.Byte = refl
back elems.Word = refl
back elems.Dword = refl
back elems.Lword = refl
back elems.Time = refl

pub same_elem : (a b : Elem) → is_same a b ≡ true → a ≡ b
same_elem a b h = sym (back a) ∙ ap (λ n. get_or numbered n elems.Bool) ((Decides-eqb (place_of a) (place_of b)).0 h) ∙ back b

given_type : (o : BinOp) (e : Elem) → type_given o e ≡ (if is_comparison o then elems.Bool else e)
given_type operators.Add e = refl
given_type operators.Sub e = refl
given_type operators.Mul e = refl
given_type operators.Div e = refl
given_type operators.Mod e = refl
given_type operators.And e = refl
given_type operators.Or e = refl
given_type operators.Xor e = refl
given_type operators.Eq e = refl
given_type operators.Ne e = refl
given_type operators.Lt e = refl
given_type operators.Gt e = refl
given_type operators.Le e = refl
given_type operators.Ge e = refl

-- ---- lists

pub behind_one : (old xs : List Line) (l : Line) → (old ++ l ∷ []) ++ reverse xs ≡ old ++ reverse (xs ++ l ∷ [])
behind_one old xs l = append_assoc old (l ∷ []) (reverse xs) ∙ ap (λ r. old ++ r) (sym (reverse-append xs (l ∷ [])))

pub behind_more_code : (old xs ys : List Line) → (old ++ reverse ys) ++ reverse xs ≡ old ++ reverse (xs ++ ys)
behind_more_code old xs ys = append_assoc old (reverse ys) (reverse xs) ∙ ap (λ r. old ++ r) (sym (reverse-append xs ys))

-- ---- operators between operands

abbrev pick : Bool → Bool → Bool → Elem → Elem → Option Elem
pick c d e u t = if c then (if d then Some u else None) else (if e then Some t else None)

abbrev form : Bool → Bool → Bool → Term → Term → Term → Term
form c d e x y z = if c then (if d then x else z) else (if e then y else z)

joined_form : (o : BinOp) (line : ℕ) (a b : Typed) (t : Elem) (c : Bool)
    → (if c then compared o line a b else combined (binaries.Operator o) line a b).as_type t
    ≡ form c (is_same elems.Bool t) (takes o t) (binary (binaries.Operator o) line (a.as_type (or_lint (first_own (a.own ∷ b.own ∷ [])))) (b.as_type (or_lint (first_own (a.own ∷ b.own ∷ [])))))
    (binary (binaries.Operator o) line (a.as_type t) (b.as_type t)) (nil t)
joined_form o line a b t true = refl
joined_form o line a b t false = refl

none_picked : (c d e : Bool) (u t : Elem) (x y z : Term) → pick c d e u t ≡ None → form c d e x y z ≡ z
none_picked true true e u t x y z h = absurd (cc)
none_picked true false e u t x y z h = refl
none_picked false d true u t x y z h = absurd (cc)
none_picked false d false u t x y z h = refl

one_picked : (c d e : Bool) (u t v : Elem) (f : Elem → Term) (z : Term) → pick c d e u t ≡ Some v → form c d e (f u) (f t) z ≡ f v
one_picked true true e u t v f z h = ap f (cc)
one_picked true false e u t v f z h = absurd (cc)
one_picked false d true u t v f z h = ap f (cc)
one_picked false d false u t v f z h = absurd (cc)

picked_type : (c d e : Bool) (u t v : Elem) → (d ≡ true → elems.Bool ≡ t) → pick c d e u t ≡ Some v → (if c then elems.Bool else v) ≡ t
picked_type true true e u t v f h = f refl
picked_type true false e u t v f h = absurd (cc)
picked_type false d true u t v f h = cc
picked_type false d false u t v f h = absurd (cc)

pub joined_nil : (o : BinOp) (line : ℕ) (a b : Typed) (t : Elem) → operand_type o a.own b.own t ≡ None → (joined o line a b).as_type t ≡ nil t
joined_nil o line a b t h = joined_form o line a b t (is_comparison o) ∙ none_picked (is_comparison o) (is_same elems.Bool t) (takes o t) (or_lint (first_own (a.own ∷ b.own ∷ []))) t _ _ (nil t) h

pub joined_at : (o : BinOp) (line : ℕ) (a b : Typed) (t v : Elem) → operand_type o a.own b.own t ≡ Some v → (joined o line a b).as_type t ≡ binary (binaries.Operator o) line (a.as_type v) (b.as_type v)
joined_at o line a b t v h =
    joined_form o line a b t (is_comparison o)
    ∙ one_picked (is_comparison o) (is_same elems.Bool t) (takes o t) (or_lint (first_own (a.own ∷ b.own ∷ []))) t v (λ e. binary (binaries.Operator o) line (a.as_type e) (b.as_type e)) (nil t) h

joined_type : (o : BinOp) (a b : Option Elem) (t v : Elem) → operand_type o a b t ≡ Some v → type_given o v ≡ t
joined_type o a b t v h = given_type o v ∙ picked_type (is_comparison o) (is_same elems.Bool t) (takes o t) (or_lint (first_own (a ∷ b ∷ []))) t v (same_elem elems.Bool t) h

pub joined_emits : (root : Composition) (o : BinOp) (line : ℕ) (a b : Typed) (t v : Elem) (now mid new last : List Line) → operand_type o a.own b.own t ≡ Some v
    → mid ≡ now ++ record { instr = Combine (binaries.Operator o) v v; line = line } ∷ [] → Emits root v (b.as_type v) mid new → Emits root v (a.as_type v) new last
    → Emits root t ((joined o line a b).as_type t) now last
joined_emits root o line a b t v now mid new last h m eb ea =
    let l : Line = record { instr = Combine (binaries.Operator o) v v; line = line } in
    let ca = term_code root (a.as_type v) in
    let cb = term_code root (b.as_type v) in
    let code : term_code root (binary (binaries.Operator o) line (a.as_type v) (b.as_type v)) ≡ ca ++ (cb ++ l ∷ [])
    = ap (λ x. ca ++ (cb ++ at line (Combine (binaries.Operator o) x (term_type root (b.as_type v))))) ea.due ∙ ap (λ x. ca ++ (cb ++ at line (Combine (binaries.Operator o) v x))) eb.due in
    subst (λ x. Emits root t x now last) (sym (joined_at o line a b t v h)) (record {
      code = ea.code ∙ ap (λ x. x ++ reverse ca) (eb.code ∙ ap (λ x. x ++ reverse cb) m ∙ behind_one now cb l) ∙ behind_more_code now ca (cb ++ l ∷ []) ∙ ap (λ x. now ++ reverse x) (sym code);
      due = ap (type_given o) ea.due ∙ joined_type o a.own b.own t v h;
    })

-- one operand of a chain, and those before it
pub chain_step : (w : Whole) (due t v : Elem) (y : Expression) (os : List Operation) (i j : ℕ) (o : Operation) (now mid new old : List Line) (all : Term) → j + 1 ≡ i → i ≤ length os → o ≡ get_or os j o
    → operand_type (out-Operation o).operator (chain_of w y (take j os)).own (typed w (out-Operation o).operand).own t ≡ Some v
    → mid ≡ now ++ record { instr = Combine (binaries.Operator (out-Operation o).operator) v v; line = (out-Operation o).position.line } ∷ []
    → Emits w.variables v ((typed w (out-Operation o).operand).as_type v) mid new
    → Leaves w.variables t ((chain_of w y (take i os)).as_type t) now due all old → Leaves w.variables v ((chain_of w y (take j os)).as_type v) new due all old
chain_step w due t v y os i j o now mid new old all e le q h m eb l =
    let lt : j < length os = omega arith in
    let front : chain_of w y (take i os) ≡ joined (out-Operation o).operator (out-Operation o).position.line (chain_of w y (take j os)) (typed w (out-Operation o).operand)
    = ap (λ k. chain_of w y (take k os)) (sym e) ∙ chain_more w y os j o lt q in
    record {
      completed = λ last ea. l.completed last (subst (λ (x : Typed). Emits w.variables t (x.as_type t) now last) (sym front)
          (joined_emits w.variables (out-Operation o).operator (out-Operation o).position.line (chain_of w y (take j os)) (typed w (out-Operation o).operand) t v now mid new last h m eb ea));
    }

whole_chain : (w : Whole) (due : Elem) (e : Expression) (p : Position) (y : Expression) (os seen : List Operation) (old new : List Line) → seen ≡ os → e ≡ expressions.Chain p y os
    → Emits w.variables due ((chain_of w y seen).as_type due) old new → Emits w.variables due ((typed w e).as_type due) old new
whole_chain w due e p y os seen old new q r h =
    subst (λ (x : Typed). Emits w.variables due (x.as_type due) old new) (ap (chain_of w y) q ∙ sym (chain_is w p y os) ∙ ap (typed w) (sym r)) h

pub chain_stops : (w : Whole) (due t : Elem) (e : Expression) (p : Position) (y : Expression) (os seen : List Operation) (i j : ℕ) (o : Operation) (now new old : List Line) → seen ≡ os → e ≡ expressions.Chain p y os → j + 1 ≡ i → i ≤ length seen → o ≡ get_or seen j o
    → operand_type (out-Operation o).operator (chain_of w y (take j seen)).own (typed w (out-Operation o).operand).own t ≡ None
    → Emits w.variables t (nil t) now new → Leaves w.variables t ((chain_of w y (take i seen)).as_type t) now due ((chain_of w y seen).as_type due) old
    → Emits w.variables due ((typed w e).as_type due) old new
chain_stops w due t e p y os seen i j o now new old s r k le q h en l =
    let lt : j < length seen = omega arith in
    let front : chain_of w y (take i seen) ≡ joined (out-Operation o).operator (out-Operation o).position.line (chain_of w y (take j seen)) (typed w (out-Operation o).operand)
    = ap (λ n. chain_of w y (take n seen)) (sym k) ∙ chain_more w y seen j o lt q in
    let term : (chain_of w y (take i seen)).as_type t ≡ nil t
    = ap (λ (x : Typed). x.as_type t) front ∙ joined_nil (out-Operation o).operator (out-Operation o).position.line (chain_of w y (take j seen)) (typed w (out-Operation o).operand) t h in
    whole_chain w due e p y os seen old new s r (l.completed new (subst (λ x. Emits w.variables t x now new) (sym term) en))

pub chain_ends : (w : Whole) (due t : Elem) (e : Expression) (p : Position) (y z : Expression) (os seen : List Operation) (i : ℕ) (now new old : List Line) → seen ≡ os → e ≡ expressions.Chain p y os → z ≡ y → i ≤ 0
    → Emits w.variables t ((typed w z).as_type t) now new → Leaves w.variables t ((chain_of w y (take i seen)).as_type t) now due ((chain_of w y seen).as_type due) old
    → Emits w.variables due ((typed w e).as_type due) old new
chain_ends w due t e p y z os seen i now new old s r k le h l =
    let none : 0 ≡ i = omega arith in
    whole_chain w due e p y os seen old new s r
    (l.completed new (subst (λ n. Emits w.variables t ((chain_of w y (take n seen)).as_type t) now new) none (subst (λ x. Emits w.variables t ((typed w x).as_type t) now new) k h)))

-- ---- calls

pub call_is_nil : (w : Whole) (t : Elem) (c : Call) (seen : List Argument) (o : Option Standard) (s : Standard) (n : ℕ) (old new : List Line) → o ≡ standard_of (out-Call c).name.spelling → seen ≡ (out-Call c).arguments → o ≡ Some s
    → n ≡ length (positionals w seen) → takes_number s n ≡ false → Emits w.variables t (nil t) old new → Emits w.variables t ((call_typed_in w c).as_type t) old new
call_is_nil w t c seen o s n old new e f g h b en =
    subst (λ (x : Typed). Emits w.variables t (x.as_type t) old new)
    (sym (standard_is_untyped s (positionals w seen) (ap (takes_number s) (sym h) ∙ b)) ∙ call_stands w c seen o s e f g) en

-- a type that it doesn't give
never_given : (s : Standard) (t : Elem) (xs : List Typed) → gives_type s t ≡ false → (standard_typed s xs).as_type t ≡ nil t
never_given (standards.Function functions.Abs) t [] h = refl
never_given (standards.Function functions.Abs) t (x ∷ []) h = ap (λ b. if b then unary unaries.Absolute (x.as_type t) else nil t) h
never_given (standards.Function functions.Abs) t (x ∷ y ∷ xs) h = refl
never_given (standards.Function functions.Min) t xs h = absurd (cc)
never_given (standards.Function functions.Max) t xs h = absurd (cc)
never_given (standards.Function functions.Limit) t xs h = absurd (cc)
never_given (standards.Function functions.Sel) t xs h = absurd (cc)
never_given (standards.Function functions.Shl) t [] h = refl
never_given (standards.Function functions.Shl) t (x ∷ []) h = refl
never_given (standards.Function functions.Shl) t (x ∷ n ∷ []) h = ap (λ b. if b then binary binaries.ShiftLeft 0 (x.as_type t) (alone n) else nil t) h
never_given (standards.Function functions.Shl) t (x ∷ n ∷ y ∷ xs) h = refl
never_given (standards.Function functions.Shr) t [] h = refl
never_given (standards.Function functions.Shr) t (x ∷ []) h = refl
never_given (standards.Function functions.Shr) t (x ∷ n ∷ []) h = ap (λ b. if b then binary binaries.ShiftRight 0 (x.as_type t) (alone n) else nil t) h
never_given (standards.Function functions.Shr) t (x ∷ n ∷ y ∷ xs) h = refl
never_given (standards.Function functions.Rol) t [] h = refl
never_given (standards.Function functions.Rol) t (x ∷ []) h = refl
never_given (standards.Function functions.Rol) t (x ∷ n ∷ []) h = ap (λ b. if b then binary binaries.RotateLeft 0 (x.as_type t) (alone n) else nil t) h
never_given (standards.Function functions.Rol) t (x ∷ n ∷ y ∷ xs) h = refl
never_given (standards.Function functions.Ror) t [] h = refl
never_given (standards.Function functions.Ror) t (x ∷ []) h = refl
never_given (standards.Function functions.Ror) t (x ∷ n ∷ []) h = ap (λ b. if b then binary binaries.RotateRight 0 (x.as_type t) (alone n) else nil t) h
never_given (standards.Function functions.Ror) t (x ∷ n ∷ y ∷ xs) h = refl
never_given (standards.Conversion from to) t [] h = refl
never_given (standards.Conversion from to) t (x ∷ []) h = ap (λ b. if b then unary (unaries.Convert to) (x.as_type from) else nil t) h
never_given (standards.Conversion from to) t (x ∷ y ∷ xs) h = refl
never_given (standards.Block b) t xs h = refl

pub call_gives_nil : (w : Whole) (t : Elem) (c : Call) (seen : List Argument) (o : Option Standard) (s : Standard) (old new : List Line) → o ≡ standard_of (out-Call c).name.spelling → seen ≡ (out-Call c).arguments → o ≡ Some s
    → gives_type s t ≡ false → Emits w.variables t (nil t) old new → Emits w.variables t ((call_typed_in w c).as_type t) old new
call_gives_nil w t c seen o s old new e f g h en =
    subst (λ x. Emits w.variables t x old new) (sym (never_given s t (positionals w seen) h) ∙ ap (λ (x : Typed). x.as_type t) (call_stands w c seen o s e f g)) en

pub record IsCall (root : Composition) (s : Standard) (t : Elem) (xs : List Typed) : Type 0 where
  pub code : term_code root ((standard_typed s xs).as_type t) ≡ arguments_code root s t 0 xs
  pub type : term_type root ((standard_typed s xs).as_type t) ≡ t

not_equal : (n m : ℕ) → (n ≡ m → ⊥) → (n == m) ≡ false
not_equal n m f = by (n == m) refl where
  by : (b : Bool) → (n == m) ≡ b → (n == m) ≡ false
  by true e = absurd (f ((Decides-eqb n m).0 e))
  by false e = e

not_first : (n : ℕ) → (suc n == 0) ≡ false
not_first n = not_equal (suc n) 0 (λ e. omega arith)

record IsFolded (root : Composition) (t : Elem) (first : Typed) (all : Term) (more : List Line) : Type 0 where
  code : term_code root all ≡ term_code root (first.as_type t) ++ more
  type : term_type root all ≡ t

least_code : (root : Composition) (t : Elem) (n : ℕ) (x : Typed) (ys : List Typed) → term_type root (x.as_type t) ≡ t → AreTyped root (standards.Function functions.Min) t (suc n) ys
    → IsFolded root t x ((combined_all binaries.Least x ys).as_type t) (arguments_code root (standards.Function functions.Min) t (suc n) ys)
least_code root t n x [] h a = record { code = sym (append-nil (term_code root (x.as_type t))); type = h }
least_code root t n x (y ∷ ys) h a =
    let more = least_code root t (suc n) (combined binaries.Least 0 x y) ys h a.1 in
    let rest = arguments_code root (standards.Function functions.Min) t (suc (suc n)) ys in
    let cx = term_code root (x.as_type t) in
    let cy = term_code root (y.as_type t) in
    let here : term_code root (binary binaries.Least 0 (x.as_type t) (y.as_type t)) ≡ cx ++ (cy ++ plain (Combine binaries.Least t t))
    = ap (λ u. cx ++ (cy ++ plain (Combine binaries.Least u (term_type root (y.as_type t))))) h ∙ ap (λ u. cx ++ (cy ++ plain (Combine binaries.Least t u))) a.0 in
    record {
      code = more.code ∙ ap (λ l. l ++ rest) here ∙ append_assoc cx (cy ++ plain (Combine binaries.Least t t)) rest
          ∙ ap (λ b. cx ++ ((cy ++ (if b then [] else plain (Combine binaries.Least t t))) ++ rest)) (sym (not_first n)) ∙ by (suc n == 0);
      type = more.type;
    } where
      by : (b : Bool) → term_code root (x.as_type t) ++ ((term_code root (y.as_type t) ++ (if b then [] else plain (Combine binaries.Least t t))) ++ arguments_code root (standards.Function functions.Min) t (suc (suc n)) ys)
          ≡ term_code root (x.as_type t) ++ ((term_code root (y.as_type t) ++ optional (if b then None else Some (Combine binaries.Least t t))) ++ arguments_code root (standards.Function functions.Min) t (suc (suc n)) ys)
      by true = refl
      by false = refl

greatest_code : (root : Composition) (t : Elem) (n : ℕ) (x : Typed) (ys : List Typed) → term_type root (x.as_type t) ≡ t → AreTyped root (standards.Function functions.Max) t (suc n) ys
    → IsFolded root t x ((combined_all binaries.Greatest x ys).as_type t) (arguments_code root (standards.Function functions.Max) t (suc n) ys)
greatest_code root t n x [] h a = record { code = sym (append-nil (term_code root (x.as_type t))); type = h }
greatest_code root t n x (y ∷ ys) h a =
    let more = greatest_code root t (suc n) (combined binaries.Greatest 0 x y) ys h a.1 in
    let rest = arguments_code root (standards.Function functions.Max) t (suc (suc n)) ys in
    let cx = term_code root (x.as_type t) in
    let cy = term_code root (y.as_type t) in
    let here : term_code root (binary binaries.Greatest 0 (x.as_type t) (y.as_type t)) ≡ cx ++ (cy ++ plain (Combine binaries.Greatest t t))
    = ap (λ u. cx ++ (cy ++ plain (Combine binaries.Greatest u (term_type root (y.as_type t))))) h ∙ ap (λ u. cx ++ (cy ++ plain (Combine binaries.Greatest t u))) a.0 in
    record {
      code = more.code ∙ ap (λ l. l ++ rest) here ∙ append_assoc cx (cy ++ plain (Combine binaries.Greatest t t)) rest
          ∙ ap (λ b. cx ++ ((cy ++ (if b then [] else plain (Combine binaries.Greatest t t))) ++ rest)) (sym (not_first n)) ∙ by (suc n == 0);
      type = more.type;
    } where
      by : (b : Bool) → term_code root (x.as_type t) ++ ((term_code root (y.as_type t) ++ (if b then [] else plain (Combine binaries.Greatest t t))) ++ arguments_code root (standards.Function functions.Max) t (suc (suc n)) ys)
          ≡ term_code root (x.as_type t) ++ ((term_code root (y.as_type t) ++ optional (if b then None else Some (Combine binaries.Greatest t t))) ++ arguments_code root (standards.Function functions.Max) t (suc (suc n)) ys)
      by true = refl
      by false = refl

wrong_number : (n m : ℕ) → (n == m) ≡ true → (n ≡ m → ⊥) → ⊥
wrong_number n m h f = f ((Decides-eqb n m).0 h)

-- an operation that is taken where the type is fit for it
taken : (b : Bool) (x y : Term) → b ≡ true → (if b then x else y) ≡ x
taken b x y h = ap (λ c. if c then x else y) h

shift_code : (root : Composition) (t : Elem) (o : Binary) (x n : Typed) → term_type root (x.as_type t) ≡ t → term_type root (alone n) ≡ or_lint n.own
    → term_code root (binary o 0 (x.as_type t) (alone n)) ≡ (term_code root (x.as_type t) ++ []) ++ ((term_code root (alone n) ++ plain (Combine o t (or_lint n.own))) ++ [])
shift_code root t o x n h k =
    let cx = term_code root (x.as_type t) in
    let cn = term_code root (alone n) in
    ap (λ u. cx ++ (cn ++ plain (Combine o u (term_type root (alone n))))) h ∙ ap (λ u. cx ++ (cn ++ plain (Combine o t u))) k
    ∙ ap (λ l. l ++ (cn ++ plain (Combine o t (or_lint n.own)))) (sym (append-nil cx)) ∙ ap (λ l. (cx ++ []) ++ l) (sym (append-nil (cn ++ plain (Combine o t (or_lint n.own)))))

limit_code : (root : Composition) (t : Elem) (a x b : Typed) → term_type root (a.as_type t) ≡ t → term_type root (x.as_type t) ≡ t → term_type root (b.as_type t) ≡ t
    → term_code root (binary binaries.Least 0 (binary binaries.Greatest 0 (a.as_type t) (x.as_type t)) (b.as_type t))
    ≡ (term_code root (a.as_type t) ++ []) ++ ((term_code root (x.as_type t) ++ plain (Combine binaries.Greatest t t)) ++ ((term_code root (b.as_type t) ++ plain (Combine binaries.Least t t)) ++ []))
limit_code root t a x b h i k =
    let ca = term_code root (a.as_type t) in
    let cx = term_code root (x.as_type t) in
    let cb = term_code root (b.as_type t) in
    let g = plain (Combine binaries.Greatest t t) in
    let l = plain (Combine binaries.Least t t) in
    ap (λ u. (ca ++ (cx ++ plain (Combine binaries.Greatest u (term_type root (x.as_type t))))) ++ (cb ++ plain (Combine binaries.Least u (term_type root (b.as_type t))))) h
    ∙ ap (λ u. (ca ++ (cx ++ plain (Combine binaries.Greatest t u))) ++ (cb ++ plain (Combine binaries.Least t (term_type root (b.as_type t))))) i
    ∙ ap (λ u. (ca ++ (cx ++ g)) ++ (cb ++ plain (Combine binaries.Least t u))) k
    ∙ append_assoc ca (cx ++ g) (cb ++ l)
    ∙ ap (λ y. y ++ ((cx ++ g) ++ (cb ++ l))) (sym (append-nil ca)) ∙ ap (λ y. (ca ++ []) ++ ((cx ++ g) ++ y)) (sym (append-nil (cb ++ l)))

select_code : (root : Composition) (t : Elem) (g x y : Typed)
    → term_code root (selection (g.as_type elems.Bool) (x.as_type t) (y.as_type t))
    ≡ (term_code root (g.as_type elems.Bool) ++ []) ++ ((term_code root (x.as_type t) ++ []) ++ ((term_code root (y.as_type t) ++ plain Select) ++ []))
select_code root t g x y =
    let cg = term_code root (g.as_type elems.Bool) in
    let cx = term_code root (x.as_type t) in
    let cy = term_code root (y.as_type t) in
    ap (λ l. l ++ (cx ++ (cy ++ plain Select))) (sym (append-nil cg)) ∙ ap (λ l. (cg ++ []) ++ (l ++ (cy ++ plain Select))) (sym (append-nil cx))
    ∙ ap (λ l. (cg ++ []) ++ ((cx ++ []) ++ l)) (sym (append-nil (cy ++ plain Select)))

shift_is : (root : Composition) (s : Standard) (t : Elem) (o : Binary) (xs : List Typed) (x n : Typed) (b : Bool) → binary_type o t ≡ t → b ≡ true → term_type root (x.as_type t) ≡ t → term_type root (alone n) ≡ or_lint n.own
    → (standard_typed s xs).as_type t ≡ (if b then binary o 0 (x.as_type t) (alone n) else nil t)
    → arguments_code root s t 0 xs ≡ (term_code root (x.as_type t) ++ []) ++ ((term_code root (alone n) ++ plain (Combine o t (or_lint n.own))) ++ []) → IsCall root s t xs
shift_is root s t o xs x n b k g h i e f =
    let all : (standard_typed s xs).as_type t ≡ binary o 0 (x.as_type t) (alone n) = e ∙ taken b _ _ g in
    record {
      code = ap (term_code root) all ∙ shift_code root t o x n h i ∙ sym f;
      type = ap (term_type root) all ∙ ap (binary_type o) h ∙ k;
    }

pub call_made : (root : Composition) (s : Standard) (t : Elem) (xs : List Typed) → takes_number s (length xs) ≡ true → gives_type s t ≡ true → AreTyped root s t 0 xs → IsCall root s t xs
call_made root (standards.Function functions.Abs) t [] h g a = absurd (wrong_number 0 1 h (λ e. omega arith))
call_made root (standards.Function functions.Abs) t (x ∷ []) h g a =
    let all : (standard_typed (standards.Function functions.Abs) (x ∷ [])).as_type t ≡ unary unaries.Absolute (x.as_type t) = taken (is_integer t) _ _ g in
    record {
      code = ap (term_code root) all ∙ ap (λ u. term_code root (x.as_type t) ++ plain (Apply unaries.Absolute u)) a.0 ∙ sym (append-nil (term_code root (x.as_type t) ++ plain (Apply unaries.Absolute t)));
      type = ap (term_type root) all ∙ a.0;
    }
call_made root (standards.Function functions.Abs) t (x ∷ y ∷ xs) h g a = absurd (wrong_number (length (x ∷ y ∷ xs)) 1 h (λ e. omega arith))
call_made root (standards.Function functions.Min) t [] h g a = absurd (cc)
call_made root (standards.Function functions.Min) t (x ∷ xs) h g a =
    let f = least_code root t 0 x xs a.0 a.1 in
    record { code = f.code ∙ ap (λ l. l ++ arguments_code root (standards.Function functions.Min) t 1 xs) (sym (append-nil (term_code root (x.as_type t)))); type = f.type }
call_made root (standards.Function functions.Max) t [] h g a = absurd (cc)
call_made root (standards.Function functions.Max) t (x ∷ xs) h g a =
    let f = greatest_code root t 0 x xs a.0 a.1 in
    record { code = f.code ∙ ap (λ l. l ++ arguments_code root (standards.Function functions.Max) t 1 xs) (sym (append-nil (term_code root (x.as_type t)))); type = f.type }
call_made root (standards.Function functions.Limit) t [] h g a = absurd (wrong_number 0 3 h (λ e. omega arith))
call_made root (standards.Function functions.Limit) t (x ∷ []) h g a = absurd (wrong_number 1 3 h (λ e. omega arith))
call_made root (standards.Function functions.Limit) t (x ∷ y ∷ []) h g a = absurd (wrong_number 2 3 h (λ e. omega arith))
call_made root (standards.Function functions.Limit) t (x ∷ y ∷ z ∷ []) h g a = record { code = limit_code root t x y z a.0 a.1.0 a.1.1.0; type = a.0 }
call_made root (standards.Function functions.Limit) t (x ∷ y ∷ z ∷ u ∷ xs) h g a = absurd (wrong_number (length (x ∷ y ∷ z ∷ u ∷ xs)) 3 h (λ e. omega arith))
call_made root (standards.Function functions.Sel) t [] h g a = absurd (wrong_number 0 3 h (λ e. omega arith))
call_made root (standards.Function functions.Sel) t (x ∷ []) h g a = absurd (wrong_number 1 3 h (λ e. omega arith))
call_made root (standards.Function functions.Sel) t (x ∷ y ∷ []) h g a = absurd (wrong_number 2 3 h (λ e. omega arith))
call_made root (standards.Function functions.Sel) t (x ∷ y ∷ z ∷ []) h g a = record { code = select_code root t x y z; type = a.1.0 }
call_made root (standards.Function functions.Sel) t (x ∷ y ∷ z ∷ u ∷ xs) h g a = absurd (wrong_number (length (x ∷ y ∷ z ∷ u ∷ xs)) 3 h (λ e. omega arith))
call_made root (standards.Function functions.Shl) t [] h g a = absurd (wrong_number 0 2 h (λ e. omega arith))
call_made root (standards.Function functions.Shl) t (x ∷ []) h g a = absurd (wrong_number 1 2 h (λ e. omega arith))
call_made root (standards.Function functions.Shl) t (x ∷ n ∷ []) h g a = shift_is root (standards.Function functions.Shl) t binaries.ShiftLeft (x ∷ n ∷ []) x n (is_bits t) refl g a.0 a.1.0 refl refl
call_made root (standards.Function functions.Shl) t (x ∷ y ∷ z ∷ xs) h g a = absurd (wrong_number (length (x ∷ y ∷ z ∷ xs)) 2 h (λ e. omega arith))
call_made root (standards.Function functions.Shr) t [] h g a = absurd (wrong_number 0 2 h (λ e. omega arith))
call_made root (standards.Function functions.Shr) t (x ∷ []) h g a = absurd (wrong_number 1 2 h (λ e. omega arith))
call_made root (standards.Function functions.Shr) t (x ∷ n ∷ []) h g a = shift_is root (standards.Function functions.Shr) t binaries.ShiftRight (x ∷ n ∷ []) x n (is_bits t) refl g a.0 a.1.0 refl refl
call_made root (standards.Function functions.Shr) t (x ∷ y ∷ z ∷ xs) h g a = absurd (wrong_number (length (x ∷ y ∷ z ∷ xs)) 2 h (λ e. omega arith))
call_made root (standards.Function functions.Rol) t [] h g a = absurd (wrong_number 0 2 h (λ e. omega arith))
call_made root (standards.Function functions.Rol) t (x ∷ []) h g a = absurd (wrong_number 1 2 h (λ e. omega arith))
call_made root (standards.Function functions.Rol) t (x ∷ n ∷ []) h g a = shift_is root (standards.Function functions.Rol) t binaries.RotateLeft (x ∷ n ∷ []) x n (is_bits t) refl g a.0 a.1.0 refl refl
call_made root (standards.Function functions.Rol) t (x ∷ y ∷ z ∷ xs) h g a = absurd (wrong_number (length (x ∷ y ∷ z ∷ xs)) 2 h (λ e. omega arith))
call_made root (standards.Function functions.Ror) t [] h g a = absurd (wrong_number 0 2 h (λ e. omega arith))
call_made root (standards.Function functions.Ror) t (x ∷ []) h g a = absurd (wrong_number 1 2 h (λ e. omega arith))
call_made root (standards.Function functions.Ror) t (x ∷ n ∷ []) h g a = shift_is root (standards.Function functions.Ror) t binaries.RotateRight (x ∷ n ∷ []) x n (is_bits t) refl g a.0 a.1.0 refl refl
call_made root (standards.Function functions.Ror) t (x ∷ y ∷ z ∷ xs) h g a = absurd (wrong_number (length (x ∷ y ∷ z ∷ xs)) 2 h (λ e. omega arith))
call_made root (standards.Conversion from to) t [] h g a = absurd (wrong_number 0 1 h (λ e. omega arith))
call_made root (standards.Conversion from to) t (x ∷ []) h g a =
    let all : (standard_typed (standards.Conversion from to) (x ∷ [])).as_type t ≡ unary (unaries.Convert to) (x.as_type from) = taken (is_same to t) _ _ g in
    record {
      code = ap (term_code root) all ∙ ap (λ u. term_code root (x.as_type from) ++ plain (Apply (unaries.Convert to) u)) a.0 ∙ sym (append-nil (term_code root (x.as_type from) ++ plain (Apply (unaries.Convert to) from)));
      type = ap (term_type root) all ∙ same_elem to t g;
    }
call_made root (standards.Conversion from to) t (x ∷ y ∷ xs) h g a = absurd (wrong_number (length (x ∷ y ∷ xs)) 1 h (λ e. omega arith))
call_made root (standards.Block b) t xs h g a = absurd (cc)

pub call_emits : (w : Whole) (t : Elem) (c : Call) (seen : List Argument) (o : Option Standard) (s : Standard) (n : ℕ) (old new : List Line) → o ≡ standard_of (out-Call c).name.spelling → seen ≡ (out-Call c).arguments → o ≡ Some s
    → n ≡ length (positionals w seen) → takes_number s n ≡ true → gives_type s t ≡ true → new ≡ old ++ reverse (arguments_code w.variables s t 0 (positionals w seen)) → AreTyped w.variables s t 0 (positionals w seen)
    → Emits w.variables t ((call_typed_in w c).as_type t) old new
call_emits w t c seen o s n old new e f g h b k m a =
    let is = call_made w.variables s t (positionals w seen) (ap (takes_number s) (sym h) ∙ b) k a in
    subst (λ (x : Typed). Emits w.variables t (x.as_type t) old new) (call_stands w c seen o s e f g)
    (record { code = m ∙ ap (λ l. old ++ reverse l) (sym is.code); due = is.type })

-- ---- places

one_times : (n : ℕ) → 1 * n ≡ n
one_times n = omega arith

-- the code of subscripts by dimensions
pub index_is : (line size : ℕ) (es : List Elem) (rs : List Subrange) → length es ≡ length rs → index_code line size es rs ≡ dimensions_code line es (dimensions_in rs size)
index_is line size [] [] h = refl
index_is line size [] (r ∷ rs) h = absurd (omega arith)
index_is line size (e ∷ es) [] h = absurd (omega arith)
index_is line size (e ∷ []) (r ∷ []) h = ap (λ k. at line (Index e (extent_of r - 1) k (number_of r.lower))) (sym (one_times size))
index_is line size (e ∷ d ∷ es) (r ∷ []) h = absurd (omega arith)
index_is line size (e ∷ []) (r ∷ q ∷ rs) h = absurd (omega arith)
index_is line size (e ∷ d ∷ es) (r ∷ q ∷ rs) h = ap (λ l. l ++ at line (IndexBelow e (extent_of r - 1) (extent (q ∷ rs) * size) (number_of r.lower))) (index_is line size (d ∷ es) (q ∷ rs) (omega arith))

pub element_emits : (w : Whole) (more : Bool) (line : ℕ) (xs : List Expression) (c : Composition) (dims : List Dimension) (old c1 c2 c3 : List Line) → length dims ≡ length (subscripts_of c) → length dims ≡ length xs → length (own_types w xs) ≡ length xs
    → dims ≡ dimensions_in (subscripts_of c) (count (element_of c)) → c1 ≡ old ++ reverse (added more) → c2 ≡ c1 ++ reverse (dimensions_code line (own_types w xs) dims)
    → c3 ≡ c2 ++ reverse (terms_code w.variables (terms_in w xs)) → types_in w.variables (terms_in w xs) ≡ own_types w xs → c3 ≡ old ++ reverse (element_code w more line xs c)
element_emits w more line xs c dims old c1 c2 c3 ns nx ne d e1 e2 e3 t =
    let es = own_types w xs in
    let ct = terms_code w.variables (terms_in w xs) in
    let ci = index_code line (count (element_of c)) (types_in w.variables (terms_in w xs)) (subscripts_of c) in
    let same : dimensions_code line es dims ≡ ci
    = ap (dimensions_code line es) d ∙ sym (index_is line (count (element_of c)) es (subscripts_of c) (ne ∙ sym nx ∙ ns)) ∙ ap (λ l. index_code line (count (element_of c)) l (subscripts_of c)) (sym t) in
    e3 ∙ ap (λ l. l ++ reverse ct) (e2 ∙ ap (λ l. c1 ++ reverse l) same ∙ ap (λ l. l ++ reverse ci) e1 ∙ behind_more_code old ci (added more)) ∙ behind_more_code old ct (ci ++ added more)

pub field_code : (w : Whole) (c : Composition) (ps : List Part) (j : ℕ) (p : Part) (n : Identifier) → j < length ps → p ≡ get_or ps j p → p ≡ selectors.Field n
    → parts_code w.variables (is_indexed w false (take (j + 1) ps)) (behind_parts w c (take (j + 1) ps)) (parts_in w (drop (j + 1) ps))
    ≡ parts_code w.variables (is_indexed w false (take j ps)) (behind_parts w c (take j ps)) (parts_in w (drop j ps))
field_code w c ps j p n lt q e =
    let rest = parts_in w (drop (j + 1) ps) in
    let d = behind_parts w c (take j ps) in
    let b = is_indexed w false (take j ps) in
    let is : part_typed w p whole ≡ field_part n.spelling whole = ap (λ y. part_typed w y whole) e ∙ field_is w n whole in
    ap (λ x. parts_code w.variables x (behind_parts w c (take (j + 1) ps)) rest) (indexed_more w false ps j p lt q ∙ ap (indexed_by b) is)
    ∙ ap (λ x. parts_code w.variables b x rest) (behind_more w c ps j p lt q ∙ ap (behind_part d) is)
    ∙ ap (parts_code w.variables b d) (sym (left_is w ps j p lt q ∙ ap (λ y. part_typed w y rest) e ∙ field_is w n rest))

pub subscripts_code : (w : Whole) (c : Composition) (ps : List Part) (j : ℕ) (p : Part) (at' : Position) (xs : List Expression) → j < length ps → p ≡ get_or ps j p → p ≡ selectors.Subscripts at' xs
    → element_code w (is_indexed w false (take j ps)) at'.line xs (behind_parts w c (take j ps)) ++ parts_code w.variables (is_indexed w false (take (j + 1) ps)) (behind_parts w c (take (j + 1) ps)) (parts_in w (drop (j + 1) ps))
    ≡ parts_code w.variables (is_indexed w false (take j ps)) (behind_parts w c (take j ps)) (parts_in w (drop j ps))
subscripts_code w c ps j p at' xs lt q e =
    let rest = parts_in w (drop (j + 1) ps) in
    let d = behind_parts w c (take j ps) in
    let b = is_indexed w false (take j ps) in
    let here = element_code w b at'.line xs d in
    let is : part_typed w p whole ≡ element_part at'.line (terms_in w xs) whole = ap (λ y. part_typed w y whole) e ∙ subscripts_are w at' xs whole in
    ap (λ x. here ++ parts_code w.variables x (behind_parts w c (take (j + 1) ps)) rest) (indexed_more w false ps j p lt q ∙ ap (indexed_by b) is)
    ∙ ap (λ x. here ++ parts_code w.variables true x rest) (behind_more w c ps j p lt q ∙ ap (behind_part d) is)
    ∙ ap (parts_code w.variables b d) (sym (left_is w ps j p lt q ∙ ap (λ y. part_typed w y rest) e ∙ subscripts_are w at' xs rest))

-- ---- what has a type has a leaf

pub typed_counts : (c : Composition) (ps : Parts) → HasBounds c → IsTrue (is_some (type_of c ps)) → 0 < count c
typed_counts unknown whole b h = absurd (cc)
typed_counts (elementary v) whole b h = omega arith
typed_counts (array ranges firsts c) whole b h = absurd (cc)
typed_counts (composed name ms chart) whole b h = absurd (cc)
typed_counts (standard s) whole b h = absurd (cc)
typed_counts c (field_part name ps) b h = omega (arith, typed_counts (selected_by c name) ps (named_bounds c name b) h, selected_fits c name)
typed_counts c (element_part line ts ps) b h = by (takes_subscripts c (how_many ts)) h (λ k. typed_counts (element_of c) ps (element_bounds c b) k) where
  by : (x : Bool) → IsTrue (is_some (if x then type_of (element_of c) ps else None)) → (IsTrue (is_some (type_of (element_of c) ps)) → 0 < count (element_of c)) → 0 < count c
  by true k go = omega (arith, go k, element_fits c b)
  by false k go = absurd (cc)

when_taken : (x : Bool) (o : Option Elem) → IsTrue (is_some (if x then o else None)) → (x ≡ true) × IsTrue (is_some o)
when_taken true o h = (refl, h)
when_taken false o h = absurd (cc)

pub subscripted : (w : Whole) (c : Composition) (type : Option Elem) (ps : List Part) (j : ℕ) (p : Part) (at' : Position) (xs : List Expression) → j < length ps → p ≡ get_or ps j p → p ≡ selectors.Subscripts at' xs
    → type_of c (parts_in w (drop j ps)) ≡ type → IsTrue (is_some type) → HasBounds c → (takes_subscripts c (length xs) ≡ true) × (0 < count (element_of c))
subscripted w c type ps j p at' xs lt q e same some bounds =
    let rest = parts_in w (drop (j + 1) ps) in
    let here : type_of c (element_part at'.line (terms_in w xs) rest) ≡ type
    = ap (type_of c) (sym (left_is w ps j p lt q ∙ ap (λ y. part_typed w y rest) e ∙ subscripts_are w at' xs rest)) ∙ same in
    let both = when_taken (takes_subscripts c (how_many (terms_in w xs))) (type_of (element_of c) rest) (subst (λ o. IsTrue (is_some o)) (sym here) some) in
    (ap (takes_subscripts c) (sym (counted_terms w xs)) ∙ both.0, typed_counts (element_of c) rest (element_bounds c bounds) both.1)

pub takes_length : (c : Composition) (n : ℕ) → takes_subscripts c n ≡ true → n ≡ length (subscripts_of c)
takes_length unknown n h = absurd (cc)
takes_length (elementary v) n h = absurd (cc)
takes_length (array ranges firsts c) n h = (Decides-eqb n (length ranges)).0 h
takes_length (composed name ms chart) n h = absurd (cc)
takes_length (standard s) n h = absurd (cc)

pub subscripts_put : (w : Whole) (c : Composition) (ps : List Part) (i j : ℕ) (p : Part) (at' : Position) (xs seen : List Expression) (more : Bool) (d : Composition) (old now new : List Line) → i ≡ j + 1 → j < length ps → p ≡ get_or ps j p → p ≡ selectors.Subscripts at' xs → seen ≡ xs
    → more ≡ is_indexed w false (take j ps) → d ≡ behind_parts w c (take j ps)
    → now ≡ old ++ reverse (parts_code w.variables (is_indexed w false (take i ps)) (behind_parts w c (take i ps)) (parts_in w (drop i ps))) → new ≡ now ++ reverse (element_code w more at'.line seen d)
    → new ≡ old ++ reverse (parts_code w.variables (is_indexed w false (take j ps)) (behind_parts w c (take j ps)) (parts_in w (drop j ps)))
subscripts_put w c ps i j p at' xs seen more d old now new k lt q e f g h m n =
    let here = element_code w (is_indexed w false (take j ps)) at'.line xs (behind_parts w c (take j ps)) in
    let rest = parts_code w.variables (is_indexed w false (take (j + 1) ps)) (behind_parts w c (take (j + 1) ps)) (parts_in w (drop (j + 1) ps)) in
    n ∙ ap (λ l. now ++ reverse (element_code w more at'.line l d)) f ∙ ap (λ b. now ++ reverse (element_code w b at'.line xs d)) g ∙ ap (λ y. now ++ reverse (element_code w (is_indexed w false (take j ps)) at'.line xs y)) h
    ∙ ap (λ l. l ++ reverse here) (m ∙ ap (λ x. old ++ reverse (parts_code w.variables (is_indexed w false (take x ps)) (behind_parts w c (take x ps)) (parts_in w (drop x ps)))) k)
    ∙ behind_more_code old here rest ∙ ap (λ l. old ++ reverse l) (subscripts_code w c ps j p at' xs lt q e)
