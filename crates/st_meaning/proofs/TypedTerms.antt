-- What an expression is as a term of a type is a sound term of that type (3.3.1, 2.5.1.5).
use Rattle.std.proofs.Common.{◌≡◌, ℕ, Bool, true, false, List, [], ◌∷◌, get_or, Option, Some, None, IsTrue, is_some, refl, ap, sym, ◌∙◌, subst, if◌then◌else◌}
use Rattle.std.proofs.lemmas.Bool.Decides.{Decides-eqb}
use Rattle.st_values.specs.Types.{is_same, place_of}
use Rattle.st_values.specs.Values.{IsValue}
use Rattle.st_values.specs.declared.elem.Elem.{Elem}
use Rattle.st_values.specs.declared.elem.Elem.TheVariants as elems
use Rattle.st_values.specs.declared.value.Value.{Value}
use Rattle.st_tree.specs.declared.operator.BinOp.{BinOp}
use Rattle.st_tree.specs.declared.operator.BinOp.TheVariants as operators
use Rattle.st_tree.specs.declared.tree.constant.Constant.{Constant}
use Rattle.st_types.specs.Compositions.{Composition}
use Rattle.st_types.specs.Initials.{number_in}
use Rattle.st_types.specs.OwnTypes.{first_own, or_lint}
use Rattle.st_types.specs.declared.standard.StandardFunction.{StandardFunction}
use Rattle.st_types.specs.declared.standard.StandardFunction.TheVariants as standard_functions
use Rattle.st_operators.specs.Operators.{takes, type_given, is_comparison}
use Rattle.st_operators.proofs.Results.{wrapped_is}
use Rattle.st_meaning.specs.Operations.{binary_type, has_count, takes_one, takes_two, unary_type}
use Rattle.st_meaning.specs.Sound.{AreSoundParts, AreSoundTerms, IsTermOf, term_type}
use Rattle.st_meaning.specs.Steps.{has_step, step_elem}
use Rattle.st_meaning.specs.Terms.{Term, constant, stored, of_step, unary, binary, Parts, whole, field_part, element_part}
use Rattle.st_meaning.specs.Typing.{Typed, alone, chained, combined, combined_all, compared, constant_or, converted, fitted, function_typed, joined, literal, named_value, nil, part_or_step, place_typed, prefixed, selected, shifted, step_part, step_value, terms_of, through, untyped, variable_typed}
use Rattle.st_meaning.specs.Wholes.{Functions, Whole, type_of}
use Rattle.st_meaning.specs.declared.operation.Binary.{Binary}
use Rattle.st_meaning.specs.declared.operation.Binary.TheVariants as binaries
use Rattle.st_meaning.specs.declared.operation.Unary.{Unary}
use Rattle.st_meaning.specs.declared.operation.Unary.TheVariants as unaries
use Rattle.st_leaves.proofs.Begins.{zero_is_value}

-- ---- types

all_types : List Elem
all_types =
    elems.Bool ∷ elems.Sint ∷ elems.Int ∷ elems.Dint ∷ elems.Lint ∷ elems.Usint ∷ elems.Uint ∷ elems.Udint ∷ elems.Ulint ∷ elems.Byte ∷ elems.Word ∷ elems.Dword ∷ elems.Lword
    ∷ elems.Time ∷ []

type_placed : (e : Elem) → get_or all_types (place_of e) elems.Bool ≡ e
unfolding all_types
type_placed elems.Bool = refl
type_placed elems.Sint = refl
type_placed elems.Int = refl
type_placed elems.Dint = refl
type_placed elems.Lint = refl
type_placed elems.Usint = refl
type_placed elems.Uint = refl
type_placed elems.Udint = refl
type_placed elems.Ulint = refl
type_placed elems.Byte = refl
type_placed elems.Word = refl
type_placed elems.Dword = refl
type_placed elems.Lword = refl
type_placed elems.Time = refl

pub same_type : (d e : Elem) → is_same d e ≡ true → d ≡ e
same_type d e h = sym (type_placed d) ∙ ap (λ n. get_or all_types n elems.Bool) ((Decides-eqb (place_of d) (place_of e)).0 h) ∙ type_placed e

-- ---- what is sound

-- as whichever type is due
abbrev pub IsSound : Functions → Composition → Typed → Type 0
IsSound functions root x = (t : Elem) → IsTermOf functions root t (x.as_type t)

abbrev pub AreSound : Functions → Composition → List Typed → Type 0
AreSound functions root [] = Unit {0}
AreSound functions root (x ∷ xs) = IsSound functions root x × AreSound functions root xs

-- what makes something sound of what is sound
abbrev pub KeepsSound : Functions → Composition → (Typed → Typed) → Type 0
KeepsSound functions root f = (x : Typed) → IsSound functions root x → IsSound functions root (f x)

abbrev pub KeepSound : Functions → Composition → List (Typed → Typed) → Type 0
KeepSound functions root [] = Unit {0}
KeepSound functions root (f ∷ fs) = KeepsSound functions root f × KeepSound functions root fs

abbrev pub KeepsParts : Functions → Composition → (Parts → Parts) → Type 0
KeepsParts functions root f = (ps : Parts) → AreSoundParts functions root ps → AreSoundParts functions root (f ps)

abbrev pub KeepParts : Functions → Composition → List (Parts → Parts) → Type 0
KeepParts functions root [] = Unit {0}
KeepParts functions root (f ∷ fs) = KeepsParts functions root f × KeepParts functions root fs

-- each constant is a value
abbrev pub HasValues : Whole → Type 0
HasValues w = (name : List ℕ) (v : Value) → w.constants name ≡ Some v → IsValue v

module _ (functions : Functions) (root : Composition) where
  pub nil_sound : (t : Elem) → IsTermOf functions root t (nil t)
  nil_sound t = record { type = refl; sound = zero_is_value t }

  pub fitted_sound : (e : Elem) (term : Term) → IsTermOf functions root e term → (t : Elem) → IsTermOf functions root t (fitted e term t)
  fitted_sound e term h t = by (is_same e t) refl where
    by : (b : Bool) → is_same e t ≡ b → IsTermOf functions root t (if b then term else nil t)
    by true q = subst (λ d. IsTermOf functions root d term) (same_type e t q) h
    by false q = nil_sound t

  pub alone_sound : (x : Typed) → IsSound functions root x → IsTermOf functions root (or_lint x.own) (alone x)
  alone_sound x h = h (or_lint x.own)

  -- ---- literals, constants and places

  pub literal_sound : (c : Constant) → IsSound functions root (literal c)
  literal_sound c t = let is = wrapped_is t (number_in c) in record { type = is.of_type; sound = is.in_range }

  named_sound : (v : Value) → IsValue v → IsSound functions root (named_value v)
  named_sound v h t = fitted_sound v.elem (constant v) (record { type = refl; sound = h }) t

  pub place_sound : (ps : Parts) (e : Option Elem) → type_of root ps ≡ e → AreSoundParts functions root ps → IsSound functions root (place_typed ps e)
  place_sound ps None h parts t = nil_sound t
  place_sound ps (Some e) h parts t = fitted_sound e (stored ps) (record { type = ap or_lint h; sound = (ap is_some h, parts) }) t

  -- ---- operators

  pub prefixed_sound : (o : Unary) (x : Typed) → ((e : Elem) → unary_type o e ≡ e) → IsSound functions root x → IsSound functions root (prefixed o x)
  prefixed_sound o x keeps h t = by (takes_one o t) refl where
    by : (b : Bool) → takes_one o t ≡ b → IsTermOf functions root t (if b then unary o (x.as_type t) else nil t)
    by true q = record { type = keeps (term_type root (x.as_type t)) ∙ (h t).type; sound = ((h t).sound, ap (takes_one o) (h t).type ∙ q) }
    by false q = nil_sound t

  combined_sound : (o : Binary) (line : ℕ) (a b : Typed) → ((e : Elem) → binary_type o e ≡ e) → IsSound functions root a → IsSound functions root b → IsSound functions root (combined o line a b)
  combined_sound o line a b keeps h k t = by (takes_two o t) refl where
    by : (c : Bool) → takes_two o t ≡ c → IsTermOf functions root t (if c then binary o line (a.as_type t) (b.as_type t) else nil t)
    by true q = record {
      type = keeps (term_type root (a.as_type t)) ∙ (h t).type;
      sound = ((h t).sound, (k t).sound, ap (takes_two o) (h t).type ∙ q, λ n. (h t).type ∙ sym (k t).type);
    }
    by false q = nil_sound t

  comparison_is : (o : BinOp) (e : Elem) → is_comparison o ≡ true → (type_given o e ≡ elems.Bool) × IsTrue (takes o e)
  comparison_is operators.Eq e h = (refl, refl)
  comparison_is operators.Ne e h = (refl, refl)
  comparison_is operators.Lt e h = (refl, refl)
  comparison_is operators.Gt e h = (refl, refl)
  comparison_is operators.Le e h = (refl, refl)
  comparison_is operators.Ge e h = (refl, refl)
  comparison_is _ e h = cc

  operation_keeps : (o : BinOp) (e : Elem) → is_comparison o ≡ false → type_given o e ≡ e
  operation_keeps operators.Eq e h = cc
  operation_keeps operators.Ne e h = cc
  operation_keeps operators.Lt e h = cc
  operation_keeps operators.Gt e h = cc
  operation_keeps operators.Le e h = cc
  operation_keeps operators.Ge e h = cc
  operation_keeps _ e h = refl

  compared_sound : (o : BinOp) (line : ℕ) (a b : Typed) → is_comparison o ≡ true → IsSound functions root a → IsSound functions root b → IsSound functions root (compared o line a b)
  compared_sound o line a b c h k t =
      let e = or_lint (first_own (a.own ∷ b.own ∷ [])) in
      let is = comparison_is o (term_type root (a.as_type e)) c in
      fitted_sound elems.Bool (binary (binaries.Operator o) line (a.as_type e) (b.as_type e))
      (record { type = is.0; sound = ((h e).sound, (k e).sound, is.1, λ n. (h e).type ∙ sym (k e).type) }) t

  pub joined_sound : (o : BinOp) (line : ℕ) (a b : Typed) → IsSound functions root a → IsSound functions root b → IsSound functions root (joined o line a b)
  joined_sound o line a b h k = by (is_comparison o) refl where
    by : (c : Bool) → is_comparison o ≡ c → IsSound functions root (if c then compared o line a b else combined (binaries.Operator o) line a b)
    by true q = compared_sound o line a b q h k
    by false q = combined_sound (binaries.Operator o) line a b (λ e. operation_keeps o e q) h k

  pub chained_sound : (x : Typed) (fs : List (Typed → Typed)) → IsSound functions root x → KeepSound functions root fs → IsSound functions root (chained x fs)
  chained_sound x [] h keep = h
  chained_sound x (f ∷ fs) h keep = chained_sound (f x) fs (keep.0 x h) keep.1

  -- ---- standard functions and conversions

  combined_all_sound : (o : Binary) (x : Typed) (ys : List Typed) → ((e : Elem) → binary_type o e ≡ e) → IsSound functions root x → AreSound functions root ys → IsSound functions root (combined_all o x ys)
  combined_all_sound o x [] keeps h hs = h
  combined_all_sound o x (y ∷ ys) keeps h hs = combined_all_sound o (combined o 0 x y) ys keeps (combined_sound o 0 x y keeps h hs.0) hs.1

  shifted_sound : (o : Binary) (x n : Typed) → has_count o ≡ true → ((e : Elem) → binary_type o e ≡ e) → IsSound functions root x → IsSound functions root n → IsSound functions root (shifted o x n)
  shifted_sound o x n counts keeps h k t = by (takes_two o t) refl where
    by : (c : Bool) → takes_two o t ≡ c → IsTermOf functions root t (if c then binary o 0 (x.as_type t) (alone n) else nil t)
    by true q = record {
      type = keeps (term_type root (x.as_type t)) ∙ (h t).type;
      sound = ((h t).sound, (alone_sound n k).sound, ap (takes_two o) (h t).type ∙ q, λ none. absurd (let e : true ≡ false = sym counts ∙ none in cc));
    }
    by false q = nil_sound t

  selected_sound : (g x y : Typed) → IsSound functions root g → IsSound functions root x → IsSound functions root y → IsSound functions root (selected g x y)
  selected_sound g x y h k l t = record { type = (k t).type; sound = ((h elems.Bool).sound, (k t).sound, (l t).sound, (k t).type ∙ sym (l t).type) }

  pub function_sound : (f : StandardFunction) (xs : List Typed) → AreSound functions root xs → IsSound functions root (function_typed f xs)
  function_sound standard_functions.Abs (x ∷ []) hs = prefixed_sound unaries.Absolute x (λ e. refl) hs.0
  function_sound standard_functions.Min (x ∷ ys) hs = combined_all_sound binaries.Least x ys (λ e. refl) hs.0 hs.1
  function_sound standard_functions.Max (x ∷ ys) hs = combined_all_sound binaries.Greatest x ys (λ e. refl) hs.0 hs.1
  function_sound standard_functions.Limit (low ∷ x ∷ high ∷ []) hs =
      combined_sound binaries.Least 0 (combined binaries.Greatest 0 low x) high (λ e. refl) (combined_sound binaries.Greatest 0 low x (λ e. refl) hs.0 hs.1.0) hs.1.1.0
  function_sound standard_functions.Sel (g ∷ x ∷ y ∷ []) hs = selected_sound g x y hs.0 hs.1.0 hs.1.1.0
  function_sound standard_functions.Shl (x ∷ n ∷ []) hs = shifted_sound binaries.ShiftLeft x n refl (λ e. refl) hs.0 hs.1.0
  function_sound standard_functions.Shr (x ∷ n ∷ []) hs = shifted_sound binaries.ShiftRight x n refl (λ e. refl) hs.0 hs.1.0
  function_sound standard_functions.Rol (x ∷ n ∷ []) hs = shifted_sound binaries.RotateLeft x n refl (λ e. refl) hs.0 hs.1.0
  function_sound standard_functions.Ror (x ∷ n ∷ []) hs = shifted_sound binaries.RotateRight x n refl (λ e. refl) hs.0 hs.1.0
  function_sound _ _ hs = nil_sound

  pub converted_sound : (from to : Elem) (xs : List Typed) → AreSound functions root xs → IsSound functions root (converted from to xs)
  converted_sound from to (x ∷ []) hs t = fitted_sound to (unary (unaries.Convert to) (x.as_type from)) (record { type = refl; sound = ((hs.0 from).sound, refl) }) t
  converted_sound from to _ hs t = nil_sound t

  -- ---- lists

  pub terms_sound : (xs : List Typed) → AreSound functions root xs → AreSoundTerms functions root (terms_of xs)
  terms_sound [] hs = tt
  terms_sound (x ∷ xs) hs = ((alone_sound x hs.0).sound, terms_sound xs hs.1)

  pub through_sound : (fs : List (Parts → Parts)) → KeepParts functions root fs → AreSoundParts functions root (through fs)
  through_sound [] keep = tt
  through_sound (f ∷ fs) keep = keep.0 (through fs) (through_sound fs keep.1)

-- a part of a step
step_value_sound : (functions : Functions) (root : Composition) (name : List ℕ) (t : Option Bool) → IsSound functions root (step_value root name t)
step_value_sound functions root name None = nil_sound functions root
step_value_sound functions root name (Some is_time) = by (has_step root name) refl where
  by : (b : Bool) → has_step root name ≡ b
      → IsSound functions root (if b then record { own = Some (step_elem is_time); as_type = fitted (step_elem is_time) (of_step is_time name) } else untyped)
  by true q = fitted_sound functions root (step_elem is_time) (of_step is_time name) (record { type = refl; sound = q })
  by false q = nil_sound functions root

part_sound : (functions : Functions) (root : Composition) (name part : List ℕ) (e : Option Elem) → type_of root (field_part name (field_part part whole)) ≡ e
    → IsSound functions root (part_or_step root name part e)
part_sound functions root name part None h = step_value_sound functions root name (step_part part)
part_sound functions root name part (Some e) h = place_sound functions root (field_part name (field_part part whole)) (Some e) h tt

-- a variable, or a constant
pub variable_sound : (functions : Functions) (w : Whole) (ps : Parts) → HasValues w → AreSoundParts functions w.variables ps → IsSound functions w.variables (variable_typed w ps)
variable_sound functions w whole values parts = place_sound functions w.variables whole (type_of w.variables whole) refl parts
variable_sound functions w (field_part name whole) values parts = by (w.constants name) refl where
  by : (c : Option Value) → w.constants name ≡ c → IsSound functions w.variables (constant_or (place_typed (field_part name whole) (type_of w.variables (field_part name whole))) c)
  by None q = place_sound functions w.variables (field_part name whole) (type_of w.variables (field_part name whole)) refl parts
  by (Some v) q = named_sound functions w.variables v (values name v q)
variable_sound functions w (field_part name (field_part part whole)) values parts =
    part_sound functions w.variables name part (type_of w.variables (field_part name (field_part part whole))) refl
variable_sound functions w (field_part name (field_part part (field_part other ps))) values parts =
    place_sound functions w.variables (field_part name (field_part part (field_part other ps))) (type_of w.variables (field_part name (field_part part (field_part other ps)))) refl parts
variable_sound functions w (field_part name (field_part part (element_part line ts ps))) values parts =
    place_sound functions w.variables (field_part name (field_part part (element_part line ts ps))) (type_of w.variables (field_part name (field_part part (element_part line ts ps)))) refl parts
variable_sound functions w (field_part name (element_part line ts ps)) values parts =
    place_sound functions w.variables (field_part name (element_part line ts ps)) (type_of w.variables (field_part name (element_part line ts ps))) refl parts
variable_sound functions w (element_part line ts ps) values parts = place_sound functions w.variables (element_part line ts ps) (type_of w.variables (element_part line ts ps)) refl parts
