-- What an expression is as a term of a type calls what its parts call.
use Rattle.std.proofs.Common.{◌≡◌, ℕ, suc, Bool, true, false, List, [], ◌∷◌, ◌++◌, Option, Some, None, IsTrue, refl, if◌then◌else◌}
use Rattle.st_values.specs.Types.{is_same}
use Rattle.st_values.specs.declared.elem.Elem.{Elem}
use Rattle.st_values.specs.declared.elem.Elem.TheVariants as elems
use Rattle.st_values.specs.declared.value.Value.{Value}
use Rattle.st_tree.specs.declared.operator.BinOp.{BinOp}
use Rattle.st_types.specs.Compositions.{Composition}
use Rattle.st_operators.specs.Operators.{is_comparison}
use Rattle.st_types.specs.OwnTypes.{first_own, or_lint}
use Rattle.st_types.specs.Standard.{standard_of}
use Rattle.st_types.specs.declared.standard.Standard.{Standard}
use Rattle.st_types.specs.declared.standard.Standard.TheVariants as standards
use Rattle.st_types.specs.declared.standard.StandardFunction.{StandardFunction}
use Rattle.st_types.specs.declared.standard.StandardFunction.TheVariants as functions
use Rattle.st_meaning.specs.CalledBy.{CalledTest, PartsCall, TermCalls, TermsCall}
use Rattle.st_meaning.specs.Operations.{takes_one, takes_two}
use Rattle.st_meaning.specs.Steps.{has_step, step_elem}
use Rattle.st_meaning.specs.Terms.{Term, constant, stored, of_step, unary, binary, call, Parts, whole, field_part, element_part}
use Rattle.st_meaning.specs.Typing.{Passed, Typed, alone, arguments_from, as_input, call_typed, chained, combined, combined_all, compared, constant_or, converted, fitted, function_called, function_typed, go_to, goes_to, input_at, joined, named_value, nil, part_or_step, place_typed, prefixed, shifted, sources_from, step_part, step_value, terms_of, through, unnamed, unnamed_before, untyped, variable_typed}
use Rattle.st_meaning.specs.Wholes.{Called, Input, Whole, type_of}
use Rattle.st_meaning.specs.declared.operation.Binary.{Binary}
use Rattle.st_meaning.specs.declared.operation.Binary.TheVariants as binaries
use Rattle.st_meaning.specs.declared.operation.Unary.{Unary}
use Rattle.st_meaning.specs.declared.operation.Unary.TheVariants as unaries
use Rattle.st_compile.specs.Named.{NamePasses}

module _ (test : CalledTest) where
  -- as whichever type is due
  abbrev pub Passes : Typed → Type 0
  Passes x = (t : Elem) → TermCalls test (x.as_type t)

  abbrev pub Pass : List Typed → Type 0
  Pass [] = Unit {0}
  Pass (x ∷ xs) = Passes x × Pass xs

  abbrev pub ArePassed : List Passed → Type 0
  ArePassed [] = Unit {0}
  ArePassed (x ∷ xs) = Passes x.value × ArePassed xs

  pub passed_append : (xs ys : List Passed) → ArePassed xs → ArePassed ys → ArePassed (xs ++ ys)
  passed_append [] ys hs ks = ks
  passed_append (x ∷ xs) ys hs ks = (hs.0, passed_append xs ys hs.1 ks)

  abbrev pub KeepsPassing : (Typed → Typed) → Type 0
  KeepsPassing f = (x : Typed) → Passes x → Passes (f x)

  abbrev pub KeepPassing : List (Typed → Typed) → Type 0
  KeepPassing [] = Unit {0}
  KeepPassing (f ∷ fs) = KeepsPassing f × KeepPassing fs

  abbrev pub KeepsParts : (Parts → Parts) → Type 0
  KeepsParts f = (ps : Parts) → PartsCall test ps → PartsCall test (f ps)

  abbrev pub KeepParts : List (Parts → Parts) → Type 0
  KeepParts [] = Unit {0}
  KeepParts (f ∷ fs) = KeepsParts f × KeepParts fs

  either : (b : Bool) (x y : Term) → TermCalls test x → TermCalls test y → TermCalls test (if b then x else y)
  either true x y h k = h
  either false x y h k = k

  fitted_passes : (e : Elem) (term : Term) → TermCalls test term → (t : Elem) → TermCalls test (fitted e term t)
  fitted_passes e term h t = either (is_same e t) term (nil t) h tt

  -- ---- constants and places

  pub place_passes : (ps : Parts) (e : Option Elem) → PartsCall test ps → Passes (place_typed ps e)
  place_passes ps None h t = tt
  place_passes ps (Some e) h t = fitted_passes e (stored ps) h t

  named_passes : (v : Value) → Passes (named_value v)
  named_passes v t = fitted_passes v.elem (constant v) tt t

  constant_passes : (x : Typed) (c : Option Value) → Passes x → Passes (constant_or x c)
  constant_passes x None h = h
  constant_passes x (Some v) h = named_passes v

  -- a part of a variable, or of a step
  step_passes : (root : Composition) (name : List ℕ) (t : Option Bool) → Passes (step_value root name t)
  step_passes root name None = λ t. tt
  step_passes root name (Some is_time) = by (has_step root name) where
    by : (b : Bool) → Passes (if b then record { own = Some (step_elem is_time); as_type = fitted (step_elem is_time) (of_step is_time name) } else untyped)
    by true t = fitted_passes (step_elem is_time) (of_step is_time name) tt t
    by false t = tt

  part_passes : (root : Composition) (name part : List ℕ) (e : Option Elem) → PartsCall test (field_part name (field_part part whole)) → Passes (part_or_step root name part e)
  part_passes root name part None h = step_passes root name (step_part part)
  part_passes root name part (Some e) h = place_passes (field_part name (field_part part whole)) (Some e) h

  pub variable_passes : (w : Whole) (ps : Parts) → PartsCall test ps → Passes (variable_typed w ps)
  variable_passes w whole h = place_passes whole (type_of w.variables whole) h
  variable_passes w (field_part name whole) h =
      constant_passes (place_typed (field_part name whole) (type_of w.variables (field_part name whole))) (w.constants name)
      (place_passes (field_part name whole) (type_of w.variables (field_part name whole)) h)
  variable_passes w (field_part name (field_part part whole)) h =
      part_passes w.variables name part (type_of w.variables (field_part name (field_part part whole))) h
  variable_passes w (field_part name (field_part other (field_part more ps))) h =
      place_passes (field_part name (field_part other (field_part more ps))) (type_of w.variables (field_part name (field_part other (field_part more ps)))) h
  variable_passes w (field_part name (field_part other (element_part line ts ps))) h =
      place_passes (field_part name (field_part other (element_part line ts ps))) (type_of w.variables (field_part name (field_part other (element_part line ts ps)))) h
  variable_passes w (field_part name (element_part line ts ps)) h =
      place_passes (field_part name (element_part line ts ps)) (type_of w.variables (field_part name (element_part line ts ps))) h
  variable_passes w (element_part line ts ps) h = place_passes (element_part line ts ps) (type_of w.variables (element_part line ts ps)) h

  -- ---- operators

  pub prefixed_passes : (o : Unary) (x : Typed) → Passes x → Passes (prefixed o x)
  prefixed_passes o x h t = either (takes_one o t) (unary o (x.as_type t)) (nil t) (h t) tt

  combined_passes : (o : Binary) (line : ℕ) (a b : Typed) → Passes a → Passes b → Passes (combined o line a b)
  combined_passes o line a b h k t = either (takes_two o t) (binary o line (a.as_type t) (b.as_type t)) (nil t) (h t, k t) tt

  compared_passes : (o : BinOp) (line : ℕ) (a b : Typed) → Passes a → Passes b → Passes (compared o line a b)
  compared_passes o line a b h k t =
      let e = or_lint (first_own (a.own ∷ b.own ∷ [])) in
      fitted_passes elems.Bool (binary (binaries.Operator o) line (a.as_type e) (b.as_type e)) (h e, k e) t

  pub joined_passes : (o : BinOp) (line : ℕ) (a b : Typed) → Passes a → Passes b → Passes (joined o line a b)
  joined_passes o line a b h k = by (is_comparison o) where
    by : (c : Bool) → Passes (if c then compared o line a b else combined (binaries.Operator o) line a b)
    by true = compared_passes o line a b h k
    by false = combined_passes (binaries.Operator o) line a b h k

  pub chained_passes : (x : Typed) (fs : List (Typed → Typed)) → Passes x → KeepPassing fs → Passes (chained x fs)
  chained_passes x [] h keep = h
  chained_passes x (f ∷ fs) h keep = chained_passes (f x) fs (keep.0 x h) keep.1

  -- ---- standard functions and conversions

  combined_all_passes : (o : Binary) (x : Typed) (ys : List Typed) → Passes x → Pass ys → Passes (combined_all o x ys)
  combined_all_passes o x [] h hs = h
  combined_all_passes o x (y ∷ ys) h hs = combined_all_passes o (combined o 0 x y) ys (combined_passes o 0 x y h hs.0) hs.1

  shifted_passes : (o : Binary) (x n : Typed) → Passes x → Passes n → Passes (shifted o x n)
  shifted_passes o x n h k t = either (takes_two o t) (binary o 0 (x.as_type t) (alone n)) (nil t) (h t, k (or_lint n.own)) tt

  function_passes : (f : StandardFunction) (xs : List Typed) → Pass xs → Passes (function_typed f xs)
  function_passes functions.Abs (x ∷ []) hs = prefixed_passes unaries.Absolute x hs.0
  function_passes functions.Min (x ∷ ys) hs = combined_all_passes binaries.Least x ys hs.0 hs.1
  function_passes functions.Max (x ∷ ys) hs = combined_all_passes binaries.Greatest x ys hs.0 hs.1
  function_passes functions.Limit (low ∷ x ∷ high ∷ []) hs =
      combined_passes binaries.Least 0 (combined binaries.Greatest 0 low x) high (combined_passes binaries.Greatest 0 low x hs.0 hs.1.0) hs.1.1.0
  function_passes functions.Sel (g ∷ x ∷ y ∷ []) hs = λ t. (hs.0 elems.Bool, hs.1.0 t, hs.1.1.0 t)
  function_passes functions.Shl (x ∷ n ∷ []) hs = shifted_passes binaries.ShiftLeft x n hs.0 hs.1.0
  function_passes functions.Shr (x ∷ n ∷ []) hs = shifted_passes binaries.ShiftRight x n hs.0 hs.1.0
  function_passes functions.Rol (x ∷ n ∷ []) hs = shifted_passes binaries.RotateLeft x n hs.0 hs.1.0
  function_passes functions.Ror (x ∷ n ∷ []) hs = shifted_passes binaries.RotateRight x n hs.0 hs.1.0
  function_passes _ _ hs = λ t. tt

  converted_passes : (from to : Elem) (xs : List Typed) → Pass xs → Passes (converted from to xs)
  converted_passes from to (x ∷ []) hs t = fitted_passes to (unary (unaries.Convert to) (x.as_type from)) (hs.0 from) t
  converted_passes from to _ hs t = tt

  -- ---- functions of the text

  before_passes : (name : Option (List ℕ)) (x : Typed) (xs : List Typed) → Passes x → Pass xs → Pass (unnamed_before name x xs)
  before_passes None x xs h hs = (h, hs)
  before_passes (Some name) x xs h hs = hs

  unnamed_passes : (xs : List Passed) → ArePassed xs → Pass (unnamed xs)
  unnamed_passes [] hs = tt
  unnamed_passes (x ∷ xs) hs = before_passes x.name x.value (unnamed xs) hs.0 (unnamed_passes xs hs.1)

  input_passes : (x : Typed) (i : Option Input) → Passes x → TermCalls test (as_input x i)
  input_passes x None h = h (or_lint x.own)
  input_passes x (Some i) h = h i.initial.elem

  arguments_pass : (inputs : List Input) (place : ℕ) (xs : List Passed) → ArePassed xs → TermsCall test (arguments_from inputs place xs)
  arguments_pass inputs place [] hs = tt
  arguments_pass inputs place (x ∷ xs) hs = (input_passes x.value (input_at inputs (goes_to inputs place x.name)) hs.0, arguments_pass inputs (suc place) xs hs.1)

  called_passes : (line : ℕ) (f : Option Called) (xs : List Passed) → ((g : Called) → f ≡ Some g → IsTrue (test g.number)) → ArePassed xs → Passes (function_called line f xs)
  called_passes line None xs is hs t = tt
  called_passes line (Some f) xs is hs t =
      fitted_passes f.result (call line f.number f.result (arguments_from f.inputs 0 xs) (sources_from (go_to f.inputs 0 xs) 0 f.inputs)) (is f refl, arguments_pass f.inputs 0 xs hs) t

  pub call_passes : (w : Whole) (line : ℕ) (name : List ℕ) (s : Option Standard) (xs : List Passed) → standard_of name ≡ s → NamePasses w test name → ArePassed xs
      → Passes (call_typed w line name s xs)
  call_passes w line name (Some (standards.Function f)) xs e is hs = function_passes f (unnamed xs) (unnamed_passes xs hs)
  call_passes w line name (Some (standards.Conversion from to)) xs e is hs = converted_passes from to (unnamed xs) (unnamed_passes xs hs)
  call_passes w line name (Some (standards.Block b)) xs e is hs = λ t. tt
  call_passes w line name None xs e is hs = called_passes line (w.functions name) xs (λ g h. is g e h) hs

  -- ---- lists

  pub terms_pass : (xs : List Typed) → Pass xs → TermsCall test (terms_of xs)
  terms_pass [] hs = tt
  terms_pass (x ∷ xs) hs = (hs.0 (or_lint x.own), terms_pass xs hs.1)

  pub through_passes : (fs : List (Parts → Parts)) → KeepParts fs → PartsCall test (through fs)
  through_passes [] keep = tt
  through_passes (f ∷ fs) keep = keep.0 (through fs) (through_passes fs keep.1)
