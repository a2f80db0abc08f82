-- What typing makes of a call of a function is sound (2.5.1, 3.3.1).
use Rattle.std.proofs.Common.{◌≡◌, ℕ, zero, suc, ◌+◌, true, List, [], ◌∷◌, ◌++◌, get_or, Option, Some, None, refl, ap, sym, ◌∙◌, arith}
use Rattle.std.specs.List.{position}
use Rattle.std.specs.Prelude.{slice_get}
use Rattle.std.proofs.lemmas.Bool.Decides.{Decides-eqb}
use Rattle.std.proofs.lemmas.List.Quantifiers.{position-Some}
use Rattle.st_values.specs.Values.{IsValue}
use Rattle.st_values.specs.declared.elem.Elem.{Elem}
use Rattle.st_types.specs.Compositions.{Composition}
use Rattle.st_types.specs.declared.standard.Standard.{Standard}
use Rattle.st_types.specs.declared.standard.Standard.TheVariants as standards
use Rattle.st_meaning.specs.Sound.{AreSoundTerms, AreSourcesOf, IsSourceOf, IsTermOf, term_type, types_in}
use Rattle.st_meaning.specs.Terms.{Term, call, no_terms, more_terms}
use Rattle.st_meaning.specs.Typing.{Passed, Typed, arguments_from, as_input, call_typed, function_called, go_to, goes_to, input_at, is_number, source_of, sources_from, unnamed, unnamed_before}
use Rattle.st_meaning.specs.Wholes.{Called, Functions, Input, Whole}
use Rattle.st_meaning.proofs.TypedTerms.{AreSound, HasValues, IsSound, alone_sound, converted_sound, fitted_sound, function_sound, nil_sound}

-- ---- what a unit knows of names

-- each input begins with a value
abbrev pub BeginWithValues : List Input → Type 0
BeginWithValues [] = Unit {0}
BeginWithValues (i ∷ is) = IsValue i.initial × BeginWithValues is

-- the unit of its number is this function
pub record IsFunction (functions : Functions) (f : Called) : Type 0 where
  pub known : functions f.number ≡ Some f
  pub begins : BeginWithValues f.inputs

-- each constant is a value, and what can be called is a function
pub record KnowsNames (functions : Functions) (w : Whole) : Type 0 where
  pub values : HasValues w
  pub called : (name : List ℕ) (f : Called) → w.functions name ≡ Some f → IsFunction functions f

-- ---- arguments

module _ (functions : Functions) (root : Composition) where
  abbrev pub ArePassed : List Passed → Type 0
  ArePassed [] = Unit {0}
  ArePassed (x ∷ xs) = IsSound functions root x.value × ArePassed xs

  pub passed_append : (xs ys : List Passed) → ArePassed xs → ArePassed ys → ArePassed (xs ++ ys)
  passed_append [] ys hs ks = ks
  passed_append (x ∷ xs) ys hs ks = (hs.0, passed_append xs ys hs.1 ks)

  before_sound : (name : Option (List ℕ)) (x : Typed) (xs : List Typed) → IsSound functions root x → AreSound functions root xs → AreSound functions root (unnamed_before name x xs)
  before_sound None x xs h hs = (h, hs)
  before_sound (Some name) x xs h hs = hs

  unnamed_sound : (xs : List Passed) → ArePassed xs → AreSound functions root (unnamed xs)
  unnamed_sound [] hs = tt
  unnamed_sound (x ∷ xs) hs = before_sound x.name x.value (unnamed xs) hs.0 (unnamed_sound xs hs.1)

  input_sound : (x : Typed) (i : Option Input) → IsSound functions root x → AreSoundTerms functions root (more_terms (as_input x i) no_terms)
  input_sound x None h = ((alone_sound functions root x h).sound, tt)
  input_sound x (Some i) h = ((h i.initial.elem).sound, tt)

  arguments_sound : (inputs : List Input) (place : ℕ) (xs : List Passed) → ArePassed xs → AreSoundTerms functions root (arguments_from inputs place xs)
  arguments_sound inputs place [] hs = tt
  arguments_sound inputs place (x ∷ xs) hs =
      ((input_sound x.value (input_at inputs (goes_to inputs place x.name)) hs.0).0, arguments_sound inputs (suc place) xs hs.1)

  -- an argument that goes to an input has its type
  goes_type : (inputs : List Input) (n : ℕ) (i : Input) (x : Typed) (to : Option ℕ) → IsSound functions root x → slice_get inputs n ≡ Some i → is_number n to ≡ true
      → Some (term_type root (as_input x (input_at inputs to))) ≡ Some i.initial.elem
  goes_type inputs n i x None h at is = cc
  goes_type inputs n i x (Some m) h at is =
      let same : m ≡ n = (Decides-eqb m n).0 is in
      let here : slice_get inputs m ≡ Some i = ap (slice_get inputs) same ∙ at in
      ap (λ o. Some (term_type root (as_input x o))) here ∙ ap (λ e. Some e) (h i.initial.elem).type

  argument_type : (inputs : List Input) (n : ℕ) (i : Input) → slice_get inputs n ≡ Some i → (first : ℕ) (xs : List Passed) (place : ℕ) → ArePassed xs
      → is_number n (get_or (go_to inputs first xs) place None) ≡ true → slice_get (types_in root (arguments_from inputs first xs)) place ≡ Some i.initial.elem
  argument_type inputs n i at first [] place hs is = cc
  argument_type inputs n i at first (x ∷ xs) zero hs is = goes_type inputs n i x.value (goes_to inputs first x.name) hs.0 at is
  argument_type inputs n i at first (x ∷ xs) (suc place) hs is = argument_type inputs n i at (suc first) xs place hs.1 is

  -- ---- where the values of inputs are from

  module _ (inputs : List Input) (xs : List Passed) (hs : ArePassed xs) where
    abbrev types : List Elem
    types = types_in root (arguments_from inputs 0 xs)

    abbrev places : List (Option ℕ)
    places = go_to inputs 0 xs

    source_sound : (n : ℕ) (i : Input) (place : Option ℕ) → slice_get inputs n ≡ Some i → IsValue i.initial → position (is_number n) places ≡ place
        → IsSourceOf types i.initial.elem (source_of i.initial place)
    source_sound n i None at is h = record { in_range = is; of_type = refl }
    source_sound n i (Some place) at is h = argument_type inputs n i at 0 xs place hs (position-Some (is_number n) places place None h).1

    -- of the inputs from a number on
    sources_sound : (n : ℕ) (is : List Input) → ((j : ℕ) → slice_get is j ≡ slice_get inputs (n + j)) → BeginWithValues is → AreSourcesOf types is (sources_from places n is)
    sources_sound n [] rest begin = tt
    sources_sound n (i ∷ is) rest begin =
        let z : n + 0 ≡ n = omega arith in
        let at : slice_get inputs n ≡ Some i = sym (rest 0 ∙ ap (slice_get inputs) z) in (
          source_sound n i (position (is_number n) places) at begin.0 refl,
          sources_sound (suc n) is (λ j. rest (suc j) ∙ ap (slice_get inputs) (let q : n + suc j ≡ suc n + j = omega arith in q)) begin.1,
        )

    all_sources : BeginWithValues inputs → AreSourcesOf types inputs (sources_from places 0 inputs)
    all_sources begin = sources_sound 0 inputs (λ j. ap (slice_get inputs) (let q : j ≡ 0 + j = omega arith in q)) begin

  -- ---- calls

  called_sound : (line : ℕ) (f : Option Called) (xs : List Passed) → ((g : Called) → f ≡ Some g → IsFunction functions g) → ArePassed xs
      → IsSound functions root (function_called line f xs)
  called_sound line None xs is hs t = nil_sound functions root t
  called_sound line (Some f) xs is hs t =
      let known = is f refl in
      let term : Term = call line f.number f.result (arguments_from f.inputs 0 xs) (sources_from (go_to f.inputs 0 xs) 0 f.inputs) in
      let sound : IsTermOf functions root f.result term = record {
        type = refl;
        sound = (
          arguments_sound f.inputs 0 xs hs,
          record {
            function = f;
            known = known.known;
            result_is = refl;
            inputs = all_sources f.inputs xs hs known.begins;
          },
        );
      } in
      fitted_sound functions root f.result term sound t

pub call_sound : (functions : Functions) (w : Whole) (known : KnowsNames functions w) (line : ℕ) (name : List ℕ) (s : Option Standard) (xs : List Passed)
    → ArePassed functions w.variables xs → IsSound functions w.variables (call_typed w line name s xs)
call_sound functions w known line name (Some (standards.Function f)) xs hs = function_sound functions w.variables f (unnamed xs) (unnamed_sound functions w.variables xs hs)
call_sound functions w known line name (Some (standards.Conversion from to)) xs hs =
    converted_sound functions w.variables from to (unnamed xs) (unnamed_sound functions w.variables xs hs)
call_sound functions w known line name (Some (standards.Block b)) xs hs = nil_sound functions w.variables
call_sound functions w known line name None xs hs = called_sound functions w.variables line (w.functions name) xs (λ g h. known.called name g h) hs
