-- Which functions the code of a program calls: small ones, on levels below its own.
use Rattle.std.proofs.Common.{◌≡◌, ℕ, ◌<◌, ◌≤◌, ◌==◌, Bool, true, false, if◌then◌else◌, nat_lt, List, length, Option, Some, None, refl, ap, sym, ◌∙◌, subst, arith}
use Rattle.std.specs.List.{slice_get}
use Rattle.std.proofs.lemmas.Bool.{and_from, lt-ltb, ltb-true}
use Rattle.std.proofs.lemmas.Bool.Decides.{nat_tests}
use Rattle.std.proofs.lemmas.List.{length-map}
use Rattle.st_check.specs.Programs.{IsChecked, ProgramView, level_in, order_of, text_of}
use Rattle.st_tree.specs.declared.tree.unit.Function.{Function}
use Rattle.st_types.specs.Names.{Declares, Named, unit_at, units_of}
use Rattle.st_types.specs.Names as names
use Rattle.st_meaning.specs.CalledBy.{BodyCalls, CalledTest}
use Rattle.st_meaning.specs.Sound.{AreSoundCalls}
use Rattle.st_meaning.specs.Units.{body_of_unit, called_as, called_by, calls_of, function_at, statements_of, unit_whole}
use Rattle.st_meaning.specs.Wholes.{Called}
use Rattle.st_compile.specs.Passing.{passing}
use Rattle.st_code.specs.CalledFunctions.{FunctionsPass}
use Rattle.st_code.specs.Correct.{HaveTypes}
use Rattle.st_machine.specs.Functions.{CallsBelow, is_callable, may_call}
use Rattle.st_places.specs.Parts.{is_function, is_small_function}
use Rattle.st_places.specs.Functions.{starts_of}
use Rattle.st_compile.specs.Programs.{function_view, no_function, program_functions, small_function, types_taken, unit_code}
use Rattle.st_compile.proofs.Charted.{function_body_is}
use Rattle.st_compile.proofs.Known.{Known}
use Rattle.st_compile.proofs.OneLeaf.{one_leaf_each}
use Rattle.st_compile.proofs.Ordered.{at_its_level, level_below, view_at}
use Rattle.st_compile.proofs.Said.{function_body}
use Rattle.st_compile.proofs.Starts.{starts_first}

-- no function of the program has more variables than an image takes
abbrev pub AreFunctionsSmall : ProgramView → Type 0
AreFunctionsSmall program = (n : ℕ) (u : Named) → unit_at (units_of (text_of program)) n ≡ Some u → is_function u.declares ≡ true → is_small_function (units_of (text_of program)) u ≡ true

-- ---- what is known of functions

pub have_types : (program : ProgramView) → HaveTypes (function_at (units_of (text_of program))) (function_body (units_of (text_of program)))
have_types program number function is = ap types_taken is

pub sound_calls : Known → (program : ProgramView) → IsChecked program → AreSoundCalls (function_at (units_of (text_of program))) (calls_of (units_of (text_of program)))
sound_calls known program checked =
    known.calls (units_of (text_of program)) (λ number u at. one_leaf_each (units_of (text_of program)) u (known.units program checked number u at))

-- the unit that a function is
pub record IsUnit (units : List Named) (number : ℕ) : Type 0 where
  pub unit : Named
  pub at : unit_at units number ≡ Some unit
  pub is : is_function unit.declares ≡ true

is_called : (units : List Named) (number : ℕ) (d : Declares) (f : Called) → called_as units number d ≡ Some f → is_function d ≡ true
is_called units number (names.function g) f e = refl
is_called units number (names.type t) f e = absurd cc
is_called units number (names.block b) f e = absurd cc
is_called units number (names.program p) f e = absurd cc

unit_by : (units : List Named) (number : ℕ) (o : Option Named) (f : Called) → unit_at units number ≡ o → called_by units number o ≡ Some f → IsUnit units number
unit_by units number None f at e = absurd cc
unit_by units number (Some u) f at e = record { unit = u; at = at; is = is_called units number u.declares f e }

pub called_unit : (units : List Named) (number : ℕ) (f : Called) → function_at units number ≡ Some f → IsUnit units number
called_unit units number f e = unit_by units number (unit_at units number) f refl e

pub same_number : (m n : ℕ) → m ≡ n → (m == n) ≡ true
same_number m n e = grind (arith, nat_tests)

module _ (known : Known) (program : ProgramView) (checked : IsChecked program) (small : AreFunctionsSmall program) where
  abbrev units : List Named
  units = units_of (text_of program)

  abbrev order : List ℕ
  order = order_of program

  -- the code of a function
  pub view_of : (n : ℕ) (u : Named) → unit_at units n ≡ Some u → is_small_function units u ≡ true → slice_get (program_functions program) n ≡ Some (small_function units order n u)
  unfolding program_functions
  view_of n u at few = view_at (function_view units order) units n u at ∙ ap (λ b. Some (if b then small_function units order n u else no_function order)) few

  -- a function may be called from above its level
  callable : (n : ℕ) (f : Called) → function_at units n ≡ Some f → (level : ℕ) → level_in order n < level → may_call (program_functions program) level n (length f.inputs) ≡ true
  callable n f is level below =
      let of = called_unit units n f is in
      let few = small n of.unit of.at of.is in
      let many : length (types_taken (function_at units n)) ≡ length f.inputs = ap (λ o. length (types_taken o)) is ∙ length-map f.inputs (λ i. i.initial.elem) in
      ap (is_callable level (length f.inputs)) (view_of n of.unit of.at few)
      ∙ and_from (nat_lt (level_in order n) level) _ (lt-ltb (level_in order n) level below)
      (and_from (length (types_taken (function_at units n)) == length f.inputs) _ (same_number (length (types_taken (function_at units n))) (length f.inputs) many)
      (lt-ltb 0 (length (starts_of units of.unit)) (starts_first units of.unit of.is)))

  its_level : (n : ℕ) (f : Called) → function_at units n ≡ Some f → level_in order n < length order
  its_level n f is = let of = called_unit units n f is in level_below order n (at_its_level units order checked.ordered n of.unit of.at)

  -- the code of a unit above all functions
  pub unit_calls : (n : ℕ) (u : Named) (level : ℕ) → length order ≤ level → CallsBelow (program_functions program) level (unit_code units n u)
  unit_calls n u level above =
      let w = unit_whole units u in
      let passes : FunctionsPass (function_at units) (may_call (program_functions program) level) = λ m f is. callable m f is level (let below = its_level m f is in omega (arith, below, above)) in
      known.calling (function_at units) w.variables (may_call (program_functions program) level) (body_of_unit units n u) passes (known.typed units u n (statements_of u.declares))

  -- that of a function calls what stands below it
  abbrev lower : ℕ → CalledTest
  lower n m = nat_lt (level_in order m) (level_in order n)

  lower_passes : (n : ℕ) → FunctionsPass (passing (lower n) (function_at units)) (may_call (program_functions program) (level_in order n))
  lower_passes n m f is = by (lower n m) refl is where
    by : (b : Bool) → lower n m ≡ b → (if b then function_at units m else None) ≡ Some f → may_call (program_functions program) (level_in order n) m (length f.inputs) ≡ true
    by true test known' = callable m f known' (level_in order n) (ltb-true (level_in order m) (level_in order n) test)
    by false test known' = absurd cc

  pub function_calls : (n : ℕ) (u : Named) (f : Function) → unit_at units n ≡ Some u → u.declares ≡ names.function f → CallsBelow (program_functions program) (level_in order n) (unit_code units n u)
  function_calls n u f at is =
      let w = unit_whole units u in
      let body = body_of_unit units n u in
      let calls = subst (BodyCalls (lower n)) (sym (function_body_is units n u f is)) (known.below program checked n u f at is) in
      let sound = known.passing (function_at units) (lower n) w.variables body (known.typed units u n (statements_of u.declares)) calls in
      known.calling (passing (lower n) (function_at units)) w.variables (may_call (program_functions program) (level_in order n)) body (lower_passes n) sound
