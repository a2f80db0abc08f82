-- More units than a program has change nothing of what its functions give.
use Rattle.std.proofs.Common.{◌≡◌, ℕ, zero, suc, ◌<◌, nat_lt, List, Option, Some, None, refl, ap, sym, ◌∙◌, arith, ltb-true}
use Rattle.st_tree.specs.declared.tree.position.Identifier.{Identifier}
use Rattle.st_references.proofs.Contents.{order_len}
use Rattle.st_check.specs.Programs.{IsChecked, ProgramView, level_in, order_of, text_of}
use Rattle.st_types.specs.Names.{Declares, Named, unit_at, units_of}
use Rattle.st_types.specs.Names as names
use Rattle.st_meaning.specs.CalledBy.{CallBelow, GiveAlike}
use Rattle.st_meaning.specs.Meaning.{Calls, Values}
use Rattle.st_meaning.specs.Statements.{ended}
use Rattle.st_meaning.specs.Typing.{body_of}
use Rattle.st_meaning.specs.Units.{calls_in, calls_of, function_given, function_setting, members_begun, members_of_function, result_given, root_of, statements_of, unit_given, unit_whole}
use Rattle.st_meaning.proofs.CalledAlone.{called_functions_matter_alone}
use Rattle.st_compile.proofs.Checked.{checked_calls_are_those_of_their_bodies, checked_functions_call_below}
use Rattle.st_compile.proofs.LevelLemmas.{level_limit}
use Rattle.st_compile.specs.Bounds.{MoreUnitsChangeNothing}

module _ (units : List Named) (rank : ℕ → ℕ) (below : CallBelow units rank) (number : ℕ) (calls others : Calls)
    (same : GiveAlike (λ n. nat_lt (rank n) (rank number)) calls others) where
  declared_same : (name : Identifier) (d : Declares) → unit_at units number ≡ Some (record { name = name; declares = d }) → (inputs : Values) (left : ℕ)
      → function_given units calls (record { name = name; declares = d }) d inputs left ≡ function_given units others (record { name = name; declares = d }) d inputs left
  declared_same name (names.function f) at inputs left =
      let u : Named = record { name = name; declares = names.function f } in
      ap (λ o. result_given (ended o))
      (called_functions_matter_alone (λ n. nat_lt (rank n) (rank number)) calls others same (root_of units u) function_setting (body_of (unit_whole units u) (statements_of u.declares))
      (below number u f at refl) (members_begun (members_of_function units f) inputs) left)
  declared_same name (names.type t) at inputs left = refl
  declared_same name (names.block b) at inputs left = refl
  declared_same name (names.program p) at inputs left = refl

  given_same : (unit : Option Named) → unit_at units number ≡ unit → (inputs : Values) (left : ℕ) → unit_given units calls unit inputs left ≡ unit_given units others unit inputs left
  given_same None at inputs left = refl
  given_same (Some u) at inputs left = declared_same u.name u.declares at inputs left

module _ (program : ProgramView) (checked : IsChecked program) where
  abbrev units : List Named
  units = units_of (text_of program)

  abbrev rank : ℕ → ℕ
  rank = level_in (order_of program)

  -- through as many units as stand before a function, and one more, it gives what it gives
  reached : (most number : ℕ) → rank number < most → (inputs : Values) (left : ℕ) → calls_in units most number inputs left ≡ calls_of units number inputs left
  unfolding calls_in
  reached zero number few inputs left = absurd (omega (arith, few))
  reached (suc most) number few inputs left =
      given_same units rank (checked_functions_call_below program checked) number (calls_in units most) (calls_of units)
      (λ n less. reached most n (let h : rank n < rank number = ltb-true (rank n) (rank number) less in omega (arith, h, few)))
      (unit_at units number) refl inputs left
      ∙ sym (checked_calls_are_those_of_their_bodies program checked number inputs left)

pub more_units : MoreUnitsChangeNothing
more_units program checked most number inputs left more =
    reached program checked most number (omega (arith, more, level_limit (order_of program) number, order_len (units_of (text_of program)) (order_of program) checked.ordered)) inputs left
