-- The functions of a checked program give what is said of them.
use Rattle.std.proofs.Common.{◌≡◌, ℕ, ◌<◌, ◌≤◌, Bool, true, false, if◌then◌else◌, nat_le, IsTrue, pos, List, [], length, get_or, map, codes, length-append, Some, None, refl, ap, sym, ◌∙◌, subst, arith}
use Rattle.std.specs.List.{All}
use Rattle.std.proofs.lemmas.Bool.{and_parts, leb-true}
use Rattle.std.proofs.lemmas.List.{length-map}
use Rattle.st_check.specs.Programs.{IsChecked, ProgramView, level_in, order_of, text_of}
use Rattle.st_tree.specs.declared.tree.position.Identifier.{Identifier}
use Rattle.st_tree.specs.declared.tree.unit.Function.{Function}
use Rattle.st_values.specs.Values.{IsValue}
use Rattle.st_types.specs.Names.{Declares, Named, named, unit_at, units_of}
use Rattle.st_types.specs.Names as names
use Rattle.st_leaves.specs.Places.{count}
use Rattle.st_meaning.specs.Meaning.{Values}
use Rattle.st_meaning.specs.Offsets.{IsSmall}
use Rattle.st_meaning.specs.Sound.{AreInputsOf, AreValuesOf}
use Rattle.st_meaning.specs.Statements.{Outcome, body_meaning}
use Rattle.st_meaning.specs.Terms.{plain_body}
use Rattle.st_meaning.specs.Typing.{body_of}
use Rattle.st_meaning.specs.Units.{body_of_unit, called_by, calls_of, function_at, function_setting, inputs_in, members_begun, members_of_function, root_of, unit_given, unit_whole}
use Rattle.st_meaning.proofs.BegunFunctions.{function_begins, members_have_values}
use Rattle.st_code.specs.Invocations.{InvokesAs}
use Rattle.st_code.specs.Machine.{Reaches, are_of_types, state}
use Rattle.st_machine.specs.Functions.{AreFunctions, EntersNothing, FunctionView, HasNoCharts, IsFunction, IsRunFrom, begun_by}
use Rattle.st_machine.specs.Levels.{environment_with, no_room}
use Rattle.st_machine.specs.declared.stacks.Room.{Room}
use Rattle.st_places.specs.Parts.{is_small_function}
use Rattle.st_places.specs.Functions.{starts_of}
use Rattle.st_places.proofs.Roots.{charts_are_in_bodies}
use Rattle.st_code.proofs.ChartDepths.{body_of_unit_deep}
use Rattle.st_compile.specs.Programs.{block_room, function_room, function_view, made_of, most_taken, no_function, no_level, own_depth, program_functions, program_rooms, room_at, small_function, types_taken, unit_code}
use Rattle.st_compile.proofs.Callable.{AreFunctionsSmall, function_calls, have_types, sound_calls}
use Rattle.st_compile.proofs.Known.{Known}
use Rattle.st_compile.proofs.OfTypes.{inputs_by_test, values_valid}
use Rattle.st_compile.proofs.OneLeaf.{one_leaf_each}
use Rattle.st_compile.proofs.Ordered.{at_its_level, first_given, unit_of_view}
use Rattle.st_compile.proofs.Said.{said_of}
use Rattle.st_compile.proofs.Starts.{begun_is}
use Rattle.st_compile.proofs.Taken.{takes_few}

module _ (known : Known) (program : ProgramView) (checked : IsChecked program) (small_functions : AreFunctionsSmall program) where
  abbrev units : List Named
  units = units_of (text_of program)

  abbrev order : List ℕ
  order = order_of program

  module _ (n : ℕ) (name : Identifier) (f : Function) (at : unit_at units n ≡ Some (named name (names.function f))) (few : is_small_function units (named name (names.function f)) ≡ true) where
    abbrev u : Named
    u = named name (names.function f)

    few_leaves : count (root_of units u) ≤ 999999
    few_leaves = leb-true (count (root_of units u)) 999999 (and_parts true (nat_le (count (root_of units u)) 999999) few).1

    -- it enters nothing, and invokes nothing
    enters_nothing : EntersNothing (unit_code units n u)
    unfolding unit_whole
    enters_nothing =
        let w = unit_whole units u in
        known.enters w.variables (λ unit leaf. false) (body_of_unit units n u)
        (known.entering w (λ unit leaf. false) (λ other found is. absurd (let none : None ≡ Some found = sym (known.plain program checked n u f other at refl) ∙ is in cc)) n f.statements)

    invokes : InvokesAs (calls_of units) (unit_whole units u).variables (said_of program).bodies (body_of_unit units n u)
    invokes =
        known.invokes (calls_of units) (unit_whole units u) (said_of program).bodies
        (λ other found is. absurd (let none : None ≡ Some found = sym (known.plain program checked n u f other at refl) ∙ is in cc)) n f.statements

    -- its code is about no chart
    has_no_charts : HasNoCharts (unit_code units n u)
    unfolding unit_whole
    has_no_charts = known.charts (unit_whole units u).variables (λ unit. false) (body_of_unit units n u) tt

    -- ---- a run of its code

    module _ (inputs : Values) (left : ℕ) (typed : IsTrue (are_of_types (small_function units order n u).inputs inputs)) where
      abbrev members_begin : Values
      members_begin = members_begun (members_of_function units f) inputs

      are_inputs : AreInputsOf (inputs_in (members_of_function units f)) inputs
      are_inputs = inputs_by_test (inputs_in (members_of_function units f)) inputs (subst (λ o. are_of_types (types_taken o) inputs ≡ true) (ap (called_by units n) at) typed)

      fresh : begun_by (starts_of units u) inputs ≡ members_begin
      fresh = begun_is (members_of_function units f) inputs are_inputs

      values_are : AreValuesOf (root_of units u) members_begin
      values_are = members_have_values (codes "PROGRAM") (members_of_function units f) (function_begins units f) inputs are_inputs

      abbrev ends : Outcome
      ends = body_meaning (calls_of units) (root_of units u) function_setting (plain_body (body_of (unit_whole units u) f.statements)) members_begin left

      reaches : (room : ℕ) → own_depth units n u ≤ room
          → Reaches (environment_with (said_of program) (pos 0) []) room (unit_code units n u) ends (state 0 [] members_begin left)
      unfolding unit_whole
      reaches room enough =
          let w = unit_whole units u in
          let body = body_of_unit units n u in
          let sound = known.units program checked n u at in
          let small : IsSmall w.variables = record { bounds = sound.bounds; arrays = sound.arrays refl; few = few_leaves } in
          let deep = known.depth w.variables body in
          (known.does (function_at units) w.variables body room small (one_leaf_each units u sound) (known.typed units u n f.statements) (omega (arith, deep, body_of_unit_deep units n u (most_taken units) (takes_few units u) (charts_are_in_bodies units u), enough))).same
          (environment_with (said_of program) (pos 0) []) members_begin left refl (sound_calls known program checked) (have_types program) tt invokes values_are

      run_from : (room : ℕ) → own_depth units n u ≤ room → IsRunFrom (said_of program) room n (small_function units order n u) inputs left
      run_from room enough = record {
        values = subst (All IsValue) (sym fresh) (values_valid (root_of units u) members_begin values_are);
        outcome = ends;
        comes = subst (λ vs. Reaches (environment_with (said_of program) (pos 0) []) room (unit_code units n u) ends (state 0 [] vs left)) (sym fresh) (reaches room enough);
        given = known.gives program checked n inputs left ∙ ap (λ o. unit_given units (calls_of units) o inputs left) at;
      }

    is_small_one : IsFunction (program_functions program) (said_of program) (get_or (program_rooms program) (level_in order n) no_room) n (small_function units order n u)
    unfolding program_rooms
    is_small_one =
        let given : get_or (program_rooms program) (level_in order n) no_room ≡ function_room units n u =
        first_given (room_at (function_room units) units) (room_at (block_room units) units) order (level_in order n) n no_room (at_its_level units order checked.ordered n u at)
        ∙ ap (made_of (function_room units) no_room n) at in
        let room : get_or (program_rooms program) (level_in order n) no_room ≡ record { stack = own_depth units n u; variables = length (starts_of units u) } =
        given ∙ ap (λ b. if b then record { stack = own_depth units n u; variables = length (starts_of units u) } else no_room) few in
        record {
          inputs = refl;
          variables = ap (λ (r : Room). r.variables) room;
          calls = function_calls known program checked small_functions n u f at refl;
          enters = enters_nothing;
          charts = has_no_charts;
          runs = λ inputs left typed. run_from inputs left typed (get_or (program_rooms program) (level_in order n) no_room).stack (let stack = ap (λ (r : Room). r.stack) room in omega (arith, stack));
        }

  -- ---- all of them

  pub no_more_levels : length (program_rooms program) ≡ no_level order
  unfolding program_rooms
  no_more_levels =
      let functions = map (room_at (function_room units) units) order in
      let blocks = map (room_at (block_room units) units) order in
      omega (arith, length-append functions blocks, length-map order (room_at (function_room units) units), length-map order (room_at (block_room units) units))

  abbrev IsOfView : ℕ → FunctionView → Type 0
  IsOfView n v = v.level < length (program_rooms program) → IsFunction (program_functions program) (said_of program) (get_or (program_rooms program) v.level no_room) n v

  -- one without code has no level
  none_of : (n : ℕ) → IsOfView n (no_function order)
  none_of n below = absurd (omega (arith, no_more_levels, below))

  function_by : (n : ℕ) (name : Identifier) (f : Function) → unit_at units n ≡ Some (named name (names.function f)) → (b : Bool) → is_small_function units (named name (names.function f)) ≡ b
      → IsOfView n (if b then small_function units order n (named name (names.function f)) else no_function order)
  function_by n name f at true few below = is_small_one n name f at few
  function_by n name f at false few below = none_of n below

  declared_of : (n : ℕ) (name : Identifier) (d : Declares) → unit_at units n ≡ Some (named name d) → IsOfView n (function_view units order n (named name d))
  declared_of n name (names.function f) at = function_by n name f at (is_small_function units (named name (names.function f))) refl
  declared_of n name (names.type t) at = none_of n
  declared_of n name (names.block b) at = none_of n
  declared_of n name (names.program p) at = none_of n

  pub are_functions : AreFunctions (program_functions program) (program_rooms program) (said_of program)
  unfolding program_functions
  are_functions = record {
    each = λ n v found below.
        let of = unit_of_view (function_view units order) units n v found in
        subst (IsOfView n) (sym of.is) (declared_of n of.unit.name of.unit.declares of.at) below;
  }
