-- The function blocks of a checked program do as is said of them.
use Rattle.std.proofs.Common.{◌≡◌, ℕ, ◌≤◌, ◌==◌, Bool, true, false, ◌&&◌, ◌||◌, if◌then◌else◌, nat_le, IsTrue, List, [], length, get_or, Option, Some, None, refl, ap, sym, ◌∙◌, subst, arith}
use Rattle.std.specs.List.{slice_get}
use Rattle.std.proofs.lemmas.Bool.{and_from, and_parts, le-leb, leb-true, lt-ltb, or_right}
use Rattle.st_check.specs.Programs.{IsChecked, ProgramView, level_in, main_of, order_of, text_of}
use Rattle.st_values.specs.Values.{in_range}
use Rattle.st_values.specs.declared.elem.Elem.TheVariants as elems
use Rattle.st_types.specs.Names.{Named, unit_at, units_of}
use Rattle.st_leaves.specs.Places.{count}
use Rattle.st_leaves.specs.Selected.{selected_by}
use Rattle.st_meaning.specs.Laws.{StaysInFrame}
use Rattle.st_meaning.specs.Meaning.{Values}
use Rattle.st_meaning.proofs.SmallArrays.{small_arrays}
use Rattle.st_meaning.specs.Offsets.{IsSmall, offset_of}
use Rattle.st_meaning.specs.Sound.{AreValuesOf}
use Rattle.st_meaning.specs.Statements.{Setting, Outcome, done, exited, returned, faulted, body_meaning, ended}
use Rattle.st_meaning.specs.Units.{body_of_unit, calls_of, function_at, root_of, statements_of, unit_whole}
use Rattle.st_meaning.proofs.Bodies.{body_ended}
use Rattle.st_meaning.proofs.Stretches.{part_fits}
use Rattle.st_code.specs.Entrances.{HasEntrances}
use Rattle.st_code.specs.Invocations.{HasBodies, InvokesAs, IsBodyOf}
use Rattle.st_code.specs.Machine.{Reaches, UnitBody, are_of_types, ends_here, state}
use Rattle.st_code.specs.Relative.{LeavesSoMany}
use Rattle.st_machine.specs.Blocks.{AreBlocks, BlockView, EntersBelow, IsBlock, is_below, may_enter, stand_at}
use Rattle.st_machine.specs.Charts.{ChartsAmong, is_known}
use Rattle.st_machine.specs.Functions.{CallsBelow}
use Rattle.st_machine.specs.Levels.{environment_in, no_room}
use Rattle.st_machine.specs.declared.stacks.Room.{Room}
use Rattle.st_places.specs.Parts.{is_block, is_small_block}
use Rattle.st_places.proofs.Roots.{charts_are_in_bodies}
use Rattle.st_compile.specs.Programs.{block_code, block_level, block_room, block_view, code_depth, function_room, made_of, most_taken, own_depth, program_blocks, program_charts, program_functions, program_rooms, program_units, room_at, unit_code, unit_meaning}
use Rattle.st_code.proofs.ChartDepths.{body_of_unit_deep}
use Rattle.st_compile.proofs.Charted.{has_its_chart, is_chart_where, is_known_chart, no_sketch, unit_sketch}
use Rattle.st_compile.proofs.Known.{Known}
use Rattle.st_compile.proofs.OfTypes.{many_elems, test_of_values, values_by_test}
use Rattle.st_compile.proofs.OneLeaf.{one_leaf_each}
use Rattle.st_compile.proofs.Ordered.{at_its_level, second_given, unit_of_view, view_at}
use Rattle.st_compile.proofs.Callable.{AreFunctionsSmall, have_types, sound_calls, unit_calls}
use Rattle.st_compile.proofs.Taken.{takes_few}
use Rattle.st_compile.proofs.Said.{body_size, may_run, part_stands, root_types, said_of, unit_body, unit_types}

module _ (known : Known) (program : ProgramView) (checked : IsChecked program) (small_functions : AreFunctionsSmall program) where
  abbrev units : List Named
  units = units_of (text_of program)

  abbrev order : List ℕ
  order = order_of program

  its_level : (n : ℕ) (u : Named) → unit_at units n ≡ Some u → slice_get order (level_in order n) ≡ Some n
  its_level n u at = at_its_level units order checked.ordered n u at

  -- ---- bodies

  -- the body of a function block that a program has room for does what an invocation means
  own_body : (n : ℕ) (u : Named) → is_small_block units u ≡ true → IsBodyOf (calls_of units) (root_of units u) (body_of_unit units n u) (unit_body units n (Some u))
  unfolding unit_whole
  own_body n u small = record {
    size = many_elems (root_of units u);
    same = λ setting values left moment all.
        let test : may_run units u setting values ≡ true =
        and_from (is_small_block units u) (in_range elems.Time setting.now && are_of_types (root_types units u) values) small
        (and_from (in_range elems.Time setting.now) (are_of_types (root_types units u) values) moment (test_of_values (root_of units u) values all)) in
        ap (λ b. ended (if b then unit_meaning units n u setting values left else done values left)) test
        ∙ body_ended (calls_of units) (root_of units u) setting (body_of_unit units n u) values left;
  }

  -- among the blocks of a unit with few leaves there are no others
  has_bodies : (i : ℕ) (u : Named) → unit_at units i ≡ Some u → count (root_of units u) ≤ 65536 → HasBodies (calls_of units) (unit_whole units u) (said_of program).bodies
  unfolding unit_whole
  has_bodies i u at few name found is =
      let instance = known.instances program checked i u at name found is in
      let block = instance.block in
      let small : is_small_block units block ≡ true =
      and_from (is_block block.declares) (nat_le (count (root_of units block)) 65536) instance.is_block
      (le-leb (count (root_of units block)) 65536 (omega (arith, few, part_fits (root_of units u) name (root_of units block) instance.same))) in
      subst (λ o. IsBodyOf (calls_of units) (selected_by (root_of units u) name) found.body (unit_body units found.number o)) (sym instance.at)
      (subst (λ c. IsBodyOf (calls_of units) c found.body (unit_body units found.number (Some block))) (sym instance.same)
      (subst (λ body. IsBodyOf (calls_of units) (root_of units block) body (unit_body units found.number (Some block))) (sym instance.body) (own_body found.number block small)))

  pub unit_invokes : (i : ℕ) (u : Named) → unit_at units i ≡ Some u → count (root_of units u) ≤ 65536
      → InvokesAs (calls_of units) (unit_whole units u).variables (said_of program).bodies (body_of_unit units i u)
  unit_invokes i u at few = known.invokes (calls_of units) (unit_whole units u) (said_of program).bodies (has_bodies i u at few) i (statements_of u.declares)

  -- ---- instances

  -- above its level a unit has only instances that may be entered
  has_entrances : (i : ℕ) (u : Named) → unit_at units i ≡ Some u → (level : ℕ) → block_level order i ≤ level
      → HasEntrances (unit_whole units u) (may_enter (program_blocks program) (said_of program) level (root_types units u))
  unfolding unit_whole program_blocks
  has_entrances i u at level above name found is =
      let instance = known.instances program checked i u at name found is in
      let block = instance.block in
      let root = root_of units u in
      let before = instance.before (level_in order found.number) (level_in order i) (its_level found.number block instance.at) (its_level i u at) in
      let below : is_below level (slice_get (program_blocks program) found.number) ≡ true =
      ap (is_below level) (view_at (block_view units order) units found.number block instance.at) ∙ lt-ltb (block_level order found.number) level (omega (arith, before, above)) in
      let stands : stand_at (root_types units u) (offset_of root name) ((said_of program).types found.number) ≡ true =
      ap (λ o. stand_at (root_types units u) (offset_of root name) (unit_types units o)) instance.at ∙ part_stands root name (root_of units block) instance.same in
      and_from (is_below level (slice_get (program_blocks program) found.number)) (stand_at (root_types units u) (offset_of root name) ((said_of program).types found.number)) below stands

  pub unit_enters : (i : ℕ) (u : Named) → unit_at units i ≡ Some u → (level : ℕ) → block_level order i ≤ level
      → EntersBelow (program_blocks program) (said_of program) level (root_types units u) (unit_code units i u)
  unit_enters i u at level above =
      let w = unit_whole units u in
      let test = may_enter (program_blocks program) (said_of program) level (root_types units u) in
      known.enters w.variables test (body_of_unit units i u) (known.entering w test (has_entrances i u at level above) i (statements_of u.declares))

  -- ---- charts

  -- the code of the main unit and of a unit that a program has room for is about its own chart
  pub unit_charts : (i : ℕ) (u : Named) → unit_at units i ≡ Some u → (i == main_of program || is_small_block units u) ≡ true → ChartsAmong (program_charts program) (unit_code units i u)
  unit_charts i u at runs =
      let test = is_known (program_charts program) in
      known.charts (unit_whole units u).variables test (body_of_unit units i u) (is_chart_where units i u test (is_known_chart program i u at runs))

  -- ---- runs

  -- the code of a unit that a program has room for ends as the unit means
  pub unit_reaches : (i : ℕ) (u : Named) → unit_at units i ≡ Some u → count (root_of units u) ≤ 65536 → (setting : Setting) (values : Values) (left room : ℕ)
      → IsTrue (in_range elems.Time setting.now) → AreValuesOf (root_of units u) values → own_depth units i u ≤ room
      → Reaches (environment_in (said_of program) setting) room (unit_code units i u) (unit_meaning units i u setting values left) (state 0 [] values left)
  unfolding unit_whole
  unit_reaches i u at few setting values left room moment all enough =
      let w = unit_whole units u in
      let body = body_of_unit units i u in
      let sound = known.units program checked i u at in
      let small : IsSmall w.variables = record { bounds = sound.bounds; arrays = small_arrays (root_of units u) sound.bounds few; few = omega (arith, few) } in
      let deep = known.depth w.variables body in
      let chart = has_its_chart units i u (said_of program).charts (ap (made_of (unit_sketch units) no_sketch i) at) in
      (known.does (function_at units) w.variables body room small (one_leaf_each units u sound) (known.typed units u i (statements_of u.declares)) (omega (arith, deep, body_of_unit_deep units i u (most_taken units) (takes_few units u) (charts_are_in_bodies units u), enough))).same
      (environment_in (said_of program) setting) values left moment (sound_calls known program checked) (have_types program) chart (unit_invokes i u at few) all

  -- ---- blocks

  small_few : (u : Named) → is_small_block units u ≡ true → count (root_of units u) ≤ 65536
  small_few u small = leb-true (count (root_of units u)) 65536 (and_parts (is_block u.declares) (nat_le (count (root_of units u)) 65536) small).1

  enters_below : (n : ℕ) (u : Named) → unit_at units n ≡ Some u → EntersBelow (program_blocks program) (said_of program) (block_level order n) (root_types units u) (block_code units n u)
  enters_below n u at = by (is_small_block units u) where
    by : (b : Bool) → EntersBelow (program_blocks program) (said_of program) (block_level order n) (root_types units u) (if b then unit_code units n u else [])
    by true = unit_enters n u at (block_level order n) (omega arith)
    by false = λ k d below. absurd (omega (arith, below))

  calls_below : (n : ℕ) (u : Named) → unit_at units n ≡ Some u → CallsBelow (program_functions program) (block_level order n) (block_code units n u)
  calls_below n u at = by (is_small_block units u) where
    by : (b : Bool) → CallsBelow (program_functions program) (block_level order n) (if b then unit_code units n u else [])
    by true = unit_calls known program checked small_functions n u (block_level order n) (omega arith)
    by false = λ k d below. absurd (omega (arith, below))

  charts_known : (n : ℕ) (u : Named) → unit_at units n ≡ Some u → ChartsAmong (program_charts program) (block_code units n u)
  charts_known n u at = by (is_small_block units u) refl where
    by : (b : Bool) → is_small_block units u ≡ b → ChartsAmong (program_charts program) (if b then unit_code units n u else [])
    by true small = unit_charts n u at (or_right (n == main_of program) (is_small_block units u) small)
    by false small = λ k d below. absurd (omega (arith, below))

  -- by the test whether a program has room for it
  runs_by : (n : ℕ) (u : Named) → unit_at units n ≡ Some u → (setting : Setting) (values : Values) (left room : ℕ) → IsTrue (in_range elems.Time setting.now)
      → IsTrue (are_of_types (root_types units u) values) → (b : Bool) → is_small_block units u ≡ b
      → code_depth units u (if b then unit_code units n u else []) ≤ room
      → Reaches (environment_in (said_of program) setting) room (if b then unit_code units n u else [])
      (ended (if b && (in_range elems.Time setting.now && are_of_types (root_types units u) values) then unit_meaning units n u setting values left else done values left)) (state 0 [] values left)
  unfolding unit_whole
  runs_by n u at setting values left room moment typed true small enough =
      let test = and_from (in_range elems.Time setting.now) (are_of_types (root_types units u) values) moment typed in
      let same = ap (λ b. ended (if b then unit_meaning units n u setting values left else done values left)) test
      ∙ body_ended (calls_of units) (root_of units u) setting (body_of_unit units n u) values left in
      subst (λ o. Reaches (environment_in (said_of program) setting) room (unit_code units n u) o (state 0 [] values left)) (sym same)
      (unit_reaches n u at (small_few u small) setting values left room moment (values_by_test (root_of units u) values typed) enough)
  runs_by n u at setting values left room moment typed false small enough = ends_here (state 0 [] values left) refl

  is_block_of : (n : ℕ) (u : Named) → unit_at units n ≡ Some u → IsBlock (program_units program) (said_of program) (get_or (program_rooms program) (block_level order n) no_room).stack n (block_view units order n u)
  unfolding program_rooms
  is_block_of n u at =
      let types : (said_of program).types n ≡ root_types units u = ap (unit_types units) at in
      let body : (said_of program).bodies n ≡ unit_body units n (Some u) = ap (unit_body units n) at in
      let given : get_or (program_rooms program) (block_level order n) no_room ≡ block_room units n u =
      second_given (room_at (function_room units) units) (room_at (block_room units) units) order (level_in order n) n no_room (its_level n u at) ∙ ap (made_of (block_room units) no_room n) at in
      let room : (get_or (program_rooms program) (block_level order n) no_room).stack ≡ code_depth units u (block_code units n u) = ap (λ (r : Room). r.stack) given in
      record {
        size = body_size units n (unit_at units n);
        enters = subst (λ ts. EntersBelow (program_blocks program) (said_of program) (block_level order n) ts (block_code units n u)) (sym types) (enters_below n u at);
        calls = calls_below n u at;
        charts = charts_known n u at;
        runs = λ setting values left moment typed.
            subst (λ (m : UnitBody). Reaches (environment_in (said_of program) setting) (get_or (program_rooms program) (block_level order n) no_room).stack (block_code units n u) (ended (m.run setting values left)) (state 0 [] values left)) (sym body)
            (runs_by n u at setting values left (get_or (program_rooms program) (block_level order n) no_room).stack moment (subst (λ ts. IsTrue (are_of_types ts values)) types typed) (is_small_block units u) refl (omega (arith, room)));
      }

  -- ---- lengths

  so_many : (u : Named) (setting : Setting) (values : Values) (left : ℕ) (o : Outcome) → StaysInFrame (root_of units u) setting.forced values left o
      → LeavesSoMany (length (root_types units u)) (ended o)
  so_many u setting values left (done others rest) h = h.all.all ∙ sym (many_elems (root_of units u))
  so_many u setting values left (exited others rest) h = h.all.all ∙ sym (many_elems (root_of units u))
  so_many u setting values left (returned others rest) h = h.all.all ∙ sym (many_elems (root_of units u))
  so_many u setting values left (faulted f) h = tt

  keeps_by : (n : ℕ) (u : Named) → unit_at units n ≡ Some u → (setting : Setting) (values : Values) (left : ℕ) → length values ≡ length (root_types units u)
      → (b : Bool) → may_run units u setting values ≡ b
      → LeavesSoMany (length (root_types units u)) (ended (if b then unit_meaning units n u setting values left else done values left))
  unfolding unit_whole
  keeps_by n u at setting values left same true test =
      let w = unit_whole units u in
      let body = body_of_unit units n u in
      let first = and_parts (is_small_block units u) (in_range elems.Time setting.now && are_of_types (root_types units u) values) test in
      let second = and_parts (in_range elems.Time setting.now) (are_of_types (root_types units u) values) first.1 in
      so_many u setting values left (body_meaning (calls_of units) w.variables setting body values left)
      (known.frame (function_at units) (calls_of units) w.variables setting body values left (sound_calls known program checked) second.0 (one_leaf_each units u (known.units program checked n u at)) (values_by_test (root_of units u) values second.1) (known.typed units u n (statements_of u.declares)))
  keeps_by n u at setting values left same false test = same

  optional_keeps : (n : ℕ) (u : Option Named) → unit_at units n ≡ u → (setting : Setting) (values : Values) (left : ℕ) → length values ≡ (unit_body units n u).size
      → LeavesSoMany (unit_body units n u).size (ended ((unit_body units n u).run setting values left))
  optional_keeps n None at setting values left same = same
  optional_keeps n (Some u) at setting values left same = keeps_by n u at setting values left same (may_run units u setting values) refl

  pub are_blocks : AreBlocks (program_units program) (program_rooms program) (said_of program)
  unfolding program_blocks
  are_blocks = record {
    lengths = λ n setting values left same. optional_keeps n (unit_at units n) refl setting values left same;
    each = λ n b at below.
        let of = unit_of_view (block_view units order) units n b at in
        subst (λ (v : BlockView). IsBlock (program_units program) (said_of program) (get_or (program_rooms program) v.level no_room).stack n v) (sym of.is) (is_block_of n of.unit of.at);
  }
