-- The code of a checked program runs as the program means.
use Rattle.std.proofs.Common.{◌≡◌, ℕ, ◌≤◌, ◌==◌, ℤ, IsTrue, List, [], length, Ok, Err, refl, ap, sym, ◌∙◌, subst, arith}
use Rattle.std.proofs.lemmas.Bool.{or_left}
use Rattle.st_check.specs.Programs.{IsChecked, ProgramView, leaves_of_program, main_of, optional_leaves, order_of, text_of}
use Rattle.st_tree.specs.declared.leaf.Leaf.{Leaf}
use Rattle.st_types.specs.Names.{Named, units_of}
use Rattle.st_leaves.specs.Places.{count}
use Rattle.st_leaves.specs.Programs.{program_leaves}
use Rattle.st_memory.specs.Memory.{AreValues, Content, Fits}
use Rattle.st_values.specs.Values.{in_range}
use Rattle.st_values.specs.declared.elem.Elem.TheVariants as elems
use Rattle.st_code.specs.Code.{Line}
use Rattle.st_code.specs.Machine.{Reaches, state}
use Rattle.st_machine.specs.Blocks.{AreUnits, EntersBelow, Run, UnitsView, types_in}
use Rattle.st_machine.specs.Charts.{ChartsAmong}
use Rattle.st_machine.specs.Functions.{CallsBelow}
use Rattle.st_machine.specs.Levels.{Rooms, environment_in}
use Rattle.st_chart_runs.specs.Views.{setting_at}
use Rattle.st_machine.specs.Running.{stop_of}
use Rattle.st_machine.specs.declared.run.Halt.{Halt}
use Rattle.st_machine.specs.declared.stacks.Room.{Room}
use Rattle.st_meaning.specs.Meaning.{Values}
use Rattle.st_meaning.specs.Statements.{Setting, Outcome, done, faulted}
use Rattle.st_meaning.specs.Units.{root_of}
use Rattle.st_places.specs.Parts.{is_small_block}
use Rattle.st_chart_runs.specs.declared.workspace.ChartRoom.{ChartRoom}
use Rattle.st_compile.specs.Programs.{HasRoom, block_level, faulty_name, made_of, optional_meaning, own_depth, program_blocks, program_charts, program_code, program_depth, program_functions, program_rooms, program_units, result_in, scan_result, unit_code, unit_meaning}
use Rattle.st_compile.proofs.AreBlocks.{are_blocks, unit_charts, unit_enters, unit_reaches}
use Rattle.st_compile.proofs.AreFunctions.{are_functions, no_more_levels}
use Rattle.st_compile.proofs.Callable.{AreFunctionsSmall, same_number, unit_calls}
use Rattle.st_compile.proofs.Charted.{are_charts}
use Rattle.st_compile.proofs.Known.{Known}
use Rattle.st_compile.proofs.OfLeaves.{types_of_root, values_of_root}
use Rattle.st_compile.proofs.Ordered.{at_its_level, level_below}
use Rattle.st_compile.proofs.Renamed.{program_root}
use Rattle.st_compile.proofs.Said.{said_of}

abbrev roomy : ℕ → List Room → ChartRoom → Rooms
roomy own levels charts = record { own = own; levels = levels; charts = charts }

-- room stays where nothing else is said of it
pub room_kept : (program : ProgramView) (rooms others : Rooms) → others ≡ rooms → HasRoom program rooms → HasRoom program others
room_kept program rooms others same room = subst (HasRoom program) (sym same) room

module _ (known : Known) (program : ProgramView) (checked : IsChecked program) (small_functions : AreFunctionsSmall program) where
  abbrev units : List Named
  units = units_of (text_of program)

  abbrev main : Named
  main = checked.unit

  -- ---- the main unit

  few : count (root_of units main) ≤ 65536
  few = subst (λ c. count c ≤ 65536) (sym (program_root units main checked.program)) (known.small program checked main checked.found).few

  leaves_are : leaves_of_program program ≡ program_leaves units main
  unfolding leaves_of_program
  leaves_are = ap (optional_leaves units) checked.found

  code_is : program_code program ≡ unit_code units (main_of program) main
  unfolding program_code
  code_is = ap (made_of (unit_code units) [] (main_of program)) checked.found

  depth_is : program_depth program ≡ own_depth units (main_of program) main
  unfolding program_depth
  depth_is = ap (made_of (own_depth units) 0 (main_of program)) checked.found

  -- it stands on a level, above those that it enters and calls
  level : block_level (order_of program) (main_of program) ≤ length (program_rooms program)
  level =
      let below = level_below (order_of program) (main_of program) (at_its_level units (order_of program) checked.ordered (main_of program) main checked.found) in
      omega (arith, no_more_levels known program checked small_functions, below)

  enters : EntersBelow (program_blocks program) (said_of program) (length (program_rooms program)) (types_in (leaves_of_program program)) (program_code program)
  enters =
      subst (λ ls. EntersBelow (program_blocks program) (said_of program) (length (program_rooms program)) (types_in ls) (program_code program)) (sym leaves_are)
      (subst (λ es. EntersBelow (program_blocks program) (said_of program) (length (program_rooms program)) es (program_code program)) (sym (types_of_root units main checked.program))
      (subst (EntersBelow (program_blocks program) (said_of program) (length (program_rooms program)) _) (sym code_is)
      (unit_enters known program checked small_functions (main_of program) main checked.found (length (program_rooms program)) level)))

  calls : CallsBelow (program_functions program) (length (program_rooms program)) (program_code program)
  calls =
      subst (CallsBelow (program_functions program) (length (program_rooms program))) (sym code_is)
      (unit_calls known program checked small_functions (main_of program) main (length (program_rooms program)) (omega (arith, no_more_levels known program checked small_functions)))

  charts : ChartsAmong (program_charts program) (program_code program)
  charts =
      subst (ChartsAmong (program_charts program)) (sym code_is)
      (unit_charts known program checked small_functions (main_of program) main checked.found (or_left (main_of program == main_of program) (is_small_block units main) (same_number (main_of program) (main_of program) refl)))

  units_are : AreUnits (program_units program) (program_rooms program) (said_of program)
  units_are = record {
    blocks = are_blocks known program checked small_functions;
    functions = are_functions known program checked small_functions;
    charts = are_charts program;
  }

  reaches : (setting : Setting) (values : Values) (limit : ℕ) → IsTrue (in_range elems.Time setting.now) → AreValues (leaves_of_program program) values
      → Reaches (environment_in (said_of program) setting) (program_depth program) (program_code program) (unit_meaning units (main_of program) main setting values limit) (state 0 [] values limit)
  reaches setting values limit time all =
      subst (λ code. Reaches (environment_in (said_of program) setting) (program_depth program) code (unit_meaning units (main_of program) main setting values limit) (state 0 [] values limit)) (sym code_is)
      (unit_reaches known program checked small_functions (main_of program) main checked.found few setting values limit (program_depth program) time
      (values_of_root units main checked.program values (subst (λ ls. AreValues ls values) leaves_are all)) (omega (arith, depth_is)))

  -- ---- its result

  result_of : (setting : Setting) (values : Values) (limit : ℕ) (o : Outcome) → unit_meaning units (main_of program) main setting values limit ≡ o → scan_result program setting values limit ≡ result_in program o
  unfolding scan_result
  result_of setting values limit o is = ap (λ u. result_in program (optional_meaning units (main_of program) u setting values limit)) checked.found ∙ ap (result_in program) is

  -- ---- runs of what are the code and the units of the program, over what is held for what are its leaves

  module _ (rooms : Rooms) (room : HasRoom program rooms) (now : ℤ) (time : IsTrue (in_range elems.Time now)) (held : List Leaf → Content)
      (fits : Fits (leaves_of_program program) (held (leaves_of_program program))) (limit : ℕ) where
    abbrev content : Content
    content = held (leaves_of_program program)

    abbrev meant : Outcome
    meant = unit_meaning units (main_of program) main (setting_at now content.forced) content.values limit

    abbrev own_rooms : Rooms
    own_rooms = record { own = program_depth program; levels = program_rooms program; charts = rooms.charts }

    rooms_are : rooms ≡ own_rooms
    rooms_are = ap (λ n. roomy n rooms.levels rooms.charts) room.own ∙ ap (λ rs. roomy (program_depth program) rs rooms.charts) room.levels

    abbrev own_run : Run (program_code program) (program_units program) own_rooms (leaves_of_program program) now content limit
    own_run = record {
      said = said_of program;
      are = units_are;
      enters = enters;
      calls = calls;
      charts = charts;
      fit = room.charts.fit;
      outcome = meant;
      comes = reaches (setting_at now content.forced) content.values limit time fits.types;
    }

    module _ (moment : ℤ) (code : List Line) (unit_views : UnitsView) (leaves : List Leaf) (is_now : moment ≡ now) (is_code : code ≡ program_code program)
        (units_same : unit_views ≡ program_units program) (are_leaves : leaves ≡ leaves_of_program program) where
      pub its_run : Run code unit_views rooms leaves moment (held leaves) limit
      its_run =
          subst (λ t. Run code unit_views rooms leaves t (held leaves) limit) (sym is_now)
          (subst (λ lines. Run lines unit_views rooms leaves now (held leaves) limit) (sym is_code)
          (subst (λ bs. Run (program_code program) bs rooms leaves now (held leaves) limit) (sym units_same)
          (subst (λ ls. Run (program_code program) (program_units program) rooms ls now (held ls) limit) (sym are_leaves)
          (subst (λ r. Run (program_code program) (program_units program) r (leaves_of_program program) now content limit) (sym rooms_are) own_run))))

      -- what follows from each such run follows from what the program means
      followed : (P : List Leaf → Outcome → Type 0) → ((run : Run code unit_views rooms leaves moment (held leaves) limit) → P leaves run.outcome) → P (leaves_of_program program) meant
      followed P =
          subst (λ t. ((run : Run code unit_views rooms leaves t (held leaves) limit) → P leaves run.outcome) → P (leaves_of_program program) meant) (sym is_now)
          (subst (λ lines. ((run : Run lines unit_views rooms leaves now (held leaves) limit) → P leaves run.outcome) → P (leaves_of_program program) meant) (sym is_code)
          (subst (λ bs. ((run : Run (program_code program) bs rooms leaves now (held leaves) limit) → P leaves run.outcome) → P (leaves_of_program program) meant) (sym units_same)
          (subst (λ ls. ((run : Run (program_code program) (program_units program) rooms ls now (held ls) limit) → P ls run.outcome) → P (leaves_of_program program) meant) (sym are_leaves)
          (subst (λ r. ((run : Run (program_code program) (program_units program) r (leaves_of_program program) now content limit) → P (leaves_of_program program) run.outcome) → P (leaves_of_program program) meant) (sym rooms_are)
          (λ follows. follows own_run)))))

      pub result_done : (others : List Leaf → Values) → ((run : Run code unit_views rooms leaves moment (held leaves) limit) → (left : ℕ) × (run.outcome ≡ done (others leaves) left))
          → scan_result program (setting_at now content.forced) content.values limit ≡ Ok (others (leaves_of_program program))
      result_done others ends =
          let ended = followed (λ ls o. (left : ℕ) × (o ≡ done (others ls) left)) ends in
          result_of (setting_at now content.forced) content.values limit (done (others (leaves_of_program program)) ended.0) ended.1

      pub result_faulted : (halt : Halt) → ((run : Run code unit_views rooms leaves moment (held leaves) limit) → run.outcome ≡ faulted (stop_of halt))
          → scan_result program (setting_at now content.forced) content.values limit ≡ Err (record { kind = halt.kind; unit = faulty_name program halt.unit; line = halt.line })
      result_faulted halt ends =
          result_of (setting_at now content.forced) content.values limit (faulted (stop_of halt)) (followed (λ ls o. o ≡ faulted (stop_of halt)) ends)
