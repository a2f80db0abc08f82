-- Programs as they run: the body of the main unit, those of the function blocks that it invokes, and the functions that it calls.
use Rattle.std.specs.Prelude.{ℕ, suc, ◌≡◌, ◌+◌, ◌==◌, min, max, Bool, true, ◌||◌, IsTrue, if◌then◌else◌, List, [], ◌∷◌, ◌++◌, length, map, Option, Some, None, Result, Ok, Err}
use Rattle.std.specs.Option.{is_some}
use Rattle.st_check.specs.Programs.{IsChecked, ProgramView, leaves_of_program, level_in, main_of, order_of, text_of}
use Rattle.st_memory.specs.Memory.{Fits, forced_at, value_at}
use Rattle.st_values.specs.Values.{in_range}
use Rattle.st_values.specs.declared.elem.Elem.{Elem}
use Rattle.st_values.specs.declared.elem.Elem.TheVariants as elems
use Rattle.st_tree.specs.declared.leaf.Leaf.{Leaf}
use Rattle.st_types.specs.Names.{Named, unit_at, units_of}
use Rattle.st_meaning.specs.Meaning.{Values}
use Rattle.st_meaning.specs.Statements.{Setting, Outcome, done, exited, returned, faulted, body_meaning}
use Rattle.st_meaning.specs.Sketches.{Sketch}
use Rattle.st_meaning.specs.Terms.{Body, plain_body, chart_body}
use Rattle.st_meaning.specs.Units.{body_of_unit, calls_of, function_at, unit_whole}
use Rattle.st_meaning.specs.Wholes.{Called}
use Rattle.st_meaning.specs.declared.fault.RunFault.{RunFault}
use Rattle.st_code.specs.Code.{Line, code_of}
use Rattle.st_meaning.specs.Views.{SketchView}
use Rattle.st_chart_runs.specs.Charts.{IsRoomFor}
use Rattle.st_machine.specs.Blocks.{BlockView, UnitsView}
use Rattle.st_machine.specs.Functions.{FunctionView}
use Rattle.st_machine.specs.Levels.{Rooms, no_room}
use Rattle.st_machine.specs.declared.stacks.Room.{Room}
use Rattle.st_places.specs.Parts.{is_small_block, is_small_function}
use Rattle.st_places.specs.Functions.{starts_of}
use Rattle.st_code.specs.Depths.{declared_depth, most}

-- ---- units

abbrev pub main_unit : ProgramView → Option Named
main_unit program = unit_at (units_of (text_of program)) (main_of program)

-- the name of a unit, as it is declared
abbrev pub name_in : Option Named → List ℕ
name_in None = []
name_in (Some unit) = unit.name.spelling

-- the names of all units
unfoldable pub program_names : ProgramView → List (List ℕ)
program_names program = map (λ (u : Named). u.name.spelling) (units_of (text_of program))

-- ---- what a scan gives

-- what the body of a unit, which has this number, does to the values of its variables, where the functions of the text give what they
-- give
abbrev pub unit_meaning : List Named → ℕ → Named → Setting → Values → ℕ → Outcome
unit_meaning units number unit setting values left = body_meaning (calls_of units) (unit_whole units unit).variables setting (body_of_unit units number unit) values left

-- the number of the unit that a fault is in: the one that was invoked or called, or else the main one
abbrev pub faulty : ℕ → Option ℕ → ℕ
faulty main None = main
faulty main (Some number) = number

-- its name
unfoldable pub faulty_name : ProgramView → Option ℕ → List ℕ
faulty_name program number = name_in (unit_at (units_of (text_of program)) (faulty (main_of program) number))

-- the values, or the fault
abbrev pub result_in : ProgramView → Outcome → Result Values RunFault
result_in program (done values left) = Ok values
result_in program (exited values left) = Ok values
result_in program (returned values left) = Ok values
result_in program (faulted f) = Err (record { kind = f.kind; unit = faulty_name program f.unit; line = f.line })

abbrev pub optional_meaning : List Named → ℕ → Option Named → Setting → Values → ℕ → Outcome
optional_meaning units number None setting values left = done values left
optional_meaning units number (Some unit) setting values left = unit_meaning units number unit setting values left

-- what the program makes of the values in which the inputs are stored, at this moment, where these leaves are forced and so many
-- steps are allowed: new values, or a fault
unfoldable pub scan_result : ProgramView → Setting → Values → ℕ → Result Values RunFault
scan_result program setting values limit = result_in program (optional_meaning (units_of (text_of program)) (main_of program) (main_unit program) setting values limit)

-- ---- its code

-- that of the body of a unit, which has this number
abbrev pub unit_code : List Named → ℕ → Named → List Line
unit_code units number unit = code_of (unit_whole units unit).variables (body_of_unit units number unit)

-- what is made of the unit of this number, or else that
abbrev pub made_of : {V : Type 0} → (ℕ → Named → V) → V → ℕ → Option Named → V
made_of make other number None = other
made_of make other number (Some unit) = make number unit

-- the code of the main unit's body
unfoldable pub program_code : ProgramView → List Line
program_code program = made_of (unit_code (units_of (text_of program))) [] (main_of program) (main_unit program)

-- ---- that of its function blocks and functions

-- Functions stand on the first levels, each at the place of its unit in the order, and function blocks on those above, in the same
-- order: no function holds an instance. So each unit stands above all whose code its own enters or calls.
abbrev pub block_level : List ℕ → ℕ → ℕ
block_level order number = length order + level_in order number

-- what stands above all levels doesn't run
abbrev pub no_level : List ℕ → ℕ
no_level order = length order + length order

-- of each unit, by its number, from this number on
abbrev pub numbered : {V : Type 0} → (ℕ → Named → V) → ℕ → List Named → List V
numbered make number [] = []
numbered make number (u ∷ us) = make number u ∷ numbered make (suc number) us

-- a unit that is no function block has none, and neither has one that no program has room for
abbrev pub block_code : List Named → ℕ → Named → List Line
block_code units number unit = if is_small_block units unit then unit_code units number unit else []

abbrev pub block_view : List Named → List ℕ → ℕ → Named → BlockView
block_view units order number unit = record { code = block_code units number unit; level = block_level order number }

-- of all units, by their numbers
unfoldable pub program_blocks : ProgramView → List BlockView
program_blocks program = numbered (block_view (units_of (text_of program)) (order_of program)) 0 (units_of (text_of program))

-- the types of the inputs of a function
abbrev pub types_taken : Option Called → List Elem
types_taken None = []
types_taken (Some f) = map (λ i. i.initial.elem) f.inputs

abbrev pub small_function : List Named → List ℕ → ℕ → Named → FunctionView
small_function units order number unit = record {
  code = unit_code units number unit;
  level = level_in order number;
  inputs = types_taken (function_at units number);
  starts = starts_of units unit;
}

abbrev pub no_function : List ℕ → FunctionView
no_function order = record { code = []; level = no_level order; inputs = []; starts = [] }

-- a unit that is no function, or one of too many variables, has no code
abbrev pub function_view : List Named → List ℕ → ℕ → Named → FunctionView
function_view units order number unit = if is_small_function units unit then small_function units order number unit else no_function order

unfoldable pub program_functions : ProgramView → List FunctionView
program_functions program = numbered (function_view (units_of (text_of program)) (order_of program)) 0 (units_of (text_of program))

-- ---- its charts

-- a chart as the numbers that the machine runs
abbrev pub sketch_view : Sketch → SketchView
sketch_view sketch = record {
  pulses = sketch.pulses;
  passages = sketch.passages;
  links = sketch.links;
  variables = map is_some sketch.variables;
  stored = sketch.stored;
  actions = sketch.actions;
}

-- where a body is a chart
abbrev pub chart_view : Body → Option SketchView
chart_view (plain_body cs) = None
chart_view (chart_body _ sketch _ _) = Some (sketch_view sketch)

-- those of the main unit and of the function blocks that a program has room for
abbrev pub unit_chart : List Named → (main number : ℕ) → Named → Option SketchView
unit_chart units main number unit = if number == main || is_small_block units unit then chart_view (body_of_unit units number unit) else None

-- of all units, by their numbers
unfoldable pub program_charts : ProgramView → List (Option SketchView)
program_charts program = numbered (unit_chart (units_of (text_of program)) (main_of program)) 0 (units_of (text_of program))

abbrev pub program_units : ProgramView → UnitsView
program_units program = record { blocks = program_blocks program; functions = program_functions program; charts = program_charts program }

-- ---- for how much there is room: on each stack for as many cells as the body needs by its structure, and no more than there are
-- instructions

-- how many inputs a function of the text takes at most
abbrev pub taken : List Named → ℕ → Named → ℕ
taken units number unit = length (types_taken (function_at units number))

unfoldable pub most_taken : List Named → ℕ
most_taken units = most (numbered (taken units) 0 units)

abbrev pub code_depth : List Named → Named → List Line → ℕ
code_depth units unit code = min (declared_depth (most_taken units) unit.declares) (length code)

abbrev pub own_depth : List Named → ℕ → Named → ℕ
own_depth units number unit = code_depth units unit (unit_code units number unit)

unfoldable pub program_depth : ProgramView → ℕ
program_depth program = made_of (own_depth (units_of (text_of program))) 0 (main_of program) (main_unit program)

abbrev pub block_room : List Named → ℕ → Named → Room
block_room units number unit = record { stack = code_depth units unit (block_code units number unit); variables = 0 }

-- a function has room for its variables too
abbrev pub function_room : List Named → ℕ → Named → Room
function_room units number unit =
    if is_small_function units unit then record { stack = own_depth units number unit; variables = length (starts_of units unit) } else no_room

abbrev pub room_at : (ℕ → Named → Room) → List Named → ℕ → Room
room_at room units number = made_of room no_room number (unit_at units number)

-- that of each level: of the functions at each place in the order, and then of the function blocks
abbrev pub level_rooms : List Named → List ℕ → List Room
level_rooms units order = map (room_at (function_room units) units) order ++ map (room_at (block_room units) units) order

unfoldable pub program_rooms : ProgramView → List Room
program_rooms program = level_rooms (units_of (text_of program)) (order_of program)

abbrev pub stacks_in : List Room → List ℕ
stacks_in rooms = map (λ (r : Room). r.stack) rooms

-- no stack gets deeper than this
unfoldable pub greatest_depth : ProgramView → ℕ
greatest_depth program = max (program_depth program) (most (stacks_in (program_rooms program)))

-- there is so much room, and for charts what each of them needs
pub record HasRoom (program : ProgramView) (rooms : Rooms) : Type 0 where
  pub own : rooms.own ≡ program_depth program
  pub levels : rooms.levels ≡ program_rooms program
  pub charts : IsRoomFor (program_charts program) rooms.charts

-- ---- what follows

-- the values are ones of these leaves, and forced leaves keep theirs
pub record KeepsFrame (leaves : List Leaf) (forced : List Bool) (values others : Values) : Type 0 where
  pub fits : Fits leaves (record { values = others; forced = forced })
  pub kept : (leaf : ℕ) → forced_at forced leaf ≡ true → value_at others leaf ≡ value_at values leaf

-- what a run of a checked program leaves lies in the frame
abbrev pub RunsKeepTheFrame : Type 0
RunsKeepTheFrame = (program : ProgramView) (setting : Setting) (values others : Values) (limit : ℕ) → IsTrue (in_range elems.Time setting.now)
    → IsChecked program → Fits (leaves_of_program program) (record { values = values; forced = setting.forced })
    → scan_result program setting values limit ≡ Ok others → KeepsFrame (leaves_of_program program) setting.forced values others
