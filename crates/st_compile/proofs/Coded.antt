-- Units of a checked program by their numbers in the tables: what their names stand for, that they are small, and what is made of them.
use Rattle.std.proofs.Common.{◌≡◌, ℕ, zero, suc, ◌==◌, ◌<◌, ◌≤◌, true, ◌||◌, not, nat_le, List, [], ◌∷◌, get_or, length, map, Option, Some, None, refl, ap, sym, ◌∙◌, subst, arith}
use Rattle.std.specs.Prelude.{if◌then◌else◌, min}
use Rattle.std.proofs.lemmas.Bool.{and_parts, leb-true}
use Rattle.std.proofs.lemmas.List.{length-map}
use Rattle.std.proofs.lemmas.Option.{same_Some}
use Rattle.st_check.specs.Faults.{is_program}
use Rattle.st_check.specs.Laws.{CheckedIsSmall}
use Rattle.st_check.specs.Programs.{IsChecked, ProgramView, main_of, text_of}
use Rattle.st_code.specs.Code.{code_of}
use Rattle.st_chart_runs.specs.Charts.{IsRoomFor}
use Rattle.st_chart_runs.specs.declared.workspace.ChartRoom.{ChartRoom}
use Rattle.st_leaves.specs.Bounds.{HasBounds}
use Rattle.st_leaves.specs.Places.{count}
use Rattle.st_machine.specs.Levels.{Rooms}
use Rattle.st_machine.specs.declared.stacks.Room.{Room}
use Rattle.st_meaning.specs.Offsets.{HasSmallArrays, IsSmall}
use Rattle.st_meaning.proofs.SmallArrays.{small_arrays}
use Rattle.st_meaning.specs.Typing.{body_in}
use Rattle.st_meaning.specs.Units.{function_at, root_of, statements_of, unit_whole}
use Rattle.st_meaning.specs.Wholes.{Whole}
use Rattle.st_places.specs.Laws.{UnitsAreSound}
use Rattle.st_places.specs.Functions.{optional_starts, starts_at, starts_of}
use Rattle.st_places.specs.Parts.{TablesView, is_block, is_function, is_small_block, is_small_block_in, is_small_function, is_small_function_in, optional_small_block, optional_small_function, optional_whole, whole_in}
use Rattle.st_types.proofs.Units.{unit_at-map, found_below}
use Rattle.st_types.specs.Compositions.{composition_of}
use Rattle.st_types.specs.Inside.{named_by}
use Rattle.st_types.specs.Names.{Named, unit_at, units_of}
use Rattle.st_types.specs.declared.unit.NamedUnit.{NamedUnit}
use Rattle.st_code.specs.Depths.{declared_depth}
use Rattle.st_compile.specs.Programs.{HasRoom, block_code, chart_view, faulty, faulty_name, made_of, most_taken, name_in, program_charts, program_code, program_depth, program_names, program_rooms, types_taken, unit_chart, unit_code, own_depth}
use Rattle.st_compile.specs.Small.{function_is_small}
use Rattle.st_compile.proofs.Charted.{whichever_statements}
use Rattle.st_compile.proofs.Renamed.{program_root}

-- the variables of a unit
pub variables_are : (units : List Named) (u : Named) → (unit_whole units u).variables ≡ root_of units u
unfolding unit_whole
variables_are units u = refl

-- a function block that a program has room for is small, where its arrays have bounds
pub small_where : (tables : TablesView) (n : ℕ) → HasBounds (whole_in tables n).variables → is_small_block_in tables n ≡ true → IsSmall (whole_in tables n).variables
unfolding whole_in is_small_block_in unit_whole
small_where tables n bounds small = by (unit_at (units_of tables.text) n) bounds small where
  by : (u : Option Named) → HasBounds (optional_whole (units_of tables.text) u).variables → optional_small_block (units_of tables.text) u ≡ true
      → IsSmall (optional_whole (units_of tables.text) u).variables
  by None bounds small = absurd cc
  by (Some u) bounds small =
      let few = leb-true (count (root_of (units_of tables.text) u)) 65536 (and_parts (is_block u.declares) (nat_le (count (root_of (units_of tables.text) u)) 65536) small).1 in
      record { bounds = bounds; arrays = small_arrays (root_of (units_of tables.text) u) bounds few; few = omega (arith, few) }

-- so is a function, which has no large array
pub small_function_where : (tables : TablesView) (n : ℕ) → HasBounds (whole_in tables n).variables → HasSmallArrays (whole_in tables n).variables → is_small_function_in tables n ≡ true
    → IsSmall (whole_in tables n).variables
unfolding whole_in is_small_function_in unit_whole
small_function_where tables n bounds arrays small = by (unit_at (units_of tables.text) n) bounds arrays small where
  by : (u : Option Named) → HasBounds (optional_whole (units_of tables.text) u).variables → HasSmallArrays (optional_whole (units_of tables.text) u).variables
      → optional_small_function (units_of tables.text) u ≡ true → IsSmall (optional_whole (units_of tables.text) u).variables
  by None bounds arrays small = absurd cc
  by (Some u) bounds arrays small = record {
    bounds = bounds;
    arrays = arrays;
    few = leb-true (count (root_of (units_of tables.text) u)) 999999 (and_parts (is_function u.declares) (nat_le (count (root_of (units_of tables.text) u)) 999999) small).1;
  }

module _ (program : ProgramView) (tables : TablesView) (text : tables.text ≡ text_of program) (n : ℕ) (u : Named) (found : unit_at (units_of (text_of program)) n ≡ Some u) where
  abbrev units : List Named
  units = units_of (text_of program)

  -- what the names in the statements of the unit stand for
  pub whole_at : whole_in tables n ≡ unit_whole (units_of (text_of program)) u
  unfolding whole_in
  whole_at = ap (λ t. optional_whole (units_of t) (unit_at (units_of t) n)) text ∙ ap (optional_whole units) found

  pub small_block_at : is_small_block_in tables n ≡ is_small_block (units_of (text_of program)) u
  unfolding is_small_block_in
  small_block_at = ap (λ t. optional_small_block (units_of t) (unit_at (units_of t) n)) text ∙ ap (optional_small_block units) found

  pub bounds_at : UnitsAreSound → IsChecked program → HasBounds (whole_in tables n).variables
  bounds_at sound checked =
      subst (λ (w : Whole). HasBounds w.variables) (sym whole_at) (subst (λ c. HasBounds c) (sym (variables_are units u)) (sound program checked n u found).bounds)

  pub arrays_at : UnitsAreSound → IsChecked program → is_function u.declares ≡ true → HasSmallArrays (whole_in tables n).variables
  arrays_at sound checked function =
      subst (λ (w : Whole). HasSmallArrays w.variables) (sym whole_at) (subst (λ c. HasSmallArrays c) (sym (variables_are units u)) ((sound program checked n u found).arrays function))

  -- the code of its body
  pub code_at : code_of (whole_in tables n).variables (body_in (whole_in tables n) n (statements_of u.declares)) ≡ unit_code (units_of (text_of program)) n u
  code_at = ap (λ (w : Whole). code_of w.variables (body_in w n (statements_of u.declares))) whole_at

  pub block_code_at : (if is_small_block_in tables n then code_of (whole_in tables n).variables (body_in (whole_in tables n) n (statements_of u.declares)) else []) ≡ block_code (units_of (text_of program)) n u
  block_code_at =
      ap (λ b. if b then code_of (whole_in tables n).variables (body_in (whole_in tables n) n (statements_of u.declares)) else []) small_block_at ∙ ap (λ ls. if is_small_block units u then ls else []) code_at

  -- its chart
  pub chart_at : (main : ℕ) → main ≡ main_of program → (if n == main || is_small_block_in tables n then chart_view (body_in (whole_in tables n) n []) else None)
      ≡ unit_chart (units_of (text_of program)) (main_of program) n u
  chart_at main is =
      ap (λ m. if n == m || is_small_block_in tables n then chart_view (body_in (whole_in tables n) n []) else None) is
      ∙ ap (λ b. if n == main_of program || b then chart_view (body_in (whole_in tables n) n []) else None) small_block_at
      ∙ ap (λ c. if n == main_of program || is_small_block units u then c else None)
      (ap (λ w. chart_view (body_in w n [])) whole_at ∙ whichever_statements (unit_whole units u) n [] (statements_of u.declares))

  pub small_function_at : is_small_function_in tables n ≡ is_small_function (units_of (text_of program)) u
  unfolding is_small_function_in
  small_function_at = ap (λ t. optional_small_function (units_of t) (unit_at (units_of t) n)) text ∙ ap (optional_small_function units) found

  pub is_function_where : is_small_function_in tables n ≡ true → is_function u.declares ≡ true
  is_function_where small = (and_parts (is_function u.declares) (nat_le (count (root_of units u)) 999999) (sym small_function_at ∙ small)).0

  -- with which values its variables begin
  pub begins_at : starts_at tables n ≡ starts_of (units_of (text_of program)) u
  unfolding starts_at
  begins_at = ap (λ t. optional_starts (units_of t) (unit_at (units_of t) n)) text ∙ ap (optional_starts units) found

  pub taken_at : types_taken (function_at (units_of tables.text) n) ≡ types_taken (function_at (units_of (text_of program)) n)
  taken_at = ap (λ t. types_taken (function_at (units_of t) n)) text

  -- if it is a function, whether it is small
  pub function_small_at : (not (is_function u.declares) || is_small_function_in tables n) ≡ function_is_small (units_of (text_of program)) u
  function_small_at = ap (λ b. not (is_function u.declares) || b) small_function_at

-- ---- the main unit

module _ (program : ProgramView) (main : ℕ) (is : main ≡ main_of program) (u : Named) (found : unit_at (units_of (text_of program)) main ≡ Some u) where
  main_found : unit_at (units_of (text_of program)) (main_of program) ≡ Some u
  main_found = ap (unit_at (units_of (text_of program))) (sym is) ∙ found

  pub main_small : (tables : TablesView) → tables.text ≡ text_of program → IsChecked program → CheckedIsSmall → IsSmall (whole_in tables main).variables
  main_small tables text checked small =
      let units = units_of (text_of program) in
      let same : checked.unit ≡ u = same_Some checked.unit u (sym checked.found ∙ main_found) in
      let is_main : is_program u.declares ≡ true = subst (λ (v : Named). is_program v.declares ≡ true) same checked.program in
      let few = small program checked u main_found in
      let fits : IsSmall (root_of units u) = subst (λ c. IsSmall c) (sym (program_root units u is_main)) (record { bounds = few.bounds; arrays = small_arrays (composition_of units u.declares) few.bounds few.few; few = omega (arith, few.few) }) in
      subst (λ (w : Whole). IsSmall w.variables) (sym (whole_at program tables text main u found)) (subst (λ c. IsSmall c) (sym (variables_are units u)) fits)

  pub main_code : unit_code (units_of (text_of program)) main u ≡ program_code program
  unfolding program_code
  main_code = ap (λ n. unit_code (units_of (text_of program)) n u) is ∙ sym (ap (made_of (unit_code (units_of (text_of program))) [] (main_of program)) main_found)

  pub main_depth : min (declared_depth (most_taken (units_of (text_of program))) u.declares) (length (unit_code (units_of (text_of program)) main u)) ≡ program_depth program
  unfolding program_depth
  main_depth =
      ap (λ n. min (declared_depth (most_taken (units_of (text_of program))) u.declares) (length (unit_code (units_of (text_of program)) n u))) is
      ∙ sym (ap (made_of (own_depth (units_of (text_of program))) 0 (main_of program)) main_found)

-- ---- units as they are read

-- the unit that is read
pub read_at : (program : ProgramView) (read : List NamedUnit) → map named_by read ≡ units_of (text_of program) → (n : ℕ) (x : NamedUnit) → n < length read → x ≡ get_or read n x
    → unit_at (units_of (text_of program)) n ≡ Some (named_by x)
read_at program read same n x below is = ap (λ us. unit_at us n) (sym same) ∙ unit_at-map named_by read n x below is

pub read_number : (program : ProgramView) (read : List NamedUnit) → map named_by read ≡ units_of (text_of program) → length read ≡ length (units_of (text_of program))
read_number program read same = sym (length-map read named_by) ∙ ap length same

-- there is a unit of each number below theirs
pub unit_below : (units : List Named) (n : ℕ) → n < length units → (u : Named) × (unit_at units n ≡ Some u)
unit_below [] n below = absurd (omega (arith, below))
unit_below (u ∷ us) zero below = (u, refl)
unit_below (u ∷ us) (suc n) below = unit_below us n (omega (arith, below))

pub main_below : (program : ProgramView) (read : List NamedUnit) → map named_by read ≡ units_of (text_of program) → IsChecked program → (main : ℕ) → main ≡ main_of program → main < length read
main_below program read same checked main is =
    omega (arith, is, read_number program read same, found_below (units_of (text_of program)) (main_of program) checked.unit checked.found)

-- ---- an image's stacks, and its names

pub has_room : (program : ProgramView) (rooms : Rooms) (n : ℕ) (rs : List Room) (room : ChartRoom) → rooms ≡ record { own = n; levels = rs; charts = room } → n ≡ program_depth program
    → rs ≡ program_rooms program → IsRoomFor (program_charts program) room → HasRoom program rooms
has_room program rooms n rs room is own levels fit =
    record {
      own = ap (λ (r : Rooms). r.own) is ∙ own;
      levels = ap (λ (r : Rooms). r.levels) is ∙ levels;
      charts = subst (IsRoomFor (program_charts program)) (sym (ap (λ (r : Rooms). r.charts) is)) fit;
    }

names_get : (us : List Named) (n : ℕ) (name : List ℕ) → n < length (map (λ (u : Named). u.name.spelling) us) → name ≡ get_or (map (λ (u : Named). u.name.spelling) us) n name → name ≡ name_in (unit_at us n)
names_get [] n name below is = absurd (omega (arith, below))
names_get (u ∷ us) zero name below is = is
names_get (u ∷ us) (suc n) name below is = names_get us n name (omega (arith, below)) is

names_none : (us : List Named) (n : ℕ) → length (map (λ (u : Named). u.name.spelling) us) ≤ n → [] ≡ name_in (unit_at us n)
names_none [] n past = refl
names_none (u ∷ us) zero past = absurd (omega (arith, past))
names_none (u ∷ us) (suc n) past = names_none us n (omega (arith, past))

module _ (program : ProgramView) (names : List (List ℕ)) (are : names ≡ program_names program) (number : Option ℕ) (n : ℕ) (is : n ≡ faulty (main_of program) number) where
  pub faulty_some : (name : List ℕ) → n < length names → name ≡ get_or names n name → name ≡ faulty_name program number
  unfolding program_names faulty_name
  faulty_some name below found =
      names_get (units_of (text_of program)) n name (subst (λ ns. n < length ns) are below) (found ∙ ap (λ ns. get_or ns n name) are) ∙ ap (λ i. name_in (unit_at (units_of (text_of program)) i)) is

  pub faulty_none : length names ≤ n → [] ≡ faulty_name program number
  unfolding program_names faulty_name
  faulty_none past =
      names_none (units_of (text_of program)) n (subst (λ ns. length ns ≤ n) are past) ∙ ap (λ i. name_in (unit_at (units_of (text_of program)) i)) is
