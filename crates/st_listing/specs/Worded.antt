-- Changes between checked programs, as far as their pairs go.
use Rattle.std.specs.Prelude.{◌≡◌, true, [], Some}
use Rattle.st_types.specs.Compositions.{composition_of}
use Rattle.st_types.specs.Names.{Named, unit_at, units_of}
use Rattle.st_check.specs.Programs.{IsChecked, ProgramView, leaves_of_program, main_of, text_of}
use Rattle.st_layout.specs.Laws.{HasWordedLeaves}
use Rattle.st_layout.specs.Pairs.{is_pairable}

-- a checked program, with names that are words
pub record IsWorded (program : ProgramView) : Type 0 where
  pub checked : IsChecked program
  pub unit : Named
  pub found : unit_at (units_of (text_of program)) (main_of program) ≡ Some unit
  pub words : HasWordedLeaves (composition_of (units_of (text_of program)) unit.declares)

-- Without renames an online change from one checked program to another is never refused for its pairs.
abbrev pub ChangesWithoutRenamesPair : Type 0
ChangesWithoutRenamesPair = (program other : ProgramView) → IsWorded program → IsWorded other →
    is_pairable (leaves_of_program program) (leaves_of_program other) [] ≡ true
