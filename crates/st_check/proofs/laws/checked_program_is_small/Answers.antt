use Rattle.std.proofs.Common.{◌≡◌, false, length, Some, sym, ◌∙◌, subst}
use Rattle.st_types.specs.Compositions.{composition_of}
use Rattle.st_types.specs.Names.{Named, units_of}
use Rattle.st_leaves.specs.Leaves.{leaves_of}
use Rattle.st_leaves.specs.Limits.{is_too_large}
use Rattle.st_check.specs.Programs.{main_of, text_of}
use Rattle.st_check.proofs.ShortUnits.{short_of}
use Rattle.st_check.proofs.Small.{few_leaves, has_bounds, name_is_short}
use Rattle.st_check.proofs.UnitsShort.{units_short}
use Rattle.st_check.proofs.laws.checked_program_is_small.Goals as goal

pub returns : goal.returns
returns c program checked unit found =
    let units = units_of (text_of program) in
    let ranges = units_short units checked.faultless in
    let both : Some checked.unit ≡ Some unit = sym checked.found ∙ found in
    let same : checked.unit ≡ unit = cc in
    let small : is_too_large (length unit.name.spelling) (leaves_of units unit.declares) ≡ false =
    subst (λ (u : Named). is_too_large (length u.name.spelling) (leaves_of units u.declares) ≡ false) same checked.small in
    record {
      bounds = has_bounds (composition_of units unit.declares) (short_of units ranges unit.declares (ranges (main_of program) unit found));
      few = few_leaves units unit small;
      short = name_is_short units (main_of program) unit checked.faultless found;
    }
