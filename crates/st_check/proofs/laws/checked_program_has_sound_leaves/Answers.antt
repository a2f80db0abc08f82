use Rattle.std.proofs.Common.{◌≡◌, false, length, Some, sym, ◌∙◌, subst}
use Rattle.std.proofs.lemmas.List.Elements.{All-from_recursion}
use Rattle.st_types.specs.Compositions.{composition_of}
use Rattle.st_types.specs.Names.{Named, units_of}
use Rattle.st_leaves.specs.Distinct.{HasShortSubscripts}
use Rattle.st_leaves.specs.Leaves.{leaves_of}
use Rattle.st_leaves.specs.LeavesIn.{leaves_of_whole}
use Rattle.st_leaves.specs.Limits.{is_too_large}
use Rattle.st_leaves.specs.Sound.{IsSound}
use Rattle.st_check.specs.Programs.{leaves_of_program, main_of, optional_leaves, text_of}
use Rattle.st_check.proofs.DistinctNames.{distinct_of}
use Rattle.st_check.proofs.ShortSubscripts.{short_whole}
use Rattle.st_check.proofs.ShortUnits.{short_of}
use Rattle.st_check.proofs.SoundLeaves.{sound_leaves}
use Rattle.st_check.proofs.UnitsApart.{units_apart}
use Rattle.st_check.proofs.UnitsShort.{units_short}
use Rattle.st_check.proofs.laws.checked_program_has_sound_leaves.Goals as goal

pub returns : goal.returns
unfolding leaves_of_program
returns c program checked unit found words =
    let units = units_of (text_of program) in
    let apart = units_apart units checked.faultless in
    let ranges = units_short units checked.faultless in
    let whole = leaves_of_whole (composition_of units unit.declares) in
    let both : Some checked.unit ≡ Some unit = sym checked.found ∙ found in
    let same : checked.unit ≡ unit = cc in
    let small : is_too_large (length unit.name.spelling) (leaves_of units unit.declares) ≡ false =
    subst (λ (u : Named). is_too_large (length u.name.spelling) (leaves_of units u.declares) ≡ false) same checked.small in
    let shorts = All-from_recursion (λ l. HasShortSubscripts l.path) whole (short_whole (composition_of units unit.declares) (short_of units ranges unit.declares (ranges (main_of program) unit found))) in
    let sound = sound_leaves units unit (distinct_of units apart unit.declares (apart (main_of program) unit found)) words shorts small in
    subst (λ found_unit. IsSound (optional_leaves units found_unit)) (sym found) sound
