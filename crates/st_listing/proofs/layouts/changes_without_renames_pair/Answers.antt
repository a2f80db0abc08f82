use Rattle.std.proofs.Common.{◌≡◌, List, true, [], Some, ℕ, sym, subst, ap, ◌∙◌}
use Rattle.st_tree.specs.declared.leaf.Leaf.{Leaf}
use Rattle.st_types.specs.Compositions.{composition_of}
use Rattle.st_types.specs.Names.{units_of}
use Rattle.st_check.specs.Programs.{ProgramView, leaves_of_program, main_of, optional_leaves, text_of}
use Rattle.st_leaves.specs.LeavesIn.{leaves_of_whole}
use Rattle.st_leaves.specs.Programs.{leaves_from, program_leaves}
use Rattle.st_leaves.specs.Sound.{IsSound}
use Rattle.st_layout.specs.Pairs.{is_pairable}
use Rattle.st_listing.specs.Worded.{IsWorded}
use Rattle.st_listing.proofs.layouts.changes_without_renames_pair.Goals as goal

-- the leaves of a program that is one with words
worded_leaves : (program : ProgramView) (named : IsWorded program) →
    leaves_of_program program ≡ leaves_from named.unit.name.spelling 0 (leaves_of_whole (composition_of (units_of (text_of program)) named.unit.declares))
unfolding leaves_of_program program_leaves
worded_leaves program named = ap (optional_leaves (units_of (text_of program))) named.found

pub returns : goal.returns
returns c = λ program other named other_named.
    let here = worded_leaves program named in
    let there = worded_leaves other other_named in
    let sound : IsSound (leaves_of_program program) = c.checked_program_has_sound_leaves.ensures program named.checked named.unit named.found named.words in
    let other_sound : IsSound (leaves_of_program other) = c.checked_program_has_sound_leaves.ensures other other_named.checked other_named.unit other_named.found other_named.words in
    let pair = c.wholes_pair_without_renames.ensures named.unit.name.spelling other_named.unit.name.spelling (composition_of (units_of (text_of program)) named.unit.declares) (composition_of (units_of (text_of other)) other_named.unit.declares)
    named.words other_named.words (subst IsSound here sound) (subst IsSound there other_sound) in
    subst (λ (leaves : List Leaf). is_pairable leaves (leaves_of_program other) [] ≡ true) (sym here)
    (subst (λ (leaves : List Leaf). is_pairable (leaves_from named.unit.name.spelling 0 (leaves_of_whole (composition_of (units_of (text_of program)) named.unit.declares))) leaves [] ≡ true) (sym there) pair)
