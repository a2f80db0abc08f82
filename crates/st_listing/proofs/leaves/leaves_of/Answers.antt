use Rattle.std.proofs.Common.{◌∙◌}
use Rattle.st_listing.proofs.ProgramLeaves.{main_below, main_few, main_listed, main_sound, main_worded}
use Rattle.st_listing.proofs.leaves.leaves_of.Goals as goal

pub main_leaves-requires-clause-main : goal.main_leaves-requires-clause-main
main_leaves-requires-clause-main c =
    main_below c.args.program.now c.in_ok-tables.tables c.main.result (c.in_ok-tables.ensures ∙ c.units.ensures.units) c.main.ensures.main c.main.ensures.checked

pub main_leaves-requires-clause-few : goal.main_leaves-requires-clause-few
main_leaves-requires-clause-few c =
    main_few c.args.program.now c.in_ok-tables.tables c.main.result (c.in_ok-tables.ensures ∙ c.units.ensures.units) c.main.ensures.main c.main.ensures.checked c.leaves_follow_the_composition.ensures

pub returns-clause-leaves : goal.returns-clause-leaves
returns-clause-leaves c =
    main_listed c.args.program.now c.in_ok-tables.tables c.main.result (c.in_ok-tables.ensures ∙ c.units.ensures.units) c.main.ensures.main c.main.ensures.checked c.main_leaves.result (λ leaves. leaves.items) c.main_leaves.ensures.leaves

pub returns-clause-sound : goal.returns-clause-sound
returns-clause-sound c =
    main_sound c.args.program.now c.in_ok-tables.tables c.main.result (c.in_ok-tables.ensures ∙ c.units.ensures.units) c.main.ensures.main c.main.ensures.checked c.main_leaves.result (λ leaves. leaves.items)
    c.checked_program_has_sound_leaves.ensures c.main_leaves.ensures.leaves c.main_leaves.ensures.ways

pub returns-clause-worded : goal.returns-clause-worded
returns-clause-worded c =
    main_worded c.args.program.now c.in_ok-tables.tables c.main.result (c.in_ok-tables.ensures ∙ c.units.ensures.units) c.main.ensures.main c.main.ensures.checked c.main_leaves.result
    c.main_leaves.ensures.ways
