use Rattle.std.proofs.Common.{Err, ap, subst, sym, w64, ◌∙◌}
use Rattle.std.proofs.lemmas.Int.{to_z-of_z}
use Rattle.st_check.specs.Programs.{IsChecked, leaves_of_program}
use Rattle.st_compile.proofs.Known.{Known}
use Rattle.st_compile.proofs.Runs.{its_run, result_done, result_faulted, room_kept}
use Rattle.st_compile.proofs.SmallFunctions.{functions_small}
use Rattle.st_compile.proofs.Typed.{typed_scan}
use Rattle.st_compile.proofs.running.run.Goals as goal
use Rattle.st_blocks.proofs.RangeLemmas.{is_time}

pub run_fused-requires-clause-runs : goal.run_fused-requires-clause-runs
run_fused-requires-clause-runs g c =
    let program = c.args.image.now in
    let checked = subst (λ p. IsChecked p) c.program.ensures c.main-main.ensures.checked in
    let known : Known = record {
      small = c.checked_program_is_small.ensures;
      units = c.units_are_sound.ensures;
      instances = c.instances_are_of_blocks.ensures;
      typed = c.typing_gives_sound_units.ensures;
      frame = c.bodies_keep_the_frame.ensures;
      does = c.code_does_as_commands_mean.ensures;
      depth = c.depth_is_at_most_the_length.ensures;
      invokes = c.typing_invokes_bodies.ensures;
      entering = c.typing_enters_instances.ensures;
      enters = c.code_enters_what_is_invoked.ensures;
      calling = c.code_calls_functions.ensures;
      charts = c.code_is_of_its_chart.ensures;
      passing = c.sound_bodies_call_what_passes.ensures;
      below = c.checked_functions_call_below.ensures;
      plain = c.checked_functions_have_no_instances.ensures.own;
      gives = c.checked_calls_are_those_of_their_bodies.ensures;
      calls = c.calls_are_sound.ensures;
    } in
    its_run known program checked (functions_small program c.units.ensures.small) c.args.stacks.now c.requires.room c.args.now (is_time c.args.now c.ranges.now) (λ ls. g.M.Memory.content ls c.args.memory.now)
    (g.met.M.Memory.fits (leaves_of_program program) c.args.memory.now c.requires.over) c.args.limit _ c.code.result.now c.units.result.now c.layout.result.now
    (to_z-of_z w64 c.args.now c.ranges.now) c.code.ensures c.units.ensures.units c.layout.ensures

pub returns-in-Ok-clause-room : goal.returns-in-Ok-clause-room
returns-in-Ok-clause-room g c = room_kept c.args.image.now c.args.stacks.now c.run_fused.new.stacks c.in-Ok.ensures.rooms c.requires.room

pub returns-in-Ok-clause-result : goal.returns-in-Ok-clause-result
returns-in-Ok-clause-result g c =
    let program = c.args.image.now in
    let checked = subst (λ p. IsChecked p) c.program.ensures c.main-main.ensures.checked in
    let known : Known = record {
      small = c.checked_program_is_small.ensures;
      units = c.units_are_sound.ensures;
      instances = c.instances_are_of_blocks.ensures;
      typed = c.typing_gives_sound_units.ensures;
      frame = c.bodies_keep_the_frame.ensures;
      does = c.code_does_as_commands_mean.ensures;
      depth = c.depth_is_at_most_the_length.ensures;
      invokes = c.typing_invokes_bodies.ensures;
      entering = c.typing_enters_instances.ensures;
      enters = c.code_enters_what_is_invoked.ensures;
      calling = c.code_calls_functions.ensures;
      charts = c.code_is_of_its_chart.ensures;
      passing = c.sound_bodies_call_what_passes.ensures;
      below = c.checked_functions_call_below.ensures;
      plain = c.checked_functions_have_no_instances.ensures.own;
      gives = c.checked_calls_are_those_of_their_bodies.ensures;
      calls = c.calls_are_sound.ensures;
    } in
    result_done known program checked (functions_small program c.units.ensures.small) c.args.stacks.now c.requires.room c.args.now (is_time c.args.now c.ranges.now) (λ ls. g.M.Memory.content ls c.args.memory.now)
    (g.met.M.Memory.fits (leaves_of_program program) c.args.memory.now c.requires.over) c.args.limit _ c.code.result.now c.units.result.now c.layout.result.now
    (to_z-of_z w64 c.args.now c.ranges.now) c.code.ensures c.units.ensures.units c.layout.ensures (λ ls. (g.M.Memory.content ls c.run_fused.new.memory).values) c.in-Ok.ensures.ends

pub returns-in-Err-clause-room : goal.returns-in-Err-clause-room
returns-in-Err-clause-room g c = room_kept c.args.image.now c.args.stacks.now c.run_fused.new.stacks c.in-Err.ensures.rooms c.requires.room

pub returns-in-Err-clause-result : goal.returns-in-Err-clause-result
returns-in-Err-clause-result g c =
    let program = c.args.image.now in
    let checked = subst (λ p. IsChecked p) c.program.ensures c.main-main.ensures.checked in
    let known : Known = record {
      small = c.checked_program_is_small.ensures;
      units = c.units_are_sound.ensures;
      instances = c.instances_are_of_blocks.ensures;
      typed = c.typing_gives_sound_units.ensures;
      frame = c.bodies_keep_the_frame.ensures;
      does = c.code_does_as_commands_mean.ensures;
      depth = c.depth_is_at_most_the_length.ensures;
      invokes = c.typing_invokes_bodies.ensures;
      entering = c.typing_enters_instances.ensures;
      enters = c.code_enters_what_is_invoked.ensures;
      calling = c.code_calls_functions.ensures;
      charts = c.code_is_of_its_chart.ensures;
      passing = c.sound_bodies_call_what_passes.ensures;
      below = c.checked_functions_call_below.ensures;
      plain = c.checked_functions_have_no_instances.ensures.own;
      gives = c.checked_calls_are_those_of_their_bodies.ensures;
      calls = c.calls_are_sound.ensures;
    } in
    result_faulted known program checked (functions_small program c.units.ensures.small) c.args.stacks.now c.requires.room c.args.now (is_time c.args.now c.ranges.now) (λ ls. g.M.Memory.content ls c.args.memory.now)
    (g.met.M.Memory.fits (leaves_of_program program) c.args.memory.now c.requires.over) c.args.limit _ c.code.result.now c.units.result.now c.layout.result.now
    (to_z-of_z w64 c.args.now c.ranges.now) c.code.ensures c.units.ensures.units c.layout.ensures c.in-Err.halt c.in-Err.ensures.ends
    ∙ ap (λ n. Err (record { kind = c.in-Err.halt.kind; unit = n; line = c.in-Err.halt.line })) (sym c.faulty.ensures)

pub returns-in-Ok-clause-typed : goal.returns-in-Ok-clause-typed
returns-in-Ok-clause-typed g c = c.checked_programs_are_typed.ensures c.args.image.now (subst (λ p. IsChecked p) c.program.ensures c.main-main.ensures.checked)

pub returns-in-Err-clause-typed : goal.returns-in-Err-clause-typed
returns-in-Err-clause-typed g c = c.checked_programs_are_typed.ensures c.args.image.now (subst (λ p. IsChecked p) c.program.ensures c.main-main.ensures.checked)

pub returns-in-Ok-clause-meaning : goal.returns-in-Ok-clause-meaning
returns-in-Ok-clause-meaning g c = λ unit body is. typed_scan c.typings_are_one.ensures c.args.image.now unit body is _ _ _ ∙ returns-in-Ok-clause-result g c

pub returns-in-Err-clause-meaning : goal.returns-in-Err-clause-meaning
returns-in-Err-clause-meaning g c = λ unit body is. typed_scan c.typings_are_one.ensures c.args.image.now unit body is _ _ _ ∙ returns-in-Err-clause-result g c
