use Rattle.std.proofs.Common.{◌∙◌, ap, length, sym}
use Rattle.st_machine.proofs.Begun.{many_cells}
use Rattle.st_machine.proofs.calls.set_variables.Goals as goal

pub input_at-requires : goal.input_at-requires
input_at-requires c = many_cells c.args.function.now.inputs c.args.cells.now c.requires.cells ∙ ap length (sym c.inputs-inputs.ensures)
