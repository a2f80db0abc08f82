use Rattle.std.proofs.Common.{◌∙◌, get_or, pos, sym, rules, w64}
use Rattle.std.proofs.lemmas.Int.{to_z-of_z}
use Rattle.st_values.specs.declared.elem.Elem.TheVariants.{Bool}
use Rattle.st_machine.proofs.Begun.{input_is, no_input}
use Rattle.st_machine.proofs.calls.input_at.Goals as goal

pub returns-then-number-inputs : goal.returns-then-number-inputs
returns-then-number-inputs c =
    let is = rw (to_z-of_z w64 (get_or c.args.cells.now c.args.number (pos 0)) (search rules)) at c.value_in.ensures in
    is ∙ input_is c.args.inputs.now c.args.cells.now c.args.number Bool (pos 0) c.if-number-inputs.true c.requires

pub returns-else-number-inputs : goal.returns-else-number-inputs
returns-else-number-inputs c = sym (no_input c.args.inputs.now c.args.cells.now c.args.number c.if-number-inputs.false)
