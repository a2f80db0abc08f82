use Rattle.std.proofs.Common.{◌∙◌, ap, sym}
use Rattle.std.specs.Option.{option_copied}
use Rattle.st_compile.specs.Programs.{types_taken}
use Rattle.st_compile.proofs.Taken.{types_some}
use Rattle.st_compile.proofs.functions.types_taken.Goals as goal
use Rattle.st_compile.proofs.functions.types_taken.Goals.{in-Some+else-initials-test, in_default}

pub returns : goal.returns
returns c = elim c.match-function_at.branch [
  | in-Some+else-initials-test w ↦
      ap (λ v. v.items) w.types-is
      ∙ types_some w.in-Some.function.now w.initials-value-items.result.now w.initials.types.items w.initials.value-index w.initials-value-items.ensures w.initials-test.false w.initials.invariant
      ∙ ap types_taken (sym (ap option_copied w.in-Some.is) ∙ c.function_at.ensures)
  | in_default w ↦ ap (λ v. v.items) w.types-is ∙ c.new-types.ensures.items ∙ ap types_taken (sym (ap option_copied w.in_default.is) ∙ c.function_at.ensures)
]
