use Rattle.std.proofs.Common.{ap, ◌∙◌}
use Rattle.st_faults.specs.Faults.{number_of as rule_number}
use Rattle.st_faults.specs.Meanings.{meaning_at, meaning_of}
use Rattle.st_faults.specs.declared.explanation.Family.TheVariants.{Check}
use Rattle.st_faults.proofs.Rows.{rule_listed, some_of}
use Rattle.st_faults.proofs.meanings.explanation_of_rule.Goals as goal

pub unwrap-requires : goal.unwrap-requires
unwrap-requires c =
    some_of meaning_of c.explanation_of.result (meaning_at Check (rule_number c.args.rule))
    (c.explanation_of.ensures ∙ ap (meaning_at Check) c.number.ensures) (rule_listed c.args.rule)
