use Rattle.std.proofs.Common.{ap, sym, ◌∙◌}
use Rattle.std.specs.Option.{option_copied, option_map}
use Rattle.st_types.specs.declared.standard.Standard.TheVariants as standards
use Rattle.st_types.proofs.Entries.{found_from, not_found_from}
use Rattle.st_types.proofs.standard.conversion_from.Goals as goal

pub returns-in_err-after_to : goal.returns-in_err-after_to
returns-in_err-after_to c =
    c.from_residual.ensures ∙ not_found_from c.args.from c.args.types.now c.args.name.now (sym c.after_to.ensures ∙ ap option_copied c.in_err-after_to.was)

pub returns-in_err-to : goal.returns-in_err-to
returns-in_err-to c =
    c.from_residual-in_err-to.ensures ∙ (ap (option_map (standards.Conversion c.args.from)) (sym c.in_err-to.was ∙ c.target_among.ensures)
    ∙ found_from c.args.from c.args.types.now c.args.name.now c.in_ok-after_to.field-0.now (sym c.after_to.ensures ∙ ap option_copied c.in_ok-after_to.was))

pub returns : goal.returns
returns c =
    ap (option_map (standards.Conversion c.args.from)) (sym c.in_ok-to.was ∙ c.target_among.ensures)
    ∙ found_from c.args.from c.args.types.now c.args.name.now c.in_ok-after_to.field-0.now (sym c.after_to.ensures ∙ ap option_copied c.in_ok-after_to.was)
