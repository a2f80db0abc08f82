use Rattle.std.proofs.Common.{ap, sym, ◌∙◌}
use Rattle.std.specs.List.{flat_map}
use Rattle.std.specs.Option.{is_some}
use Rattle.st_values.specs.declared.elem.Elem.TheVariants as elems
use Rattle.st_types.specs.Standard.{conversion}
use Rattle.st_types.proofs.Entries.{found_here, found_later}
use Rattle.st_types.proofs.standard.conversion_among.Goals as goal

pub returns-then-is_some : goal.returns-then-is_some
returns-then-is_some c =
    c.conversion_from-found.ensures
    ∙ (sym (found_here (λ x. flat_map (conversion x) c.args.types.now) c.args.types.now c.args.name.now c.loop-from.from-index elems.Bool c.loop-from-test.true (ap is_some (sym c.conversion_from-found.ensures) ∙ (sym c.is_some.ensures ∙ c.if-is_some.true)))
    ∙ c.loop-from.invariant)

pub loop-from-preserved : goal.loop-from-preserved
loop-from-preserved c =
    sym (found_later (λ x. flat_map (conversion x) c.args.types.now) c.args.types.now c.args.name.now c.loop-from.from-index elems.Bool c.loop-from-test.true (ap is_some (sym c.conversion_from-found.ensures) ∙ (sym c.is_some.ensures ∙ c.if-is_some.false)))
    ∙ c.loop-from.invariant
