use Rattle.st_places.proofs.functions.names_of.Goals as goal
use Rattle.std.proofs.Common.{◌∙◌, ap, map}
use Rattle.std.proofs.lemmas.List.{take_all}
use Rattle.st_types.specs.declared.unit.NamedUnit.{NamedUnit}
use Rattle.st_places.specs.Callables.{unit_spellings}
use Rattle.st_places.proofs.Callables.{spelled}

pub returns : goal.returns
returns c =
    c.loop-unit.invariant ∙ ap (map (λ (unit : NamedUnit). unit.name.now.spelling)) (take_all c.loop-unit.unit-index c.units-unit-items.result.now c.loop-unit-test.false)
    ∙ spelled c.units-unit-items.result.now ∙ ap unit_spellings c.units-unit-items.ensures
