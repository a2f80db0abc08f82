use Rattle.std.proofs.Common.{◌<◌, length, sym, ap, arith}
use Rattle.std.proofs.lemmas.List.{length-map}
use Rattle.st_types.specs.Inside.{named_by}
use Rattle.st_types.proofs.Units.{unit_at-map}
use Rattle.st_types.proofs.types.TypeTable.unit.Goals as goal

pub returns : goal.returns
returns c =
    let below : c.args.number < length c.self.inside.units.items = omega (arith, c.requires, ap length c.self.view_is, length-map c.self.inside.units.items named_by) in
    rw (← c.self.view_is) (sym (unit_at-map named_by c.self.inside.units.items c.args.number c.index.result.now below c.index.ensures))
