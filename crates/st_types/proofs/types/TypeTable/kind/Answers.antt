use Rattle.std.proofs.Common.{ap, sym, arith}
use Rattle.std.specs.Option.{option_map}
use Rattle.st_types.specs.Names.{Named}
use Rattle.st_types.proofs.Units.{unit_at-past}
use Rattle.st_types.proofs.types.TypeTable.kind.Goals as goal

pub returns-else-number-len : goal.returns-else-number-len
returns-else-number-len c = sym (ap (option_map (λ (u : Named). u.declares)) (unit_at-past c.args.self.now c.args.number (omega (arith, c.if-number-len.false, c.len.ensures))))
