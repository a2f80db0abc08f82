use Rattle.std.proofs.Common.{ap, length, sym}
use Rattle.st_types.specs.Names.{unit_at}
use Rattle.st_places.proofs.Callables.{small_optional}
use Rattle.st_places.proofs.functions.Functions.is_small.Goals as goal

pub returns-then-count-gt0 : goal.returns-then-count-gt0
returns-then-count-gt0 c = λ text are elementary.
    small_optional text (unit_at text c.args.number) (length c.starts-count.result.now) (sym (ap length (c.starts-count.ensures text are elementary))) c.if-count-gt0.true
