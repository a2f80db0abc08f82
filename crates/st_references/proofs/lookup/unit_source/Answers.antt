use Rattle.std.proofs.Common.{rules, map}
use Rattle.st_types.specs.Inside.{named_by}
use Rattle.st_types.specs.Names.{units_of}
use Rattle.st_references.specs.Tables.{written_at}
use Rattle.st_references.proofs.Lookups.{own_source}
use Rattle.st_references.proofs.lookup.unit_source.Goals as goal

pub returns-in-Some : goal.returns-in-Some
returns-in-Some c = λ all are.
    own_source (units_of c.args.tables.now) (map (written_at all) c.args.types.now) all c.args.unit (named_by c.unit.result) c.in-Type-Derived.specification c.in-Some.field-0 c.unit.ensures (search rules) are
