use Rattle.std.proofs.Common.{sym}
use Rattle.std.proofs.lemmas.Result.{on_ok_weaker}
use Rattle.st_scopes.specs.Declarations.{seen}
use Rattle.st_types.specs.Names.{units_of}
use Rattle.st_places.proofs.member.Members.add.Goals as goal

pub returns : goal.returns
returns c =
    on_ok_weaker c.put.result (λ more vs has.
    more (units_of c.args.tables.now) vs (seen c.args.declared.now) (sym c.as_slice.ensures)
    (record { base = c.in_ok-parts.ensures.base; dimensions = c.in_ok-parts.ensures.dimensions; count = c.in_ok-parts.ensures.count }) has) c.put.ensures
