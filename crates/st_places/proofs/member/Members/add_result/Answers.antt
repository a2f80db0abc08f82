use Rattle.std.proofs.Common.{sym}
use Rattle.std.proofs.lemmas.Result.{on_ok_weaker}
use Rattle.st_meaning.specs.Units.{result_declared}
use Rattle.st_places.proofs.Results.{result_parts}
use Rattle.st_places.proofs.member.Members.add_result.Goals as goal

pub returns : goal.returns
returns c =
    on_ok_weaker c.put.result (λ more units vs has.
    more units vs (result_declared c.args.function.now) (sym c.as_slice.ensures) (result_parts units c.args.function.now) has) c.put.ensures
