use Rattle.std.proofs.Common.{rules, w64}
use Rattle.std.proofs.lemmas.Int.{to_z-of_z}
use Rattle.st_types.specs.declared.standard.StandardBlock.TheVariants.{Tof, Ton, Tp}
use Rattle.st_instructions.specs.Moves.{environment_at}
use Rattle.st_instructions.proofs.Invocations.{invoke_goes}
use Rattle.st_instructions.proofs.blocks.invoke.Goals as goal

pub do_ton-requires-clause-leaves : goal.do_ton-requires-clause-leaves
do_ton-requires-clause-leaves g c = rw c.in-Ton.is at c.requires.ready

pub returns-in-Ton-clause-does : goal.returns-in-Ton-clause-does
returns-in-Ton-clause-does g c =
    let content = g.M.Memory.content c.args.layout.now c.args.memory.now in
    let values = rw (to_z-of_z w64 c.args.now (search rules)) at c.do_ton.ensures.values in
    rw c.in-Ton.is (invoke_goes (environment_at c.args.now content.forced) Ton c.args.leaf content.values _ (rw c.in-Ton.is at c.requires.ready) values)

pub do_tof-requires-clause-leaves : goal.do_tof-requires-clause-leaves
do_tof-requires-clause-leaves g c = rw c.in-Tof.is at c.requires.ready

pub returns-in-Tof-clause-does : goal.returns-in-Tof-clause-does
returns-in-Tof-clause-does g c =
    let content = g.M.Memory.content c.args.layout.now c.args.memory.now in
    let values = rw (to_z-of_z w64 c.args.now (search rules)) at c.do_tof.ensures.values in
    rw c.in-Tof.is (invoke_goes (environment_at c.args.now content.forced) Tof c.args.leaf content.values _ (rw c.in-Tof.is at c.requires.ready) values)

pub do_tp-requires-clause-leaves : goal.do_tp-requires-clause-leaves
do_tp-requires-clause-leaves g c = rw c.in-Tp.is at c.requires.ready

pub returns-in-Tp-clause-does : goal.returns-in-Tp-clause-does
returns-in-Tp-clause-does g c =
    let content = g.M.Memory.content c.args.layout.now c.args.memory.now in
    let values = rw (to_z-of_z w64 c.args.now (search rules)) at c.do_tp.ensures.values in
    rw c.in-Tp.is (invoke_goes (environment_at c.args.now content.forced) Tp c.args.leaf content.values _ (rw c.in-Tp.is at c.requires.ready) values)
