use Rattle.std.proofs.Common.{subst, sym}
use Rattle.st_types.specs.Names.{units_of}
use Rattle.st_places.specs.Contents.{AreOf}
use Rattle.st_places.proofs.Selections.{block_clause}
use Rattle.st_places.proofs.tables.Tables.block.Goals as goal

pub returns : goal.returns
returns c =
    block_clause (record { text = c.self.inside.text.now }) c.args.self.now c.args.node c.block_of.result c.self.view_is
    (c.block_of.ensures (units_of c.self.inside.text.now) (subst (AreOf (units_of c.self.inside.text.now)) (sym c.deref.ensures.value) c.self.invariant.parts))
