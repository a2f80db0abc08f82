use Rattle.std.proofs.Common.{ap}
use Rattle.st_check_units.proofs.NamesTwice.{repeated_turn, seen_turn}
use Rattle.st_check_units.specs.Declarations.{declared_names}
use Rattle.st_check_units.proofs.repeats.check_variable_names.Goals as goal

pub loop-block-preserved : goal.loop-block-preserved
loop-block-preserved c = record {
  first = repeated_turn (λ b. declared_names b.declarations) c.args.blocks.now c.loop-block.block-index c.block-item.result c.loop-block-test.true c.block-item.is (declared_names c.as_slice.result.now) (ap declared_names c.as_slice.ensures) c.loop-block.seen c.check_declared_names.new.seen c.loop-block.first c.check_declared_names.new.first _ c.in_ok-check_declared_names.ensures.first c.in_ok-check_declared_names.ensures.seen c.loop-block.invariant.first;
  seen = seen_turn (λ b. declared_names b.declarations) c.args.blocks.now c.loop-block.block-index c.block-item.result c.loop-block-test.true c.block-item.is (declared_names c.as_slice.result.now) (ap declared_names c.as_slice.ensures) c.loop-block.seen c.check_declared_names.new.seen _ c.in_ok-check_declared_names.ensures.seen c.loop-block.invariant.seen;
}
