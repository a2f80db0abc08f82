use Rattle.st_check_units.proofs.NamesTwice.{repeated_turn, seen_turn}
use Rattle.st_check_units.proofs.repeats.check_declared_names.Goals as goal

pub loop-declaration-preserved : goal.loop-declaration-preserved
loop-declaration-preserved c = record {
  first = repeated_turn (λ d. d.names) c.args.declarations.now c.loop-declaration.declaration-index c.declaration-item.result c.loop-declaration-test.true c.declaration-item.is c.as_slice.result.now c.as_slice.ensures c.loop-declaration.seen c.check_names.new.seen c.loop-declaration.first c.check_names.new.first _ c.in_ok-check_names.ensures.first c.in_ok-check_names.ensures.seen c.loop-declaration.invariant.first;
  seen = seen_turn (λ d. d.names) c.args.declarations.now c.loop-declaration.declaration-index c.declaration-item.result c.loop-declaration-test.true c.declaration-item.is c.as_slice.result.now c.as_slice.ensures c.loop-declaration.seen c.check_names.new.seen _ c.in_ok-check_names.ensures.seen c.loop-declaration.invariant.seen;
}
