use Rattle.std.proofs.Common.{◌++◌, ◌∙◌, ap, get_or, map}
use Rattle.st_check.specs.Programs.{order_of, text_of}
use Rattle.st_machine.specs.Levels.{no_room}
use Rattle.st_types.specs.Names.{units_of}
use Rattle.st_compile.specs.Programs.{block_room, function_room}
use Rattle.st_compile.proofs.Listed.{rooms_done}
use Rattle.st_compile.proofs.Ordered.{all_made}
use Rattle.st_compile.proofs.units.bodies_of.Goals as goal

pub in_order-requires-clause-functions : goal.in_order-requires-clause-functions
in_order-requires-clause-functions c =
    let units = units_of (text_of c.args.program.now) in
    all_made units (order_of c.args.program.now) c.order-order.ensures.checked.ordered (function_room units) c.order-order.result.now c.deref-3.result.now c.order-order.ensures.order
    (c.deref-3.ensures.value ∙ c.in_ok-functions.ensures.rooms)

pub in_order-requires-clause-blocks : goal.in_order-requires-clause-blocks
in_order-requires-clause-blocks c =
    let units = units_of (text_of c.args.program.now) in
    all_made units (order_of c.args.program.now) c.order-order.ensures.checked.ordered (block_room units) c.order-order.result.now c.deref-4.result.now c.order-order.ensures.order
    (c.deref-4.ensures.value ∙ c.in_ok-blocks.ensures.rooms)

pub returns-clause-rooms : goal.returns-clause-rooms
returns-clause-rooms c =
    rooms_done c.args.program.now c.in_ok-rooms.rooms.items c.deref-3.result.now c.deref-4.result.now (c.deref-3.ensures.value ∙ c.in_ok-functions.ensures.rooms) (c.deref-4.ensures.value ∙ c.in_ok-blocks.ensures.rooms)
    (c.in_ok-rooms.ensures ∙ ap (λ ns. map (λ k. get_or c.deref-3.result.now k no_room) ns ++ map (λ k. get_or c.deref-4.result.now k no_room) ns) c.order-order.ensures.order)
