use Rattle.std.proofs.Common.{◌≡◌, ◌∙◌, ◌+◌, rules, ◌≤◌, ap, arith, length}
use Rattle.std.specs.Prelude.{slice_index_or}
use Rattle.st_compile.proofs.LevelLemmas.{level_limit}
use Rattle.st_check.specs.Programs.{order_of, text_of}
use Rattle.st_types.specs.Inside.{named_by}
use Rattle.st_types.specs.Names.{units_of}
use Rattle.st_compile.specs.Programs.{block_level, block_room, block_view, program_blocks}
use Rattle.st_compile.proofs.Coded.{block_code_at, bounds_at, read_at, read_number}
use Rattle.st_compile.proofs.Functioned.{block_made, block_room_made}
use Rattle.st_compile.proofs.Listed.{view_pushed, views_done}
use Rattle.st_compile.proofs.units.blocks_of.Goals as goal

pub block_of-requires : goal.block_of-requires
block_of-requires c =
    let found = read_at c.args.program.now c.args.units.now c.requires.units c.units.number c.index-units-number.result c.units-test.true c.index-units-number.is in
    record { bounds = bounds_at c.args.program.now c.args.tables.now c.requires.tables c.units.number (named_by c.index-units-number.result) found c.units_are_sound.ensures c.order-first.ensures.checked }

pub overflow_add-first : goal.overflow_add-first
overflow_add-first c =
    let same = ap length c.order-first.ensures.order in
    let level : slice_index_or c.args.levels.now c.units.number 0 ≤ length c.order-first.result.now = omega (arith, c.requires.places c.units.number c.units-test.true, level_limit (order_of c.args.program.now) c.units.number, same) in
    search (rules, level)

pub units-preserved : goal.units-preserved
units-preserved c =
    let found = read_at c.args.program.now c.args.units.now c.requires.units c.units.number c.index-units-number.result c.units-test.true c.index-units-number.is in
    let units = units_of (text_of c.args.program.now) in
    let order = order_of c.args.program.now in
    let u = named_by c.index-units-number.result in
    let code = c.in_ok-body.ensures.code ∙ block_code_at c.args.program.now c.args.tables.now c.requires.tables c.units.number u found in
    let same = ap length c.order-first.ensures.order in
    let level : length c.order-first.result.now + slice_index_or c.args.levels.now c.units.number 0 ≡ block_level order c.units.number = omega (arith, same, c.requires.places c.units.number c.units-test.true) in
    record {
      codes =
          view_pushed units c.units.number u found (block_view units order) c.units.blocks.items c.push.new.self.items c.new.result c.in_ok-push.ensures.items c.units.invariant.codes
          (block_made units c.units.number u order c.new.result c.in_ok-code.code (length c.order-first.result.now + slice_index_or c.args.levels.now c.units.number 0) c.new.ensures (c.in_ok-code.ensures ∙ code) level);
      given =
          view_pushed units c.units.number u found (block_room units) c.units.rooms.items c.push-in-units.new.self.items _ c.in_ok-push-2.ensures.items c.units.invariant.given
          (block_room_made units c.units.number u c.in_ok-body.body.depth c.args.inputs c.in_ok-body.body.code c.requires.inputs code c.in_ok-body.ensures.depth);
    }

pub returns-clause-blocks : goal.returns-clause-blocks
unfolding program_blocks
returns-clause-blocks c =
    let units = units_of (text_of c.args.program.now) in
    views_done (block_view units (order_of c.args.program.now)) units c.units.blocks.items c.units.number (omega (arith, c.units-test.false, read_number c.args.program.now c.args.units.now c.requires.units)) c.units.invariant.codes

pub returns-clause-rooms : goal.returns-clause-rooms
returns-clause-rooms c =
    let units = units_of (text_of c.args.program.now) in
    views_done (block_room units) units c.units.rooms.items c.units.number (omega (arith, c.units-test.false, read_number c.args.program.now c.args.units.now c.requires.units)) c.units.invariant.given
