use Rattle.std.proofs.Common.{arith}
use Rattle.st_check.specs.Programs.{order_of, text_of}
use Rattle.st_types.specs.Inside.{named_by}
use Rattle.st_types.specs.Names.{units_of}
use Rattle.st_compile.specs.Programs.{function_room, function_view, program_functions}
use Rattle.st_compile.proofs.Coded.{arrays_at, bounds_at, read_at, read_number}
use Rattle.st_compile.proofs.Listed.{view_pushed, views_done}
use Rattle.st_compile.proofs.units.functions_of.Goals as goal

pub function_of-requires-clause-found : goal.function_of-requires-clause-found
function_of-requires-clause-found c = read_at c.args.program.now c.args.units.now c.requires.units c.units.number c.index-units-number.result c.units-test.true c.index-units-number.is

pub function_of-requires-clause-bounds : goal.function_of-requires-clause-bounds
function_of-requires-clause-bounds c =
    let found = read_at c.args.program.now c.args.units.now c.requires.units c.units.number c.index-units-number.result c.units-test.true c.index-units-number.is in
    bounds_at c.args.program.now c.args.tables.now c.requires.tables c.units.number (named_by c.index-units-number.result) found c.units_are_sound.ensures c.units-checked.ensures.checked

pub function_of-requires-clause-arrays : goal.function_of-requires-clause-arrays
function_of-requires-clause-arrays c =
    let found = read_at c.args.program.now c.args.units.now c.requires.units c.units.number c.index-units-number.result c.units-test.true c.index-units-number.is in
    arrays_at c.args.program.now c.args.tables.now c.requires.tables c.units.number (named_by c.index-units-number.result) found c.units_are_sound.ensures c.units-checked.ensures.checked

pub units-preserved : goal.units-preserved
units-preserved c =
    let found = read_at c.args.program.now c.args.units.now c.requires.units c.units.number c.index-units-number.result c.units-test.true c.index-units-number.is in
    let units = units_of (text_of c.args.program.now) in
    let u = named_by c.index-units-number.result in
    record {
      codes =
          view_pushed units c.units.number u found (function_view units (order_of c.args.program.now)) c.units.functions.items c.push.new.self.items c.in_ok-made.made.function c.in_ok-push.ensures.items
          c.units.invariant.codes c.in_ok-made.ensures.function;
      given =
          view_pushed units c.units.number u found (function_room units) c.units.rooms.items c.push-in-units.new.self.items c.in_ok-made.made.room c.in_ok-push-2.ensures.items
          c.units.invariant.given c.in_ok-made.ensures.room;
    }

pub returns-clause-functions : goal.returns-clause-functions
unfolding program_functions
returns-clause-functions c =
    let units = units_of (text_of c.args.program.now) in
    views_done (function_view units (order_of c.args.program.now)) units c.units.functions.items c.units.number (omega (arith, c.units-test.false, read_number c.args.program.now c.args.units.now c.requires.units)) c.units.invariant.codes

pub returns-clause-rooms : goal.returns-clause-rooms
returns-clause-rooms c =
    let units = units_of (text_of c.args.program.now) in
    views_done (function_room units) units c.units.rooms.items c.units.number (omega (arith, c.units-test.false, read_number c.args.program.now c.args.units.now c.requires.units)) c.units.invariant.given
