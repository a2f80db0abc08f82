use Rattle.std.proofs.Common.{◌++◌, ◌∙◌, ap, arith, length, sym}
use Rattle.st_check.specs.Programs.{order_of, text_of}
use Rattle.st_types.specs.Inside.{named_by}
use Rattle.st_types.specs.Names.{units_of}
use Rattle.st_compile.proofs.Coded.{begins_at, code_at, is_function_where, small_function_at, small_function_where, taken_at}
use Rattle.st_compile.proofs.Functioned.{no_room_made, none_made, room_made, view_made}
use Rattle.st_compile.proofs.functions.function_of.Goals as goal

pub returns-then-not-is_small_function-clause-function : goal.returns-then-not-is_small_function-clause-function
returns-then-not-is_small_function-clause-function c =
    none_made (units_of (text_of c.args.program.now)) (order_of c.args.program.now) c.args.number (named_by c.args.unit.now)
    (sym (small_function_at c.args.program.now c.args.tables.now c.requires.tables c.args.number (named_by c.args.unit.now) c.requires.found) ∙ sym c.is_small_function.ensures ∙ c.if-not-is_small_function.true)
    c.nothing.result.function _ c.nothing.ensures.function (let same = ap length c.order.ensures.order in omega (arith, same))

pub returns-then-not-is_small_function-clause-room : goal.returns-then-not-is_small_function-clause-room
returns-then-not-is_small_function-clause-room c =
    no_room_made (units_of (text_of c.args.program.now)) c.args.number (named_by c.args.unit.now)
    (sym (small_function_at c.args.program.now c.args.tables.now c.requires.tables c.args.number (named_by c.args.unit.now) c.requires.found) ∙ sym c.is_small_function.ensures ∙ c.if-not-is_small_function.true)
    c.nothing.result.room c.nothing.ensures.room

pub body_of-requires : goal.body_of-requires
body_of-requires c = record {
  small = small_function_where c.args.tables.now c.args.number c.requires.bounds
      (c.requires.arrays (is_function_where c.args.program.now c.args.tables.now c.requires.tables c.args.number (named_by c.args.unit.now) c.requires.found
      (sym c.is_small_function.ensures ∙ c.if-not-is_small_function.false)))
      (sym c.is_small_function.ensures ∙ c.if-not-is_small_function.false);
}

pub returns-clause-function : goal.returns-clause-function
returns-clause-function c =
    view_made (units_of (text_of c.args.program.now)) (order_of c.args.program.now) c.args.number (named_by c.args.unit.now)
    (sym (small_function_at c.args.program.now c.args.tables.now c.requires.tables c.args.number (named_by c.args.unit.now) c.requires.found) ∙ sym c.is_small_function.ensures ∙ c.if-not-is_small_function.false)
    c.new-function.result _ _ _ _ c.new-function.ensures
    (c.in_ok-body.ensures.code ∙ code_at c.args.program.now c.args.tables.now c.requires.tables c.args.number (named_by c.args.unit.now) c.requires.found)
    c.requires.level
    (c.in_ok-taken.ensures ∙ taken_at c.args.program.now c.args.tables.now c.requires.tables c.args.number (named_by c.args.unit.now) c.requires.found)
    (c.in_ok-extend_from_slice.ensures.items ∙ ap (λ xs. xs ++ c.starts-begins.result.now) c.new-starts.ensures.items ∙ c.starts-begins.ensures
    ∙ begins_at c.args.program.now c.args.tables.now c.requires.tables c.args.number (named_by c.args.unit.now) c.requires.found)

pub returns-clause-room : goal.returns-clause-room
returns-clause-room c =
    let u = named_by c.args.unit.now in
    let code = c.in_ok-body.ensures.code ∙ code_at c.args.program.now c.args.tables.now c.requires.tables c.args.number u c.requires.found in
    room_made (units_of (text_of c.args.program.now)) c.args.number u
    (sym (small_function_at c.args.program.now c.args.tables.now c.requires.tables c.args.number u c.requires.found) ∙ sym c.is_small_function.ensures ∙ c.if-not-is_small_function.false)
    c.in_ok-body.body.depth (length c.starts-begins.result.now) c.args.inputs c.in_ok-body.body.code c.requires.inputs code c.in_ok-body.ensures.depth
    (ap length (c.starts-begins.ensures ∙ begins_at c.args.program.now c.args.tables.now c.requires.tables c.args.number u c.requires.found))
