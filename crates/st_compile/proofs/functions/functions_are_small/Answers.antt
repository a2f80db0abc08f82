use Rattle.std.proofs.Common.{◌∙◌, ap, arith, sym, take_all}
use Rattle.std.specs.List.{list_all}
use Rattle.st_check.specs.Programs.{text_of}
use Rattle.st_types.specs.Inside.{named_by}
use Rattle.st_types.specs.Names.{units_of}
use Rattle.st_compile.specs.Small.{function_is_small, functions_are_small}
use Rattle.st_compile.proofs.Coded.{function_small_at, read_at, read_number}
use Rattle.st_compile.proofs.Listed.{all_fails, all_pushed}
use Rattle.st_compile.proofs.functions.functions_are_small.Goals as goal

pub returns-then-not-function_is_small : goal.returns-then-not-function_is_small
unfolding functions_are_small
returns-then-not-function_is_small c =
    let units = units_of (text_of c.args.program.now) in
    let u = named_by c.index-units-number.result in
    let found = read_at c.args.program.now c.args.units.now c.requires.units c.units.number c.index-units-number.result c.units-test.true c.index-units-number.is in
    sym (all_fails (function_is_small units) units c.units.number u found
    (sym (function_small_at c.args.program.now c.args.tables.now c.requires.tables c.units.number u found) ∙ sym c.function_is_small.ensures ∙ c.if-not-function_is_small.true))

pub units-preserved : goal.units-preserved
units-preserved c =
    let units = units_of (text_of c.args.program.now) in
    let u = named_by c.index-units-number.result in
    let found = read_at c.args.program.now c.args.units.now c.requires.units c.units.number c.index-units-number.result c.units-test.true c.index-units-number.is in
    all_pushed units c.units.number u found (function_is_small units) c.units.invariant
    (sym (function_small_at c.args.program.now c.args.tables.now c.requires.tables c.units.number u found) ∙ sym c.function_is_small.ensures ∙ c.if-not-function_is_small.false)

pub returns : goal.returns
unfolding functions_are_small
returns c =
    let units = units_of (text_of c.args.program.now) in
    sym c.units.invariant ∙ ap (list_all (function_is_small units)) (take_all c.units.number units (omega (arith, c.units-test.false, read_number c.args.program.now c.args.units.now c.requires.units)))
