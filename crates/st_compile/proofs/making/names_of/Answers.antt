use Rattle.std.proofs.Common.{◌≡◌, ◌≤◌, ◌∙◌, arith, length, subst, sym}
use Rattle.std.specs.Option.{IfSome}
use Rattle.st_check.proofs.Small.{name_is_short}
use Rattle.st_check.specs.Programs.{text_of}
use Rattle.st_types.specs.Inside.{named_by}
use Rattle.st_types.specs.Names.{Named, units_of}
use Rattle.st_compile.proofs.Coded.{read_at, read_number}
use Rattle.st_compile.proofs.Listed.{item_pushed, names_done}
use Rattle.st_compile.proofs.making.names_of.Goals as goal

pub unwrap-requires : goal.unwrap-requires
unwrap-requires c =
    let found = read_at c.args.program.now c.args.units.now c.requires c.units.unit-index c.unit-item.result c.units-test.true c.unit-item.is in
    c.of.ensures.short.1
    (subst (λ name. length name ≤ 128) (sym c.as_slice.ensures) (name_is_short (units_of (text_of c.args.program.now)) c.units.unit-index (named_by c.unit-item.result) c.units-checked.ensures.checked.faultless found))

pub units-preserved : goal.units-preserved
units-preserved c =
    let found = read_at c.args.program.now c.args.units.now c.requires c.units.unit-index c.unit-item.result c.units-test.true c.unit-item.is in
    item_pushed (units_of (text_of c.args.program.now)) c.units.unit-index (named_by c.unit-item.result) found (λ (u : Named). u.name.spelling) c.units.names.items c.push.new.self.items c.unwrap.result
    c.in_ok-push.ensures.items c.units.invariant (subst (λ o. IfSome o (λ name. name ≡ c.as_slice.result.now)) c.unwrap.ensures c.of.ensures.name ∙ c.as_slice.ensures)

pub returns : goal.returns
returns c = names_done c.args.program.now c.units.names.items c.units.unit-index (omega (arith, c.units-test.false, read_number c.args.program.now c.args.units.now c.requires)) c.units.invariant
