use Rattle.std.proofs.Common.{◌<◌, ◌∙◌, ap, arith, length, sym}
use Rattle.std.proofs.lemmas.List.{length-map}
use Rattle.std.specs.Option.{option_copied}
use Rattle.st_check.specs.Programs.{text_of}
use Rattle.st_meaning.specs.Units.{function_at}
use Rattle.st_meaning.specs.Wholes.{Input}
use Rattle.st_types.specs.Names.{units_of}
use Rattle.st_compile.proofs.Coded.{read_number, unit_below}
use Rattle.st_compile.proofs.Taken.{most_done, most_none, most_some}
use Rattle.st_compile.proofs.functions.most_taken.Goals as goal
use Rattle.st_compile.proofs.functions.most_taken.Goals.{in-Some, in_default}

pub units-preserved : goal.units-preserved
units-preserved c =
    let units = units_of (text_of c.args.program.now) in
    let less : c.units.number < length units = omega (arith, c.units-test.true, read_number c.args.program.now c.args.units.now c.requires.units) in
    let there = unit_below units c.units.number less in
    let known = ap (λ t. function_at (units_of t) c.units.number) (sym c.requires.tables) ∙ sym c.function_at.ensures in
    elim c.match-function_at.branch [
      | in-Some w ↦
          let many = ap length w.initials.ensures ∙ length-map w.in-Some.function.now.inputs (λ (i : Input). i.initial) in
          most_some units c.units.number there.0 there.1 c.units.most c.units.invariant w.in-Some.function.now c.match-function_at.most (known ∙ ap option_copied w.in-Some.is)
          (omega (arith, w.most-is, w.max-most.ensures, many))
      | in_default w ↦ w.most-is ∙ most_none units c.units.number there.0 there.1 c.units.most c.units.invariant (known ∙ ap option_copied w.in_default.is)
    ]

pub returns : goal.returns
returns c =
    most_done (units_of (text_of c.args.program.now)) c.units.number c.units.most (omega (arith, c.units-test.false, read_number c.args.program.now c.args.units.now c.requires.units)) c.units.invariant
