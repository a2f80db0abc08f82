use Rattle.std.proofs.Common.{sym, subst}
use Rattle.std.specs.String.{string_bytes}
use Rattle.st_explain.specs.Messages.{TellsFault, TellsFaults, TellsFrom, TellsNoProgram, TellsUnits, nothing, fault, no_program}
use Rattle.st_explain.proofs.Telling.{finds_in, from_alone, from_faults, in_ok, later_in}
use Rattle.st_explain.proofs.explain.explain_units.Goals as goal

pub returns-in-Nothing : goal.returns-in-Nothing
returns-in-Nothing c =
    let w = finds_in c.in_ok-tables.tables c.args.units.now c.args.main.now c.in_ok-first_finding.field-0 _ c.in_ok-tables.ensures c.in-Nothing.is c.in_ok-first_finding.ensures in
    subst (TellsUnits (TellsFrom c.args.most c.args.file.now c.args.text.now c.args.units.now) c.args.file.now c.args.units.now c.args.main.now)
    (sym c.new-in-Nothing.ensures.bytes) (nothing w.1)

pub returns-in-NoProgram : goal.returns-in-NoProgram
returns-in-NoProgram c =
    let w = finds_in c.in_ok-tables.tables c.args.units.now c.args.main.now c.in_ok-first_finding.field-0 _ c.in_ok-tables.ensures c.in-NoProgram.is c.in_ok-first_finding.ensures in
    in_ok c.no_program_message.result (λ m. TellsNoProgram c.args.file.now (string_bytes m))
    (λ m. TellsUnits (TellsFrom c.args.most c.args.file.now c.args.text.now c.args.units.now) c.args.file.now c.args.units.now c.args.main.now (string_bytes m))
    c.no_program_message.ensures (λ m t. no_program w t)

pub returns-in-TooLarge : goal.returns-in-TooLarge
returns-in-TooLarge c =
    let w = finds_in c.in_ok-tables.tables c.args.units.now c.args.main.now c.in_ok-first_finding.field-0 _ c.in_ok-tables.ensures c.in-TooLarge.is c.in_ok-first_finding.ensures in
    in_ok c.size_message.result (λ m. TellsFault c.args.file.now c.args.text.now c.in-TooLarge.fault (string_bytes m))
    (λ m. TellsUnits (TellsFrom c.args.most c.args.file.now c.args.text.now c.args.units.now) c.args.file.now c.args.units.now c.args.main.now (string_bytes m))
    (c.size_message.ensures c.requires.text.tokens c.requires.text.has)
    (λ m t. fault w.0 (from_alone c.args.most c.args.file.now c.args.text.now c.args.units.now c.in-TooLarge.fault (string_bytes m) c.requires.most w.1 t))

pub returns : goal.returns
returns c =
    let w = finds_in c.in_ok-tables.tables c.args.units.now c.args.main.now c.in_ok-first_finding.field-0 _ c.in_ok-tables.ensures c.in-Fault.is c.in_ok-first_finding.ensures in
    in_ok c.faults_message.result (λ m. TellsFaults c.args.file.now c.args.text.now c.deref.result.now (string_bytes m))
    (λ m. TellsUnits (TellsFrom c.args.most c.args.file.now c.args.text.now c.args.units.now) c.args.file.now c.args.units.now c.args.main.now (string_bytes m))
    (c.faults_message.ensures c.requires.text.tokens c.requires.text.has)
    (λ m t. fault w (from_faults c.args.most c.args.file.now c.args.text.now c.args.units.now c.in-Fault.first c.in_ok-faults-in-Fault.faults.items (string_bytes m)
    (later_in c.in_ok-tables.tables c.args.units.now c.args.most c.in-Fault.first c.in_ok-faults-in-Fault.faults.items c.in_ok-tables.ensures c.in_ok-faults-in-Fault.ensures)
    (subst (λ fs. TellsFaults c.args.file.now c.args.text.now fs (string_bytes m)) c.deref.ensures.value t)))
