use Rattle.std.proofs.Common.{rules, sym, ◌∙◌}
use Rattle.std.proofs.lemmas.Result.{err_from_is_err_and}
use Rattle.st_types.specs.Inside.{named_by}
use Rattle.st_check.specs.Answers.{memory}
use Rattle.st_check.proofs.Checked.{explains, is_missing, is_large, is_program_of, is_accepted}
use Rattle.st_check.proofs.checks.checked.Goals as goal

pub returns-in_err-tables-clause-fault : goal.returns-in_err-tables-clause-fault
returns-in_err-tables-clause-fault c = let p = err_from_is_err_and c.from_residual.result c.from_residual.ensures.1 in rw (p.1, p.2) memory

pub returns-in_err-order-clause-fault : goal.returns-in_err-order-clause-fault
returns-in_err-order-clause-fault c =
    let p = err_from_is_err_and c.from_residual-in_err-order.result c.from_residual-in_err-order.ensures.1 in
    rw (p.1, p.2) (explains c.args.text.now c.in_ok-tables.tables c.args.main.now _ c.in_ok-tables.ensures c.in_err-order.ensures.fault)

pub returns-in_default-clause-fault : goal.returns-in_default-clause-fault
returns-in_default-clause-fault c =
    is_missing c.args.text.now c.in_ok-tables.tables c.args.main.now c.in_ok-order.order.items c.in_ok-tables.ensures c.in_ok-order.ensures.order
    (sym c.program_named.ensures ∙ search rules)

pub returns-in_err-is_too_large-clause-fault : goal.returns-in_err-is_too_large-clause-fault
returns-in_err-is_too_large-clause-fault c =
    let p = err_from_is_err_and c.from_residual-in_err-is_too_large.result c.from_residual-in_err-is_too_large.ensures.1 in rw (p.1, p.2) memory

pub returns-then-branch-clause-fault : goal.returns-then-branch-clause-fault
returns-then-branch-clause-fault c =
    is_large c.args.text.now c.in_ok-tables.tables c.args.main.now c.in_ok-order.order.items c.in_ok-tables.ensures c.in_ok-order.ensures.order
    c.in-Some.number (sym c.program_named.ensures ∙ c.in-Some.is) (named_by c.unit.result) c.of.result c.unit.ensures
    (sym (c.in_ok-is_too_large.ensures (named_by c.unit.result) (sym c.unit.ensures)) ∙ c.if-branch.true) c.of.ensures

pub returns-clause-program : goal.returns-clause-program
returns-clause-program c =
    is_program_of c.args.text.now c.in_ok-tables.tables c.args.main.now c.in_ok-order.order.items c.in_ok-tables.ensures c.in_ok-order.ensures.order
    c.in-Some.number (sym c.program_named.ensures ∙ c.in-Some.is) (λ u found. sym (c.in_ok-is_too_large.ensures u found) ∙ c.if-branch.false)

pub returns-clause-accepted : goal.returns-clause-accepted
returns-clause-accepted c =
    is_accepted c.args.text.now c.in_ok-tables.tables c.args.main.now c.in_ok-order.order.items c.in_ok-tables.ensures c.in_ok-order.ensures.order
    c.in-Some.number (sym c.program_named.ensures ∙ c.in-Some.is) (λ u found. sym (c.in_ok-is_too_large.ensures u found) ∙ c.if-branch.false)
