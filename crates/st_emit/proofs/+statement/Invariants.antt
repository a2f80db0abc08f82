use Rattle.std.proofs.Common.{◌≡◌, ◌≤◌, ◌++◌, ◌-◌, drop, length, reverse}
use Rattle.st_tree.specs.declared.tree.statement.CaseStatement.{out-CaseStatement}
use Rattle.st_tree.specs.declared.tree.statement.IfStatement.{out-IfStatement}
use Rattle.st_meaning.specs.Typing.{body_of}
use Rattle.st_code.specs.Code.{branches_code, cases_code, commands_code, plain}
use Rattle.st_code.specs.declared.instr.Instr.TheVariants.{Drop}
use Rattle.st_emit.specs.Statements.{branches_in, cases_in}
use Rattle.st_emit_expressions.specs.Trees.{whole_of}
use Rattle.st_emit.proofs.+statement.Given as goal

-- the code of the statements from this one on
abbrev pub invariant-statements::emit_statements-loop-i : goal.invariant-statements::emit_statements-loop-i
invariant-statements::emit_statements-loop-i l =
    let w = whole_of l.scope in
    let n = length l.fn.code in
    record { few : l.i ≤ length l.statements; code : l.code ≡ l.fn.code ++ reverse (commands_code w.variables (body_of w (drop l.i l.statements)) (n - l.out) (n - l.end)) }

abbrev pub decreases-statements::emit_statements-loop-i : goal.decreases-statements::emit_statements-loop-i
decreases-statements::emit_statements-loop-i l = l.i

-- the code of the branches from this one on
abbrev pub invariant-statements::emit_if-loop-i : goal.invariant-statements::emit_if-loop-i
invariant-statements::emit_if-loop-i l =
    let w = whole_of l.scope in
    let n = length l.fn.code in
    let others = commands_code w.variables (body_of w (out-IfStatement l.statement).otherwise) (n - l.out) (n - l.end) in
    record { few : l.i ≤ length l.parts; code : l.code ≡ l.fn.code ++ reverse (branches_code w.variables (branches_in w (drop l.i l.parts)) others (n - l.out) (n - l.end)) }

abbrev pub decreases-statements::emit_if-loop-i : goal.decreases-statements::emit_if-loop-i
decreases-statements::emit_if-loop-i l = l.i

-- the code of the cases from this one on
abbrev pub invariant-cases::emit_case-loop-i : goal.invariant-cases::emit_case-loop-i
invariant-cases::emit_case-loop-i l =
    let w = whole_of l.scope in
    let n = length l.fn.code in
    let others = plain Drop ++ commands_code w.variables (body_of w (out-CaseStatement l.statement).otherwise) (n - l.out) (n - l.end) in
    record { few : l.i ≤ length l.cases; code : l.code ≡ l.fn.code ++ reverse (cases_code w.variables l.elem (cases_in w l.elem (drop l.i l.cases)) others (n - l.out) (n - l.end)) }

abbrev pub decreases-cases::emit_case-loop-i : goal.decreases-cases::emit_case-loop-i
decreases-cases::emit_case-loop-i l = l.i
