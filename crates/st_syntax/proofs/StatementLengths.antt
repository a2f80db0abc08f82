-- The tokens of statements are at least as many as their length says.
use Rattle.std.proofs.Common.{rules, ◌≡◌, ◌+◌, ◌≤◌, List, ◌∷◌, length, map, Option, arith}
use Rattle.st_tree.specs.declared.tree.statement.CaseStatement as the_case
use Rattle.st_tree.specs.declared.tree.statement.IfStatement as the_if
use Rattle.st_parser.specs.Grammar.Lists.{IsMany, none, more, IsNext, comma, IsListed, listed}
use Rattle.st_parser.specs.Grammar.Tokens.{Tok, identifier_of}
use Rattle.st_parser.specs.Names.{CaseElement, ConditionalPart, Expression, Label, Position, Statement}
use Rattle.st_syntax.specs.Grammar.Statements.{case_of, case_statement_of, for_of, if_of, part_of, repeat_of, while_of, IsLabel, value, range, IsBy, no_by, by_step, IsStatements, no_statement, statements, IsStatement, empty, assignment, invocation, return_statement, exit_statement, if_statement, case_statement, for_statement, while_statement, repeat_statement, IsConditional, conditional, IsElsifs, no_elsif, elsifs, IsElse, no_else, otherwise, IsCase, case, IsCases, no_case, cases}
use Rattle.st_syntax.proofs.Folds.{assignment_is, branch_is, case_statement_is, element_is, empty_is, exit_is, for_is, for_statement_is, if_statement_is, invocation_is, repeat_is, repeat_statement_is, return_is, while_is, while_statement_is}
use Rattle.st_syntax.specs.Lengths.{branch_length, case_length, element_length, expression_length, if_length, statement_length, statements_length, step_length, total}
use Rattle.st_syntax.proofs.ExpressionLengths.{binary_takes, call_takes, constant_takes, variable_takes}

label_takes : {ts rest : List Tok} {x : Label} → IsLabel ts x rest → length rest ≤ length ts
label_takes (value d) = omega (arith, constant_takes d)
label_takes (range d e) = omega (arith, constant_takes d, constant_takes e)

next_labels_take : {ts rest : List Tok} {xs : List Label} → IsMany (IsNext IsLabel) ts xs rest → length rest ≤ length ts
next_labels_take none = omega arith
next_labels_take (more (comma d) e) = omega (arith, label_takes d, next_labels_take e)

labels_take : {ts rest : List Tok} {xs : List Label} → IsListed IsLabel ts xs rest → length rest ≤ length ts
labels_take (listed d e) = omega (arith, label_takes d, next_labels_take e)

by_takes : {ts rest : List Tok} {x : Option Expression} → IsBy ts x rest → step_length x + length rest ≤ length ts
by_takes no_by = omega arith
by_takes (by_step d) = omega (arith, binary_takes d)

if_of_is : (p : Position) (xs : List ConditionalPart) (ys : List Statement) → if_length (if_of p xs ys) ≡ total (map branch_length xs) + statements_length ys
if_of_is p xs ys = search (rules, the_if.the_lemmas)

case_of_is : (p : Position) (x : Expression) (cs : List CaseElement) (ys : List Statement)
    → case_length (case_statement_of p x cs ys) ≡ expression_length x + (total (map element_length cs) + statements_length ys)
case_of_is p x cs ys = search (rules, the_case.the_lemmas)

mutual
  pub statements_take : {ts rest : List Tok} {xs : List Statement} → IsStatements ts xs rest → statements_length xs + length rest ≤ length ts
  statements_take no_statement = omega arith
  statements_take (statements d e) = omega (arith, statement_takes d, statements_take e)

  statement_takes : {ts rest : List Tok} {x : Statement} → IsStatement ts x rest → statement_length x + length rest ≤ length ts
  statement_takes (empty {p = p}) = omega (arith, empty_is p)
  statement_takes (assignment {v = v} {x = x} d e) = omega (arith, assignment_is v x, variable_takes d, binary_takes e)
  statement_takes (invocation {x = x} d) = omega (arith, invocation_is x, call_takes d)
  statement_takes (return_statement {p = p}) = omega (arith, return_is p)
  statement_takes (exit_statement {p = p}) = omega (arith, exit_is p)
  statement_takes (if_statement {p = p} {x = x} {xs = xs} {ys = ys} d e f) =
      let s = if_of p (x ∷ xs) ys in omega (arith, if_statement_is s, if_of_is p (x ∷ xs) ys, conditional_takes d, elsifs_take e, else_takes f)
  statement_takes (case_statement {p = p} {x = x} {c = c} {cs = cs} {ys = ys} d e f g) =
      let s = case_statement_of p x (c ∷ cs) ys in omega (arith, case_statement_is s, case_of_is p x (c ∷ cs) ys, binary_takes d, case_takes e, cases_take f, else_takes g)
  statement_takes (for_statement {p = p} {q = q} {n = n} {a = a} {b = b} {c = c} {ss = ss} d e f g) =
      let s = for_of p (identifier_of q n) a b c ss in omega (arith, for_statement_is s, for_is s, binary_takes d, binary_takes e, by_takes f, statements_take g)
  statement_takes (while_statement {p = p} {x = x} {ss = ss} d e) =
      let s = while_of p x ss in omega (arith, while_statement_is s, while_is s, binary_takes d, statements_take e)
  statement_takes (repeat_statement {p = p} {x = x} {ss = ss} d e) =
      let s = repeat_of p ss x in omega (arith, repeat_statement_is s, repeat_is s, statements_take d, binary_takes e)

  conditional_takes : {ts rest : List Tok} {x : ConditionalPart} → IsConditional ts x rest → branch_length x + length rest ≤ length ts
  conditional_takes (conditional {x = x} {ss = ss} d e) = omega (arith, branch_is (part_of x ss), binary_takes d, statements_take e)

  elsifs_take : {ts rest : List Tok} {xs : List ConditionalPart} → IsElsifs ts xs rest → total (map branch_length xs) + length rest ≤ length ts
  elsifs_take no_elsif = omega arith
  elsifs_take (elsifs d e) = omega (arith, conditional_takes d, elsifs_take e)

  else_takes : {ts rest : List Tok} {xs : List Statement} → IsElse ts xs rest → statements_length xs + length rest ≤ length ts
  else_takes no_else = omega arith
  else_takes (otherwise d) = omega (arith, statements_take d)

  case_takes : {ts rest : List Tok} {x : CaseElement} → IsCase ts x rest → element_length x + length rest ≤ length ts
  case_takes (case {ls = ls} {ss = ss} d e) = omega (arith, element_is (case_of ls ss), labels_take d, statements_take e)

  cases_take : {ts rest : List Tok} {xs : List CaseElement} → IsCases ts xs rest → total (map element_length xs) + length rest ≤ length ts
  cases_take no_case = omega arith
  cases_take (cases d e) = omega (arith, case_takes d, cases_take e)
