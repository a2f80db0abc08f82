-- The code of statements, made from its last instruction to the first.
use Rattle.std.proofs.Common.{◌≡◌, ℕ, suc, ◌+◌, ◌-◌, ◌<◌, ◌≤◌, Bool, List, [], ◌∷◌, ◌++◌, length, drop, get_or, reverse, sym, ap, ◌∙◌, rules, arith, append_assoc, drop-cons}
use Rattle.std.specs.Prelude.{slice_set}
use Rattle.std.proofs.Math.Seq.{set-append_seam}
use Rattle.std.proofs.lemmas.List.{reverse-append}
use Rattle.st_values.specs.declared.elem.Elem.{Elem}
use Rattle.st_tree.specs.declared.tree.statement.CaseElement.{CaseElement, out-CaseElement, the_lemmas}
use Rattle.st_tree.specs.declared.tree.statement.CaseStatement.{CaseStatement}
use Rattle.st_tree.specs.declared.tree.statement.ConditionalPart.{ConditionalPart, out-ConditionalPart}
use Rattle.st_tree.specs.declared.tree.statement.RepeatStatement.{RepeatStatement}
use Rattle.st_tree.specs.declared.tree.statement.Statement.{Statement}
use Rattle.st_tree.specs.declared.tree.statement.Statement.TheVariants as statements
use Rattle.st_tree.specs.declared.tree.statement.WhileStatement.{WhileStatement}
use Rattle.st_meaning.specs.Terms.{Branches, Cases, more_branches, more_cases, more_commands}
use Rattle.st_meaning.specs.Typing.{body_of, branch_of, case_of, command_of, condition}
use Rattle.st_meaning.specs.Wholes.{Whole}
use Rattle.st_code.specs.Code.{Line, at, plain, branches_code, case_test, cases_code, command_code, commands_code, count_code, term_code}
use Rattle.st_code.specs.declared.instr.Instr.TheVariants.{Begin, Drop, GoBack, Leave, Next, Step, Test}
use Rattle.st_emit_expressions.proofs.Before.{before_code, grown}
use Rattle.st_emit.specs.Statements.{branches_in, case_code, case_in, cases_in, element_labels, front_code, part_code, repeat_in, skip_instr, turns_code, while_in}

-- ---- the folds at each variant

case_is : (w : Whole) (s : CaseStatement) → command_of w (statements.Case s) ≡ case_in w s
case_is w s = search (rules, the_lemmas)

while_is : (w : Whole) (s : WhileStatement) → command_of w (statements.While s) ≡ while_in w s
while_is w s = search (rules, the_lemmas)

repeat_is : (w : Whole) (s : RepeatStatement) → command_of w (statements.Repeat s) ≡ repeat_in w s
repeat_is w s = search (rules, the_lemmas)

branch_is : (w : Whole) (b : ConditionalPart) (rest : Branches) → branch_of w b rest ≡ more_branches (condition w (out-ConditionalPart b).condition) (body_of w (out-ConditionalPart b).statements) rest
branch_is w b rest = search (rules, the_lemmas)

element_is : (w : Whole) (e : Elem) (x : CaseElement) (rest : Cases) → case_of w x e rest ≡ more_cases (element_labels e x) (body_of w (out-CaseElement x).statements) rest
element_is w e x rest = search (rules, the_lemmas)

-- ---- lists of instructions

set_last : (base big : List Line) (x y : Line) → slice_set (base ++ reverse (big ++ x ∷ [])) (length base) y ≡ base ++ reverse (big ++ y ∷ [])
set_last base big x y =
    ap (λ r. slice_set (base ++ r) (length base) y) (reverse-append big (x ∷ [])) ∙ set-append_seam base x (reverse big) y ∙ ap (λ r. base ++ r) (sym (reverse-append big (y ∷ [])))

-- ---- one more in a list

pub statement_step : (w : Whole) (xs : List Statement) (i j : ℕ) (x : Statement) (base code new : List Line) (o l : ℕ) → j + 1 ≡ i → i ≤ length xs → x ≡ get_or xs j x → o ≤ length base → l ≤ length base
    → code ≡ base ++ reverse (commands_code w.variables (body_of w (drop i xs)) (length base - o) (length base - l))
    → new ≡ code ++ reverse (command_code w.variables (command_of w x) (length code - o) (length code - l))
    → new ≡ base ++ reverse (commands_code w.variables (body_of w (drop j xs)) (length base - o) (length base - l))
statement_step w xs i j x base code new o l e le q ho hl h g =
    let lt : j < length xs = omega (arith, e, le) in
    let next : suc j ≡ i = omega (arith, e) in
    let rest = commands_code w.variables (body_of w (drop i xs)) (length base - o) (length base - l) in
    let size : length code ≡ length base + length rest = grown base code rest h in
    let p : length code - o ≡ length rest + (length base - o) = omega (arith, ho, size) in
    let r : length code - l ≡ length rest + (length base - l) = omega (arith, hl, size) in
    let front : body_of w (drop j xs) ≡ more_commands (command_of w x) (body_of w (drop i xs))
    = ap (body_of w) (drop-cons xs j x lt ∙ ap (λ y. y ∷ drop (suc j) xs) (sym q) ∙ ap (λ k. x ∷ drop k xs) next) in
    let moved : command_code w.variables (command_of w x) (length code - o) (length code - l) ≡ command_code w.variables (command_of w x) (length rest + (length base - o)) (length rest + (length base - l))
    = ap (λ k. command_code w.variables (command_of w x) k (length code - l)) p ∙ ap (λ k. command_code w.variables (command_of w x) (length rest + (length base - o)) k) r in
    before_code base code new rest (command_code w.variables (command_of w x) (length rest + (length base - o)) (length rest + (length base - l))) h (g ∙ ap (λ y. code ++ reverse y) moved)
    ∙ ap (λ y. base ++ reverse (commands_code w.variables y (length base - o) (length base - l))) (sym front)

pub branch_step : (w : Whole) (xs : List ConditionalPart) (others : List Line) (i j : ℕ) (x : ConditionalPart) (base code new : List Line) (n o l : ℕ) → j + 1 ≡ i → i ≤ length xs → x ≡ get_or xs j x → o ≤ length base → l ≤ length base
    → code ≡ base ++ reverse (branches_code w.variables (branches_in w (drop i xs)) others (length base - o) (length base - l)) → n ≡ length code - length base
    → new ≡ code ++ reverse (part_code w x n (length code - o) (length code - l))
    → new ≡ base ++ reverse (branches_code w.variables (branches_in w (drop j xs)) others (length base - o) (length base - l))
branch_step w xs others i j x base code new n o l e le q ho hl h m g =
    let lt : j < length xs = omega (arith, e, le) in
    let next : suc j ≡ i = omega (arith, e) in
    let rest = branches_code w.variables (branches_in w (drop i xs)) others (length base - o) (length base - l) in
    let size : length code ≡ length base + length rest = grown base code rest h in
    let k : n ≡ length rest = omega (arith, m, size) in
    let p : 1 + (length code - o) ≡ 1 + length rest + (length base - o) = omega (arith, ho, size) in
    let r : 1 + (length code - l) ≡ 1 + length rest + (length base - l) = omega (arith, hl, size) in
    let front : branches_in w (drop j xs) ≡ more_branches (condition w (out-ConditionalPart x).condition) (body_of w (out-ConditionalPart x).statements) (branches_in w (drop i xs))
    = ap (branches_in w) (drop-cons xs j x lt ∙ ap (λ y. y ∷ drop (suc j) xs) (sym q) ∙ ap (λ k. x ∷ drop k xs) next) ∙ branch_is w x (branches_in w (drop i xs)) in
    let test = term_code w.variables (condition w (out-ConditionalPart x).condition) in
    let body = commands_code w.variables (body_of w (out-ConditionalPart x).statements) (1 + length rest + (length base - o)) (1 + length rest + (length base - l)) in
    let moved =
    ap (λ k. front_code test (commands_code w.variables (body_of w (out-ConditionalPart x).statements) k (1 + (length code - l))) n) p
    ∙ ap (λ k. front_code test (commands_code w.variables (body_of w (out-ConditionalPart x).statements) (1 + length rest + (length base - o)) k) n) r ∙ ap (front_code test body) k in
    before_code base code new rest (front_code test body (length rest)) h (g ∙ ap (λ y. code ++ reverse y) moved)
    ∙ ap (λ y. base ++ reverse (branches_code w.variables y others (length base - o) (length base - l))) (sym front)

pub case_step : (w : Whole) (e : Elem) (xs : List CaseElement) (others : List Line) (i j : ℕ) (x : CaseElement) (base code new : List Line) (n o l : ℕ) → j + 1 ≡ i → i ≤ length xs → x ≡ get_or xs j x → o ≤ length base → l ≤ length base
    → code ≡ base ++ reverse (cases_code w.variables e (cases_in w e (drop i xs)) others (length base - o) (length base - l)) → n ≡ length code - length base
    → new ≡ code ++ reverse (case_code w e x n (length code - o) (length code - l))
    → new ≡ base ++ reverse (cases_code w.variables e (cases_in w e (drop j xs)) others (length base - o) (length base - l))
case_step w t xs others i j x base code new n o l e le q ho hl h m g =
    let lt : j < length xs = omega (arith, e, le) in
    let next : suc j ≡ i = omega (arith, e) in
    let rest = cases_code w.variables t (cases_in w t (drop i xs)) others (length base - o) (length base - l) in
    let size : length code ≡ length base + length rest = grown base code rest h in
    let k : n ≡ length rest = omega (arith, m, size) in
    let p : 1 + (length code - o) ≡ 1 + length rest + (length base - o) = omega (arith, ho, size) in
    let r : 1 + (length code - l) ≡ 1 + length rest + (length base - l) = omega (arith, hl, size) in
    let front : cases_in w t (drop j xs) ≡ more_cases (element_labels t x) (body_of w (out-CaseElement x).statements) (cases_in w t (drop i xs))
    = ap (cases_in w t) (drop-cons xs j x lt ∙ ap (λ y. y ∷ drop (suc j) xs) (sym q) ∙ ap (λ k. x ∷ drop k xs) next) ∙ element_is w t x (cases_in w t (drop i xs)) in
    let test = case_test t (element_labels t x) in
    let body = plain Drop ++ commands_code w.variables (body_of w (out-CaseElement x).statements) (1 + length rest + (length base - o)) (1 + length rest + (length base - l)) in
    let moved =
    ap (λ k. front_code test (plain Drop ++ commands_code w.variables (body_of w (out-CaseElement x).statements) k (1 + (length code - l))) n) p
    ∙ ap (λ k. front_code test (plain Drop ++ commands_code w.variables (body_of w (out-CaseElement x).statements) (1 + length rest + (length base - o)) k) n) r ∙ ap (front_code test body) k in
    before_code base code new rest (front_code test body (length rest)) h (g ∙ ap (λ y. code ++ reverse y) moved)
    ∙ ap (λ y. base ++ reverse (cases_code w.variables t y others (length base - o) (length base - l))) (sym front)

-- ---- loops

pub turns_done : (base c1 c2 c3 c4 c5 test body : List Line) (line d back : ℕ) (until : Bool) → c1 ≡ base ++ at line (GoBack 0) → c2 ≡ c1 ++ reverse body → d ≡ length c2 - length base → c3 ≡ c2 ++ plain (skip_instr until d)
    → c4 ≡ c3 ++ reverse test → back ≡ length c4 - length base - 1 → c5 ≡ slice_set c4 (length base) (record { instr = GoBack back; line = line })
    → c5 ≡ base ++ reverse (turns_code line until test body)
turns_done base c1 c2 c3 c4 c5 test body line d back until e1 e2 h e3 e4 b e5 =
    let l1 : length c1 ≡ length base + 1 = grown base c1 (at line (GoBack 0)) e1 in
    let l2 : length c2 ≡ length c1 + length body = grown c1 c2 body e2 in
    let l3 : length c3 ≡ length c2 + 1 = grown c2 c3 (plain (skip_instr until d)) e3 in
    let l4 : length c4 ≡ length c3 + length test = grown c3 c4 test e4 in
    let size : d ≡ length body + 1 = omega (arith, h, l1, l2) in
    let far : back ≡ length test + 1 + length body = omega (arith, b, l1, l2, l3, l4) in
    let skip = plain (skip_instr until d) in
    let big = test ++ (skip ++ body) in
    let flat : (x : Line) → big ++ x ∷ [] ≡ test ++ (skip ++ (body ++ x ∷ [])) = λ x. append_assoc test (skip ++ body) (x ∷ []) in
    let g : Line = record { instr = GoBack 0; line = line } in
    let s : Line = record { instr = GoBack back; line = line } in
    let f2 = before_code base c1 c2 (at line (GoBack 0)) body e1 e2 in
    let f3 = before_code base c2 c3 (body ++ at line (GoBack 0)) skip f2 e3 in
    let f4 = before_code base c3 c4 (skip ++ (body ++ at line (GoBack 0))) test f3 e4 in
    e5 ∙ ap (λ m. slice_set m (length base) s) (f4 ∙ ap (λ m. base ++ reverse m) (sym (flat g))) ∙ set_last base big g s ∙ ap (λ m. base ++ reverse m) (flat s)
    ∙ ap (λ k. base ++ reverse (test ++ (plain (skip_instr until k) ++ (body ++ at line (GoBack back))))) size
    ∙ ap (λ k. base ++ reverse (test ++ (plain (skip_instr until (length body + 1)) ++ (body ++ at line (GoBack k))))) far

pub count_done : (base c1 c2 c3 c4 c5 c6 c7 body : List Line) (line leaf past k : ℕ) (e : Elem) → c1 ≡ base ++ plain Leave → c2 ≡ c1 ++ at line (Next e leaf 0) → c3 ≡ c2 ++ reverse body → past ≡ length c3 - length c1 → k ≡ past - 1
    → c4 ≡ slice_set c3 (length c1) (record { instr = Next e leaf k; line = line }) → c5 ≡ c4 ++ plain (Test e leaf past) → c6 ≡ c5 ++ at line Step → c7 ≡ c6 ++ plain (Begin e leaf)
    → c7 ≡ base ++ reverse (count_code line e leaf [] body)
count_done base c1 c2 c3 c4 c5 c6 c7 body line leaf past k e e1 e2 e3 h hk e4 e5 e6 e7 =
    let l2 : length c2 ≡ length c1 + 1 = grown c1 c2 (at line (Next e leaf 0)) e2 in
    let l3 : length c3 ≡ length c2 + length body = grown c2 c3 body e3 in
    let size : past ≡ length body + 1 = omega (arith, h, l2, l3) in
    let far : k ≡ length body = omega (arith, hk, size) in
    let n : Line = record { instr = Next e leaf 0; line = line } in
    let s : Line = record { instr = Next e leaf k; line = line } in
    let f3 = before_code c1 c2 c3 (at line (Next e leaf 0)) body e2 e3 in
    let f4 : c4 ≡ c1 ++ reverse (body ++ s ∷ []) = e4 ∙ ap (λ m. slice_set m (length c1) s) f3 ∙ set_last c1 body n s in
    let g4 : c4 ≡ base ++ reverse (body ++ s ∷ plain Leave) = before_code base c1 c4 (plain Leave) (body ++ s ∷ []) e1 f4 ∙ ap (λ m. base ++ reverse m) (append_assoc body (s ∷ []) (plain Leave)) in
    let g5 = before_code base c4 c5 (body ++ s ∷ plain Leave) (plain (Test e leaf past)) g4 e5 in
    let g6 = before_code base c5 c6 (plain (Test e leaf past) ++ (body ++ s ∷ plain Leave)) (at line Step) g5 e6 in
    before_code base c6 c7 (at line Step ++ (plain (Test e leaf past) ++ (body ++ s ∷ plain Leave))) (plain (Begin e leaf)) g6 e7
    ∙ ap (λ m. base ++ reverse (plain (Begin e leaf) ++ (at line Step ++ (plain (Test e leaf m) ++ (body ++ (at line (Next e leaf k) ++ plain Leave)))))) size
    ∙ ap (λ m. base ++ reverse (plain (Begin e leaf) ++ (at line Step ++ (plain (Test e leaf (length body + 1)) ++ (body ++ (at line (Next e leaf m) ++ plain Leave)))))) far

-- ---- loops and CASE as statements

pub case_command : (w : Whole) (y : Statement) (s t : CaseStatement) → y ≡ statements.Case s → t ≡ s → case_in w t ≡ command_of w y
case_command w y s t e f = ap (case_in w) f ∙ sym (case_is w s) ∙ ap (command_of w) (sym e)

pub while_command : (w : Whole) (y : Statement) (s t : WhileStatement) → y ≡ statements.While s → t ≡ s → while_in w t ≡ command_of w y
while_command w y s t e f = ap (while_in w) f ∙ sym (while_is w s) ∙ ap (command_of w) (sym e)

pub repeat_command : (w : Whole) (y : Statement) (s t : RepeatStatement) → y ≡ statements.Repeat s → t ≡ s → repeat_in w t ≡ command_of w y
repeat_command w y s t e f = ap (repeat_in w) f ∙ sym (repeat_is w s) ∙ ap (command_of w) (sym e)

-- the distances of a body that stands in a loop
pub in_loop : (w : Whole) (xs : List Statement) (a b n m : ℕ) → a ≡ n → b ≡ m → commands_code w.variables (body_of w xs) a b ≡ commands_code w.variables (body_of w xs) n m
in_loop w xs a b n m e f = ap (λ k. commands_code w.variables (body_of w xs) k b) e ∙ ap (λ k. commands_code w.variables (body_of w xs) n k) f
