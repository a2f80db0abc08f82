-- The steps of the reading functions that recurse.
use Rattle.std.proofs.Common.{◌≡◌, ℕ, zero, suc, ◌+◌, ◌-◌, ◌<◌, ◌≤◌, true, false, List, [], ◌∷◌, refl, subst, add-zero, sub-one, arith}
use Rattle.std.proofs.lemmas.Bool.Decides.{nat_tests}
use Rattle.std.specs.Prelude.{Option, Some, None, Ok, Err}
use Rattle.st_tree.specs.declared.tree.expression.Expression.TheVariants as expressions
use Rattle.st_parser.specs.Grammar.Tokens.{Tok, kind, position}
use Rattle.st_parser.specs.Reader.Parsers.{Refusal, Refuses, many, many_from}
use Rattle.st_parser.specs.Reader.Expressions.{Inside, inside_of, binary, operations, chain, has_precedence, is_operator, operator_at, unary, variable}
use Rattle.st_parser.proofs.Loops.{refuses_too}
use Rattle.st_parser.specs.Names.{BinOp, Expression, Operation, Position, ReadFault}

pub chain_none : (p : Position) (x : Expression) (ls : List Operation) → ls ≡ [] → x ≡ chain p x ls
unfolding chain
chain_none p x [] none = refl
chain_none p x (l ∷ ls) none = absurd (cc)

pub chain_some : (p : Position) (x : Expression) (ls : List Operation) → (ls ≡ [] → ⊥) → expressions.Chain p x ls ≡ chain p x ls
unfolding chain
chain_some p x [] some = absurd (some refl)
chain_some p x (l ∷ ls) some = refl

-- an operator has one precedence
one_precedence : (found : ℕ) (o : Option BinOp) (r : ℕ) → has_precedence found o ≡ true → suc r < found → has_precedence (suc r) o ≡ false
one_precedence found None r h less = refl
one_precedence found (Some op) r h less = grind (arith, nat_tests)

module _ (depth_left : ℕ) (inside : Inside) where
  pub binary_ok : (r : ℕ) (ts mid rest : List Tok) (x : Expression) (ls : List Operation) → (r ≡ 0 → ⊥)
      → binary depth_left inside (r - 1) ts ≡ Ok (x, mid) → operations (binary depth_left inside (r - 1)) (r - 1) mid ≡ Ok (ls, rest)
      → binary depth_left inside r ts ≡ Ok (chain (position ts) x ls, rest)
  unfolding binary
  binary_ok zero ts mid rest x ls some a b = absurd (some refl)
  binary_ok (suc r) ts mid rest x ls some a b =
      let a' : binary depth_left inside r ts ≡ Ok (x, mid) = rw sub-one at a in
      let b' : operations (binary depth_left inside r) r mid ≡ Ok (ls, rest) = rw sub-one at b in
      rw (a', b') refl

  pub binary_err : (r : ℕ) (ts mid : List Tok) (x : Expression) (f : ReadFault) → (r ≡ 0 → ⊥)
      → binary depth_left inside (r - 1) ts ≡ Ok (x, mid) → Refuses (operations (binary depth_left inside (r - 1)) (r - 1) mid) f
      → Refuses (binary depth_left inside r ts) f
  unfolding binary
  binary_err zero ts mid x f some a refused = absurd (some refl)
  binary_err (suc r) ts mid x f some a refused =
      let a' : binary depth_left inside r ts ≡ Ok (x, mid) = rw sub-one at a in
      refuses_too (operations (binary depth_left inside (suc r - 1)) (suc r - 1) mid) _ f
      (λ w g. let g' : operations (binary depth_left inside r) r mid ≡ Err w = rw sub-one at g in rw (a', g') refl) refused

  -- where no operator of the next precedence follows, nothing more is read
  binary_same : (r : ℕ) (ts rest : List Tok) (x : Expression) → is_operator r (kind rest) ≡ false
      → binary depth_left inside r ts ≡ Ok (x, rest) → binary depth_left inside (suc r) ts ≡ Ok (x, rest)
  unfolding binary many many_from chain
  binary_same r ts rest x none reads = rw (reads, none) refl

  -- nor of the next few
  pub binary_more : (n r : ℕ) (ts rest : List Tok) (x : Expression)
      → ((s : ℕ) → r ≤ s → s < r + n → is_operator s (kind rest) ≡ false)
      → binary depth_left inside r ts ≡ Ok (x, rest) → binary depth_left inside (r + n) ts ≡ Ok (x, rest)
  binary_more zero r ts rest x none reads = rw add-zero reads
  binary_more (suc n) r ts rest x none reads =
      let more : binary depth_left inside (suc (r + n)) ts ≡ Ok (x, rest) = binary_same (r + n) ts rest x (none (r + n) (omega arith) (omega arith))
      (binary_more n r ts rest x (λ s low high. none s low (omega arith)) reads) in
      let e : r + suc n ≡ suc (r + n) = omega arith in rw e more

  -- up to the precedence of the operator that follows, or of all
  pub binary_up_to : (r top : ℕ) (ts rest : List Tok) (x : Expression) → r ≤ top
      → ((s : ℕ) → r ≤ s → s < top → is_operator s (kind rest) ≡ false)
      → binary depth_left inside r ts ≡ Ok (x, rest) → binary depth_left inside top ts ≡ Ok (x, rest)
  binary_up_to r top ts rest x le none reads =
      let e : r + (top - r) ≡ top = omega arith in
      subst (λ n. binary depth_left inside n ts ≡ Ok (x, rest)) e (binary_more (top - r) r ts rest x (λ s low high. none s low (omega arith)) reads)

  -- up to the one before that of the operator that follows
  pub binary_before : (r found : ℕ) (ts rest : List Tok) (x : Expression) → r < found → has_precedence found (operator_at (kind rest)) ≡ true
      → binary depth_left inside r ts ≡ Ok (x, rest) → binary depth_left inside (found - 1) ts ≡ Ok (x, rest)
  binary_before r found ts rest x above operator reads = binary_up_to r (found - 1) ts rest x (omega arith)
      (λ s low high. one_precedence found (operator_at (kind rest)) s operator (omega arith)) reads

  -- the operand is read first
  pub binary_first : (ts : List Tok) → binary depth_left inside 0 ts ≡ unary depth_left inside ts
  unfolding binary
  binary_first ts = refl

  -- what is refused is refused with operators of a higher number too
  refused_next : (r : ℕ) (ts : List Tok) (w : Refusal) → binary depth_left inside r ts ≡ Err w → binary depth_left inside (suc r) ts ≡ Err w
  unfolding binary
  refused_next r ts w refused = rw refused refl

  refused_more : (n r : ℕ) (ts : List Tok) (w : Refusal) → binary depth_left inside r ts ≡ Err w → binary depth_left inside (r + n) ts ≡ Err w
  refused_more zero r ts w refused = rw add-zero refused
  refused_more (suc n) r ts w refused =
      let more : binary depth_left inside (suc (r + n)) ts ≡ Err w = refused_next (r + n) ts w (refused_more n r ts w refused) in
      let e : r + suc n ≡ suc (r + n) = omega arith in rw e more

  -- up to this precedence
  pub refused_up_to : (r top : ℕ) (ts : List Tok) (f : ReadFault) → r ≤ top → Refuses (binary depth_left inside r ts) f → Refuses (binary depth_left inside top ts) f
  refused_up_to r top ts f le refused =
      let e : r + (top - r) ≡ top = omega arith in
      refuses_too (binary depth_left inside r ts) (binary depth_left inside top ts) f
      (λ w g. subst (λ n. binary depth_left inside n ts ≡ Err w) e (refused_more (top - r) r ts w g)) refused

pub inside_expression : (depth_left : ℕ) → 0 < depth_left → (inside_of depth_left).expression ≡ binary (depth_left - 1) (inside_of (depth_left - 1)) 7
unfolding inside_of
inside_expression zero some = absurd (omega arith)
inside_expression (suc depth_left) some = rw sub-one refl

pub inside_variable : (depth_left : ℕ) → 0 < depth_left → (inside_of depth_left).variable ≡ variable (depth_left - 1) (inside_of (depth_left - 1))
unfolding inside_of
inside_variable zero some = absurd (omega arith)
inside_variable (suc depth_left) some = rw sub-one refl
