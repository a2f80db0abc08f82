-- The reading functions of units read their grammar exactly.
use Rattle.std.proofs.Common.{◌≡◌, ℕ, suc, List, ◌∷◌, refl, sym, subst, ◌∙◌, Bool, true, false}
use Rattle.std.specs.Prelude.{Option, Some, Ok}
use Rattle.st_tokens.specs.declared.keyword.Keyword.TheVariants as keywords
use Rattle.st_tokens.specs.declared.symbol.Symbol.TheVariants as symbols
use Rattle.st_tokens.specs.declared.token.Kind.TheVariants as token_kinds
use Rattle.st_values.specs.declared.elem.Elem.{Elem}
use Rattle.st_tree.specs.declared.tree.declaration.DeclaredType.TheVariants as declared_types
use Rattle.st_tree.specs.declared.tree.unit.Body.TheVariants as bodies
use Rattle.st_tree.specs.declared.tree.unit.Unit.TheVariants as unit_kinds
use Rattle.st_parser.specs.Names as names
use Rattle.st_parser.specs.Names.{Body, Declaration, DeclaredType, Kind, Position, Pou, TypeDeclaration}
use Rattle.st_parser.specs.Grammar.Lists.{IsMany}
use Rattle.st_parser.specs.Grammar.Tokens.{Tok, kind}
use Rattle.st_parser.specs.Reader.Parsers as parser
use Rattle.st_parser.specs.Reader.Parsers.{and_then, is_keyword, is_word}
use Rattle.st_parser.proofs.Exact.{Relation, Exact, Always, Any, Then, seq, IsOne, one, IsPure, done, IsWord, a_word, exact_bind, exact_as, exact_iff, exact_last, exact_under, exact_zero, exact_pure, made, exact_refuse, exact_on, IsFirst, exact_token, keyword_is, exact_symbol, exact_keyword, exact_identifier, Before, exact_identifier_before, TakesOne, takes, refuses, exact_one, exact_before, Ends, exact_many}
use Rattle.st_parser.proofs.Local.{by_kind, kind_first}
use Rattle.st_parser.proofs.Levels.{At}
use Rattle.st_syntax.specs.Grammar.Charts.{IsElement, initial_step, plain_step, transition, action, IsChart, chart}
use Rattle.st_syntax.specs.Grammar.Statements.{IsStatements, no_statement, statements}
use Rattle.st_syntax.specs.Reader.Charts.{begins_element}
use Rattle.st_syntax.specs.Reader.Statements.{begins_statement}
use Rattle.st_syntax.proofs.ChartsExact.{chart_exact}
use Rattle.st_syntax.proofs.Statements.{EndsBlock, statements_exact, begins_is}
use Rattle.st_syntax.specs.Grammar.Declarations.{simple, IsMember, IsVarBlock}
use Rattle.st_syntax.specs.Grammar.Units.{type_of, function_of, pou_of, IsDeclared, derived, structure, IsTypeDeclaration, type_declaration, IsBody, plain_body, chart_body, IsPou, pou, IsUnit, types, function, function_block, program}
use Rattle.st_syntax.specs.Reader.Declarations as declarations
use Rattle.st_syntax.specs.Reader.Declarations.{begins_block}
use Rattle.st_syntax.specs.Reader.Units as spec
use Rattle.st_syntax.specs.Reader.Units.{begins_unit}
use Rattle.st_syntax.proofs.DeclarationsExact.{IsTyped, typed_exact, member_exact, member_begins, variables_exact}

-- ---- types

-- the members of a structure
data AreMembers : List Tok → List Declaration → List Tok → Type 0 where
  members : {ts mid rest : List Tok} {x : Declaration} {xs : List Declaration} → IsMember ts x mid → IsMany IsMember mid xs rest → AreMembers ts (x ∷ xs) rest

members_to : (ts : List Tok) (x : List Declaration) (rest : List Tok) → Then IsMember (λ y. Then (IsMany IsMember) (λ ys. IsPure (y ∷ ys))) ts x rest → AreMembers ts x rest
members_to ts x rest (seq e (seq m f)) = made f (λ y us. AreMembers ts y us) (members e m)

members_from : (ts : List Tok) (x : List Declaration) (rest : List Tok) → AreMembers ts x rest → Then IsMember (λ y. Then (IsMany IsMember) (λ ys. IsPure (y ∷ ys))) ts x rest
members_from ts x rest (members e m) = seq e (seq m done)

abbrev StructureRule : Position → Relation DeclaredType
StructureRule p = Then AreMembers (λ xs. Then (IsOne (token_kinds.Keyword keywords.EndStruct)) (λ q. Then (IsOne (token_kinds.Symbol symbols.Semicolon)) (λ z. IsPure (declared_types.Structure p xs))))

structure_to : (p : Position) (ts : List Tok) (x : DeclaredType) (rest : List Tok) → StructureRule p ts x rest → IsDeclared ((p, token_kinds.Keyword keywords.Struct) ∷ ts) x rest
structure_to p ts x rest (seq (members e m) (seq one (seq one f))) = made f (λ y us. IsDeclared ((p, token_kinds.Keyword keywords.Struct) ∷ ts) y us) (structure e m)

structure_from : (p : Position) (ts : List Tok) (x : DeclaredType) (rest : List Tok) → IsDeclared ((p, token_kinds.Keyword keywords.Struct) ∷ ts) x rest → StructureRule p ts x rest
structure_from p ts x rest (structure e m) = seq (members e m) (seq one (seq one done))
structure_from p ts x rest (derived (simple e) f) = elim e [ ]

abbrev DerivedRule : Relation DeclaredType
DerivedRule = Then IsTyped (λ x. IsPure (declared_types.Derived x.0 x.1))

derived_to : (ts : List Tok) (x : DeclaredType) (rest : List Tok) → DerivedRule ts x rest → IsDeclared ts x rest
derived_to ts x rest (seq (seq e (seq f done)) m) = made m (λ y us. IsDeclared ts y us) (derived e f)

derived_from : (ts : List Tok) (x : DeclaredType) (rest : List Tok) → is_keyword keywords.Struct (kind ts) ≡ false → IsDeclared ts x rest → DerivedRule ts x rest
derived_from ts x rest h (derived e f) = seq (seq e (seq f done)) done
derived_from ts x rest h (structure e m) = absurd (cc)

abbrev TypeRule : Relation TypeDeclaration
TypeRule = Then (Before IsWord (token_kinds.Symbol symbols.Colon)) (λ n. Then IsDeclared (λ x. IsPure (type_of n x)))

type_to : (ts : List Tok) (x : TypeDeclaration) (rest : List Tok) → TypeRule ts x rest → IsTypeDeclaration ts x rest
type_to ts x rest (seq (seq a_word (seq one done)) (seq e m)) = made m (λ y us. IsTypeDeclaration ts y us) (type_declaration e)

type_from : (ts : List Tok) (x : TypeDeclaration) (rest : List Tok) → IsTypeDeclaration ts x rest → TypeRule ts x rest
type_from ts x rest (type_declaration e) = seq (seq a_word (seq one done)) (seq e done)

type_begins : (ts : List Tok) (x : TypeDeclaration) (rest : List Tok) → IsTypeDeclaration ts x rest → is_word (kind ts) ≡ true
type_begins ts x rest (type_declaration e) = refl

abbrev TypesRule : Position → Relation names.Unit
TypesRule p = Then (IsMany IsTypeDeclaration) (λ xs. Then (IsOne (token_kinds.Keyword keywords.EndType)) (λ q. IsPure (unit_kinds.Types p xs)))

types_to : (p : Position) (ts : List Tok) (x : names.Unit) (rest : List Tok) → TypesRule p ts x rest → IsUnit ((p, token_kinds.Keyword keywords.Type) ∷ ts) x rest
types_to p ts x rest (seq e (seq one m)) = made m (λ y us. IsUnit ((p, token_kinds.Keyword keywords.Type) ∷ ts) y us) (types e)

types_from : (p : Position) (ts : List Tok) (x : names.Unit) (rest : List Tok) → IsUnit ((p, token_kinds.Keyword keywords.Type) ∷ ts) x rest → TypesRule p ts x rest
types_from p ts x rest (types e) = seq e (seq one done)

module _ (r : ℕ) where
  members_exact : Exact 1 (spec.members (suc r)) Always AreMembers (Ends is_word Any) (At (suc (suc r))) (At (suc (suc r)))
  unfolding parser.leading
  members_exact = exact_iff (exact_bind (member_exact r) (λ x. exact_last (exact_many is_word (declarations.member (suc r)) IsMember Any (At (suc (suc r))) (exact_under (member_exact r) (λ ts h. tt) (λ t g. g)) member_begins (λ t h. tt)) (λ xs. x ∷ xs)) (λ x mid rest y e g. tt))
      members_to members_from

  declared_by : (c : Bool) → Exact 1 (spec.declared_by (suc r) c) (λ ts. (is_keyword keywords.Struct (kind ts) ≡ c) × Always ts) IsDeclared Any (At (suc (suc r))) (At (suc (suc r)))
  unfolding spec.structure spec.derived
  declared_by true = exact_under (exact_token (token_kinds.Keyword keywords.Struct) refl {R = IsDeclared} (λ p. exact_iff
      (exact_before (token_kinds.Keyword keywords.EndStruct) members_exact (refl, tt) (exact_keyword keywords.EndStruct (suc (suc r)) refl) (λ xs q. exact_bind (exact_symbol symbols.Semicolon (suc (suc r)) refl) (λ z. exact_pure (declared_types.Structure p xs) Always Any (At (suc (suc r)))) (λ z mid rest y e g. tt)))
      (structure_to p) (structure_from p))) (λ ts h. keyword_is keywords.Struct (kind ts) h.0) (λ t g. g)
  declared_by false = exact_as (exact_last (typed_exact r) (λ x. declared_types.Derived x.0 x.1)) (λ ts h. tt)
      (λ ts x rest h e. derived_to ts x rest e) (λ ts x rest h g e. derived_from ts x rest h.0 e) (λ t g. g)

  declared_exact : Exact 1 (spec.declared (suc r)) Always IsDeclared Any (At (suc (suc r))) (At (suc (suc r)))
  unfolding spec.declared
  declared_exact = exact_on (λ ts. is_keyword keywords.Struct (kind ts)) (by_kind (is_keyword keywords.Struct)) (spec.declared_by (suc r)) Always IsDeclared Any (At (suc (suc r))) (At (suc (suc r))) declared_by

  type_exact : Exact 1 (spec.type_declaration (suc r)) Always IsTypeDeclaration Any (At (suc (suc r))) (At (suc (suc r)))
  unfolding spec.type_declaration
  type_exact = exact_iff (exact_bind (exact_identifier_before symbols.Colon (suc (suc r)) refl) (λ n. exact_last declared_exact (type_of n)) (λ n mid rest y e g. tt)) type_to type_from

  types_exact : Exact 1 (spec.types (suc r)) (IsFirst (token_kinds.Keyword keywords.Type)) IsUnit Any (At (suc (suc r))) (At (suc (suc r)))
  unfolding spec.types
  types_exact = exact_token (token_kinds.Keyword keywords.Type) refl {R = IsUnit} (λ p. exact_iff
      (exact_before (token_kinds.Keyword keywords.EndType) (exact_many is_word (spec.type_declaration (suc r)) IsTypeDeclaration Any (At (suc (suc r))) (exact_under type_exact (λ ts h. tt) (λ t g. g)) type_begins (λ t h. tt)) (refl, tt)
      (exact_keyword keywords.EndType (suc (suc r)) refl) (λ xs q. exact_pure (unit_kinds.Types p xs) Always Any (At (suc (suc r)))))
      (types_to p) (types_from p))

-- ---- functions

data IsElementary : List Tok → Elem → List Tok → Type 0 where
  an_elem : {p : Position} {e : Elem} {rest : List Tok} → IsElementary ((p, token_kinds.Type e) ∷ rest) e rest

elementary_exact : (r : ℕ) → Exact 1 spec.elementary Always IsElementary Any (At r) (At r)
unfolding spec.elementary
elementary_exact r = exact_one spec.elementary_by IsElementary r refl one is_read where
  one : (t : Tok) → TakesOne (spec.elementary_by (Some t.1)) IsElementary r t
  one (p, token_kinds.Type e) = takes e (λ q us. (λ h. h, λ h. h)) (λ us. refl) (λ us. an_elem)
  one (p, _) = refuses refl

  is_read : (ts : List Tok) (x : Elem) (rest : List Tok) → IsElementary ts x rest → spec.elementary_by (kind ts) ts ≡ Ok (x, rest)
  is_read ts x rest an_elem = refl

abbrev FunctionRule : Position → Relation names.Unit
FunctionRule p = Then (Before IsWord (token_kinds.Symbol symbols.Colon)) (λ n. Then IsElementary (λ e. Then (IsMany IsVarBlock) (λ vs. Then IsStatements (λ ss. Then (IsOne (token_kinds.Keyword keywords.EndFunction)) (λ z. IsPure (unit_kinds.Function (function_of p n e vs ss)))))))

function_to : (p : Position) (ts : List Tok) (x : names.Unit) (rest : List Tok) → FunctionRule p ts x rest → IsUnit ((p, token_kinds.Keyword keywords.Function) ∷ ts) x rest
function_to p ts x rest (seq (seq a_word (seq one done)) (seq an_elem (seq e (seq f (seq one m))))) = made m (λ y us. IsUnit ((p, token_kinds.Keyword keywords.Function) ∷ ts) y us) (function e f)

function_from : (p : Position) (ts : List Tok) (x : names.Unit) (rest : List Tok) → IsUnit ((p, token_kinds.Keyword keywords.Function) ∷ ts) x rest → FunctionRule p ts x rest
function_from p ts x rest (function e f) = seq (seq a_word (seq one done)) (seq an_elem (seq e (seq f (seq one done))))

-- the first token of a statement begins no declarations
statement_no_block : (t : Option Kind) → begins_statement t ≡ true → Ends begins_block Any t
statement_no_block (Some (token_kinds.Word n)) h = (refl, tt)
statement_no_block (Some (token_kinds.Symbol symbols.Semicolon)) h = (refl, tt)
statement_no_block (Some (token_kinds.Keyword keywords.Return)) h = (refl, tt)
statement_no_block (Some (token_kinds.Keyword keywords.Exit)) h = (refl, tt)
statement_no_block (Some (token_kinds.Keyword keywords.If)) h = (refl, tt)
statement_no_block (Some (token_kinds.Keyword keywords.Case)) h = (refl, tt)
statement_no_block (Some (token_kinds.Keyword keywords.For)) h = (refl, tt)
statement_no_block (Some (token_kinds.Keyword keywords.While)) h = (refl, tt)
statement_no_block (Some (token_kinds.Keyword keywords.Repeat)) h = (refl, tt)
statement_no_block _ h = absurd (cc)

function_follow : {S : _ → Relation names.Unit} (mid rest : List Tok) (y : names.Unit) → Then IsStatements (λ ss. Then (IsOne (token_kinds.Keyword keywords.EndFunction)) (λ z. S ss)) mid y rest → Ends begins_block Any (kind mid)
function_follow mid rest y (seq no_statement (seq one f)) = (refl, tt)
function_follow mid rest y (seq (statements {mid = last} {x = x} e m) f) = statement_no_block (kind mid) (begins_is mid x last e)

-- ---- function blocks and programs

chart_as : (ts : List Tok) (x : Body) (rest : List Tok) → Then IsChart (λ y. IsPure (bodies.Chart y)) ts x rest → IsBody ts x rest
chart_as ts x rest (seq e m) = made m (λ y us. IsBody ts y us) (chart_body e)

-- neither an element of a chart nor a statement follows
abbrev EndsBody : Option Kind → Type 0
EndsBody t = (begins_element t ≡ false) × EndsBlock t

element_no_statement : (t : Option Kind) → begins_element t ≡ true → begins_statement t ≡ true → ⊥
element_no_statement (Some (token_kinds.Keyword keywords.InitialStep)) h g = cc
element_no_statement (Some (token_kinds.Keyword keywords.Step)) h g = cc
element_no_statement (Some (token_kinds.Keyword keywords.Transition)) h g = cc
element_no_statement (Some (token_kinds.Keyword keywords.Action)) h g = cc
element_no_statement _ h g = cc

element_begins : (ts : List Tok) (x : _) (rest : List Tok) → IsElement ts x rest → begins_element (kind ts) ≡ true
element_begins ts x rest (initial_step e) = refl
element_begins ts x rest (plain_step e) = refl
element_begins ts x rest (transition e) = refl
element_begins ts x rest (action e) = refl

chart_back : (ts : List Tok) (x : Body) (rest : List Tok) → begins_element (kind ts) ≡ true → EndsBody (kind rest) → IsBody ts x rest → Then IsChart (λ y. IsPure (bodies.Chart y)) ts x rest
chart_back ts x rest h g (chart_body e) = seq e done
chart_back ts x rest h g (plain_body no_statement) = absurd (let wrong = sym h ∙ g.0 in cc)
chart_back ts x rest h g (plain_body (statements {mid = last} {x = y} e m)) = absurd (element_no_statement (kind ts) h (begins_is ts y last e))

plain_as : (ts : List Tok) (x : Body) (rest : List Tok) → Then IsStatements (λ y. IsPure (bodies.Statements y)) ts x rest → IsBody ts x rest
plain_as ts x rest (seq e m) = made m (λ y us. IsBody ts y us) (plain_body e)

plain_back : (ts : List Tok) (x : Body) (rest : List Tok) → begins_element (kind ts) ≡ false → IsBody ts x rest → Then IsStatements (λ y. IsPure (bodies.Statements y)) ts x rest
plain_back ts x rest h (plain_body e) = seq e done
plain_back ts x rest h (chart_body (chart {mid = last} {x = y} e m)) = absurd (let wrong = sym h ∙ element_begins ts y last e in cc)

module _ (r : ℕ) where
  function_exact : Exact 1 (spec.function (suc r)) (IsFirst (token_kinds.Keyword keywords.Function)) IsUnit Any (At (suc (suc r))) (At (suc (suc r)))
  unfolding spec.function
  function_exact = exact_token (token_kinds.Keyword keywords.Function) refl {R = IsUnit} (λ p. exact_iff
      (exact_bind (exact_identifier_before symbols.Colon (suc (suc r)) refl) (λ n. exact_bind (elementary_exact (suc (suc r))) (λ e. exact_bind (variables_exact r)
      (λ vs. exact_before (token_kinds.Keyword keywords.EndFunction) (statements_exact (suc (suc r))) (refl, tt) (exact_keyword keywords.EndFunction (suc (suc r)) refl) (λ ss z. exact_pure (unit_kinds.Function (function_of p n e vs ss)) Always Any (At (suc (suc r)))))
      (λ vs mid rest y f g. function_follow mid rest y f)) (λ e mid rest y f g. tt)) (λ n mid rest y f g. tt))
      (function_to p) (function_from p))

  body_by : (c : Bool) → Exact 0 (spec.body_by (suc r) c) (λ ts. (begins_element (kind ts) ≡ c) × Always ts) IsBody EndsBody (At (suc (suc r))) (At (suc (suc r)))
  unfolding spec.chart_body spec.plain_body
  body_by true = exact_zero (exact_as (exact_last (chart_exact (suc r)) bodies.Chart) (λ ts h. tt) (λ ts x rest h e. chart_as ts x rest e) (λ ts x rest h g e. chart_back ts x rest h.0 g e) (λ t g. (g.0, tt)))
  body_by false = exact_as (exact_last (statements_exact (suc (suc r))) bodies.Statements) (λ ts h. tt) (λ ts x rest h e. plain_as ts x rest e) (λ ts x rest h g e. plain_back ts x rest h.0 e) (λ t g. g.1)

  body_exact : Exact 0 (spec.body (suc r)) Always IsBody EndsBody (At (suc (suc r))) (At (suc (suc r)))
  unfolding spec.body
  body_exact = exact_on (λ ts. begins_element (kind ts)) (by_kind begins_element) (spec.body_by (suc r)) Always IsBody EndsBody (At (suc (suc r))) (At (suc (suc r))) body_by

-- the first token of a chart's element begins no declarations
element_no_block : (t : Option Kind) → begins_element t ≡ true → Ends begins_block Any t
element_no_block (Some (token_kinds.Keyword keywords.InitialStep)) h = (refl, tt)
element_no_block (Some (token_kinds.Keyword keywords.Step)) h = (refl, tt)
element_no_block (Some (token_kinds.Keyword keywords.Transition)) h = (refl, tt)
element_no_block (Some (token_kinds.Keyword keywords.Action)) h = (refl, tt)
element_no_block _ h = absurd (cc)

-- declarations end before a body and a last word that begins none
body_follow : (x : Kind) → Ends begins_block Any (Some x) → (mid rest : List Tok) (y : Pou) {S : Body → Relation Pou} → Then IsBody (λ c. Then (IsOne x) (λ z. S c)) mid y rest → Ends begins_block Any (kind mid)
body_follow x fits mid rest y (seq (plain_body no_statement) (seq one f)) = fits
body_follow x fits mid rest y (seq (plain_body (statements {mid = last} {x = z} e m)) f) = statement_no_block (kind mid) (begins_is mid z last e)
body_follow x fits mid rest y (seq (chart_body (chart {mid = last} {x = z} e m)) f) = element_no_block (kind mid) (element_begins mid z last e)

abbrev PouRule : Kind → Position → Relation Pou
PouRule x p = Then IsWord (λ n. Then (IsMany IsVarBlock) (λ vs. Then IsBody (λ c. Then (IsOne x) (λ z. IsPure (pou_of p n vs c)))))

-- a function block or a program, up to its last word, and that word
data IsWhole (x : Kind) (p : Position) : List Tok → Pou → List Tok → Type 0 where
  whole : {q : Position} {ts rest : List Tok} {y : Pou} → IsPou p ts y ((q, x) ∷ rest) → IsWhole x p ts y rest

whole_to : (x : Kind) (p : Position) (ts : List Tok) (y : Pou) (rest : List Tok) → PouRule x p ts y rest → IsWhole x p ts y rest
whole_to x p ts y rest (seq a_word (seq e (seq f (seq one m)))) = made m (λ z us. IsWhole x p ts z us) (whole (pou e f))

whole_from : (x : Kind) (p : Position) (ts : List Tok) (y : Pou) (rest : List Tok) → IsWhole x p ts y rest → PouRule x p ts y rest
whole_from x p ts y rest (whole (pou e f)) = seq a_word (seq e (seq f (seq one done)))

block_to : (p : Position) (ts : List Tok) (x : names.Unit) (rest : List Tok) → Then (IsWhole (token_kinds.Keyword keywords.EndFunctionBlock) p) (λ y. IsPure (unit_kinds.FunctionBlock y)) ts x rest → IsUnit ((p, token_kinds.Keyword keywords.FunctionBlock) ∷ ts) x rest
block_to p ts x rest (seq (whole e) m) = made m (λ y us. IsUnit ((p, token_kinds.Keyword keywords.FunctionBlock) ∷ ts) y us) (function_block e)

block_from : (p : Position) (ts : List Tok) (x : names.Unit) (rest : List Tok) → IsUnit ((p, token_kinds.Keyword keywords.FunctionBlock) ∷ ts) x rest → Then (IsWhole (token_kinds.Keyword keywords.EndFunctionBlock) p) (λ y. IsPure (unit_kinds.FunctionBlock y)) ts x rest
block_from p ts x rest (function_block e) = seq (whole e) done

program_to : (p : Position) (ts : List Tok) (x : names.Unit) (rest : List Tok) → Then (IsWhole (token_kinds.Keyword keywords.EndProgram) p) (λ y. IsPure (unit_kinds.Program y)) ts x rest → IsUnit ((p, token_kinds.Keyword keywords.Program) ∷ ts) x rest
program_to p ts x rest (seq (whole e) m) = made m (λ y us. IsUnit ((p, token_kinds.Keyword keywords.Program) ∷ ts) y us) (program e)

program_from : (p : Position) (ts : List Tok) (x : names.Unit) (rest : List Tok) → IsUnit ((p, token_kinds.Keyword keywords.Program) ∷ ts) x rest → Then (IsWhole (token_kinds.Keyword keywords.EndProgram) p) (λ y. IsPure (unit_kinds.Program y)) ts x rest
program_from p ts x rest (program e) = seq (whole e) done

unit_begins : (ts : List Tok) (x : names.Unit) (rest : List Tok) → IsUnit ts x rest → begins_unit (kind ts) ≡ true
unit_begins ts x rest (types e) = refl
unit_begins ts x rest (function e f) = refl
unit_begins ts x rest (function_block e) = refl
unit_begins ts x rest (program e) = refl

module _ (r : ℕ) where
  block_rule : (p : Position) → Exact 1 (λ ts. and_then (parser.identifier ts) (λ n us. and_then (declarations.variables (suc r) us) (λ vs ws. and_then (spec.body (suc r) ws) (λ c xs. and_then (parser.expect_keyword keywords.EndFunctionBlock xs) (λ z. parser.pure (pou_of p n vs c))))))
      Always (IsWhole (token_kinds.Keyword keywords.EndFunctionBlock) p) Any (At (suc (suc r))) (At (suc (suc r)))
  block_rule p = exact_iff (exact_bind (exact_identifier (suc (suc r))) (λ n. exact_bind (variables_exact r) (λ vs. exact_before (token_kinds.Keyword keywords.EndFunctionBlock) (body_exact r) (refl, (refl, tt)) (exact_keyword keywords.EndFunctionBlock (suc (suc r)) refl)
      (λ c z. exact_pure (pou_of p n vs c) Always Any (At (suc (suc r))))) (λ vs mid rest y f g. body_follow (token_kinds.Keyword keywords.EndFunctionBlock) (refl, tt) mid rest y f)) (λ n mid rest y f g. tt))
      (whole_to (token_kinds.Keyword keywords.EndFunctionBlock) p) (whole_from (token_kinds.Keyword keywords.EndFunctionBlock) p)

  program_rule : (p : Position) → Exact 1 (λ ts. and_then (parser.identifier ts) (λ n us. and_then (declarations.variables (suc r) us) (λ vs ws. and_then (spec.body (suc r) ws) (λ c xs. and_then (parser.expect_keyword keywords.EndProgram xs) (λ z. parser.pure (pou_of p n vs c))))))
      Always (IsWhole (token_kinds.Keyword keywords.EndProgram) p) Any (At (suc (suc r))) (At (suc (suc r)))
  program_rule p = exact_iff (exact_bind (exact_identifier (suc (suc r))) (λ n. exact_bind (variables_exact r) (λ vs. exact_before (token_kinds.Keyword keywords.EndProgram) (body_exact r) (refl, (refl, tt)) (exact_keyword keywords.EndProgram (suc (suc r)) refl)
      (λ c z. exact_pure (pou_of p n vs c) Always Any (At (suc (suc r))))) (λ vs mid rest y f g. body_follow (token_kinds.Keyword keywords.EndProgram) (refl, tt) mid rest y f)) (λ n mid rest y f g. tt))
      (whole_to (token_kinds.Keyword keywords.EndProgram) p) (whole_from (token_kinds.Keyword keywords.EndProgram) p)

  block_exact : Exact 1 (spec.function_block (suc r)) (IsFirst (token_kinds.Keyword keywords.FunctionBlock)) IsUnit Any (At (suc (suc r))) (At (suc (suc r)))
  unfolding spec.function_block spec.pou
  block_exact = exact_token (token_kinds.Keyword keywords.FunctionBlock) refl {R = IsUnit} (λ p. exact_iff (exact_last (block_rule p) unit_kinds.FunctionBlock) (block_to p) (block_from p))

  program_exact : Exact 1 (spec.program (suc r)) (IsFirst (token_kinds.Keyword keywords.Program)) IsUnit Any (At (suc (suc r))) (At (suc (suc r)))
  unfolding spec.program spec.pou
  program_exact = exact_token (token_kinds.Keyword keywords.Program) refl {R = IsUnit} (λ p. exact_iff (exact_last (program_rule p) unit_kinds.Program) (program_to p) (program_from p))

  unit_by : (t : Option Kind) → Exact 1 (spec.unit_by (suc r) t) (λ ts. (kind ts ≡ t) × Always ts) IsUnit Any (At (suc (suc r))) (At (suc (suc r)))
  unit_by (Some (token_kinds.Keyword keywords.Type)) = exact_under (types_exact r) (λ ts p. p.0) (λ t g. g)
  unit_by (Some (token_kinds.Keyword keywords.Function)) = exact_under (function_exact r) (λ ts p. p.0) (λ t g. g)
  unit_by (Some (token_kinds.Keyword keywords.FunctionBlock)) = exact_under block_exact (λ ts p. p.0) (λ t g. g)
  unit_by (Some (token_kinds.Keyword keywords.Program)) = exact_under program_exact (λ ts p. p.0) (λ t g. g)
  unit_by _ = exact_refuse 1 _ IsUnit Any (At (suc (suc r))) (At (suc (suc r))) (λ ts x rest p e. let wrong = subst (λ t. begins_unit t ≡ true) p.0 (unit_begins ts x rest e) in cc)

  unit_exact : Exact 1 (spec.unit_of (suc r)) Always IsUnit Any (At (suc (suc r))) (At (suc (suc r)))
  unfolding spec.unit_of
  unit_exact = exact_on kind kind_first (spec.unit_by (suc r)) Always IsUnit Any (At (suc (suc r))) (At (suc (suc r))) unit_by

  -- units are read exactly
  pub units_exact : Exact 0 (spec.units (suc r)) Always (IsMany IsUnit) (Ends begins_unit Any) (At (suc (suc r))) (At (suc (suc r)))
  units_exact = exact_many begins_unit (spec.unit_of (suc r)) IsUnit Any (At (suc (suc r))) (exact_under unit_exact (λ ts h. tt) (λ t g. g)) unit_begins (λ t h. tt)
