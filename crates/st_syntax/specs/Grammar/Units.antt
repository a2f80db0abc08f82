-- The grammar of units (IEC 61131-3:2003, annex B.1.3 and B.1.5). `IsX ts x rest`: the tokens ts, up to rest, are the X x.
use Rattle.std.specs.Prelude.{ℕ, List, [], ◌∷◌}
use Rattle.st_tokens.specs.declared.keyword.Keyword.TheVariants as keywords
use Rattle.st_tokens.specs.declared.symbol.Symbol.TheVariants as symbols
use Rattle.st_tokens.specs.declared.token.Kind.TheVariants as token_kinds
use Rattle.st_values.specs.declared.elem.Elem.{Elem}
use Rattle.st_tree.specs.declared.tree.declaration.DeclaredType.TheVariants as declared_types
use Rattle.st_tree.specs.declared.tree.unit.Body.TheVariants as bodies
use Rattle.st_tree.specs.declared.tree.unit.Unit.TheVariants as unit_kinds
use Rattle.st_parser.specs.Names as names
use Rattle.st_parser.specs.Names.{Body, ChartElement, Declaration, DeclaredType, Function, Identifier, Position, Pou, Specification, Statement, TypeDeclaration, VarBlock}
use Rattle.st_parser.specs.Grammar.Lists.{IsMany}
use Rattle.st_parser.specs.Grammar.Tokens.{identifier_of, Tok}
use Rattle.st_syntax.specs.Grammar.Charts.{IsChart}
use Rattle.st_syntax.specs.Grammar.Statements.{IsStatements}
use Rattle.st_syntax.specs.Grammar.Declarations.{IsSpecification, IsInitialized, IsMember, IsVarBlock}

abbrev pub type_of : Identifier → DeclaredType → TypeDeclaration
type_of n x = record { name = n; declared = x }

abbrev pub function_of : Position → Identifier → Elem → List VarBlock → List Statement → Function
function_of p n e vs ss = record { position = p; name = n; result = e; variables = vs; statements = ss }

abbrev pub pou_of : Position → Identifier → List VarBlock → Body → Pou
pou_of p n vs x = record { position = p; name = n; variables = vs; body = x }

-- specification [ ':=' initial ] ';' | STRUCT member { member } END_STRUCT ';'
pub data IsDeclared : List Tok → DeclaredType → List Tok → Type 0 where
  derived : {ts mid rest : List Tok} {x : Specification} {y : _} → IsSpecification ts x mid → IsInitialized mid y rest → IsDeclared ts (declared_types.Derived x y) rest
  structure : {p q r : Position} {ts mid rest : List Tok} {x : Declaration} {xs : List Declaration}
      → IsMember ts x mid → IsMany IsMember mid xs ((q, token_kinds.Keyword keywords.EndStruct) ∷ (r, token_kinds.Symbol symbols.Semicolon) ∷ rest)
      → IsDeclared ((p, token_kinds.Keyword keywords.Struct) ∷ ts) (declared_types.Structure p (x ∷ xs)) rest

-- word ':' declared
pub data IsTypeDeclaration : List Tok → TypeDeclaration → List Tok → Type 0 where
  type_declaration : {p q : Position} {n : List ℕ} {ts rest : List Tok} {x : DeclaredType} → IsDeclared ts x rest
      → IsTypeDeclaration ((p, token_kinds.Word n) ∷ (q, token_kinds.Symbol symbols.Colon) ∷ ts) (type_of (identifier_of p n) x) rest

-- { statement } | chart
pub data IsBody : List Tok → Body → List Tok → Type 0 where
  plain_body : {ts rest : List Tok} {ss : List Statement} → IsStatements ts ss rest → IsBody ts (bodies.Statements ss) rest
  chart_body : {ts rest : List Tok} {xs : List ChartElement} → IsChart ts xs rest → IsBody ts (bodies.Chart xs) rest

-- word { variables } body
pub data IsPou : Position → List Tok → Pou → List Tok → Type 0 where
  pou : {p q : Position} {n : List ℕ} {ts mid rest : List Tok} {vs : List VarBlock} {x : Body}
      → IsMany IsVarBlock ts vs mid → IsBody mid x rest → IsPou p ((q, token_kinds.Word n) ∷ ts) (pou_of p (identifier_of q n) vs x) rest

pub data IsUnit : List Tok → names.Unit → List Tok → Type 0 where
  -- TYPE { type declaration } END_TYPE
  types : {p q : Position} {ts rest : List Tok} {xs : List TypeDeclaration} → IsMany IsTypeDeclaration ts xs ((q, token_kinds.Keyword keywords.EndType) ∷ rest)
      → IsUnit ((p, token_kinds.Keyword keywords.Type) ∷ ts) (unit_kinds.Types p xs) rest
  -- FUNCTION word ':' elementary type { variables } { statement } END_FUNCTION
  function : {p q r z y : Position} {n : List ℕ} {e : Elem} {ts mid rest : List Tok} {vs : List VarBlock} {ss : List Statement}
      → IsMany IsVarBlock ts vs mid → IsStatements mid ss ((z, token_kinds.Keyword keywords.EndFunction) ∷ rest)
      → IsUnit ((p, token_kinds.Keyword keywords.Function) ∷ (q, token_kinds.Word n) ∷ (r, token_kinds.Symbol symbols.Colon) ∷ (y, token_kinds.Type e) ∷ ts) (unit_kinds.Function (function_of p (identifier_of q n) e vs ss)) rest
  -- FUNCTION_BLOCK word { variables } body END_FUNCTION_BLOCK
  function_block : {p z : Position} {ts rest : List Tok} {x : Pou} → IsPou p ts x ((z, token_kinds.Keyword keywords.EndFunctionBlock) ∷ rest)
      → IsUnit ((p, token_kinds.Keyword keywords.FunctionBlock) ∷ ts) (unit_kinds.FunctionBlock x) rest
  -- PROGRAM word { variables } body END_PROGRAM
  program : {p z : Position} {ts rest : List Tok} {x : Pou} → IsPou p ts x ((z, token_kinds.Keyword keywords.EndProgram) ∷ rest)
      → IsUnit ((p, token_kinds.Keyword keywords.Program) ∷ ts) (unit_kinds.Program x) rest

-- these tokens, all of them, are these units
abbrev pub AreUnits : List Tok → List names.Unit → Type 0
AreUnits ts us = IsMany IsUnit ts us []
