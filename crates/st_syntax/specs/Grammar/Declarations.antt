-- The grammar of declarations (IEC 61131-3:2003, annex B.1.3 and B.1.4). `IsX ts x rest`: the tokens ts, up to rest, are the X x.
use Rattle.std.specs.Prelude.{ℕ, List, [], ◌∷◌, Option, Some, None}
use Rattle.st_tokens.specs.declared.keyword.Keyword.TheVariants as keywords
use Rattle.st_tokens.specs.declared.symbol.Symbol.TheVariants as symbols
use Rattle.st_tokens.specs.declared.token.Kind.TheVariants as token_kinds
use Rattle.st_values.specs.declared.elem.Elem.{Elem}
use Rattle.st_tree.specs.declared.tree.declaration.ArrayElement.TheVariants as array_elements
use Rattle.st_tree.specs.declared.tree.declaration.Initial.TheVariants as initials
use Rattle.st_tree.specs.declared.tree.declaration.Specification.TheVariants as specifications
use Rattle.st_tree.specs.declared.tree.declaration.TypeName.TheVariants as type_names
use Rattle.st_tree.specs.declared.tree.declaration.VarKind.TheVariants as var_kinds
use Rattle.st_parser.specs.Names.{ArrayElement, Constant, Declaration, Identifier, Initial, Position, SignedInteger, Specification, Subrange, TypeName, VarBlock, VarKind}
use Rattle.st_parser.specs.Grammar.Lists.{IsMany, IsListed}
use Rattle.st_parser.specs.Grammar.Tokens.{identifier_of, Tok}
use Rattle.st_parser.specs.Grammar.Expressions.{IsConstant, IsSignedInteger}
use Rattle.st_syntax.specs.Grammar.Charts.{IsName}

abbrev pub subrange_of : SignedInteger → SignedInteger → Subrange
subrange_of x y = record { lower = x; upper = y }

abbrev pub declaration_of : List Identifier → Specification → Option Initial → Declaration
declaration_of ns x y = record { names = ns; specification = x; initial = y }

abbrev pub block_of : Position → VarKind → List Declaration → VarBlock
block_of p x ds = record { position = p; kind = x; declarations = ds }

-- elementary type | word
pub data IsTypeName : List Tok → TypeName → List Tok → Type 0 where
  elementary : {p : Position} {e : Elem} {rest : List Tok} → IsTypeName ((p, token_kinds.Type e) ∷ rest) (type_names.Elementary p e) rest
  declared : {p : Position} {x : List ℕ} {rest : List Tok} → IsTypeName ((p, token_kinds.Word x) ∷ rest) (type_names.Declared (identifier_of p x)) rest

-- integer '..' integer
pub data IsSubrange : List Tok → Subrange → List Tok → Type 0 where
  subrange : {p : Position} {ts mid rest : List Tok} {x y : SignedInteger} → IsSignedInteger ts x ((p, token_kinds.Symbol symbols.Range) ∷ mid) → IsSignedInteger mid y rest
      → IsSubrange ts (subrange_of x y) rest

-- type name | ARRAY '[' subrange { ',' subrange } ']' OF type name
pub data IsSpecification : List Tok → Specification → List Tok → Type 0 where
  simple : {ts rest : List Tok} {x : TypeName} → IsTypeName ts x rest → IsSpecification ts (specifications.Simple x) rest
  array : {p q r u : Position} {ts mid rest : List Tok} {xs : List Subrange} {x : TypeName}
      → IsListed IsSubrange ts xs ((r, token_kinds.Symbol symbols.CloseBracket) ∷ (u, token_kinds.Keyword keywords.Of) ∷ mid) → IsTypeName mid x rest
      → IsSpecification ((p, token_kinds.Keyword keywords.Array) ∷ (q, token_kinds.Symbol symbols.OpenBracket) ∷ ts) (specifications.Array p xs x) rest

-- literal | number '(' [ literal ] ')'
pub data IsArrayElement : List Tok → ArrayElement → List Tok → Type 0 where
  single : {ts rest : List Tok} {x : Constant} → IsConstant ts x rest → IsArrayElement ts (array_elements.Single x) rest
  repeated_default : {p q r : Position} {m : ℕ} {rest : List Tok}
      → IsArrayElement ((p, token_kinds.Number m) ∷ (q, token_kinds.Symbol symbols.Open) ∷ (r, token_kinds.Symbol symbols.Close) ∷ rest) (array_elements.Repeated p m None) rest
  repeated : {p q r : Position} {m : ℕ} {ts rest : List Tok} {x : Constant} → IsConstant ts x ((r, token_kinds.Symbol symbols.Close) ∷ rest)
      → IsArrayElement ((p, token_kinds.Number m) ∷ (q, token_kinds.Symbol symbols.Open) ∷ ts) (array_elements.Repeated p m (Some x)) rest

-- literal | '[' element { ',' element } ']'
pub data IsInitial : List Tok → Initial → List Tok → Type 0 where
  initial_constant : {ts rest : List Tok} {x : Constant} → IsConstant ts x rest → IsInitial ts (initials.Constant x) rest
  initial_array : {p q : Position} {ts rest : List Tok} {xs : List ArrayElement} → IsListed IsArrayElement ts xs ((q, token_kinds.Symbol symbols.CloseBracket) ∷ rest)
      → IsInitial ((p, token_kinds.Symbol symbols.OpenBracket) ∷ ts) (initials.Array p xs) rest

-- [ ':=' initial ] ';'
pub data IsInitialized : List Tok → Option Initial → List Tok → Type 0 where
  uninitialized : {p : Position} {rest : List Tok} → IsInitialized ((p, token_kinds.Symbol symbols.Semicolon) ∷ rest) None rest
  initialized : {p q : Position} {ts rest : List Tok} {x : Initial} → IsInitial ts x ((q, token_kinds.Symbol symbols.Semicolon) ∷ rest)
      → IsInitialized ((p, token_kinds.Symbol symbols.Assign) ∷ ts) (Some x) rest

-- word { ',' word } ':' specification [ ':=' initial ] ';'
pub data IsDeclaration : List Tok → Declaration → List Tok → Type 0 where
  declaration : {p : Position} {ts mid then rest : List Tok} {ns : List Identifier} {x : Specification} {y : Option Initial}
      → IsListed IsName ts ns ((p, token_kinds.Symbol symbols.Colon) ∷ mid) → IsSpecification mid x then → IsInitialized then y rest
      → IsDeclaration ts (declaration_of ns x y) rest

-- word ':' specification [ ':=' initial ] ';'
pub data IsMember : List Tok → Declaration → List Tok → Type 0 where
  member : {p q : Position} {m : List ℕ} {ts mid rest : List Tok} {x : Specification} {y : Option Initial}
      → IsSpecification ts x mid → IsInitialized mid y rest
      → IsMember ((p, token_kinds.Word m) ∷ (q, token_kinds.Symbol symbols.Colon) ∷ ts) (declaration_of (identifier_of p m ∷ []) x y) rest

-- [ RETAIN | NON_RETAIN ], which has no effect
pub data IsRetention (x : VarKind) : List Tok → VarKind → List Tok → Type 0 where
  unsaid : {ts : List Tok} → IsRetention x ts x ts
  retained : {p : Position} {rest : List Tok} → IsRetention x ((p, token_kinds.Keyword keywords.Retain) ∷ rest) x rest
  not_retained : {p : Position} {rest : List Tok} → IsRetention x ((p, token_kinds.Keyword keywords.NonRetain) ∷ rest) x rest

-- [ CONSTANT | RETAIN | NON_RETAIN ]
pub data IsInternal : List Tok → VarKind → List Tok → Type 0 where
  variable : {ts rest : List Tok} {x : VarKind} → IsRetention var_kinds.Internal ts x rest → IsInternal ts x rest
  constant : {p : Position} {rest : List Tok} → IsInternal ((p, token_kinds.Keyword keywords.Constant) ∷ rest) var_kinds.Constant rest

pub data IsVarBlock : List Tok → VarBlock → List Tok → Type 0 where
  -- VAR [ CONSTANT | RETAIN | NON_RETAIN ] { declaration } END_VAR
  internal : {p q : Position} {ts mid rest : List Tok} {x : VarKind} {ds : List Declaration} → IsInternal ts x mid
      → IsMany IsDeclaration mid ds ((q, token_kinds.Keyword keywords.EndVar) ∷ rest) → IsVarBlock ((p, token_kinds.Keyword keywords.Var) ∷ ts) (block_of p x ds) rest
  -- VAR_INPUT [ RETAIN | NON_RETAIN ] { declaration } END_VAR
  input : {p q : Position} {ts mid rest : List Tok} {x : VarKind} {ds : List Declaration} → IsRetention var_kinds.Input ts x mid
      → IsMany IsDeclaration mid ds ((q, token_kinds.Keyword keywords.EndVar) ∷ rest) → IsVarBlock ((p, token_kinds.Keyword keywords.VarInput) ∷ ts) (block_of p x ds) rest
  -- VAR_OUTPUT [ RETAIN | NON_RETAIN ] { declaration } END_VAR
  output : {p q : Position} {ts mid rest : List Tok} {x : VarKind} {ds : List Declaration} → IsRetention var_kinds.Output ts x mid
      → IsMany IsDeclaration mid ds ((q, token_kinds.Keyword keywords.EndVar) ∷ rest) → IsVarBlock ((p, token_kinds.Keyword keywords.VarOutput) ∷ ts) (block_of p x ds) rest
