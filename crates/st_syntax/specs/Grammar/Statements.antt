-- The grammar of statements (IEC 61131-3:2003, annex B.3.2). `IsX ts x rest`: the tokens ts, up to rest, are the X x.
use Rattle.std.specs.Prelude.{ℕ, List, [], ◌∷◌, Option, Some, None}
use Rattle.st_tokens.specs.declared.keyword.Keyword.TheVariants as keywords
use Rattle.st_tokens.specs.declared.symbol.Symbol.TheVariants as symbols
use Rattle.st_tokens.specs.declared.token.Kind.TheVariants as token_kinds
use Rattle.st_tree.specs.declared.tree.statement.CaseElement.{roll-CaseElement}
use Rattle.st_tree.specs.declared.tree.statement.CaseStatement.{CaseStatement, roll-CaseStatement}
use Rattle.st_tree.specs.declared.tree.statement.ConditionalPart.{roll-ConditionalPart}
use Rattle.st_tree.specs.declared.tree.statement.ForStatement.{ForStatement, roll-ForStatement}
use Rattle.st_tree.specs.declared.tree.statement.IfStatement.{IfStatement, roll-IfStatement}
use Rattle.st_tree.specs.declared.tree.statement.Label.TheVariants as labels
use Rattle.st_tree.specs.declared.tree.statement.RepeatStatement.{RepeatStatement, roll-RepeatStatement}
use Rattle.st_tree.specs.declared.tree.statement.Statement.TheVariants as statement_kinds
use Rattle.st_tree.specs.declared.tree.statement.WhileStatement.{WhileStatement, roll-WhileStatement}
use Rattle.st_parser.specs.Names.{Call, CaseElement, ConditionalPart, Constant, Expression, Identifier, Label, Position, Statement, Variable}
use Rattle.st_parser.specs.Grammar.Lists.{IsListed}
use Rattle.st_parser.specs.Grammar.Tokens.{identifier_of, Tok}
use Rattle.st_parser.specs.Grammar.Expressions.{IsConstant, IsExpression, IsVariable, IsCall}

abbrev pub part_of : Expression → List Statement → ConditionalPart
part_of x ss = roll-ConditionalPart (record { condition = x; statements = ss })

abbrev pub case_of : List Label → List Statement → CaseElement
case_of ls ss = roll-CaseElement (record { labels = ls; statements = ss })

abbrev pub if_of : Position → List ConditionalPart → List Statement → IfStatement
if_of p xs ys = roll-IfStatement (record { position = p; parts = xs; otherwise = ys })

abbrev pub case_statement_of : Position → Expression → List CaseElement → List Statement → CaseStatement
case_statement_of p x cs ys = roll-CaseStatement (record { position = p; selector = x; cases = cs; otherwise = ys })

abbrev pub for_of : Position → Identifier → Expression → Expression → Option Expression → List Statement → ForStatement
for_of p n a b c ss = roll-ForStatement (record { position = p; variable = n; first = a; last = b; step = c; statements = ss })

abbrev pub while_of : Position → Expression → List Statement → WhileStatement
while_of p x ss = roll-WhileStatement (record { position = p; condition = x; statements = ss })

abbrev pub repeat_of : Position → List Statement → Expression → RepeatStatement
repeat_of p ss x = roll-RepeatStatement (record { position = p; statements = ss; condition = x })

-- literal [ '..' literal ]
pub data IsLabel : List Tok → Label → List Tok → Type 0 where
  value : {ts rest : List Tok} {x : Constant} → IsConstant ts x rest → IsLabel ts (labels.Value x) rest
  range : {p : Position} {ts mid rest : List Tok} {x y : Constant} → IsConstant ts x ((p, token_kinds.Symbol symbols.Range) ∷ mid) → IsConstant mid y rest
      → IsLabel ts (labels.Range x y) rest

-- [ BY expression ]
pub data IsBy : List Tok → Option Expression → List Tok → Type 0 where
  no_by : {ts : List Tok} → IsBy ts None ts
  by_step : {p : Position} {ts rest : List Tok} {x : Expression} → IsExpression ts x rest → IsBy ((p, token_kinds.Keyword keywords.By) ∷ ts) (Some x) rest

mutual
  -- { statement }
  pub data IsStatements : List Tok → List Statement → List Tok → Type 0 where
    no_statement : {ts : List Tok} → IsStatements ts [] ts
    statements : {ts mid rest : List Tok} {x : Statement} {xs : List Statement} → IsStatement ts x mid → IsStatements mid xs rest
        → IsStatements ts (x ∷ xs) rest

  pub data IsStatement : List Tok → Statement → List Tok → Type 0 where
    -- ';'
    empty : {p : Position} {rest : List Tok} → IsStatement ((p, token_kinds.Symbol symbols.Semicolon) ∷ rest) (statement_kinds.Empty p) rest
    -- variable ':=' expression ';'
    assignment : {p q : Position} {ts mid rest : List Tok} {v : Variable} {x : Expression}
        → IsVariable ts v ((p, token_kinds.Symbol symbols.Assign) ∷ mid) → IsExpression mid x ((q, token_kinds.Symbol symbols.Semicolon) ∷ rest)
        → IsStatement ts (statement_kinds.Assignment v x) rest
    -- call ';'
    invocation : {p : Position} {ts rest : List Tok} {x : Call} → IsCall ts x ((p, token_kinds.Symbol symbols.Semicolon) ∷ rest)
        → IsStatement ts (statement_kinds.Call x) rest
    -- RETURN ';'
    return_statement : {p q : Position} {rest : List Tok}
        → IsStatement ((p, token_kinds.Keyword keywords.Return) ∷ (q, token_kinds.Symbol symbols.Semicolon) ∷ rest) (statement_kinds.Return p) rest
    -- EXIT ';'
    exit_statement : {p q : Position} {rest : List Tok}
        → IsStatement ((p, token_kinds.Keyword keywords.Exit) ∷ (q, token_kinds.Symbol symbols.Semicolon) ∷ rest) (statement_kinds.Exit p) rest
    -- IF conditional { ELSIF conditional } [ ELSE statements ] END_IF ';'
    if_statement : {p q r : Position} {ts mid last rest : List Tok} {x : ConditionalPart} {xs : List ConditionalPart} {ys : List Statement}
        → IsConditional ts x mid → IsElsifs mid xs last → IsElse last ys ((q, token_kinds.Keyword keywords.EndIf) ∷ (r, token_kinds.Symbol symbols.Semicolon) ∷ rest)
        → IsStatement ((p, token_kinds.Keyword keywords.If) ∷ ts) (statement_kinds.If (if_of p (x ∷ xs) ys)) rest
    -- CASE expression OF case { case } [ ELSE statements ] END_CASE ';'
    case_statement : {p q r u : Position} {ts mid then last rest : List Tok} {x : Expression} {c : CaseElement} {cs : List CaseElement} {ys : List Statement}
        → IsExpression ts x ((u, token_kinds.Keyword keywords.Of) ∷ mid) → IsCase mid c then → IsCases then cs last
        → IsElse last ys ((q, token_kinds.Keyword keywords.EndCase) ∷ (r, token_kinds.Symbol symbols.Semicolon) ∷ rest)
        → IsStatement ((p, token_kinds.Keyword keywords.Case) ∷ ts) (statement_kinds.Case (case_statement_of p x (c ∷ cs) ys)) rest
    -- FOR word ':=' expression TO expression [ BY expression ] DO statements END_FOR ';'
    for_statement : {p q r u v y z : Position} {n : List ℕ} {ts mid then last rest : List Tok} {a b : Expression} {c : Option Expression} {ss : List Statement}
        → IsExpression ts a ((u, token_kinds.Keyword keywords.To) ∷ mid) → IsExpression mid b then → IsBy then c ((v, token_kinds.Keyword keywords.Do) ∷ last)
        → IsStatements last ss ((y, token_kinds.Keyword keywords.EndFor) ∷ (z, token_kinds.Symbol symbols.Semicolon) ∷ rest)
        → IsStatement ((p, token_kinds.Keyword keywords.For) ∷ (q, token_kinds.Word n) ∷ (r, token_kinds.Symbol symbols.Assign) ∷ ts) (statement_kinds.For (for_of p (identifier_of q n) a b c ss)) rest
    -- WHILE expression DO statements END_WHILE ';'
    while_statement : {p q r u : Position} {ts mid rest : List Tok} {x : Expression} {ss : List Statement}
        → IsExpression ts x ((u, token_kinds.Keyword keywords.Do) ∷ mid) → IsStatements mid ss ((q, token_kinds.Keyword keywords.EndWhile) ∷ (r, token_kinds.Symbol symbols.Semicolon) ∷ rest)
        → IsStatement ((p, token_kinds.Keyword keywords.While) ∷ ts) (statement_kinds.While (while_of p x ss)) rest
    -- REPEAT statements UNTIL expression END_REPEAT ';'
    repeat_statement : {p q r u : Position} {ts mid rest : List Tok} {x : Expression} {ss : List Statement}
        → IsStatements ts ss ((u, token_kinds.Keyword keywords.Until) ∷ mid) → IsExpression mid x ((q, token_kinds.Keyword keywords.EndRepeat) ∷ (r, token_kinds.Symbol symbols.Semicolon) ∷ rest)
        → IsStatement ((p, token_kinds.Keyword keywords.Repeat) ∷ ts) (statement_kinds.Repeat (repeat_of p ss x)) rest

  -- expression THEN statements
  pub data IsConditional : List Tok → ConditionalPart → List Tok → Type 0 where
    conditional : {p : Position} {ts mid rest : List Tok} {x : Expression} {ss : List Statement}
        → IsExpression ts x ((p, token_kinds.Keyword keywords.Then) ∷ mid) → IsStatements mid ss rest → IsConditional ts (part_of x ss) rest

  -- { ELSIF conditional }
  pub data IsElsifs : List Tok → List ConditionalPart → List Tok → Type 0 where
    no_elsif : {ts : List Tok} → IsElsifs ts [] ts
    elsifs : {p : Position} {ts mid rest : List Tok} {x : ConditionalPart} {xs : List ConditionalPart} → IsConditional ts x mid → IsElsifs mid xs rest
        → IsElsifs ((p, token_kinds.Keyword keywords.Elsif) ∷ ts) (x ∷ xs) rest

  -- [ ELSE statements ]
  pub data IsElse : List Tok → List Statement → List Tok → Type 0 where
    no_else : {ts : List Tok} → IsElse ts [] ts
    otherwise : {p : Position} {ts rest : List Tok} {ss : List Statement} → IsStatements ts ss rest → IsElse ((p, token_kinds.Keyword keywords.Else) ∷ ts) ss rest

  -- label { ',' label } ':' statements
  pub data IsCase : List Tok → CaseElement → List Tok → Type 0 where
    case : {p : Position} {ts mid rest : List Tok} {ls : List Label} {ss : List Statement}
        → IsListed IsLabel ts ls ((p, token_kinds.Symbol symbols.Colon) ∷ mid) → IsStatements mid ss rest → IsCase ts (case_of ls ss) rest

  -- { case }
  pub data IsCases : List Tok → List CaseElement → List Tok → Type 0 where
    no_case : {ts : List Tok} → IsCases ts [] ts
    cases : {ts mid rest : List Tok} {x : CaseElement} {xs : List CaseElement} → IsCase ts x mid → IsCases mid xs rest
        → IsCases ts (x ∷ xs) rest
