-- What is open at a token.
use Rattle.std.specs.Prelude.{ℕ, zero, suc, ◌-◌, ◌==◌, Bool, true, false, if◌then◌else◌, List, [], ◌∷◌, ◌++◌, Option, Some, None, codes, length, slice_get, take}
use Rattle.st_tokens.specs.declared.keyword.Keyword.TheVariants as keywords
use Rattle.st_tokens.specs.declared.symbol.Symbol.TheVariants as symbols
use Rattle.st_tokens.specs.declared.token.Kind.{Kind}
use Rattle.st_tokens.specs.declared.token.Kind.TheVariants as kinds
use Rattle.st_tokens.specs.declared.token.Token.{Token}
use Rattle.st_syntax_messages.specs.declared.open.Group.{Group}
use Rattle.st_syntax_messages.specs.declared.open.Group.TheVariants as groups
use Rattle.st_syntax_messages.specs.declared.open.Open.{Open}

abbrev pub opened_by : Kind → Option Group
opened_by (kinds.Keyword keywords.Action) = Some groups.Action
opened_by (kinds.Keyword keywords.Case) = Some groups.Case
opened_by (kinds.Keyword keywords.For) = Some groups.For
opened_by (kinds.Keyword keywords.Function) = Some groups.Function
opened_by (kinds.Keyword keywords.FunctionBlock) = Some groups.FunctionBlock
opened_by (kinds.Keyword keywords.If) = Some groups.If
opened_by (kinds.Keyword keywords.InitialStep) = Some groups.Step
opened_by (kinds.Keyword keywords.Step) = Some groups.Step
opened_by (kinds.Keyword keywords.Program) = Some groups.Program
opened_by (kinds.Keyword keywords.Repeat) = Some groups.Repeat
opened_by (kinds.Keyword keywords.Struct) = Some groups.Struct
opened_by (kinds.Keyword keywords.Transition) = Some groups.Transition
opened_by (kinds.Keyword keywords.Type) = Some groups.Type
opened_by (kinds.Keyword keywords.Var) = Some groups.Var
opened_by (kinds.Keyword keywords.VarInput) = Some groups.Var
opened_by (kinds.Keyword keywords.VarOutput) = Some groups.Var
opened_by (kinds.Keyword keywords.While) = Some groups.While
opened_by (kinds.Symbol symbols.Open) = Some groups.Parenthesis
opened_by (kinds.Symbol symbols.OpenBracket) = Some groups.Bracket
opened_by _ = None

abbrev pub closed_by : Kind → Option Group
closed_by (kinds.Keyword keywords.EndAction) = Some groups.Action
closed_by (kinds.Keyword keywords.EndCase) = Some groups.Case
closed_by (kinds.Keyword keywords.EndFor) = Some groups.For
closed_by (kinds.Keyword keywords.EndFunction) = Some groups.Function
closed_by (kinds.Keyword keywords.EndFunctionBlock) = Some groups.FunctionBlock
closed_by (kinds.Keyword keywords.EndIf) = Some groups.If
closed_by (kinds.Keyword keywords.EndProgram) = Some groups.Program
closed_by (kinds.Keyword keywords.EndRepeat) = Some groups.Repeat
closed_by (kinds.Keyword keywords.EndStep) = Some groups.Step
closed_by (kinds.Keyword keywords.EndStruct) = Some groups.Struct
closed_by (kinds.Keyword keywords.EndTransition) = Some groups.Transition
closed_by (kinds.Keyword keywords.EndType) = Some groups.Type
closed_by (kinds.Keyword keywords.EndVar) = Some groups.Var
closed_by (kinds.Keyword keywords.EndWhile) = Some groups.While
closed_by (kinds.Symbol symbols.Close) = Some groups.Parenthesis
closed_by (kinds.Symbol symbols.CloseBracket) = Some groups.Bracket
closed_by _ = None

abbrev pub number_of : Group → ℕ
number_of groups.Action = 0
number_of groups.Case = 1
number_of groups.For = 2
number_of groups.Function = 3
number_of groups.FunctionBlock = 4
number_of groups.If = 5
number_of groups.Program = 6
number_of groups.Repeat = 7
number_of groups.Step = 8
number_of groups.Struct = 9
number_of groups.Transition = 10
number_of groups.Type = 11
number_of groups.Var = 12
number_of groups.While = 13
number_of groups.Parenthesis = 14
number_of groups.Bracket = 15

-- how the end of it is written
abbrev pub end_of : Group → List ℕ
end_of groups.Action = codes "END_ACTION"
end_of groups.Case = codes "END_CASE;"
end_of groups.For = codes "END_FOR;"
end_of groups.Function = codes "END_FUNCTION"
end_of groups.FunctionBlock = codes "END_FUNCTION_BLOCK"
end_of groups.If = codes "END_IF;"
end_of groups.Program = codes "END_PROGRAM"
end_of groups.Repeat = codes "END_REPEAT;"
end_of groups.Step = codes "END_STEP"
end_of groups.Struct = codes "END_STRUCT;"
end_of groups.Transition = codes "END_TRANSITION"
end_of groups.Type = codes "END_TYPE"
end_of groups.Var = codes "END_VAR"
end_of groups.While = codes "END_WHILE;"
end_of groups.Parenthesis = codes ")"
end_of groups.Bracket = codes "]"

abbrev pub is_group : Option Group → Group → Bool
is_group None group = false
is_group (Some closed) group = number_of closed == number_of group

-- the token closes this
abbrev pub closes : Kind → Group → Bool
closes kind group = is_group (closed_by kind) group

-- what is open last
abbrev pub last_of : List Open → Option Open
last_of opened = if length opened == 0 then None else slice_get opened (length opened - 1)

abbrev pub closes_it : Kind → Option Open → Bool
closes_it kind None = false
closes_it kind (Some last) = closes kind last.group

-- the token closes what is open last
abbrev pub closes_last : List Open → Kind → Bool
closes_last opened kind = closes_it kind (last_of opened)

abbrev pub with_opened : List Open → ℕ → Option Group → List Open
with_opened opened number None = opened
with_opened opened number (Some group) = opened ++ (record { number = number; group = group } ∷ [])

-- behind the token of this number: what it closes isn't open any more, and what it opens is
abbrev pub after : List Open → ℕ → Kind → List Open
after opened number kind = if closes_last opened kind then take (length opened - 1) opened else with_opened opened number (opened_by kind)

abbrev pub after_token : List Open → ℕ → Option Token → List Open
after_token opened number None = opened
after_token opened number (Some token) = after opened number token.kind

-- what is open before the token of this number, from the outside in
abbrev pub open_before : List Token → ℕ → List Open
open_before tokens zero = []
open_before tokens (suc number) = after_token (open_before tokens number) number (slice_get tokens number)

-- declarations are open last
abbrev pub is_declaring : Group → Bool
is_declaring groups.Var = true
is_declaring groups.Struct = true
is_declaring groups.Type = true
is_declaring _ = false

abbrev pub declares : Option Open → Bool
declares None = false
declares (Some last) = is_declaring last.group
