-- What tokens of these kinds may stand before and behind. Each is asked of a token, or of none.
use Rattle.std.specs.Prelude.{Bool, true, false, Option, Some}
use Rattle.st_tokens.specs.declared.keyword.Keyword.TheVariants as keywords
use Rattle.st_tokens.specs.declared.symbol.Symbol.TheVariants as symbols
use Rattle.st_tokens.specs.declared.token.Kind.{Kind}
use Rattle.st_tokens.specs.declared.token.Kind.TheVariants as kinds

-- a reserved word or a type, which could be taken for a name; behind ELSE a label may stand
abbrev pub is_reserved : Option Kind → Bool
is_reserved (Some (kinds.Keyword keywords.Else)) = false
is_reserved (Some (kinds.Keyword keyword)) = true
is_reserved (Some (kinds.Type elem)) = true
is_reserved _ = false

-- a type, or a reserved word that neither ends nor divides anything
abbrev pub is_plain : Option Kind → Bool
is_plain (Some (kinds.Type elem)) = true
is_plain (Some (kinds.Keyword keywords.Step)) = true
is_plain (Some (kinds.Keyword keywords.Action)) = true
is_plain (Some (kinds.Keyword keywords.Transition)) = true
is_plain (Some (kinds.Keyword keywords.By)) = true
is_plain (Some (kinds.Keyword keywords.From)) = true
is_plain (Some (kinds.Keyword keywords.Constant)) = true
is_plain (Some (kinds.Keyword keywords.Retain)) = true
is_plain (Some (kinds.Keyword keywords.NonRetain)) = true
is_plain (Some (kinds.Keyword keywords.Type)) = true
is_plain (Some (kinds.Keyword keywords.Program)) = true
is_plain (Some (kinds.Keyword keywords.Function)) = true
is_plain (Some (kinds.Keyword keywords.Exit)) = true
is_plain (Some (kinds.Keyword keywords.Return)) = true
is_plain (Some (kinds.Keyword keywords.Array)) = true
is_plain (Some (kinds.Keyword keywords.Struct)) = true
is_plain _ = false

-- a name, or an operand, is due behind it
abbrev pub wants_name : Option Kind → Bool
wants_name (Some (kinds.Keyword keywords.Program)) = true
wants_name (Some (kinds.Keyword keywords.Function)) = true
wants_name (Some (kinds.Keyword keywords.FunctionBlock)) = true
wants_name (Some (kinds.Keyword keywords.Step)) = true
wants_name (Some (kinds.Keyword keywords.InitialStep)) = true
wants_name (Some (kinds.Keyword keywords.Action)) = true
wants_name (Some (kinds.Keyword keywords.For)) = true
wants_name (Some (kinds.Keyword keywords.From)) = true
wants_name (Some (kinds.Keyword keywords.And)) = true
wants_name (Some (kinds.Keyword keywords.Or)) = true
wants_name (Some (kinds.Keyword keywords.Xor)) = true
wants_name (Some (kinds.Keyword keywords.Not)) = true
wants_name (Some (kinds.Keyword keywords.Mod)) = true
wants_name (Some (kinds.Keyword keywords.If)) = true
wants_name (Some (kinds.Keyword keywords.Elsif)) = true
wants_name (Some (kinds.Keyword keywords.While)) = true
wants_name (Some (kinds.Keyword keywords.Until)) = true
wants_name (Some (kinds.Keyword keywords.Case)) = true
wants_name (Some (kinds.Symbol symbols.Dot)) = true
wants_name (Some (kinds.Symbol symbols.Assign)) = true
wants_name (Some (kinds.Symbol symbols.Plus)) = true
wants_name (Some (kinds.Symbol symbols.Minus)) = true
wants_name (Some (kinds.Symbol symbols.Times)) = true
wants_name (Some (kinds.Symbol symbols.Divide)) = true
wants_name (Some (kinds.Symbol symbols.Equal)) = true
wants_name (Some (kinds.Symbol symbols.NotEqual)) = true
wants_name (Some (kinds.Symbol symbols.Less)) = true
wants_name (Some (kinds.Symbol symbols.LessEqual)) = true
wants_name (Some (kinds.Symbol symbols.Greater)) = true
wants_name (Some (kinds.Symbol symbols.GreaterEqual)) = true
wants_name (Some (kinds.Symbol symbols.Open)) = true
wants_name (Some (kinds.Symbol symbols.OpenBracket)) = true
wants_name (Some (kinds.Symbol symbols.Comma)) = true
wants_name (Some (kinds.Symbol symbols.Ampersand)) = true
wants_name _ = false

-- what stands before it can only be a name
abbrev pub names_before : Option Kind → Bool
names_before (Some (kinds.Symbol symbols.Colon)) = true
names_before (Some (kinds.Symbol symbols.Assign)) = true
names_before (Some (kinds.Symbol symbols.Dot)) = true
names_before (Some (kinds.Symbol symbols.OpenBracket)) = true
names_before (Some (kinds.Symbol symbols.Output)) = true
names_before _ = false

-- `,`
abbrev pub is_comma : Option Kind → Bool
is_comma (Some (kinds.Symbol symbols.Comma)) = true
is_comma _ = false

-- a `;` may be missing before it
abbrev pub may_follow_semicolon : Option Kind → Bool
may_follow_semicolon (Some (kinds.Word word)) = true
may_follow_semicolon (Some (kinds.Keyword keyword)) = true
may_follow_semicolon (Some (kinds.Type elem)) = true
may_follow_semicolon (Some (kinds.Symbol symbols.Semicolon)) = true
may_follow_semicolon _ = false

-- a statement, also an empty one, may begin behind it, since none goes on before it
abbrev pub begins_statement : Option Kind → Bool
begins_statement (Some (kinds.Symbol symbols.Semicolon)) = true
begins_statement (Some (kinds.Symbol symbols.Colon)) = true
begins_statement (Some (kinds.Keyword keywords.EndIf)) = false
begins_statement (Some (kinds.Keyword keywords.EndCase)) = false
begins_statement (Some (kinds.Keyword keywords.EndFor)) = false
begins_statement (Some (kinds.Keyword keywords.EndWhile)) = false
begins_statement (Some (kinds.Keyword keywords.EndRepeat)) = false
begins_statement (Some (kinds.Keyword keywords.EndStruct)) = false
begins_statement (Some (kinds.Keyword keywords.Exit)) = false
begins_statement (Some (kinds.Keyword keywords.Return)) = false
begins_statement (Some (kinds.Keyword keywords.True)) = false
begins_statement (Some (kinds.Keyword keywords.False)) = false
begins_statement (Some (kinds.Keyword keyword)) = true
begins_statement _ = false

-- it divides what is open, or begins what can't stand inside everything
abbrev pub begins_outside : Option Kind → Bool
begins_outside (Some (kinds.Keyword keywords.Until)) = true
begins_outside (Some (kinds.Keyword keywords.Program)) = true
begins_outside (Some (kinds.Keyword keywords.Function)) = true
begins_outside (Some (kinds.Keyword keywords.FunctionBlock)) = true
begins_outside (Some (kinds.Keyword keywords.Type)) = true
begins_outside (Some (kinds.Keyword keywords.Var)) = true
begins_outside (Some (kinds.Keyword keywords.VarInput)) = true
begins_outside (Some (kinds.Keyword keywords.VarOutput)) = true
begins_outside (Some (kinds.Keyword keywords.Step)) = true
begins_outside (Some (kinds.Keyword keywords.InitialStep)) = true
begins_outside (Some (kinds.Keyword keywords.Transition)) = true
begins_outside (Some (kinds.Keyword keywords.Action)) = true
begins_outside (Some (kinds.Keyword keywords.If)) = true
begins_outside (Some (kinds.Keyword keywords.Case)) = true
begins_outside (Some (kinds.Keyword keywords.For)) = true
begins_outside (Some (kinds.Keyword keywords.While)) = true
begins_outside (Some (kinds.Keyword keywords.Repeat)) = true
begins_outside (Some (kinds.Keyword keywords.Then)) = true
begins_outside (Some (kinds.Keyword keywords.Do)) = true
begins_outside (Some (kinds.Symbol symbols.Semicolon)) = true
begins_outside _ = false

-- IF
abbrev pub is_if : Option Kind → Bool
is_if (Some (kinds.Keyword keywords.If)) = true
is_if _ = false

-- ELSE
abbrev pub is_else : Option Kind → Bool
is_else (Some (kinds.Keyword keywords.Else)) = true
is_else _ = false
