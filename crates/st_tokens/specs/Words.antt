-- Words (IEC 61131-3:2003, 2.1.2) and reserved words (2.1.3 and annex C).
use Rattle.std.specs.Prelude.{◌≡◌, ℕ, Bool, true, false, ◌==◌, ◌⊎◌, List, [], ◌∷◌, ◌++◌, codes, map, Option, option_map}
use Rattle.std.specs.Char.{to_ascii_lowercase}
use Rattle.std.specs.List.{filter, find}
use Rattle.st_values.specs.declared.elem.Elem.{Elem}
use Rattle.st_values.specs.declared.elem.TheConstants.Elem.{ALL}
use Rattle.st_values.specs.Words.{is_word, AreWordBytes}
use Rattle.st_values.specs.Types.{name_of}
use Rattle.st_tokens.specs.declared.keyword.TheConstants.{KEYWORDS}
use Rattle.st_tokens.specs.declared.keyword.Keyword.{Keyword}
use Rattle.st_tokens.specs.declared.keyword.Keyword.TheVariants as keywords
use Rattle.st_tokens.specs.Characters.{begins_word}

-- a reserved word in upper case
abbrev pub spelling_of : Keyword → List ℕ
spelling_of keywords.Action = codes "ACTION"
spelling_of keywords.And = codes "AND"
spelling_of keywords.Array = codes "ARRAY"
spelling_of keywords.At = codes "AT"
spelling_of keywords.By = codes "BY"
spelling_of keywords.Case = codes "CASE"
spelling_of keywords.Configuration = codes "CONFIGURATION"
spelling_of keywords.Constant = codes "CONSTANT"
spelling_of keywords.Do = codes "DO"
spelling_of keywords.Else = codes "ELSE"
spelling_of keywords.Elsif = codes "ELSIF"
spelling_of keywords.En = codes "EN"
spelling_of keywords.EndAction = codes "END_ACTION"
spelling_of keywords.EndCase = codes "END_CASE"
spelling_of keywords.EndConfiguration = codes "END_CONFIGURATION"
spelling_of keywords.EndFor = codes "END_FOR"
spelling_of keywords.EndFunction = codes "END_FUNCTION"
spelling_of keywords.EndFunctionBlock = codes "END_FUNCTION_BLOCK"
spelling_of keywords.EndIf = codes "END_IF"
spelling_of keywords.EndProgram = codes "END_PROGRAM"
spelling_of keywords.EndRepeat = codes "END_REPEAT"
spelling_of keywords.EndResource = codes "END_RESOURCE"
spelling_of keywords.EndStep = codes "END_STEP"
spelling_of keywords.EndStruct = codes "END_STRUCT"
spelling_of keywords.EndTransition = codes "END_TRANSITION"
spelling_of keywords.EndType = codes "END_TYPE"
spelling_of keywords.EndVar = codes "END_VAR"
spelling_of keywords.EndWhile = codes "END_WHILE"
spelling_of keywords.Eno = codes "ENO"
spelling_of keywords.Exit = codes "EXIT"
spelling_of keywords.False = codes "FALSE"
spelling_of keywords.For = codes "FOR"
spelling_of keywords.From = codes "FROM"
spelling_of keywords.Function = codes "FUNCTION"
spelling_of keywords.FunctionBlock = codes "FUNCTION_BLOCK"
spelling_of keywords.FEdge = codes "F_EDGE"
spelling_of keywords.If = codes "IF"
spelling_of keywords.InitialStep = codes "INITIAL_STEP"
spelling_of keywords.Mod = codes "MOD"
spelling_of keywords.NonRetain = codes "NON_RETAIN"
spelling_of keywords.Not = codes "NOT"
spelling_of keywords.Of = codes "OF"
spelling_of keywords.Or = codes "OR"
spelling_of keywords.Program = codes "PROGRAM"
spelling_of keywords.Repeat = codes "REPEAT"
spelling_of keywords.Resource = codes "RESOURCE"
spelling_of keywords.Retain = codes "RETAIN"
spelling_of keywords.Return = codes "RETURN"
spelling_of keywords.REdge = codes "R_EDGE"
spelling_of keywords.Step = codes "STEP"
spelling_of keywords.Struct = codes "STRUCT"
spelling_of keywords.Task = codes "TASK"
spelling_of keywords.Then = codes "THEN"
spelling_of keywords.To = codes "TO"
spelling_of keywords.Transition = codes "TRANSITION"
spelling_of keywords.True = codes "TRUE"
spelling_of keywords.Type = codes "TYPE"
spelling_of keywords.Until = codes "UNTIL"
spelling_of keywords.Var = codes "VAR"
spelling_of keywords.VarAccess = codes "VAR_ACCESS"
spelling_of keywords.VarExternal = codes "VAR_EXTERNAL"
spelling_of keywords.VarGlobal = codes "VAR_GLOBAL"
spelling_of keywords.VarInput = codes "VAR_INPUT"
spelling_of keywords.VarInOut = codes "VAR_IN_OUT"
spelling_of keywords.VarOutput = codes "VAR_OUTPUT"
spelling_of keywords.VarTemp = codes "VAR_TEMP"
spelling_of keywords.While = codes "WHILE"
spelling_of keywords.Xor = codes "XOR"

-- the same word: case isn't significant
abbrev pub IsSame : List ℕ → List ℕ → Type 0
IsSame a b = map to_ascii_lowercase a ≡ map to_ascii_lowercase b

-- a word: a letter or `_`, and then letters, digits and `_`
abbrev pub IsWord : List ℕ → Type 0
IsWord [] = ⊥
IsWord (b ∷ bs) = (begins_word b ≡ true) × AreWordBytes bs

-- two `_` in a row, or one at the end
abbrev pub IsUnclean : List ℕ → Type 0
IsUnclean w = ((prefix back : List ℕ) × (w ≡ prefix ++ (codes "__" ++ back))) ⊎ ((prefix : List ℕ) × (w ≡ prefix ++ codes "_"))

-- a word that no program may use for its own names
abbrev pub IsReserved : List ℕ → Type 0
IsReserved w = ((keyword : Keyword) × IsSame w (spelling_of keyword)) ⊎ ((elem : Elem) × IsSame w (name_of elem))

-- whether a word begins with this letter, which is in lower case
abbrev pub begins_as : ℕ → List ℕ → Bool
begins_as letter [] = false
begins_as letter (b ∷ bs) = to_ascii_lowercase b == letter

-- the keyword of the first row whose text this is, ignoring case
abbrev pub keyword_in : List (Keyword × List ℕ) → List ℕ → Option Keyword
keyword_in rows w = option_map (λ row. row.0) (find (λ row. is_word row.1 w) rows)

-- the reserved word that this is, ignoring case
unfoldable pub keyword_of : List ℕ → Option Keyword
keyword_of w = keyword_in (map (λ row. (row.0, row.1.now)) KEYWORDS) w

-- the reserved words with their texts
unfoldable pub spellings : List (Keyword × List ℕ)
spellings = map (λ row. (row.0, row.1.now)) KEYWORDS

-- those that begin with this letter, which is in lower case
unfoldable pub keywords_with : ℕ → List (Keyword × List ℕ)
keywords_with letter = filter (λ row. begins_as letter row.1) spellings

-- the type whose name this is, ignoring case
unfoldable pub elem_of : List ℕ → Option Elem
elem_of w = find (λ elem. is_word (name_of elem) w) ALL

-- the types whose names begin with this letter, which is in lower case
unfoldable pub elems_with : ℕ → List Elem
elems_with letter = filter (λ elem. begins_as letter (name_of elem)) ALL
