-- Parsers: what is read from the first of some tokens on, or why nothing is.
use Rattle.std.specs.Prelude.{◌≡◌, ◌⊎◌, ◌<◌, ◌≤◌, ℕ, zero, suc, Bool, true, false, if◌then◌else◌, List, [], ◌∷◌, ◌++◌, length, Option, Some, Result, Ok, Err, OnOk}
use Rattle.st_tokens.specs.declared.symbol.Symbol.TheVariants as symbols
use Rattle.st_tokens.specs.declared.token.Kind.TheVariants as token_kinds
use Rattle.st_parser.specs.Names.{Identifier, Keyword, Kind, Position, ReadFault, Symbol}
use Rattle.st_parser.specs.declared.fault.ReadFault.TheVariants as read_faults
use Rattle.st_parser.specs.Grammar.Tokens.{identifier_of, Tok, kind, place, position, next, same_symbol, same_keyword}

-- Not in the grammar, or too deep: at the token that stands here, or at the end where there is none.
pub data Refusal : Type 0 where
  Wrong : Option Position → Refusal
  Deep : Option Position → Refusal

-- where it stands
abbrev pub place_of : Refusal → Option Position
place_of (Wrong at) = at
place_of (Deep at) = at

-- what was read, and the tokens after it
abbrev pub Outcome : Type 0 → Type 0
Outcome A = Result (A × List Tok) Refusal

abbrev pub Parser : Type 0 → Type 0
Parser A = List Tok → Outcome A

abbrev pub and_then : {A B : Type 0} → Outcome A → (A → Parser B) → Outcome B
and_then (Ok x) f = f x.0 x.1
and_then (Err r) f = Err r

infixl 10 ◌>>=◌
abbrev pub ◌>>=◌ : {A B : Type 0} → Parser A → (A → Parser B) → Parser B
p >>= f = λ ts. and_then (p ts) f

infixl 10 ◌>>◌
abbrev pub ◌>>◌ : {A B : Type 0} → Parser A → Parser B → Parser B
p >> q = p >>= (λ _. q)

abbrev pub pure : {A : Type 0} → A → Parser A
pure a = λ ts. Ok (a, ts)

abbrev pub refuse : {A : Type 0} → Parser A
refuse = λ ts. Err (Wrong (place ts))

-- the first token's position, and the tokens after it
abbrev pub bump : Parser Position
bump = λ ts. Ok (position ts, next ts)

-- what the first token is
abbrev pub peek : Parser (Option Kind)
peek = λ ts. Ok (kind ts, ts)

-- what the second token is
abbrev pub peek_second : Parser (Option Kind)
peek_second = λ ts. Ok (kind (next ts), ts)

-- where the first token stands
abbrev pub here : Parser Position
here = λ ts. Ok (position ts, ts)

-- ---- single tokens

abbrev pub is_symbol : Symbol → Option Kind → Bool
is_symbol x (Some (token_kinds.Symbol y)) = same_symbol x y
is_symbol x _ = false

abbrev pub is_keyword : Keyword → Option Kind → Bool
is_keyword x (Some (token_kinds.Keyword y)) = same_keyword x y
is_keyword x _ = false

abbrev pub is_word : Option Kind → Bool
is_word (Some (token_kinds.Word w)) = true
is_word _ = false

-- takes a token that passes the test
unfoldable pub expect : (Option Kind → Bool) → Parser Position
expect test = λ ts. if test (kind ts) then bump ts else refuse ts

abbrev pub expect_symbol : Symbol → Parser Position
expect_symbol x = expect (is_symbol x)

abbrev pub expect_keyword : Keyword → Parser Position
expect_keyword x = expect (is_keyword x)

-- takes a token that opens a level, where one more may be opened
unfoldable pub enter : ℕ → Parser Position
enter zero = λ ts. Err (Deep (place ts))
enter (suc depth_left) = bump

-- takes this symbol, which opens a level
unfoldable pub open_level : Symbol → ℕ → Parser Position
open_level x depth_left = λ ts. if is_symbol x (kind ts) then enter depth_left ts else refuse ts

abbrev pub identifier_by : Option Kind → Parser Identifier
identifier_by (Some (token_kinds.Word w)) = λ ts. Ok (identifier_of (position ts) w, next ts)
identifier_by _ = refuse

-- a word
unfoldable pub identifier : Parser Identifier
identifier = λ ts. identifier_by (kind ts) ts

-- a word, and this symbol after it
unfoldable pub identifier_before : Symbol → Parser Identifier
identifier_before x = do n ← identifier; expect_symbol x; pure n

abbrev pub number_by : Option Kind → Parser ℕ
number_by (Some (token_kinds.Number n)) = λ ts. Ok (n, next ts)
number_by _ = refuse

-- a number
unfoldable pub number : Parser ℕ
number = λ ts. number_by (kind ts) ts

-- ---- lists, whose turns are bounded by the count of tokens

unfoldable pub many_from : {A : Type 0} → (Option Kind → Bool) → Parser A → ℕ → Parser (List A)
many_from test item zero = refuse
many_from test item (suc n) = λ ts. if test (kind ts) then (do x ← item; xs ← many_from test item n; pure (x ∷ xs)) ts else Ok ([], ts)

-- { item }, as long as the first token passes the test
unfoldable pub many : {A : Type 0} → (Option Kind → Bool) → Parser A → Parser (List A)
many test item = λ ts. many_from test item (suc (length ts)) ts

-- what was found before, and then what is read
abbrev pub ahead : {A : Type 0} → List A → Outcome (List A) → Outcome (List A)
ahead found (Ok read) = Ok (found ++ read.0, read.1)
ahead found (Err r) = Err r

-- ',' item
unfoldable pub next_item : {A : Type 0} → Parser A → Parser A
next_item item = bump >> item

-- first { item }, as long as the first token passes the test
unfoldable pub leading : {A : Type 0} → Parser A → (Option Kind → Bool) → Parser A → Parser (List A)
leading first test item = do
  x ← first
  xs ← many test item
  pure (x ∷ xs)

-- item { ',' item }
unfoldable pub listed : {A : Type 0} → Parser A → Parser (List A)
listed item = leading item (is_symbol symbols.Comma) (next_item item)

-- ---- what a function that reads ensures

-- memory may always run out
abbrev pub Refuses : {A : Type 0} → Outcome A → ReadFault → Type 0
Refuses o read_faults.Memory = Unit {0}
Refuses o (read_faults.NotInGrammar at) = o ≡ Err (Wrong at)
Refuses o (read_faults.TooDeep at) = o ≡ Err (Deep at)

-- why something wasn't read, or memory ran out since
abbrev pub IsFaultOf : {A : Type 0} → Result A ReadFault → ReadFault → Type 0
IsFaultOf read fault = (read ≡ Err fault) ⊎ (fault ≡ read_faults.Memory)

-- the outcome, with these tokens after it, unless memory runs out
abbrev pub Reads : {A : Type 0} → Outcome A → Result A ReadFault → List Tok → Type 0
Reads o (Ok a) rest = o ≡ Ok (a, rest)
Reads o (Err f) rest = Refuses o f

-- that, and one token or more is taken
pub record Takes {A : Type 0} (o : Outcome A) (r : Result A ReadFault) (old new : List Tok) : Type 0 where
  pub reads : Reads o r new
  pub shorter : OnOk r (length new < length old)

-- that, where no token may be taken
pub record MayTake {A : Type 0} (o : Outcome A) (r : Result A ReadFault) (old new : List Tok) : Type 0 where
  pub reads : Reads o r new
  pub shorter : OnOk r (length new ≤ length old)
