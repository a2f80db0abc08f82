-- The types of tokens, in one place for the crates above.
use Rattle.st_tokens.specs.declared.fault.SyntaxFault as fault
use Rattle.st_tokens.specs.declared.keyword.Keyword as keyword
use Rattle.st_tokens.specs.declared.symbol.Symbol as symbol
use Rattle.st_tokens.specs.declared.token.Kind as kind
use Rattle.st_tokens.specs.declared.token.Token as token

abbrev pub Keyword : Type 0
Keyword = keyword.Keyword

abbrev pub Symbol : Type 0
Symbol = symbol.Symbol

abbrev pub Kind : Type 0
Kind = kind.Kind

abbrev pub Token : Type 0
Token = token.Token

abbrev pub SyntaxFault : Type 0
SyntaxFault = fault.SyntaxFault
