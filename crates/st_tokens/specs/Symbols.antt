-- Symbols.
use Rattle.std.specs.Prelude.{ℕ, List, codes}
use Rattle.st_tokens.specs.declared.symbol.Symbol.{Symbol}
use Rattle.st_tokens.specs.declared.symbol.Symbol.TheVariants as symbols

-- how a symbol is written
abbrev pub symbol_text : Symbol → List ℕ
symbol_text symbols.Assign = codes ":="
symbol_text symbols.Output = codes "=>"
symbol_text symbols.LessEqual = codes "<="
symbol_text symbols.GreaterEqual = codes ">="
symbol_text symbols.NotEqual = codes "<>"
symbol_text symbols.Range = codes ".."
symbol_text symbols.Open = codes "("
symbol_text symbols.Close = codes ")"
symbol_text symbols.OpenBracket = codes "["
symbol_text symbols.CloseBracket = codes "]"
symbol_text symbols.Comma = codes ","
symbol_text symbols.Semicolon = codes ";"
symbol_text symbols.Colon = codes ":"
symbol_text symbols.Dot = codes "."
symbol_text symbols.Plus = codes "+"
symbol_text symbols.Minus = codes "-"
symbol_text symbols.Times = codes "*"
symbol_text symbols.Divide = codes "/"
symbol_text symbols.Equal = codes "="
symbol_text symbols.Less = codes "<"
symbol_text symbols.Greater = codes ">"
symbol_text symbols.Ampersand = codes "&"
symbol_text symbols.Percent = codes "%"
