-- What the parser promises of a text.
use Rattle.std.specs.Prelude.{ℕ, ◌<◌, ◌^◌, List, length}
use Rattle.st_tokens.specs.Text.{HasTokens}
use Rattle.st_tokens.specs.declared.fault.SyntaxFault.{SyntaxFault}
use Rattle.st_tokens.specs.declared.fault.SyntaxFault.TheVariants as syntax_faults
use Rattle.st_parser.specs.Names as names
use Rattle.st_parser.specs.Names.{Token}
use Rattle.st_parser.specs.Grammar.Levels.{IsWithin}
use Rattle.st_parser.specs.Grammar.Tokens.{numbered}
use Rattle.st_syntax.specs.Grammar.Units.{AreUnits}

-- the text has tokens, they are these units, and in no prefix of them more than 64 levels are open
pub record IsTextOf (text : List ℕ) (us : List names.Unit) : Type 0 where
  pub tokens : List Token
  pub has : HasTokens 1 text tokens
  pub are : AreUnits (numbered 0 tokens) us
  pub within : IsWithin 64 (numbered 0 tokens)

-- the text has tokens, which no units are with at most 64 open levels
pub record IsOutside (text : List ℕ) : Type 0 where
  pub tokens : List Token
  pub has : HasTokens 1 text tokens
  pub never : (us : List names.Unit) → AreUnits (numbered 0 tokens) us → IsWithin 64 (numbered 0 tokens) → ⊥

-- the text has tokens, and in some prefix of them more than 64 levels are open
pub record IsDeep (text : List ℕ) : Type 0 where
  pub tokens : List Token
  pub has : HasTokens 1 text tokens
  pub deeper : IsWithin 64 (numbered 0 tokens) → ⊥

-- what a fault says of a text
abbrev pub Explains : SyntaxFault → List ℕ → Type 0
Explains syntax_faults.Memory text = Unit {0}
Explains (syntax_faults.NoToken line) text = (tokens : List Token) → HasTokens 1 text tokens → ⊥
Explains (syntax_faults.NotInGrammar line) text = IsOutside text
Explains (syntax_faults.TooDeep line) text = IsDeep text
Explains syntax_faults.TooLong text = 2 ^ 20 < length text
