-- Whether the grammar allows a token behind the beginning of a text.
use Rattle.std.specs.Prelude.{◌≡◌, ℕ, ◌<◌, Bool, true, false, ◌⊎◌, List, ◌++◌, codes}
use Rattle.st_parser.specs.Names as names
use Rattle.st_parser.specs.Reader.Parsers.{Wrong}
use Rattle.st_tokens.specs.declared.fault.SyntaxFault.{SyntaxFault}
use Rattle.st_tokens.specs.declared.fault.SyntaxFault.TheVariants as syntax_faults
use Rattle.st_messages.specs.Places.{line_after}
use Rattle.st_syntax.specs.Grammar.Texts.{Explains, IsTextOf}
use Rattle.st_syntax.specs.Stops.{NamesLine, StopsOn}

-- the beginning of a text, before a line of its own
abbrev pub begun : List ℕ → List ℕ
begun before = before ++ codes "\n"

-- that, with a token on that line
abbrev pub tried : List ℕ → List ℕ → List ℕ
tried before token = (begun before ++ token) ++ codes "\n "

-- the text is units, or no token up to this line is where it isn't in the grammar
abbrev pub PassesLine : List ℕ → ℕ → Type 0
PassesLine text line = ((us : List names.Unit) × IsTextOf text us) ⊎ ((stop : ℕ) × (line < stop) × StopsOn Wrong stop text)

-- the text has a fault on this line or before it, or one that isn't of a token that is out of place
abbrev pub IsBehind : SyntaxFault → ℕ → Type 0
IsBehind (syntax_faults.NotInGrammar stop) line = line < stop
IsBehind _ line = ⊥

abbrev pub FailsUpTo : List ℕ → ℕ → Type 0
FailsUpTo text line = (fault : SyntaxFault) × Explains fault text × NamesLine fault text × (IsBehind fault line → ⊥)

-- the token is allowed where a text with it is read beyond it
abbrev pub Allows : List ℕ → List ℕ → Bool → Type 0
Allows before token true = PassesLine (tried before token) (line_after (begun before))
Allows before token false = FailsUpTo (tried before token) (line_after (begun before))
