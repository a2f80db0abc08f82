-- Why a text isn't read, from why its tokens aren't.
use Rattle.std.specs.Prelude.{ℕ, Option, Some, None}
use Rattle.st_tokens.specs.declared.fault.SyntaxFault.{SyntaxFault}
use Rattle.st_tokens.specs.declared.fault.SyntaxFault.TheVariants as syntax_faults
use Rattle.st_parser.specs.Names.{Position, ReadFault}
use Rattle.st_parser.specs.declared.fault.ReadFault.TheVariants as read_faults

-- the line of a token, or the text's last line where there is no token
abbrev pub line_or : ℕ → Option Position → ℕ
line_or last None = last
line_or last (Some place) = place.line

-- the fault of a text whose last byte stands on this line
abbrev pub in_text : ℕ → ReadFault → SyntaxFault
in_text last read_faults.Memory = syntax_faults.Memory
in_text last (read_faults.NotInGrammar place) = syntax_faults.NotInGrammar (line_or last place)
in_text last (read_faults.TooDeep place) = syntax_faults.TooDeep (line_or last place)
