use Rattle.std.proofs.Common.{take}
use Rattle.st_syntax_messages.specs.Located.{AreReadOn}
use Rattle.st_syntax_messages.proofs.located.at_characters.Given as goal

-- those so far that begin on the line are tokens
abbrev pub invariant-loop-lexeme : goal.invariant-loop-lexeme
invariant-loop-lexeme l = AreReadOn l.text l.line (take l.lexeme-index l.found)
