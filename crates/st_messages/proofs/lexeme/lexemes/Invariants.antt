use Rattle.std.proofs.Common.{length, ◌≤◌, List}
use Rattle.std.specs.List.{All}
use Rattle.st_tokens.specs.declared.token.Token.{Token}
use Rattle.st_tokens.specs.Text.{HasTokens}
use Rattle.st_messages.specs.Lexemes.{IsWithin}
use Rattle.st_messages.proofs.Lexing.{Finds, Sees}
use Rattle.st_messages.proofs.lexeme.lexemes.Given as goal

-- the lexemes found are the pieces so far, and the tokens so far, where the text has tokens
abbrev pub invariant-loop-rest : goal.invariant-loop-rest
invariant-loop-rest l = record {
  less : length l.rest ≤ length l.text;
  within : All (IsWithin l.text) l.found.items;
  finds : Finds l.text l.found.items l.rest;
  sees : (ts : List Token) → HasTokens 1 l.text ts → Sees l.text l.found.items l.rest;
}

abbrev pub decreases-loop-rest : goal.decreases-loop-rest
decreases-loop-rest l = length l.rest
