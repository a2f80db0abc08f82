use Rattle.std.proofs.Common.{sym}
use Rattle.st_tokens.proofs.Longest.{token_at-empty}
use Rattle.st_tokens.proofs.scan.token_at.Goals as goal

pub returns-in_default : goal.returns-in_default
returns-in_default c = sym (token_at-empty c.args.text.now c.in_default.len_below)
