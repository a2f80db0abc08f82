use Rattle.std.proofs.Common.{refl}
use Rattle.st_tokens.proofs.Keywords.{part_of_texts}
use Rattle.st_tokens.proofs.keyword.part.Goals as goal

pub returns : goal.returns
returns c = part_of_texts (λ row. (row.0, row.1.now)) c.args.table.now _ c.args.rows.start c.args.rows.end refl
