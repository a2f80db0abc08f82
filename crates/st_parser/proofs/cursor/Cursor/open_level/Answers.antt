use Rattle.std.proofs.Common.{sym, ◌∙◌}
use Rattle.st_parser.proofs.ParserLemmas.{open_level_takes}
use Rattle.st_parser.proofs.cursor.Cursor.open_level.Goals as goal

pub returns-then-at_symbol-clause-read : goal.returns-then-at_symbol-clause-read
returns-then-at_symbol-clause-read c = open_level_takes c.args.symbol c.args.depth_left c.args.self.now c.enter.new.self c.enter.result
    (sym c.at_symbol.ensures ∙ c.if-at_symbol.true) c.enter.ensures.read
