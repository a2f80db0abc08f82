use Rattle.std.proofs.Common.{rules}
use Rattle.std.specs.String.{string_bytes}
use Rattle.st_listing.proofs.Choices.{text_of_rest}
use Rattle.st_listing.proofs.subscripts.put_choice.Goals as goal

pub returns : goal.returns
returns c =
    text_of_rest c.put_others.result c.args.chosen.now (string_bytes c.args.text.now) (string_bytes c.put_number.new.text) (string_bytes c.put_others.new.text) (search rules) _
    c.in_ok-put_number.ensures c.put_others.ensures
