use Rattle.st_listing.proofs.Choices.{all_left}
use Rattle.st_listing.proofs.subscripts.Subscripts.of.Goals as goal

pub returns : goal.returns
returns c = all_left c.args.ranges.now c.in_ok-first_choice.field-0.items c.have_numbers.result c.in_ok-first_choice.ensures c.have_numbers.ensures
