use Rattle.st_operators.proofs.Results.{greatest_is, least_is, limited_is, rotated_left_is, rotated_right_is, selected_is, shifted_left_is, shifted_right_is, wrapped_is}
use Rattle.st_operators.proofs.laws.functions_give_values.Goals as goal

pub returns-clause-absolute : goal.returns-clause-absolute
returns-clause-absolute c = λ a. wrapped_is a.elem _

pub returns-clause-least : goal.returns-clause-least
returns-clause-least c = least_is

pub returns-clause-greatest : goal.returns-clause-greatest
returns-clause-greatest c = greatest_is

pub returns-clause-limited : goal.returns-clause-limited
returns-clause-limited c = limited_is

pub returns-clause-selected : goal.returns-clause-selected
returns-clause-selected c = selected_is

pub returns-clause-shifted_left : goal.returns-clause-shifted_left
returns-clause-shifted_left c = shifted_left_is

pub returns-clause-shifted_right : goal.returns-clause-shifted_right
returns-clause-shifted_right c = shifted_right_is

pub returns-clause-rotated_left : goal.returns-clause-rotated_left
returns-clause-rotated_left c = rotated_left_is

pub returns-clause-rotated_right : goal.returns-clause-rotated_right
returns-clause-rotated_right c = rotated_right_is

pub returns-clause-converted : goal.returns-clause-converted
returns-clause-converted c = λ elem a. wrapped_is elem _
