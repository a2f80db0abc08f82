use Rattle.std.proofs.Common.{◌∙◌, ap}
use Rattle.std.specs.Prelude.{min, ◌-ℤ◌}
use Rattle.st_tree.specs.Literals.{number_of}
use Rattle.st_leaves.specs.Subscripts.{value_of, values_from}
use Rattle.st_leaves.proofs.Texts.{count}
use Rattle.st_places.proofs.dimension.extent_of.Goals as goal

pub returns : goal.returns
returns c =
    c.of_subrange.ensures.count ∙ ap (λ n. min n 1000000) (count (values_from (value_of c.number_written-2.result -ℤ value_of c.number_written.result)) (value_of c.number_written.result))
    ∙ ap (λ x. min (values_from (x -ℤ value_of c.number_written.result)) 1000000) (ap value_of c.number_written-2.ensures)
    ∙ ap (λ x. min (values_from (number_of c.args.range.now.upper -ℤ x)) 1000000) (ap value_of c.number_written.ensures)
