use Rattle.std.proofs.Common.{◌≡◌, ◌∙◌, ap, min}
use Rattle.st_check.specs.Sized.{size_at}
use Rattle.st_leaves.specs.declared.limited.Size.{Size}
use Rattle.st_places.proofs.Counts.{elementary_counted, standard_counted, unit_counted, unit_is, unknown_counted}
use Rattle.st_places.proofs.count.leaves_of.Goals as goal

pub returns-in-Unknown-clause-count : goal.returns-in-Unknown-clause-count
returns-in-Unknown-clause-count c = λ units sized. unknown_counted units c.args.base c.in-Unknown.is

pub returns-in-Elementary-clause-count : goal.returns-in-Elementary-clause-count
returns-in-Elementary-clause-count c = λ units sized. elementary_counted units c.args.base c.in-Elementary.field-0 c.in-Elementary.is

pub returns-in-Standard-clause-count : goal.returns-in-Standard-clause-count
returns-in-Standard-clause-count c = λ units sized. standard_counted units c.args.base c.in-Standard.block c.standard_size.result c.in-Standard.is c.standard_size.ensures c.min.ensures

pub returns-in-Array-clause-count : goal.returns-in-Array-clause-count
returns-in-Array-clause-count c = λ units sized.
    let read : c.min-in-Array.result ≡ min (size_at c.args.sizes.now c.in-Array.unit).leaves 1000000 = c.min-in-Array.ensures ∙ ap (λ (size : Size). min size.leaves 1000000) c.size_at.ensures in
    unit_counted units c.args.sizes.now c.args.base c.in-Array.unit (unit_is c.args.base c.in-Array.unit c.in-Array.is) sized read
