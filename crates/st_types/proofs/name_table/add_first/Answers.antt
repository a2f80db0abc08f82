use Rattle.std.proofs.Common.{rules, ℕ, ◌∙◌, ap}
use Rattle.std.specs.Option.{unwrap_or}
use Rattle.std.specs.Prelude.{Option}
use Rattle.indexmap.specs.Entry.{map_with_value}
use Rattle.st_types.proofs.Positions.{firsts-entered}
use Rattle.st_types.proofs.name_table.add_first.Goals as goal

pub returns-clause-firsts : goal.returns-clause-firsts
returns-clause-firsts c names number firsts q =
    let new = map_with_value c.in_ok-numbers.field-0 c.or_insert.result.now in
    let put = rw c.new.ensures at c.in_ok-numbers.ensures.update.0 c.or_insert.result.now in
    let value = rw c.new.ensures at c.in_ok-numbers.ensures.value in
    let entered = firsts-entered names c.args.name.now c.args.numbers.now firsts new c.or_insert.result.now
    (rw (← number) (c.or_insert.ensures.value ∙ ap (λ (o : Option ℕ). unwrap_or o c.args.number) value)) (λ q. put.0 q) q in
    search (rules, entered)
