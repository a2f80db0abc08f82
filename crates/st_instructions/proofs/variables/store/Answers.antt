use Rattle.std.proofs.Common.{rules, subst, sym, w64}
use Rattle.std.proofs.lemmas.Int.{to_z-of_z}
use Rattle.std.proofs.lemmas.List.Elements.{All-set}
use Rattle.st_values.specs.Values.{IsValue}
use Rattle.st_instructions.proofs.variables.store.Goals as goal

pub returns-clause-values : goal.returns-clause-values
returns-clause-values c =
    let value = rw (to_z-of_z w64 c.args.cell (search rules)) at c.value_in.ensures in
    All-set IsValue c.args.variables.now c.args.place c.value_in.result (subst IsValue (sym value) c.requires.cell) c.requires.values
