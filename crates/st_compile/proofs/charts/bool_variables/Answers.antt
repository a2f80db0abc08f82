use Rattle.std.specs.Option.{is_some}
use Rattle.std.proofs.Common.{[], ◌∷◌, ◌++◌, ◌∙◌, List, ap, map, sym, take, ℕ}
use Rattle.st_meaning.specs.Sketched.{variable_named}
use Rattle.st_places.specs.Parts.{whole_in}
use Rattle.st_compile.proofs.Listed.{map_more}
use Rattle.st_compile.proofs.charts.bool_variables.Goals as goal

pub names-preserved : goal.names-preserved
names-preserved c =
    let flag = λ (n : List ℕ). is_some (variable_named (whole_in c.args.tables.now c.args.unit).variables n) in
    c.in_ok-push.ensures.items ∙ ap (λ flags. flags ++ c.is_bool_variable.result ∷ []) c.names.invariant
    ∙ ap (λ b. map flag (take c.names.number c.args.names.now) ++ b ∷ []) c.is_bool_variable.ensures
    ∙ sym (map_more flag c.args.names.now c.names.number c.name.result.now c.name.ensures)
