use Rattle.std.proofs.Common.{rules, ◌≡◌, ◌∙◌, ap, sym, FitsSigned, Option, Some, None}
use Rattle.std.proofs.lemmas.Int.{to_z-of_z}
use Rattle.std.specs.Option.{option_and_then, ok_or}
use Rattle.std.specs.Result.{MatchResult}
use mir.Syntax.{w128}
use Rattle.st_values.proofs.SignLemmas.{read-capped}
use Rattle.st_values.specs.Readings.{number_in, reads, value_of}
use Rattle.st_values.specs.Types.{class_of}
use Rattle.st_values.specs.declared.read.BadValue.{BadValue}
use Rattle.st_values.specs.declared.value.Value.{Value}
use Rattle.st_values.proofs.read.read_value.Goals as goal

-- what is there is answered, and what isn't is the error
answered : (read : Option Value) (value : Option Value) → read ≡ value → MatchResult (ok_or {E = BadValue} value (record {})) (λ v. read ≡ Some v) (λ _. read ≡ None)
answered read None is = is
answered read (Some v) is = is

pub returns-in-Some : goal.returns-in-Some
unfolding reads
returns-in-Some c =
    let fits : FitsSigned w128 c.in-Some.number = search rules in
    let value : c.in_range.result ≡ value_of c.args.elem c.in-Some.number = simp to_z-of_z at c.in_range.ensures in
    let number = number_in (class_of c.args.elem) c.args.elem c.args.text.now in
    rw c.ok_or.ensures.value (answered (reads c.args.elem c.args.text.now) c.in_range.result
    (sym (read-capped c.args.elem number) ∙ ap (option_and_then (value_of c.args.elem)) (sym c.in-Some.ensures) ∙ sym value))
