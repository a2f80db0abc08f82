use Rattle.std.proofs.Common.{◌++◌, ◌∙◌, ◌-◌, length, ap, reverse}
use Rattle.std.proofs.lemmas.List.{reverse-reverse}
use Rattle.st_meaning.specs.Typing.{body_of}
use Rattle.st_code.specs.Code.{commands_code}
use Rattle.st_places.specs.Parts.{whole_in}
use Rattle.st_emit_expressions.specs.Trees.{whole_of}
use Rattle.st_emit.proofs.body.emit_body.Goals as goal

pub returns : goal.returns
returns c =
    let w = whole_in c.args.tables.now c.args.unit in
    let made = commands_code w.variables (body_of w c.args.statements.now) 0 0 in
    c.reverse.ensures
    ∙ ap reverse (c.in_ok-emit_statements.ensures ∙ ap (λ s. c.new-code.result ++ reverse (commands_code (whole_of s).variables (body_of (whole_of s) c.args.statements.now) (length c.new-code.result - 0) (length c.new-code.result - 0))) c.new-scope.ensures
    ∙ ap (λ l. l ++ reverse (commands_code w.variables (body_of w c.args.statements.now) (length l - 0) (length l - 0))) c.new-code.ensures)
    ∙ reverse-reverse made
