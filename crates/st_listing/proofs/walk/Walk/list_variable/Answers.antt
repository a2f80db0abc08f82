use Rattle.std.proofs.Common.{◌≡◌, ◌∙◌, ap, false, subst}
use Rattle.st_types.specs.Names.{Declared}
use Rattle.st_tree.specs.Kinds.{is_input, is_constant}
use Rattle.st_listing.specs.Walks.{units_in}
use Rattle.st_listing.proofs.Variables.{variable_listed, variable_ways}
use Rattle.st_listing.proofs.walk.Walk.list_variable.Goals as goal

pub returns-clause-listed : goal.returns-clause-listed
returns-clause-listed c =
    let variable = subst (λ (v : Declared). is_constant v.kind ≡ false) c.row-row.ensures c.name.ensures.variable in
    let named = c.letters.ensures.bytes ∙ ap (λ name. name.spelling) (c.name.ensures.name ∙ ap (λ (v : Declared). v.name) c.row-row.ensures) in
    let kind = c.is_input.ensures ∙ ap is_input (c.kind.ensures ∙ ap (λ (v : Declared). v.kind) c.row-row.ensures) in
    variable_listed (units_in c.args.self) c.args.depth c.args.variable.now.declared variable c.args.listing.now c.enter.new.self c.set_input.new.self c.list_declared.new.listing c.set_input-2.new.self c.leave.new.self
    c.letters.result.now c.mark-mark.result c.is_input.result c.requires.input kind c.mark-mark.ensures named c.in_ok-enter.ensures c.set_input.ensures c.in_ok-list_declared.ensures.listed c.set_input-2.ensures c.leave.ensures

pub returns-clause-ways : goal.returns-clause-ways
returns-clause-ways c =
    let variable = subst (λ (v : Declared). is_constant v.kind ≡ false) c.row-row.ensures c.name.ensures.variable in
    let named = c.letters.ensures.bytes ∙ ap (λ name. name.spelling) (c.name.ensures.name ∙ ap (λ (v : Declared). v.name) c.row-row.ensures) in
    variable_ways (units_in c.args.self) c.args.depth c.args.variable.now.declared variable c.letters.result.now named c.letters.ensures.word c.in_ok-list_declared.ensures.ways
