use Rattle.std.proofs.Common.{rules, sym, ◌∙◌}
use Rattle.st_types.specs.Inside.{named_by}
use Rattle.st_explain.proofs.Passing.{finds_missing, finds_nothing, finds_only, finds_size}
use Rattle.st_explain.proofs.finding.size_of.Goals as goal

pub returns-in_default : goal.returns-in_default
returns-in_default c = finds_missing c.args.tables.now c.args.main.now c.args.order.now c.requires (sym c.program_named.ensures ∙ search rules)

pub returns-then-branch : goal.returns-then-branch
returns-then-branch c = (
  finds_size c.args.tables.now c.args.main.now c.args.order.now c.requires c.in-Some.number (sym c.program_named.ensures ∙ c.in-Some.is)
      (named_by c.unit.result) (sym c.unit.ensures) (sym (c.in_ok-is_too_large.ensures (named_by c.unit.result) (sym c.unit.ensures)) ∙ c.if-branch.true),
  finds_only c.args.tables.now c.args.main.now c.args.order.now c.requires c.in-Some.number (sym c.program_named.ensures ∙ c.in-Some.is),
)

pub returns : goal.returns
returns c = (
  c.in-Some.number,
  finds_nothing c.args.tables.now c.args.main.now c.args.order.now c.requires c.in-Some.number (sym c.program_named.ensures ∙ c.in-Some.is)
      (λ u found. sym (c.in_ok-is_too_large.ensures u found) ∙ c.if-branch.false),
)
