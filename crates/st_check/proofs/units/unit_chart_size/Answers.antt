use Rattle.std.proofs.Common.{◌≡◌, ℕ, IfOk, List, ap, inl, inr, subst, sym, ◌∙◌, ◌⊎◌}
use Rattle.std.specs.Borrow.{Bor}
use Rattle.st_leaves.specs.Charts.{chart_leaves, stored_by}
use Rattle.st_leaves.specs.Limits.{sizes_of}
use Rattle.st_leaves.specs.Sizes.{IsSize}
use Rattle.st_tree.specs.declared.tree.unit.ChartElement.{ChartElement}
use Rattle.st_tree.specs.declared.tree.unit.Pou.{Pou}
use Rattle.st_types.specs.Inside.{declared_by}
use Rattle.st_types.specs.Names.{chart_in, chart_of}
use Rattle.st_types.specs.declared.unit.UnitKind.{UnitKind}
use Rattle.st_types.specs.declared.unit.UnitKind.TheVariants as kinds
use Rattle.st_check.proofs.units.unit_chart_size.Goals.{in-Block, in-Block-2}
use Rattle.st_check.proofs.units.unit_chart_size.Goals as goal

-- the chart of a function block or a program
of_pou : (unit : UnitKind) (pou : Bor Pou) → (unit ≡ kinds.Block pou) ⊎ (unit ≡ kinds.Program pou) → chart_of pou.now.body ≡ chart_in (declared_by unit)
of_pou unit pou is =
    elim is [
      | inl block ↦ ap (λ u. chart_in (declared_by u)) (sym block)
      | inr program ↦ ap (λ u. chart_in (declared_by u)) (sym program)
    ]

pub returns-in-Chart : goal.returns-in-Chart
returns-in-Chart c =
    let body = c.as_slice.ensures ∙ sym (ap chart_of c.in-Chart.is) in
    let same : c.as_slice.result.now ≡ chart_in (declared_by c.args.unit) =
    elim c.match-unit.branch [
      | in-Block w ↦ body ∙ ap (λ (p : Bor Pou). chart_of p.now.body) w.pou-is ∙ of_pou c.args.unit w.in-Block.pou w.in-Block.is
      | in-Block-2 w ↦ body ∙ ap (λ (p : Bor Pou). chart_of p.now.body) w.pou-is ∙ of_pou c.args.unit w.in-Block.pou w.in-Block.is
    ] in
    subst (λ (es : List ChartElement). IfOk c.chart_size.result (λ size. (variables : List (List ℕ)) → IsSize size (sizes_of (chart_leaves (stored_by variables es) es)))) same c.chart_size.ensures
