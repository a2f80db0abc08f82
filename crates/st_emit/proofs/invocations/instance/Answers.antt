use Rattle.std.proofs.Common.{◌≡◌, ◌∙◌, None, ap, refl, rules, sym}
use Rattle.st_types.specs.Compositions.{unknown}
use Rattle.st_leaves.specs.Selected.{selected_by}
use Rattle.st_meaning.specs.Offsets.{offset_of}
use Rattle.st_meaning.specs.Wholes.{block_of}
use Rattle.st_emit.specs.Instances.{entering, instance_instr, running}
use Rattle.st_emit_expressions.specs.Trees.{whole_of}
use Rattle.st_emit.proofs.Invoking.{nothing_invoked}
use Rattle.st_emit.proofs.invocations.instance.Goals as goal

pub returns-in_err-first : goal.returns-in_err-first
returns-in_err-first c =
    let w = whole_of c.args.scope.now in
    let name = c.args.name.now.spelling in
    let nothing : selected_by w.variables name ≡ unknown =
    ap (λ d. selected_by d name) (sym c.root.ensures.part) ∙ ap (selected_by _) (sym c.as_slice.ensures) ∙ c.in_err-first.ensures.none refl in
    let is : instance_instr w name ≡ None =
    ap (λ d. running (offset_of w.variables name) (block_of d) (w.invoked name)) nothing ∙ ap (entering (offset_of w.variables name)) (nothing_invoked c.args.scope.now name nothing) in
    search (rules, is)
