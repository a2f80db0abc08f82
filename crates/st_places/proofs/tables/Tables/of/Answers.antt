use Rattle.std.proofs.Common.{List, subst, sym, ◌∙◌, ◌≡◌}
use Rattle.st_check.specs.Programs.{text_of}
use Rattle.st_check.proofs.ElementaryFunctions.{elementary_functions}
use Rattle.st_references.specs.Graphs.{IsOrder}
use Rattle.st_references.specs.References.{graph_of}
use Rattle.st_tree.specs.declared.tree.unit.Unit.{Unit as Section}
use Rattle.st_types.specs.Names.{units_of}
use Rattle.st_places.specs.Callables.{AreElementary, AreFunctions}
use Rattle.st_places.specs.Contents.{AreNamed, AreOf}
use Rattle.st_places.proofs.Blocks.{all_named}
use Rattle.st_places.proofs.Selections.{all_unfolded}
use Rattle.st_places.proofs.tables.Tables.of.Goals as goal

pub parts_of-requires : goal.parts_of-requires
parts_of-requires c =
    let same : c.in_ok-scopes.scopes ≡ text_of c.args.program.now = c.in_ok-scopes.ensures ∙ c.units-text.ensures.units in
    subst (λ (text : List Section). IsOrder (graph_of (units_of text)) c.order.result.now) (sym same)
    (subst (IsOrder (graph_of (units_of (text_of c.args.program.now)))) (sym c.order.ensures.order) c.order.ensures.checked.ordered)

pub invariant_of-result : goal.invariant_of-result
invariant_of-result c =
    let same : c.in_ok-scopes.scopes ≡ text_of c.args.program.now = c.in_ok-scopes.ensures ∙ c.units-text.ensures.units in
    let ordered : IsOrder (graph_of (units_of c.in_ok-scopes.scopes)) c.order.result.now =
    subst (λ (text : List Section). IsOrder (graph_of (units_of text)) c.order.result.now) (sym same)
    (subst (IsOrder (graph_of (units_of (text_of c.args.program.now)))) (sym c.order.ensures.order) c.order.ensures.checked.ordered) in
    let named : AreNamed (units_of c.in_ok-scopes.scopes) =
    subst (λ (text : List Section). AreNamed (units_of text)) (sym same) (all_named (units_of (text_of c.args.program.now)) c.order.ensures.checked.faultless) in
    record {
      parts =
          subst (λ (text : List Section). AreOf (units_of text) c.in_ok-units.units.items) c.in_ok-scopes.ensures
          (record { len = c.in_ok-units.ensures.len; each = c.in_ok-units.ensures.units; unfolded = all_unfolded (units_of c.in_ok-scopes.scopes) c.order.result.now ordered; named = named });
      functions = subst (λ (text : List Section). AreFunctions (units_of text) c.in_ok-units.functions) c.in_ok-scopes.ensures c.in_ok-units.ensures.functions;
      elementary =
          subst (λ (text : List Section). AreElementary (units_of text)) (sym c.units-text.ensures.units)
          (elementary_functions c.args.program.now c.order.ensures.checked);
    }
