use Rattle.std.proofs.Common.{◌≡◌, ◌++◌, ◌∷◌, [], ◌+◌, List, arith, get_or, map, take, ap, append-nil, append_assoc, subst, sym, ◌∙◌}
use Rattle.std.proofs.lemmas.List.{map-append, take_all, take_more}
use Rattle.st_places.proofs.Results.{own_apart, results_at, results_named}
use Rattle.std.specs.Option.{option_map, option_map_or}
use Rattle.st_places.specs.Charts.{HasElements}
use Rattle.st_places.specs.Members.{AreElements, HasNames, is_small_type}
use Rattle.st_places.specs.Parts.{chart_at, own_names_at}
use Rattle.st_places.specs.declared.unit.UnitParts.{UnitParts}
use Rattle.st_check.specs.Sized.{IsSized}
use Rattle.st_scopes.specs.Declarations.{seen}
use Rattle.st_scopes.specs.declared.declaration.Declared.{Declared as Row}
use Rattle.st_types.specs.Inside.{named_by}
use Rattle.st_types.specs.Names.{Declared, Named, chart_in, units_of}
use Rattle.st_types.specs.Types.{elements_in}
use Rattle.st_types.specs.declared.base.Base.TheVariants as bases
use Rattle.st_places.proofs.unit.UnitParts.of.Goals as goal

pub names-init : goal.names-init
names-init c =
    let parts : UnitParts = record { members = c.in_ok-results_of.field-0; constants = c.new.result; chart = c.in_ok-of.field-0; elements = c.in_ok-elements_of.field-0; is_small_block = c.is_small.result } in
    record {
      names =
          subst (λ vs. HasNames (units_of c.args.tables.now) vs parts) (sym (append-nil (results_at (units_of c.args.tables.now) c.args.unit)))
          (results_named (units_of c.args.tables.now) c.args.unit (named_by c.unit-named.result) parts c.unit-named.ensures (c.in_ok-results_of.ensures (units_of c.args.tables.now)) (c.new.ensures (units_of c.args.tables.now)));
      small =
          c.is_small.ensures (units_of c.args.tables.now) (subst (IsSized (units_of c.args.tables.now) c.args.sizes.now) (sym c.type_at.ensures) (c.requires.sizes c.args.unit))
          ∙ ap (is_small_type (units_of c.args.tables.now)) c.type_at.ensures;
      chart = subst (λ u. HasElements (option_map_or chart_in (option_map (λ (x : Named). x.declares) u) []) c.in_ok-of.field-0) c.unit-named.ensures c.in_ok-of.ensures;
      elements = c.in_ok-elements_of.ensures;
    }

pub names-preserved : goal.names-preserved
names-preserved c =
    let items : List Row = c.declared-declared-items.result.now in
    let results : List Declared = results_at (units_of c.args.tables.now) c.args.unit in
    let more : results ++ map seen (take (c.names.declared-index + 1) items) ≡ (results ++ map seen (take c.names.declared-index items)) ++ seen c.declared-item.result ∷ [] =
    ap (λ vs. results ++ vs)
    (ap (map seen) (take_more items c.names.declared-index c.declared-item.result (omega (arith, c.names-test.true, c.names.auto.declared-index-end)))
    ∙ map-append seen (take c.names.declared-index items) (get_or items c.names.declared-index c.declared-item.result ∷ [])
    ∙ ap (λ (row : Row). map seen (take c.names.declared-index items) ++ seen row ∷ []) (sym c.declared-item.is))
    ∙ sym (append_assoc results (map seen (take c.names.declared-index items)) (seen c.declared-item.result ∷ [])) in
    record {
      names = subst (λ (vs : List Declared). HasNames (units_of c.args.tables.now) vs c.add.new.self) (sym more)
          (c.in_ok-add.ensures.names (results ++ map seen (take c.names.declared-index c.declared-declared-items.result.now)) c.names.invariant.names);
      small = c.in_ok-add.ensures.small ∙ c.names.invariant.small;
      chart = subst (HasElements (chart_at (units_of c.args.tables.now) c.args.unit)) (sym c.in_ok-add.ensures.chart) c.names.invariant.chart;
      elements = subst (AreElements (units_of c.args.tables.now) (elements_in (units_of c.args.tables.now) (bases.Array c.args.unit))) (sym c.in_ok-add.ensures.elements) c.names.invariant.elements;
    }

pub returns : goal.returns
returns c =
    let units : List Named = units_of c.args.tables.now in
    let items : List Row = c.declared-declared-items.result.now in
    let all : results_at units c.args.unit ++ map seen (take c.names.declared-index items) ≡ own_names_at units c.args.unit =
    ap (λ (rows : List Row). results_at units c.args.unit ++ map seen rows) (take_all c.names.declared-index items (omega (arith, c.names-test.false)))
    ∙ ap (λ vs. results_at units c.args.unit ++ vs) c.declared-declared-items.ensures ∙ sym (own_apart units c.args.unit) in
    record {
      names = subst (λ vs. HasNames units vs c.names.parts) all c.names.invariant.names;
      chart = c.names.invariant.chart;
      elements = c.names.invariant.elements;
      small = c.names.invariant.small;
    }
