use Rattle.std.proofs.Common.{◌≡◌, ◌++◌, ◌∷◌, [], ◌+◌, ◌∙◌, List, arith, get_or, map, take, ap, refl, subst, sym}
use Rattle.std.proofs.lemmas.List.{map-append, take_all, take_more}
use Rattle.st_scopes.specs.Declarations.{seen}
use Rattle.st_scopes.specs.declared.declaration.Declared.{Declared as Row}
use Rattle.st_types.specs.Names.{Declared, units_of}
use Rattle.st_places.specs.Callables.{HasVariables}
use Rattle.st_places.proofs.Callables.{declared_variables, function_callable}
use Rattle.st_places.proofs.Variables.{equal_lengths}
use Rattle.st_places.proofs.functions.function_of.Goals as goal

pub names-init : goal.names-init
names-init c = c.in_ok-all.ensures (units_of c.args.tables.now)

pub names-preserved : goal.names-preserved
names-preserved c =
    let items : List Row = c.declared-declared-items.result.now in
    let more : map seen (take (c.names.declared-index + 1) items) ≡ map seen (take c.names.declared-index items) ++ seen c.declared-item.result ∷ [] =
    ap (map seen) (take_more items c.names.declared-index c.declared-item.result (omega (arith, c.names-test.true, c.names.auto.declared-index-end)))
    ∙ map-append seen (take c.names.declared-index items) (get_or items c.names.declared-index c.declared-item.result ∷ [])
    ∙ ap (λ (row : Row). map seen (take c.names.declared-index items) ++ seen row ∷ []) (sym c.declared-item.is) in
    subst (λ (vs : List Declared). HasVariables (units_of c.args.tables.now) c.args.function.now.result vs c.add.new.self) (sym more)
    (c.in_ok-add.ensures c.args.function.now.result (map seen (take c.names.declared-index items)) c.names.invariant)

pub invariant_of-result : goal.invariant_of-result
invariant_of-result c =
    equal_lengths (units_of c.args.tables.now) c.args.function.now.result (map seen (take c.names.declared-index c.declared-declared-items.result.now)) c.names.all c.names.invariant

pub returns : goal.returns
returns c =
    function_callable (units_of c.args.tables.now) c.args.number c.args.function.now c.names.all _ c.requires.kind
    (subst (λ (vs : List Declared). HasVariables (units_of c.args.tables.now) c.args.function.now.result vs c.names.all)
    (ap (map seen) (take_all c.names.declared-index c.declared-declared-items.result.now c.names-test.false) ∙ c.declared-declared-items.ensures
    ∙ declared_variables (units_of c.args.tables.now) c.args.number c.args.function.now c.requires.kind) c.names.invariant) refl refl
