-- The units of a text, one after the other.
use Rattle.std.proofs.Common.{◌≡◌, ℕ, zero, suc, ◌<◌, ◌≤◌, List, [], ◌∷◌, ◌++◌, map, length, get_or, drop, Some, ap, sym, ◌∙◌, arith}
use Rattle.std.specs.List.{flat_map}
use Rattle.std.proofs.lemmas.List.{drop_all}
use Rattle.std.proofs.lemmas.List.Folds.{flat_map-map}
use Rattle.st_tree.specs.declared.tree.declaration.VarBlock.{VarBlock}
use Rattle.st_tree.specs.declared.tree.unit.ChartElement.{ChartElement}
use Rattle.st_tree.specs.declared.tree.unit.Pou.{Pou}
use Rattle.st_tree.specs.declared.tree.unit.Unit.{Unit as Section}
use Rattle.st_faults.specs.Faults.{First, offer_all}
use Rattle.st_faults.specs.declared.fault.Fault.{Fault}
use Rattle.st_types.specs.Names.{Declares, Named, chart_of, unit_at, units_of}
use Rattle.st_types.specs.Scopes.{Scope, optional_scope, scope_at, scope_of}
use Rattle.st_types.specs.Inside.{declared_by, named_by}
use Rattle.st_types.specs.declared.unit.NamedUnit.{NamedUnit}
use Rattle.st_check_units.specs.Declarations.{block_faults}
use Rattle.st_check_units.specs.Repeats.{repeated, spellings}
use Rattle.st_check_units.specs.Units.{body_of_faults, chart_names, pou_faults, unit_faults, units_faults, variable_names}
use Rattle.st_check_units.proofs.NamesTwice.{repeated-append}
use Rattle.st_faults.proofs.Offers.{both, three}

-- ---- a function block or program

pub pou_done : (units : List Named) (scope : Scope) (unit : Declares) (pou : Pou) (variables : List VarBlock) (elements : List ChartElement) (seen seen2 : List (List ℕ)) (o o1 o2 o3 o4 : First)
    → variables ≡ pou.variables → elements ≡ chart_of pou.body → seen ≡ []
    → o1 ≡ offer_all o (repeated seen (variable_names variables)) → seen2 ≡ seen ++ spellings (variable_names variables) → o2 ≡ offer_all o1 (repeated seen2 (chart_names elements))
    → o3 ≡ offer_all o2 (flat_map (block_faults units unit) variables) → o4 ≡ offer_all o3 (body_of_faults scope pou.name pou.body) → o4 ≡ offer_all o (pou_faults units scope unit pou)
pou_done units scope unit pou variables elements seen seen2 o o1 o2 o3 o4 same elements_are none a s b c d =
    let names : o2 ≡ offer_all o (repeated seen (variable_names variables ++ chart_names elements)) =
    both o o1 o2 _ _ a b ∙ ap (λ t. offer_all o (repeated seen (variable_names variables) ++ repeated t (chart_names elements))) s ∙ ap (offer_all o) (sym (repeated-append seen (variable_names variables) (chart_names elements))) in
    three o o2 o3 o4 _ _ _ names c d
    ∙ ap (λ t. offer_all o (repeated t (variable_names variables ++ chart_names elements) ++ flat_map (block_faults units unit) variables ++ body_of_faults scope pou.name pou.body)) none
    ∙ ap (λ vs. offer_all o (repeated [] (variable_names vs ++ chart_names elements) ++ flat_map (block_faults units unit) vs ++ body_of_faults scope pou.name pou.body)) same
    ∙ ap (λ es. offer_all o (repeated [] (variable_names pou.variables ++ chart_names es) ++ flat_map (block_faults units unit) pou.variables ++ body_of_faults scope pou.name pou.body)) elements_are

-- ---- each unit in its scope

unit_there : (units : List NamedUnit) (i : ℕ) (u : NamedUnit) → i < length units → u ≡ get_or units i u → unit_at (map named_by units) i ≡ Some (named_by u)
unit_there [] i u lt is = absurd (omega arith)
unit_there (v ∷ vs) zero u lt is = ap (λ w. Some (named_by w)) (sym is)
unit_there (v ∷ vs) (suc i) u lt is = unit_there vs i u (omega arith) is

pub scope_is : (text : List Section) (units : List NamedUnit) (i : ℕ) (u : NamedUnit) (place : List Section × ℕ) → map named_by units ≡ units_of text → i < length units → u ≡ get_or units i u → place ≡ (text, i)
    → scope_at place ≡ scope_of (units_of text) (declared_by u.kind)
unfolding scope_at
scope_is text units i u place same lt is at =
    ap scope_at at ∙ ap (optional_scope (units_of text)) (ap (λ us. unit_at us i) (sym same) ∙ unit_there units i u lt is)

-- of one unit, as it is borrowed from the text
abbrev pub unit_at_faults : List Section → NamedUnit → List Fault
unit_at_faults text u = unit_faults (units_of text) (scope_of (units_of text) (declared_by u.kind)) u.name.now (declared_by u.kind)

pub unit_done : (text : List Section) (units : List NamedUnit) (i : ℕ) (u : NamedUnit) (place : List Section × ℕ) (o o2 : First) → map named_by units ≡ units_of text → i < length units → u ≡ get_or units i u → place ≡ (text, i)
    → o2 ≡ offer_all o (unit_faults (units_of text) (scope_at place) u.name.now (declared_by u.kind)) → o2 ≡ offer_all o (unit_at_faults text u)
unit_done text units i u place o o2 same lt is at e =
    e ∙ ap (λ scope. offer_all o (unit_faults (units_of text) scope u.name.now (declared_by u.kind))) (scope_is text units i u place same lt is at)

pub units_done : (text : List Section) (units : List NamedUnit) (i : ℕ) (o o2 : First) → map named_by units ≡ units_of text → length units ≤ i
    → offer_all o2 (flat_map (unit_at_faults text) (drop i units)) ≡ offer_all o (flat_map (unit_at_faults text) units) → o2 ≡ offer_all o (units_faults (units_of text))
unfolding offer_all
units_done text units i o o2 same le h =
    sym (ap (λ us. offer_all o2 (flat_map (unit_at_faults text) us)) (drop_all i units le)) ∙ h
    ∙ sym (ap (offer_all o) (flat_map-map (λ u. unit_faults (units_of text) (scope_of (units_of text) u.declares) u.name u.declares) named_by units))
    ∙ ap (λ us. offer_all o (flat_map (λ u. unit_faults (units_of text) (scope_of (units_of text) u.declares) u.name u.declares) us)) same
