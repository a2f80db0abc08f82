-- What the rules say of charts (2.6).
use Rattle.std.specs.Prelude.{ℕ, Bool, true, false, ◌||◌, not, List, [], ◌∷◌, ◌++◌, codes, Option, Some, None, if◌then◌else◌}
use Rattle.std.specs.List.{flat_map}
use Rattle.std.specs.Option.{is_some}
use Rattle.st_values.specs.Values.{in_range}
use Rattle.st_values.specs.Words.{is_word}
use Rattle.st_values.specs.declared.elem.Elem.{Elem}
use Rattle.st_values.specs.declared.elem.Elem.TheVariants as elems
use Rattle.st_tree.specs.declared.tree.constant.Duration.{Duration}
use Rattle.st_tree.specs.declared.tree.position.Identifier.{Identifier}
use Rattle.st_tree.specs.declared.tree.unit.ActionQualifier.{ActionQualifier}
use Rattle.st_tree.specs.declared.tree.unit.Association.{Association}
use Rattle.st_tree.specs.declared.tree.unit.ChartElement.{ChartElement}
use Rattle.st_tree.specs.declared.tree.unit.ChartElement.TheVariants as chart_elements
use Rattle.st_tree.specs.declared.tree.unit.Step.{Step}
use Rattle.st_faults.specs.Faults.{fault, when}
use Rattle.st_faults.specs.declared.fault.Fault.{Fault}
use Rattle.st_faults.specs.declared.fault.Rule.TheVariants as rules
use Rattle.st_operators.specs.Operators.{is_boolean}
use Rattle.st_types.specs.Scopes.{Scope}
use Rattle.st_types.specs.Types.{elem_of, is_unknown}
use Rattle.st_types.specs.declared.symbol.Symbol.{Symbol}
use Rattle.st_check_expressions.specs.Known.{is_empty}
use Rattle.st_check_expressions.specs.Variables.{is_fixed_purpose}
use Rattle.st_check_statements.specs.Statements.{body_faults, condition_faults}

-- ---- associations (2.6.4)

-- L and D are written with a duration
abbrev pub is_timed : List ℕ → Bool
is_timed q = is_word (codes "L") q || is_word (codes "D") q

-- N, S, R and P without
abbrev pub is_untimed : List ℕ → Bool
is_untimed q = is_word (codes "N") q || is_word (codes "S") q || is_word (codes "R") q || is_word (codes "P") q

abbrev pub duration_faults : Option Duration → List Fault
duration_faults None = []
duration_faults (Some d) = when (not (in_range elems.Time d.milliseconds)) (fault d.position rules.OutOfRange)

abbrev pub is_qualifier : ActionQualifier → Bool
is_qualifier q = if is_some q.duration then is_timed q.name.spelling else is_untimed q.name.spelling

abbrev pub qualifier_faults : Identifier → Option ActionQualifier → List Fault
qualifier_faults name None = []
qualifier_faults name (Some q) = when (not (is_qualifier q)) (fault name.position rules.MalformedChart) ++ duration_faults q.duration

abbrev pub is_boolean_type : Option Elem → Bool
is_boolean_type None = false
is_boolean_type (Some e) = is_boolean e

-- What is associated is an action, or a BOOL variable that may be assigned.
abbrev pub associated_faults : Identifier → Option Symbol → List Fault
associated_faults name None = fault name.position rules.UnknownName ∷ []
associated_faults name (Some s) =
    when (not (is_unknown s.shape.base || is_boolean_type (elem_of s.shape))) (fault name.position rules.TypeMismatch)
    ++ when (is_fixed_purpose s.purpose) (fault name.position rules.NotAssignable)

abbrev pub association_faults : Scope → Association → List Fault
association_faults scope a =
    qualifier_faults a.name a.qualifier ++ (if scope.action a.name.spelling then [] else associated_faults a.name (scope.variable a.name.spelling))

-- ---- steps and transitions (2.6.2, 2.6.3)

-- an initial step
abbrev pub initial_in : ChartElement → List Step
initial_in (chart_elements.Step s) = if s.is_initial then s ∷ [] else []
initial_in _ = []

-- the initial steps, in order
abbrev pub initial_steps : List ChartElement → List Step
initial_steps elements = flat_map initial_in elements

-- of further initial steps, where there is one before these or not
abbrev pub further_faults : Bool → List Step → List Fault
further_faults has_initial [] = []
further_faults has_initial (s ∷ ss) = when has_initial (fault s.name.position rules.MalformedChart) ++ further_faults true ss

-- A chart has one initial step. None stands at the unit's name, a further one at its own.
abbrev pub initial_step_faults : Identifier → List Step → List Fault
initial_step_faults unit ss = further_faults false ss ++ when (is_empty ss) (fault unit.position rules.MalformedChart)

abbrev pub step_name_faults : Scope → Identifier → List Fault
step_name_faults scope name = when (not (scope.step name.spelling)) (fault name.position rules.MalformedChart)

abbrev pub element_faults : Scope → ChartElement → List Fault
element_faults scope (chart_elements.Step s) = flat_map (association_faults scope) s.associations
element_faults scope (chart_elements.Transition t) =
    flat_map (step_name_faults scope) t.from ++ flat_map (step_name_faults scope) t.to ++ condition_faults scope t.condition
element_faults scope (chart_elements.Action a) = body_faults scope a.statements

-- of the chart of the unit of this name
abbrev pub chart_faults : Scope → Identifier → List ChartElement → List Fault
chart_faults scope unit elements = initial_step_faults unit (initial_steps elements) ++ flat_map (element_faults scope) elements
