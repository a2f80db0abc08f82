-- The body of each unit of a text without faults is strict: it is the one typing of the unit.
use Rattle.std.proofs.Common.{◌≡◌, ℕ, true, false, List, [], ◌∷◌, ◌++◌, refl, sym, ap, ◌∙◌, subst}
use Rattle.std.specs.List.{AllByRecursion as Each, flat_map}
use Rattle.st_tree.specs.declared.tree.position.Identifier.{Identifier}
use Rattle.st_tree.specs.declared.tree.unit.Body.{Body as Written}
use Rattle.st_tree.specs.declared.tree.unit.Body.TheVariants as bodies
use Rattle.st_tree.specs.declared.tree.unit.ChartElement.{ChartElement}
use Rattle.st_tree.specs.declared.tree.unit.Pou.{Pou}
use Rattle.st_types.specs.Names.{Declares, Named, actions_in, chart_in, chart_of, is_action, is_step, named, steps_in, unit_at, units_of}
use Rattle.st_types.specs.Names as names
use Rattle.st_types.specs.Scopes.{Scope, scope_of}
use Rattle.st_check_statements.specs.Statements.{around, body_faults}
use Rattle.st_check_units.specs.Declarations.{block_faults}
use Rattle.st_check_units.specs.Charts.{element_faults, initial_step_faults, initial_steps}
use Rattle.st_check_units.specs.Repeats.{repeated}
use Rattle.st_check_units.specs.Units.{body_of_faults, chart_names, pou_faults, unit_faults, variable_names}
use Rattle.st_check.specs.Programs.{order_of, text_of}
use Rattle.st_check.proofs.Apart.{nothing_parts}
use Rattle.st_check.proofs.UnitsApart.{unit_faultless}
use Rattle.st_leaves.specs.Charts.{associations_of}
use Rattle.st_meaning.specs.Sketched.{sketch_of, transitions_in}
use Rattle.st_meaning.specs.Sketches.{Sketch}
use Rattle.st_meaning.specs.Steps.{chart_within}
use Rattle.st_meaning.specs.Terms.{Body, Tests, chart_body, plain_body}
use Rattle.st_meaning.specs.Typing.{actions_of, body_in, body_of, chart_or, tests_of}
use Rattle.st_meaning.specs.Units.{statements_in, statements_of, unit_whole}
use Rattle.st_meaning.specs.Wholes.{Whole}
use Rattle.st_places.proofs.Roots.{charts_are_in_bodies}
use Rattle.st_compile.specs.Bodies.{IsBody}
use Rattle.st_compile.specs.Bodies as strict
use Rattle.st_compile.specs.Commands.{AreCommands, no_command}
use Rattle.st_compile.specs.Charts.{IsSketch, no_action, no_test}
use Rattle.st_compile.specs.TypedPrograms.{CheckedProgramsAreTyped, NamesAreTied, TypingsAreOne, UnitsAreTyped, has_body}
use Rattle.st_compile.specs.Ties.{Ties}
use Rattle.st_compile.proofs.TypedCharts.{ChartHolds, IsBetween, IsStrictAssociation, chart_strict}
use Rattle.st_compile.proofs.Names.{unit_ties}
use Rattle.st_compile.proofs.OneChart.{actions_one, sketch_one, tests_one}
use Rattle.st_compile.proofs.OneCommand.{commands_one}
use Rattle.st_compile.proofs.Sketches.{sketch_strict}
use Rattle.st_compile.proofs.Statements.{body_strict}

pub names_are_tied : NamesAreTied
names_are_tied text order ordered i u at body = unit_ties (units_of text) order ordered.ordered ordered.faultless i u.name u.declares at body

-- ---- statements

written_strict : (scope : Scope) (w : Whole) → Ties scope w → (name : Identifier) (b : Written) → body_of_faults scope name b ≡ []
    → AreCommands w false (statements_in b) (body_of w (statements_in b))
written_strict scope w ties name (bodies.Statements statements) h = body_strict scope w ties statements (around false []) h
written_strict scope w ties name (bodies.Chart elements) h = no_command

pou_body : (units : List Named) (scope : Scope) (unit : Declares) (p : Pou) → pou_faults units scope unit p ≡ [] → body_of_faults scope p.name p.body ≡ []
pou_body units scope unit p clean =
    (nothing_parts (repeated [] (variable_names p.variables ++ chart_names (chart_of p.body)) ++ flat_map (block_faults units unit) p.variables) (body_of_faults scope p.name p.body) clean).1

module _ (units : List Named) where
  unit_strict : (name : Identifier) (d : Declares) → unit_faults units (scope_of units d) name d ≡ [] → (has_body d ≡ true → Ties (scope_of units d) (unit_whole units (named name d)))
      → AreCommands (unit_whole units (named name d)) false (statements_of d) (body_of (unit_whole units (named name d)) (statements_of d))
  unit_strict name (names.type t) clean ties = no_command
  unit_strict name (names.function f) clean ties =
      let d = names.function f in
      let body = (nothing_parts (repeated (f.name.spelling ∷ []) (variable_names f.variables) ++ flat_map (block_faults units d) f.variables) (body_faults (scope_of units d) f.statements) clean).1 in
      body_strict (scope_of units d) (unit_whole units (named name d)) (ties refl) f.statements (around false []) body
  unit_strict name (names.block b) clean ties =
      let d = names.block b in written_strict (scope_of units d) (unit_whole units (named name d)) (ties refl) b.name b.body (pou_body units (scope_of units d) d b clean)
  unit_strict name (names.program p) clean ties =
      let d = names.program p in written_strict (scope_of units d) (unit_whole units (named name d)) (ties refl) p.name p.body (pou_body units (scope_of units d) d p clean)

-- ---- charts

chart_written : (scope : Scope) (w : Whole) → Ties scope w → (d : Declares) → ((name : List ℕ) → scope.step name ≡ is_step d name) → ((name : List ℕ) → scope.action name ≡ is_action d name)
    → (name : Identifier) (b : Written) → body_of_faults scope name b ≡ [] → ChartHolds w d (chart_of b)
chart_written scope w ties d steps acts name (bodies.Statements statements) h = chart_strict scope w ties d steps acts [] refl
chart_written scope w ties d steps acts name (bodies.Chart elements) h =
    chart_strict scope w ties d steps acts elements (nothing_parts (initial_step_faults name (initial_steps elements)) (flat_map (element_faults scope) elements) h).1

module _ (units : List Named) where
  unit_chart : (name : Identifier) (d : Declares) → unit_faults units (scope_of units d) name d ≡ [] → (has_body d ≡ true → Ties (scope_of units d) (unit_whole units (named name d)))
      → ChartHolds (unit_whole units (named name d)) d (chart_in d)
  unfolding scope_of
  unit_chart name (names.type t) clean ties = record { tests = no_test; between = tt; actions = no_action; associations = tt }
  unit_chart name (names.function f) clean ties = record { tests = no_test; between = tt; actions = no_action; associations = tt }
  unit_chart name (names.block b) clean ties =
      let d = names.block b in
      chart_written (scope_of units d) (unit_whole units (named name d)) (ties refl) d (λ n. refl) (λ n. refl) b.name b.body (pou_body units (scope_of units d) d b clean)
  unit_chart name (names.program p) clean ties =
      let d = names.program p in
      chart_written (scope_of units d) (unit_whole units (named name d)) (ties refl) d (λ n. refl) (λ n. refl) p.name p.body (pou_body units (scope_of units d) d p clean)

-- ---- bodies

module _ (w : Whole) (d : Declares) (number : ℕ) (within : chart_within w.variables ≡ chart_in d) where
  body_typed : AreCommands w false (statements_of d) (body_of w (statements_of d)) → ChartHolds w d (chart_in d) → IsBody w d number (body_in w number (statements_of d))
  body_typed commands holds = by (chart_in d) refl holds where
    by : (elements : List ChartElement) → chart_in d ≡ elements → ChartHolds w d elements → IsBody w d number (body_in w number (statements_of d))
    by [] is holds = subst (λ (es : List ChartElement). IsBody w d number (chart_or (body_of w (statements_of d)) w number es)) (sym (within ∙ is)) (strict.statements is commands)
    by (e ∷ es) is holds =
        subst (λ (es : List ChartElement). IsBody w d number (chart_or (body_of w (statements_of d)) w number es)) (sym (within ∙ is))
        (strict.chart is
        (subst (λ (xs : List ChartElement). IsSketchOf xs) is
        (sketch_strict w d (flat_map transitions_in (chart_in d)) (flat_map actions_in (chart_in d))
        (subst (λ (xs : List ChartElement). Each (IsBetween d) (flat_map transitions_in xs)) (sym is) holds.between)
        (subst (λ (xs : List ChartElement). Each (IsStrictAssociation w d) (associations_of (flat_map steps_in xs))) (sym is) holds.associations)))
        holds.tests holds.actions) where
          IsSketchOf : List ChartElement → Type 0
          IsSketchOf xs = IsSketch w d (flat_map steps_in xs) (flat_map transitions_in xs) (flat_map actions_in xs) (sketch_of w.variables xs)

  body_one : (body : Body) → IsBody w d number body → body ≡ body_in w number (statements_of d)
  body_one body (strict.statements {cs = cs} is commands) =
      sym (ap (chart_or (body_of w (statements_of d)) w number) (within ∙ is) ∙ ap plain_body (commands_one w false (statements_of d) cs commands))
  body_one body (strict.chart {first = e} {more = es} {sketch = sketch} {tests = tests} {actions = actions} is drawn asked done) =
      let steps = flat_map steps_in (e ∷ es) in
      let transitions = flat_map transitions_in (e ∷ es) in
      let acts = flat_map actions_in (e ∷ es) in
      sym (ap (chart_or (body_of w (statements_of d)) w number) (within ∙ is)
      ∙ ap (λ (s : Sketch). chart_body number s (tests_of w transitions) (actions_of w acts)) (sketch_one w d steps transitions acts sketch drawn)
      ∙ ap (λ (t : Tests). chart_body number sketch t (actions_of w acts)) (tests_one w transitions tests asked)
      ∙ ap (chart_body number sketch tests) (actions_one w acts actions done))

-- ---- units and programs

root_chart : (units : List Named) (u : Named) → chart_within (unit_whole units u).variables ≡ chart_in u.declares
unfolding unit_whole
root_chart units u = charts_are_in_bodies units u

pub typings_are_one : TypingsAreOne
typings_are_one units number unit body is = body_one (unit_whole units unit) unit.declares number (root_chart units unit) body is

pub units_are_typed : UnitsAreTyped
units_are_typed text order ordered i u at =
    let units = units_of text in
    let clean = unit_faultless units i u ordered.faultless at in
    let ties = λ (body : has_body u.declares ≡ true). names_are_tied text order ordered i u at body in
    body_typed (unit_whole units u) u.declares i (root_chart units u) (unit_strict units u.name u.declares clean ties) (unit_chart units u.name u.declares clean ties)

pub checked_programs_are_typed : CheckedProgramsAreTyped
checked_programs_are_typed program checked i u at =
    units_are_typed (text_of program) (order_of program) (record { faultless = checked.faultless; ordered = checked.ordered }) i u at
