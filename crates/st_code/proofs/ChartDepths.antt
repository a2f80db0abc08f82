-- Trees need at least as many cells as what they are typed as: charts, and the bodies of units.
use Rattle.std.proofs.Common.{◌≡◌, ℕ, suc, ◌+◌, ◌≤◌, Bool, true, false, cond, not, List, [], ◌∷◌, map, length, Option, Some, None, refl, subst, sym, arith}
use Rattle.std.specs.List.{filter, flat_map}
use Rattle.std.specs.Prelude.{max}
use Rattle.std.proofs.lemmas.List.{length-map}
use Rattle.st_values.specs.Words.{is_word}
use Rattle.st_values.specs.declared.elem.Elem.TheVariants as elems
use Rattle.st_tree.specs.declared.tree.unit.Action.{Action}
use Rattle.st_tree.specs.declared.tree.unit.Association.{Association}
use Rattle.st_tree.specs.declared.tree.unit.Body.{Body}
use Rattle.st_tree.specs.declared.tree.unit.Body.TheVariants as bodies
use Rattle.st_tree.specs.declared.tree.unit.ChartElement.{ChartElement}
use Rattle.st_tree.specs.declared.tree.unit.ChartElement.TheVariants as chart_elements
use Rattle.st_types.specs.Compositions.{Composition}
use Rattle.st_types.specs.Names.{Declares, Named, actions_in, chart_in, chart_of, steps_in}
use Rattle.st_types.specs.Names as names
use Rattle.st_leaves.specs.Charts.{associated_names, associations_of, each_once}
use Rattle.st_meaning.specs.Sketched.{transitions_in, variable_named}
use Rattle.st_meaning.specs.Steps.{chart_within}
use Rattle.st_meaning.specs.Terms.{Commands, count_actions}
use Rattle.st_meaning.specs.Typing.{actions_of, body_in, body_of, chart_or, tests_of}
use Rattle.st_meaning.specs.Units.{body_of_unit, root_of, statements_in, statements_of, unit_whole}
use Rattle.st_meaning.specs.Wholes.{Whole}
use Rattle.st_code.specs.Depth.{actions_depth, body_depth, commands_depth, count_variables, tests_depth}
use Rattle.st_code.specs.Depths.{action_depth, chart_depth, condition_depths, declared_depth, in_turn, most, unit_depth}
use Rattle.st_code.proofs.BodyDepths.{body_deep}
use Rattle.st_code.proofs.ExpressionDepths.{expression_deep}
use Rattle.st_code.proofs.TypedDepths.{TakeAtMost}

-- ---- how many cells stand for names

one_variable : (v : Option (List ℕ)) (vs : List (Option (List ℕ))) → count_variables (v ∷ vs) ≤ 1 + count_variables vs
one_variable None vs = omega arith
one_variable (Some name) vs = omega arith

few_variables : (root : Composition) (named : List (List ℕ)) → count_variables (map (variable_named root) named) ≤ length named
few_variables root [] = omega arith
few_variables root (name ∷ named) = omega (arith, one_variable (variable_named root name) (map (variable_named root) named), few_variables root named)

few_left : (p : List ℕ → Bool) (names : List (List ℕ)) → length (filter p names) ≤ length names
few_left p [] = omega arith
few_left p (name ∷ names) = by (p name) (few_left p names) where
  by : (b : Bool) → length (filter p names) ≤ length names → length (cond b (name ∷ filter p names) (filter p names)) ≤ suc (length names)
  by true h = omega (arith, h)
  by false h = omega (arith, h)

few_once : (names : List (List ℕ)) → length (each_once names) ≤ length names
few_once [] = omega arith
few_once (name ∷ names) = omega (arith, few_left (λ other. not (is_word name other)) (each_once names), few_once names)

few_names : (links : List Association) → length (associated_names links) ≤ length links
few_names links = omega (arith, few_once (map (λ (a : Association). a.name.spelling) links), length-map links (λ (a : Association). a.name.spelling))

module _ (w : Whole) (inputs : ℕ) (few : TakeAtMost w inputs) where
  -- ---- conditions and actions

  -- each condition stands above those before it
  tests_deep : (below : ℕ) (elements : List ChartElement)
      → below + tests_depth (tests_of w (flat_map transitions_in elements)) ≤ max below (in_turn true below (flat_map (condition_depths inputs) elements))
  tests_deep below [] = omega arith
  tests_deep below (chart_elements.Step s ∷ elements) = tests_deep below elements
  tests_deep below (chart_elements.Transition t ∷ elements) =
      let deep = expression_deep w inputs few t.condition in omega (arith, deep.some, deep.most elems.Bool, tests_deep (1 + below) elements)
  tests_deep below (chart_elements.Action a ∷ elements) = tests_deep below elements

  many_actions : (actions : List Action) → count_actions (actions_of w actions) ≡ length actions
  many_actions [] = refl
  many_actions (a ∷ actions) = omega (arith, many_actions actions)

  actions_deep : (actions : List Action) → actions_depth (actions_of w actions) ≤ length actions + most (map (action_depth inputs) actions)
  actions_deep [] = omega arith
  actions_deep (a ∷ actions) = omega (arith, body_deep w inputs few a.statements, many_actions actions, actions_deep actions)

  -- ---- bodies

  -- a chart, and other statements where there is none
  chart_deep : (cs : Commands) (number : ℕ) (elements : List ChartElement) → body_depth (chart_or cs w number elements) ≤ max (commands_depth cs) (chart_depth inputs elements)
  chart_deep cs number [] = omega arith
  chart_deep cs number (e ∷ more) =
      let elements = e ∷ more in
      let links = associations_of (flat_map steps_in elements) in
      let actions = flat_map actions_in elements in
      omega (
        arith,
        tests_deep 0 elements,
        few_variables w.variables (associated_names links),
        few_names links,
        many_actions actions,
        actions_deep actions,
      )

  unit_deep : (number : ℕ) (b : Body) → body_depth (chart_or (body_of w (statements_in b)) w number (chart_of b)) ≤ unit_depth inputs b
  unit_deep number (bodies.Statements statements) = body_deep w inputs few statements
  unit_deep number (bodies.Chart elements) = omega (arith, chart_deep (body_of w []) number elements)

  -- of a unit that declares this, where the variables end with its chart
  declared_deep : (number : ℕ) (unit : Declares) → chart_within w.variables ≡ chart_in unit → body_depth (body_in w number (statements_of unit)) ≤ declared_depth inputs unit
  declared_deep number unit same = subst (λ elements. body_depth (chart_or (body_of w (statements_of unit)) w number elements) ≤ declared_depth inputs unit) (sym same) (by unit) where
    by : (d : Declares) → body_depth (chart_or (body_of w (statements_of d)) w number (chart_in d)) ≤ declared_depth inputs d
    by (names.program p) = unit_deep number p.body
    by (names.block b) = unit_deep number b.body
    by (names.function f) = body_deep w inputs few f.statements
    by (names.type t) = omega arith

-- of a unit of a text
pub body_of_unit_deep : (units : List Named) (number : ℕ) (u : Named) (inputs : ℕ) → TakeAtMost (unit_whole units u) inputs → chart_within (root_of units u) ≡ chart_in u.declares
    → body_depth (body_of_unit units number u) ≤ declared_depth inputs u.declares
unfolding unit_whole
body_of_unit_deep units number u inputs few same = declared_deep (unit_whole units u) inputs few number u.declares same
