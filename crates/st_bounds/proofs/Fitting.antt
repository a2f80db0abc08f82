-- The units of a short text are few, and have few variables, steps, transitions and associated names.
use Rattle.std.proofs.Common.{rules, ◌≡◌, ℕ, suc, ◌+◌, ◌*◌, ◌≤◌, ◌^◌, Bool, true, false, not, if◌then◌else◌, List, [], ◌∷◌, ◌++◌, map, length, length-append, refl, sym, ap, subst, ◌∙◌, arith}
use Rattle.std.specs.List.{All, filter, flat_map}
use Rattle.std.proofs.lemmas.List.{length-map}
use Rattle.std.proofs.lemmas.List.Elements.{All-append, All-cons, All-nil}
use Rattle.st_values.specs.Words.{is_word}
use Rattle.st_tree.specs.declared.tree.declaration.Declaration.{Declaration}
use Rattle.st_tree.specs.declared.tree.unit.TypeDeclaration.{TypeDeclaration}
use Rattle.st_tree.specs.declared.tree.declaration.VarBlock.{VarBlock}
use Rattle.st_tree.specs.declared.tree.declaration.VarKind.{VarKind}
use Rattle.st_tree.specs.declared.tree.expression.Argument.{Argument, map-Argument, out-Argument, the_lemmas}
use Rattle.st_tree.specs.declared.tree.expression.Argument.TheOpen.{Argument-F}
use Rattle.st_tree.specs.declared.tree.expression.Call.{Call}
use Rattle.st_tree.specs.declared.tree.expression.Expression.{Expression}
use Rattle.st_tree.specs.declared.tree.expression.Operation.{Operation}
use Rattle.st_tree.specs.declared.tree.expression.Part.{Part}
use Rattle.st_tree.specs.declared.tree.expression.Variable.{Variable}
use Rattle.st_tree.specs.declared.tree.unit.Body.{Body}
use Rattle.st_tree.specs.declared.tree.unit.Body.TheVariants as bodies
use Rattle.st_tree.specs.declared.tree.unit.ChartElement.{ChartElement}
use Rattle.st_tree.specs.declared.tree.unit.ChartElement.TheVariants as chart_elements
use Rattle.st_tree.specs.declared.tree.unit.Association.{Association}
use Rattle.st_tree.specs.declared.tree.unit.Unit.{Unit as Section}
use Rattle.st_tree.specs.declared.tree.unit.Unit.TheVariants as sections
use Rattle.st_syntax.specs.Lengths.{IsShort, argument_length, argument_tokens, block_length, body_length, call_length, chart_length, declaration_length, expression_length, operation_length, part_length, text_length, total, unit_length, variable_length, variables_length}
use Rattle.st_syntax.proofs.Folds.{call_is}
use Rattle.st_types.specs.Names.{Declared, Named, chart_of, declared_in, named, steps_in, units_in, units_of, variables_of}
use Rattle.st_types.specs.Names as names
use Rattle.st_leaves.specs.Charts.{associations_of, each_once}
use Rattle.st_meaning.specs.Sketched.{transitions_in}
use Rattle.st_meaning.specs.Views.{names_of}
use Rattle.st_bounds.specs.Laws.{AllFitCode, ArgumentsTakeTokens, FitsCode, ShortTextsFitCode}

-- ---- variables: each name stands for two tokens

block_doubled : (kind : VarKind) (ds : List Declaration) → 2 * length (flat_map (declared_in kind) ds) ≡ total (map declaration_length ds)
block_doubled kind [] = refl
block_doubled kind (d ∷ ds) =
    omega (
      arith,
      length-append (declared_in kind d) (flat_map (declared_in kind) ds),
      length-map {B = Declared} d.names (λ n. record { name = n; kind = kind; specification = d.specification; initial = d.initial }),
      block_doubled kind ds,
    )

variables_doubled : (bs : List VarBlock) → 2 * length (variables_of bs) ≡ variables_length bs
variables_doubled [] = refl
variables_doubled (b ∷ bs) =
    omega (arith, length-append (flat_map (declared_in b.kind) b.declarations) (variables_of bs), block_doubled b.kind b.declarations, variables_doubled bs)

-- ---- charts

few_steps : (es : List ChartElement) → length (flat_map steps_in es) ≤ total (map chart_length es)
few_steps [] = omega arith
few_steps (chart_elements.Step s ∷ es) = omega (arith, few_steps es)
few_steps (chart_elements.Transition t ∷ es) = omega (arith, few_steps es)
few_steps (chart_elements.Action a ∷ es) = omega (arith, few_steps es)

few_transitions : (es : List ChartElement) → length (flat_map transitions_in es) ≤ total (map chart_length es)
few_transitions [] = omega arith
few_transitions (chart_elements.Step s ∷ es) = omega (arith, few_transitions es)
few_transitions (chart_elements.Transition t ∷ es) = omega (arith, few_transitions es)
few_transitions (chart_elements.Action a ∷ es) = omega (arith, few_transitions es)

few_associations : (es : List ChartElement) → length (associations_of (flat_map steps_in es)) ≤ total (map chart_length es)
few_associations [] = omega arith
few_associations (chart_elements.Step s ∷ es) = omega (arith, length-append s.associations (associations_of (flat_map steps_in es)), few_associations es)
few_associations (chart_elements.Transition t ∷ es) = omega (arith, few_associations es)
few_associations (chart_elements.Action a ∷ es) = omega (arith, few_associations es)

few_left : (keeps : List ℕ → Bool) (ns : List (List ℕ)) → length (filter keeps ns) ≤ length ns
few_left keeps [] = omega arith
few_left keeps (n ∷ ns) = by (keeps n) (few_left keeps ns) where
  by : (b : Bool) → length (filter keeps ns) ≤ length ns → length (if b then n ∷ filter keeps ns else filter keeps ns) ≤ suc (length ns)
  by true few = omega (arith, few)
  by false few = omega (arith, few)

few_once : (ns : List (List ℕ)) → length (each_once ns) ≤ length ns
few_once [] = omega arith
few_once (n ∷ ns) = omega (arith, few_left (λ other. not (is_word n other)) (each_once ns), few_once ns)

few_names : (es : List ChartElement) → length (names_of es) ≤ total (map chart_length es)
few_names es =
    let links = associations_of (flat_map steps_in es) in
    omega (arith, few_once (map (λ (a : Association). a.name.spelling) links), length-map links (λ (a : Association). a.name.spelling), few_associations es)

-- ---- units

chart_shorter : (body : Body) → total (map chart_length (chart_of body)) ≤ body_length body
chart_shorter (bodies.Statements statements) = omega arith
chart_shorter (bodies.Chart elements) = omega arith

fitting : (unit : Named) (n : ℕ) → n ≡ length (names.variables_in unit.declares) → n ≤ 2 ^ 19
    → total (map chart_length (names.chart_in unit.declares)) ≤ 2 ^ 20 → FitsCode unit
fitting unit n is few short = record {
  variables = omega (arith, is, few);
  steps = omega (arith, few_steps (names.chart_in unit.declares), short);
  transitions = omega (arith, few_transitions (names.chart_in unit.declares), short);
  names = omega (arith, few_names (names.chart_in unit.declares), short);
}

types_fit : (types : List TypeDeclaration) → All FitsCode (map (λ d. named d.name (names.type d.declared)) types)
types_fit [] = All-nil FitsCode
types_fit (d ∷ types) =
    All-cons FitsCode (named d.name (names.type d.declared)) (map (λ e. named e.name (names.type e.declared)) types)
    (fitting (named d.name (names.type d.declared)) 0 refl (omega arith) (omega arith)) (types_fit types)

one_fits : (unit : Named) → FitsCode unit → All FitsCode (unit ∷ [])
one_fits unit fits = All-cons FitsCode unit [] fits (All-nil FitsCode)

section_fits : (s : Section) → unit_length s ≤ 2 ^ 20 → All FitsCode (units_in s)
section_fits (sections.Types position types) short = types_fit types
section_fits (sections.Function f) short =
    one_fits (named f.name (names.function f))
    (fitting (named f.name (names.function f)) (length (variables_of f.variables)) refl (omega (arith, variables_doubled f.variables, short)) (omega arith))
section_fits (sections.FunctionBlock u) short =
    one_fits (named u.name (names.block u))
    (fitting (named u.name (names.block u)) (length (variables_of u.variables)) refl (omega (arith, variables_doubled u.variables, short)) (omega (arith, chart_shorter u.body, short)))
section_fits (sections.Program u) short =
    one_fits (named u.name (names.program u))
    (fitting (named u.name (names.program u)) (length (variables_of u.variables)) refl (omega (arith, variables_doubled u.variables, short)) (omega (arith, chart_shorter u.body, short)))

section_counts : (s : Section) → length (units_in s) ≤ unit_length s
section_counts (sections.Types position types) = omega (arith, length-map types (λ d. named d.name (names.type d.declared)))
section_counts (sections.Function f) = omega arith
section_counts (sections.FunctionBlock u) = omega arith
section_counts (sections.Program u) = omega arith

few_units : (text : List Section) → length (units_of text) ≤ text_length text
few_units [] = omega arith
few_units (s ∷ text) = omega (arith, length-append (units_in s) (units_of text), section_counts s, few_units text)

units_fit : (text : List Section) → text_length text ≤ 2 ^ 20 → All FitsCode (units_of text)
units_fit [] short = All-nil FitsCode
units_fit (s ∷ text) short =
    All-append FitsCode (units_in s) (units_of text) (section_fits s (omega (arith, short))) (units_fit text (omega (arith, short)))

pub texts_fit : ShortTextsFitCode
unfolding IsShort
texts_fit text short = record { few = omega (arith, few_units text, short); each = units_fit text short }

-- ---- calls

some_token : (a : Argument-F ℕ ℕ ℕ ℕ ℕ ℕ) → 1 ≤ argument_tokens a
some_token (Argument-F.Positional x) = omega arith
some_token (Argument-F.Input n x) = omega arith
some_token (Argument-F.Output n v) = omega arith

argument_is : (a : Argument) → argument_length a
    ≡ argument_tokens (map-Argument Argument Expression Part Call Operation Variable ℕ ℕ ℕ ℕ ℕ ℕ argument_length expression_length part_length call_length operation_length variable_length (out-Argument a))
argument_is a = search (rules, the_lemmas)

argument_counts : (a : Argument) → 1 ≤ argument_length a
argument_counts a =
    omega (arith, argument_is a, some_token (map-Argument Argument Expression Part Call Operation Variable ℕ ℕ ℕ ℕ ℕ ℕ argument_length expression_length part_length call_length operation_length variable_length (out-Argument a)))

arguments_count : (given : List Argument) → length given ≤ total (map argument_length given)
arguments_count [] = omega arith
arguments_count (a ∷ given) = omega (arith, argument_counts a, arguments_count given)

pub arguments_counted : ArgumentsTakeTokens
arguments_counted call = omega (arith, call_is call, arguments_count call.arguments)
