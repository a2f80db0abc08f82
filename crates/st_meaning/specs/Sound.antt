-- Sound terms and commands: each operand has a type that its operator takes, and each place a type of its own.
use Rattle.std.specs.Prelude.{◌≡◌, ℕ, ◌+◌, ◌<◌, ◌≤◌, Bool, true, false, IsTrue, List, [], ◌∷◌, length, get_or, slice_get, Option, Some, None}
use Rattle.std.specs.List.{All}
use Rattle.std.specs.Option.{is_some}
use Rattle.st_values.specs.Values.{IsValue, in_range}
use Rattle.st_values.specs.declared.elem.Elem.{Elem}
use Rattle.st_values.specs.declared.elem.Elem.TheVariants as elems
use Rattle.st_values.specs.declared.value.Value.{Value}
use Rattle.st_types.specs.Compositions.{Composition, standard}
use Rattle.st_types.specs.OwnTypes.{or_lint}
use Rattle.st_types.specs.declared.standard.StandardBlock.{StandardBlock}
use Rattle.st_leaves.specs.LeavesIn.{LeafIn, leaves_in, plain}
use Rattle.st_leaves.specs.Paths.{Path}
use Rattle.st_leaves.specs.Places.{LeadsTo, count}
use Rattle.st_leaves.specs.Selected.{selected_by}
use Rattle.st_operators.specs.Laws.{IsOf}
use Rattle.st_meaning.specs.Meaning.{Calls, Values, leaf_with, no_value}
use Rattle.st_meaning.specs.Offsets.{chart_offset}
use Rattle.st_meaning.specs.Operations.{gives, binary_type, has_count, takes_one, takes_two, unary_type}
use Rattle.st_meaning.specs.Sketches.{Sketch, chart_size, chart_types}
use Rattle.st_meaning.specs.Steps.{has_step, step_elem}
use Rattle.st_meaning.specs.Terms.{Source, written, left_out, Term, constant, stored, of_step, unary, binary, selection, call, Terms, no_terms, more_terms, Parts, whole, field_part, element_part, LabelRange, Command, nothing, assign, choice, cases, count_loop, while_loop, repeat_loop, invoke, enter, exit, finish, Moves, no_moves, more_moves, Commands, no_commands, more_commands, Branches, no_branches, more_branches, Cases, no_cases, more_cases, Tests, no_tests, more_tests, count_tests, Actions, no_actions, more_actions, count_actions, Body, plain_body, chart_body}
use Rattle.st_meaning.specs.Wholes.{Called, Functions, Input, type_of}

-- the type of the value of a term
abbrev pub term_type : Composition → Term → Elem
term_type root (constant v) = v.elem
term_type root (stored ps) = or_lint (type_of root ps)
term_type root (of_step is_time name) = step_elem is_time
term_type root (unary o a) = unary_type o (term_type root a)
term_type root (binary o line a b) = binary_type o (term_type root a)
term_type root (selection g a b) = term_type root a
term_type root (call line unit result ts sources) = result

-- the types of terms
abbrev pub types_in : Composition → Terms → List Elem
types_in root no_terms = []
types_in root (more_terms t ts) = term_type root t ∷ types_in root ts

-- ---- calls of functions

-- the value is one of this type, where the arguments have these types
abbrev pub IsSourceOf : List Elem → Elem → Source → Type 0
IsSourceOf types e (written place) = slice_get types place ≡ Some e
IsSourceOf types e (left_out v) = IsOf e v

-- each input has a value of its type
abbrev pub AreSourcesOf : List Elem → List Input → List Source → Type 0
AreSourcesOf types [] [] = Unit {0}
AreSourcesOf types (i ∷ is) (s ∷ ss) = IsSourceOf types i.initial.elem s × AreSourcesOf types is ss
AreSourcesOf types _ _ = ⊥

-- the unit of this number is a function with this result, whose inputs have values of their types
pub record IsCall (functions : Functions) (unit : ℕ) (result : Elem) (types : List Elem) (sources : List Source) : Type 0 where
  pub function : Called
  pub known : functions unit ≡ Some function
  pub result_is : function.result ≡ result
  pub inputs : AreSourcesOf types function.inputs sources

abbrev mutual
  pub IsSoundTerm : Functions → Composition → Term → Type 0
  IsSoundTerm functions root (constant v) = IsValue v
  IsSoundTerm functions root (stored ps) = IsTrue (is_some (type_of root ps)) × AreSoundParts functions root ps
  IsSoundTerm functions root (of_step is_time name) = IsTrue (has_step root name)
  IsSoundTerm functions root (unary o a) = IsSoundTerm functions root a × IsTrue (takes_one o (term_type root a))
  IsSoundTerm functions root (binary o line a b) =
      IsSoundTerm functions root a × IsSoundTerm functions root b × IsTrue (takes_two o (term_type root a)) × (has_count o ≡ false → term_type root a ≡ term_type root b)
  IsSoundTerm functions root (call line unit result ts sources) = AreSoundTerms functions root ts × IsCall functions unit result (types_in root ts) sources
  IsSoundTerm functions root (selection g a b) = IsSoundTerm functions root g × IsSoundTerm functions root a × IsSoundTerm functions root b × (term_type root a ≡ term_type root b)

  pub AreSoundTerms : Functions → Composition → Terms → Type 0
  AreSoundTerms functions root no_terms = Unit {0}
  AreSoundTerms functions root (more_terms t ts) = IsSoundTerm functions root t × AreSoundTerms functions root ts

  -- the subscripts in a place are
  pub AreSoundParts : Functions → Composition → Parts → Type 0
  AreSoundParts functions root whole = Unit {0}
  AreSoundParts functions root (field_part name ps) = AreSoundParts functions root ps
  AreSoundParts functions root (element_part line ts ps) = AreSoundTerms functions root ts × AreSoundParts functions root ps

-- values of the types of inputs
abbrev pub AreInputsOf : List Input → Values → Type 0
AreInputsOf [] [] = Unit {0}
AreInputsOf (i ∷ is) (v ∷ values) = IsOf i.initial.elem v × AreInputsOf is values
AreInputsOf _ _ = ⊥

-- a value of this type, and no more steps
pub record IsResultOf (e : Elem) (left : ℕ) (v : Value) (rest : ℕ) : Type 0 where
  pub value : IsOf e v
  pub steps : rest ≤ left

-- What a function gives of values of the types of its inputs is a value of the type of its result, and no more steps are left than
-- before.
abbrev pub AreSoundCalls : Functions → Calls → Type 0
AreSoundCalls functions calls = (unit : ℕ) (function : Called) (inputs : Values) (left : ℕ) (v : Value) (rest : ℕ) → functions unit ≡ Some function
    → AreInputsOf function.inputs inputs → calls unit inputs left ≡ gives v rest → IsResultOf function.result left v rest

-- a place of this type
pub record IsPlaceOf (functions : Functions) (root : Composition) (e : Elem) (ps : Parts) : Type 0 where
  pub type : type_of root ps ≡ Some e
  pub parts : AreSoundParts functions root ps

-- a term of this type
pub record IsTermOf (functions : Functions) (root : Composition) (e : Elem) (t : Term) : Type 0 where
  pub type : term_type root t ≡ e
  pub sound : IsSoundTerm functions root t

-- both ends are values of the type
pub record IsLabelOf (e : Elem) (r : LabelRange) : Type 0 where
  pub least : IsTrue (in_range e r.least)
  pub greatest : IsTrue (in_range e r.greatest)

-- the place is found without subscripts
abbrev pub is_fixed : Parts → Bool
is_fixed whole = true
is_fixed (field_part name ps) = is_fixed ps
is_fixed (element_part line ts ps) = false

-- what FOR needs: its variable, which is no element, and three terms have one type
pub record IsCount (functions : Functions) (root : Composition) (ps : Parts) (a b c : Term) : Type 0 where
  pub variable : IsPlaceOf functions root (term_type root a) ps
  pub fixed : IsTrue (is_fixed ps)
  pub first : IsSoundTerm functions root a
  pub last : IsTermOf functions root (term_type root a) b
  pub step : IsTermOf functions root (term_type root a) c

-- each value has the type of its place
abbrev pub AreSoundMoves : Functions → Composition → Moves → Type 0
AreSoundMoves functions root no_moves = Unit {0}
AreSoundMoves functions root (more_moves ps t more) = IsPlaceOf functions root (term_type root t) ps × IsSoundTerm functions root t × AreSoundMoves functions root more

-- what an invocation needs: an instance of the block
pub record IsInvocation (functions : Functions) (root : Composition) (name : List ℕ) (b : StandardBlock) (entering leaving : Moves) : Type 0 where
  pub block : selected_by root name ≡ standard b
  pub inputs : AreSoundMoves functions root entering
  pub outputs : AreSoundMoves functions root leaving

-- ---- charts

-- what stands past the last leaf
abbrev pub no_leaf : LeafIn
no_leaf = record { path = []; spine = []; initial = no_value; use' = plain }

-- the type of the leaf of this number
abbrev pub type_at : Composition → ℕ → Elem
type_at root n = (get_or (leaves_in root) n no_leaf).initial.elem

-- The leaves of the chart are the last ones of the unit, and have their types.
pub record HasChartLeaves (root : Composition) (sketch : Sketch) : Type 0 where
  pub fits : chart_offset root + chart_size sketch ≤ count root
  pub types : (i : ℕ) → i < chart_size sketch → type_at root (chart_offset root + i) ≡ get_or (chart_types sketch) i elems.Bool

-- each condition is a BOOL
abbrev pub AreSoundTests : Functions → Composition → Tests → Type 0
AreSoundTests functions root no_tests = Unit {0}
AreSoundTests functions root (more_tests line t more) = IsTermOf functions root elems.Bool t × AreSoundTests functions root more

-- each name that is a variable is one of BOOL
abbrev pub AreBoolVariables : Composition → List (Option (List ℕ)) → Type 0
AreBoolVariables root [] = Unit {0}
AreBoolVariables root (None ∷ names) = AreBoolVariables root names
AreBoolVariables root (Some name ∷ names) = (type_of root (field_part name whole) ≡ Some elems.Bool) × AreBoolVariables root names

-- what a chart needs beside sound actions: as many conditions as transitions, and as many actions as are known
pub record IsChart (functions : Functions) (root : Composition) (sketch : Sketch) (tests : Tests) (actions : ℕ) : Type 0 where
  pub leaves : HasChartLeaves root sketch
  pub conditions : AreSoundTests functions root tests
  pub as_many_tests : length sketch.passages ≡ count_tests tests
  pub variables : AreBoolVariables root sketch.variables
  pub as_many_actions : length sketch.actions ≡ actions

abbrev mutual
  pub IsSoundCommand : Functions → Composition → Command → Type 0
  IsSoundCommand functions root (nothing line) = Unit {0}
  IsSoundCommand functions root (assign line ps t) = IsPlaceOf functions root (term_type root t) ps × IsSoundTerm functions root t
  IsSoundCommand functions root (choice line bs others) = AreSoundBranches functions root bs × AreSoundCommands functions root others
  IsSoundCommand functions root (cases line t cs others) = IsSoundTerm functions root t × AreSoundCases functions root (term_type root t) cs × AreSoundCommands functions root others
  IsSoundCommand functions root (count_loop line ps first last step cs) = IsCount functions root ps first last step × AreSoundCommands functions root cs
  IsSoundCommand functions root (while_loop line t cs) = IsSoundTerm functions root t × AreSoundCommands functions root cs
  IsSoundCommand functions root (repeat_loop line cs t) = AreSoundCommands functions root cs × IsSoundTerm functions root t
  IsSoundCommand functions root (invoke line name b inputs outputs) = IsInvocation functions root name b inputs outputs
  IsSoundCommand functions root (enter line name unit body inputs outputs) = AreSoundMoves functions root inputs × IsSoundBody functions (selected_by root name) body × AreSoundMoves functions root outputs
  IsSoundCommand functions root (exit line) = Unit {0}
  IsSoundCommand functions root (finish line) = Unit {0}

  pub AreSoundCommands : Functions → Composition → Commands → Type 0
  AreSoundCommands functions root no_commands = Unit {0}
  AreSoundCommands functions root (more_commands c cs) = IsSoundCommand functions root c × AreSoundCommands functions root cs

  pub AreSoundBranches : Functions → Composition → Branches → Type 0
  AreSoundBranches functions root no_branches = Unit {0}
  AreSoundBranches functions root (more_branches t cs bs) = IsSoundTerm functions root t × AreSoundCommands functions root cs × AreSoundBranches functions root bs

  pub AreSoundCases : Functions → Composition → Elem → Cases → Type 0
  AreSoundCases functions root e no_cases = Unit {0}
  AreSoundCases functions root e (more_cases labels cs more) = All (IsLabelOf e) labels × AreSoundCommands functions root cs × AreSoundCases functions root e more

  pub AreSoundActions : Functions → Composition → Actions → Type 0
  AreSoundActions functions root no_actions = Unit {0}
  AreSoundActions functions root (more_actions cs more) = AreSoundCommands functions root cs × AreSoundActions functions root more

  pub IsSoundBody : Functions → Composition → Body → Type 0
  IsSoundBody functions root (plain_body cs) = AreSoundCommands functions root cs
  IsSoundBody functions root (chart_body unit sketch tests actions) = IsChart functions root sketch tests (count_actions actions) × AreSoundActions functions root actions

-- ---- values of leaves

-- each place is that of one leaf: the first with its path
abbrev pub HasOneLeafEach : Composition → Type 0
HasOneLeafEach root = (path : Path) (n : ℕ) → LeadsTo root path n → leaf_with root path ≡ Some n

-- one value of its type for each leaf
pub record AreValuesOf (root : Composition) (values : Values) : Type 0 where
  pub all : length values ≡ count root
  pub each : (n : ℕ) → n < count root → IsOf (type_at root n) (get_or values n no_value)
