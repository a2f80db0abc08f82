-- The code of invocations of function blocks, made from its last instruction to the first.
use Rattle.std.proofs.Common.{◌≡◌, ℕ, suc, ◌+◌, ◌<◌, ◌≤◌, Bool, true, false, if◌then◌else◌, List, [], ◌∷◌, ◌++◌, length, drop, get_or, reverse, refl, sym, ap, ◌∙◌, rules, arith, append-nil, drop-cons}
use Rattle.std.specs.Prelude.{Option, Some, None}
use Rattle.st_values.specs.declared.elem.Elem.{Elem}
use Rattle.st_tree.specs.declared.tree.expression.Argument.{Argument, out-Argument}
use Rattle.st_tree.specs.declared.tree.expression.Argument.TheOpen.{Argument-F}
use Rattle.st_tree.specs.declared.tree.expression.Call.{Call, out-Call}
use Rattle.st_tree.specs.declared.tree.expression.Expression.{Expression}
use Rattle.st_tree.specs.declared.tree.expression.Operation.{Operation}
use Rattle.st_tree.specs.declared.tree.expression.Part.{Part}
use Rattle.st_tree.specs.declared.tree.expression.Variable.{Variable}
use Rattle.st_tree.specs.declared.tree.statement.CaseElement.{the_lemmas}
use Rattle.st_tree.specs.declared.tree.statement.Statement.{Statement}
use Rattle.st_tree.specs.declared.tree.statement.Statement.TheVariants as statements
use Rattle.st_values.specs.Words.{is_word}
use Rattle.st_types.specs.Compositions.{Composition, unknown, elementary, array, composed, standard, Members, none, member}
use Rattle.st_types.specs.Names.{Named, unit_at, units_of}
use Rattle.st_types.specs.declared.standard.StandardBlock.{StandardBlock}
use Rattle.st_leaves.specs.Selected.{member_selected, selected_by}
use Rattle.st_meaning.specs.Offsets.{offset_of}
use Rattle.st_meaning.specs.Typing.{call_command, command_of, entrance, input_moves, input_of, inputs_of, invocation, output_moves, output_of, outputs_of, pin_of, place_of}
use Rattle.st_meaning.specs.Terms.{Moves, no_moves}
use Rattle.st_meaning.specs.Units.{instance_of, instances_in, member_instance, root_of, unit_whole}
use Rattle.st_meaning.specs.Wholes.{Invoked, Whole, block_of, type_of}
use Rattle.st_code.specs.Code.{Line, at, command_code, moves_code, plain}
use Rattle.st_code.specs.declared.instr.Instr.{Instr}
use Rattle.st_code.specs.declared.instr.Instr.TheVariants.{Enter, Invoke, Step}
use Rattle.st_places.specs.Parts.{TablesView, optional_whole, whole_in}
use Rattle.st_emit.specs.declared.invocations.Moved.{Moved}
use Rattle.st_emit.specs.declared.invocations.Moved.TheVariants as moved
use Rattle.st_emit.specs.Instances.{entering, instance_instr, running}
use Rattle.st_emit.specs.Moves.{moves_of}
use Rattle.st_emit_expressions.specs.Trees.{whole_of}
use Rattle.st_emit_expressions.proofs.Before.{before_code}

-- ---- arguments

-- one, and the further ones
inputs_joined : (w : Whole) (name : List ℕ) (a : Argument) (xs : List Argument)
    → moves_code w.variables (inputs_of w name (a ∷ xs)) ≡ moves_code w.variables (inputs_of w name (a ∷ [])) ++ moves_code w.variables (inputs_of w name xs)
inputs_joined w name a xs = by (out-Argument a) where
  typed_by : (o : Option Elem) (pin : List ℕ) (x : Expression)
      → moves_code w.variables (input_moves w name o pin x (inputs_of w name xs)) ≡ moves_code w.variables (input_moves w name o pin x no_moves) ++ moves_code w.variables (inputs_of w name xs)
  typed_by None pin x = refl
  typed_by (Some e) pin x = ap (λ l. l ++ moves_code w.variables (inputs_of w name xs)) (sym (append-nil _))

  by : (y : Argument-F Argument Expression Part Call Operation Variable)
      → moves_code w.variables (input_of w name y (inputs_of w name xs)) ≡ moves_code w.variables (input_of w name y no_moves) ++ moves_code w.variables (inputs_of w name xs)
  by (Argument-F.Positional x) = refl
  by (Argument-F.Input n x) = typed_by (type_of w.variables (pin_of name n.spelling)) n.spelling x
  by (Argument-F.Output n v) = refl

outputs_joined : (w : Whole) (name : List ℕ) (a : Argument) (xs : List Argument)
    → moves_code w.variables (outputs_of w name (a ∷ xs)) ≡ moves_code w.variables (outputs_of w name (a ∷ [])) ++ moves_code w.variables (outputs_of w name xs)
outputs_joined w name a xs = by (out-Argument a) where
  typed_by : (o : Option Elem) (pin : List ℕ) (v : Variable)
      → moves_code w.variables (output_moves w name o pin v (outputs_of w name xs)) ≡ moves_code w.variables (output_moves w name o pin v no_moves) ++ moves_code w.variables (outputs_of w name xs)
  typed_by None pin v = refl
  typed_by (Some e) pin v = ap (λ l. l ++ moves_code w.variables (outputs_of w name xs)) (sym (append-nil _))

  by : (y : Argument-F Argument Expression Part Call Operation Variable)
      → moves_code w.variables (output_of w name y (outputs_of w name xs)) ≡ moves_code w.variables (output_of w name y no_moves) ++ moves_code w.variables (outputs_of w name xs)
  by (Argument-F.Positional x) = refl
  by (Argument-F.Input n x) = refl
  by (Argument-F.Output n v) = typed_by (type_of w.variables (place_of w v)) n.spelling v

pub moves_joined : (m : Moved) (w : Whole) (name : List ℕ) (a : Argument) (xs : List Argument)
    → moves_code w.variables (moves_of m w name (a ∷ xs)) ≡ moves_code w.variables (moves_of m w name (a ∷ [])) ++ moves_code w.variables (moves_of m w name xs)
moves_joined moved.Inputs = inputs_joined
moves_joined moved.Outputs = outputs_joined

-- the code of the arguments from the one of this number on, with that of one before them
pub moves_step : (root : Composition) (moves : List Argument → Moves) (all : List Argument) (i j : ℕ) (a : Argument) (base code new : List Line)
    → ((x : Argument) (xs : List Argument) → moves_code root (moves (x ∷ xs)) ≡ moves_code root (moves (x ∷ [])) ++ moves_code root (moves xs))
    → j + 1 ≡ i → i ≤ length all → a ≡ get_or all j a → code ≡ base ++ reverse (moves_code root (moves (drop i all)))
    → new ≡ code ++ reverse (moves_code root (moves (a ∷ []))) → new ≡ base ++ reverse (moves_code root (moves (drop j all)))
moves_step root moves all i j a base code new joined e le q h g =
    let lt : j < length all = omega (arith, e, le) in
    let next : suc j ≡ i = omega (arith, e) in
    let left : drop j all ≡ a ∷ drop i all = drop-cons all j a lt ∙ ap (λ y. y ∷ drop (suc j) all) (sym q) ∙ ap (λ k. a ∷ drop k all) next in
    before_code base code new (moves_code root (moves (drop i all))) (moves_code root (moves (a ∷ []))) h g
    ∙ ap (λ l. base ++ reverse l) (sym (joined a (drop i all))) ∙ ap (λ l. base ++ reverse (moves_code root (moves l))) (sym left)

-- ---- call statements

call_is : (w : Whole) (c : Call) → command_of w (statements.Call c) ≡ call_command w c
call_is w c = search (rules, the_lemmas)

-- the code of an invocation, where this instruction runs the block
abbrev pub invocation_code : Whole → Call → Instr → List Line
invocation_code w c i =
    let x = out-Call c in
    let line = x.name.position.line in
    at line Step
    ++ (at line Step ++ (moves_code w.variables (inputs_of w x.name.spelling x.arguments) ++ (plain i ++ moves_code w.variables (outputs_of w x.name.spelling x.arguments))))

module _ (w : Whole) (c : Call) where
  abbrev called_name : List ℕ
  called_name = (out-Call c).name.spelling

  abbrev called_line : ℕ
  called_line = (out-Call c).name.position.line

  abbrev called_with : List Argument
  called_with = (out-Call c).arguments

  -- a name that stands for no instance
  not_entered : (u : Option Invoked) → entering (offset_of w.variables called_name) u ≡ None → command_code w.variables (entrance w called_line called_name u called_with) 0 0 ≡ at called_line Step
  not_entered None h = refl
  not_entered (Some unit) h = cc

  not_run : (b : Option StandardBlock) → running (offset_of w.variables called_name) b (w.invoked called_name) ≡ None → command_code w.variables (invocation w called_line called_name b called_with) 0 0 ≡ at called_line Step
  not_run None h = not_entered (w.invoked called_name) h
  not_run (Some b) h = cc

  pub not_called : instance_instr w called_name ≡ None → command_code w.variables (call_command w c) 0 0 ≡ at called_line Step
  not_called h = not_run (block_of (selected_by w.variables called_name)) h

  -- a name that stands for an instance, which this instruction runs
  is_entered : (i : Instr) (u : Option Invoked) → entering (offset_of w.variables called_name) u ≡ Some i
      → command_code w.variables (entrance w called_line called_name u called_with) 0 0 ≡ invocation_code w c i
  is_entered i None h = cc
  is_entered i (Some unit) h = let same : Enter (offset_of w.variables called_name) unit.number ≡ i = cc in ap (invocation_code w c) same

  is_run : (i : Instr) (b : Option StandardBlock) → running (offset_of w.variables called_name) b (w.invoked called_name) ≡ Some i
      → command_code w.variables (invocation w called_line called_name b called_with) 0 0 ≡ invocation_code w c i
  is_run i None h = is_entered i (w.invoked called_name) h
  is_run i (Some b) h = let same : Invoke b (offset_of w.variables called_name) ≡ i = cc in ap (invocation_code w c) same

  pub called : (i : Instr) → instance_instr w called_name ≡ Some i → command_code w.variables (call_command w c) 0 0 ≡ invocation_code w c i
  called i h = is_run i (block_of (selected_by w.variables called_name)) h

-- ---- instances of function blocks of the text

none_member : (units : List Named) (ms : Members) (name : List ℕ) → member_selected ms name ≡ unknown → member_instance units ms name ≡ None
none_member units none name h = refl
none_member units (member other kind c ms) name h = by (is_word other name) h (λ k. none_member units ms name k) where
  by : (b : Bool) → (if b then c else member_selected ms name) ≡ unknown → (member_selected ms name ≡ unknown → member_instance units ms name ≡ None)
      → (if b then instance_of units c else member_instance units ms name) ≡ None
  by true k rest = ap (instance_of units) k
  by false k rest = rest k

none_in : (units : List Named) (c : Composition) (name : List ℕ) → selected_by c name ≡ unknown → instances_in units c name ≡ None
none_in units unknown name h = refl
none_in units (elementary v) name h = refl
none_in units (array ranges firsts c) name h = refl
none_in units (composed whole ms chart) name h = none_member units ms name h
none_in units (standard b) name h = refl

-- a name that selects nothing is none
pub nothing_invoked : (scope : TablesView × ℕ) (name : List ℕ) → selected_by (whole_of scope).variables name ≡ unknown → (whole_of scope).invoked name ≡ None
unfolding whole_in unit_whole
nothing_invoked scope name h = by (unit_at (units_of scope.0.text) scope.1) h where
  by : (unit : Option Named) → selected_by (optional_whole (units_of scope.0.text) unit).variables name ≡ unknown → (optional_whole (units_of scope.0.text) unit).invoked name ≡ None
  by None k = refl
  by (Some unit) k = none_in (units_of scope.0.text) (root_of (units_of scope.0.text) unit) name k

-- it needs no distance
pub call_code : (w : Whole) (y : Statement) (c d : Call) (out end : ℕ) → y ≡ statements.Call c → d ≡ c
    → command_code w.variables (call_command w d) 0 0 ≡ command_code w.variables (command_of w y) out end
call_code w y c d out end e f =
    let x = out-Call c in
    ap (λ z. command_code w.variables (call_command w z) 0 0) f ∙ by x.name.position.line x.name.spelling (block_of (selected_by w.variables x.name.spelling)) x.arguments
    ∙ ap (λ z. command_code w.variables z out end) (sym (ap (command_of w) e ∙ call_is w c)) where
      by_unit : (line : ℕ) (name : List ℕ) (unit : Option Invoked) (xs : List Argument)
          → command_code w.variables (entrance w line name unit xs) 0 0 ≡ command_code w.variables (entrance w line name unit xs) out end
      by_unit line name None xs = refl
      by_unit line name (Some unit) xs = refl

      by : (line : ℕ) (name : List ℕ) (b : Option StandardBlock) (xs : List Argument)
          → command_code w.variables (invocation w line name b xs) 0 0 ≡ command_code w.variables (invocation w line name b xs) out end
      by line name None xs = by_unit line name (w.invoked name) xs
      by line name (Some b) xs = refl
