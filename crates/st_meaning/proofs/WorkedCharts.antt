-- Worked charts: what they are without names, and what invocations of them mean (2.6).
use Rattle.std.proofs.Common.{◌≡◌, ℕ, ℤ, pos, Bool, true, false, List, [], ◌∷◌, ◌++◌, codes, Option, None, Some, refl}
use Rattle.st_values.specs.declared.elem.Elem.{Elem}
use Rattle.st_values.specs.declared.elem.Elem.TheVariants as elems
use Rattle.st_values.specs.declared.value.Value.{Value}
use Rattle.st_tree.specs.declared.operator.BinOp.TheVariants as operators
use Rattle.st_tree.specs.declared.tree.constant.Duration.{Duration}
use Rattle.st_tree.specs.declared.tree.declaration.VarKind.TheVariants as var_kinds
use Rattle.st_tree.specs.declared.tree.expression.Expression.{Expression}
use Rattle.st_tree.specs.declared.tree.position.Identifier.{Identifier}
use Rattle.st_tree.specs.declared.tree.unit.ActionQualifier.{ActionQualifier}
use Rattle.st_tree.specs.declared.tree.unit.Association.{Association}
use Rattle.st_tree.specs.declared.tree.unit.ChartElement.{ChartElement}
use Rattle.st_tree.specs.declared.tree.unit.ChartElement.TheVariants as chart_elements
use Rattle.st_types.specs.Compositions.{Composition, elementary, composed, Members, none, member}
use Rattle.st_types.specs.Initials.{zero_of}
use Rattle.st_values.specs.Values.{truth}
use Rattle.st_charts.specs.Passages.{Passage}
use Rattle.st_charts.specs.declared.table.Link.{Link}
use Rattle.st_charts.specs.declared.table.Qualifier.{Qualifier}
use Rattle.st_charts.specs.declared.table.Qualifier.TheVariants as qualifiers
use Rattle.st_meaning.specs.Meaning.{Calls, Values}
use Rattle.st_meaning.specs.Offsets.{chart_offset, step_leaf}
use Rattle.st_meaning.specs.Operations.{stops, stop}
use Rattle.st_meaning.specs.Sketched.{sketch_of}
use Rattle.st_meaning.specs.Sketches.{Sketch, chart_size}
use Rattle.st_meaning.specs.Statements.{Outcome, Setting, done, faulted, body_meaning}
use Rattle.st_meaning.specs.Terms.{Term, constant, stored, of_step, unary, binary, Parts, whole, field_part, Command, assign, while_loop, finish, no_commands, more_commands, no_tests, more_tests, no_actions, more_actions, Body, chart_body}
use Rattle.st_meaning.specs.declared.fault.RunFaultKind.TheVariants as faults
use Rattle.st_meaning.specs.declared.operation.Binary.TheVariants as binaries
use Rattle.st_meaning.specs.declared.operation.Unary.TheVariants as unaries

-- ---- elements

abbrev identifier : List ℕ → Identifier
identifier spelling = record { position = record { number = 0; line = 1 }; spelling = spelling }

abbrev duration : ℤ → Duration
duration milliseconds = record { position = record { number = 0; line = 1 }; milliseconds = milliseconds }

-- an association with this qualifier, or with none
abbrev associated : List ℕ → Option ActionQualifier → Association
associated name qualifier = record { name = identifier name; qualifier = qualifier }

abbrev qualified : List ℕ → Option ℤ → Option ActionQualifier
qualified letter None = Some (record { name = identifier letter; duration = None })
qualified letter (Some milliseconds) = Some (record { name = identifier letter; duration = Some (duration milliseconds) })

abbrev a_step : Bool → List ℕ → List Association → ChartElement
a_step is_initial name associations = chart_elements.Step (record {
  position = record { number = 0; line = 1 };
  is_initial = is_initial;
  name = identifier name;
  associations = associations;
})

abbrev transition : Option ℕ → List Identifier → List Identifier → Expression → ChartElement
transition priority from to condition = chart_elements.Transition (record {
  position = record { number = 0; line = 1 };
  name = None;
  priority = priority;
  from = from;
  to = to;
  condition = condition;
})

abbrev an_action : List ℕ → ChartElement
an_action name = chart_elements.Action (record { position = record { number = 0; line = 1 }; name = identifier name; statements = [] })

abbrev variable : Elem → List ℕ → Members → Members
variable e name ms = member name var_kinds.Internal (elementary (zero_of e)) ms

-- ---- values and statements

abbrev of : Elem → ℤ → Value
of e number = record { elem = e; bits = number }

-- of a step without pulses
abbrev a_cell : Bool → (elapsed since : ℤ) → Values → Values
a_cell active elapsed since more = truth active ∷ of elems.Time elapsed ∷ of elems.Time since ∷ more

abbrev place : List ℕ → Parts
place name = field_part name whole

-- of this variable as the number goes up by this, on the line
abbrev add : ℕ → List ℕ → ℤ → Command
add line name n = assign line (place name) (binary (binaries.Operator operators.Add) line (stored (place name)) (constant (of elems.Int n)))

abbrev always : Term
always = constant (truth true)

abbrev no_calls : Calls
no_calls unit inputs left = stops (stop faults.StepLimit 0)

abbrev at : ℤ → Setting
at now = record { now = now; forced = [] }

abbrev link : ℕ → ℕ → Qualifier → ℤ → Link
link s n qualifier time = record { step = s; name = n; qualifier = qualifier; time = time }

abbrev passage : ℕ → ℕ → Passage
passage from to = record { before = from ∷ []; after = to ∷ []; priority = None }

-- ---- S, R, L and D

-- INITIAL_STEP S1: A(S); B(L, T#20ms); C(D, T#20ms); END_STEP STEP S2: a(R); END_STEP, a transition from S1 to s2 and one back
module _ (first second : Expression) where
  abbrev lamps : List ChartElement
  lamps =
      a_step true (codes "S1")
      (associated (codes "A") (qualified (codes "S") None) ∷ associated (codes "B") (qualified (codes "l") (Some (pos 20)))
      ∷ associated (codes "C") (qualified (codes "D") (Some (pos 20))) ∷ [])
      ∷ a_step false (codes "S2") (associated (codes "a") (qualified (codes "R") None) ∷ [])
      ∷ transition None (identifier (codes "S1") ∷ []) (identifier (codes "s2") ∷ []) first
      ∷ transition None (identifier (codes "S2") ∷ []) (identifier (codes "S1") ∷ []) second
      ∷ []

  -- VAR A : BOOL; B : BOOL; C : BOOL; END_VAR
  abbrev lamp_root : Composition
  lamp_root = composed (codes "PROGRAM") (variable elems.Bool (codes "A") (variable elems.Bool (codes "B") (variable elems.Bool (codes "C") none))) lamps

  abbrev lamp_sketch : Sketch
  lamp_sketch = record {
    pulses = false ∷ false ∷ [];
    passages = passage 0 1 ∷ passage 1 0 ∷ [];
    links = link 0 0 qualifiers.Stored (pos 0) ∷ link 0 1 qualifiers.Limited (pos 20) ∷ link 0 2 qualifiers.Delayed (pos 20) ∷ link 1 0 qualifiers.Reset (pos 0) ∷ [];
    variables = Some (codes "A") ∷ Some (codes "B") ∷ Some (codes "C") ∷ [];
    stored = 0 ∷ [];
    actions = [];
  }

  lamps_are : sketch_of lamp_root lamps ≡ lamp_sketch
  lamps_are = refl

  -- whether A is stored stands last
  lamp_leaves : chart_size lamp_sketch ≡ 8
  lamp_leaves = refl

  lamp_chart_is_behind : chart_offset lamp_root ≡ 3
  lamp_chart_is_behind = refl

  second_step_is_active : step_leaf lamp_root false (codes "s2") ≡ 7
  second_step_is_active = refl

  second_step_has_time : step_leaf lamp_root true (codes "S2") ≡ 8
  second_step_has_time = refl

  -- S1.T >= T#30ms on line 4, and TRUE on line 5
  abbrev lamp_body : Body
  lamp_body =
      chart_body 0 lamp_sketch
      (more_tests 4 (binary (binaries.Operator operators.Ge) 4 (of_step true (codes "s1")) (constant (of elems.Time (pos 30)))) (more_tests 5 always no_tests)) no_actions

  abbrev lamp_values : (a b c begun : Bool) → Values → Bool → Values
  lamp_values a b c begun steps is_stored = truth a ∷ truth b ∷ truth c ∷ truth begun ∷ (steps ++ (truth is_stored ∷ []))

  abbrev lamps_at : ℤ → Values → ℕ → Outcome
  lamps_at now values left = body_meaning no_calls lamp_root (at now) lamp_body values left

  -- At the first invocation no condition is asked, and S1 is active since then.
  lamps_begin : lamps_at (pos 7) (lamp_values false false false false (a_cell true (pos 0) (pos 0) (a_cell false (pos 0) (pos 0) [])) false) 9
      ≡ done (lamp_values true true false true (a_cell true (pos 0) (pos 7) (a_cell false (pos 0) (pos 0) [])) true) 9
  lamps_begin = refl

  -- 20 ms later L has ended, and D begins. One condition is asked.
  lamps_go_on : lamps_at (pos 27) (lamp_values true true false true (a_cell true (pos 0) (pos 7) (a_cell false (pos 0) (pos 0) [])) true) 9
      ≡ done (lamp_values true false true true (a_cell true (pos 20) (pos 7) (a_cell false (pos 0) (pos 0) [])) true) 8
  lamps_go_on = refl

  -- Behind 30 ms S1 is left with its time, and S2 resets A.
  lamps_are_reset : lamps_at (pos 37) (lamp_values true false true true (a_cell true (pos 20) (pos 7) (a_cell false (pos 0) (pos 0) [])) true) 9
      ≡ done (lamp_values false false false true (a_cell false (pos 30) (pos 7) (a_cell true (pos 0) (pos 37) [])) false) 8
  lamps_are_reset = refl

  -- From there the condition of the first transition isn't asked.
  lamps_come_back : lamps_at (pos 38) (lamp_values false false false true (a_cell false (pos 30) (pos 7) (a_cell true (pos 0) (pos 37) [])) false) 9
      ≡ done (lamp_values true true false true (a_cell true (pos 0) (pos 38) (a_cell false (pos 1) (pos 37) [])) true) 8
  lamps_come_back = refl

  -- a condition without a step left
  lamps_stop : lamps_at (pos 38) (lamp_values false false false true (a_cell false (pos 30) (pos 7) (a_cell true (pos 0) (pos 37) [])) false) 0
      ≡ faulted (stop faults.StepLimit 5)
  lamps_stop = refl

-- ---- P, and actions

-- INITIAL_STEP S1: Tick(P); END_STEP STEP S2: Note; Tick(P); END_STEP, transitions there and back, and ACTIONs Tick, Other and Note
module _ (first second : Expression) where
  abbrev ticks : List ChartElement
  ticks =
      a_step true (codes "S1") (associated (codes "Tick") (qualified (codes "P") None) ∷ [])
      ∷ a_step false (codes "S2") (associated (codes "Note") None ∷ associated (codes "TICK") (qualified (codes "P") None) ∷ [])
      ∷ transition (Some 3) (identifier (codes "S1") ∷ []) (identifier (codes "S2") ∷ []) first
      ∷ an_action (codes "tick") ∷ an_action (codes "Other") ∷ an_action (codes "Note")
      ∷ transition None (identifier (codes "S2") ∷ []) (identifier (codes "S1") ∷ []) second
      ∷ []

  -- VAR N : INT; Go : BOOL; END_VAR
  abbrev tick_root : Composition
  tick_root = composed (codes "PROGRAM") (variable elems.Int (codes "N") (variable elems.Bool (codes "Go") none)) ticks

  -- Other, which no step is associated with, has a number that is none of a name.
  abbrev tick_sketch : Sketch
  tick_sketch = record {
    pulses = true ∷ true ∷ [];
    passages = record { before = 0 ∷ []; after = 1 ∷ []; priority = Some 3 } ∷ passage 1 0 ∷ [];
    links = link 0 0 qualifiers.Pulse (pos 0) ∷ link 1 1 qualifiers.NonStored (pos 0) ∷ link 1 0 qualifiers.Pulse (pos 0) ∷ [];
    variables = None ∷ None ∷ [];
    stored = [];
    actions = 0 ∷ 2 ∷ 1 ∷ [];
  }

  ticks_are : sketch_of tick_root ticks ≡ tick_sketch
  ticks_are = refl

  -- Tick is N := N + 1; WHILE TRUE DO RETURN; END_WHILE N := 9; END_ACTION, Other is N := N + 100, and Note is N := N + 20
  abbrev tick_body : Body
  tick_body =
      chart_body 0 tick_sketch
      (more_tests 6 (stored (place (codes "go"))) (more_tests 7 (unary unaries.Complement (stored (place (codes "Go")))) no_tests))
      (more_actions (more_commands (add 10 (codes "N") (pos 1)) (more_commands (while_loop 11 always (more_commands (finish 11) no_commands)) (more_commands (add 12 (codes "N") (pos 9)) no_commands)))
      (more_actions (more_commands (add 13 (codes "N") (pos 100)) no_commands) (more_actions (more_commands (add 14 (codes "N") (pos 20)) no_commands) no_actions)))

  abbrev pulsing : (active : Bool) (elapsed since : ℤ) (pulsed : Bool) → Values → Values
  pulsing active elapsed since pulsed more = a_cell active elapsed since (truth pulsed ∷ more)

  abbrev tick_values : ℤ → (go begun : Bool) → Values → Values
  tick_values n go begun steps = of elems.Int n ∷ truth go ∷ truth begun ∷ steps

  abbrev ticks_at : ℤ → Values → ℕ → Outcome
  ticks_at now values left = body_meaning no_calls tick_root (at now) tick_body values left

  -- RETURN ends the action: four steps are taken, and S1 has pulsed.
  ticks_begin : ticks_at (pos 0) (tick_values (pos 0) false false (pulsing true (pos 0) (pos 0) false (pulsing false (pos 0) (pos 0) false []))) 9
      ≡ done (tick_values (pos 1) false true (pulsing true (pos 0) (pos 0) true (pulsing false (pos 0) (pos 0) false []))) 5
  ticks_begin = refl

  -- P shows its name once.
  ticks_once : ticks_at (pos 5) (tick_values (pos 1) false true (pulsing true (pos 0) (pos 0) true (pulsing false (pos 0) (pos 0) false []))) 9
      ≡ done (tick_values (pos 1) false true (pulsing true (pos 5) (pos 0) true (pulsing false (pos 0) (pos 0) false []))) 8
  ticks_once = refl

  -- In S2 both actions are on, and run in the order of the text, the second though RETURN ends the first.
  ticks_and_notes : ticks_at (pos 8) (tick_values (pos 1) true true (pulsing true (pos 5) (pos 0) true (pulsing false (pos 0) (pos 0) false []))) 9
      ≡ done (tick_values (pos 22) true true (pulsing false (pos 8) (pos 0) false (pulsing true (pos 0) (pos 8) true []))) 3
  ticks_and_notes = refl

  notes_alone : ticks_at (pos 9) (tick_values (pos 22) true true (pulsing false (pos 8) (pos 0) false (pulsing true (pos 0) (pos 8) true []))) 9
      ≡ done (tick_values (pos 42) true true (pulsing false (pos 8) (pos 0) false (pulsing true (pos 1) (pos 8) true []))) 7
  notes_alone = refl

  -- a fault in an action
  ticks_stop : ticks_at (pos 8) (tick_values (pos 1) true true (pulsing true (pos 5) (pos 0) true (pulsing false (pos 0) (pos 0) false []))) 5
      ≡ faulted (stop faults.StepLimit 14)
  ticks_stop = refl

-- ---- names before actions

-- INITIAL_STEP S1: Go; Note; END_STEP, which leads to itself, and ACTION Note
module _ (condition : Expression) where
  abbrev notes : List ChartElement
  notes =
      a_step true (codes "S1") (associated (codes "Go") None ∷ associated (codes "Note") None ∷ []) ∷ transition None (identifier (codes "S1") ∷ []) (identifier (codes "S1") ∷ []) condition
      ∷ an_action (codes "Note") ∷ []

  abbrev note_root : Composition
  note_root = composed (codes "PROGRAM") (variable elems.Int (codes "N") (variable elems.Bool (codes "Go") none)) notes

  abbrev note_sketch : Sketch
  note_sketch = record {
    pulses = false ∷ [];
    passages = passage 0 0 ∷ [];
    links = link 0 0 qualifiers.NonStored (pos 0) ∷ link 0 1 qualifiers.NonStored (pos 0) ∷ [];
    variables = Some (codes "Go") ∷ None ∷ [];
    stored = [];
    actions = 1 ∷ [];
  }

  notes_are : sketch_of note_root notes ≡ note_sketch
  notes_are = refl

  abbrev note_values : ℤ → (go begun : Bool) → (elapsed since : ℤ) → Values
  note_values n go begun elapsed since = of elems.Int n ∷ truth go ∷ truth begun ∷ a_cell true elapsed since []

  -- N := BOOL_TO_INT(Go), which is stored before
  abbrev note_body : Body
  note_body =
      chart_body 0 note_sketch (more_tests 3 always no_tests)
      (more_actions (more_commands (assign 4 (place (codes "N")) (unary (unaries.Convert elems.Int) (stored (place (codes "Go"))))) no_commands) no_actions)

  variables_are_stored_first : body_meaning no_calls note_root (at (pos 2)) note_body (note_values (pos 0) false false (pos 0) (pos 0)) 9
      ≡ done (note_values (pos 1) true true (pos 0) (pos 2)) 8
  variables_are_stored_first = refl

  -- a step that leads to itself is active since now
  step_begins_anew : body_meaning no_calls note_root (at (pos 5)) note_body (note_values (pos 1) true true (pos 0) (pos 2)) 9
      ≡ done (note_values (pos 1) true true (pos 0) (pos 5)) 7
  step_begins_anew = refl
