-- The code of invocations of function blocks of the text.
use Rattle.std.proofs.Common.{◌≡◌, ℕ, ◌+◌, ◌≤◌, List, ◌++◌, drop, length, nat_le, ℤ, Some, refl, ap, sym, ◌∙◌, subst, arith, length-append}
use Rattle.std.specs.Prelude.{slice_get}
use Rattle.std.proofs.lemmas.Bool.{le-leb}
use Rattle.st_leaves.specs.Places.{count}
use Rattle.st_leaves.specs.Selected.{selected_by}
use Rattle.st_meaning.specs.Laws.{KeepsFrame, StaysInFrame}
use Rattle.st_meaning.specs.Meaning.{Values}
use Rattle.st_meaning.specs.Offsets.{offset_of}
use Rattle.st_meaning.specs.Sound.{AreValuesOf, IsSoundBody, IsSoundCommand}
use Rattle.st_meaning.specs.Statements.{Outcome, done, exited, returned, faulted, after_step, body_meaning, command_meaning, ended, instance_meaning, left_by, moves_meaning, setting_from, stretch, then_do}
use Rattle.st_meaning.specs.Terms.{Body, Moves, enter}
use Rattle.st_meaning.proofs.Bodies.{body_ended}
use Rattle.st_meaning.proofs.Commands.{bodies_keep_the_frame}
use Rattle.st_meaning.proofs.Instances.{part_has_one, part_keeps}
use Rattle.st_meaning.proofs.Stretches.{part_fits, part_values}
use Rattle.st_code.specs.Code.{at, command_code, moves_code, plain}
use Rattle.st_code.specs.Depth.{command_depth}
use Rattle.st_code.specs.Invocations.{IsBodyOf}
use Rattle.st_code.specs.Machine.{act, entered, enters, state, stuck}
use Rattle.st_code.specs.declared.instr.Instr.TheVariants.{Enter, Step}
use Rattle.st_code.proofs.Moves.{moves_run}
use Rattle.st_code.proofs.Runs.{Runs, runs_at, step_run, then_run}
use Rattle.st_code.proofs.Steps.{HasAt, World, called, halt, has_back, has_front, if_true, line_of, step}

module _ (w : World) where
  -- what the body of an invocation does to the values of the instance
  abbrev body_does : (name : List ℕ) (body : Body) → Values → ℕ → Outcome
  body_does name body values left =
      body_meaning (called w) (selected_by w.root name) (setting_from (offset_of w.root name) w.env.setting) body
      (stretch values (offset_of w.root name) (count (selected_by w.root name))) left

  -- it keeps the frame of the instance
  body_stays : (name : List ℕ) (body : Body) (values : Values) (left : ℕ) → IsSoundBody w.functions (selected_by w.root name) body → AreValuesOf w.root values
      → StaysInFrame (selected_by w.root name) (drop (offset_of w.root name) w.env.setting.forced)
      (stretch values (offset_of w.root name) (count (selected_by w.root name))) left (body_does name body values left)
  body_stays name body values left sound ok =
      let part = selected_by w.root name in
      bodies_keep_the_frame w.functions (called w) part (setting_from (offset_of w.root name) w.env.setting) body (stretch values (offset_of w.root name) (count part)) left
      w.known w.moment (part_has_one w.root name w.apart) (part_values w.root name part refl values ok) sound

  -- the unit's body is the one that the invocation means, and the instance stands among the values
  enters_so : (name : List ℕ) (unit : ℕ) (body : Body) (pc : ℕ) (stack : List ℤ) (values : Values) (left : ℕ)
      → IsBodyOf (called w) (selected_by w.root name) body (w.env.bodies unit) → AreValuesOf w.root values
      → act w.env w.room (Enter (offset_of w.root name) unit) 0 pc stack values left
      ≡ entered pc stack (left_by unit (offset_of w.root name) values (ended (body_does name body values left)))
  enters_so name unit body pc stack values left is ok =
      let leaf = offset_of w.root name in
      let part = selected_by w.root name in
      let size = count part in
      let within = setting_from leaf w.env.setting in
      let run = (w.env.bodies unit).run in
      let fits : leaf + size ≤ length values = omega (arith, part_fits w.root name part refl, ok.all) in
      ap (λ n. enters w.env.setting (record { size = n; run = run }) unit leaf pc stack values left) is.size
      ∙ if_true (nat_le (leaf + size) (length values)) (entered pc stack (left_by unit leaf values (ended (run within (stretch values leaf size) left)))) stuck
      (le-leb (leaf + size) (length values) fits)
      ∙ ap (λ o. entered pc stack (left_by unit leaf values o))
      (is.same within (stretch values leaf size) left w.moment (part_values w.root name part refl values ok) ∙ sym (body_ended (called w) part within body (stretch values leaf size) left))

  -- the run goes on with what the body leaves
  done_run : (name : List ℕ) (unit pc out last : ℕ) (stack : List ℤ) (values : Values) (left : ℕ) (part : Values) (n : ℕ) → AreValuesOf w.root values
      → slice_get w.code pc ≡ Some (line_of 0 (Enter (offset_of w.root name) unit))
      → act w.env w.room (Enter (offset_of w.root name) unit) 0 pc stack values left
      ≡ entered pc stack (left_by unit (offset_of w.root name) values (done part n))
      → KeepsFrame (selected_by w.root name) (drop (offset_of w.root name) w.env.setting.forced)
      (stretch values (offset_of w.root name) (count (selected_by w.root name))) left part n
      → Runs w (state pc stack values left) (pc + 1) out last stack left (left_by unit (offset_of w.root name) values (done part n))
  done_run name unit pc out last stack values left part n ok h e keeps =
      let kept = part_keeps w.root name (selected_by w.root name) refl w.env.setting.forced values ok left part n keeps in
      (kept.steps, kept.all, step w (Enter (offset_of w.root name) unit) 0 pc stack values left _ h e)

  -- or ends at its fault
  left_run : (name : List ℕ) (unit pc out last : ℕ) (stack : List ℤ) (values : Values) (left : ℕ) (o : Outcome) → AreValuesOf w.root values
      → slice_get w.code pc ≡ Some (line_of 0 (Enter (offset_of w.root name) unit))
      → act w.env w.room (Enter (offset_of w.root name) unit) 0 pc stack values left
      ≡ entered pc stack (left_by unit (offset_of w.root name) values (ended o))
      → StaysInFrame (selected_by w.root name) (drop (offset_of w.root name) w.env.setting.forced)
      (stretch values (offset_of w.root name) (count (selected_by w.root name))) left o
      → Runs w (state pc stack values left) (pc + 1) out last stack left (left_by unit (offset_of w.root name) values (ended o))
  left_run name unit pc out last stack values left (done part n) ok h e keeps = done_run name unit pc out last stack values left part n ok h e keeps
  left_run name unit pc out last stack values left (exited part n) ok h e keeps = done_run name unit pc out last stack values left part n ok h e keeps
  left_run name unit pc out last stack values left (returned part n) ok h e keeps = done_run name unit pc out last stack values left part n ok h e keeps
  left_run name unit pc out last stack values left (faulted f) ok h e keeps = halt w (Enter (offset_of w.root name) unit) 0 pc stack values left _ h e

  instance_run : (name : List ℕ) (unit : ℕ) (body : Body) (pc out last : ℕ) (stack : List ℤ) (values : Values) (left : ℕ)
      → slice_get w.code pc ≡ Some (line_of 0 (Enter (offset_of w.root name) unit)) → IsBodyOf (called w) (selected_by w.root name) body (w.env.bodies unit)
      → IsSoundBody w.functions (selected_by w.root name) body → AreValuesOf w.root values
      → Runs w (state pc stack values left) (pc + 1) out last stack left
      (instance_meaning w.root w.env.setting name unit (λ within part i. body_meaning (called w) (selected_by w.root name) within body part i) values left)
  instance_run name unit body pc out last stack values left h is sound ok =
      let leaf = offset_of w.root name in
      let within = setting_from leaf w.env.setting in
      let part = selected_by w.root name in
      subst (λ o. Runs w (state pc stack values left) (pc + 1) out last stack left (left_by unit leaf values o))
      (body_ended (called w) part within body (stretch values leaf (count part)) left)
      (left_run name unit pc out last stack values left (body_does name body values left) ok h (enters_so name unit body pc stack values left is ok)
      (body_stays name body values left sound ok))

  pub enter_run : (line : ℕ) (name : List ℕ) (unit : ℕ) (body : Body) (inputs outputs : Moves) (pc out last : ℕ) (stack : List ℤ)
      → HasAt w.code pc (command_code w.root (enter line name unit body inputs outputs) out last)
      → IsSoundCommand w.functions w.root (enter line name unit body inputs outputs) → IsBodyOf (called w) (selected_by w.root name) body (w.env.bodies unit)
      → length stack + command_depth (enter line name unit body inputs outputs) ≤ w.room → (values : Values) (left : ℕ) → AreValuesOf w.root values
      → Runs w (state pc stack values left) (pc + length (command_code w.root (enter line name unit body inputs outputs) out last)) out last stack left
      (command_meaning (called w) w.root w.env.setting (enter line name unit body inputs outputs) values left)
  enter_run line name unit body inputs outputs pc out last stack has sound is room values left ok =
      let leaf = offset_of w.root name in
      let ci = moves_code w.root inputs in let co = moves_code w.root outputs in
      let call = plain (Enter leaf unit) in
      let q = pc + 1 + 1 + length ci in
      let at_call = has_back w.code (pc + 1 + 1) ci (call ++ co) has.1.1 in
      let past : q + (1 + length co) ≡ pc + length (at line Step ++ (at line Step ++ (ci ++ (call ++ co)))) = omega (arith, length-append ci (call ++ co)) in
      let len : q + 1 + length co ≡ pc + length (at line Step ++ (at line Step ++ (ci ++ (call ++ co)))) = omega (arith, past) in
      let means : Values → ℕ → Outcome = (λ others k.
      instance_meaning w.root w.env.setting name unit (λ within part i. body_meaning (called w) (selected_by w.root name) within body part i) others k) in
      let after : Values → ℕ → Outcome = (λ them j. moves_meaning (called w) w.root w.env.setting outputs them j) in
      let behind : Values → ℕ → Outcome = (λ others k. then_do (means others k) after) in
      let run : ℕ → Outcome = (λ n. then_do (moves_meaning (called w) w.root w.env.setting inputs values n) behind) in
      step_run w line pc _ out last stack stack values left (λ m. after_step line m run) has.0
      (λ m e. step_run w line (pc + 1) _ out last stack stack values m run has.1.0
      (λ n f. then_run w (state (pc + 1 + 1) stack values n) q _ (1 + length co) out last stack n (moves_meaning (called w) w.root w.env.setting inputs values n) behind past
      (moves_run w inputs (pc + 1 + 1) _ _ stack (has_front w.code (pc + 1 + 1) ci (call ++ co) has.1.1) sound.0 (omega (arith, room)) values n ok)
      (λ others k fine. then_run w (state q stack others k) (q + 1) _ (length co) out last stack k (means others k) after len
      (instance_run name unit body q _ _ stack others k at_call.0 is sound.1 fine)
      (λ them j good. runs_at w _ _ _ out last stack j (after them j) len
      (moves_run w outputs (q + 1) out last stack at_call.1 sound.2 (omega (arith, room)) them j good)))))
