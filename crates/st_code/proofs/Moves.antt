-- The code of moves, and of invocations of standard function blocks.
use Rattle.std.proofs.Common.{◌≡◌, ℕ, ◌+◌, ◌≤◌, true, false, List, [], ◌∷◌, ◌++◌, length, ℤ, Some, refl, ap, subst, IsTrue, arith, length-append}
use Rattle.std.specs.Prelude.{max, slice_get}
use Rattle.std.specs.List.{AllZip}
use Rattle.st_values.specs.Types.{is_same}
use Rattle.st_values.specs.Values.{in_range, IsOfType}
use Rattle.st_values.specs.declared.elem.Elem.{Elem}
use Rattle.st_types.specs.Compositions.{Composition, standard}
use Rattle.st_types.specs.declared.standard.StandardBlock.{StandardBlock}
use Rattle.st_leaves.specs.Places.{count}
use Rattle.st_leaves.specs.Selected.{selected_by}
use Rattle.st_blocks.specs.Cells.{types_of}
use Rattle.st_meaning.specs.Meaning.{Values, located, stored_at, value_of}
use Rattle.st_meaning.specs.Offsets.{offset_of}
use Rattle.st_meaning.specs.Sound.{AreSoundMoves, AreValuesOf, IsInvocation, IsPlaceOf, IsSoundTerm, is_fixed, term_type}
use Rattle.st_meaning.specs.Statements.{Outcome, done, after_step, block_done, command_meaning, given, moves_meaning, stretch, then_do}
use Rattle.st_meaning.specs.Terms.{Moves, no_moves, more_moves, Parts, Term, invoke}
use Rattle.st_meaning.proofs.Invocations.{block_keeps}
use Rattle.st_meaning.proofs.Stretches.{block_values}
use Rattle.st_code.specs.Code.{Line, at, cell_of, command_code, moves_code, plain, store_code, term_code}
use Rattle.st_code.specs.Depth.{command_depth, moves_depth, parts_depth, term_depth}
use Rattle.st_code.specs.Machine.{are_of_types, goes, has_leaves, state, stuck}
use Rattle.st_code.specs.declared.instr.Instr.TheVariants.{Invoke, Step}
use Rattle.st_code.proofs.Expressions.{parts_runs, term_runs}
use Rattle.st_code.proofs.Runs.{Runs, assign_run, given_run, runs_after, runs_at, step_run, store_then, then_run}
use Rattle.st_code.proofs.Steps.{HasAt, Leads, World, all_three, called, has_back, has_front, if_true, line_of, same_type, stays, step}

-- a value, and a store of it
abbrev pub move_code : Composition → Parts → Term → List Line
move_code root ps t = term_code root t ++ store_code root (term_type root t) ps

abbrev pub move_depth : Parts → Term → ℕ
move_depth ps t = max (term_depth t) (1 + parts_depth ps)

-- the test of a block's leaves finds what values of their types are
pub are_typed : (es : List Elem) (cells : Values) → AllZip IsOfType es cells → are_of_types es cells ≡ true
are_typed [] [] h = refl
are_typed [] (v ∷ cells) h = elim h [ ]
are_typed (e ∷ es) [] h = elim h [ ]
are_typed (e ∷ es) (v ∷ cells) h =
    all_three (is_same v.elem e) (in_range e v.bits) (are_of_types es cells) (same_type v.elem e h.0.0) (subst (λ f. IsTrue (in_range f v.bits)) h.0.0 h.0.1)
    (are_typed es cells h.1)

module _ (w : World) where
  -- ---- moves

  -- what one of them means, with what follows it
  abbrev pub moved : Parts → Term → Values → ℕ → (Values → ℕ → Outcome) → Outcome
  moved ps t values left go =
      given (value_of (called w) w.root values t left) (λ v n.
      given (located (called w) w.root values w.root ps n) (λ path m. go (stored_at w.root w.env.setting.forced values path v) m))

  pub move_run : (ps : Parts) (t : Term) (pc pc' out last : ℕ) (stack : List ℤ) (values : Values) (left : ℕ) (go : Values → ℕ → Outcome)
      → HasAt w.code pc (move_code w.root ps t) → IsPlaceOf w.functions w.root (term_type w.root t) ps → IsSoundTerm w.functions w.root t
      → length stack + move_depth ps t ≤ w.room → AreValuesOf w.root values
      → ((others : Values) (n : ℕ) → AreValuesOf w.root others
      → Runs w (state (pc + length (move_code w.root ps t)) stack others n) pc' out last stack n (go others n))
      → Runs w (state pc stack values left) pc' out last stack left (moved ps t values left go)
  move_run ps t pc pc' out last stack values left go has place sound room ok further =
      let ct = term_code w.root t in let cs = store_code w.root (term_type w.root t) ps in
      let q = pc + length ct in
      let len : q + length cs ≡ pc + length (ct ++ cs) = omega (arith, length-append ct cs) in
      given_run w (state pc stack values left) q pc' out last (term_type w.root t) stack stack values left (value_of (called w) w.root values t left)
      (λ v n. given (located (called w) w.root values w.root ps n) (λ path m. go (stored_at w.root w.env.setting.forced values path v) m))
      (term_runs w t pc stack (has_front w.code pc ct cs has) sound (omega (arith, room)) values left ok)
      (λ v n of less. store_then w (state q (cell_of v.bits ∷ stack) values n) (pc + length (ct ++ cs)) pc' out last stack n (located (called w) w.root values w.root ps n)
      (λ path. stored_at w.root w.env.setting.forced values path v) go
      (runs_at w _ _ _ out last stack n (given (located (called w) w.root values w.root ps n) (λ path m. done (stored_at w.root w.env.setting.forced values path v) m)) len
      (assign_run w ps (is_fixed ps) (term_type w.root t) v q out last stack values n ok of place refl (has_back w.code pc ct cs has)
      (λ h. parts_runs w ps w.root (term_type w.root t) place.type place.parts w.small.bounds false 0 (λ e. refl) (omega (arith, w.small.few)) q
      (cell_of v.bits ∷ stack) h (omega (arith, room)) values n ok)))
      further)

  pub moves_run : (ms : Moves) (pc out last : ℕ) (stack : List ℤ) → HasAt w.code pc (moves_code w.root ms) → AreSoundMoves w.functions w.root ms
      → length stack + moves_depth ms ≤ w.room → (values : Values) (left : ℕ) → AreValuesOf w.root values
      → Runs w (state pc stack values left) (pc + length (moves_code w.root ms)) out last stack left (moves_meaning (called w) w.root w.env.setting ms values left)
  moves_run no_moves pc out last stack has sound room values left ok =
      let len : pc ≡ pc + 0 = omega arith in (omega arith, ok, stays w _ _ (ap (λ p. state p stack values left) len))
  moves_run (more_moves ps t more) pc out last stack has sound room values left ok =
      let first = move_code w.root ps t in let rest = moves_code w.root more in
      let len : pc + length first + length rest ≡ pc + length (first ++ rest) = omega (arith, length-append first rest) in
      move_run ps t pc _ out last stack values left (λ others n. moves_meaning (called w) w.root w.env.setting more others n) (has_front w.code pc first rest has)
      sound.0 sound.1 (omega (arith, room)) ok
      (λ others n fine. runs_at w _ _ _ out last stack n (moves_meaning (called w) w.root w.env.setting more others n) len
      (moves_run more (pc + length first) out last stack (has_back w.code pc first rest has) sound.2 (omega (arith, room)) others n fine))

  -- ---- invocations

  -- the block's leaves have values of their types, so that it does what it does
  block_run : (name : List ℕ) (b : StandardBlock) (pc : ℕ) (stack : List ℤ) (values : Values) (left : ℕ) → selected_by w.root name ≡ standard b
      → AreValuesOf w.root values → slice_get w.code pc ≡ Some (line_of 0 (Invoke b (offset_of w.root name)))
      → Leads w (state pc stack values left) (state (pc + 1) stack (block_done w.env.setting b (offset_of w.root name) values) left)
  block_run name b pc stack values left is ok h =
      let leaf = offset_of w.root name in
      step w (Invoke b leaf) 0 pc stack values left _ h
      (if_true (has_leaves values b leaf) (goes (state (pc + 1) stack (block_done w.env.setting b leaf values) left)) stuck
      (are_typed (types_of b) (stretch values leaf (count (standard b))) (block_values w.root name b is values ok)))

  pub invoke_run : (line : ℕ) (name : List ℕ) (b : StandardBlock) (inputs outputs : Moves) (pc out last : ℕ) (stack : List ℤ)
      → HasAt w.code pc (command_code w.root (invoke line name b inputs outputs) out last) → IsInvocation w.functions w.root name b inputs outputs
      → length stack + command_depth (invoke line name b inputs outputs) ≤ w.room → (values : Values) (left : ℕ) → AreValuesOf w.root values
      → Runs w (state pc stack values left) (pc + length (command_code w.root (invoke line name b inputs outputs) out last)) out last stack left
      (command_meaning (called w) w.root w.env.setting (invoke line name b inputs outputs) values left)
  invoke_run line name b inputs outputs pc out last stack has sound room values left ok =
      let leaf = offset_of w.root name in
      let ci = moves_code w.root inputs in let co = moves_code w.root outputs in
      let call = plain (Invoke b leaf) in
      let q = pc + 1 + 1 + length ci in
      let at_call = has_back w.code (pc + 1 + 1) ci (call ++ co) has.1.1 in
      let past : q + (1 + length co) ≡ pc + length (at line Step ++ (at line Step ++ (ci ++ (call ++ co)))) = omega (arith, length-append ci (call ++ co)) in
      let len : q + 1 + length co ≡ pc + length (at line Step ++ (at line Step ++ (ci ++ (call ++ co)))) = omega (arith, past) in
      let behind : Values → ℕ → Outcome = (λ others k. moves_meaning (called w) w.root w.env.setting outputs (block_done w.env.setting b leaf others) k) in
      let run : ℕ → Outcome = (λ n. then_do (moves_meaning (called w) w.root w.env.setting inputs values n) behind) in
      step_run w line pc _ out last stack stack values left (λ m. after_step line m run) has.0
      (λ m e. step_run w line (pc + 1) _ out last stack stack values m run has.1.0
      (λ n f. then_run w (state (pc + 1 + 1) stack values n) q _ (1 + length co) out last stack n (moves_meaning (called w) w.root w.env.setting inputs values n) behind past
      (moves_run inputs (pc + 1 + 1) _ _ stack (has_front w.code (pc + 1 + 1) ci (call ++ co) has.1.1) sound.inputs (omega (arith, room)) values n ok)
      (λ others k fine.
      let made = block_done w.env.setting b leaf others in
      let kept = block_keeps w.root w.env.setting w.moment name b sound.block others fine k in
      runs_after w (state q stack others k) (state (q + 1) stack made k) _ out last stack k k (moves_meaning (called w) w.root w.env.setting outputs made k)
      (block_run name b q stack others k sound.block fine at_call.0) (omega arith)
      (runs_at w _ _ _ out last stack k (moves_meaning (called w) w.root w.env.setting outputs made k) len
      (moves_run outputs (q + 1) out last stack at_call.1 sound.outputs (omega (arith, room)) made k kept.all)))))
