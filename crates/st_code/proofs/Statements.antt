-- Code does as statements mean.
use Rattle.std.proofs.Common.{◌≡◌, ℕ, suc, ◌+◌, ◌≤◌, if◌then◌else◌, ℤ, List, [], ◌∷◌, ◌++◌, length, refl, sym, ap, subst, arith, length-append}
use Rattle.std.proofs.lemmas.Option.{slice_get_past}
use Rattle.st_values.specs.declared.elem.Elem.{Elem}
use Rattle.st_values.specs.declared.value.Value.{Value}
use Rattle.st_leaves.specs.Paths.{Path}
use Rattle.st_leaves.specs.Places.{LeadsTo}
use Rattle.st_operators.specs.Laws.{IsOf}
use Rattle.st_meaning.specs.Meaning.{Values, located, stored_at, value_of}
use Rattle.st_meaning.specs.Operations.{gives}
use Rattle.st_meaning.specs.Sound.{AreSoundBranches, AreSoundCases, AreSoundCommands, AreValuesOf, IsCount, IsSoundCommand, term_type}
use Rattle.st_meaning.specs.Statements.{Outcome, done, exited, returned, faulted, alike, branches_meaning, cases_meaning, command_meaning, commands_meaning, count_turns, ended, given, has_label, is_true, repeat_turns, while_turns}
use Rattle.st_meaning.specs.Terms.{Term, Parts, Command, nothing, assign, choice, cases, count_loop, while_loop, repeat_loop, invoke, enter, exit, finish, Commands, no_commands, more_commands, Branches, no_branches, more_branches, Cases, no_cases, more_cases}
use Rattle.st_code.specs.Code.{Line, at, base_of, branches_code, case_test, cases_code, cell_of, command_code, commands_code, plain, repeat_code, term_code, while_code}
use Rattle.st_code.specs.Depth.{branches_depth, cases_depth, command_depth, commands_depth}
use Rattle.st_code.specs.Invocations.{BranchesInvoke, CasesInvoke, CommandInvokes, Invoke, IsInvokedAs}
use Rattle.st_code.specs.Machine.{State, ends_here, next_at, state, truth_of}
use Rattle.st_code.specs.declared.instr.Instr.TheVariants.{Drop, GoOn, Step}
use Rattle.st_code.proofs.Cells.{nonzero_cell}
use Rattle.st_code.proofs.Counters.{Counting, count_run, rest_code}
use Rattle.st_code.proofs.Entering.{enter_run}
use Rattle.st_code.proofs.Expressions.{term_runs}
use Rattle.st_code.proofs.Loops.{repeat_run, while_run}
use Rattle.st_code.proofs.Moves.{invoke_run, move_code, move_run, moved}
use Rattle.st_code.proofs.Parts.{fixed_found}
use Rattle.st_code.proofs.Runs.{Runs, branch_run, branch_test, case_run, drop_run, given_run, led_at, runs_after, runs_at, step_run, then_run, truth_is}
use Rattle.st_code.proofs.Steps.{Ends, HasAt, World, called, has_back, has_front, leaf_known, stays, step}

module _ (w : World) where
  -- what statements mean
  abbrev means : Commands → Values → ℕ → Outcome
  means cs = commands_meaning (called w) w.root w.env.setting cs

  -- ---- FOR

  -- what is counted, at a leaf that is found without subscripts
  abbrev counting : (ps : Parts) (a b c : Term) (values : Values) (left : ℕ) (path : Path) (x y z : Value) → IsCount w.functions w.root ps a b c → AreValuesOf w.root values
      → IsOf (term_type w.root a) x → IsOf (term_type w.root b) y → IsOf (term_type w.root c) z
      → located (called w) w.root values w.root ps left ≡ gives path left → LeadsTo w.root path (base_of w.root ps) → Counting w
  counting ps a b c values left path x y z sound ok ofx ofy ofz found l = record {
    e = term_type w.root a;
    leaf = base_of w.root ps;
    path = path;
    first = x;
    limit = y;
    apart = z;
    of_first = ofx;
    of_limit = subst (λ f. IsOf f y) sound.last.type ofy;
    of_apart = subst (λ f. IsOf f z) sound.step.type ofz;
    known = leaf_known w (term_type w.root a) ps path (base_of w.root ps) values left left sound.variable found l;
  }

  abbrev turns_of : (path : Path) (body : Values → ℕ → Outcome) (line : ℕ) (x y z : Value) (values : Values) (n : ℕ) → Outcome
  turns_of path body line x y z values n =
      count_turns (suc n) line (λ others i. stored_at w.root w.env.setting.forced others path (alike x i)) y.bits z.bits body x.bits
      (stored_at w.root w.env.setting.forced values path x) n

  -- the loop, once its three values stand on the stack
  for_run : (line pc out last : ℕ) (ps : Parts) (a b c : Term) (cb : List Line) (body : Values → ℕ → Outcome) (x y z : Value) (stack : List ℤ) (values : Values)
      (left : ℕ) → IsCount w.functions w.root ps a b c → AreValuesOf w.root values
      → IsOf (term_type w.root a) x → IsOf (term_type w.root b) y → IsOf (term_type w.root c) z
      → HasAt w.code pc (rest_code line (term_type w.root a) (base_of w.root ps) cb)
      → ((p : ℕ) → HasAt w.code p cb → (under : List ℤ) → length under ≡ 3 + length stack → (others : Values) (n : ℕ) → AreValuesOf w.root others → Runs w (state p under others n) (p + length cb) 1 (2 + last) under n (body others n))
      → Runs w (state pc (cell_of z.bits ∷ cell_of y.bits ∷ cell_of x.bits ∷ stack) values left)
      (pc + length (rest_code line (term_type w.root a) (base_of w.root ps) cb)) out last stack left
      (given (located (called w) w.root values w.root ps left) (λ path i. turns_of path body line x y z values i))
  for_run line pc out last ps a b c cb body x y z stack values left sound ok ofx ofy ofz has rb =
      let f = fixed_found (called w) w.root values ps left w.root (term_type w.root a) sound.variable.type sound.fixed in
      let k = counting ps a b c values left f.path x y z sound ok ofx ofy ofz f.found f.leads in
      subst (λ o. Runs w (state pc (cell_of z.bits ∷ cell_of y.bits ∷ cell_of x.bits ∷ stack) values left) (pc + length (rest_code line (term_type w.root a) (base_of w.root ps) cb)) out last stack left (given o (λ path i. turns_of path body line x y z values i))) (sym f.found)
      (count_run w k line pc out last cb body stack has (λ p h i others n fine. rb p h (cell_of z.bits ∷ cell_of y.bits ∷ cell_of i ∷ stack) (omega arith) others n fine) values left ok)

  mutual
    command_runs : (c : Command) (pc out last : ℕ) (stack : List ℤ) → HasAt w.code pc (command_code w.root c out last) → IsSoundCommand w.functions w.root c
        → CommandInvokes (IsInvokedAs (called w) w.root w.env.bodies) c → length stack + command_depth c ≤ w.room → (values : Values) (left : ℕ) → AreValuesOf w.root values
        → Runs w (state pc stack values left) (pc + length (command_code w.root c out last)) out last stack left
        (command_meaning (called w) w.root w.env.setting c values left)
    command_runs (nothing line) pc out last stack has sound calls room values left ok =
        step_run w line pc _ out last stack stack values left (λ n. done values n) has.0 (λ n e. (omega arith, ok, stays w _ _ refl))
    command_runs (exit line) pc out last stack has sound calls room values left ok =
        step_run w line pc _ out last stack stack values left (λ n. exited values n) has.0
        (λ n e. (omega arith, ok, led_at w _ (pc + 1 + 1 + out) (pc + length (command_code w.root (exit line) out last) + out) stack values n (omega arith) (step w (GoOn out) 0 (pc + 1) stack values n _ has.1.0 refl)))
    command_runs (finish line) pc out last stack has sound calls room values left ok =
        step_run w line pc _ out last stack stack values left (λ n. returned values n) has.0
        (λ n e. ([], led_at w _ (pc + 1 + 1 + last) (pc + length (command_code w.root (finish line) out last) + last) stack values n (omega arith) (step w (GoOn last) 0 (pc + 1) stack values n _ has.1.0 refl)))
    command_runs (assign line ps t) pc out last stack has sound calls room values left ok =
        let one = move_code w.root ps t in
        let len : pc + 1 + length one ≡ pc + length (at line Step ++ one) = omega arith in
        step_run w line pc _ out last stack stack values left (λ n. moved w ps t values n (λ others m. done others m)) has.0
        (λ n e. move_run w ps t (pc + 1) _ out last stack values n (λ others m. done others m) has.1 sound.0 sound.1 room ok
        (λ others m fine. (omega arith, fine, stays w _ _ (ap (λ p. state p stack others m) len))))
    command_runs (choice line bs others) pc out last stack has sound calls room values left ok =
        let co = commands_code w.root others out last in
        let cb = branches_code w.root bs co out last in
        let len : pc + 1 + length cb ≡ pc + length (at line Step ++ cb) = omega arith in
        step_run w line pc _ out last stack stack values left (branches_meaning (called w) w.root w.env.setting bs (means others) values) has.0
        (λ n e. runs_at w (state (pc + 1) stack values n) _ _ out last stack n (branches_meaning (called w) w.root w.env.setting bs (means others) values n) len
        (branches_run bs co (means others) (pc + 1) out last stack has.1 sound.0 calls.0 (omega (arith, room)) values n ok
        (λ p m h. commands_run others p out last stack h sound.1 calls.1 (omega (arith, room)) values m ok)))
    command_runs (cases line t cs others) pc out last stack has sound calls room values left ok =
        let ct = term_code w.root t in
        let co = plain Drop ++ commands_code w.root others out last in
        let cc' = cases_code w.root (term_type w.root t) cs co out last in
        let len : pc + 1 + length ct + length cc' ≡ pc + length (at line Step ++ (ct ++ cc')) = omega (arith, length-append ct cc') in
        step_run w line pc _ out last stack stack values left
        (λ n. given (value_of (called w) w.root values t n) (λ v m. cases_meaning (called w) w.root w.env.setting cs (means others) v.bits values m)) has.0
        (λ n e. given_run w (state (pc + 1) stack values n) (pc + 1 + length ct) _ out last (term_type w.root t) stack stack values n (value_of (called w) w.root values t n)
        (λ v m. cases_meaning (called w) w.root w.env.setting cs (means others) v.bits values m)
        (term_runs w t (pc + 1) stack (has_front w.code (pc + 1) ct cc' has.1) sound.0 (omega (arith, room)) values n ok)
        (λ v m of less. runs_at w _ _ _ out last stack m (cases_meaning (called w) w.root w.env.setting cs (means others) v.bits values m) len
        (cases_run cs (term_type w.root t) co (means others) v (pc + 1 + length ct) out last stack of (has_back w.code (pc + 1) ct cc' has.1) sound.1 calls.0
        (omega (arith, room)) values m ok
        (λ p h. drop_run w (cell_of v.bits) (commands_code w.root others out last) p out last stack values m (means others values m) h
        (λ h'. commands_run others (p + 1) out last stack h' sound.2 calls.1 (omega (arith, room)) values m ok)))))
    command_runs (count_loop line ps a b c cs) pc out last stack has sound calls room values left ok =
        let ca = term_code w.root a in let cv = term_code w.root b in let cz = term_code w.root c in
        let cb = commands_code w.root cs 1 (2 + last) in
        let body = means cs in
        let rest = rest_code line (term_type w.root a) (base_of w.root ps) cb in
        let values_code = ca ++ (cv ++ cz) in
        let at_values = has_front w.code (pc + 1) values_code rest has.1 in
        let at_last = has_back w.code (pc + 1) ca (cv ++ cz) at_values in
        let q = pc + 1 + length ca + length cv + length cz in
        let here : pc + 1 + length values_code ≡ q = omega (arith, length-append ca (cv ++ cz), length-append cv cz) in
        let at_rest = subst (λ p. HasAt w.code p rest) here (has_back w.code (pc + 1) values_code rest has.1) in
        let len : q + length rest ≡ pc + length (at line Step ++ (values_code ++ rest)) = omega (arith, length-append values_code rest, length-append ca (cv ++ cz), length-append cv cz) in
        let from_step : Value → Value → Value → ℕ → Outcome = (λ x y z j. given (located (called w) w.root values w.root ps j) (λ path i. turns_of path body line x y z values i)) in
        let from_last : Value → Value → ℕ → Outcome = (λ x y k. given (value_of (called w) w.root values c k) (from_step x y)) in
        let from_first : Value → ℕ → Outcome = (λ x m. given (value_of (called w) w.root values b m) (from_last x)) in
        step_run w line pc _ out last stack stack values left
        (λ n. given (value_of (called w) w.root values a n) from_first) has.0
        (λ n e. given_run w (state (pc + 1) stack values n) (pc + 1 + length ca) _ out last (term_type w.root a) stack stack values n (value_of (called w) w.root values a n) from_first
        (term_runs w a (pc + 1) stack (has_front w.code (pc + 1) ca (cv ++ cz) at_values) sound.0.first (omega (arith, room)) values n ok)
        (λ x m ofx less. given_run w (state (pc + 1 + length ca) (cell_of x.bits ∷ stack) values m) (pc + 1 + length ca + length cv) _ out last (term_type w.root b) (cell_of x.bits ∷ stack) stack values m (value_of (called w) w.root values b m)
        (from_last x)
        (term_runs w b (pc + 1 + length ca) (cell_of x.bits ∷ stack) (has_front w.code (pc + 1 + length ca) cv cz at_last) sound.0.last.sound (omega (arith, room)) values m ok)
        (λ y k ofy less'. given_run w (state (pc + 1 + length ca + length cv) (cell_of y.bits ∷ cell_of x.bits ∷ stack) values k) q _ out last (term_type w.root c) (cell_of y.bits ∷ cell_of x.bits ∷ stack) stack values k (value_of (called w) w.root values c k)
        (from_step x y)
        (term_runs w c (pc + 1 + length ca + length cv) (cell_of y.bits ∷ cell_of x.bits ∷ stack) (has_back w.code (pc + 1 + length ca) cv cz at_last) sound.0.step.sound (omega (arith, room)) values k ok)
        (λ z j ofz less''. runs_at w _ _ _ out last stack j (from_step x y z j) len
        (for_run line q out last ps a b c cb body x y z stack values j sound.0 ok ofx ofy ofz at_rest
        (λ p h under high others i fine. commands_run cs p 1 (2 + last) under h sound.1 calls (omega (arith, room, high)) others i fine))))))
    command_runs (while_loop line t cs) pc out last stack has sound calls room values left ok =
        let ct = term_code w.root t in let cb = commands_code w.root cs 1 (1 + last) in
        let len : pc + 1 + length (while_code line ct cb) ≡ pc + length (at line Step ++ while_code line ct cb) = omega arith in
        step_run w line pc _ out last stack stack values left (λ n. while_turns (suc n) line (λ others i. value_of (called w) w.root others t i) (means cs) values n) has.0
        (λ n e. runs_at w (state (pc + 1) stack values n) _ _ out last stack n
        (while_turns (suc n) line (λ others i. value_of (called w) w.root others t i) (means cs) values n) len
        (while_run w line (pc + 1) out last (term_type w.root t) ct cb (λ others i. value_of (called w) w.root others t i) (means cs) stack has.1
        (λ p h others m fine. term_runs w t p stack h sound.0 (omega (arith, room)) others m fine)
        (λ p h others m fine. commands_run cs p 1 (1 + last) stack h sound.1 calls (omega (arith, room)) others m fine) values n ok))
    command_runs (repeat_loop line cs t) pc out last stack has sound calls room values left ok =
        let ct = term_code w.root t in let cb = commands_code w.root cs 1 (1 + last) in
        let len : pc + 1 + length (repeat_code line cb ct) ≡ pc + length (at line Step ++ repeat_code line cb ct) = omega arith in
        step_run w line pc _ out last stack stack values left (λ n. repeat_turns (suc n) line (λ others i. value_of (called w) w.root others t i) (means cs) values n) has.0
        (λ n e. runs_at w (state (pc + 1) stack values n) _ _ out last stack n
        (repeat_turns (suc n) line (λ others i. value_of (called w) w.root others t i) (means cs) values n) len
        (repeat_run w line (pc + 1) out last (term_type w.root t) ct cb (λ others i. value_of (called w) w.root others t i) (means cs) stack has.1
        (λ p h others m fine. term_runs w t p stack h sound.1 (omega (arith, room)) others m fine)
        (λ p h others m fine. commands_run cs p 1 (1 + last) stack h sound.0 calls (omega (arith, room)) others m fine) values n ok))
    command_runs (invoke line name b inputs outputs) pc out last stack has sound calls room values left ok =
        invoke_run w line name b inputs outputs pc out last stack has sound room values left ok
    command_runs (enter line name unit body inputs outputs) pc out last stack has sound calls room values left ok =
        enter_run w line name unit body inputs outputs pc out last stack has sound calls room values left ok

    pub commands_run : (cs : Commands) (pc out last : ℕ) (stack : List ℤ) → HasAt w.code pc (commands_code w.root cs out last) → AreSoundCommands w.functions w.root cs
        → Invoke (IsInvokedAs (called w) w.root w.env.bodies) cs → length stack + commands_depth cs ≤ w.room → (values : Values) (left : ℕ) → AreValuesOf w.root values
        → Runs w (state pc stack values left) (pc + length (commands_code w.root cs out last)) out last stack left (means cs values left)
    commands_run no_commands pc out last stack has sound calls room values left ok = let len : pc ≡ pc + 0 = omega arith in (omega arith, ok, stays w _ _ (ap (λ p. state p stack values left) len))
    commands_run (more_commands c cs) pc out last stack has sound calls room values left ok =
        let cr = commands_code w.root cs out last in
        let cc' = command_code w.root c (length cr + out) (length cr + last) in
        let len : pc + length cc' + length cr ≡ pc + length (cc' ++ cr) = omega (arith, length-append cc' cr) in
        then_run w (state pc stack values left) (pc + length cc') _ (length cr) out last stack left (command_meaning (called w) w.root w.env.setting c values left) (means cs)
        len
        (command_runs c pc (length cr + out) (length cr + last) stack (has_front w.code pc cc' cr has) sound.0 calls.0 (omega (arith, room)) values left ok)
        (λ others n fine. runs_at w _ _ _ out last stack n (means cs others n) len
        (commands_run cs (pc + length cc') out last stack (has_back w.code pc cc' cr has) sound.1 calls.1 (omega (arith, room)) others n fine))

    branches_run : (bs : Branches) (co : List Line) (other : Values → ℕ → Outcome) (pc out last : ℕ) (stack : List ℤ)
        → HasAt w.code pc (branches_code w.root bs co out last) → AreSoundBranches w.functions w.root bs → BranchesInvoke (IsInvokedAs (called w) w.root w.env.bodies) bs
        → length stack + branches_depth bs ≤ w.room
        → (values : Values) (left : ℕ) → AreValuesOf w.root values
        → ((p n : ℕ) → HasAt w.code p co → Runs w (state p stack values n) (p + length co) out last stack n (other values n))
        → Runs w (state pc stack values left)
        (pc + length (branches_code w.root bs co out last)) out last stack left (branches_meaning (called w) w.root w.env.setting bs other values left)
    branches_run no_branches co other pc out last stack has sound calls room values left ok ro = ro pc left has
    branches_run (more_branches t cs bs) co other pc out last stack has sound calls room values left ok ro =
        let cr = branches_code w.root bs co out last in
        let ct = term_code w.root t in
        let cb = commands_code w.root cs (1 + length cr + out) (1 + length cr + last) in
        given_run w (state pc stack values left) (pc + length ct) _ out last (term_type w.root t) stack stack values left (value_of (called w) w.root values t left)
        (λ v n. if is_true v then means cs values n else branches_meaning (called w) w.root w.env.setting bs other values n)
        (term_runs w t pc stack (branch_test w pc ct cb cr has) sound.0 (omega (arith, room)) values left ok)
        (λ v n of less. branch_run w pc out last ct cb cr (cell_of v.bits) (is_true v) (means cs values n)
        (branches_meaning (called w) w.root w.env.setting bs other values n) stack stack values n (nonzero_cell (term_type w.root t) v of) has
        (λ h. commands_run cs (pc + length ct + 1) (1 + length cr + out) (1 + length cr + last) stack h sound.1 calls.0 (omega (arith, room)) values n ok)
        (λ q h. branches_run bs co other q out last stack h sound.2 calls.1 (omega (arith, room)) values n ok ro))

    cases_run : (cs : Cases) (e : Elem) (co : List Line) (other : Values → ℕ → Outcome) (v : Value) (pc out last : ℕ) (stack : List ℤ) → IsOf e v
        → HasAt w.code pc (cases_code w.root e cs co out last) → AreSoundCases w.functions w.root e cs
        → CasesInvoke (IsInvokedAs (called w) w.root w.env.bodies) cs → length stack + cases_depth cs ≤ w.room → (values : Values) (left : ℕ) → AreValuesOf w.root values
        → ((p : ℕ) → HasAt w.code p co → Runs w (state p (cell_of v.bits ∷ stack) values left) (p + length co) out last stack left (other values left))
        → Runs w (state pc (cell_of v.bits ∷ stack) values left)
        (pc + length (cases_code w.root e cs co out last)) out last stack left (cases_meaning (called w) w.root w.env.setting cs other v.bits values left)
    cases_run no_cases e co other v pc out last stack of has sound calls room values left ok ro = ro pc has
    cases_run (more_cases labels cs more) e co other v pc out last stack of has sound calls room values left ok ro =
        let cr = cases_code w.root e more co out last in
        let ct = case_test e labels in
        let cb = commands_code w.root cs (1 + length cr + out) (1 + length cr + last) in
        let under = cell_of v.bits ∷ stack in
        let chosen = if has_label labels v.bits then means cs values left else cases_meaning (called w) w.root w.env.setting more other v.bits values left in
        runs_after w (state pc under values left) (state (pc + length ct) (truth_of (has_label labels v.bits) ∷ under) values left) _ out last stack left left chosen
        (case_run w e labels v pc stack values left sound.0 of (omega (arith, room)) (branch_test w pc ct (plain Drop ++ cb) cr has)) (omega arith)
        (branch_run w pc out last ct (plain Drop ++ cb) cr (truth_of (has_label labels v.bits)) (has_label labels v.bits) (means cs values left)
        (cases_meaning (called w) w.root w.env.setting more other v.bits values left) under stack values left
        (truth_is (has_label labels v.bits)) has
        (λ h. drop_run w (cell_of v.bits) cb (pc + length ct + 1) (1 + length cr + out) (1 + length cr + last) stack values left (means cs values left) h
        (λ h'. commands_run cs (pc + length ct + 1 + 1) (1 + length cr + out) (1 + length cr + last) stack h' sound.1 calls.0 (omega (arith, room)) values left ok))
        (λ q h. cases_run more e co other v q out last stack of h sound.2 calls.1 (omega (arith, room)) values left ok ro))

  -- past the last instruction the run has ended
  pub past_end : (n : ℕ) (cells : List ℤ) (values : Values) (left : ℕ) → length w.code ≤ n → Ends w (done values left) (state n cells values left)
  past_end n cells values left h =
      ends_here (state n cells values left) (ap (λ l. next_at w.env w.room l (state n cells values left)) (slice_get_past w.code n h))

  -- how the statements of a body end
  pub body_ends : (n : ℕ) (o : Outcome) (s : State) (left : ℕ) → n ≡ length w.code → Runs w s n 0 0 [] left o → Ends w (ended o) s
  body_ends n (done values m) s left e r = r.2.by (done values m) (past_end n [] values m (omega (arith, e)))
  body_ends n (exited values m) s left e r = r.2.by (done values m) (past_end (n + 0) [] values m (omega (arith, e)))
  body_ends n (returned values m) s left e r = r.1.by (done values m) (past_end (n + 0) (r.0 ++ []) values m (omega (arith, e)))
  body_ends n (faulted f) s left e r = r
