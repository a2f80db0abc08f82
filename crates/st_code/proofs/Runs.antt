-- The code of statements without loops.
use Rattle.std.proofs.Common.{◌≡◌, ℕ, zero, suc, ◌+◌, ◌<◌, ◌≤◌, ◌&&◌, Bool, true, false, if◌then◌else◌, ℤ, pos, List, [], ◌∷◌, ◌++◌, length, Some, refl, sym, ap, ◌∙◌, subst, arith, length-append}
use Rattle.std.specs.Prelude.{◌||◌, int_le, slice_get}
use Rattle.std.specs.List.{All}
use Rattle.std.proofs.lemmas.List.Elements.{All-head, All-tail}
use Rattle.st_values.specs.declared.elem.Elem.{Elem}
use Rattle.st_values.specs.declared.value.Value.{Value}
use Rattle.st_leaves.specs.Paths.{Path}
use Rattle.st_leaves.specs.Places.{LeadsTo}
use Rattle.st_operators.specs.Laws.{IsOf}
use Rattle.st_meaning.specs.Meaning.{Values, located, stored_at}
use Rattle.st_meaning.specs.Operations.{Answer, gives, stops}
use Rattle.st_meaning.specs.Sound.{AreValuesOf, IsLabelOf, IsPlaceOf, is_fixed}
use Rattle.st_meaning.specs.Statements.{Outcome, done, exited, returned, faulted, after_step, given, has_label, is_labelled, is_nonzero, then_do}
use Rattle.st_meaning.specs.Terms.{LabelRange, Parts}
use Rattle.st_code.specs.Code.{Line, base_of, branch_code, case_test, cell_of, label_code, labels_code, parts_code, plain}
use Rattle.st_code.specs.Machine.{State, act, goes, number_in, puts, state, stuck, truth_of}
use Rattle.st_code.specs.declared.instr.Instr.{Instr}
use Rattle.st_code.specs.declared.instr.Instr.TheVariants.{Push, Put, PutAt, Step, GoOn, SkipUnless, Within, Drop}
use Rattle.st_code.proofs.Cells.{number_back, number_of_value}
use Rattle.st_code.proofs.Parts.{fixed_found, gives_distance, has_distance}
use Rattle.st_code.proofs.Steps.{Ends, HasAt, Leads, PlaceRuns, TermRuns, World, called, halt, has_back, has_front, if_below, leads_on, leaf_known, line_of, puts_value, stays, step, store_keeps}

or_false : (b : Bool) → b ≡ (b || false)
or_false true = refl
or_false false = refl

or_further : (a b c : Bool) → ((a || b) || c) ≡ (a || (b || c))
or_further true b c = refl
or_further false b c = refl

pub truth_is : (b : Bool) → is_nonzero (truth_of b) ≡ b
truth_is true = refl
truth_is false = refl

module _ (w : World) where
  -- What the code of statements does: the run goes on behind it, or behind the loop or at the end of the body, so many instructions
  -- further. Loops may leave cells above the stack where RETURN ends the body.
  abbrev pub Runs : State → (pc out last : ℕ) → List ℤ → ℕ → Outcome → Type 0
  Runs s pc out last stack left (done values n) = (n ≤ left) × AreValuesOf w.root values × Leads w s (state pc stack values n)
  Runs s pc out last stack left (exited values n) = (n ≤ left) × AreValuesOf w.root values × Leads w s (state (pc + out) stack values n)
  Runs s pc out last stack left (returned values n) = (cells : List ℤ) × Leads w s (state (pc + last) (cells ++ stack) values n)
  Runs s pc out last stack left (faulted f) = Ends w (faulted f) s

  pub led_at : (s : State) (p q : ℕ) (stack : List ℤ) (values : Values) (n : ℕ) → p ≡ q → Leads w s (state p stack values n) → Leads w s (state q stack values n)
  led_at s p q stack values n e l = subst (λ m. Leads w s (state m stack values n)) e l

  pub runs_at : (s : State) (pc pc' out last : ℕ) (stack : List ℤ) (left : ℕ) (o : Outcome) → pc ≡ pc' → Runs s pc out last stack left o
      → Runs s pc' out last stack left o
  runs_at s pc pc' out last stack left o e r = subst (λ p. Runs s p out last stack left o) e r

  -- what follows a stretch
  pub runs_after : (s t : State) (pc out last : ℕ) (stack : List ℤ) (left less : ℕ) (o : Outcome) → Leads w s t → less ≤ left → Runs t pc out last stack less o
      → Runs s pc out last stack left o
  runs_after s t pc out last stack left less (done values n) l le r = (omega (arith, r.0), r.1, leads_on w s t _ l r.2)
  runs_after s t pc out last stack left less (exited values n) l le r = (omega (arith, r.0), r.1, leads_on w s t _ l r.2)
  runs_after s t pc out last stack left less (returned values n) l le r = (r.0, leads_on w s t _ l r.1)
  runs_after s t pc out last stack left less (faulted f) l le r = l.by (faulted f) r

  pub step_run : (line pc pc' out last : ℕ) (under stack : List ℤ) (values : Values) (left : ℕ) (go : ℕ → Outcome) → slice_get w.code pc ≡ Some (line_of line Step)
      → ((n : ℕ) → left ≡ suc n → Runs (state (pc + 1) under values n) pc' out last stack n (go n))
      → Runs (state pc under values left) pc' out last stack left (after_step line left go)
  step_run line pc pc' out last under stack values zero go h r = halt w Step line pc under values zero _ h refl
  step_run line pc pc' out last under stack values (suc n) go h r =
      runs_after (state pc under values (suc n)) (state (pc + 1) under values n) pc' out last stack (suc n) n (go n) (step w Step line pc under values (suc n) _ h refl) (omega arith) (r n refl)

  -- what follows a term
  pub given_run : (s : State) (pc pc' out last : ℕ) (e : Elem) (under stack : List ℤ) (values : Values) (left : ℕ) (a : Answer Value) (go : Value → ℕ → Outcome)
      → TermRuns w s pc e under values left a
      → ((v : Value) (n : ℕ) → IsOf e v → n ≤ left → Runs (state pc (cell_of v.bits ∷ under) values n) pc' out last stack n (go v n)) → Runs s pc' out last stack left (given a go)
  given_run s pc pc' out last e under stack values left (stops f) go g r = g
  given_run s pc pc' out last e under stack values left (gives v n) go g r =
      runs_after s (state pc (cell_of v.bits ∷ under) values n) pc' out last stack left n (go v n) g.1 g.0.steps (r v n g.0.value g.0.steps)

  -- one statement after the other
  pub then_run : (s : State) (pc pc' m out last : ℕ) (stack : List ℤ) (left : ℕ) (o : Outcome) (go : Values → ℕ → Outcome) → pc + m ≡ pc' → Runs s pc (m + out)
      (m + last) stack left o
      → ((values : Values) (n : ℕ) → AreValuesOf w.root values → Runs (state pc stack values n) pc' out last stack n (go values n))
      → Runs s pc' out last stack left (then_do o go)
  then_run s pc pc' m out last stack left (done values n) go e ra rb = runs_after s (state pc stack values n) pc' out last stack left n (go values n) ra.2 ra.0 (rb values n ra.1)
  then_run s pc pc' m out last stack left (exited values n) go e ra rb = (ra.0, ra.1, led_at s (pc + (m + out)) (pc' + out) stack values n (omega arith) ra.2)
  then_run s pc pc' m out last stack left (returned values n) go e ra rb = (ra.0, led_at s (pc + (m + last)) (pc' + last) (ra.0 ++ stack) values n (omega arith) ra.1)
  then_run s pc pc' m out last stack left (faulted f) go e ra rb = ra

  -- ---- choices

  -- a jump past m instructions behind a body
  past_run : (s : State) (pc pc' m out last : ℕ) (stack : List ℤ) (left : ℕ) (o : Outcome) → pc + 1 + m ≡ pc' → slice_get w.code pc ≡ Some (line_of 0 (GoOn m))
      → Runs s pc (1 + m + out) (1 + m + last) stack left o
      → Runs s pc' out last stack left o
  past_run s pc pc' m out last stack left (done values n) e h r =
      (r.0, r.1, led_at s (pc + 1 + m) pc' stack values n e (leads_on w s (state pc stack values n) _ r.2 (step w (GoOn m) 0 pc stack values n _ h refl)))
  past_run s pc pc' m out last stack left (exited values n) e h r = (r.0, r.1, led_at s (pc + (1 + m + out)) (pc' + out) stack values n (omega arith) r.2)
  past_run s pc pc' m out last stack left (returned values n) e h r = (r.0, led_at s (pc + (1 + m + last)) (pc' + last) (r.0 ++ stack) values n (omega arith) r.1)
  past_run s pc pc' m out last stack left (faulted f) e h r = r

  pub skip_run : (cell : ℤ) (b : Bool) (pc n pc' out last : ℕ) (under stack : List ℤ) (values : Values) (left : ℕ) (there here : Outcome) → is_nonzero cell ≡ b
      → slice_get w.code pc ≡ Some (line_of 0 (SkipUnless n))
      → Runs (state (pc + 1) under values left) pc' out last stack left there → Runs (state (pc + 1 + n) under values left) pc' out last stack left here
      → Runs (state pc (cell ∷ under) values left) pc' out last stack left (if b then there else here)
  skip_run cell true pc n pc' out last under stack values left there here e h rt rh =
      runs_after _ (state (pc + 1) under values left) pc' out last stack left left there (step w (SkipUnless n) 0 pc (cell ∷ under) values left _ h (ap (λ b. goes (state (if b then pc + 1 else (pc + 1 + n)) under values left)) e)) (omega arith) rt
  skip_run cell false pc n pc' out last under stack values left there here e h rt rh =
      runs_after _ (state (pc + 1 + n) under values left) pc' out last stack left left here (step w (SkipUnless n) 0 pc (cell ∷ under) values left _ h (ap (λ b. goes (state (if b then pc + 1 else (pc + 1 + n)) under values left)) e)) (omega arith) rh

  -- the test of a choice
  pub branch_test : (pc : ℕ) (ct cb cr : List Line) → HasAt w.code pc (branch_code ct cb cr) → HasAt w.code pc ct
  branch_test pc ct cb cr has =
      let tail = plain (SkipUnless (length cb + 1)) ++ (cb ++ plain (GoOn (length cr))) in
      has_front w.code pc ct tail (has_front w.code pc (ct ++ tail) cr has)

  -- what follows it
  pub branch_run : (pc out last : ℕ) (ct cb cr : List Line) (cell : ℤ) (b : Bool) (there here : Outcome) (under stack : List ℤ) (values : Values) (left : ℕ)
      → is_nonzero cell ≡ b → HasAt w.code pc (branch_code ct cb cr)
      → (HasAt w.code (pc + length ct + 1) cb → Runs (state (pc + length ct + 1) under values left) (pc + length ct + 1 + length cb) (1 + length cr + out) (1 + length cr + last) stack left there)
      → ((q : ℕ) → HasAt w.code q cr → Runs (state q under values left) (q + length cr) out last stack left here)
      → Runs (state (pc + length ct) (cell ∷ under) values left) (pc + length (branch_code ct cb cr)) out last stack left (if b then there else here)
  branch_run pc out last ct cb cr cell b there here under stack values left e has rt rh =
      let q = pc + length ct in
      let jump = plain (GoOn (length cr)) in
      let tail = plain (SkipUnless (length cb + 1)) ++ (cb ++ jump) in
      let head = ct ++ tail in
      let at_tail = has_back w.code pc ct tail (has_front w.code pc head cr has) in
      let at_jump = (has_back w.code (q + 1) cb jump at_tail.1).0 in
      let lh : pc + length head ≡ q + 1 + (length cb + 1) = omega (arith, length-append ct tail, length-append cb jump) in
      let at_rest = subst (λ n. HasAt w.code n cr) lh (has_back w.code pc head cr has) in
      let finish : q + 1 + (length cb + 1) + length cr ≡ pc + length (branch_code ct cb cr) = omega (arith, length-append head cr, length-append ct tail, length-append cb jump) in
      let past : q + 1 + length cb + 1 + length cr ≡ q + 1 + (length cb + 1) + length cr = omega arith in
      runs_at (state q (cell ∷ under) values left) _ _ out last stack left (if b then there else here) finish
      (skip_run cell b q (length cb + 1) _ out last under stack values left there here e at_tail.0
      (past_run _ (q + 1 + length cb) _ (length cr) out last stack left there past at_jump (rt (has_front w.code (q + 1) cb jump at_tail.1)))
      (rh (q + 1 + (length cb + 1)) at_rest))

  -- ---- cases

  -- what follows where the selector's number is taken away
  pub drop_run : (cell : ℤ) (cb : List Line) (pc out last : ℕ) (stack : List ℤ) (values : Values) (left : ℕ) (o : Outcome) → HasAt w.code pc (plain Drop ++ cb)
      → (HasAt w.code (pc + 1) cb → Runs (state (pc + 1) stack values left) (pc + 1 + length cb) out last stack left o)
      → Runs (state pc (cell ∷ stack) values left) (pc + length (plain Drop ++ cb)) out last stack left o
  drop_run cell cb pc out last stack values left o has r =
      let len : pc + 1 + length cb ≡ pc + length (plain Drop ++ cb) = omega arith in
      runs_at _ _ _ out last stack left o len
      (runs_after (state pc (cell ∷ stack) values left) (state (pc + 1) stack values left) _ out last stack left left o (step w Drop 0 pc (cell ∷ stack) values left _ has.0 refl) (omega arith) (r has.1))

  pushed : (n : ℤ) (pc : ℕ) (stack : List ℤ) (values : Values) (left : ℕ) → slice_get w.code pc ≡ Some (line_of 0 (Push n)) → length stack < w.room
      → Leads w (state pc stack values left) (state (pc + 1) (n ∷ stack) values left)
  pushed n pc stack values left h room = step w (Push n) 0 pc stack values left _ h (if_below (length stack) w.room (goes (state (pc + 1) (n ∷ stack) values left)) stuck room)

  label_run : (e : Elem) (r : LabelRange) (x : Value) (b : Bool) (pc : ℕ) (stack : List ℤ) (values : Values) (left : ℕ) → IsLabelOf e r → IsOf e x
      → length stack + 4 ≤ w.room → HasAt w.code pc (label_code e r)
      → Leads w (state pc (truth_of b ∷ cell_of x.bits ∷ stack) values left)
      (state (pc + 1 + 1 + 1) (truth_of (b || is_labelled r x.bits) ∷ cell_of x.bits ∷ stack) values left)
  label_run e r x b pc stack values left label of room has =
      let under = truth_of b ∷ cell_of x.bits ∷ stack in
      let low = cell_of r.least in let high = cell_of r.greatest in
      leads_on w (state pc under values left) (state (pc + 1) (low ∷ under) values left) _ (pushed low pc under values left has.0 (omega (arith, room)))
      (leads_on w (state (pc + 1) (low ∷ under) values left) (state (pc + 1 + 1) (high ∷ low ∷ under) values left) _ (pushed high (pc + 1) (low ∷ under) values left has.1.0 (omega (arith, room)))
      (step w (Within e) 0 (pc + 1 + 1) (high ∷ low ∷ under) values left _ has.1.1.0
      (ap (λ f. goes (state (pc + 1 + 1 + 1) (truth_of (f || (int_le (number_in e low) (number_in e (cell_of x.bits)) && int_le (number_in e (cell_of x.bits)) (number_in e high))) ∷ cell_of x.bits ∷ stack) values left)) (truth_is b)
      ∙ ap (λ n. goes (state (pc + 1 + 1 + 1) (truth_of (b || (int_le n (number_in e (cell_of x.bits)) && int_le (number_in e (cell_of x.bits)) (number_in e high))) ∷ cell_of x.bits ∷ stack) values left)) (number_back e r.least label.least)
      ∙ ap (λ n. goes (state (pc + 1 + 1 + 1) (truth_of (b || (int_le r.least (number_in e (cell_of x.bits)) && int_le (number_in e (cell_of x.bits)) n)) ∷ cell_of x.bits ∷ stack) values left)) (number_back e r.greatest label.greatest)
      ∙ ap (λ n. goes (state (pc + 1 + 1 + 1) (truth_of (b || (int_le r.least n && int_le n r.greatest)) ∷ cell_of x.bits ∷ stack) values left)) (number_of_value e x of))))

  labels_run : (e : Elem) (labels : List LabelRange) (x : Value) (b : Bool) (pc : ℕ) (stack : List ℤ) (values : Values) (left : ℕ) → All (IsLabelOf e) labels → IsOf e x
      → length stack + 4 ≤ w.room → HasAt w.code pc (labels_code e labels)
      → Leads w (state pc (truth_of b ∷ cell_of x.bits ∷ stack) values left)
      (state (pc + length (labels_code e labels)) (truth_of (b || has_label labels x.bits) ∷ cell_of x.bits ∷ stack) values left)
  labels_run e [] x b pc stack values left all of room has =
      let len : pc ≡ pc + 0 = omega arith in
      stays w _ _ (ap (λ p. state p (truth_of b ∷ cell_of x.bits ∷ stack) values left) len ∙ ap (λ f. state (pc + 0) (truth_of f ∷ cell_of x.bits ∷ stack) values left) (or_false b))
  labels_run e (r ∷ rs) x b pc stack values left all of room has =
      let one = label_code e r in let rest = labels_code e rs in
      let len : pc + 1 + 1 + 1 + length rest ≡ pc + length (one ++ rest) = omega arith in
      let third : pc + length one ≡ pc + 1 + 1 + 1 = omega arith in
      let at_rest = subst (λ p. HasAt w.code p rest) third (has_back w.code pc one rest has) in
      leads_on w _ (state (pc + 1 + 1 + 1) (truth_of (b || is_labelled r x.bits) ∷ cell_of x.bits ∷ stack) values left) _
      (label_run e r x b pc stack values left (All-head (IsLabelOf e) r rs all) of room (has_front w.code pc one rest has))
      (leads_on w _ (state (pc + 1 + 1 + 1 + length rest) (truth_of ((b || is_labelled r x.bits) || has_label rs x.bits) ∷ cell_of x.bits ∷ stack) values left) _
      (labels_run e rs x (b || is_labelled r x.bits) (pc + 1 + 1 + 1) stack values left (All-tail (IsLabelOf e) r rs all) of room at_rest)
      (stays w _ _ (ap (λ f. state (pc + 1 + 1 + 1 + length rest) (truth_of f ∷ cell_of x.bits ∷ stack) values left) (or_further b (is_labelled r x.bits) (has_label rs x.bits))
      ∙ ap (λ p. state p (truth_of (b || has_label (r ∷ rs) x.bits) ∷ cell_of x.bits ∷ stack) values left) len)))

  -- the selector's number keeps its place below the answer
  pub case_run : (e : Elem) (labels : List LabelRange) (x : Value) (pc : ℕ) (stack : List ℤ) (values : Values) (left : ℕ) → All (IsLabelOf e) labels → IsOf e x
      → length stack + 4 ≤ w.room → HasAt w.code pc (case_test e labels)
      → Leads w (state pc (cell_of x.bits ∷ stack) values left)
      (state (pc + length (case_test e labels)) (truth_of (has_label labels x.bits) ∷ cell_of x.bits ∷ stack) values left)
  case_run e labels x pc stack values left all of room has =
      let under = cell_of x.bits ∷ stack in
      let len : pc + 1 + length (labels_code e labels) ≡ pc + length (case_test e labels) = omega arith in
      led_at (state pc under values left) _ _ (truth_of (has_label labels x.bits) ∷ under) values left len
      (leads_on w (state pc under values left) (state (pc + 1) (pos 0 ∷ under) values left) _ (pushed (pos 0) pc under values left has.0 (omega (arith, room))) (labels_run e labels x false (pc + 1) stack values left all of room has.1))

  -- ---- assignments

  put_run : (s : State) (pc out last : ℕ) (i : Instr) (e : Elem) (v : Value) (path : Path) (k : ℕ) (ps : Parts) (top stack : List ℤ) (values : Values) (left n : ℕ)
      → AreValuesOf w.root values → IsOf e v → IsPlaceOf w.functions w.root e ps
      → located (called w) w.root values w.root ps left ≡ gives path n → LeadsTo w.root path k → Leads w s (state pc top values n) → slice_get w.code pc ≡ Some (line_of 0 i)
      → act w.env w.room i 0 pc top values n ≡ puts w.env.setting.forced e (cell_of v.bits) k (pc + 1) stack values n
      → Runs s (pc + 1) out last stack left (done (stored_at w.root w.env.setting.forced values path v) n)
  put_run s pc out last i e v path k ps top stack values left n ok of place found l leads h acts =
      let leaf = leaf_known w e ps path k values left n place found l in (
        w.takes w.functions (called w) w.root values e ps left path n w.known w.apart ok place found,
        store_keeps w e v path k values ok of leaf,
        leads_on w s (state pc top values n) _ leads (step w i 0 pc top values n _ h (acts ∙ puts_value w e v path k (pc + 1) stack values n ok of leaf)),
      )

  -- at a place that is found without subscripts
  pub fixed_put_run : (ps : Parts) (e : Elem) (v : Value) (pc out last : ℕ) (stack : List ℤ) (values : Values) (left : ℕ) → AreValuesOf w.root values → IsOf e v
      → IsPlaceOf w.functions w.root e ps → is_fixed ps ≡ true
      → slice_get w.code pc ≡ Some (line_of 0 (Put e (base_of w.root ps)))
      → Runs (state pc (cell_of v.bits ∷ stack) values left)
      (pc + 1) out last stack left (given (located (called w) w.root values w.root ps left) (λ path n. done (stored_at w.root w.env.setting.forced values path v) n))
  fixed_put_run ps e v pc out last stack values left ok of place fixed h =
      let f = fixed_found (called w) w.root values ps left w.root e place.type fixed in
      let s = state pc (cell_of v.bits ∷ stack) values left in
      subst (λ a. Runs s (pc + 1) out last stack left (given a (λ path n. done (stored_at w.root w.env.setting.forced values path v) n))) (sym f.found)
      (put_run s pc out last (Put e (base_of w.root ps)) e v f.path (base_of w.root ps) ps (cell_of v.bits ∷ stack) stack values left left ok of place f.found f.leads (stays w s s refl) h refl)

  -- at one that is found with its distance
  found_put_run : (s : State) (ps : Parts) (there : Bool) (e : Elem) (v : Value) (pc n out last : ℕ) (stack : List ℤ) (values : Values) (left : ℕ) (a : Answer Path)
      → AreValuesOf w.root values → IsOf e v → IsPlaceOf w.functions w.root e ps
      → located (called w) w.root values w.root ps left ≡ a → there ≡ true → PlaceRuns w s pc there (cell_of v.bits ∷ stack) values 0 w.root n a
      → slice_get w.code pc ≡ Some (line_of 0 (PutAt e n))
      → Runs s (pc + 1) out last stack left (given a (λ path m. done (stored_at w.root w.env.setting.forced values path v) m))
  found_put_run s ps there e v pc n out last stack values left (stops f) ok of place found t r h = r
  found_put_run s ps true e v pc n out last stack values left (gives path m) ok of place found t r h =
      let sum : n + (0 + r.0) ≡ n + r.0 = omega arith in
      put_run s pc out last (PutAt e n) e v path (n + r.0) ps (pos (0 + r.0) ∷ cell_of v.bits ∷ stack) stack values left m ok of place found r.1 r.2 h
      (ap (λ k. puts w.env.setting.forced e (cell_of v.bits) k (pc + 1) stack values m) sum)
  found_put_run s ps false e v pc n out last stack values left (gives path m) ok of place found t r h = absurd (cc)

  pub assign_run : (ps : Parts) (fixed : Bool) (e : Elem) (v : Value) (pc out last : ℕ) (stack : List ℤ) (values : Values) (left : ℕ) → AreValuesOf w.root values
      → IsOf e v → IsPlaceOf w.functions w.root e ps → is_fixed ps ≡ fixed
      → HasAt w.code pc (if fixed then plain (Put e (base_of w.root ps)) else (parts_code w.root false w.root ps ++ plain (PutAt e (base_of w.root ps))))
      → (HasAt w.code pc (parts_code w.root false w.root ps)
      → PlaceRuns w (state pc (cell_of v.bits ∷ stack) values left) (pc + length (parts_code w.root false w.root ps)) (has_distance false ps)
      (cell_of v.bits ∷ stack) values 0 w.root (base_of w.root ps) (located (called w) w.root values w.root ps left))
      → Runs (state pc (cell_of v.bits ∷ stack) values left)
      (pc + length (if fixed then plain (Put e (base_of w.root ps)) else (parts_code w.root false w.root ps ++ plain (PutAt e (base_of w.root ps))))) out last stack left
      (given (located (called w) w.root values w.root ps left) (λ path n. done (stored_at w.root w.env.setting.forced values path v) n))
  assign_run ps true e v pc out last stack values left ok of place fixed has go = fixed_put_run ps e v pc out last stack values left ok of place fixed has.0
  assign_run ps false e v pc out last stack values left ok of place fixed has go =
      let cp = parts_code w.root false w.root ps in
      let end' = plain (PutAt e (base_of w.root ps)) in
      let len : pc + length cp + 1 ≡ pc + length (cp ++ end') = omega (arith, length-append cp end') in
      runs_at _ _ _ out last stack left (given (located (called w) w.root values w.root ps left) (λ path n. done (stored_at w.root w.env.setting.forced values path v) n)) len
      (found_put_run (state pc (cell_of v.bits ∷ stack) values left) ps (has_distance false ps) e v (pc + length cp) (base_of w.root ps) out last stack values left (located (called w) w.root values w.root ps left) ok of place refl
      (gives_distance ps fixed) (go (has_front w.code pc cp end' has)) (has_back w.code pc cp end' has).0)

  -- what follows a value that is stored
  pub store_then : (s : State) (pc pc' out last : ℕ) (stack : List ℤ) (left : ℕ) (a : Answer Path) (store : Path → Values) (go : Values → ℕ → Outcome)
      → Runs s pc out last stack left (given a (λ path n. done (store path) n))
      → ((values : Values) (n : ℕ) → AreValuesOf w.root values → Runs (state pc stack values n) pc' out last stack n (go values n))
      → Runs s pc' out last stack left (given a (λ path n. go (store path) n))
  store_then s pc pc' out last stack left (stops f) store go r further = r
  store_then s pc pc' out last stack left (gives path n) store go r further =
      runs_after s (state pc stack (store path) n) pc' out last stack left n (go (store path) n) r.2 r.0 (further (store path) n r.1)
