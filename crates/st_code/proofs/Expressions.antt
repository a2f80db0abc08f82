-- The code of terms.
use Rattle.std.proofs.Common.{◌≡◌, ℕ, zero, suc, ◌+◌, ◌<◌, ◌≤◌, ◌==◌, ◌&&◌, Bool, true, false, if◌then◌else◌, ℤ, pos, negsuc, List, ◌∷◌, ◌++◌, length, Option, Some, None, IsTrue, refl, sym, ap, ◌∙◌, subst, arith, length-append}
use Rattle.std.specs.Prelude.{◌||◌, slice_get}
use Rattle.std.specs.Option.{is_some}
use Rattle.std.proofs.lemmas.Bool.{and_from, eq-eqb}
use Rattle.std.proofs.lemmas.Bool.Decides.{Decides-eqb}
use Rattle.st_values.specs.Types.{is_same, place_of}
use Rattle.st_values.specs.declared.elem.Elem.{Elem}
use Rattle.st_values.specs.declared.value.Value.{Value}
use Rattle.st_types.specs.Compositions.{Composition, unknown, elementary, array, composed, standard}
use Rattle.st_leaves.specs.Bounds.{HasBounds}
use Rattle.st_leaves.specs.Paths.{Path}
use Rattle.st_leaves.specs.Places.{end, count}
use Rattle.st_leaves.specs.Selected.{selected_by}
use Rattle.st_operators.specs.Functions.{selected_of}
use Rattle.st_operators.specs.Laws.{IsOf}
use Rattle.st_meaning.specs.Meaning.{Values, located, value_at, value_of, values_of}
use Rattle.st_meaning.specs.Operations.{Answer, gives, stops, binary_value, has_count, takes_one, takes_two, then_with, unary_value}
use Rattle.st_meaning.specs.Sound.{AreSoundParts, AreSoundTerms, AreValuesOf, IsSoundTerm, is_fixed, term_type, types_in}
use Rattle.st_meaning.specs.Statements.{faulted, is_nonzero}
use Rattle.st_meaning.specs.Offsets.{step_leaf}
use Rattle.st_meaning.specs.Steps.{step_path}
use Rattle.st_meaning.specs.Terms.{Term, constant, stored, of_step, unary, binary, selection, call, Terms, no_terms, more_terms, Parts, whole, field_part, element_part, how_many}
use Rattle.st_meaning.specs.Wholes.{type_of}
use Rattle.st_meaning.specs.declared.operation.Binary.{Binary}
use Rattle.st_meaning.specs.declared.operation.Unary.{Unary}
use Rattle.st_meaning.proofs.ChartTypes.{step_leads}
use Rattle.st_code.specs.Code.{at, base_of, cell_of, parts_code, plain, term_code, terms_code}
use Rattle.st_code.specs.Depth.{parts_depth, term_depth, terms_depth}
use Rattle.st_code.specs.Machine.{State, answered, gets, goes, is_cell_of, state, stuck, takes_operands, value_in}
use Rattle.st_code.specs.declared.instr.Instr.TheVariants.{Push, Get, GetAt, Apply, Combine, Select}
use Rattle.st_code.proofs.Calls.{answer_goes, call_goes, goes_after}
use Rattle.st_code.proofs.Cells.{is_cell_of_value, nonzero_cell, value_back}
use Rattle.st_code.proofs.Parts.{field_run, fixed_found, gives_distance, group_run, has_distance, named_bounds, named_few, over_length}
use Rattle.st_code.proofs.Steps.{HasAt, Leads, PlaceRuns, TermGoes, TermRuns, TermsRun, World, all_three, called, gets_value, has_back, has_front, if_below, if_true, leads_on, line_of, over, stays, step, typed}

types_length : (root : Composition) (ts : Terms) → length (types_in root ts) ≡ how_many ts
types_length root no_terms = refl
types_length root (more_terms t ts) = omega (arith, types_length root ts)

when_true : (b : Bool) (o : Option Elem) (e : Elem) → (if b then o else None) ≡ Some e → (b ≡ true) × (o ≡ Some e)
when_true true o e h = (refl, h)
when_true false o e h = absurd (cc)

-- where both operands have one type, or the second counts
takes_both : (o : Binary) (counts : Bool) (e f : Elem) → IsTrue (takes_two o e) → (counts ≡ false → e ≡ f) → (takes_two o e && (counts || is_same e f)) ≡ true
takes_both o true e f h same = and_from (takes_two o e) true h refl
takes_both o false e f h same = and_from (takes_two o e) (is_same e f) h (eq-eqb (place_of e) (place_of f) (ap place_of (same refl)))

-- the cell of a selected value
selected_cell : (g x y : Value) (n : ℤ) → g.bits ≡ n → cell_of (selected_of g x y).bits ≡ (if is_nonzero n then cell_of y.bits else cell_of x.bits)
selected_cell g x y (pos zero) e = rw e refl
selected_cell g x y (pos (suc n)) e = rw e refl
selected_cell g x y (negsuc n) e = rw e refl

module _ (w : World) where
  -- what follows a value
  value_then : (s : State) (pc pc' : ℕ) (e : Elem) (under stack : List ℤ) (values : Values) (left : ℕ) (a : Answer Value) (go : Value → ℕ → Answer Value)
      → TermRuns w s pc e under values left a
      → ((x : Value) (n : ℕ) → IsOf e x → TermGoes w (state pc (cell_of x.bits ∷ under) values n) pc' stack values (go x n)) → TermGoes w s pc' stack values (then_with a go)
  value_then s pc pc' e under stack values left (gives x n) go r further = goes_after w s (state pc (cell_of x.bits ∷ under) values n) pc' stack values (go x n) r.1 (further x n r.0.value)
  value_then s pc pc' e under stack values left (stops f) go r further = r

  -- ---- operators

  unary_run : (pc : ℕ) (o : Unary) (e : Elem) (x : Value) (stack : List ℤ) (values : Values) (left : ℕ) → IsTrue (takes_one o e) → IsOf e x
      → slice_get w.code pc ≡ Some (line_of 0 (Apply o e))
      → Leads w (state pc (cell_of x.bits ∷ stack) values left) (state (pc + 1) (cell_of (unary_value o x).bits ∷ stack) values left)
  unary_run pc o e x stack values left takes of h =
      step w (Apply o e) 0 pc (cell_of x.bits ∷ stack) values left _ h
      (if_true (takes_one o e && is_cell_of e (cell_of x.bits)) (goes (state (pc + 1) (cell_of (unary_value o (value_in e (cell_of x.bits))).bits ∷ stack) values left)) stuck
      (and_from (takes_one o e) (is_cell_of e (cell_of x.bits)) takes (is_cell_of_value e x of))
      ∙ ap (λ u. goes (state (pc + 1) (cell_of (unary_value o u).bits ∷ stack) values left)) (value_back e x of))

  combine_run : (pc : ℕ) (o : Binary) (line : ℕ) (e f : Elem) (x y : Value) (stack : List ℤ) (values : Values) (left : ℕ) → takes_operands o e f ≡ true
      → IsOf e x → IsOf f y → slice_get w.code pc ≡ Some (line_of line (Combine o e f))
      → TermGoes w (state pc (cell_of y.bits ∷ cell_of x.bits ∷ stack) values left) (pc + 1) stack values (binary_value o line x y left)
  combine_run pc o line e f x y stack values left takes ofx ofy h =
      let top = cell_of y.bits ∷ cell_of x.bits ∷ stack in
      answer_goes w (state pc top values left) (pc + 1) stack values (binary_value o line x y left) line (Combine o e f) top pc left (stays w _ _ refl) h
      (if_true (takes_operands o e f && is_cell_of e (cell_of x.bits) && is_cell_of f (cell_of y.bits)) (answered (binary_value o line (value_in e (cell_of x.bits)) (value_in f (cell_of y.bits)) left) pc stack values) stuck
      (all_three (takes_operands o e f) (is_cell_of e (cell_of x.bits)) (is_cell_of f (cell_of y.bits)) takes (is_cell_of_value e x ofx) (is_cell_of_value f y ofy))
      ∙ ap (λ u. answered (binary_value o line u (value_in f (cell_of y.bits)) left) pc stack values) (value_back e x ofx)
      ∙ ap (λ u. answered (binary_value o line x u left) pc stack values) (value_back f y ofy)) refl

  select_run : (pc : ℕ) (e : Elem) (g x y : Value) (stack : List ℤ) (values : Values) (left : ℕ) → IsOf e g → slice_get w.code pc ≡ Some (line_of 0 Select)
      → Leads w (state pc (cell_of y.bits ∷ cell_of x.bits ∷ cell_of g.bits ∷ stack) values left) (state (pc + 1) (cell_of (selected_of g x y).bits ∷ stack) values left)
  select_run pc e g x y stack values left of h =
      step w Select 0 pc (cell_of y.bits ∷ cell_of x.bits ∷ cell_of g.bits ∷ stack) values left _ h
      (ap (λ b. goes (state (pc + 1) ((if b then cell_of y.bits else cell_of x.bits) ∷ stack) values left)) (nonzero_cell e g of)
      ∙ ap (λ n. goes (state (pc + 1) (n ∷ stack) values left)) (sym (selected_cell g x y g.bits refl)))

  -- the answer for further terms
  rest_run : (s : State) (pc pc2 : ℕ) (e : Elem) (es : List Elem) (x : Value) (b : Answer Values) (stack : List ℤ) (values : Values) (n : ℕ) → IsOf e x
      → Leads w s (state pc (cell_of x.bits ∷ stack) values n) → TermsRun w (state pc (cell_of x.bits ∷ stack) values n) pc2 es (cell_of x.bits ∷ stack) values b
      → TermsRun w s pc2 (e ∷ es) stack values (then_with b (λ xs m. gives (x ∷ xs) m))
  rest_run s pc pc2 e es x (stops f) stack values n of l r = l.by (faulted f) r
  rest_run s pc pc2 e es x (gives xs m) stack values n of l r = ((of, r.0), leads_on w s (state pc (cell_of x.bits ∷ stack) values n) _ l r.1)

  more_run : (s : State) (pc pc2 : ℕ) (e : Elem) (es : List Elem) (a : Answer Value) (b : ℕ → Answer Values) (stack : List ℤ) (values : Values) (left : ℕ)
      → TermRuns w s pc e stack values left a
      → ((x : Value) (n : ℕ) → TermsRun w (state pc (cell_of x.bits ∷ stack) values n) pc2 es (cell_of x.bits ∷ stack) values (b n))
      → TermsRun w s pc2 (e ∷ es) stack values (then_with a (λ x n. then_with (b n) (λ xs m. gives (x ∷ xs) m)))
  more_run s pc pc2 e es (stops f) b stack values left ra rb = ra
  more_run s pc pc2 e es (gives x n) b stack values left ra rb = rest_run s pc pc2 e es x (b n) stack values n ra.0.value ra.1 (rb x n)

  -- ---- variables

  -- the value of a place that is found without subscripts
  fixed_run : (ps : Parts) (e : Elem) (pc : ℕ) (stack : List ℤ) (values : Values) (left : ℕ) → AreValuesOf w.root values → type_of w.root ps ≡ Some e → is_fixed ps ≡ true
      → length stack < w.room
      → slice_get w.code pc ≡ Some (line_of 0 (Get (base_of w.root ps)))
      → TermGoes w (state pc stack values left) (pc + 1) stack values (then_with (located (called w) w.root values w.root ps left) (λ path n. gives (value_at w.root values path) n))
  fixed_run ps e pc stack values left ok t fixed room h =
      let f = fixed_found (called w) w.root values ps left w.root e t fixed in
      let goes_there = step w (Get (base_of w.root ps)) 0 pc stack values left (state (pc + 1) (cell_of (value_at w.root values f.path).bits ∷ stack) values left) h
      (if_below (length stack) w.room (gets (base_of w.root ps) pc stack values left) stuck room ∙ gets_value w f.path (base_of w.root ps) pc stack values left ok f.leads) in
      subst (λ a. TermGoes w (state pc stack values left) (pc + 1) stack values (then_with a (λ path n. gives (value_at w.root values path) n))) (sym f.found) goes_there

  -- the value of one that is found with its distance
  got_run : (s : State) (pc : ℕ) (there : Bool) (stack : List ℤ) (values : Values) (n : ℕ) (a : Answer Path) → AreValuesOf w.root values → there ≡ true
      → PlaceRuns w s pc there stack values 0 w.root n a
      → slice_get w.code pc ≡ Some (line_of 0 (GetAt n)) → TermGoes w s (pc + 1) stack values (then_with a (λ path m. gives (value_at w.root values path) m))
  got_run s pc there stack values n (stops f) ok e r h = r
  got_run s pc true stack values n (gives path left) ok e r h =
      leads_on w s (state pc (pos (0 + r.0) ∷ stack) values left) _ r.2
      (step w (GetAt n) 0 pc (pos (0 + r.0) ∷ stack) values left _ h
      (let sum : n + (0 + r.0) ≡ n + r.0 = omega arith in ap (λ k. gets k pc stack values left) sum ∙ gets_value w path (n + r.0) pc stack values left ok r.1))
  got_run s pc false stack values n (gives path left) ok e r h = absurd (cc)

  stored_run : (ps : Parts) (fixed : Bool) (e : Elem) (pc : ℕ) (stack : List ℤ) (values : Values) (left : ℕ) → AreValuesOf w.root values → type_of w.root ps ≡ Some e
      → is_fixed ps ≡ fixed → length stack < w.room
      → HasAt w.code pc (if fixed then plain (Get (base_of w.root ps)) else (parts_code w.root false w.root ps ++ plain (GetAt (base_of w.root ps))))
      → (HasAt w.code pc (parts_code w.root false w.root ps) → PlaceRuns w (state pc stack values left) (pc + length (parts_code w.root false w.root ps)) (has_distance false ps) stack values 0 w.root (base_of w.root ps) (located (called w) w.root values w.root ps left))
      → TermGoes w (state pc stack values left)
      (pc + length (if fixed then plain (Get (base_of w.root ps)) else (parts_code w.root false w.root ps ++ plain (GetAt (base_of w.root ps))))) stack values
      (then_with (located (called w) w.root values w.root ps left) (λ path n. gives (value_at w.root values path) n))
  stored_run ps true e pc stack values left ok t fixed room has go = fixed_run ps e pc stack values left ok t fixed room has.0
  stored_run ps false e pc stack values left ok t fixed room has go =
      let cp = parts_code w.root false w.root ps in
      let last = plain (GetAt (base_of w.root ps)) in
      let len : pc + length cp + 1 ≡ pc + length (cp ++ last) = omega (arith, length-append cp last) in
      subst (λ p. TermGoes w (state pc stack values left) p stack values (then_with (located (called w) w.root values w.root ps left) (λ path n. gives (value_at w.root values path) n))) len
      (got_run (state pc stack values left) (pc + length cp) (has_distance false ps) stack values (base_of w.root ps) (located (called w) w.root values w.root ps left) ok (gives_distance ps fixed)
      (go (has_front w.code pc cp last has)) (has_back w.code pc cp last has).0)

  some_type : (o : Option Elem) → IsTrue (is_some o) → (e : Elem) × (o ≡ Some e)
  some_type None h = absurd (cc)
  some_type (Some e) h = (e, refl)

  mutual
    pub term_goes : (t : Term) (pc : ℕ) (stack : List ℤ) → HasAt w.code pc (term_code w.root t) → IsSoundTerm w.functions w.root t → length stack + term_depth t ≤ w.room
        → (values : Values) (left : ℕ) → AreValuesOf w.root values
        → TermGoes w (state pc stack values left) (pc + length (term_code w.root t)) stack values (value_of (called w) w.root values t left)
    term_goes (constant v) pc stack has sound room values left ok =
        step w (Push (cell_of v.bits)) 0 pc stack values left _ has.0 (if_below (length stack) w.room (goes (state (pc + 1) (cell_of v.bits ∷ stack) values left)) stuck (omega (arith, room)))
    term_goes (stored ps) pc stack has sound room values left ok =
        let t = some_type (type_of w.root ps) sound.0 in
        stored_run ps (is_fixed ps) t.0 pc stack values left ok t.1 refl (omega (arith, room)) has
        (λ h. parts_runs ps w.root t.0 t.1 sound.1 w.small.bounds false 0 (λ e. refl) (omega (arith, w.small.few)) pc stack h (omega (arith, room)) values left ok)
    term_goes (of_step is_time name) pc stack has sound room values left ok =
        let at = step_leads w.root is_time name sound in
        let leaf = step_leaf w.root is_time name in
        step w (Get leaf) 0 pc stack values left _ has.0
        (if_below (length stack) w.room (gets leaf pc stack values left) stuck (omega (arith, room)) ∙ gets_value w (step_path is_time name) leaf pc stack values left ok at.leads)
    term_goes (unary o a) pc stack has sound room values left ok =
        let ca = term_code w.root a in
        let last = plain (Apply o (term_type w.root a)) in
        let len : pc + length ca + 1 ≡ pc + length (ca ++ last) = omega (arith, length-append ca last) in
        subst (λ p. TermGoes w (state pc stack values left) p stack values (value_of (called w) w.root values (unary o a) left)) len
        (value_then (state pc stack values left) (pc + length ca) (pc + length ca + 1) (term_type w.root a) stack stack values left (value_of (called w) w.root values a left)
        (λ x n. gives (unary_value o x) n)
        (typed w a _ _ stack values left (value_of (called w) w.root values a left) ok sound.0 refl (term_goes a pc stack (has_front w.code pc ca last has) sound.0 room values left ok))
        (λ x n of. unary_run (pc + length ca) o (term_type w.root a) x stack values n sound.1 of (has_back w.code pc ca last has).0))
    term_goes (binary o line a b) pc stack has sound room values left ok =
        let ca = term_code w.root a in let cb = term_code w.root b in
        let last = at line (Combine o (term_type w.root a) (term_type w.root b)) in
        let at_b = has_back w.code pc ca (cb ++ last) has in
        let q = pc + length ca in
        let len : q + length cb + 1 ≡ pc + length (ca ++ (cb ++ last)) = omega (arith, length-append ca (cb ++ last), length-append cb last) in
        let takes = takes_both o (has_count o) (term_type w.root a) (term_type w.root b) sound.2 sound.3 in
        subst (λ p. TermGoes w (state pc stack values left) p stack values (value_of (called w) w.root values (binary o line a b) left)) len
        (value_then (state pc stack values left) q (q + length cb + 1) (term_type w.root a) stack stack values left (value_of (called w) w.root values a left)
        (λ x n. then_with (value_of (called w) w.root values b n) (λ y m. binary_value o line x y m))
        (typed w a _ _ stack values left (value_of (called w) w.root values a left) ok sound.0 refl (term_goes a pc stack (has_front w.code pc ca (cb ++ last) has) sound.0 (omega (arith, room)) values left ok))
        (λ x n of. value_then (state q (cell_of x.bits ∷ stack) values n) (q + length cb) (q + length cb + 1) (term_type w.root b) (cell_of x.bits ∷ stack) stack values n (value_of (called w) w.root values b n)
        (λ y m. binary_value o line x y m)
        (typed w b _ _ (cell_of x.bits ∷ stack) values n (value_of (called w) w.root values b n) ok sound.1 refl
        (term_goes b q (cell_of x.bits ∷ stack) (has_front w.code q cb last at_b) sound.1 (omega (arith, room)) values n ok))
        (λ y m ofy. combine_run (q + length cb) o line (term_type w.root a) (term_type w.root b) x y stack values m takes of ofy (has_back w.code q cb last at_b).0)))
    term_goes (selection g a b) pc stack has sound room values left ok =
        let cg = term_code w.root g in let ca = term_code w.root a in let cb = term_code w.root b in
        let last = plain Select in
        let at_a = has_back w.code pc cg (ca ++ (cb ++ last)) has in
        let at_b = has_back w.code (pc + length cg) ca (cb ++ last) at_a in
        let q = pc + length cg in
        let r = q + length ca in
        let len : r + length cb + 1 ≡ pc + length (cg ++ (ca ++ (cb ++ last))) = omega (arith, length-append cg (ca ++ (cb ++ last)), length-append ca (cb ++ last), length-append cb last) in
        subst (λ p. TermGoes w (state pc stack values left) p stack values (value_of (called w) w.root values (selection g a b) left)) len
        (value_then (state pc stack values left) q (r + length cb + 1) (term_type w.root g) stack stack values left (value_of (called w) w.root values g left)
        (λ x n. then_with (value_of (called w) w.root values a n) (λ y m. then_with (value_of (called w) w.root values b m) (λ z k. gives (selected_of x y z) k)))
        (typed w g _ _ stack values left (value_of (called w) w.root values g left) ok sound.0 refl (term_goes g pc stack (has_front w.code pc cg (ca ++ (cb ++ last)) has) sound.0 (omega (arith, room)) values left ok))
        (λ x n of. value_then (state q (cell_of x.bits ∷ stack) values n) r (r + length cb + 1) (term_type w.root a) (cell_of x.bits ∷ stack) stack values n (value_of (called w) w.root values a n)
        (λ y m. then_with (value_of (called w) w.root values b m) (λ z k. gives (selected_of x y z) k))
        (typed w a _ _ (cell_of x.bits ∷ stack) values n (value_of (called w) w.root values a n) ok sound.1 refl
        (term_goes a q (cell_of x.bits ∷ stack) (has_front w.code q ca (cb ++ last) at_a) sound.1 (omega (arith, room)) values n ok))
        (λ y m ofy. value_then (state r (cell_of y.bits ∷ cell_of x.bits ∷ stack) values m) (r + length cb) (r + length cb + 1) (term_type w.root b) (cell_of y.bits ∷ cell_of x.bits ∷ stack) stack values m
        (value_of (called w) w.root values b m) (λ z k. gives (selected_of x y z) k)
        (typed w b _ _ (cell_of y.bits ∷ cell_of x.bits ∷ stack) values m (value_of (called w) w.root values b m) ok sound.2 refl
        (term_goes b r (cell_of y.bits ∷ cell_of x.bits ∷ stack) (has_front w.code r cb last at_b) sound.2 (omega (arith, room)) values m ok))
        (λ z k ofz. select_run (r + length cb) (term_type w.root g) x y z stack values k of (has_back w.code r cb last at_b).0))))
    term_goes (call line unit result ts sources) pc stack has sound room values left ok =
        call_goes w line unit result (how_many ts) (types_in w.root ts) sources (terms_code w.root ts) (λ m. values_of (called w) w.root values ts m) pc stack values left
        (types_length w.root ts) sound.1 (omega (arith, room)) has
        (λ m h. terms_run ts (pc + 1) stack h sound.0 (omega (arith, room)) values m ok)

    terms_run : (ts : Terms) (pc : ℕ) (stack : List ℤ) → HasAt w.code pc (terms_code w.root ts) → AreSoundTerms w.functions w.root ts → length stack + terms_depth ts ≤ w.room
        → (values : Values) (left : ℕ) → AreValuesOf w.root values
        → TermsRun w (state pc stack values left) (pc + length (terms_code w.root ts)) (types_in w.root ts) stack values (values_of (called w) w.root values ts left)
    terms_run no_terms pc stack has sound room values left ok = let len : pc ≡ pc + 0 = omega arith in (tt, stays w _ _ (ap (λ p. state p stack values left) len))
    terms_run (more_terms t ts) pc stack has sound room values left ok =
        let ct = term_code w.root t in let cs = terms_code w.root ts in
        let len : pc + length ct + length cs ≡ pc + length (ct ++ cs) = omega (arith, length-append ct cs) in
        subst (λ p. TermsRun w (state pc stack values left) p (term_type w.root t ∷ types_in w.root ts) stack values (values_of (called w) w.root values (more_terms t ts) left)) len
        (more_run (state pc stack values left) (pc + length ct) (pc + length ct + length cs) (term_type w.root t) (types_in w.root ts) (value_of (called w) w.root values t left)
        (λ n. values_of (called w) w.root values ts n) stack values left
        (typed w t _ _ stack values left (value_of (called w) w.root values t left) ok sound.0 refl (term_goes t pc stack (has_front w.code pc ct cs has) sound.0 (omega (arith, room)) values left ok))
        (λ x n. terms_run ts (pc + length ct) (cell_of x.bits ∷ stack) (has_back w.code pc ct cs has) sound.1 (omega (arith, room)) values n ok))

    pub parts_runs : (ps : Parts) (c : Composition) (e : Elem) → type_of c ps ≡ Some e → AreSoundParts w.functions w.root ps → HasBounds c → (more : Bool) (acc : ℕ)
        → (more ≡ false → acc ≡ 0) → acc + count c ≤ 999999
        → (pc : ℕ) (stack : List ℤ) → HasAt w.code pc (parts_code w.root more c ps) → length stack + parts_depth ps ≤ w.room → (values : Values) (left : ℕ)
        → AreValuesOf w.root values
        → PlaceRuns w (state pc (over more acc stack) values left) (pc + length (parts_code w.root more c ps))
        (has_distance more ps) stack values acc c (base_of c ps) (located (called w) w.root values c ps left)
    parts_runs whole (elementary v) e t sound bounds more acc z few pc stack has room values left ok =
        let len : pc ≡ pc + 0 = omega arith in
        let same : acc ≡ acc + 0 = omega arith in
        (0, end, stays w _ _ (ap (λ p. state p (over more acc stack) values left) len ∙ ap (λ n. state (pc + 0) (over more n stack) values left) same))
    parts_runs whole unknown e t sound bounds more acc z few pc stack has room values left ok = absurd (cc)
    parts_runs whole (array rs firsts c) e t sound bounds more acc z few pc stack has room values left ok = absurd (cc)
    parts_runs whole (composed n ms chart) e t sound bounds more acc z few pc stack has room values left ok = absurd (cc)
    parts_runs whole (standard b) e t sound bounds more acc z few pc stack has room values left ok = absurd (cc)
    parts_runs (field_part name ps) c e t sound bounds more acc z few pc stack has room values left ok =
        field_run w c name (state pc (over more acc stack) values left) (pc + length (parts_code w.root more (selected_by c name) ps)) acc (base_of (selected_by c name) ps) (has_distance more ps) stack values
        (located (called w) w.root values (selected_by c name) ps left)
        (parts_runs ps (selected_by c name) e t sound (named_bounds c name bounds) more acc z (omega (arith, few, named_few c name)) pc stack has room values left ok)
    parts_runs (element_part line ts ps) (array rs firsts c) e t sound bounds more acc z few pc stack has room values left ok =
        let h = when_true (how_many ts == length rs) (type_of c ps) e t in
        group_run w line ts more acc rs firsts c (values_of (called w) w.root values ts left) pc (base_of c ps) (parts_code w.root true c ps) (has_distance true ps) stack values left (λ k. located (called w) w.root values c ps k) z
        (types_length w.root ts ∙ (Decides-eqb (how_many ts) (length rs)).0 h.0) bounds.0 few (omega (arith, room)) has
        (λ k. terms_run ts pc (over more acc stack) k sound.0 (omega (arith, room, over_length more acc stack)) values left ok)
        (λ pc' d n small k. parts_runs ps c e h.1 sound.1 bounds.1 true (acc + d) (λ q. absurd (cc)) small pc' stack k (omega (arith, room)) values n ok)
    parts_runs (element_part line ts ps) unknown e t sound bounds more acc z few pc stack has room values left ok = absurd (cc)
    parts_runs (element_part line ts ps) (elementary v) e t sound bounds more acc z few pc stack has room values left ok = absurd (cc)
    parts_runs (element_part line ts ps) (composed n ms chart) e t sound bounds more acc z few pc stack has room values left ok = absurd (cc)
    parts_runs (element_part line ts ps) (standard b) e t sound bounds more acc z few pc stack has room values left ok = absurd (cc)

  -- a sound term, with the type of its value
  pub term_runs : (t : Term) (pc : ℕ) (stack : List ℤ) → HasAt w.code pc (term_code w.root t) → IsSoundTerm w.functions w.root t → length stack + term_depth t ≤ w.room
      → (values : Values) (left : ℕ) → AreValuesOf w.root values
      → TermRuns w (state pc stack values left) (pc + length (term_code w.root t)) (term_type w.root t) stack values left (value_of (called w) w.root values t left)
  term_runs t pc stack has sound room values left ok = typed w t _ _ stack values left (value_of (called w) w.root values t left) ok sound refl (term_goes t pc stack has sound room values left ok)
