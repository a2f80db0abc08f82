-- The code of calls of functions of the text (2.5.1, 3.3.1).
use Rattle.std.proofs.Common.{◌≡◌, ℕ, zero, suc, ◌+◌, ◌-◌, ◌<◌, ◌≤◌, ◌==◌, ◌&&◌, Bool, true, false, if◌then◌else◌, nat_lt, ℤ, pos, List, [], ◌∷◌, ◌++◌, drop, length, map, get_or, reverse, take, Some, refl, sym, ap, ◌∙◌, subst, arith, append_assoc, length-append}
use Rattle.std.specs.Prelude.{slice_get}
use Rattle.std.proofs.Math.Seq.{drop-append_seam, drop-drop, take-append_seam}
use Rattle.std.proofs.lemmas.Bool.{and_from, and_parts, lt-ltb}
use Rattle.std.proofs.lemmas.Bool.Decides.{Decides-eqb}
use Rattle.std.proofs.lemmas.List.{drop_all, get_or-append-add, length-reverse, reverse-append, reverse-reverse}
use Rattle.std.proofs.lemmas.Option.{slice_get_within}
use Rattle.st_values.specs.declared.elem.Elem.{Elem}
use Rattle.st_values.specs.declared.value.Value.{Value}
use Rattle.st_operators.specs.Laws.{IsOf}
use Rattle.st_meaning.specs.Meaning.{Values, inputs_from, no_value, value_from}
use Rattle.st_meaning.specs.Operations.{Answer, gives, stops, answered_in, then_with, with_step}
use Rattle.st_meaning.specs.Sound.{AreInputsOf, AreSourcesOf, IsCall, IsSourceOf}
use Rattle.st_meaning.specs.Statements.{faulted}
use Rattle.st_meaning.specs.Terms.{Source, written, left_out}
use Rattle.st_meaning.specs.Wholes.{Called, Input}
use Rattle.st_code.specs.Code.{Line, are_in_order, at, call_code, cell_of, inputs_code, plain}
use Rattle.st_code.specs.Depth.{call_depth}
use Rattle.st_code.specs.Machine.{After, State, act, answered, are_cells_in, calling, goes, is_cell_of, put, state, stuck, values_in}
use Rattle.st_code.specs.declared.instr.Instr.{Instr}
use Rattle.st_code.specs.declared.instr.Instr.TheVariants.{Push, Step, Pick, Call}
use Rattle.st_code.proofs.Cells.{is_cell_of_value, value_back}
use Rattle.st_code.proofs.Steps.{AreOf, HasAt, Leads, TermGoes, TermsRun, World, called, halt, has_back, has_front, if_below, if_true, leads_on, line_of, onto, stays, step}

-- ---- cells

abbrev pub cells : Values → List ℤ
cells xs = map (λ x. cell_of x.bits) xs

-- the first of what is turned round comes next to what follows
pub turned_front : (c : ℤ) (cs rest : List ℤ) → reverse (c ∷ cs) ++ rest ≡ reverse cs ++ (c ∷ rest)
turned_front c cs rest = ap (λ l. l ++ rest) (reverse-append (c ∷ []) cs) ∙ append_assoc (reverse cs) (c ∷ []) rest

onto_is : (xs : Values) (stack : List ℤ) → onto xs stack ≡ reverse (cells xs) ++ stack
onto_is [] stack = refl
onto_is (x ∷ xs) stack = onto_is xs (cell_of x.bits ∷ stack) ∙ sym (turned_front (cell_of x.bits) (cells xs) stack)

pub top_cells : (cs rest : List ℤ) → reverse (take (length cs) (reverse cs ++ rest)) ≡ cs
top_cells cs rest =
    ap (λ n. reverse (take n (reverse cs ++ rest))) (sym (length-reverse cs)) ∙ ap (λ l. reverse l) (take-append_seam (reverse cs) rest) ∙ reverse-reverse cs

pub below_cells : (cs rest : List ℤ) (below : ℕ) → drop (length cs + below) (reverse cs ++ rest) ≡ drop below rest
below_cells cs rest below =
    sym (drop-drop below (length cs) (reverse cs ++ rest)) ∙ ap (λ n. drop below (drop n (reverse cs ++ rest))) (sym (length-reverse cs))
    ∙ ap (λ l. drop below l) (drop-append_seam (reverse cs) rest)

cells_length : (xs : Values) → length (cells xs) ≡ length xs
cells_length [] = refl
cells_length (x ∷ xs) = ap suc (cells_length xs)

-- so many cells below the top stands what stood there before
onto_past : (xs : Values) (stack : List ℤ) (k : ℕ) → get_or (onto xs stack) (length xs + k) (pos 0) ≡ get_or stack k (pos 0)
onto_past [] stack k = ap (λ n. get_or stack n (pos 0)) (let z : 0 + k ≡ k = omega arith in z)
onto_past (x ∷ xs) stack k =
    let z : suc (length xs) + k ≡ length xs + suc k = omega arith in
    ap (λ n. get_or (onto xs (cell_of x.bits ∷ stack)) n (pos 0)) z ∙ onto_past xs (cell_of x.bits ∷ stack) (suc k)

-- the value of a place, counted from the top
picked : (xs : Values) (stack : List ℤ) (place i : ℕ) → i + 1 + place ≡ length xs → get_or (onto xs stack) i (pos 0) ≡ cell_of (get_or xs place no_value).bits
picked [] stack place i h = absurd (omega (arith, h))
picked (x ∷ xs) stack zero i h =
    let z : i ≡ length xs + 0 = omega (arith, h) in
    ap (λ n. get_or (onto xs (cell_of x.bits ∷ stack)) n (pos 0)) z ∙ onto_past xs (cell_of x.bits ∷ stack) 0
picked (x ∷ xs) stack (suc place) i h = picked xs (cell_of x.bits ∷ stack) place i (omega (arith, h))

-- ---- types

cells_are : (es : List Elem) (xs : Values) → AreOf es xs → are_cells_in es (cells xs) ≡ true
cells_are [] [] h = refl
cells_are [] (x ∷ xs) h = elim h [ ]
cells_are (e ∷ es) [] h = elim h [ ]
cells_are (e ∷ es) (x ∷ xs) h = and_from (is_cell_of e (cell_of x.bits)) (are_cells_in es (cells xs)) (is_cell_of_value e x h.0) (cells_are es xs h.1)

values_back : (es : List Elem) (xs : Values) → AreOf es xs → values_in es (cells xs) ≡ xs
values_back [] [] h = refl
values_back [] (x ∷ xs) h = elim h [ ]
values_back (e ∷ es) [] h = elim h [ ]
values_back (e ∷ es) (x ∷ xs) h = ap (λ v. v ∷ values_in es (cells xs)) (value_back e x h.0) ∙ ap (λ vs. x ∷ vs) (values_back es xs h.1)

pub as_many : (es : List Elem) (xs : Values) → AreOf es xs → length xs ≡ length es
as_many [] [] h = refl
as_many [] (x ∷ xs) h = elim h [ ]
as_many (e ∷ es) [] h = elim h [ ]
as_many (e ∷ es) (x ∷ xs) h = ap suc (as_many es xs h.1)

abbrev types_of : List Input → List Elem
types_of inputs = map (λ i. i.initial.elem) inputs

inputs_are : (inputs : List Input) (xs : Values) → AreInputsOf inputs xs → AreOf (types_of inputs) xs
inputs_are [] [] h = tt
inputs_are [] (x ∷ xs) h = elim h [ ]
inputs_are (i ∷ is) [] h = elim h [ ]
inputs_are (i ∷ is) (x ∷ xs) h = (h.0, inputs_are is xs h.1)

-- ---- where the values of inputs are from

value_at_place : (es : List Elem) (xs : Values) → AreOf es xs → (place : ℕ) (e : Elem) → slice_get es place ≡ Some e → IsOf e (get_or xs place no_value)
value_at_place [] xs h place e at = cc
value_at_place (d ∷ es) [] h place e at = elim h [ ]
value_at_place (d ∷ es) (x ∷ xs) h zero e at = let same : d ≡ e = cc in subst (λ t. IsOf t x) same h.0
value_at_place (d ∷ es) (x ∷ xs) h (suc place) e at = value_at_place es xs h.1 place e at

source_given : (es : List Elem) (e : Elem) (s : Source) (xs : Values) → AreOf es xs → IsSourceOf es e s → IsOf e (value_from xs s)
source_given es e (written place) xs are sound = value_at_place es xs are place e sound
source_given es e (left_out v) xs are sound = sound

inputs_given : (es : List Elem) (is : List Input) (sources : List Source) (xs : Values) → AreOf es xs → AreSourcesOf es is sources → AreInputsOf is (inputs_from xs sources)
inputs_given es [] [] xs are sound = tt
inputs_given es [] (s ∷ ss) xs are sound = elim sound [ ]
inputs_given es (i ∷ is) [] xs are sound = elim sound [ ]
inputs_given es (i ∷ is) (s ∷ ss) xs are sound = (source_given es i.initial.elem s xs are sound.0, inputs_given es is ss xs are sound.1)

-- there are arguments at these places
abbrev IsThere : ℕ → Source → Type 0
IsThere n (written place) = place < n
IsThere n (left_out v) = Unit {0}

abbrev AreThere : ℕ → List Source → Type 0
AreThere n [] = Unit {0}
AreThere n (s ∷ ss) = IsThere n s × AreThere n ss

source_there : (es : List Elem) (e : Elem) (s : Source) → IsSourceOf es e s → IsThere (length es) s
source_there es e (written place) sound = slice_get_within es place e sound
source_there es e (left_out v) sound = tt

sources_there : (es : List Elem) (is : List Input) (sources : List Source) → AreSourcesOf es is sources → AreThere (length es) sources
sources_there es [] [] sound = tt
sources_there es [] (s ∷ ss) sound = elim sound [ ]
sources_there es (i ∷ is) [] sound = elim sound [ ]
sources_there es (i ∷ is) (s ∷ ss) sound = (source_there es i.initial.elem s sound.0, sources_there es is ss sound.1)

-- ---- arguments that are the inputs themselves

pub order_few : (n first : ℕ) (sources : List Source) → are_in_order n first sources ≡ true → first + length sources ≡ n
order_few n first [] h = let same : first ≡ n = (Decides-eqb first n).0 h in omega (arith, same)
order_few n first (written place ∷ ss) h =
    let rest = order_few n (1 + first) ss (and_parts (place == first) (are_in_order n (1 + first) ss) h).1 in omega (arith, rest)
order_few n first (left_out v ∷ ss) h = cc

from_place : (xs : Values) (i : ℕ) → i < length xs → get_or xs i no_value ∷ drop (1 + i) xs ≡ drop i xs
from_place [] i h = absurd (omega (arith, h))
from_place (x ∷ xs) zero h = refl
from_place (x ∷ xs) (suc i) h =
    let z : 1 + suc i ≡ suc (1 + i) = omega arith in
    ap (λ n. get_or xs i no_value ∷ drop n (x ∷ xs)) z ∙ from_place xs i (omega (arith, h))

in_order : (n : ℕ) (xs : Values) → length xs ≡ n → (first : ℕ) (sources : List Source) → are_in_order n first sources ≡ true → inputs_from xs sources ≡ drop first xs
in_order n xs many first [] h =
    let same : first ≡ n = (Decides-eqb first n).0 h in
    sym (drop_all first xs (omega (arith, same, many)))
in_order n xs many first (written place ∷ ss) h =
    let both = and_parts (place == first) (are_in_order n (1 + first) ss) h in
    let same : place ≡ first = (Decides-eqb place first).0 both.0 in
    let few : first < length xs = omega (arith, many, order_few n first (written place ∷ ss) h) in
    ap (λ p. get_or xs p no_value ∷ inputs_from xs ss) same ∙ ap (λ vs. get_or xs first no_value ∷ vs) (in_order n xs many (1 + first) ss both.1) ∙ from_place xs first few
in_order n xs many first (left_out v ∷ ss) h = cc

module _ (w : World) where
  -- ---- one after the other

  pub goes_after : (s t : State) (pc : ℕ) (stack : List ℤ) (values : Values) (a : Answer Value) → Leads w s t → TermGoes w t pc stack values a → TermGoes w s pc stack values a
  goes_after s t pc stack values (gives v n) l r = leads_on w s t _ l r
  goes_after s t pc stack values (stops f) l r = l.by (faulted f) r

  step_then : (line pc pc' : ℕ) (stack : List ℤ) (values : Values) (left : ℕ) (go : ℕ → Answer Value) → slice_get w.code pc ≡ Some (line_of line Step)
      → ((n : ℕ) → TermGoes w (state (pc + 1) stack values n) pc' stack values (go n)) → TermGoes w (state pc stack values left) pc' stack values (with_step line left go)
  step_then line pc pc' stack values zero go h r = halt w Step line pc stack values zero _ h refl
  step_then line pc pc' stack values (suc n) go h r =
      goes_after (state pc stack values (suc n)) (state (pc + 1) stack values n) pc' stack values (go n) (step w Step line pc stack values (suc n) _ h refl) (r n)

  values_then : (s : State) (pc pc' : ℕ) (es : List Elem) (under stack : List ℤ) (values : Values) (a : Answer Values) (go : Values → ℕ → Answer Value)
      → TermsRun w s pc es under values a → ((xs : Values) (n : ℕ) → AreOf es xs → TermGoes w (state pc (onto xs under) values n) pc' stack values (go xs n))
      → TermGoes w s pc' stack values (then_with a go)
  values_then s pc pc' es under stack values (gives xs n) go r further = goes_after s (state pc (onto xs under) values n) pc' stack values (go xs n) r.1 (further xs n r.0)
  values_then s pc pc' es under stack values (stops f) go r further = r

  pub answer_goes : (s : State) (pc : ℕ) (stack : List ℤ) (values : Values) (a : Answer Value) (line : ℕ) (i : Instr) (top : List ℤ) (at' left : ℕ) → Leads w s (state at' top values left)
      → slice_get w.code at' ≡ Some (line_of line i) → act w.env w.room i line at' top values left ≡ answered a at' stack values → at' + 1 ≡ pc → TermGoes w s pc stack values a
  answer_goes s pc stack values (gives v n) line i top at' left l h e q =
      leads_on w s (state at' top values left) _ l (step w i line at' top values left _ h (e ∙ ap (λ p. goes (state p (cell_of v.bits ∷ stack) values n)) q))
  answer_goes s pc stack values (stops f) line i top at' left l h e q = l.by (faulted f) (halt w i line at' top values left _ h e)

  -- ---- the call

  call_run : (s : State) (pc unit n below : ℕ) (f : Called) (xs : Values) (rest stack : List ℤ) (values : Values) (left : ℕ) → w.functions unit ≡ Some f
      → AreInputsOf f.inputs xs → length xs ≡ n → drop below rest ≡ stack → length stack < w.room → Leads w s (state pc (reverse (cells xs) ++ rest) values left)
      → slice_get w.code pc ≡ Some (line_of 0 (Call unit n below)) → TermGoes w s (pc + 1) stack values (answered_in unit (called w unit xs left))
  call_run s pc unit n below f xs rest stack values left known given many under room l h =
      let cs = cells xs in
      let top = reverse cs ++ rest in
      let es = types_of f.inputs in
      let run = (w.env.functions unit).run in
      let are = inputs_are f.inputs xs given in
      let so : List ℤ → List ℤ → After = (λ taken others.
      if are_cells_in es taken && nat_lt (length others) w.room then answered (answered_in unit (run (values_in es taken) left)) pc others values else stuck) in
      let size : n ≡ length cs = sym many ∙ sym (cells_length xs) in
      let acts : act w.env w.room (Call unit n below) 0 pc top values left ≡ answered (answered_in unit (run xs left)) pc stack values =
      ap (λ ts. calling (record { inputs = ts; run = run }) w.room unit n below pc top values left) (w.have_types unit f known)
      ∙ ap (λ m. so (reverse (take m top)) (drop (m + below) top)) size
      ∙ ap (λ taken. so taken (drop (length cs + below) top)) (top_cells cs rest)
      ∙ ap (λ others. so cs others) (below_cells cs rest below ∙ under)
      ∙ if_true (are_cells_in es cs && nat_lt (length stack) w.room) (answered (answered_in unit (run (values_in es cs) left)) pc stack values) stuck
      (and_from (are_cells_in es cs) (nat_lt (length stack) w.room) (cells_are es xs are) (lt-ltb (length stack) w.room room))
      ∙ ap (λ vs. answered (answered_in unit (run vs left)) pc stack values) (values_back es xs are) in
      answer_goes s (pc + 1) stack values (answered_in unit (run xs left)) 0 (Call unit n below) top pc left l h acts refl

  -- ---- inputs above the arguments

  module _ (xs : Values) (stack : List ℤ) (n : ℕ) (many : length xs ≡ n) (values : Values) (left : ℕ) where
    abbrev under : List ℤ
    under = onto xs stack

    push_run : (cell : ℤ) (pc : ℕ) (before : List ℤ) → length before < w.room → slice_get w.code pc ≡ Some (line_of 0 (Push cell))
        → Leads w (state pc before values left) (state (pc + 1) (cell ∷ before) values left)
    push_run cell pc before room h = step w (Push cell) 0 pc before values left _ h (if_below (length before) w.room (goes (state (pc + 1) (cell ∷ before) values left)) stuck room)

    pick_run : (place pc : ℕ) (before : List ℤ) → place < n → length (before ++ under) < w.room → length under ≡ n + length stack
        → slice_get w.code pc ≡ Some (line_of 0 (Pick (length before + (n - 1 - place))))
        → Leads w (state pc (before ++ under) values left) (state (pc + 1) (cell_of (get_or xs place no_value).bits ∷ (before ++ under)) values left)
    pick_run place pc before few room long h =
        let i = n - 1 - place in
        let all = before ++ under in
        let d = length before + i in
        let inside : d < length all = omega (arith, few, long, length-append before under) in
        let found : get_or all d (pos 0) ≡ cell_of (get_or xs place no_value).bits =
        get_or-append-add before under i (pos 0) ∙ picked xs stack place i (omega (arith, few, many)) in
        step w (Pick d) 0 pc all values left _ h
        (if_below d (length all) (put w.room pc (get_or all d (pos 0)) all values left) stuck inside
        ∙ if_below (length all) w.room (goes (state (pc + 1) (get_or all d (pos 0) ∷ all) values left)) stuck room
        ∙ ap (λ c. goes (state (pc + 1) (c ∷ all) values left)) found)

    inputs_run : length under ≡ n + length stack → (sources : List Source) (before : List ℤ) (j pc : ℕ) → length before ≡ j → AreThere n sources
        → length before + length sources + length under ≤ w.room → HasAt w.code pc (inputs_code n j sources)
        → Leads w (state pc (before ++ under) values left)
        (state (pc + length (inputs_code n j sources)) (reverse (cells (inputs_from xs sources)) ++ (before ++ under)) values left)
    inputs_run long [] before j pc size there room has =
        let len : pc ≡ pc + 0 = omega arith in
        stays w _ _ (ap (λ p. state p (before ++ under) values left) len)
    inputs_run long (written place ∷ ss) before j pc size there room has =
        let cell = cell_of (get_or xs place no_value).bits in
        let code = inputs_code n (1 + j) ss in
        let len : pc + 1 + length code ≡ pc + length (inputs_code n j (written place ∷ ss)) = omega arith in
        let cs = cells (inputs_from xs ss) in
        let here = subst (λ k. slice_get w.code pc ≡ Some (line_of 0 (Pick (k + (n - 1 - place))))) (sym size) has.0 in
        leads_on w _ (state (pc + 1) ((cell ∷ before) ++ under) values left) _
        (pick_run place pc before there.0 (omega (arith, room, length-append before under)) long here)
        (leads_on w _ (state (pc + 1 + length code) (reverse cs ++ ((cell ∷ before) ++ under)) values left) _
        (inputs_run long ss (cell ∷ before) (1 + j) (pc + 1) (omega (arith, size)) there.1 (omega (arith, room)) has.1)
        (stays w _ _ (ap (λ p. state p (reverse cs ++ ((cell ∷ before) ++ under)) values left) len
        ∙ ap (λ l. state (pc + length (inputs_code n j (written place ∷ ss))) l values left) (sym (turned_front cell cs (before ++ under))))))
    inputs_run long (left_out v ∷ ss) before j pc size there room has =
        let cell = cell_of v.bits in
        let code = inputs_code n (1 + j) ss in
        let len : pc + 1 + length code ≡ pc + length (inputs_code n j (left_out v ∷ ss)) = omega arith in
        let cs = cells (inputs_from xs ss) in
        leads_on w _ (state (pc + 1) ((cell ∷ before) ++ under) values left) _
        (push_run cell pc (before ++ under) (omega (arith, room, length-append before under)) has.0)
        (leads_on w _ (state (pc + 1 + length code) (reverse cs ++ ((cell ∷ before) ++ under)) values left) _
        (inputs_run long ss (cell ∷ before) (1 + j) (pc + 1) (omega (arith, size)) there.1 (omega (arith, room)) has.1)
        (stays w _ _ (ap (λ p. state p (reverse cs ++ ((cell ∷ before) ++ under)) values left) len
        ∙ ap (λ l. state (pc + length (inputs_code n j (left_out v ∷ ss))) l values left) (sym (turned_front cell cs (before ++ under))))))

  onto_long : (xs : Values) (stack : List ℤ) → length (onto xs stack) ≡ length xs + length stack
  onto_long [] stack = let z : length stack ≡ 0 + length stack = omega arith in z
  onto_long (x ∷ xs) stack = onto_long xs (cell_of x.bits ∷ stack) ∙ (let z : length xs + suc (length stack) ≡ suc (length xs) + length stack = omega arith in z)

  inputs_long : (xs : Values) (sources : List Source) → length (inputs_from xs sources) ≡ length sources
  inputs_long xs [] = refl
  inputs_long xs (s ∷ ss) = ap suc (inputs_long xs ss)

  -- the arguments stand on the stack
  called_by : (b : Bool) (unit n : ℕ) (result : Elem) (es : List Elem) (sources : List Source) (xs : Values) (stack : List ℤ) (values : Values) (left pc : ℕ) → are_in_order n 0 sources ≡ b
      → length es ≡ n → AreOf es xs → IsCall w.functions unit result es sources → length stack + (if b then 1 else (1 + n + length sources)) ≤ w.room
      → HasAt w.code pc (if b then plain (Call unit n 0) else (inputs_code n 0 sources ++ plain (Call unit (length sources) n)))
      → TermGoes w (state pc (onto xs stack) values left)
      (pc + length (if b then plain (Call unit n 0) else (inputs_code n 0 sources ++ plain (Call unit (length sources) n)))) stack values
      (answered_in unit (called w unit (inputs_from xs sources) left))
  called_by true unit n result es sources xs stack values left pc order size are is room has =
      let many : length xs ≡ n = as_many es xs are ∙ size in
      let same : inputs_from xs sources ≡ xs = in_order n xs many 0 sources order in
      let given = subst (λ vs. AreInputsOf is.function.inputs vs) same (inputs_given es is.function.inputs sources xs are is.inputs) in
      subst (λ vs. TermGoes w (state pc (onto xs stack) values left) (pc + 1) stack values (answered_in unit (called w unit vs left))) (sym same)
      (call_run (state pc (onto xs stack) values left) pc unit n 0 is.function xs stack stack values left is.known given many refl (omega (arith, room))
      (stays w _ _ (ap (λ l. state pc l values left) (onto_is xs stack))) has.0)
  called_by false unit n result es sources xs stack values left pc order size are is room has =
      let many : length xs ≡ n = as_many es xs are ∙ size in
      let under = onto xs stack in
      let long : length under ≡ n + length stack = onto_long xs stack ∙ ap (λ m. m + length stack) many in
      let vs = inputs_from xs sources in
      let given = inputs_given es is.function.inputs sources xs are is.inputs in
      let there = subst (λ m. AreThere m sources) size (sources_there es is.function.inputs sources is.inputs) in
      let ci = inputs_code n 0 sources in
      let last = plain (Call unit (length sources) n) in
      let len : pc + length ci + 1 ≡ pc + length (ci ++ last) = omega (arith, length-append ci last) in
      let left_below : drop n under ≡ stack =
      ap (λ l. drop n l) (onto_is xs stack) ∙ ap (λ m. drop m (reverse (cells xs) ++ stack)) (sym many ∙ sym (cells_length xs) ∙ sym (length-reverse (cells xs)))
      ∙ drop-append_seam (reverse (cells xs)) stack in
      subst (λ p. TermGoes w (state pc under values left) p stack values (answered_in unit (called w unit vs left))) len
      (call_run (state pc under values left) (pc + length ci) unit (length sources) n is.function vs under stack values left is.known given (inputs_long xs sources) left_below (omega (arith, room))
      (inputs_run xs stack n many values left long sources [] 0 pc refl there (omega (arith, room, long)) (has_front w.code pc ci last has))
      (has_back w.code pc ci last has).0)

  -- a step, the arguments, and the call
  pub call_goes : (line unit : ℕ) (result : Elem) (n : ℕ) (es : List Elem) (sources : List Source) (ct : List Line) (arguments : ℕ → Answer Values) (pc : ℕ) (stack : List ℤ) (values : Values)
      (left : ℕ) → length es ≡ n → IsCall w.functions unit result es sources → length stack + call_depth n sources ≤ w.room
      → HasAt w.code pc (at line Step ++ (ct ++ call_code unit n sources))
      → ((m : ℕ) → HasAt w.code (pc + 1) ct → TermsRun w (state (pc + 1) stack values m) (pc + 1 + length ct) es stack values (arguments m))
      → TermGoes w (state pc stack values left) (pc + length (at line Step ++ (ct ++ call_code unit n sources))) stack values
      (with_step line left (λ m. then_with (arguments m) (λ xs k. answered_in unit (called w unit (inputs_from xs sources) k))))
  call_goes line unit result n es sources ct arguments pc stack values left size is room has ra =
      let cs = call_code unit n sources in
      let q = pc + 1 + length ct in
      let len : q + length cs ≡ pc + length (at line Step ++ (ct ++ cs)) = omega (arith, length-append ct cs) in
      let after : Values → ℕ → Answer Value = (λ xs k. answered_in unit (called w unit (inputs_from xs sources) k)) in
      subst (λ p. TermGoes w (state pc stack values left) p stack values (with_step line left (λ m. then_with (arguments m) after))) len
      (step_then line pc (q + length cs) stack values left (λ m. then_with (arguments m) after) has.0
      (λ m. values_then (state (pc + 1) stack values m) q (q + length cs) es stack stack values (arguments m) after (ra m (has_front w.code (pc + 1) ct cs has.1))
      (λ xs k are. called_by (are_in_order n 0 sources) unit n result es sources xs stack values k q refl size are is room (has_back w.code (pc + 1) ct cs has.1))))
