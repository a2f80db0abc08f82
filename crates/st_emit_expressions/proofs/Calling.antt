-- The code of calls of functions of the text, made from its last instruction to the first.
use Rattle.std.proofs.Common.{◌≡◌, ℕ, suc, ◌+◌, ◌<◌, ◌≤◌, ◌⊎◌, true, false, if◌then◌else◌, List, [], ◌∷◌, ◌++◌, length, take, drop, get_or, reverse, refl, sym, ap, subst, ◌∙◌, arith, inl, inr, append-nil, length-append, drop-cons}
use Rattle.std.specs.Prelude.{Option, Some, None, slice_get, option_map}
use Rattle.std.specs.List.{position}
use Rattle.std.proofs.lemmas.Option.{slice_get_cases}
use Rattle.st_values.specs.Types.{is_same}
use Rattle.st_values.specs.declared.elem.Elem.{Elem}
use Rattle.st_tree.specs.declared.tree.expression.Argument.{Argument}
use Rattle.st_tree.specs.declared.tree.expression.Call.{Call, out-Call}
use Rattle.st_types.specs.Standard.{standard_of}
use Rattle.st_types.specs.declared.standard.Standard.{Standard}
use Rattle.st_meaning.specs.Terms.{Source, call, how_many}
use Rattle.st_meaning.specs.Typing.{Passed, Typed, argument_typed, arguments_from, as_input, call_typed, call_typed_in, fitted, function_called, goes_to, input_at, is_number, nil, passed, source_of, sources_from}
use Rattle.st_meaning.specs.Wholes.{Called, Input, Whole}
use Rattle.st_code.specs.Code.{Line, are_in_order, at, call_code, input_code, inputs_code, plain, term_code, terms_code}
use Rattle.st_code.specs.declared.instr.Instr.TheVariants as instrs
use Rattle.st_emit_expressions.specs.Calls.{passed_in}
use Rattle.st_emit_expressions.specs.Emits.{Emits}
use Rattle.st_emit_expressions.specs.Functions.{sources_in}
use Rattle.st_emit_expressions.proofs.Before.{before_code}
use Rattle.st_emit_expressions.proofs.Destinations.{passed_left, passed_more}
use Rattle.st_emit_expressions.proofs.Emitting.{same_elem}
use Rattle.st_emit_expressions.proofs.Trees.{call_in_is}

-- ---- the values of inputs

input_left : (inputs : List Input) (n : ℕ) → n < length inputs → (i : Input) × (slice_get inputs n ≡ Some i) × (drop n inputs ≡ i ∷ drop (suc n) inputs)
input_left inputs n lt = by (slice_get_cases inputs n).1 where
  by : ((i : Input) × (n < length inputs) × (slice_get inputs n ≡ Some i) × (get_or inputs n i ≡ i)) ⊎ ((length inputs ≤ n) × (slice_get inputs n ≡ None)) → (i : Input) × (slice_get inputs n ≡ Some i) × (drop n inputs ≡ i ∷ drop (suc n) inputs)
  by (inl h) = (h.0, h.2, drop-cons inputs n h.0 lt ∙ ap (λ i. i ∷ drop (suc n) inputs) h.3)
  by (inr h) = absurd (omega (arith, h.0))

pub sources_step : (inputs : List Input) (to : List (Option ℕ)) (count m n : ℕ) (first : Option ℕ) (base code new : List Line) → n + 1 ≡ m → n < length inputs → first ≡ position (is_number n) to
    → code ≡ base ++ reverse (inputs_code count m (sources_from to m (drop m inputs)))
    → ((i : Input) → slice_get inputs n ≡ Some i → new ≡ code ++ reverse (input_code count n (source_of i.initial first)))
    → new ≡ base ++ reverse (inputs_code count n (sources_from to n (drop n inputs)))
sources_step inputs to count m n first base code new e lt f h g =
    let found = input_left inputs n lt in
    let i = found.0 in
    let next : suc n ≡ m = omega (arith, e) in
    let more : 1 + n ≡ m = omega (arith, e) in
    let left : sources_from to n (drop n inputs) ≡ source_of i.initial first ∷ sources_from to m (drop m inputs)
    = ap (sources_from to n) found.2 ∙ ap (λ o. source_of i.initial o ∷ sources_from to (suc n) (drop (suc n) inputs)) (sym f)
    ∙ ap (λ k. source_of i.initial first ∷ sources_from to k (drop k inputs)) next in
    before_code base code new (inputs_code count m (sources_from to m (drop m inputs))) (input_code count n (source_of i.initial first)) h (g i found.1)
    ∙ ap (λ k. base ++ reverse (input_code count n (source_of i.initial first) ++ inputs_code count k (sources_from to m (drop m inputs)))) (sym more)
    ∙ ap (λ l. base ++ reverse (inputs_code count n l)) (sym left)

-- ---- behind the arguments

pub behind_code : (unit u count m inputs : ℕ) (sources : List Source) (base code new : List Line) → u ≡ unit → m ≡ count → are_in_order count 0 sources ≡ false → inputs ≡ length sources
    → code ≡ base ++ plain (instrs.Call u inputs m) → new ≡ code ++ reverse (inputs_code m 0 sources) → new ≡ base ++ reverse (call_code unit count sources)
behind_code unit u count m inputs sources base code new p q o e h g =
    before_code base code new (plain (instrs.Call u inputs m)) (inputs_code m 0 sources) h g
    ∙ ap (λ n. base ++ reverse (inputs_code m 0 sources ++ plain (instrs.Call u n m))) e
    ∙ ap (λ n. base ++ reverse (inputs_code m 0 sources ++ plain (instrs.Call n (length sources) m))) p
    ∙ ap (λ n. base ++ reverse (inputs_code n 0 sources ++ plain (instrs.Call unit (length sources) n))) q
    ∙ ap (λ b. base ++ reverse (if b then plain (instrs.Call unit count 0) else (inputs_code count 0 sources ++ plain (instrs.Call unit (length sources) count)))) (sym o)

-- ---- the arguments

pub one_before : (w : Whole) (all : List Argument) (i j : ℕ) (a : Argument) (name : Option (List ℕ)) (x : Typed) → j + 1 ≡ i → i ≤ length all → a ≡ get_or all j a → argument_typed w a ≡ passed name x
    → length (passed_in w (take i all)) ≡ length (passed_in w (take j all)) + 1
one_before w all i j a name x e le q h =
    let lt : j < length all = omega (arith, e, le) in
    ap (λ k. length (passed_in w (take k all))) (sym e) ∙ ap length (passed_more w all j a lt q ∙ ap (λ l. passed_in w (take j all) ++ l) h)
    ∙ length-append (passed_in w (take j all)) (passed name x)

pub none_before : (w : Whole) (all : List Argument) (i j : ℕ) (a : Argument) → j + 1 ≡ i → i ≤ length all → a ≡ get_or all j a → argument_typed w a ≡ []
    → length (passed_in w (take i all)) ≡ length (passed_in w (take j all))
none_before w all i j a e le q h =
    let lt : j < length all = omega (arith, e, le) in
    ap (λ k. length (passed_in w (take k all))) (sym e) ∙ ap length (passed_more w all j a lt q ∙ ap (λ l. passed_in w (take j all) ++ l) h ∙ append-nil (passed_in w (take j all)))

left_with : (w : Whole) (all : List Argument) (i j : ℕ) (a : Argument) (xs : List Passed) → j + 1 ≡ i → i ≤ length all → a ≡ get_or all j a → argument_typed w a ≡ xs
    → passed_in w (drop j all) ≡ xs ++ passed_in w (drop i all)
left_with w all i j a xs e le q h =
    let lt : j < length all = omega (arith, e, le) in
    passed_left w all j a lt q ∙ ap (λ l. l ++ passed_in w (drop (j + 1) all)) h ∙ ap (λ k. xs ++ passed_in w (drop k all)) e

pub passed_step : (w : Whole) (inputs : List Input) (all : List Argument) (i j place next : ℕ) (a : Argument) (name : Option (List ℕ)) (x : Typed) (base code new : List Line) → j + 1 ≡ i → i ≤ length all
    → a ≡ get_or all j a → argument_typed w a ≡ passed name x → next + 1 ≡ place → code ≡ base ++ reverse (terms_code w.variables (arguments_from inputs place (passed_in w (drop i all))))
    → new ≡ code ++ reverse (term_code w.variables (as_input x (input_at inputs (goes_to inputs next name))))
    → new ≡ base ++ reverse (terms_code w.variables (arguments_from inputs next (passed_in w (drop j all))))
passed_step w inputs all i j place next a name x base code new e le q h p g k =
    let more : suc next ≡ place = omega (arith, p) in
    let here = term_code w.variables (as_input x (input_at inputs (goes_to inputs next name))) in
    before_code base code new (terms_code w.variables (arguments_from inputs place (passed_in w (drop i all)))) here g k
    ∙ ap (λ n. base ++ reverse (here ++ terms_code w.variables (arguments_from inputs n (passed_in w (drop i all))))) (sym more)
    ∙ ap (λ l. base ++ reverse (terms_code w.variables (arguments_from inputs next l))) (sym (left_with w all i j a (passed name x) e le q h))

pub passed_over : (w : Whole) (inputs : List Input) (all : List Argument) (i j place : ℕ) (a : Argument) (base code : List Line) → j + 1 ≡ i → i ≤ length all
    → a ≡ get_or all j a → argument_typed w a ≡ [] → code ≡ base ++ reverse (terms_code w.variables (arguments_from inputs place (passed_in w (drop i all))))
    → code ≡ base ++ reverse (terms_code w.variables (arguments_from inputs place (passed_in w (drop j all))))
passed_over w inputs all i j place a base code e le q h g =
    g ∙ ap (λ l. base ++ reverse (terms_code w.variables (arguments_from inputs place l))) (sym (left_with w all i j a [] e le q h))

-- ---- calls

text_call : (w : Whole) (c : Call) (name : List ℕ) → name ≡ (out-Call c).name.spelling → standard_of name ≡ None
    → call_typed_in w c ≡ function_called (out-Call c).name.position.line (w.functions name) (passed_in w (out-Call c).arguments)
text_call w c name e h =
    let x = out-Call c in
    call_in_is w c ∙ ap (λ n. call_typed w x.name.position.line n (standard_of n) (passed_in w x.arguments)) (sym e)
    ∙ ap (λ o. call_typed w x.name.position.line name o (passed_in w x.arguments)) h

pub text_own : (w : Whole) (c : Call) (name : List ℕ) (o : Option Standard) (found : Option Elem) → name ≡ (out-Call c).name.spelling → o ≡ standard_of name → o ≡ None
    → found ≡ option_map (λ (f : Called). f.result) (w.functions name) → found ≡ (call_typed_in w c).own
text_own w c name o found e s h g =
    g ∙ by (w.functions name) ∙ sym (ap (λ (x : Typed). x.own) (text_call w c name e (sym s ∙ h))) where
      by : (f : Option Called) → option_map (λ (f : Called). f.result) f ≡ (function_called (out-Call c).name.position.line f (passed_in w (out-Call c).arguments)).own
      by None = refl
      by (Some f) = refl

known_call : (w : Whole) (t : Elem) (c : Call) (name : List ℕ) (f : Called) → name ≡ (out-Call c).name.spelling → standard_of (out-Call c).name.spelling ≡ None → w.functions name ≡ Some f
    → (call_typed_in w c).as_type t
    ≡ fitted f.result (call (out-Call c).name.position.line f.number f.result (arguments_from f.inputs 0 (passed_in w (out-Call c).arguments)) (sources_in w f (out-Call c).arguments)) t
known_call w t c name f e h g =
    ap (λ (x : Typed). x.as_type t) (text_call w c name e (ap standard_of e ∙ h) ∙ ap (λ o. function_called (out-Call c).name.position.line o (passed_in w (out-Call c).arguments)) g)

args_number : (inputs : List Input) (place : ℕ) (xs : List Passed) → how_many (arguments_from inputs place xs) ≡ length xs
args_number inputs place [] = refl
args_number inputs place (x ∷ xs) = omega (arith, args_number inputs (suc place) xs)

pub function_emits : (w : Whole) (t : Elem) (c : Call) (name : List ℕ) (f : Called) (seen : List Argument) (old behind args new : List Line) → name ≡ (out-Call c).name.spelling
    → standard_of (out-Call c).name.spelling ≡ None → w.functions name ≡ Some f → is_same f.result t ≡ true → seen ≡ (out-Call c).arguments
    → behind ≡ old ++ reverse (call_code f.number (length (passed_in w seen)) (sources_in w f seen))
    → args ≡ behind ++ reverse (terms_code w.variables (arguments_from f.inputs 0 (passed_in w seen)))
    → new ≡ args ++ record { instr = instrs.Step; line = (out-Call c).name.position.line } ∷ []
    → Emits w.variables t ((call_typed_in w c).as_type t) old new
function_emits w t c name f seen old behind args new e h g r s b a n =
    let line = (out-Call c).name.position.line in
    let term = λ (l : List Argument). call line f.number f.result (arguments_from f.inputs 0 (passed_in w l)) (sources_in w f l) in
    let ts = arguments_from f.inputs 0 (passed_in w seen) in
    let entry = call_code f.number (length (passed_in w seen)) (sources_in w f seen) in
    let is : (call_typed_in w c).as_type t ≡ term seen = known_call w t c name f e h g ∙ ap (λ x. if x then term (out-Call c).arguments else nil t) r ∙ ap term (sym s) in
    let front = before_code old behind args entry (terms_code w.variables ts) b a in
    let code : new ≡ old ++ reverse (term_code w.variables (term seen))
    = before_code old args new (terms_code w.variables ts ++ entry) (at line instrs.Step) front n
    ∙ ap (λ k. old ++ reverse (at line instrs.Step ++ (terms_code w.variables ts ++ call_code f.number k (sources_in w f seen)))) (sym (args_number f.inputs 0 (passed_in w seen))) in
    subst (λ x. Emits w.variables t x old new) (sym is) (record { code = code; due = same_elem f.result t r })
