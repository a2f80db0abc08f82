-- The code of charts, made from its last instruction to the first.
use Rattle.std.proofs.Common.{◌≡◌, ℕ, suc, ◌+◌, ◌-◌, ◌<◌, pos, List, ◌∷◌, ◌++◌, length, map, drop, reverse, refl, sym, ap, ◌∙◌, arith, append_assoc, length-append, drop-cons}
use Rattle.std.specs.Prelude.{Option, Some, None, option_map, slice_get}
use Rattle.std.proofs.lemmas.Option.{get_or_from_slice_get, slice_get_within}
use Rattle.st_values.specs.declared.elem.Elem.TheVariants as elems
use Rattle.st_tree.specs.declared.tree.unit.Transition.{Transition}
use Rattle.st_types.specs.Compositions.{Composition}
use Rattle.st_meaning.specs.Sketched.{variable_named}
use Rattle.st_meaning.specs.Terms.{field_part, whole}
use Rattle.st_meaning.specs.Typing.{condition}
use Rattle.st_meaning.specs.Wholes.{Whole}
use Rattle.st_code.specs.Code.{Line, at, base_of, plain, term_code, variables_code}
use Rattle.st_code.specs.declared.instr.Instr.TheVariants.{Ask, GoOn, Push, Put, SkipUnless, Step}
use Rattle.st_emit.specs.Charts.{test_code}
use Rattle.st_emit_expressions.proofs.Before.{before_code, grown}

-- ---- variables

variables_left : (root : Composition) (names : List (List ℕ)) (i j : ℕ) (name : List ℕ) → j + 1 ≡ i → slice_get names j ≡ Some name
    → map (variable_named root) (drop j names) ≡ variable_named root name ∷ map (variable_named root) (drop i names)
variables_left root names i j name e h =
    let lt : j < length names = slice_get_within names j name h in
    let next : suc j ≡ i = omega arith in
    ap (map (variable_named root)) (drop-cons names j name lt ∙ ap (λ y. y ∷ drop (suc j) names) (get_or_from_slice_get names j name name h) ∙ ap (λ k. name ∷ drop k names) next)

pub variable_step : (root : Composition) (names : List (List ℕ)) (i j : ℕ) (name : List ℕ) (found : Option ℕ) (leaf : ℕ) (base code new : List Line) → j + 1 ≡ i → slice_get names j ≡ Some name
    → found ≡ option_map (λ n. base_of root (field_part n whole)) (variable_named root name) → found ≡ Some leaf
    → code ≡ base ++ reverse (variables_code root (map (variable_named root) (drop i names))) → new ≡ code ++ reverse (plain (Put elems.Bool leaf))
    → new ≡ base ++ reverse (variables_code root (map (variable_named root) (drop j names)))
variable_step root names i j name found leaf base code new e q f s h g =
    let more = map (variable_named root) (drop i names) in
    before_code base code new (variables_code root more) (plain (Put elems.Bool leaf)) h g ∙ ap (λ l. base ++ reverse l) (by (variable_named root name) (sym f ∙ s))
    ∙ ap (λ y. base ++ reverse (variables_code root y)) (sym (variables_left root names i j name e q)) where
      by : (o : Option (List ℕ)) → option_map (λ n. base_of root (field_part n whole)) o ≡ Some leaf
          → plain (Put elems.Bool leaf) ++ variables_code root (map (variable_named root) (drop i names)) ≡ variables_code root (o ∷ map (variable_named root) (drop i names))
      by None k = absurd (cc)
      by (Some n) k =
          let is : base_of root (field_part n whole) ≡ leaf = cc in ap (λ m. plain (Put elems.Bool m) ++ variables_code root (map (variable_named root) (drop i names))) (sym is)

pub variable_over : (root : Composition) (names : List (List ℕ)) (i j : ℕ) (name : List ℕ) (found : Option ℕ) (base code : List Line) → j + 1 ≡ i → slice_get names j ≡ Some name
    → found ≡ option_map (λ n. base_of root (field_part n whole)) (variable_named root name) → found ≡ None
    → code ≡ base ++ reverse (variables_code root (map (variable_named root) (drop i names)))
    → code ≡ base ++ reverse (variables_code root (map (variable_named root) (drop j names)))
variable_over root names i j name found base code e q f s h =
    h ∙ ap (λ l. base ++ reverse l) (by (variable_named root name) (sym f ∙ s)) ∙ ap (λ y. base ++ reverse (variables_code root y)) (sym (variables_left root names i j name e q)) where
      by : (o : Option (List ℕ)) → option_map (λ n. base_of root (field_part n whole)) o ≡ None
          → variables_code root (map (variable_named root) (drop i names)) ≡ variables_code root (o ∷ map (variable_named root) (drop i names))
      by None k = refl
      by (Some n) k = absurd (cc)

-- ---- transitions

pub test_done : (w : Whole) (t : Transition) (unit leaf number d : ℕ) (base c1 c2 c3 c4 c5 c6 : List Line) → c1 ≡ base ++ plain (Push (pos 0)) → c2 ≡ c1 ++ plain (GoOn 1) → c3 ≡ c2 ++ reverse (term_code w.variables (condition w t.condition))
    → c4 ≡ c3 ++ at t.position.line Step → d ≡ length c4 - length c1 → c5 ≡ c4 ++ plain (SkipUnless d) → c6 ≡ c5 ++ plain (Ask unit leaf number) → c6 ≡ base ++ reverse (test_code w unit leaf number t)
test_done w t unit leaf number d base c1 c2 c3 c4 c5 c6 e1 e2 e3 e4 h e5 e6 =
    let term = term_code w.variables (condition w t.condition) in
    let body = at t.position.line Step ++ term in
    let l2 : length c2 ≡ length c1 + 1 = grown c1 c2 (plain (GoOn 1)) e2 in
    let l3 : length c3 ≡ length c2 + length term = grown c2 c3 term e3 in
    let l4 : length c4 ≡ length c3 + 1 = grown c3 c4 (at t.position.line Step) e4 in
    let size : d ≡ length body + 1 = omega (arith, h, l2, l3, l4, length-append (at t.position.line Step) term) in
    let f2 = before_code base c1 c2 (plain (Push (pos 0))) (plain (GoOn 1)) e1 e2 in
    let f3 = before_code base c2 c3 (plain (GoOn 1) ++ plain (Push (pos 0))) term f2 e3 in
    let f4 = before_code base c3 c4 (term ++ (plain (GoOn 1) ++ plain (Push (pos 0)))) (at t.position.line Step) f3 e4 in
    let f5 = before_code base c4 c5 (at t.position.line Step ++ (term ++ (plain (GoOn 1) ++ plain (Push (pos 0))))) (plain (SkipUnless d)) f4 e5 in
    before_code base c5 c6 (plain (SkipUnless d) ++ (at t.position.line Step ++ (term ++ (plain (GoOn 1) ++ plain (Push (pos 0)))))) (plain (Ask unit leaf number)) f5 e6
    ∙ ap (λ k. base ++ reverse (plain (Ask unit leaf number) ++ (plain (SkipUnless k) ++ (at t.position.line Step ++ (term ++ (plain (GoOn 1) ++ plain (Push (pos 0)))))))) size
    ∙ ap (λ l. base ++ reverse (plain (Ask unit leaf number) ++ (plain (SkipUnless (length body + 1)) ++ (at t.position.line Step ++ l)))) (sym (append_assoc term (plain (GoOn 1)) (plain (Push (pos 0)))))
