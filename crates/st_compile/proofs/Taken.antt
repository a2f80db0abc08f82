-- No function of a text takes more inputs than the one that takes the most.
use Rattle.std.proofs.Common.{◌≡◌, ℕ, zero, suc, ◌+◌, ◌≤◌, List, [], ◌∷◌, ◌++◌, length, map, take, take_all, Option, Some, None, refl, ap, sym, ◌∙◌, arith}
use Rattle.std.specs.Prelude.{max}
use Rattle.std.specs.List.{slice_get}
use Rattle.std.proofs.lemmas.List.{length-map}
use Rattle.st_values.specs.declared.elem.Elem.{Elem}
use Rattle.st_values.specs.declared.value.Value.{Value}
use Rattle.st_types.specs.Names.{Named, number_of, unit_at}
use Rattle.st_meaning.specs.Units.{called_by, function_at, function_by, unit_whole}
use Rattle.st_meaning.specs.Wholes.{Called, Input}
use Rattle.st_code.specs.Depths.{most}
use Rattle.st_code.proofs.TypedDepths.{TakeAtMost}
use Rattle.st_compile.specs.Programs.{most_taken, numbered, taken, types_taken}
use Rattle.st_compile.proofs.Listed.{views_more}
use Rattle.st_compile.proofs.Ordered.{view_at}

most_at : (xs : List ℕ) (i x : ℕ) → slice_get xs i ≡ Some x → x ≤ most xs
most_at [] i x is = absurd cc
most_at (y ∷ xs) zero x is = let same : y ≡ x = cc in omega (arith, same)
most_at (y ∷ xs) (suc i) x is = let more = most_at xs i x is in omega (arith, more)

module _ (units : List Named) where
  unit_takes : (n : ℕ) (o : Option Named) (f : Called) → unit_at units n ≡ o → called_by units n o ≡ Some f → length f.inputs ≤ most_taken units
  unfolding most_taken
  unit_takes n None f at is = absurd cc
  unit_takes n (Some u) f at is =
      let own : function_at units n ≡ Some f = ap (called_by units n) at ∙ is in
      let many : taken units n u ≡ length f.inputs = ap (λ o. length (types_taken o)) own ∙ length-map f.inputs (λ i. i.initial.elem) in
      let most' = most_at (numbered (taken units) 0 units) n (taken units n u) (view_at (taken units) units n u at) in
      omega (arith, many, most')

  number_takes : (n : Option ℕ) (f : Called) → function_by units n ≡ Some f → length f.inputs ≤ most_taken units
  number_takes None f is = absurd cc
  number_takes (Some n) f is = unit_takes n (unit_at units n) f refl is

  pub takes_few : (u : Named) → TakeAtMost (unit_whole units u) (most_taken units)
  unfolding unit_whole
  takes_few u name f is = number_takes (number_of units name) f is

-- ---- of the units so far

most_last : (xs : List ℕ) (x : ℕ) → most (xs ++ x ∷ []) ≡ max (most xs) x
most_last [] x = omega arith
most_last (y ∷ xs) x = let rest = most_last xs x in omega (arith, rest)

module _ (units : List Named) (n : ℕ) (u : Named) (at : unit_at units n ≡ Some u) (old : ℕ) (so_far : old ≡ most (numbered (taken units) 0 (take n units))) where
  most_next : most (numbered (taken units) 0 (take (n + 1) units)) ≡ max old (taken units n u)
  most_next =
      let number : n + 1 ≡ suc n = omega arith in
      ap (λ k. most (numbered (taken units) 0 (take k units))) number ∙ ap most (views_more (taken units) 0 units n n u at (omega arith))
      ∙ most_last (numbered (taken units) 0 (take n units)) (taken units n u) ∙ ap (λ k. max k (taken units n u)) (sym so_far)

  pub most_some : (f : Called) (new : ℕ) → function_at units n ≡ Some f → new ≡ max (length f.inputs) old → new ≡ most (numbered (taken units) 0 (take (n + 1) units))
  most_some f new is max' =
      let many : taken units n u ≡ length f.inputs = ap (λ o. length (types_taken o)) is ∙ length-map f.inputs (λ i. i.initial.elem) in
      omega (arith, most_next, many, max')

  pub most_none : function_at units n ≡ None → old ≡ most (numbered (taken units) 0 (take (n + 1) units))
  most_none is =
      let many : taken units n u ≡ 0 = ap (λ o. length (types_taken o)) is in
      omega (arith, most_next, many)

pub most_done : (units : List Named) (n m : ℕ) → length units ≤ n → m ≡ most (numbered (taken units) 0 (take n units)) → m ≡ most_taken units
unfolding most_taken
most_done units n m past is = is ∙ ap (λ us. most (numbered (taken units) 0 us)) (take_all n units past)

-- ---- the types that one function takes

elems_initial : (is : List Input) → map (λ (v : Value). v.elem) (map (λ (i : Input). i.initial) is) ≡ map (λ (i : Input). i.initial.elem) is
elems_initial [] = refl
elems_initial (i ∷ is) = ap (λ es. i.initial.elem ∷ es) (elems_initial is)

pub types_some : (f : Called) (values : List Value) (types : List Elem) (n : ℕ) → values ≡ map (λ (i : Input). i.initial) f.inputs → length values ≤ n → types ≡ map (λ (v : Value). v.elem) (take n values)
    → types ≡ types_taken (Some f)
types_some f values types n are past so_far = so_far ∙ ap (map (λ (v : Value). v.elem)) (take_all n values past ∙ are) ∙ elems_initial f.inputs
