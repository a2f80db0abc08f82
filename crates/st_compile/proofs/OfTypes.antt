-- Values of given types, and of the leaves of what variables consist of.
use Rattle.std.proofs.Common.{◌≡◌, ℕ, zero, suc, ◌<◌, true, ◌&&◌, IsTrue, List, [], ◌∷◌, map, length, get_or, refl, ap, sym, ◌∙◌, subst, arith}
use Rattle.std.specs.List.{All, AllByRecursion, AllZip}
use Rattle.std.proofs.lemmas.List.Elements.{All-from_recursion}
use Rattle.std.proofs.lemmas.Bool.{and_from, and_parts}
use Rattle.std.proofs.lemmas.List.{length-map}
use Rattle.st_values.specs.Types.{is_same}
use Rattle.st_values.specs.Values.{IsValue, in_range}
use Rattle.st_values.specs.declared.elem.Elem.{Elem}
use Rattle.st_types.specs.Compositions.{Composition}
use Rattle.st_leaves.specs.LeavesIn.{LeafIn, leaves_in}
use Rattle.st_leaves.specs.Places.{count}
use Rattle.st_leaves.proofs.Numbers.{leaves_are_counted}
use Rattle.st_layout.specs.Layout.{no_value}
use Rattle.st_layout.proofs.Paired.{same_elem}
use Rattle.st_operators.specs.Laws.{IsOf}
use Rattle.st_meaning.specs.Meaning.{Values}
use Rattle.st_meaning.specs.Sound.{AreInputsOf, AreValuesOf, no_leaf}
use Rattle.st_meaning.specs.Wholes.{Input}
use Rattle.st_code.specs.Machine.{are_of_types}
use Rattle.st_code.proofs.Steps.{same_type}

-- the types of leaves
abbrev pub elems_of : List LeafIn → List Elem
elems_of ls = map (λ l. l.initial.elem) ls

pub many_elems : (c : Composition) → length (elems_of (leaves_in c)) ≡ count c
many_elems c = length-map (leaves_in c) (λ l. l.initial.elem) ∙ (leaves_are_counted c).0

-- a value of each of the types
abbrev pub HaveTypes : List Elem → Values → Type 0
HaveTypes es values = AllZip (λ e v. IsOf e v) es values

-- ---- leaf by leaf

zip_length : (es : List Elem) (values : Values) → HaveTypes es values → length values ≡ length es
zip_length [] [] h = refl
zip_length [] (v ∷ values) h = absurd h
zip_length (e ∷ es) [] h = absurd h
zip_length (e ∷ es) (v ∷ values) h = ap suc (zip_length es values h.1)

zip_each : (ls : List LeafIn) (values : Values) → HaveTypes (elems_of ls) values → (n : ℕ) → n < length ls → IsOf (get_or ls n no_leaf).initial.elem (get_or values n no_value)
zip_each [] values h n below = absurd (omega (arith, below))
zip_each (l ∷ ls) [] h n below = absurd h
zip_each (l ∷ ls) (v ∷ values) h zero below = h.0
zip_each (l ∷ ls) (v ∷ values) h (suc n) below = zip_each ls values h.1 n (omega (arith, below))

each_zip : (ls : List LeafIn) (values : Values) → length values ≡ length ls → ((n : ℕ) → n < length ls → IsOf (get_or ls n no_leaf).initial.elem (get_or values n no_value)) → HaveTypes (elems_of ls) values
each_zip [] [] same each = tt
each_zip [] (v ∷ values) same each = absurd (omega (arith, same))
each_zip (l ∷ ls) [] same each = absurd (omega (arith, same))
each_zip (l ∷ ls) (v ∷ values) same each = (each 0 (omega arith), each_zip ls values (omega (arith, same)) (λ n below. each (suc n) (omega (arith, below))))

-- they are the values of what has leaves of these types
pub values_typed : (c : Composition) (values : Values) → HaveTypes (elems_of (leaves_in c)) values → AreValuesOf c values
values_typed c values typed = record {
  all = zip_length (elems_of (leaves_in c)) values typed ∙ many_elems c;
  each = λ n below. zip_each (leaves_in c) values typed n (subst (λ k. n < k) (sym (leaves_are_counted c).0) below);
}

pub typed_values : (c : Composition) (values : Values) → AreValuesOf c values → HaveTypes (elems_of (leaves_in c)) values
typed_values c values h = each_zip (leaves_in c) values (h.all ∙ sym (leaves_are_counted c).0) (λ n below. h.each n (subst (λ k. n < k) (leaves_are_counted c).0 below))

-- ---- by a test

of_types : (es : List Elem) (values : Values) → are_of_types es values ≡ true → HaveTypes es values
of_types [] [] h = tt
of_types [] (v ∷ values) h = absurd cc
of_types (e ∷ es) [] h = absurd cc
of_types (e ∷ es) (v ∷ values) h =
    let parts = and_parts (is_same v.elem e && in_range e v.bits) (are_of_types es values) h in
    let one = and_parts (is_same v.elem e) (in_range e v.bits) parts.0 in
    let same = same_elem v.elem e one.0 in
    (record { in_range = subst (λ t. IsTrue (in_range t v.bits)) (sym same) one.1; of_type = same }, of_types es values parts.1)

are_typed : (es : List Elem) (values : Values) → HaveTypes es values → are_of_types es values ≡ true
are_typed [] [] h = refl
are_typed [] (v ∷ values) h = absurd h
are_typed (e ∷ es) [] h = absurd h
are_typed (e ∷ es) (v ∷ values) h =
    and_from (is_same v.elem e && in_range e v.bits) (are_of_types es values)
    (and_from (is_same v.elem e) (in_range e v.bits) (same_type v.elem e h.0.of_type) (subst (λ t. in_range t v.bits ≡ true) h.0.of_type h.0.in_range)) (are_typed es values h.1)

pub values_by_test : (c : Composition) (values : Values) → are_of_types (elems_of (leaves_in c)) values ≡ true → AreValuesOf c values
values_by_test c values h = values_typed c values (of_types (elems_of (leaves_in c)) values h)

pub test_of_values : (c : Composition) (values : Values) → AreValuesOf c values → are_of_types (elems_of (leaves_in c)) values ≡ true
test_of_values c values h = are_typed (elems_of (leaves_in c)) values (typed_values c values h)

-- ---- values of inputs

inputs_typed : (is : List Input) (values : Values) → HaveTypes (map (λ i. i.initial.elem) is) values → AreInputsOf is values
inputs_typed [] [] h = tt
inputs_typed [] (v ∷ values) h = absurd h
inputs_typed (i ∷ is) [] h = absurd h
inputs_typed (i ∷ is) (v ∷ values) h = (h.0, inputs_typed is values h.1)

pub inputs_by_test : (is : List Input) (values : Values) → are_of_types (map (λ i. i.initial.elem) is) values ≡ true → AreInputsOf is values
inputs_by_test is values h = inputs_typed is values (of_types (map (λ i. i.initial.elem) is) values h)

-- ---- values of their own types

each_valid : (es : List Elem) (values : Values) → HaveTypes es values → AllByRecursion IsValue values
each_valid [] [] h = tt
each_valid [] (v ∷ values) h = absurd h
each_valid (e ∷ es) [] h = absurd h
each_valid (e ∷ es) (v ∷ values) h = (h.0.in_range, each_valid es values h.1)

pub values_valid : (c : Composition) (values : Values) → AreValuesOf c values → All IsValue values
values_valid c values h = All-from_recursion IsValue values (each_valid (elems_of (leaves_in c)) values (typed_values c values h))
