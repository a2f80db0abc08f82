-- Which element lies at subscripts within their bounds (2.4.1.2).
use Rattle.std.proofs.Common.{◌≡◌, ℕ, suc, ◌+◌, ◌*◌, ◌<◌, ℤ, pos, negsuc, ◌+ℤ◌, ◌-ℤ◌, int_le, true, List, [], ◌∷◌, refl, ap, sym, ◌∙◌, arith, mul-le-mul_right, suc-mul, add-mul, mul_assoc}
use Rattle.std.proofs.lemmas.Int.{ints}
use Rattle.st_leaves.specs.Subscripts.{values_from}
use Rattle.st_tree.specs.declared.tree.declaration.Subrange.{Subrange}
use Rattle.st_values.proofs.Cases.{both}
use Rattle.st_tree.specs.Literals.{number_of}
use Rattle.st_leaves.specs.Places.{IsDistance, no_more, above, extent, extent_of}
use Rattle.st_meaning.specs.Meaning.{are_within, is_within}

-- how far a number lies above the lower bound
record Above (lower upper i : ℤ) : Type 0 where
  far : ℕ
  few : far < values_from (upper -ℤ lower)
  same : i ≡ lower +ℤ pos far

few_of : (lower upper i : ℤ) (far : ℕ) (d : ℤ) → i ≡ lower +ℤ pos far → int_le i upper ≡ true → upper -ℤ lower ≡ d → far < values_from d
few_of lower upper i far (pos n) same high e = omega (arith, ints)
few_of lower upper i far (negsuc n) same high e = absurd (omega (arith, ints))

above_lower : (lower upper i : ℤ) → int_le lower i ≡ true → int_le i upper ≡ true → Above lower upper i
above_lower lower upper i low high = by (i -ℤ lower) refl where
  by : (d : ℤ) → i -ℤ lower ≡ d → Above lower upper i
  by (pos far) e =
      let same : i ≡ lower +ℤ pos far = omega (arith, ints) in
      record { far = far; few = few_of lower upper i far (upper -ℤ lower) same high refl; same = same }
  by (negsuc n) e = absurd (omega (arith, ints))

-- the number of an element, of which its distance is a multiple
pub record Element (size : ℕ) (ranges : List Subrange) (is : List ℤ) : Type 0 where
  pub distance : ℕ
  pub stands : IsDistance size ranges is distance
  pub number : ℕ
  pub few : number < extent ranges
  pub multiple : distance ≡ number * size

number_few : (far more a e : ℕ) → far < a → more < e → far * e + more < a * e
number_few far more a e h k = omega (arith, suc-mul far e, mul-le-mul_right {m = suc far} {n = a} e h)

distance_is : (far e size d n : ℕ) → d ≡ n * size → far * (e * size) + d ≡ (far * e + n) * size
distance_is far e size d n h = ap (λ k. far * (e * size) + k) h ∙ ap (λ k. k + n * size) (sym (mul_assoc far e size)) ∙ sym (add-mul (far * e) n size)

pub element_within : (size : ℕ) (ranges : List Subrange) (is : List ℤ) → are_within ranges is ≡ true → Element size ranges is
element_within size [] [] h = record { distance = 0; stands = no_more; number = 0; few = omega arith; multiple = omega arith }
element_within size [] (i ∷ is) h = cc
element_within size (r ∷ rs) [] h = cc
element_within size (r ∷ rs) (i ∷ is) h =
    let parts = both (is_within r i) (are_within rs is) h in
    let bounds = both (int_le (number_of r.lower) i) (int_le i (number_of r.upper)) parts.0 in
    let one = above_lower (number_of r.lower) (number_of r.upper) i bounds.0 bounds.1 in
    let more = element_within size rs is parts.1 in record {
      distance = one.far * (extent rs * size) + more.distance;
      stands = above one.few one.same more.stands;
      number = one.far * extent rs + more.number;
      few = number_few one.far more.number (extent_of r) (extent rs) one.few more.few;
      multiple = distance_is one.far (extent rs) size more.distance more.number more.multiple;
    }
