-- The texts of subscripts tell which numbers they are.
use Rattle.std.proofs.Common.{◌≡◌, ℕ, ℤ, true, List, [], ◌∷◌, ◌++◌, length, refl, ap, sym, ◌∙◌, arith, append_assoc}
use Rattle.std.specs.Fmt.{signed_decimal}
use Rattle.std.specs.Ordering.{int_eq}
use Rattle.std.proofs.lemmas.Bool.{and_from}
use Rattle.std.proofs.lemmas.List.{map-append}
use Rattle.std.specs.Char.{to_ascii_uppercase}
use Rattle.st_values.specs.Words.{raised}
use Rattle.st_leaves.specs.Distinct.{AreShort}
use Rattle.st_leaves.specs.Paths.{are_same_numbers, subscripts_text}
use Rattle.st_leaves.proofs.Cuts.{Ends, cut, same_first, same_rest}
use Rattle.st_leaves.proofs.NumberTexts.{is_number_byte, of_number, raised_number, same_number}
use Rattle.st_leaves.proofs.SubscriptTexts.{some_signed}

joined : (i j : ℤ) (is : List ℤ) → subscripts_text (i ∷ j ∷ is) ≡ signed_decimal i ++ (44 ∷ subscripts_text (j ∷ is))
joined i j is = append_assoc (signed_decimal i) (44 ∷ []) (subscripts_text (j ∷ is))

-- in upper case they are the same
pub raised_subscripts : (is : List ℤ) → AreShort is → raised (subscripts_text is) ≡ subscripts_text is
raised_subscripts [] short = refl
raised_subscripts (i ∷ []) short = raised_number i short.0
raised_subscripts (i ∷ j ∷ is) short =
    ap raised (joined i j is) ∙ map-append to_ascii_uppercase (signed_decimal i) (44 ∷ subscripts_text (j ∷ is))
    ∙ ap (λ t. t ++ (44 ∷ raised (subscripts_text (j ∷ is)))) (raised_number i short.0) ∙ ap (λ t. signed_decimal i ++ (44 ∷ t)) (raised_subscripts (j ∷ is) short.1) ∙ sym (joined i j is)

-- what stands behind the first subscript, up to `]` and more
abbrev behind_first : List ℤ → List ℕ → List ℕ
behind_first [] x = 93 ∷ x
behind_first (i ∷ is) x = 44 ∷ (subscripts_text (i ∷ is) ++ 93 ∷ x)

with_first : (i : ℤ) (is : List ℤ) (x : List ℕ) → subscripts_text (i ∷ is) ++ 93 ∷ x ≡ signed_decimal i ++ behind_first is x
with_first i [] x = refl
with_first i (j ∷ is) x = ap (λ t. t ++ 93 ∷ x) (joined i j is) ∙ append_assoc (signed_decimal i) (44 ∷ subscripts_text (j ∷ is)) (93 ∷ x)

ends_first : (is : List ℤ) (x : List ℕ) → Ends is_number_byte (behind_first is x)
ends_first [] x = refl
ends_first (i ∷ is) x = refl

abbrev AreSame : List ℤ → List ℤ → List ℕ → List ℕ → Type 0
AreSame is js x y = (are_same_numbers is js ≡ true) × (x ≡ y)

-- behind the first ones, where the rest of the texts tells the rest
behind_same : (is js : List ℤ) (x y : List ℕ) → (subscripts_text is ++ 93 ∷ x ≡ subscripts_text js ++ 93 ∷ y → AreSame is js x y) → behind_first is x ≡ behind_first js y → AreSame is js x y
behind_same [] [] x y more e = (refl, same_rest 93 93 x y e)
behind_same [] (j ∷ js) x y more e = let clash = same_first 93 44 x (subscripts_text (j ∷ js) ++ 93 ∷ y) e in absurd (omega arith)
behind_same (i ∷ is) [] x y more e = let clash = same_first 44 93 (subscripts_text (i ∷ is) ++ 93 ∷ x) y e in absurd (omega arith)
behind_same (i ∷ is) (j ∷ js) x y more e = more (same_rest 44 44 (subscripts_text (i ∷ is) ++ 93 ∷ x) (subscripts_text (j ∷ js) ++ 93 ∷ y) e)

-- no text of a number is empty
not_none : (z : ℤ) → [] ≡ signed_decimal z → ⊥
not_none z e = let lengths : 0 ≡ length (signed_decimal z) = ap length e in omega (arith, some_signed z)

pub same_subscripts : (is js : List ℤ) (x y : List ℕ) → AreShort is → AreShort js → subscripts_text is ++ 93 ∷ x ≡ subscripts_text js ++ 93 ∷ y → AreSame is js x y
same_subscripts [] [] x y short_i short_j e = (refl, same_rest 93 93 x y e)
same_subscripts [] (j ∷ js) x y short_i short_j e =
    absurd (not_none j (cut is_number_byte [] (signed_decimal j) (93 ∷ x) (behind_first js y) tt (of_number j short_j.0) refl (ends_first js y) (e ∙ with_first j js y)).0)
same_subscripts (i ∷ is) [] x y short_i short_j e =
    absurd (not_none i (cut is_number_byte [] (signed_decimal i) (93 ∷ y) (behind_first is x) tt (of_number i short_i.0) refl (ends_first is x) (sym e ∙ with_first i is x)).0)
same_subscripts (i ∷ is) (j ∷ js) x y short_i short_j e =
    let parts = cut is_number_byte (signed_decimal i) (signed_decimal j) (behind_first is x) (behind_first js y) (of_number i short_i.0) (of_number j short_j.0) (ends_first is x) (ends_first js y)
    (sym (with_first i is x) ∙ e ∙ with_first j js y) in
    let more = behind_same is js x y (same_subscripts is js x y short_i.1 short_j.1) parts.1 in
    (and_from (int_eq i j) (are_same_numbers is js) (same_number i j short_i.0 short_j.0 parts.0) more.0, more.1)
