-- What operators and functions give is a value of the type that they give (3.3.1, 2.5.1.5).
use Rattle.std.proofs.Common.{◌≡◌, ℕ, false, IfOk, IsTrue, Result, Ok, Err, refl, sym, ◌∙◌, subst}
use Rattle.st_values.specs.declared.elem.Elem.{Elem}
use Rattle.st_values.specs.declared.value.Value.{Value}
use Rattle.st_operators.specs.Functions.{places_of}
use Rattle.st_operators.specs.Laws.{IsOf}
use Rattle.st_operators.specs.Operators.{AreAlike, applied, type_given}
use Rattle.st_operators.specs.declared.binary.ZeroDivisor.{ZeroDivisor}
use Rattle.st_operators.proofs.Results.{applied_is, complement_is, greatest_is, least_is, rotated_left_is, rotated_right_is, shifted_left_is, shifted_right_is, wrapped_is}
use Rattle.st_meaning.specs.Operations.{gives, binary_type, binary_value, has_count, takes_one, takes_two, unary_type, unary_value, unless_refused}
use Rattle.st_meaning.specs.declared.operation.Binary.{Binary}
use Rattle.st_meaning.specs.declared.operation.Binary.TheVariants as binaries
use Rattle.st_meaning.specs.declared.operation.Unary.{Unary}
use Rattle.st_meaning.specs.declared.operation.Unary.TheVariants as unaries
use Rattle.st_meaning.proofs.Giving.{same_given, same_left}

-- ---- one operand

unary_of : (o : Unary) (a : Value) → IsOf a.elem a → IsTrue (takes_one o a.elem) → IsOf (unary_type o a.elem) (unary_value o a)
unary_of unaries.Negate a is takes = wrapped_is a.elem _
unary_of unaries.Complement a is takes = complement_is a takes is.in_range
unary_of unaries.Absolute a is takes = wrapped_is a.elem _
unary_of (unaries.Convert e) a is takes = wrapped_is e _

pub unary_is : (o : Unary) (e : Elem) (a : Value) → IsOf e a → IsTrue (takes_one o e) → IsOf (unary_type o e) (unary_value o a)
unary_is o e a is takes =
    subst (λ d. IsOf (unary_type o d) (unary_value o a)) is.of_type
    (unary_of o a (record { in_range = is.in_range; of_type = refl }) (subst (λ d. IsTrue (takes_one o d)) (sym is.of_type) takes))

-- ---- two operands

unless_refused_is : (P : Value → Type 0) (line : ℕ) (r : Result Value ZeroDivisor) (left : ℕ) (v : Value) (rest : ℕ) → IfOk r P → unless_refused line r left ≡ gives v rest → P v
unless_refused_is P line (Ok w) left v rest is h = subst P (same_given w v left rest h) is
unless_refused_is P line (Err refused) left v rest is h = cc

given_is : (e : Elem) (w v : Value) (left rest : ℕ) → IsOf e w → gives w left ≡ gives v rest → IsOf e v
given_is e w v left rest is h = subst (IsOf e) (same_given w v left rest h) is

binary_of : (o : Binary) (line : ℕ) (a b : Value) (left : ℕ) (v : Value) (rest : ℕ) → IsOf a.elem a → IsOf b.elem b → IsTrue (takes_two o a.elem) → (has_count o ≡ false → a.elem ≡ b.elem)
    → binary_value o line a b left ≡ gives v rest → IsOf (binary_type o a.elem) v
binary_of (binaries.Operator o) line a b left v rest is is' takes same h =
    let alike : AreAlike a b = record { same = same refl; left = is.in_range; right = is'.in_range } in
    unless_refused_is (IsOf (type_given o a.elem)) line (applied o a b) left v rest (applied_is o a b (record { alike = alike; taken = takes })) h
binary_of binaries.Least line a b left v rest is is' takes same h = given_is a.elem _ v left rest (least_is a b (record { same = same refl; left = is.in_range; right = is'.in_range })) h
binary_of binaries.Greatest line a b left v rest is is' takes same h = given_is a.elem _ v left rest (greatest_is a b (record { same = same refl; left = is.in_range; right = is'.in_range })) h
binary_of binaries.ShiftLeft line a b left v rest is is' takes same h = given_is a.elem _ v left rest (shifted_left_is a (places_of b.bits) takes is.in_range) h
binary_of binaries.ShiftRight line a b left v rest is is' takes same h = given_is a.elem _ v left rest (shifted_right_is a (places_of b.bits) takes is.in_range) h
binary_of binaries.RotateLeft line a b left v rest is is' takes same h = given_is a.elem _ v left rest (rotated_left_is a (places_of b.bits) takes is.in_range) h
binary_of binaries.RotateRight line a b left v rest is is' takes same h = given_is a.elem _ v left rest (rotated_right_is a (places_of b.bits) takes is.in_range) h

pub binary_is : (o : Binary) (line : ℕ) (d e : Elem) (a b : Value) (left : ℕ) (v : Value) (rest : ℕ) → IsOf d a → IsOf e b → IsTrue (takes_two o d) → (has_count o ≡ false → d ≡ e) → binary_value o line a b left ≡ gives v rest
    → IsOf (binary_type o d) v
binary_is o line d e a b left v rest is is' takes same h =
    subst (λ t. IsOf (binary_type o t) v) is.of_type
    (binary_of o line a b left v rest (record { in_range = is.in_range; of_type = refl }) (record { in_range = is'.in_range; of_type = refl })
    (subst (λ t. IsTrue (takes_two o t)) (sym is.of_type) takes) (λ t. is.of_type ∙ same t ∙ sym is'.of_type) h)

-- no steps are taken
unless_refused_left : (line : ℕ) (r : Result Value ZeroDivisor) (left : ℕ) (v : Value) (rest : ℕ) → unless_refused line r left ≡ gives v rest → left ≡ rest
unless_refused_left line (Ok w) left v rest h = same_left w v left rest h
unless_refused_left line (Err refused) left v rest h = cc

pub binary_left : (o : Binary) (line : ℕ) (a b : Value) (left : ℕ) (v : Value) (rest : ℕ) → binary_value o line a b left ≡ gives v rest → left ≡ rest
binary_left (binaries.Operator o) line a b left v rest h = unless_refused_left line (applied o a b) left v rest h
binary_left binaries.Least line a b left v rest h = same_left _ v left rest h
binary_left binaries.Greatest line a b left v rest h = same_left _ v left rest h
binary_left binaries.ShiftLeft line a b left v rest h = same_left _ v left rest h
binary_left binaries.ShiftRight line a b left v rest h = same_left _ v left rest h
binary_left binaries.RotateLeft line a b left v rest h = same_left _ v left rest h
binary_left binaries.RotateRight line a b left v rest h = same_left _ v left rest h
