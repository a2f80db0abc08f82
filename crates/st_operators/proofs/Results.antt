-- What the operators and the standard functions give are values.
use Rattle.std.proofs.Common.{◌≡◌, ◌∙◌, ◌⊎◌, inl, inr, ⊎_elim, ◌↔◌, ℕ, zero, suc, ◌+◌, ◌-◌, ◌*◌, ◌/◌, ◌%◌, ◌^◌, ◌<◌, ◌≤◌, Bool, true, false, nat_lt, ◌&&◌, ℤ, pos, negsuc, ◌-ℤ◌, int_eq, int_lt, true≢false, IsTrue, IsErr, IfOk, if◌then◌else◌, refl, sym, subst, arith, mod-lt, pow_pos, div-le_self, lt_of_le_of_lt}
use Rattle.std.proofs.lemmas.Grind.{common_steps}
use Rattle.std.proofs.lemmas.Int.{ints}
use Rattle.std.proofs.lemmas.Nat.{and_le_l, or_lt, xor_lt}
use Rattle.st_values.proofs.Cases.{is_below}
use Rattle.st_values.specs.Types.{bits_of, is_signed, limit_of}
use Rattle.st_values.specs.Values.{in_range, wrapped, wrapped_number, IsValue, truth}
use Rattle.st_values.specs.declared.elem.Elem.{Elem}
use Rattle.st_values.specs.declared.elem.Elem.TheVariants as elems
use Rattle.st_values.specs.declared.value.Value.{Value}
use Rattle.st_tree.specs.declared.operator.BinOp.{BinOp}
use Rattle.st_tree.specs.declared.operator.BinOp.TheVariants as operators
use Rattle.st_operators.specs.Functions.{greatest_of, least_of, limited_to, rotated_left_by, rotated_right_by, selected_by, selected_of, shifted_left_by, shifted_right_by, turned}
use Rattle.st_operators.specs.Laws.{divides, IsOf}
use Rattle.st_operators.specs.Operators.{applied, bits_in, complemented, complements, is_bits, of_bits, type_given, unless_zero, AreAlike, Takes}
use Rattle.st_operators.proofs.Shifting.{bits_complement, natural_of, turned_few}
use Rattle.st_operators.proofs.Wrapping.{few_bits}

-- ---- what wraps

-- a type begins at 0, or it has half of its numbers below 0
halves : (e : Elem) → (limit_of e ≡ 2 ^ bits_of e) ⊎ ((is_signed e ≡ true) × (2 ^ bits_of e ≡ limit_of e + limit_of e))
halves elems.Bool = inl refl
halves elems.Sint = inr (refl, refl)
halves elems.Int = inr (refl, refl)
halves elems.Dint = inr (refl, refl)
halves elems.Lint = inr (refl, refl)
halves elems.Time = inr (refl, refl)
halves elems.Usint = inl refl
halves elems.Uint = inl refl
halves elems.Udint = inl refl
halves elems.Ulint = inl refl
halves elems.Byte = inl refl
halves elems.Word = inl refl
halves elems.Dword = inl refl
halves elems.Lword = inl refl

not_below : (a b : ℕ) → nat_lt a b ≡ false → b ≤ a
not_below a b h = grind (arith, common_steps)

both : (p q : Bool) → p ≡ true → q ≡ true → IsTrue (p && q)
both true q h g = g
both false q h g = cc

left_in_range : (e : Elem) (k : ℕ) → k < 2 ^ bits_of e → (t : Bool) → nat_lt k (limit_of e) ≡ t
    → IsTrue (in_range e (if t then pos k else (pos k -ℤ pos (2 ^ bits_of e))))
left_in_range e k few true is = is
left_in_range e k few false is =
    let m = 2 ^ bits_of e in
    let high = not_below k (limit_of e) is in
    ⊎_elim
    (λ whole. absurd (omega (arith, whole)))
    (λ half.
    let j = m - 1 - k in
    let less : pos k -ℤ pos m ≡ negsuc j = omega (arith, ints) in
    let low : nat_lt j (limit_of e) ≡ true = is_below j (limit_of e) (omega (arith, half.1)) in
    subst (λ z. IsTrue (in_range e z)) (sym less) (both (is_signed e) (nat_lt j (limit_of e)) half.0 low))
    (halves e)

number_in_range : (e : Elem) (z : ℤ) → IsTrue (in_range e (wrapped_number e z))
number_in_range e (pos a) = let k = a % 2 ^ bits_of e in left_in_range e k (mod-lt a (pow_pos (bits_of e))) (nat_lt k (limit_of e)) refl
number_in_range e (negsuc a) =
    let some = pow_pos (bits_of e) in
    let k = 2 ^ bits_of e - 1 - a % 2 ^ bits_of e in
    left_in_range e k (omega arith) (nat_lt k (limit_of e)) refl

zero_or_one : (t : Bool) → IsTrue (in_range elems.Bool (if t then pos 0 else pos 1))
zero_or_one true = refl
zero_or_one false = refl

pub wrapped_is : (e : Elem) (z : ℤ) → IsOf e (wrapped e z)
wrapped_is elems.Bool z = record { in_range = zero_or_one (int_eq z (pos 0)); of_type = refl }
wrapped_is e z = record { in_range = number_in_range e z; of_type = refl }

-- ---- what has few bits

pub bits_are : (e : Elem) (n : ℕ) → IsTrue (complements e) → n < 2 ^ bits_of e → IsOf e (of_bits e n)
bits_are elems.Bool n bits few = record { in_range = is_below n _ few; of_type = refl }
bits_are elems.Byte n bits few = record { in_range = is_below n _ few; of_type = refl }
bits_are elems.Word n bits few = record { in_range = is_below n _ few; of_type = refl }
bits_are elems.Dword n bits few = record { in_range = is_below n _ few; of_type = refl }
bits_are elems.Lword n bits few = record { in_range = is_below n _ few; of_type = refl }
bits_are e n bits few = cc

few_in : (a : Value) → IsTrue (complements a.elem) → IsValue a → bits_in a < 2 ^ bits_of a.elem
few_in a bits value = (natural_of a.elem a.bits bits value).1

pub complement_is : (a : Value) → IsTrue (complements a.elem) → IsValue a → IsOf a.elem (complemented a)
complement_is a bits value = let some = pow_pos (bits_of a.elem) in bits_are a.elem (2 ^ bits_of a.elem - 1 - bits_in a) bits (omega arith)

pub shifted_left_is : (a : Value) (places : ℕ) → IsTrue (is_bits a.elem) → IsValue a → IsOf a.elem (shifted_left_by a places)
shifted_left_is a places bits value = bits_are a.elem (bits_in a * 2 ^ places % 2 ^ bits_of a.elem) (bits_complement a.elem bits) (mod-lt (bits_in a * 2 ^ places) (pow_pos (bits_of a.elem)))

pub shifted_right_is : (a : Value) (places : ℕ) → IsTrue (is_bits a.elem) → IsValue a → IsOf a.elem (shifted_right_by a places)
shifted_right_is a places bits value =
    let plain = bits_complement a.elem bits in
    bits_are a.elem (bits_in a / 2 ^ places) plain (lt_of_le_of_lt (div-le_self (bits_in a) (2 ^ places)) (few_in a plain value))

turned_is : (a : Value) (low : ℕ) → low ≤ bits_of a.elem → IsTrue (is_bits a.elem) → IsValue a → IsOf a.elem (of_bits a.elem (turned (bits_of a.elem) low (bits_in a)))
turned_is a low h bits value =
    let plain = bits_complement a.elem bits in
    bits_are a.elem (turned (bits_of a.elem) low (bits_in a)) plain (turned_few (bits_of a.elem) low (bits_in a) h (few_in a plain value))

pub rotated_left_is : (a : Value) (places : ℕ) → IsTrue (is_bits a.elem) → IsValue a → IsOf a.elem (rotated_left_by a places)
rotated_left_is a places bits value = turned_is a (bits_of a.elem - places % bits_of a.elem) (omega arith) bits value

pub rotated_right_is : (a : Value) (places : ℕ) → IsTrue (is_bits a.elem) → IsValue a → IsOf a.elem (rotated_right_by a places)
rotated_right_is a places bits value =
    let some = few_bits a.elem in
    let below : places % bits_of a.elem < bits_of a.elem = mod-lt places (omega arith) in
    turned_is a (places % bits_of a.elem) (omega arith) bits value

-- ---- one of two

either_is : (t : Bool) (a b : Value) → AreAlike a b → IsOf a.elem (if t then b else a)
either_is true a b alike = record { in_range = alike.right; of_type = sym alike.same }
either_is false a b alike = record { in_range = alike.left; of_type = refl }

pub least_is : (a b : Value) → AreAlike a b → IsOf a.elem (least_of a b)
least_is a b alike = either_is (int_lt b.bits a.bits) a b alike

pub greatest_is : (a b : Value) → AreAlike a b → IsOf a.elem (greatest_of a b)
greatest_is a b alike = either_is (int_lt a.bits b.bits) a b alike

pub limited_is : (low a high : Value) → AreAlike a low → AreAlike a high → IsOf a.elem (limited_to low a high)
limited_is low a high below above =
    let least = greatest_of a low in
    let is = greatest_is a low below in
    let alike : AreAlike least high = record { same = is.of_type ∙ above.same; left = is.in_range; right = above.right } in
    subst (λ e. IsOf e (least_of least high)) is.of_type (least_is least high alike)

selected_is_by : (z : ℤ) (a b : Value) → AreAlike a b → IsOf a.elem (selected_by z a b)
selected_is_by (pos zero) a b alike = either_is false a b alike
selected_is_by (pos (suc n)) a b alike = either_is true a b alike
selected_is_by (negsuc n) a b alike = either_is true a b alike

pub selected_is : (g a b : Value) → AreAlike a b → IsOf a.elem (selected_of g a b)
selected_is g a b alike = selected_is_by g.bits a b alike

-- ---- operators

truth_is : (t : Bool) → IsOf elems.Bool (truth t)
truth_is true = record { in_range = refl; of_type = refl }
truth_is false = record { in_range = refl; of_type = refl }

unless_zero_is : (e : Elem) (z : ℤ) (v : Value) → IsOf e v → IfOk (unless_zero z v) (λ c. IsOf e c)
unless_zero_is e (pos zero) v is = tt
unless_zero_is e (pos (suc n)) v is = is
unless_zero_is e (negsuc n) v is = is

-- both operands of AND, OR and XOR have few bits
other_few : (a b : Value) → AreAlike a b → IsTrue (complements a.elem) → bits_in b < 2 ^ bits_of a.elem
other_few a b alike bits =
    let plain = subst (λ e. IsTrue (complements e)) alike.same bits in
    subst (λ e. bits_in b < 2 ^ bits_of e) (sym alike.same) (few_in b plain alike.right)

pub applied_is : (operator : BinOp) (a b : Value) → Takes operator a b → IfOk (applied operator a b) (λ c. IsOf (type_given operator a.elem) c)
applied_is operators.Add a b h = wrapped_is a.elem _
applied_is operators.Sub a b h = wrapped_is a.elem _
applied_is operators.Mul a b h = wrapped_is a.elem _
applied_is operators.Div a b h = unless_zero_is a.elem b.bits _ (wrapped_is a.elem _)
applied_is operators.Mod a b h = unless_zero_is a.elem b.bits _ (wrapped_is a.elem _)
applied_is operators.And a b h = bits_are a.elem _ h.taken (lt_of_le_of_lt (and_le_l (bits_in a) (bits_in b)) (few_in a h.taken h.alike.left))
applied_is operators.Or a b h = bits_are a.elem _ h.taken (or_lt (bits_of a.elem) (bits_in a) (bits_in b) (few_in a h.taken h.alike.left) (other_few a b h.alike h.taken))
applied_is operators.Xor a b h = bits_are a.elem _ h.taken (xor_lt (bits_of a.elem) (bits_in a) (bits_in b) (few_in a h.taken h.alike.left) (other_few a b h.alike h.taken))
applied_is operators.Eq a b h = truth_is _
applied_is operators.Ne a b h = truth_is _
applied_is operators.Lt a b h = truth_is _
applied_is operators.Gt a b h = truth_is _
applied_is operators.Le a b h = truth_is _
applied_is operators.Ge a b h = truth_is _

-- ---- refusals

refused_at_zero : (z : ℤ) (v : Value) → IsErr (unless_zero z v) ↔ (IsTrue true × (z ≡ pos 0))
refused_at_zero (pos zero) v = ((λ e. (refl, refl)), (λ h. refl))
refused_at_zero (pos (suc n)) v = ((λ e. absurd (true≢false (sym e))), (λ h. let e = h.1 in cc))
refused_at_zero (negsuc n) v = ((λ e. absurd (true≢false (sym e))), (λ h. let e = h.1 in cc))

never_refused : (z : ℤ) → (false ≡ true) ↔ (IsTrue false × (z ≡ pos 0))
never_refused z = ((λ e. absurd (true≢false (sym e))), (λ h. h.0))

pub refused : (operator : BinOp) (a b : Value) → IsErr (applied operator a b) ↔ (IsTrue (divides operator) × (b.bits ≡ pos 0))
refused operators.Div a b = refused_at_zero b.bits _
refused operators.Mod a b = refused_at_zero b.bits _
refused operators.Add a b = never_refused b.bits
refused operators.Sub a b = never_refused b.bits
refused operators.Mul a b = never_refused b.bits
refused operators.And a b = never_refused b.bits
refused operators.Or a b = never_refused b.bits
refused operators.Xor a b = never_refused b.bits
refused operators.Eq a b = never_refused b.bits
refused operators.Ne a b = never_refused b.bits
refused operators.Lt a b = never_refused b.bits
refused operators.Gt a b = never_refused b.bits
refused operators.Le a b = never_refused b.bits
refused operators.Ge a b = never_refused b.bits
