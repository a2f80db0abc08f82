-- What follows of the operators and the standard functions.
use Rattle.std.specs.Int.{bit_at}
use Rattle.std.specs.Prelude.{◌≡◌, ◌≢◌, ◌↔◌, ℕ, ◌+◌, ◌-◌, ◌%◌, ◌<◌, ◌≤◌, min, max, Bool, true, false, IfOk, IsErr, IsTrue, ℤ, pos, ◌+ℤ◌, ◌*ℤ◌, ◌≤ℤ◌, int_div, int_rem, unsigned_abs}
use Rattle.st_values.specs.Types.{bits_of}
use Rattle.st_values.specs.Values.{IsValue}
use Rattle.st_values.specs.declared.value.Value.{Value}
use Rattle.st_values.specs.declared.elem.Elem.{Elem}
use Rattle.st_tree.specs.declared.operator.BinOp.{BinOp}
use Rattle.st_tree.specs.declared.operator.BinOp.TheVariants as operators
use Rattle.st_operators.specs.Functions.{absolute_of, converted_to, greatest_of, least_of, limited_to, rotated_left_by, rotated_right_by, selected_of, shifted_left_by, shifted_right_by}
use Rattle.st_operators.specs.Operators.{applied, bits_in, complemented, complements, is_bits, negated, of_bits, type_given, AreAlike, Takes}

-- ---- results

-- a value of a type
pub record IsOf (elem : Elem) (value : Value) : Type 0 where
  pub in_range : IsValue value
  pub of_type : value.elem ≡ elem

-- `/` and MOD divide
abbrev pub divides : BinOp → Bool
divides operators.Div = true
divides operators.Mod = true
divides _ = false

-- a zero divisor of `/` or MOD is refused, and nothing else
abbrev pub ZeroDivisorsAloneAreRefused : Type 0
ZeroDivisorsAloneAreRefused = (operator : BinOp) (a b : Value) → IsErr (applied operator a b) ↔ (IsTrue (divides operator) × (b.bits ≡ pos 0))

-- what an operator gives at operands that it takes is a value of its type
abbrev pub OperatorsGiveValues : Type 0
OperatorsGiveValues = (operator : BinOp) (a b : Value) → Takes operator a b → IfOk (applied operator a b) (λ c. IsOf (type_given operator a.elem) c)

-- the opposite of a number is a value, whatever the number is
abbrev pub OppositesAreValues : Type 0
OppositesAreValues = (a : Value) → IsOf a.elem (negated a)

-- so is its size
abbrev pub AbsolutesAreValues : Type 0
AbsolutesAreValues = (a : Value) → IsOf a.elem (absolute_of a)

-- a conversion gives a value of the type to which it converts, whatever the number is
abbrev pub ConversionsAreValues : Type 0
ConversionsAreValues = (elem : Elem) (a : Value) → IsOf elem (converted_to elem a)

-- NOT gives a value
abbrev pub ComplementsAreValues : Type 0
ComplementsAreValues = (a : Value) → IsTrue (complements a.elem) → IsValue a → IsOf a.elem (complemented a)

-- the least of two values of a type is a value of it
abbrev pub LeastAreValues : Type 0
LeastAreValues = (a b : Value) → AreAlike a b → IsOf a.elem (least_of a b)

-- so is the greatest
abbrev pub GreatestAreValues : Type 0
GreatestAreValues = (a b : Value) → AreAlike a b → IsOf a.elem (greatest_of a b)

-- so is a value that is limited by two of its type
abbrev pub LimitedAreValues : Type 0
LimitedAreValues = (low a high : Value) → AreAlike a low → AreAlike a high → IsOf a.elem (limited_to low a high)

-- so is the one that is selected
abbrev pub SelectedAreValues : Type 0
SelectedAreValues = (g a b : Value) → AreAlike a b → IsOf a.elem (selected_of g a b)

-- a shift to the left gives a value
abbrev pub ShiftsLeftAreValues : Type 0
ShiftsLeftAreValues = (a : Value) (places : ℕ) → IsTrue (is_bits a.elem) → IsValue a → IsOf a.elem (shifted_left_by a places)

-- so does a shift to the right
abbrev pub ShiftsRightAreValues : Type 0
ShiftsRightAreValues = (a : Value) (places : ℕ) → IsTrue (is_bits a.elem) → IsValue a → IsOf a.elem (shifted_right_by a places)

-- so does a rotation to the left
abbrev pub RotationsLeftAreValues : Type 0
RotationsLeftAreValues = (a : Value) (places : ℕ) → IsTrue (is_bits a.elem) → IsValue a → IsOf a.elem (rotated_left_by a places)

-- so does a rotation to the right
abbrev pub RotationsRightAreValues : Type 0
RotationsRightAreValues = (a : Value) (places : ℕ) → IsTrue (is_bits a.elem) → IsValue a → IsOf a.elem (rotated_right_by a places)

-- ---- division

-- before it wraps, a quotient times the divisor, and what is left, are the dividend
abbrev pub QuotientAndRemainderAreTheDividend : Type 0
QuotientAndRemainderAreTheDividend = (a b : ℤ) → int_div a b *ℤ b +ℤ int_rem a b ≡ a

-- what is left is smaller than the divisor
abbrev pub RemainderIsSmaller : Type 0
RemainderIsSmaller = (a b : ℤ) → b ≢ pos 0 → unsigned_abs (int_rem a b) < unsigned_abs b

-- what is left isn't below 0 where the dividend isn't, and not above 0 where the dividend isn't
abbrev pub RemainderHasTheDividendsSign : Type 0
RemainderHasTheDividendsSign = (a b : ℤ) → (pos 0 ≤ℤ a → pos 0 ≤ℤ int_rem a b) × (a ≤ℤ pos 0 → int_rem a b ≤ℤ pos 0)

-- ---- bits

-- a bit of a value, 0 or 1; bit 0 is the lowest
abbrev pub bit_of : Value → ℕ → ℕ
bit_of value i = bit_at (bits_in value) i

-- AND is 1 where both bits are, ..
abbrev pub AndGoesBitByBit : Type 0
AndGoesBitByBit = (a b : Value) (i : ℕ) → IfOk (applied operators.And a b) (λ c. bit_of c i ≡ min (bit_of a i) (bit_of b i))

-- .. OR where one is, ..
abbrev pub OrGoesBitByBit : Type 0
OrGoesBitByBit = (a b : Value) (i : ℕ) → IfOk (applied operators.Or a b) (λ c. bit_of c i ≡ max (bit_of a i) (bit_of b i))

-- .. XOR where one alone is, ..
abbrev pub XorGoesBitByBit : Type 0
XorGoesBitByBit = (a b : Value) (i : ℕ) → IfOk (applied operators.Xor a b) (λ c. bit_of c i ≡ (bit_of a i + bit_of b i) % 2)

-- .. and NOT where it isn't
abbrev pub NotGoesBitByBit : Type 0
NotGoesBitByBit = (a : Value) (i : ℕ) → IsTrue (complements a.elem) → IsValue a → i < bits_of a.elem
    → bit_of (complemented a) i ≡ 1 - bit_of a i

-- a shift to the left by the width or more gives 0
abbrev pub ShiftsLeftEndInZero : Type 0
ShiftsLeftEndInZero = (a : Value) (places : ℕ) → bits_of a.elem ≤ places → shifted_left_by a places ≡ of_bits a.elem 0

-- so does a shift to the right
abbrev pub ShiftsRightEndInZero : Type 0
ShiftsRightEndInZero = (a : Value) (places : ℕ) → IsTrue (is_bits a.elem) → IsValue a → bits_of a.elem ≤ places
    → shifted_right_by a places ≡ of_bits a.elem 0

-- a rotation to the left by the width gives the same value
abbrev pub WholeTurnLeftChangesNothing : Type 0
WholeTurnLeftChangesNothing = (a : Value) → IsTrue (is_bits a.elem) → IsValue a → rotated_left_by a (bits_of a.elem) ≡ a

-- so does a rotation to the right
abbrev pub WholeTurnRightChangesNothing : Type 0
WholeTurnRightChangesNothing = (a : Value) → IsTrue (is_bits a.elem) → IsValue a → rotated_right_by a (bits_of a.elem) ≡ a

-- a rotation to the right takes the same rotation to the left back
abbrev pub RotationIsTakenBack : Type 0
RotationIsTakenBack = (a : Value) (places : ℕ) → IsTrue (is_bits a.elem) → IsValue a
    → rotated_right_by (rotated_left_by a places) places ≡ a
