-- The operators over values (IEC 61131-3:2003, 3.3.1, table 55), as functions of whole numbers. Results wrap to the width of
-- their type.
use Rattle.std.specs.Ordering.{int_eq}
use Rattle.std.specs.Prelude.{◌≡◌, ℕ, zero, ◌-◌, ◌^◌, Bool, true, false, ◌||◌, not, if◌then◌else◌, ℤ, pos, neg_ℤ, ◌+ℤ◌, ◌-ℤ◌, ◌*ℤ◌, int_div, int_rem, int_le, int_lt, unsigned_abs, bit_and, bit_or, bit_xor, Result, Ok, Err, IsTrue}
use Rattle.st_values.specs.Types.{bits_of, class_of, is_same}
use Rattle.st_values.specs.Values.{truth, wrapped, IsValue}
use Rattle.st_values.specs.declared.elem.Class.{Class}
use Rattle.st_values.specs.declared.elem.Class.TheVariants as classes
use Rattle.st_values.specs.declared.elem.Elem.{Elem}
use Rattle.st_values.specs.declared.elem.Elem.TheVariants as elems
use Rattle.st_values.specs.declared.value.Value.{Value}
use Rattle.st_tree.specs.declared.operator.BinOp.{BinOp}
use Rattle.st_tree.specs.declared.operator.BinOp.TheVariants as operators
use Rattle.st_operators.specs.declared.binary.ZeroDivisor.{ZeroDivisor}

-- ---- which types an operator takes

-- values of the class are written as decimal numbers
abbrev pub is_integer_class : Class → Bool
is_integer_class classes.Integer = true
is_integer_class _ = false

-- values of the class are written as bits
abbrev pub is_bits_class : Class → Bool
is_bits_class classes.BitString = true
is_bits_class _ = false

-- SINT to ULINT
abbrev pub is_integer : Elem → Bool
is_integer elem = is_integer_class (class_of elem)

-- BYTE, WORD, DWORD, LWORD
abbrev pub is_bits : Elem → Bool
is_bits elem = is_bits_class (class_of elem)

abbrev pub is_boolean : Elem → Bool
is_boolean elem = is_same elem elems.Bool

abbrev pub is_duration : Elem → Bool
is_duration elem = is_same elem elems.Time

-- `-` takes an integer type or TIME
abbrev pub negates : Elem → Bool
negates elem = is_integer elem || is_duration elem

-- NOT takes BOOL or a bit string type
abbrev pub complements : Elem → Bool
complements elem = is_boolean elem || is_bits elem

-- the operator compares its operands
abbrev pub is_comparison : BinOp → Bool
is_comparison operators.Eq = true
is_comparison operators.Ne = true
is_comparison operators.Lt = true
is_comparison operators.Gt = true
is_comparison operators.Le = true
is_comparison operators.Ge = true
is_comparison _ = false

-- the operator takes operands of the type; a comparison takes any
abbrev pub takes : BinOp → Elem → Bool
takes operators.Add elem = negates elem
takes operators.Sub elem = negates elem
takes operators.Mul elem = is_integer elem
takes operators.Div elem = is_integer elem
takes operators.Mod elem = is_integer elem
takes operators.And elem = complements elem
takes operators.Or elem = complements elem
takes operators.Xor elem = complements elem
takes _ elem = true

-- two values of one type
pub record AreAlike (a b : Value) : Type 0 where
  pub same : a.elem ≡ b.elem
  pub left : IsValue a
  pub right : IsValue b

-- two values of one type, which the operator takes
pub record Takes (operator : BinOp) (a b : Value) : Type 0 where
  pub alike : AreAlike a b
  pub taken : IsTrue (takes operator a.elem)

-- ---- what an operator gives

-- the bits of a BOOL or a bit string, as one natural number
abbrev pub bits_in : Value → ℕ
bits_in value = unsigned_abs value.bits

-- these bits as a value of a type
abbrev pub of_bits : Elem → ℕ → Value
of_bits elem bits = record { elem = elem; bits = pos bits }

-- a zero divisor is the only refusal
abbrev pub unless_zero : ℤ → Value → Result Value ZeroDivisor
unless_zero (pos zero) value = Err (record {})
unless_zero _ value = Ok value

-- what an operator gives at two values of a type that it takes: `/` rounds toward 0, MOD is what `/` leaves, with the sign of
-- the dividend, and AND, OR and XOR go bit by bit; FALSE is below TRUE
abbrev pub applied : BinOp → Value → Value → Result Value ZeroDivisor
applied operators.Add a b = Ok (wrapped a.elem (a.bits +ℤ b.bits))
applied operators.Sub a b = Ok (wrapped a.elem (a.bits -ℤ b.bits))
applied operators.Mul a b = Ok (wrapped a.elem (a.bits *ℤ b.bits))
applied operators.Div a b = unless_zero b.bits (wrapped a.elem (int_div a.bits b.bits))
applied operators.Mod a b = unless_zero b.bits (wrapped a.elem (int_rem a.bits b.bits))
applied operators.And a b = Ok (of_bits a.elem (bit_and (bits_in a) (bits_in b)))
applied operators.Or a b = Ok (of_bits a.elem (bit_or (bits_in a) (bits_in b)))
applied operators.Xor a b = Ok (of_bits a.elem (bit_xor (bits_in a) (bits_in b)))
applied operators.Eq a b = Ok (truth (int_eq a.bits b.bits))
applied operators.Ne a b = Ok (truth (not (int_eq a.bits b.bits)))
applied operators.Lt a b = Ok (truth (int_lt a.bits b.bits))
applied operators.Gt a b = Ok (truth (int_lt b.bits a.bits))
applied operators.Le a b = Ok (truth (int_le a.bits b.bits))
applied operators.Ge a b = Ok (truth (int_le b.bits a.bits))

-- the type of what an operator gives at operands of a type: a comparison gives a BOOL
abbrev pub type_given : BinOp → Elem → Elem
type_given operators.Eq elem = elems.Bool
type_given operators.Ne elem = elems.Bool
type_given operators.Lt elem = elems.Bool
type_given operators.Gt elem = elems.Bool
type_given operators.Le elem = elems.Bool
type_given operators.Ge elem = elems.Bool
type_given _ elem = elem

-- `-` before an operand
abbrev pub negated : Value → Value
negated a = wrapped a.elem (neg_ℤ a.bits)

-- NOT: each bit turned round
abbrev pub complemented : Value → Value
complemented a = of_bits a.elem (2 ^ bits_of a.elem - 1 - bits_in a)
