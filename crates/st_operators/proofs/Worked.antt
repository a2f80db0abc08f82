-- Worked values: the definitions give these numbers.
use Rattle.std.proofs.Common.{◌≡◌, ℤ, pos, negsuc, refl, true, false, Ok, Err}
use Rattle.st_values.specs.declared.elem.Elem.{Elem}
use Rattle.st_values.specs.declared.elem.Elem.TheVariants as elems
use Rattle.st_values.specs.declared.value.Value.{Value}
use Rattle.st_tree.specs.declared.operator.BinOp.TheVariants as operators
use Rattle.st_operators.specs.Functions.{absolute_of, converted_to, greatest_of, least_of, limited_to, places_of, rotated_left_by, rotated_right_by, selected_of, shifted_left_by, shifted_right_by}
use Rattle.st_values.specs.Values.{truth}
use Rattle.st_operators.specs.Operators.{applied, complemented, negated}

-- a number as a value; `negsuc n` is the number -(n + 1)
abbrev of : Elem → ℤ → Value
of elem number = record { elem = elem; bits = number }

-- ---- integers

-- INT: 32767 + 1 is -32768
sum_wraps : applied operators.Add (of elems.Int (pos 32767)) (of elems.Int (pos 1)) ≡ Ok (of elems.Int (negsuc 32767))
sum_wraps = refl

-- USINT: 3 - 5 is 254
difference_wraps : applied operators.Sub (of elems.Usint (pos 3)) (of elems.Usint (pos 5)) ≡ Ok (of elems.Usint (pos 254))
difference_wraps = refl

-- ULINT: the square of the greatest number is 1
product_wraps : applied operators.Mul (of elems.Ulint (pos 18446744073709551615)) (of elems.Ulint (pos 18446744073709551615)) ≡ Ok (of elems.Ulint (pos 1))
product_wraps = refl

-- INT: -7 / 3 is -2
quotient : applied operators.Div (of elems.Int (negsuc 6)) (of elems.Int (pos 3)) ≡ Ok (of elems.Int (negsuc 1))
quotient = refl

-- INT: -7 MOD 3 is -1, and 7 MOD -3 is 1
remainder : applied operators.Mod (of elems.Int (negsuc 6)) (of elems.Int (pos 3)) ≡ Ok (of elems.Int (negsuc 0))
remainder = refl

remainder_by_negative : applied operators.Mod (of elems.Int (pos 7)) (of elems.Int (negsuc 2)) ≡ Ok (of elems.Int (pos 1))
remainder_by_negative = refl

-- INT: -32768 / -1 is -32768, and -32768 MOD -1 is 0
least_by_minus_one : applied operators.Div (of elems.Int (negsuc 32767)) (of elems.Int (negsuc 0)) ≡ Ok (of elems.Int (negsuc 32767))
least_by_minus_one = refl

remainder_by_minus_one : applied operators.Mod (of elems.Int (negsuc 32767)) (of elems.Int (negsuc 0)) ≡ Ok (of elems.Int (pos 0))
remainder_by_minus_one = refl

-- a zero divisor is refused, also by MOD
division_by_zero : applied operators.Div (of elems.Int (pos 1)) (of elems.Int (pos 0)) ≡ Err (record {})
division_by_zero = refl

remainder_by_zero : applied operators.Mod (of elems.Int (pos 1)) (of elems.Int (pos 0)) ≡ Err (record {})
remainder_by_zero = refl

-- SINT: the opposite of -128 and its ABS are -128; USINT: the opposite of 1 is 255
opposite_wraps : negated (of elems.Sint (negsuc 127)) ≡ of elems.Sint (negsuc 127)
opposite_wraps = refl

absolute_wraps : absolute_of (of elems.Sint (negsuc 127)) ≡ of elems.Sint (negsuc 127)
absolute_wraps = refl

absolute : absolute_of (of elems.Sint (negsuc 126)) ≡ of elems.Sint (pos 127)
absolute = refl

opposite_unsigned : negated (of elems.Usint (pos 1)) ≡ of elems.Usint (pos 255)
opposite_unsigned = refl

-- ---- bits

-- BYTE: 16#0C AND 16#0A is 16#08, OR gives 16#0E, XOR 16#06, and NOT 16#0C is 16#F3
conjunction : applied operators.And (of elems.Byte (pos 12)) (of elems.Byte (pos 10)) ≡ Ok (of elems.Byte (pos 8))
conjunction = refl

disjunction : applied operators.Or (of elems.Byte (pos 12)) (of elems.Byte (pos 10)) ≡ Ok (of elems.Byte (pos 14))
disjunction = refl

exclusion : applied operators.Xor (of elems.Byte (pos 12)) (of elems.Byte (pos 10)) ≡ Ok (of elems.Byte (pos 6))
exclusion = refl

complement : complemented (of elems.Byte (pos 12)) ≡ of elems.Byte (pos 243)
complement = refl

-- BOOL: TRUE XOR TRUE is FALSE, and NOT FALSE is TRUE
exclusion_of_truths : applied operators.Xor (truth true) (truth true) ≡ Ok (truth false)
exclusion_of_truths = refl

complement_of_false : complemented (truth false) ≡ truth true
complement_of_false = refl

-- BYTE: 16#81 shifted by one is 16#02 and 16#40, rotated by one 16#03 and 16#C0; a count below 1 changes nothing
shifted_left : shifted_left_by (of elems.Byte (pos 129)) 1 ≡ of elems.Byte (pos 2)
shifted_left = refl

shifted_right : shifted_right_by (of elems.Byte (pos 129)) 1 ≡ of elems.Byte (pos 64)
shifted_right = refl

rotated_left : rotated_left_by (of elems.Byte (pos 129)) 1 ≡ of elems.Byte (pos 3)
rotated_left = refl

rotated_right : rotated_right_by (of elems.Byte (pos 129)) 1 ≡ of elems.Byte (pos 192)
rotated_right = refl

rotated_by_more : rotated_left_by (of elems.Byte (pos 129)) 9 ≡ of elems.Byte (pos 3)
rotated_by_more = refl

count_below_one : shifted_left_by (of elems.Byte (pos 129)) (places_of (negsuc 2)) ≡ of elems.Byte (pos 129)
count_below_one = refl

-- ---- comparisons, choices, conversions

-- FALSE is below TRUE, and -1 below 0
false_is_below_true : applied operators.Lt (truth false) (truth true) ≡ Ok (truth true)
false_is_below_true = refl

minus_one_is_below_zero : applied operators.Ge (of elems.Int (negsuc 0)) (of elems.Int (pos 0)) ≡ Ok (truth false)
minus_one_is_below_zero = refl

least : least_of (of elems.Int (pos 2)) (of elems.Int (negsuc 4)) ≡ of elems.Int (negsuc 4)
least = refl

greatest : greatest_of (of elems.Int (pos 2)) (of elems.Int (negsuc 4)) ≡ of elems.Int (pos 2)
greatest = refl

-- 12 limited to 0 .. 10 is 10; where the lower bound is above the upper, it is the upper
limited : limited_to (of elems.Int (pos 0)) (of elems.Int (pos 12)) (of elems.Int (pos 10)) ≡ of elems.Int (pos 10)
limited = refl

limited_by_turned_bounds : limited_to (of elems.Int (pos 10)) (of elems.Int (pos 5)) (of elems.Int (pos 0)) ≡ of elems.Int (pos 0)
limited_by_turned_bounds = refl

selected : selected_of (truth true) (of elems.Int (pos 2)) (of elems.Int (pos 3)) ≡ of elems.Int (pos 3)
selected = refl

-- SINT_TO_WORD of -1 is 16#FFFF, INT_TO_USINT of -1 is 255, INT_TO_BOOL of 256 is TRUE, WORD_TO_INT of 16#FFFF is -1
minus_one_as_word : converted_to elems.Word (of elems.Sint (negsuc 0)) ≡ of elems.Word (pos 65535)
minus_one_as_word = refl

minus_one_as_usint : converted_to elems.Usint (of elems.Int (negsuc 0)) ≡ of elems.Usint (pos 255)
minus_one_as_usint = refl

number_as_truth : converted_to elems.Bool (of elems.Int (pos 256)) ≡ truth true
number_as_truth = refl

word_as_int : converted_to elems.Int (of elems.Word (pos 65535)) ≡ of elems.Int (negsuc 0)
word_as_int = refl
