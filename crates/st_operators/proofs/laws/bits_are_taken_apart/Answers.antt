use Rattle.std.proofs.lemmas.Nat.Bits.{bit_at_and, bit_at_or, bit_at_xor}
use Rattle.st_operators.specs.Operators.{bits_in}
use Rattle.st_operators.proofs.Shifting.{complemented_bit}
use Rattle.st_operators.proofs.laws.bits_are_taken_apart.Goals as goal

pub returns-clause-and : goal.returns-clause-and
returns-clause-and c = λ a b i. bit_at_and (bits_in a) (bits_in b) i

pub returns-clause-or : goal.returns-clause-or
returns-clause-or c = λ a b i. bit_at_or (bits_in a) (bits_in b) i

pub returns-clause-xor : goal.returns-clause-xor
returns-clause-xor c = λ a b i. bit_at_xor (bits_in a) (bits_in b) i

pub returns-clause-not : goal.returns-clause-not
returns-clause-not c = complemented_bit
