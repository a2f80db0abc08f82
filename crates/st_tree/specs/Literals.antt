-- The numbers that literals write (2.2.1).
use Rattle.std.specs.Prelude.{ℤ, pos, if◌then◌else◌}
use Rattle.st_values.specs.Numbers.{negative}
use Rattle.st_tree.specs.declared.tree.constant.SignedInteger.{SignedInteger}

-- the number, below zero where there is a `-`
abbrev pub number_of : SignedInteger → ℤ
number_of n = if n.is_negative then negative n.magnitude else pos n.magnitude
