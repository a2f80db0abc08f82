-- How many elements arrays have, as far as a number of 128 bits goes.
use Rattle.std.specs.Prelude.{ℕ, ◌^◌, nat_lt, List, map, Option, Some, None, if◌then◌else◌}
use Rattle.st_tree.specs.declared.tree.declaration.DeclaredType.TheVariants as declared_types
use Rattle.st_tree.specs.declared.tree.declaration.Specification.{Specification}
use Rattle.st_tree.specs.declared.tree.declaration.Specification.TheVariants as specifications
use Rattle.st_types.specs.Names.{Declares, Named}
use Rattle.st_types.specs.Names as names
use Rattle.st_types.specs.Types.{Elements}
use Rattle.st_check_units.specs.Subscripts.{array_size}

-- a number, where it is known and below 2^128
abbrev pub counted : Option ℕ → Option ℕ
counted None = None
counted (Some n) = if nat_lt n (2 ^ 128) then Some n else None

-- of what is an array
abbrev pub elements_size : Option Elements → Option ℕ
elements_size None = None
elements_size (Some elements) = array_size elements.subscripts

abbrev pub specified_size : Specification → Option ℕ
specified_size (specifications.Simple t) = None
specified_size (specifications.Array position ranges t) = array_size ranges

-- of an array type
abbrev pub declared_size : Declares → Option ℕ
declared_size (names.type (declared_types.Derived s initial)) = specified_size s
declared_size _ = None

-- of each unit that is an array type
abbrev pub counted_sizes : List Named → List (Option ℕ)
counted_sizes units = map (λ u. counted (declared_size u.declares)) units
