-- What the rules say of the subscripts of arrays (2.3.3.1), and how many elements they select.
use Rattle.std.specs.Prelude.{ℕ, ◌+◌, ◌*◌, nat_lt, int_lt, ℤ, pos, negsuc, ◌-ℤ◌, Bool, true, false, not, List, [], ◌∷◌, ◌++◌, Option, Some, None, if◌then◌else◌}
use Rattle.std.specs.Option.{is_some}
use Rattle.st_values.specs.Values.{in_range}
use Rattle.st_values.specs.declared.elem.Elem.TheVariants as elems
use Rattle.st_tree.specs.declared.tree.constant.SignedInteger.{SignedInteger}
use Rattle.st_tree.specs.declared.tree.declaration.Subrange.{Subrange}
use Rattle.st_faults.specs.Faults.{fault, when}
use Rattle.st_faults.specs.declared.fault.Fault.{Fault}
use Rattle.st_faults.specs.declared.fault.Rule.TheVariants as rules
use Rattle.st_tree.specs.Literals.{number_of}

-- a number of LINT
abbrev pub bound_by : ℤ → Option ℤ
bound_by n = if in_range elems.Lint n then Some n else None

abbrev pub bound_of : SignedInteger → Option ℤ
bound_of n = bound_by (number_of n)

-- The lower bound isn't above the upper.
abbrev pub is_upper : Option ℤ → Option ℤ → Bool
is_upper lower None = false
is_upper None (Some u) = true
is_upper (Some l) (Some u) = not (int_lt u l)

-- Bounds are numbers of LINT, and the lower isn't above the upper.
abbrev pub subrange_faults : Subrange → List Fault
subrange_faults r =
    when (not (is_some (bound_of r.lower))) (fault r.lower.position rules.OutOfRange)
    ++ when (not (is_upper (bound_of r.lower) (bound_of r.upper))) (fault r.upper.position rules.OutOfRange)

-- ---- how many elements there are

-- how many numbers there are from zero to this one
abbrev pub count_to : ℤ → Option ℕ
count_to (pos n) = Some (n + 1)
count_to (negsuc n) = None

-- how many there are from one number to another
abbrev pub count_between : Option ℤ → Option ℤ → Option ℕ
count_between (Some l) (Some u) = count_to (u -ℤ l)
count_between _ _ = None

-- how many values a subscript has, where its bounds are right
abbrev pub subrange_size : Subrange → Option ℕ
subrange_size r = count_between (bound_of r.lower) (bound_of r.upper)

abbrev pub product : Option ℕ → Option ℕ → Option ℕ
product (Some m) (Some n) = Some (m * n)
product _ _ = None

-- how many elements the subscripts select, where all are right
abbrev pub array_size : List Subrange → Option ℕ
array_size [] = Some 1
array_size (r ∷ rs) = product (subrange_size r) (array_size rs)

-- more than so many, where that is known
abbrev pub is_more : ℕ → Option ℕ → Bool
is_more n None = false
is_more n (Some most) = nat_lt most n
