-- Why a text is refused.
use Rattle.std.specs.Prelude.{ℕ}
use Rattle.st_faults.specs.Faults.{number_of}
use Rattle.st_faults.specs.declared.example.Cause.{Cause}
use Rattle.st_faults.specs.declared.example.Cause.TheVariants as causes
use Rattle.st_faults.specs.declared.explanation.Family.{Family}
use Rattle.st_faults.specs.declared.explanation.Family.TheVariants.{Syntax, Check}

-- the family of the number that is answered
abbrev pub family_of : Cause → Family
family_of (causes.Syntax number) = Syntax
family_of (causes.Rule rule) = Check

-- the number behind its letter
abbrev pub number_behind : Cause → ℕ
number_behind (causes.Syntax number) = number
number_behind (causes.Rule rule) = number_of rule
