-- The code of a rule that is broken.
use Rattle.st_faults.specs.declared.fault.Rule.{Rule}
use Rattle.st_faults.specs.Faults.{number_of}
use Rattle.st_messages.specs.declared.form.Code.{Code}

-- `C` and the number of a rule
abbrev pub code_of : Rule → Code
code_of rule = record { letter = 67; number = number_of rule }
