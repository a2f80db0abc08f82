-- Refusals, each by its name.
use Rattle.st_control.specs.declared.refusal.Refusal.{Refusal}
use Rattle.st_control.specs.declared.refusal.Refusal.TheVariants.{M, O, S}
use Rattle.st_layout.specs.declared.plan_fault.PlanFault.{PlanFault}
use Rattle.st_layout.specs.declared.plan_fault.PlanFault.TheVariants.{Memory, NotPaired}

-- ---- of an operator's command (O)

-- there is no leaf with this path
abbrev pub no_such_path : Refusal
no_such_path = O 1

-- an operator may not write or force the leaf
abbrev pub not_open : Refusal
not_open = O 2

-- the value isn't one of the leaf's type
abbrev pub not_of_type : Refusal
not_of_type = O 3

-- the leaf is forced
abbrev pub is_forced : Refusal
is_forced = O 4

-- the leaf isn't forced
abbrev pub not_forced : Refusal
not_forced = O 5

-- as many commands can be undone as may be
abbrev pub undo_full : Refusal
undo_full = O 6

-- there is nothing to undo
abbrev pub nothing_to_undo : Refusal
nothing_to_undo = O 7

-- a chart that both programs have would keep no active step
abbrev pub no_active_step : Refusal
no_active_step = O 8

-- the moment of a scan is before the last one, or above the greatest
abbrev pub moment_past : Refusal
moment_past = O 9

-- the program was halted by a fault
abbrev pub halted : Refusal
halted = O 10

-- a session has no such line
abbrev pub no_such_line : Refusal
no_such_line = O 11

-- a scan has a value for a leaf that isn't a process input
abbrev pub not_an_input : Refusal
not_an_input = O 12

-- the renames of an online change give no pairs
abbrev pub not_paired : Refusal
not_paired = O 13

-- ---- of a text (S and C)

-- the text is longer than a text may be
abbrev pub too_long : Refusal
too_long = S 4 1

-- ---- of both

-- there is no memory
abbrev pub no_memory : Refusal
no_memory = M

-- how it is answered that an online change has no plan
abbrev pub refusal_of_plan : PlanFault → Refusal
refusal_of_plan Memory = no_memory
refusal_of_plan NotPaired = not_paired
