-- Texts that are accepted, and why others are refused.
use Rattle.std.specs.Prelude.{ℕ, ◌≡◌, ◌⊎◌, ◌<◌, ◌≤◌, ◌^◌, List, length, Result, Some, Ok, Err}
use Rattle.std.specs.Option.{option_map_or}
use Rattle.st_check.specs.Answers as checks
use Rattle.st_check.specs.Answers.{line_of, rule_of}
use Rattle.st_check.specs.Faults.{IsAccepted, program_named}
use Rattle.st_check.specs.Programs.{IsChecked, ProgramView, leaves_of_program, main_of, text_of}
use Rattle.st_check.specs.declared.fault.CheckFault.{CheckFault}
use Rattle.st_control.specs.Causes.{too_long}
use Rattle.st_control.specs.declared.refusal.Refusal.{Refusal}
use Rattle.st_control.specs.declared.refusal.Refusal.TheVariants as refusals
use Rattle.st_faults.specs.Faults.{number_of}
use Rattle.st_syntax.specs.Grammar.Texts.{Explains, IsTextOf}
use Rattle.st_tokens.specs.declared.fault.SyntaxFault.{SyntaxFault}
use Rattle.st_tokens.specs.declared.fault.SyntaxFault.TheVariants as syntax_faults
use Rattle.st_tree.specs.declared.tree.unit.Unit.{Unit as ProgramUnit}
use Rattle.st_types.specs.Names.{units_of}

-- ---- refusals

-- how a fault of the parser is answered: S1 to S4, and the line that it names
abbrev pub refusal_of : SyntaxFault → Refusal
refusal_of syntax_faults.Memory = refusals.M
refusal_of (syntax_faults.NoToken line) = refusals.S 1 line
refusal_of (syntax_faults.NotInGrammar line) = refusals.S 2 line
refusal_of (syntax_faults.TooDeep line) = refusals.S 3 line
refusal_of syntax_faults.TooLong = too_long

-- how a fault of the rules is answered: C1 to C10 by the rule that is broken, and the line that it names
abbrev pub refusal_of_rules : CheckFault → Refusal
refusal_of_rules fault = option_map_or (λ rule. refusals.C (number_of rule) (line_of fault)) (rule_of fault) refusals.M

-- the refusal is the answer to a fault that the text has
abbrev pub IsFaultOf : List ℕ → Refusal → Type 0
IsFaultOf text refusal = (fault : SyntaxFault) × (refusal ≡ refusal_of fault) × Explains fault text

-- the text is units, and the refusal is the answer to a rule that they break
abbrev pub IsFaultOfUnits : List ℕ → List ℕ → Refusal → Type 0
IsFaultOfUnits text main refusal =
    (units : List ProgramUnit) × IsTextOf text units × ((fault : CheckFault) × (refusal ≡ refusal_of_rules fault) × checks.Explains units main fault)

-- a text that isn't too long is refused by a fault that it has, by a rule that its units break, or for want of memory
abbrev pub IsRefusedAs : List ℕ → List ℕ → Refusal → Type 0
IsRefusedAs text main refusal = (refusal ≡ refusals.M) ⊎ (IsFaultOf text refusal ⊎ IsFaultOfUnits text main refusal)

-- ---- what a text is checked as

-- the units break no rule, and a program of this name, ignoring case, is among them
abbrev pub AreAccepted : List ProgramUnit → List ℕ → Type 0
AreAccepted units main = (number : ℕ) × IsAccepted units main number

-- what the checks of a text answer: its units, or why they aren't accepted
abbrev pub Checked : Type 0
Checked = Result (List ProgramUnit) Refusal

-- A text of at most 2 ^ 20 bytes is accepted as units that have a program of this name, or refused. A longer one is refused as
-- too long, whatever else holds of it.
abbrev pub IsCheckedAs : List ℕ → List ℕ → Checked → Type 0
IsCheckedAs text main (Ok units) = (length text ≤ 2 ^ 20) × IsTextOf text units × AreAccepted units main
IsCheckedAs text main (Err refusal) =
    ((2 ^ 20 < length text) × (refusal ≡ too_long)) ⊎ ((length text ≤ 2 ^ 20) × IsRefusedAs text main refusal)

-- something holds of what the text is checked as
abbrev pub OfCheck : List ℕ → List ℕ → (Checked → Type 0) → Type 0
OfCheck text main P = (checked : Checked) × IsCheckedAs text main checked × P checked

-- ---- the programs of a text

-- The program is one that the text is checked as: it has the text's units, its main program is the first of this name,
-- ignoring case, and its order is one in which they can be taken.
pub record IsProgramOf (text main : List ℕ) (program : ProgramView) : Type 0 where
  pub accepted : IsCheckedAs text main (Ok (text_of program))
  pub checked : IsChecked program
  pub named : program_named (units_of (text_of program)) main ≡ Some (main_of program)

-- A text is read as a program, or refused as its checks refuse it: one that is not too long, also for want of memory.
abbrev pub Reads : List ℕ → List ℕ → Result ProgramView Refusal → Type 0
Reads text main (Ok program) = IsProgramOf text main program
Reads text main (Err refusal) = IsCheckedAs text main (Err refusal)

-- All programs that a text is checked as have the same units, the same main program and the same leaves.
pub record AreAlike (program other : ProgramView) : Type 0 where
  pub units : text_of program ≡ text_of other
  pub main : main_of program ≡ main_of other
  pub leaves : leaves_of_program program ≡ leaves_of_program other

abbrev pub TextsGiveOneList : Type 0
TextsGiveOneList = (text main : List ℕ) (program other : ProgramView) →
    IsProgramOf text main program → IsProgramOf text main other → AreAlike program other
