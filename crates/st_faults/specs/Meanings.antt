-- Families and their tables.
use Rattle.std.specs.Prelude.{ℕ, Bool, ◌==◌, List, Option, map}
use Rattle.std.specs.List.{find}
use Rattle.st_faults.specs.declared.explanation.Explanation.{Explanation}
use Rattle.st_faults.specs.declared.explanation.Family.{Family}
use Rattle.st_faults.specs.declared.explanation.Family.TheVariants.{Syntax, Check, Operator, Fault}
use Rattle.st_faults.specs.declared.meanings.TheConstants.{SYNTAX, CHECKS, COMMANDS, FAULTS}

-- the letter that stands before a family's numbers: S, C, O, F
abbrev pub letter_of : Family → ℕ
letter_of Syntax = 83
letter_of Check = 67
letter_of Operator = 79
letter_of Fault = 70

-- a number, and the texts of its title, its sentence and its advice
pub record Meaning : Type 0 where
  pub number : ℕ
  pub title : List ℕ
  pub sentence : List ℕ
  pub advice : List ℕ

abbrev pub meaning : (number : ℕ) (title sentence advice : List ℕ) → Meaning
meaning number title sentence advice = record { number = number; title = title; sentence = sentence; advice = advice }

abbrev pub meaning_of : Explanation → Meaning
meaning_of explanation = meaning explanation.number explanation.title.now explanation.sentence.now explanation.advice.now

-- the table of a family
abbrev pub table_of : Family → List Meaning
table_of Syntax = map (λ row. meaning row.0 row.1.now row.2.now row.3.now) SYNTAX
table_of Check = map (λ row. meaning row.0 row.1.now row.2.now row.3.now) CHECKS
table_of Operator = map (λ row. meaning row.0 row.1.now row.2.now row.3.now) COMMANDS
table_of Fault = map (λ row. meaning row.0 row.1.now row.2.now row.3.now) FAULTS

abbrev pub number_of : Meaning → ℕ
number_of row = row.number

abbrev pub has_number : ℕ → Meaning → Bool
has_number number row = row.number == number

-- what a number of a family means: the first row of its table that has it
abbrev pub meaning_at : Family → ℕ → Option Meaning
meaning_at family number = find (has_number number) (table_of family)
