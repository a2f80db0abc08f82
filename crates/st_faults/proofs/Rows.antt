-- Rows of the tables.
use Rattle.std.proofs.Common.{◌≡◌, ℕ, Bool, true, false, List, [], ◌∷◌, refl, sym, subst, map, Option, Some, None}
use Rattle.std.specs.List.{find}
use Rattle.std.specs.Option.{option_map}
use Rattle.std.specs.Prelude.{IsSome}
use Rattle.st_faults.specs.Faults.{number_of as rule_number}
use Rattle.st_faults.specs.declared.fault.Rule.{Rule}
use Rattle.st_faults.specs.declared.fault.Rule.TheVariants as rules
use Rattle.st_faults.specs.Meanings.{Meaning, has_number, meaning_at}
use Rattle.st_faults.specs.declared.explanation.Family.TheVariants.{Check}

by_test : {P : Type 0} (b : Bool) → (b ≡ true → P) → (b ≡ false → P) → P
by_test true h k = h refl
by_test false h k = k refl

-- what is found among the rows is the meaning of the row that is found
pub found_in : {R : Type 0} (rows : List R) (meaning : R → Meaning) (number : ℕ)
    → option_map meaning (find (λ row. has_number number (meaning row)) rows) ≡ find (has_number number) (map meaning rows)
found_in [] meaning number = refl
found_in (row ∷ rows) meaning number =
    by_test (has_number number (meaning row)) (λ t. rw t refl) (λ t. rw t (found_in rows meaning number))

-- each rule has a row
pub rule_listed : (rule : Rule) → IsSome (meaning_at Check (rule_number rule))
rule_listed rules.UnknownName = refl
rule_listed rules.NameTwice = refl
rule_listed rules.TypeMismatch = refl
rule_listed rules.OutOfRange = refl
rule_listed rules.NotAssignable = refl
rule_listed rules.Recursion = refl
rule_listed rules.CallMismatch = refl
rule_listed rules.MalformedChart = refl
rule_listed rules.LimitPassed = refl
rule_listed rules.NoProgram = refl

-- where there is a meaning, there is what means it
pub some_of : {A B : Type 0} (f : A → B) (o : Option A) (p : Option B) → option_map f o ≡ p → IsSome p → IsSome o
some_of f None p e h = subst IsSome (sym e) h
some_of f (Some a) p e h = refl
