-- Texts that are accepted or refused.
use Rattle.std.proofs.Common.{◌≡◌, ◌∙◌, ℕ, List, Some, Ok, Err, inl, inr, ap, refl, sym}
use Rattle.st_check.specs.Answers as checks
use Rattle.st_check.specs.Answers.Explains.{memory, fault, no_program}
use Rattle.st_check.specs.Faults.{program_named}
use Rattle.st_check.specs.Programs.{ProgramView, leaves_of_program, main_of, text_of}
use Rattle.st_check.specs.declared.fault.CheckFault.{CheckFault}
use Rattle.st_syntax.proofs.Top.{one_text}
use Rattle.st_tree.specs.declared.tree.unit.Unit.{Unit as ProgramUnit}
use Rattle.st_types.specs.Names.{units_of}
use Rattle.st_control.specs.Texts.{AreAccepted, IsCheckedAs, TextsGiveOneList, refusal_of_rules}
use Rattle.st_control.specs.declared.refusal.Refusal.TheVariants as refusals

-- the leaves are those of the units and the main program, whatever the order is
same_leaves : (program other : ProgramView) → text_of program ≡ text_of other → main_of program ≡ main_of other → leaves_of_program program ≡ leaves_of_program other
unfolding leaves_of_program
same_leaves program other units main = rw (units, main) refl

-- all programs that a text is checked as are alike
pub one_list : TextsGiveOneList
one_list text main program other is more =
    let units : text_of program ≡ text_of other = one_text text (text_of program) (text_of other) is.accepted.1 more.accepted.1 in
    let numbers : Some (main_of program) ≡ Some (main_of other) = sym is.named ∙ (ap (λ it. program_named (units_of it) main) units ∙ more.named) in
    let number : main_of program ≡ main_of other = cc in
    record { units = units; main = number; leaves = same_leaves program other units number }

-- units that are accepted are refused for want of memory alone
pub accepted_only_memory : (units : List ProgramUnit) (main : List ℕ) (broken : CheckFault) → AreAccepted units main → checks.Explains units main broken → refusal_of_rules broken ≡ refusals.M
accepted_only_memory units main _ accepted memory = refl
accepted_only_memory units main _ accepted (fault {f = f} first) = absurd (accepted.1.none f first.there)
accepted_only_memory units main _ accepted (no_program missing) =
    let none = missing.missing in
    let found = accepted.1.program in
    absurd (cc (none, found))

-- what is accepted may be refused for want of memory
pub memory_refuses : (text main : List ℕ) (units : List ProgramUnit) → IsCheckedAs text main (Ok units) → IsCheckedAs text main (Err refusals.M)
memory_refuses text main units accepted = inr (accepted.0, inl refl)
