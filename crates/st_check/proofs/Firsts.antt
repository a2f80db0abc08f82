-- Answers exclude one another, and first faults are one.
use Rattle.std.proofs.Common.{◌≡◌, ℕ, ◌==◌, false, Some, None, refl, ap, sym, ◌∙◌, arith, if◌then◌else◌}
use Rattle.std.proofs.lemmas.Bool.Decides.{nat_tests}
use Rattle.st_faults.specs.Faults.{is_before, number_of}
use Rattle.st_faults.specs.declared.fault.Fault.{Fault}
use Rattle.st_faults.specs.declared.fault.Rule.{Rule}
use Rattle.st_faults.specs.declared.fault.Rule.TheVariants as rules
use Rattle.st_check.specs.Laws.{AcceptedOnce, FirstIsNotAccepted, FirstIsOne, MissingIsNotAccepted, MissingIsNotFirst}

pub first_is_not_accepted : FirstIsNotAccepted
first_is_not_accepted text main f number w v = v.none f w.there

pub missing_is_not_accepted : MissingIsNotAccepted
missing_is_not_accepted text main number w v = (let e : Some number ≡ None = sym v.program ∙ w.missing in absurd (cc))

pub missing_is_not_first : MissingIsNotFirst
missing_is_not_first text main f w v = w.none f v.there

pub accepted_once : AcceptedOnce
accepted_once text main number other w v = (let e : Some number ≡ Some other = sym w.program ∙ v.program in cc)

-- ---- the rule of a number

abbrev rule_with : ℕ → Rule
rule_with n =
    if n == 1 then rules.UnknownName else
    if n == 2 then rules.NameTwice else
    if n == 3 then rules.TypeMismatch else
    if n == 4 then rules.OutOfRange else
    if n == 5 then rules.NotAssignable else
    if n == 6 then rules.Recursion else
    if n == 7 then rules.CallMismatch else
    if n == 8 then rules.MalformedChart else
    if n == 9 then rules.LimitPassed else
    rules.NoProgram

with_number : (r : Rule) → rule_with (number_of r) ≡ r
with_number rules.UnknownName = refl
with_number rules.NameTwice = refl
with_number rules.TypeMismatch = refl
with_number rules.OutOfRange = refl
with_number rules.NotAssignable = refl
with_number rules.Recursion = refl
with_number rules.CallMismatch = refl
with_number rules.MalformedChart = refl
with_number rules.LimitPassed = refl
with_number rules.NoProgram = refl

same_token : (f g : Fault) → is_before f g ≡ false → is_before g f ≡ false → f.position.number ≡ g.position.number
same_token f g a b = grind (arith, nat_tests)

same_rule : (f g : Fault) → is_before f g ≡ false → is_before g f ≡ false → number_of f.rule ≡ number_of g.rule
same_rule f g a b = grind (arith, nat_tests)

pub first_is_one : FirstIsOne
first_is_one text main f g w v =
    let a : is_before f g ≡ false = v.first f w.there in
    let b : is_before g f ≡ false = w.first g v.there in
    (same_token f g a b, sym (with_number f.rule) ∙ ap rule_with (same_rule f g a b) ∙ with_number g.rule)
