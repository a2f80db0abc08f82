-- Faults, and the first of some.
use Rattle.std.specs.Prelude.{◌≡◌, ◌≤◌, ℕ, Bool, false, ◌&&◌, ◌||◌, ◌==◌, nat_lt, if◌then◌else◌, List, [], ◌∷◌, Option, Some, None}
use Rattle.std.specs.List.{Contains}
use Rattle.st_tree.specs.declared.tree.position.Position.{Position}
use Rattle.st_faults.specs.declared.fault.Fault.{Fault}
use Rattle.st_faults.specs.declared.fault.Rule.{Rule}
use Rattle.st_faults.specs.declared.fault.Rule.TheVariants as rules

abbrev pub number_of : Rule → ℕ
number_of rules.UnknownName = 1
number_of rules.NameTwice = 2
number_of rules.TypeMismatch = 3
number_of rules.OutOfRange = 4
number_of rules.NotAssignable = 5
number_of rules.Recursion = 6
number_of rules.CallMismatch = 7
number_of rules.MalformedChart = 8
number_of rules.LimitPassed = 9
number_of rules.NoProgram = 10

-- a rule that is broken at a token
abbrev pub fault : Position → Rule → Fault
fault position rule = record { position = position; rule = rule }

abbrev pub when : Bool → Fault → List Fault
when is_broken f = if is_broken then f ∷ [] else []

-- by token, and at one token by the rule's number
abbrev pub is_before : Fault → Fault → Bool
is_before f g = nat_lt f.position.number g.position.number || (f.position.number == g.position.number && nat_lt (number_of f.rule) (number_of g.rule))

-- the first fault so far, and one more
abbrev pub earlier : Option Fault → Fault → Option Fault
earlier None f = Some f
earlier (Some g) f = if is_before f g then Some f else Some g

-- what was kept of the faults that were offered: the first of those at tokens from this one on
pub record First : Type 0 where
  pub start : ℕ
  pub kept : Option Fault

-- nothing was offered yet
abbrev pub none_from : ℕ → First
none_from start = record { start = start; kept = None }

-- one more fault, which counts where its token doesn't stand before the start
unfoldable pub with_fault : First → Fault → First
with_fault first f = if nat_lt f.position.number first.start then first else record { start = first.start; kept = earlier first.kept f }

-- what was kept so far, and more is offered
unfoldable pub offer_all : First → List Fault → First
offer_all first [] = first
offer_all first (f ∷ fs) = offer_all (with_fault first f) fs

-- the fault is among these, at a token from this one on, and none of those comes before it
pub record IsFirstFrom (start : ℕ) (fs : List Fault) (f : Fault) : Type 0 where
  pub there : Contains fs f
  pub behind : start ≤ f.position.number
  pub first : (g : Fault) → Contains fs g → start ≤ g.position.number → is_before g f ≡ false

abbrev pub KeepsFirstFault : Type 0
KeepsFirstFault = (start : ℕ) (fs : List Fault) (f : Fault) → (offer_all (none_from start) fs).kept ≡ Some f → IsFirstFrom start fs f

abbrev pub KeepsAnyFault : Type 0
KeepsAnyFault = (start : ℕ) (fs : List Fault) (f : Fault) → (offer_all (none_from start) fs).kept ≡ None → Contains fs f → start ≤ f.position.number → ⊥
