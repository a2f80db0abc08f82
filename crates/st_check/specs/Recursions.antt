-- The faults of the units of a text, before its program is looked for.
use Rattle.std.specs.Prelude.{◌≡◌, ◌≤◌, ℕ, false, List, [], ◌∷◌, Option, Some, None}
use Rattle.std.specs.List.{Contains, flat_map}
use Rattle.st_tree.specs.declared.tree.unit.Unit.{Unit as Section}
use Rattle.st_faults.specs.Faults.{First, fault, is_before, offer_all}
use Rattle.st_faults.specs.declared.fault.Fault.{Fault}
use Rattle.st_faults.specs.declared.fault.Rule.TheVariants as rules
use Rattle.st_types.specs.Names.{Named, unit_at}
use Rattle.st_check.specs.Faults.{IsUnitFault}
use Rattle.st_check.specs.declared.faults.Unordered.{Unordered}
use Rattle.st_check.specs.declared.faults.Unordered.TheVariants as unordered

-- C6 at the name of a unit
abbrev pub recursion_of : Option Named → List Fault
recursion_of None = []
recursion_of (Some u) = fault u.name.position rules.Recursion ∷ []

-- C6 at the names of the units of these numbers
abbrev pub recursions : List Named → List ℕ → List Fault
recursions units numbers = flat_map (λ i. recursion_of (unit_at units i)) numbers

-- these are the faults of the units
pub record AreUnitFaults (text : List Section) (fs : List Fault) : Type 0 where
  pub are : (f : Fault) → Contains fs f → IsUnitFault text f
  pub all : (f : Fault) → IsUnitFault text f → Contains fs f

-- they were offered
abbrev pub OffersUnitFaults : List Section → First → First → Type 0
OffersUnitFaults text old new = (fs : List Fault) × AreUnitFaults text fs × (new ≡ offer_all old fs)

abbrev pub HasUnitFault : List Section → Type 0
HasUnitFault text = (f : Fault) × IsUnitFault text f

-- the first fault of the units
pub record IsFirstOfUnits (text : List Section) (f : Fault) : Type 0 where
  pub there : IsUnitFault text f
  pub first : (g : Fault) → IsUnitFault text g → is_before g f ≡ false

-- the first one at a token from this one on
pub record IsFirstOfUnitsFrom (start : ℕ) (text : List Section) (f : Fault) : Type 0 where
  pub there : IsUnitFault text f
  pub behind : start ≤ f.position.number
  pub first : (g : Fault) → IsUnitFault text g → start ≤ g.position.number → is_before g f ≡ false

-- there is none at a token from this one on
abbrev pub HasNoneFrom : ℕ → List Section → Type 0
HasNoneFrom start text = (f : Fault) → IsUnitFault text f → start ≤ f.position.number → ⊥

-- the units have no order, or this first fault
abbrev pub IsOfUnits : List Section → Unordered → Type 0
IsOfUnits text unordered.Memory = Unit {0}
IsOfUnits text (unordered.Fault f) = IsFirstOfUnits text f
