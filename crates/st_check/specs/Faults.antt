-- The faults of a text as a program of some name: what is accepted, and of what is refused the first fault.
use Rattle.std.specs.Prelude.{◌≡◌, ℕ, Bool, true, false, ◌&&◌, List, length, Option, Some, None}
use Rattle.std.specs.List.{Contains, position}
use Rattle.st_values.specs.Words.{is_word}
use Rattle.st_tree.specs.declared.tree.unit.Unit.{Unit as Section}
use Rattle.st_faults.specs.Faults.{fault, is_before}
use Rattle.st_faults.specs.declared.fault.Fault.{Fault}
use Rattle.st_faults.specs.declared.fault.Rule.TheVariants as rules
use Rattle.st_types.specs.Names.{Named, Declares, unit_at, units_of}
use Rattle.st_types.specs.Names as names
use Rattle.st_references.specs.Graphs.{Reaches}
use Rattle.st_references.specs.References.{graph_of}
use Rattle.st_leaves.specs.Leaves.{leaves_of}
use Rattle.st_leaves.specs.Limits.{is_too_large}
use Rattle.st_check_units.specs.Units.{node_faults}

abbrev pub is_program : Declares → Bool
is_program (names.program p) = true
is_program _ = false

-- the unit is a program of this name, ignoring case (2.5.3)
abbrev pub is_main : List ℕ → Named → Bool
is_main main u = is_program u.declares && is_word main u.name.spelling

-- the number of the first program of this name
abbrev pub program_named : List Named → List ℕ → Option ℕ
program_named units main = position (is_main main) units

-- what the rules say of the units, without their sizes
pub data IsUnitFault (text : List Section) : Fault → Type 0 where
  -- C1 to C5, C7, C8, and C9 of the number of units and of their names
  listed : {f : Fault} → Contains (node_faults (units_of text)) f → IsUnitFault text f
  -- C6: a unit that contains or calls itself, directly or through others
  recursion : {i : ℕ} {u : Named} → unit_at (units_of text) i ≡ Some u → Reaches (graph_of (units_of text)) i i
      → IsUnitFault text (fault u.name.position rules.Recursion)

module _ (text : List Section) (main : List ℕ) where
  pub data IsFault : Fault → Type 0 where
    unit : {f : Fault} → IsUnitFault text f → IsFault f
    -- C9: the program is too large, where there is no other fault
    size : {i : ℕ} {u : Named} → ((f : Fault) → IsUnitFault text f → ⊥) → program_named (units_of text) main ≡ Some i → unit_at (units_of text) i ≡ Some u
        → is_too_large (length u.name.spelling) (leaves_of (units_of text) u.declares) ≡ true
        → IsFault (fault u.name.position rules.LimitPassed)

  -- the first fault, by token and then by number
  pub record IsFirst (f : Fault) : Type 0 where
    pub there : IsFault f
    pub first : (g : Fault) → IsFault g → is_before g f ≡ false

  -- C10: there is no such program, and no fault
  pub record HasNoProgram : Type 0 where
    pub none : (f : Fault) → IsFault f → ⊥
    pub missing : program_named (units_of text) main ≡ None

  -- there is no fault, and a program of this name, which has this number
  pub record IsAccepted (number : ℕ) : Type 0 where
    pub none : (f : Fault) → IsFault f → ⊥
    pub program : program_named (units_of text) main ≡ Some number
