-- The leaves in the code of a unit are those of an instance of it, by their distance from its first leaf.
use Rattle.std.specs.Prelude.{◌≡◌, ℕ, ◌+◌, ◌≤◌, min, ℤ, List, [], length, map}
use Rattle.st_meaning.specs.Meaning.{Values}
use Rattle.st_meaning.specs.Statements.{Setting, Outcome, done, exited, returned, faulted, ended, setting_from, stretch, with_stretch}
use Rattle.st_code.specs.Code.{Line}
use Rattle.st_code.specs.Machine.{After, goes, ends, stuck, Environment, UnitBody, Reaches, act, state}
use Rattle.st_code.specs.declared.instr.Instr.{Instr}
use Rattle.st_code.specs.declared.instr.Instr.TheVariants.{Get, GetAt, Put, PutAt, Begin, Test, Next, Invoke, Enter, Times, Ask, Chart}

-- the leaf in an instruction, and 0 where it has none
abbrev pub leaf_in : Instr → ℕ
leaf_in (Get leaf) = leaf
leaf_in (GetAt leaf) = leaf
leaf_in (Put e leaf) = leaf
leaf_in (PutAt e leaf) = leaf
leaf_in (Begin e leaf) = leaf
leaf_in (Test e leaf distance) = leaf
leaf_in (Next e leaf distance) = leaf
leaf_in (Invoke b leaf) = leaf
leaf_in (Enter leaf unit) = leaf
leaf_in (Times unit leaf) = leaf
leaf_in (Ask unit leaf number) = leaf
leaf_in (Chart unit leaf) = leaf
leaf_in i = 0

-- the instruction with another leaf in its place
abbrev pub with_leaf : Instr → ℕ → Instr
with_leaf (Get leaf) n = Get n
with_leaf (GetAt leaf) n = GetAt n
with_leaf (Put e leaf) n = Put e n
with_leaf (PutAt e leaf) n = PutAt e n
with_leaf (Begin e leaf) n = Begin e n
with_leaf (Test e leaf distance) n = Test e n distance
with_leaf (Next e leaf distance) n = Next e n distance
with_leaf (Invoke b leaf) n = Invoke b n
with_leaf (Enter leaf unit) n = Enter n unit
with_leaf (Times unit leaf) n = Times unit n
with_leaf (Ask unit leaf number) n = Ask unit n number
with_leaf (Chart unit leaf) n = Chart unit n
with_leaf i n = i

-- the same instruction for an instance whose first leaf has this number
abbrev pub from_leaf : ℕ → Instr → Instr
from_leaf first i = with_leaf i (first + leaf_in i)

-- the same, where a number that is too large for 32 bits is the greatest one that isn't
abbrev pub clipped_from : ℕ → Instr → Instr
clipped_from first i = with_leaf i (min (first + leaf_in i) 4294967295)

-- ---- what an instruction does to the values of an instance, it does among all values

-- what a run on these values is given, seen from a leaf on
abbrev pub environment_from : ℕ → Environment → Environment
environment_from first env = record { setting = setting_from first env.setting; bodies = env.bodies; functions = env.functions; charts = env.charts }

-- Where the run on a stretch of the values goes on, the other one does with what it leaves of the stretch among all values, and where it
-- ends, which is at a fault, the other one ends so. Where it is stuck nothing is said.
abbrev pub GoesAlike : Values → ℕ → (part whole : After) → Type 0
GoesAlike values first (goes s) after = after ≡ goes (state s.place s.stack (with_stretch values first s.values) s.left)
GoesAlike values first (ends (faulted f)) after = after ≡ ends (faulted f)
GoesAlike values first (ends _) after = ⊥
GoesAlike values first stuck after = Unit {0}

abbrev pub InstructionsAreRelative : Type 0
InstructionsAreRelative = (env : Environment) (room : ℕ) (i : Instr) (line place : ℕ) (stack : List ℤ) (values : Values) (left first size : ℕ) → first + size ≤ length values
    → GoesAlike values first (act (environment_from first env) room i line place stack (stretch values first size) left)
    (act env room (from_leaf first i) line place stack values left)

-- ---- how many values there are

-- so many values are left
abbrev pub LeavesSoMany : ℕ → Outcome → Type 0
LeavesSoMany n (done values left) = length values ≡ n
LeavesSoMany n (exited values left) = length values ≡ n
LeavesSoMany n (returned values left) = length values ≡ n
LeavesSoMany n (faulted f) = Unit {0}

-- each body leaves as many values as an instance has leaves
abbrev pub KeepLengths : (ℕ → UnitBody) → Type 0
KeepLengths bodies = (unit : ℕ) (setting : Setting) (values : Values) (left : ℕ) → length values ≡ (bodies unit).size
    → LeavesSoMany (bodies unit).size (ended ((bodies unit).run setting values left))

abbrev pub HasSoMany : ℕ → After → Type 0
HasSoMany n (goes s) = length s.values ≡ n
HasSoMany n (ends o) = Unit {0}
HasSoMany n stuck = Unit {0}

abbrev pub InstructionsKeepLengths : Type 0
InstructionsKeepLengths = (env : Environment) (room : ℕ) (i : Instr) (line place : ℕ) (stack : List ℤ) (values : Values) (left : ℕ) → KeepLengths env.bodies
    → HasSoMany (length values) (act env room i line place stack values left)

-- ---- what a run does to the values of an instance, it does among all values

-- the line for an instance whose first leaf has this number
abbrev pub line_from : ℕ → Line → Line
line_from first l = record { instr = from_leaf first l.instr; line = l.line }

abbrev pub code_from : ℕ → List Line → List Line
code_from first code = map (line_from first) code

-- what a run leaves of a stretch of the values, among all of them
abbrev pub among : Values → ℕ → Outcome → Outcome
among values first (done part left) = done (with_stretch values first part) left
among values first (exited part left) = exited (with_stretch values first part) left
among values first (returned part left) = returned (with_stretch values first part) left
among values first (faulted f) = faulted f

abbrev pub RunsAreRelative : Type 0
RunsAreRelative = (env : Environment) (room : ℕ) (code : List Line) (o : Outcome) (values : Values) (left first size : ℕ) → KeepLengths env.bodies
    → first + size ≤ length values → Reaches (environment_from first env) room code o (state 0 [] (stretch values first size) left)
    → Reaches env room (code_from first code) (among values first o) (state 0 [] values left)
