-- What follows of what memories hold, and of what an online change makes of it.
use Rattle.std.specs.Prelude.{ℕ, pos, ◌≡◌, ◌<◌, ◌↔◌, Bool, false, if◌then◌else◌, List, length, Option, Some, None, IsSome, IsSomeAnd, IfSome, IsTrue}
use Rattle.std.specs.List.{All, AllPairs, Contains, filter, flat_map, range_with_len, sum_by}
use Rattle.std.specs.Option.{is_none, option_map, option_map_or}
use Rattle.std.specs.Str.{bytes_eq}
use Rattle.st_values.specs.Types.{width_of}
use Rattle.st_values.specs.Words.{raised}
use Rattle.st_values.specs.declared.value.Value.{Value}
use Rattle.st_tree.specs.declared.leaf.Leaf.{Leaf}
use Rattle.st_tree.specs.declared.leaf.Role.{Role}
use Rattle.st_tree.specs.declared.leaf.Role.TheVariants.{StepActive, StepPulsed}
use Rattle.st_leaves.specs.Sound.{IsSound}
use Rattle.st_layout.specs.Layout.{IsOpenAt, IsValueAt, leaf_at, number_of, paths_of}
use Rattle.st_layout.specs.Pairs.{IsPairing, Pairs, number_at}
use Rattle.st_memory.specs.Bytes.{value_bytes}
use Rattle.st_memory.specs.Memory.{Content, Fits, ForcesAreOpen, forced_at, value_at, with_force, with_value}
use Rattle.st_memory.specs.Moves.{HoldsValues, moved, saved, truth, unmoved}
use Rattle.st_memory.specs.declared.saved.Saved.{Saved}

-- the value at a path, ignoring case
abbrev pub value_of : List Leaf → Content → List ℕ → Option Value
value_of leaves content path = option_map (value_at content.values) (number_of leaves path)

-- whether the path is that of a forced leaf
abbrev pub is_forced : List Leaf → Content → List ℕ → Bool
is_forced leaves content path = option_map_or (forced_at content.forced) (number_of leaves path) false

-- whether the path is that of the leaf of this number
abbrev pub is_path_of : List Leaf → ℕ → List ℕ → Bool
is_path_of leaves i path = bytes_eq (raised path) (leaf_at leaves i).path

-- A content has a value exactly at each leaf's path, of the leaf's type.
abbrev pub HasLeavesValues : Type 0
HasLeavesValues = (leaves : List Leaf) (content : Content) (path : List ℕ) → Fits leaves content →
    (IsSome (value_of leaves content path) ↔ Contains (paths_of leaves) (raised path))
    × IfSome (number_of leaves path) (λ i. IfSome (value_of leaves content path) (λ value. IsValueAt leaves i value))

-- One value is replaced at the path of its leaf. All other values, and all forces, stay.
abbrev pub SetChangesOneValue : Type 0
SetChangesOneValue = (leaves : List Leaf) (content : Content) (i : ℕ) (value : Value) (path : List ℕ) → IsSound leaves → Fits leaves content → i < length leaves →
    (value_of leaves (with_value content i value) path ≡ (if is_path_of leaves i path then Some value else value_of leaves content path))
    × (is_forced leaves (with_value content i value) path ≡ is_forced leaves content path)

-- One path is put among the forced ones, or taken from them. All other forces, and all values, stay.
abbrev pub MarkChangesOneForce : Type 0
MarkChangesOneForce = (leaves : List Leaf) (content : Content) (i : ℕ) (on : Bool) (path : List ℕ) → IsSound leaves → Fits leaves content → i < length leaves →
    (is_forced leaves (with_force content i on) path ≡ (if is_path_of leaves i path then on else is_forced leaves content path))
    × (value_of leaves (with_force content i on) path ≡ value_of leaves content path)

-- Contents with the same values and forces at all paths are the same.
abbrev pub PathsDetermineContent : Type 0
PathsDetermineContent = (leaves : List Leaf) (content other : Content) → IsSound leaves → Fits leaves content → Fits leaves other →
    ((path : List ℕ) → value_of leaves content path ≡ value_of leaves other path) →
    ((path : List ℕ) → is_forced leaves content path ≡ is_forced leaves other path) → content ≡ other

-- ---- what an online change carries and saves, and what gives it back

-- Back after carry is the content before: every value and every force, whatever the two programs are.
abbrev pub BackUndoesCarry : Type 0
BackUndoesCarry = (old new : List Leaf) (pairs : Pairs) (content : Content) → IsPairing old new pairs → Fits old content →
    unmoved old pairs (moved new pairs content) (saved pairs content) ≡ content

-- What a change leaves is a content of the new leaves.
abbrev pub CarriedFits : Type 0
CarriedFits = (old new : List Leaf) (pairs : Pairs) (content : Content) → IsSound new → IsPairing old new pairs → Fits old content →
    Fits new (moved new pairs content)

-- What a change saves holds a value of each dropped leaf's type, as its undo asks for.
abbrev pub SavedHoldsValues : Type 0
SavedHoldsValues = (old new : List Leaf) (pairs : Pairs) (content : Content) → IsPairing old new pairs → Fits old content →
    HoldsValues old pairs.targets (saved pairs content).bytes

-- What an undo gives back is a content of the old leaves.
abbrev pub ReturnedFits : Type 0
ReturnedFits = (old new : List Leaf) (pairs : Pairs) (content : Content) (dropped : Saved) → IsPairing old new pairs → Fits new content →
    HoldsValues old pairs.targets dropped.bytes → Fits old (unmoved old pairs content dropped)

-- Where only open leaves are forced before a change, only open leaves are forced after it.
abbrev pub CarriedForcesAreOpen : Type 0
CarriedForcesAreOpen = (old new : List Leaf) (pairs : Pairs) (content : Content) → IsPairing old new pairs →
    ForcesAreOpen old content.forced → ForcesAreOpen new (moved new pairs content).forced

-- And the leaves whose forces are saved are open.
abbrev pub SavedForcesAreOpen : Type 0
SavedForcesAreOpen = (old : List Leaf) (pairs : Pairs) (content : Content) →
    ForcesAreOpen old content.forced → All (IsOpenAt old) (saved pairs content).forced

-- Where only open leaves are forced, and the saved numbers are of open leaves, only open leaves are forced after an undo.
abbrev pub ReturnedForcesAreOpen : Type 0
ReturnedForcesAreOpen = (old new : List Leaf) (pairs : Pairs) (content : Content) (dropped : Saved) → IsPairing old new pairs →
    ForcesAreOpen new content.forced → All (IsOpenAt old) dropped.forced → ForcesAreOpen old (unmoved old pairs content dropped).forced

-- the numbers of the old leaves that are dropped, ascending
abbrev pub dropped_leaves : Pairs → List ℕ
dropped_leaves pairs = filter (λ i. is_none (number_at pairs.targets i)) (range_with_len 0 (length pairs.targets))

-- The saved bytes are those of the dropped leaves' values, one after another, and nothing more.
abbrev pub SavesDroppedValues : Type 0
SavesDroppedValues = (old : List Leaf) (pairs : Pairs) (content : Content) → length pairs.targets ≡ length old → Fits old content →
    (saved pairs content).bytes ≡ flat_map (λ i. value_bytes (value_at content.values i)) (dropped_leaves pairs)

-- There are as many as the dropped leaves' types take.
abbrev pub SavesTheirWidths : Type 0
SavesTheirWidths = (old : List Leaf) (pairs : Pairs) (content : Content) → length pairs.targets ≡ length old → Fits old content →
    length (saved pairs content).bytes ≡ sum_by (λ i. width_of (leaf_at old i).elem) (dropped_leaves pairs)

-- The saved numbers are those of the dropped leaves that are forced, ascending.
abbrev pub SavesDroppedForces : Type 0
SavesDroppedForces = (old : List Leaf) (pairs : Pairs) (content : Content) → length pairs.targets ≡ length old → Fits old content →
    (saved pairs content).forced ≡ filter (forced_at content.forced) (dropped_leaves pairs)

-- No number is saved twice, and each comes before the greater ones.
abbrev pub SavedForcesAscend : Type 0
SavedForcesAscend = (pairs : Pairs) (content : Content) → AllPairs (λ i j. i < j) (saved pairs content).forced

-- ---- the same by path

-- An online change from the leaves of one program to those of another, over what a memory of the old one holds.
pub record IsChange (old new : List Leaf) (pairs : Pairs) (before : Content) : Type 0 where
  pub old_sound : IsSound old
  pub new_sound : IsSound new
  pub pairing : IsPairing old new pairs
  pub fits : Fits old before

-- the value at the path of a new leaf, after the change
abbrev pub carried_value : List Leaf → Pairs → Content → ℕ → Option Value
carried_value new pairs before j = value_of new (moved new pairs before) (leaf_at new j).path

-- whether it is forced
abbrev pub is_forced_still : List Leaf → Pairs → Content → ℕ → Bool
is_forced_still new pairs before j = is_forced new (moved new pairs before) (leaf_at new j).path

-- the new leaf takes the place of an old one that was TRUE
abbrev pub WasTrue : List Leaf → Pairs → Content → ℕ → Type 0
WasTrue old pairs before j =
    (i : ℕ) × (number_at pairs.sources j ≡ Some i) × IsSomeAnd (value_of old before (leaf_at old i).path) (λ value. value.bits ≡ pos 1)

-- A leaf that takes the place of another has its value.
abbrev pub KeptValueStays : Type 0
KeptValueStays = (old new : List Leaf) (pairs : Pairs) (before : Content) (i j : ℕ) → IsChange old new pairs before →
    number_at pairs.targets i ≡ Some j → carried_value new pairs before j ≡ value_of old before (leaf_at old i).path

-- And it is forced where that one was.
abbrev pub KeptForceStays : Type 0
KeptForceStays = (old new : List Leaf) (pairs : Pairs) (before : Content) (i j : ℕ) → IsChange old new pairs before →
    number_at pairs.targets i ≡ Some j → is_forced_still new pairs before j ≡ is_forced old before (leaf_at old i).path

-- the new leaf takes no other's place
abbrev pub IsFresh : List Leaf → Pairs → ℕ → Type 0
IsFresh new pairs j = (j < length new) × (number_at pairs.sources j ≡ None)

-- No fresh leaf is forced.
abbrev pub FreshLeafIsNotForced : Type 0
FreshLeafIsNotForced = (old new : List Leaf) (pairs : Pairs) (before : Content) (j : ℕ) → IsChange old new pairs before →
    IsFresh new pairs j → is_forced_still new pairs before j ≡ false

-- A fresh step of a chart that is kept isn't active.
abbrev pub FreshStepIsInactive : Type 0
FreshStepIsInactive = (old new : List Leaf) (pairs : Pairs) (before : Content) (j begun : ℕ) → IsChange old new pairs before →
    IsFresh new pairs j → (leaf_at new j).role ≡ StepActive begun → IsSome (number_at pairs.sources begun) →
    carried_value new pairs before j ≡ Some (truth (leaf_at new j) false)

-- A fresh `$P` is TRUE exactly where the step's X and its chart's `$CHART` take the places of leaves that were TRUE, else FALSE:
-- a step that runs already gives no late pulse.
abbrev pub FreshPulseFollowsStep : Type 0
FreshPulseFollowsStep = (old new : List Leaf) (pairs : Pairs) (before : Content) (j active begun : ℕ) → IsChange old new pairs before →
    IsFresh new pairs j → (leaf_at new j).role ≡ StepPulsed active begun →
    (given : Bool) × (carried_value new pairs before j ≡ Some (truth (leaf_at new j) given))
    × (IsTrue given ↔ (WasTrue old pairs before active × WasTrue old pairs before begun))

-- a fresh leaf of this role begins as its program says
abbrev pub BeginsAsDeclared : Pairs → Role → Type 0
BeginsAsDeclared pairs (StepActive begun) = number_at pairs.sources begun ≡ None
BeginsAsDeclared pairs (StepPulsed active begun) = ⊥
BeginsAsDeclared pairs _ = Unit {0}

-- Any other fresh leaf has its initial value.
abbrev pub FreshLeafIsInitial : Type 0
FreshLeafIsInitial = (old new : List Leaf) (pairs : Pairs) (before : Content) (j : ℕ) → IsChange old new pairs before →
    IsFresh new pairs j → BeginsAsDeclared pairs (leaf_at new j).role → carried_value new pairs before j ≡ Some (leaf_at new j).initial
