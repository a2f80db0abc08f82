-- What a command that is accepted changes.
use Rattle.std.proofs.Common.{ℕ, Bool, true, false, ◌≡◌, List, refl, sym, ap, subst}
use Rattle.std.specs.Prelude.{Err, None, Ok, Option, Result, Some, if◌then◌else◌}
use Rattle.std.specs.Option.{option_map_or}
use Rattle.std.specs.Str.{bytes_eq}
use Rattle.st_control.specs.Causes.{no_such_path}
use Rattle.st_control.specs.Laws.{Changes, ChangesByPath, is_same_path}
use Rattle.st_control.specs.Machine.{Cause, Machine, accept, accept_at, force_causes, is_full, leaf_unless, release_causes, step, unless, write_causes}
use Rattle.st_control.specs.Machine.Command.{change, force, release, write}
use Rattle.st_control.specs.States.{IsWhole, StateView, forced, leaf_of, leaves_of, released, written}
use Rattle.st_control.specs.declared.refusal.Refusal.{Refusal}
use Rattle.st_control.proofs.Causes.{NoneHolds, unless_allows, unless_gives}
use Rattle.st_control.proofs.ChangedStates.{change_carries}
use Rattle.st_memory.proofs.Maps.{mark_changes_one_force, set_changes_one_value}
use Rattle.st_layout.proofs.Paths.{number-Some}
use Rattle.st_layout.specs.Layout.{leaf_at}
use Rattle.st_values.specs.Words.{raised}
use Rattle.st_memory.specs.Laws.{is_forced, value_of}
use Rattle.st_memory.specs.Memory.{with_force, with_value}
use Rattle.st_values.specs.declared.value.Value.{Value}

-- a leaf is found only at the path
pub found_at : (place : Option ℕ) (causes : ℕ → List Cause) (leaf : ℕ) → option_map_or (λ i. unless (causes i) i) place (Err no_such_path) ≡ Ok leaf → place ≡ Some leaf
found_at None causes leaf h = cc
found_at (Some i) causes leaf h = ap Some (unless_gives (causes i) i leaf h)

allowed_at : (place : Option ℕ) (causes : ℕ → List Cause) (leaf : ℕ) → option_map_or (λ i. unless (causes i) i) place (Err no_such_path) ≡ Ok leaf → NoneHolds (causes leaf)
allowed_at None causes leaf h = absurd (cc)
allowed_at (Some i) causes leaf h = subst (λ it. NoneHolds (causes it)) (unless_gives (causes i) i leaf h) (unless_allows (causes i) i leaf h)

-- an accepted command changed the leaf that has its path, where no cause holds
pub record Accepts (m next : Machine) (path : List ℕ) (new : ℕ → StateView) (causes : ℕ → List Cause) : Type 0 where
  pub leaf : ℕ
  pub found : leaf_of m.state path ≡ Some leaf
  pub allowed : NoneHolds (causes leaf)
  pub next_is : new leaf ≡ next.state

accepts_by : (m next : Machine) (path : List ℕ) (new : ℕ → StateView) (causes : ℕ → List Cause) (leaf : Result ℕ Refusal) → leaf ≡ leaf_unless m.state path causes → accept_at m new leaf ≡ Ok next → Accepts m next path new causes
accepts_by m next path new causes (Ok leaf) is h = record {
  leaf = leaf;
  found = found_at (leaf_of m.state path) causes leaf (sym is);
  allowed = allowed_at (leaf_of m.state path) causes leaf (sym is);
  next_is = let same : accept m false (new leaf) ≡ next = cc in ap (λ (n : Machine). n.state) same;
}
accepts_by m next path new causes (Err refusal) is h = cc

pub write_accepts : (path : List ℕ) (value : Value) (m next : Machine) → step (write path value) m ≡ Ok next → Accepts m next path (λ leaf. written m.state leaf value) (write_causes m.state (is_full m) value)
write_accepts path value m next accepted =
    accepts_by m next path (λ leaf. written m.state leaf value) (write_causes m.state (is_full m) value) (leaf_unless m.state path (write_causes m.state (is_full m) value)) refl accepted

pub force_accepts : (path : List ℕ) (value : Value) (m next : Machine) → step (force path value) m ≡ Ok next → Accepts m next path (λ leaf. forced m.state leaf value) (force_causes m.state (is_full m) value)
force_accepts path value m next accepted =
    accepts_by m next path (λ leaf. forced m.state leaf value) (force_causes m.state (is_full m) value) (leaf_unless m.state path (force_causes m.state (is_full m) value)) refl accepted

pub release_accepts : (path : List ℕ) (m next : Machine) → step (release path) m ≡ Ok next → Accepts m next path (λ leaf. released m.state leaf) (release_causes m.state (is_full m))
release_accepts path m next accepted =
    accepts_by m next path (λ leaf. released m.state leaf) (release_causes m.state (is_full m)) (leaf_unless m.state path (release_causes m.state (is_full m))) refl accepted

-- the path of the leaf that was found is the command's
same_path : (s : StateView) (path other : List ℕ) (leaf : ℕ) → leaf_of s path ≡ Some leaf → bytes_eq (raised other) (leaf_at (leaves_of s) leaf).path ≡ is_same_path other path
same_path s path other leaf found = ap (bytes_eq (raised other)) (number-Some (leaves_of s) path leaf found).1

-- one value is set at the path of the leaf that was found
gets_value : (s : StateView) (path : List ℕ) (value : Value) (leaf : ℕ) → IsWhole s → leaf_of s path ≡ Some leaf
    → (other : List ℕ) → value_of (leaves_of s) (with_value s.content leaf value) other ≡ (if is_same_path other path then Some value else value_of (leaves_of s) s.content other)
gets_value s path value leaf whole found other =
    subst (λ (b : Bool). value_of (leaves_of s) (with_value s.content leaf value) other ≡ (if b then Some value else value_of (leaves_of s) s.content other))
    (same_path s path other leaf found)
    (set_changes_one_value (leaves_of s) s.content leaf value other whole.sound whole.fits (number-Some (leaves_of s) path leaf found).0).0

-- one mark is set at the path of the leaf that was found
gets_force : (s : StateView) (path : List ℕ) (on : Bool) (leaf : ℕ) → IsWhole s → leaf_of s path ≡ Some leaf
    → (other : List ℕ) → is_forced (leaves_of s) (with_force s.content leaf on) other ≡ (if is_same_path other path then on else is_forced (leaves_of s) s.content other)
gets_force s path on leaf whole found other =
    subst (λ (b : Bool). is_forced (leaves_of s) (with_force s.content leaf on) other ≡ (if b then on else is_forced (leaves_of s) s.content other))
    (same_path s path other leaf found)
    (mark_changes_one_force (leaves_of s) s.content leaf on other whole.sound whole.fits (number-Some (leaves_of s) path leaf found).0).0

pub changes_by_path : ChangesByPath
changes_by_path (write path value) m next sound whole accepted =
    let a = write_accepts path value m next accepted in
    subst (λ (s : StateView). Changes (write path value) m.state s) a.next_is
    (gets_value m.state path value a.leaf whole a.found, λ other. refl, record { program = refl; now = refl; status = refl })
changes_by_path (force path value) m next sound whole accepted =
    let a = force_accepts path value m next accepted in
    subst (λ (s : StateView). Changes (force path value) m.state s) a.next_is
    (gets_value m.state path value a.leaf whole a.found, gets_force m.state path true a.leaf whole a.found, record { program = refl; now = refl; status = refl })
changes_by_path (release path) m next sound whole accepted =
    let a = release_accepts path m next accepted in
    subst (λ (s : StateView). Changes (release path) m.state s) a.next_is
    (λ other. refl, gets_force m.state path false a.leaf whole a.found, record { program = refl; now = refl; status = refl })
changes_by_path (change renames read) m next sound whole accepted = change_carries renames read m next sound whole accepted
