-- What an accepted command leaves in its record, and that states stay whole.
use Rattle.std.proofs.Common.{ℕ, ◌≡◌, ◌∙◌, ◌<◌, Bool, true, List, length, false, sym, ap, subst, unwrap_or}
use Rattle.std.specs.Prelude.{Ok, Some}
use Rattle.std.proofs.lemmas.Bool.{and_parts, not-false}
use Rattle.std.proofs.lemmas.List.{length-set}
use Rattle.st_control.specs.Controllers.{force_record, leaf_at_path, release_record, write_record}
use Rattle.st_control.specs.Laws.{RecordFits, RecordUndoesCommand, StepsKeepWhole}
use Rattle.st_control.specs.Machine.{force_causes, is_value_of, leaf_to_force}
use Rattle.st_control.specs.Machine.Command.{change, force, release, write}
use Rattle.st_control.specs.States.{FitsRecord, IsWhole, StateView, forced, leaf_of, leaves_of, released, undone, written}
use Rattle.st_control.specs.declared.record.Record.TheVariants.{Force, Release, Write}
use Rattle.st_control.proofs.ChangedStates.{change_fits, change_undoes, change_whole}
use Rattle.st_control.proofs.OnePath.{force_accepts, found_at, release_accepts, write_accepts}
use Rattle.st_control.proofs.Open.{mark_keeps_open}
use Rattle.st_control.proofs.Undone.{undone_forced, undone_released, undone_written}
use Rattle.st_memory.proofs.Contents.{value_fits, with_value_fits}
use Rattle.st_layout.proofs.Paired.{same_elem}
use Rattle.st_layout.proofs.Paths.{number-Some}
use Rattle.st_layout.specs.Layout.{IsOpenAt, IsValueAt, is_open, leaf_at}
use Rattle.st_memory.specs.Memory.{forced_at, value_at}
use Rattle.st_tree.specs.declared.leaf.Leaf.{Leaf}
use Rattle.st_values.specs.Types.{is_same}
use Rattle.st_values.specs.Values.{is_value}
use Rattle.st_values.specs.declared.value.Value.{Value}

-- ---- what a command leaves

-- the number in the record is that of the leaf that was found
place_is : (s : StateView) (path : List ℕ) (leaf : ℕ) → leaf_of s path ≡ Some leaf → leaf_at_path s path ≡ leaf
place_is s path leaf found = ap (λ place. unwrap_or place 0) found

write_record-is : (s : StateView) (path : List ℕ) (leaf : ℕ) → leaf_of s path ≡ Some leaf → Write leaf (value_at s.content.values leaf) ≡ write_record s path
write_record-is s path leaf found = ap (λ place. Write place (value_at s.content.values place)) (sym (place_is s path leaf found))

force_record-is : (s : StateView) (path : List ℕ) (leaf : ℕ) → leaf_of s path ≡ Some leaf
    → Force leaf (value_at s.content.values leaf) (forced_at s.content.forced leaf) ≡ force_record s path
force_record-is s path leaf found = ap (λ place. Force place (value_at s.content.values place) (forced_at s.content.forced place)) (sym (place_is s path leaf found))

release_record-is : (s : StateView) (path : List ℕ) (leaf : ℕ) → leaf_of s path ≡ Some leaf → Release leaf ≡ release_record s path
release_record-is s path leaf found = ap Release (sym (place_is s path leaf found))

-- the leaf that a force would set is the one of its record
pub force_leaves : (s : StateView) (path : List ℕ) (value : Value) (full : Bool) (leaf : ℕ) → Ok leaf ≡ leaf_to_force s full path value
    → Force leaf (value_at s.content.values leaf) (forced_at s.content.forced leaf) ≡ force_record s path
force_leaves s path value full leaf is = force_record-is s path leaf (found_at (leaf_of s path) (force_causes s full value) leaf (sym is))

pub record_undoes : RecordUndoesCommand
record_undoes (write path value) m next free accepted =
    let a = write_accepts path value m next accepted in
    subst (λ s. undone s (write_record m.state path) ≡ m.state) a.next_is
    (subst (λ left. undone (written m.state a.leaf value) left ≡ m.state) (write_record-is m.state path a.leaf a.found) (undone_written m.state a.leaf value))
record_undoes (force path value) m next free accepted =
    let a = force_accepts path value m next accepted in
    subst (λ s. undone s (force_record m.state path) ≡ m.state) a.next_is
    (subst (λ left. undone (forced m.state a.leaf value) left ≡ m.state) (force_record-is m.state path a.leaf a.found) (undone_forced m.state a.leaf value))
record_undoes (release path) m next free accepted =
    let a = release_accepts path m next accepted in
    subst (λ s. undone s (release_record m.state path) ≡ m.state) a.next_is
    (subst (λ left. undone (released m.state a.leaf) left ≡ m.state) (release_record-is m.state path a.leaf a.found)
    (undone_released m.state a.leaf (not-false (forced_at m.state.content.forced a.leaf) a.allowed.0)))
record_undoes (change renames read) m next whole accepted = change_undoes renames read m next whole accepted

-- ---- where it fits

-- the value of a leaf of a whole state is one of the leaf's type
value_at-fits : (s : StateView) (leaf : ℕ) → IsWhole s → leaf < length (leaves_of s) → IsValueAt (leaves_of s) leaf (value_at s.content.values leaf)
value_at-fits s leaf whole below = value_fits (leaves_of s) s.content.values leaf whole.fits.types below

pub record_fits : RecordFits
record_fits (write path value) m next whole accepted =
    let a = write_accepts path value m next accepted in
    let below = (number-Some (leaves_of m.state) path a.leaf a.found).0 in
    subst (λ s. FitsRecord s (write_record m.state path)) a.next_is
    (subst (FitsRecord (written m.state a.leaf value)) (write_record-is m.state path a.leaf a.found)
    (below, not-false (is_open (leaf_at (leaves_of m.state) a.leaf).role) a.allowed.0, value_at-fits m.state a.leaf whole below))
record_fits (force path value) m next whole accepted =
    let a = force_accepts path value m next accepted in
    let below = (number-Some (leaves_of m.state) path a.leaf a.found).0 in
    subst (λ s. FitsRecord s (force_record m.state path)) a.next_is
    (subst (FitsRecord (forced m.state a.leaf value)) (force_record-is m.state path a.leaf a.found)
    (below, not-false (is_open (leaf_at (leaves_of m.state) a.leaf).role) a.allowed.0, value_at-fits m.state a.leaf whole below))
record_fits (release path) m next whole accepted =
    let a = release_accepts path m next accepted in
    subst (λ s. FitsRecord s (release_record m.state path)) a.next_is
    (subst (FitsRecord (released m.state a.leaf)) (release_record-is m.state path a.leaf a.found)
    ((number-Some (leaves_of m.state) path a.leaf a.found).0, whole.forces a.leaf (not-false (forced_at m.state.content.forced a.leaf) a.allowed.0)))
record_fits (change renames read) m next whole accepted = change_fits renames read m next whole accepted

-- ---- whole states

-- what is tested to be a value of a leaf is one
pub takes_value : (leaves : List Leaf) (i : ℕ) (value : Value) → is_value_of (leaf_at leaves i) value ≡ true → IsValueAt leaves i value
takes_value leaves i value takes =
    let both = and_parts (is_same value.elem (leaf_at leaves i).elem) (is_value value) takes in
    record { elem = same_elem value.elem (leaf_at leaves i).elem both.0; in_range = both.1 }

pub whole_after : StepsKeepWhole
whole_after (write path value) m next sound whole accepted =
    let a = write_accepts path value m next accepted in
    subst IsWhole a.next_is (record {
      checked = whole.checked;
      sound = whole.sound;
      fits = with_value_fits (leaves_of m.state) m.state.content a.leaf value whole.fits
          (takes_value (leaves_of m.state) a.leaf value (not-false (is_value_of (leaf_at (leaves_of m.state) a.leaf) value) a.allowed.1.0));
      forces = whole.forces;
      moment = whole.moment;
    })
whole_after (force path value) m next sound whole accepted =
    let a = force_accepts path value m next accepted in
    let here : IsOpenAt (leaves_of m.state) a.leaf = not-false (is_open (leaf_at (leaves_of m.state) a.leaf).role) a.allowed.0 in
    let valued = with_value_fits (leaves_of m.state) m.state.content a.leaf value whole.fits
    (takes_value (leaves_of m.state) a.leaf value (not-false (is_value_of (leaf_at (leaves_of m.state) a.leaf) value) a.allowed.1.0)) in
    subst IsWhole a.next_is (record {
      checked = whole.checked;
      sound = whole.sound;
      fits = record { types = valued.types; values = valued.values; forced = length-set m.state.content.forced a.leaf true ∙ valued.forced };
      forces = mark_keeps_open (leaves_of m.state) m.state.content.forced a.leaf true whole.forces here;
      moment = whole.moment;
    })
whole_after (release path) m next sound whole accepted =
    let a = release_accepts path m next accepted in
    let here : IsOpenAt (leaves_of m.state) a.leaf = whole.forces a.leaf (not-false (forced_at m.state.content.forced a.leaf) a.allowed.0) in
    subst IsWhole a.next_is (record {
      checked = whole.checked;
      sound = whole.sound;
      fits = record { types = whole.fits.types; values = whole.fits.values; forced = length-set m.state.content.forced a.leaf false ∙ whole.fits.forced };
      forces = mark_keeps_open (leaves_of m.state) m.state.content.forced a.leaf false whole.forces here;
      moment = whole.moment;
    })
whole_after (change renames read) m next sound whole accepted = change_whole renames read m next sound whole accepted
