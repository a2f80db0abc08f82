-- Renames in upper case say the same as in any other case.
use Rattle.std.proofs.Common.{ℕ, ◌≡◌, Bool, true, false, cond, ◌==◌, List, [], ◌∷◌, length, Option, Some, None, refl, ap, arith, nat_lt}
use Rattle.std.specs.Char.{to_ascii_uppercase}
use Rattle.std.specs.List.{list_any}
use Rattle.std.specs.Option.{option_map, option_map_or}
use Rattle.std.specs.Prelude.{if◌then◌else◌}
use Rattle.std.specs.Str.{bytes_eq}
use Rattle.std.proofs.lemmas.Bool.Decides.{nat_tests}
use Rattle.std.proofs.lemmas.List.{length-map}
use Rattle.st_control.specs.Changes.{raised_rename, raised_renames}
use Rattle.st_layout.proofs.Paths.{raised-raised}
use Rattle.st_layout.specs.Pairs.{has_dollar, is_pairable, names_hidden, names_nothing, pairs_between, renames_twice, targets_of}
use Rattle.st_layout.specs.Renames.{is_in, longest, renamed, renamed_by, renames_over}
use Rattle.st_layout.specs.declared.renames.Rename.{Rename}
use Rattle.st_tree.specs.declared.leaf.Leaf.{Leaf}
use Rattle.st_values.specs.Words.{raised}

-- ---- the renamed path

-- a choice of two lists, both in upper case
kept_or_not : (b : Bool) (rename : Rename) (renames : List Rename) → cond b (raised_rename rename ∷ raised_renames renames) (raised_renames renames) ≡ raised_renames (cond b (rename ∷ renames) renames)
kept_or_not true rename renames = refl
kept_or_not false rename renames = refl

over_raised : (renames : List Rename) (path : List ℕ) → renames_over (raised_renames renames) path ≡ raised_renames (renames_over renames path)
over_raised [] path = refl
over_raised (rename ∷ renames) path =
    rw (raised-raised rename.old, over_raised renames path) (kept_or_not (is_in (raised rename.old) path) rename (renames_over renames path))

length-raised : (text : List ℕ) → length (raised text) ≡ length text
length-raised text = length-map text to_ascii_uppercase

one_or_other : (b : Bool) (rename other : Rename) → (if b then raised_rename other else raised_rename rename) ≡ raised_rename (if b then other else rename)
one_or_other true rename other = refl
one_or_other false rename other = refl

-- the longer of a rename and another, if there is one
longer : (rename : Rename) (other : Option Rename)
    → option_map_or (λ (it : Rename). if nat_lt (length (raised rename.old)) (length it.old) then it else raised_rename rename) (option_map raised_rename other) (raised_rename rename)
    ≡ raised_rename (option_map_or (λ (it : Rename). if nat_lt (length rename.old) (length it.old) then it else rename) other rename)
longer rename None = refl
longer rename (Some other) = rw (length-raised rename.old, length-raised other.old) (one_or_other (nat_lt (length rename.old) (length other.old)) rename other)

longest_raised : (renames : List Rename) → longest (raised_renames renames) ≡ option_map raised_rename (longest renames)
longest_raised [] = refl
longest_raised (rename ∷ renames) = rw (longest_raised renames) (ap Some (longer rename (longest renames)))

renamed_by-raised : (path : List ℕ) (rename : Option Rename) → renamed_by path (option_map raised_rename rename) ≡ renamed_by path rename
renamed_by-raised path None = refl
renamed_by-raised path (Some rename) = rw (raised-raised rename.new, length-raised rename.old) refl

renamed-raised : (renames : List Rename) (path : List ℕ) → renamed (raised_renames renames) path ≡ renamed renames path
unfolding renamed
renamed-raised renames path = rw (over_raised renames path, longest_raised (renames_over renames path)) (renamed_by-raised path (longest (renames_over renames path)))

-- ---- the pairs

targets-raised : (old new : List Leaf) (renames : List Rename) → targets_of old new (raised_renames renames) ≡ targets_of old new renames
targets-raised [] new renames = refl
targets-raised (leaf ∷ old) new renames = rw (renamed-raised renames leaf.path, targets-raised old new renames) refl

pub pairs-raised : (old new : List Leaf) (renames : List Rename) → pairs_between old new (raised_renames renames) ≡ pairs_between old new renames
pairs-raised old new renames = rw (targets-raised old new renames) refl

-- ---- whether they give pairs

nothing-raised : (old new : List Leaf) (renames : List Rename) → names_nothing old new (raised_renames renames) ≡ names_nothing old new renames
nothing-raised old new [] = refl
nothing-raised old new (rename ∷ renames) = rw (raised-raised rename.old, raised-raised rename.new, nothing-raised old new renames) refl

dollar-raised : (part : List ℕ) → has_dollar (raised part) ≡ has_dollar part
dollar-raised [] = refl
dollar-raised (byte ∷ part) =
    let same : (to_ascii_uppercase byte == 36) ≡ (byte == 36) = grind (arith, nat_tests) in
    rw (same, dollar-raised part) refl

hidden-raised : (renames : List Rename) → names_hidden (raised_renames renames) ≡ names_hidden renames
hidden-raised [] = refl
hidden-raised (rename ∷ renames) = rw (dollar-raised rename.old, dollar-raised rename.new, hidden-raised renames) refl

again-raised : (part : List ℕ) (renames : List Rename)
    → list_any (λ (other : Rename). bytes_eq (raised (raised part)) (raised other.old)) (raised_renames renames) ≡ list_any (λ (other : Rename). bytes_eq (raised part) (raised other.old)) renames
again-raised part [] = refl
again-raised part (rename ∷ renames) = rw (raised-raised part, raised-raised rename.old, again-raised part renames) refl

twice-raised : (renames : List Rename) → renames_twice (raised_renames renames) ≡ renames_twice renames
twice-raised [] = refl
twice-raised (rename ∷ renames) = rw (again-raised rename.old renames, twice-raised renames) refl

pub pairable-raised : (old new : List Leaf) (renames : List Rename) → is_pairable old new (raised_renames renames) ≡ is_pairable old new renames
pairable-raised old new renames = rw (nothing-raised old new renames, hidden-raised renames, twice-raised renames, targets-raised old new renames) refl
