-- What an online change makes of what a memory holds, what it saves, and what gives the old content back.
use Rattle.std.specs.Prelude.{ℕ, suc, pos, ◌≡◌, ◌≤◌, Bool, false, ◌&&◌, ◌==◌, if◌then◌else◌, List, [], ◌∷◌, ◌++◌, map, length, drop, Option, Some, None}
use Rattle.std.specs.List.{list_any, zip}
use Rattle.std.specs.Option.{is_some, option_map_or}
use Rattle.std.specs.Ordering.{int_eq}
use Rattle.st_memory.specs.Bytes.{read_bytes, value_bytes}
use Rattle.st_memory.specs.Memory.{Content, forced_at, value_at}
use Rattle.st_layout.specs.Pairs.{Pairs, number_at}
use Rattle.st_memory.specs.declared.saved.Saved.{Saved}
use Rattle.st_values.specs.Types.{width_of}
use Rattle.st_values.specs.Values.{IsValue}
use Rattle.st_values.specs.declared.value.Value.{Value}
use Rattle.st_tree.specs.declared.leaf.Leaf.{Leaf}
use Rattle.st_tree.specs.declared.leaf.Role.{Role}
use Rattle.st_tree.specs.declared.leaf.Role.TheVariants.{StepActive, StepPulsed}

-- ---- what a change makes of a content

-- FALSE or TRUE in the leaf's type, which is BOOL
abbrev pub truth : Leaf → Bool → Value
truth leaf b = record { elem = leaf.elem; bits = if b then pos 1 else pos 0 }

abbrev pub is_true : Value → Bool
is_true value = int_eq value.bits (pos 1)

-- the new leaf takes the place of one that was TRUE
abbrev pub was_true : List (Option ℕ) → List Value → ℕ → Bool
was_true sources values j = option_map_or (λ i. is_true (value_at values i)) (number_at sources j) false

-- The first value of a new leaf that takes no other's place. A new step of a chart that is kept isn't active. Where a kept step
-- gets its first association with P, it has given its pulse if it was active in a chart that had begun. All others begin with
-- their initial values.
abbrev pub fresh_value : List (Option ℕ) → List Value → Leaf → Role → Value
fresh_value sources values leaf (StepActive begun) = if is_some (number_at sources begun) then truth leaf false else leaf.initial
fresh_value sources values leaf (StepPulsed active begun) = truth leaf (was_true sources values active && was_true sources values begun)
fresh_value sources values leaf _ = leaf.initial

-- a new leaf has the value of the one whose place it takes
abbrev pub moved_value : List (Option ℕ) → List Value → Leaf → Option ℕ → Value
moved_value sources values leaf source = option_map_or (value_at values) source (fresh_value sources values leaf leaf.role)

-- the same of a new leaf that stands beside the number of that one
abbrev pub moved_pair : List (Option ℕ) → List Value → Leaf × Option ℕ → Value
moved_pair sources values pair = moved_value sources values pair.0 pair.1

-- and is forced where that one was
abbrev pub moved_force : List Bool → Option ℕ → Bool
moved_force forced source = option_map_or (forced_at forced) source false

unfoldable pub moved : List Leaf → Pairs → Content → Content
moved new pairs content = record {
  values = map (moved_pair pairs.sources content.values) (zip new pairs.sources);
  forced = map (moved_force content.forced) pairs.sources;
}

-- ---- what a change saves

-- the values of the old leaves that are dropped, one after another
abbrev pub saved_bytes : List (Option ℕ) → List Value → List ℕ
saved_bytes [] values = []
saved_bytes (target ∷ targets) [] = []
saved_bytes (None ∷ targets) (value ∷ values) = value_bytes value ++ saved_bytes targets values
saved_bytes (Some j ∷ targets) (value ∷ values) = saved_bytes targets values

-- the numbers of those that are forced, from the number i on
abbrev pub saved_forced : ℕ → List (Option ℕ) → List Bool → List ℕ
saved_forced i [] forced = []
saved_forced i (target ∷ targets) [] = []
saved_forced i (None ∷ targets) (on ∷ forced) = if on then i ∷ saved_forced (suc i) targets forced else saved_forced (suc i) targets forced
saved_forced i (Some j ∷ targets) (on ∷ forced) = saved_forced (suc i) targets forced

unfoldable pub saved : Pairs → Content → Saved
saved pairs content = record { bytes = saved_bytes pairs.targets content.values; forced = saved_forced 0 pairs.targets content.forced }

-- ---- what gives the old content back

-- an old leaf that was kept has the value that stands in its place now, and one that was dropped the next of the saved ones
abbrev pub unmoved_values : List Value → List Leaf → List (Option ℕ) → List ℕ → List Value
unmoved_values values [] targets bytes = []
unmoved_values values (leaf ∷ leaves) [] bytes = []
unmoved_values values (leaf ∷ leaves) (Some j ∷ targets) bytes = value_at values j ∷ unmoved_values values leaves targets bytes
unmoved_values values (leaf ∷ leaves) (None ∷ targets) bytes =
    read_bytes leaf.elem bytes ∷ unmoved_values values leaves targets (drop (width_of leaf.elem) bytes)

-- and it is forced where that one is, or where its number was saved
abbrev pub unmoved_forced : List Bool → ℕ → List (Option ℕ) → List ℕ → List Bool
unmoved_forced forced i [] numbers = []
unmoved_forced forced i (target ∷ targets) numbers =
    option_map_or (forced_at forced) target (list_any (λ number. number == i) numbers) ∷ unmoved_forced forced (suc i) targets numbers

unfoldable pub unmoved : List Leaf → Pairs → Content → Saved → Content
unmoved old pairs content saved' = record {
  values = unmoved_values content.values old pairs.targets saved'.bytes;
  forced = unmoved_forced content.forced 0 pairs.targets saved'.forced;
}

-- the bytes are a value of each dropped leaf's type, and nothing more
abbrev pub HoldsValues : List Leaf → List (Option ℕ) → List ℕ → Type 0
HoldsValues [] targets bytes = bytes ≡ []
HoldsValues (leaf ∷ leaves) [] bytes = bytes ≡ []
HoldsValues (leaf ∷ leaves) (Some j ∷ targets) bytes = HoldsValues leaves targets bytes
HoldsValues (leaf ∷ leaves) (None ∷ targets) bytes =
    (width_of leaf.elem ≤ length bytes) × IsValue (read_bytes leaf.elem bytes) × HoldsValues leaves targets (drop (width_of leaf.elem) bytes)
