-- Which leaf of a new program takes the place of which leaf of an old one.
use Rattle.std.specs.Prelude.{ℕ, zero, suc, ◌≡◌, ◌<◌, ◌+◌, ◌↔◌, Bool, true, false, not, ◌&&◌, ◌||◌, ◌==◌, if◌then◌else◌, List, [], ◌∷◌, length, map, get_or, count_by, Option, Some, None}
use Rattle.std.specs.Cmp.Lexicographic.{pointwise}
use Rattle.std.specs.List.{list_any, position, range_with_len, zip}
use Rattle.std.specs.Option.{is_some, option_and_then, option_map_or}
use Rattle.std.specs.Str.{bytes_eq}
use Rattle.st_layout.specs.Layout.{is_open, leaf_at, number_of}
use Rattle.st_layout.specs.Renames.{is_in, renamed}
use Rattle.st_layout.specs.declared.renames.Rename.{Rename}
use Rattle.st_tree.specs.declared.leaf.Leaf.{Leaf}
use Rattle.st_tree.specs.declared.leaf.Role.{Role}
use Rattle.st_tree.specs.declared.leaf.Role.TheVariants.{StepActive}
use Rattle.st_values.specs.Types.{is_same}
use Rattle.st_values.specs.Words.{raised}

-- of each old leaf the number of the new one that takes its place, and of each new leaf the number of the old one
pub record Pairs : Type 0 where
  pub targets : List (Option ℕ)
  pub sources : List (Option ℕ)

-- what stands at a place of such a list: nothing past its end
abbrev pub number_at : List (Option ℕ) → ℕ → Option ℕ
number_at numbers i = get_or numbers i None

abbrev pub is_number : ℕ → Option ℕ → Bool
is_number i None = false
is_number i (Some j) = i == j

abbrev pub is_same_number : Option ℕ → Option ℕ → Bool
is_same_number None other = false
is_same_number (Some i) other = is_number i other

abbrev pub are_both : Bool → Bool → Bool
are_both true other = other
are_both false other = not other

-- the leaves have the same spine and the same type, and an operator may write both or neither
abbrev pub are_alike : Leaf → Leaf → Bool
are_alike leaf other = pointwise bytes_eq leaf.spine other.spine && (is_same leaf.elem other.elem && are_both (is_open leaf.role) (is_open other.role))

-- the new leaf that takes the place of an old one: it has the renamed path, and is alike
abbrev pub if_alike : List Leaf → Leaf → ℕ → Option ℕ
if_alike new leaf j = if are_alike leaf (leaf_at new j) then Some j else None

abbrev pub target_of : List Rename → List Leaf → Leaf → Option ℕ
target_of renames new leaf = option_and_then (if_alike new leaf) (number_of new (renamed renames leaf.path))

abbrev pub targets_of : List Leaf → List Leaf → List Rename → List (Option ℕ)
targets_of old new renames = map (target_of renames new) old

-- the old leaf whose place a new one takes
abbrev pub sources_of : List (Option ℕ) → ℕ → List (Option ℕ)
sources_of targets count = map (λ j. position (is_number j) targets) (range_with_len 0 count)

-- The pairs of an online change from the old leaves to the new ones.
abbrev pub pairs_between : List Leaf → List Leaf → List Rename → Pairs
pairs_between old new renames = record { targets = targets_of old new renames; sources = sources_of (targets_of old new renames) (length new) }

-- how many leaves are kept, how many old ones are dropped, and how many new ones are fresh
abbrev pub kept_count : Pairs → ℕ
kept_count pairs = count_by is_some pairs.targets

abbrev pub dropped_count : Pairs → ℕ
dropped_count pairs = count_by (λ target. not (is_some target)) pairs.targets

abbrev pub fresh_count : Pairs → ℕ
fresh_count pairs = count_by (λ source. not (is_some source)) pairs.sources

-- the second number is the next after the first
abbrev pub follows : Option ℕ → Option ℕ → Bool
follows None other = false
follows (Some i) None = false
follows (Some i) (Some j) = j == i + 1

-- a leaf is kept, and doesn't follow the one before it
abbrev pub begins_run : List (Option ℕ) → ℕ → Bool
begins_run numbers zero = is_some (number_at numbers 0)
begins_run numbers (suc i) = is_some (number_at numbers (suc i)) && not (follows (number_at numbers i) (number_at numbers (suc i)))

abbrev pub runs_in : List (Option ℕ) → ℕ
runs_in numbers = count_by (begins_run numbers) (range_with_len 0 (length numbers))

-- how many ranges of leaves that follow one another are kept
abbrev pub range_count : Pairs → ℕ
range_count pairs = runs_in pairs.targets

-- ---- when renames give no pairs (O13)

-- no leaf is in the part
abbrev pub is_no_part : List Leaf → List ℕ → Bool
is_no_part leaves part = not (list_any (λ leaf. is_in (raised part) leaf.path) leaves)

-- an old part isn't there, or a new one
abbrev pub names_nothing : List Leaf → List Leaf → List Rename → Bool
names_nothing old new renames = list_any (λ rename. is_no_part old rename.old || is_no_part new rename.new) renames

-- a part is one that no program can name: it has a `$`
abbrev pub has_dollar : List ℕ → Bool
has_dollar part = list_any (λ byte. byte == 36) part

abbrev pub names_hidden : List Rename → Bool
names_hidden renames = list_any (λ rename. has_dollar rename.old || has_dollar rename.new) renames

-- two renames have the same old part
abbrev pub renames_twice : List Rename → Bool
renames_twice [] = false
renames_twice (rename ∷ renames) = list_any (λ other. bytes_eq (raised rename.old) (raised other.old)) renames || renames_twice renames

-- the renames name parts that they may not name
abbrev pub names_wrongly : List Leaf → List Leaf → List Rename → Bool
names_wrongly old new renames = names_nothing old new renames || (names_hidden renames || renames_twice renames)

-- one new leaf would take the place of two
abbrev pub shares_target : List (Option ℕ) → Bool
shares_target [] = false
shares_target (target ∷ targets) = list_any (is_same_number target) targets || shares_target targets

-- the number of the `$CHART` of a step's X
abbrev pub chart_of : Role → Option ℕ
chart_of (StepActive begun) = Some begun
chart_of _ = None

-- a step is kept, and its chart isn't, or is another
abbrev pub leaves_chart : List Leaf → List (Option ℕ) → Leaf → Option ℕ → Bool
leaves_chart new targets leaf target =
    option_map_or (λ begun. option_map_or (λ j. not (is_same_number (number_at targets begun) (chart_of (leaf_at new j).role))) target false) (chart_of leaf.role) false

abbrev pub some_leaves_chart : List Leaf → List Leaf → List (Option ℕ) → Bool
some_leaves_chart old new targets = list_any (λ pair. leaves_chart new targets pair.0 pair.1) (zip old targets)

abbrev pub is_pairable : List Leaf → List Leaf → List Rename → Bool
is_pairable old new renames =
    not (names_wrongly old new renames || (shares_target (targets_of old new renames) || some_leaves_chart old new (targets_of old new renames)))

-- ---- pairings

-- the numbers in the list are below this one
abbrev pub AreBelow : List (Option ℕ) → ℕ → Type 0
AreBelow numbers count = (i j : ℕ) → number_at numbers i ≡ Some j → j < count

-- Each leaf is in one pair at most, and the leaves of a pair are alike.
pub record IsPairing (old new : List Leaf) (pairs : Pairs) : Type 0 where
  pub targets : length pairs.targets ≡ length old
  pub sources : length pairs.sources ≡ length new
  pub one_to_one : (i j : ℕ) → (number_at pairs.targets i ≡ Some j) ↔ (number_at pairs.sources j ≡ Some i)
  pub alike : (i j : ℕ) → number_at pairs.targets i ≡ Some j → are_alike (leaf_at old i) (leaf_at new j) ≡ true
