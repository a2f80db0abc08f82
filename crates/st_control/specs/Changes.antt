-- Online changes: what one makes of a state, which renames it takes, and when it would leave a chart without an active step.
use Rattle.std.specs.Prelude.{ℕ, ◌≡◌, ◌<◌, Bool, true, false, not, ◌&&◌, if◌then◌else◌, List, get_or, length, map, Option, None}
use Rattle.std.specs.List.{list_any, range_with_len}
use Rattle.std.specs.Option.{is_some}
use Rattle.st_check.specs.Programs.{ProgramView, leaves_of_program}
use Rattle.st_control.specs.States.{StateView, leaves_of}
use Rattle.st_control.specs.declared.changing.Counts.{Counts}
use Rattle.st_layout.specs.Layout.{leaf_at}
use Rattle.st_memory.specs.Memory.{value_at}
use Rattle.st_memory.specs.Moves.{is_true, moved}
use Rattle.st_layout.specs.Pairs.{Pairs, chart_of, dropped_count, fresh_count, is_number, is_pairable, kept_count, number_at, pairs_between}
use Rattle.st_layout.specs.declared.renames.Rename.{Rename}
use Rattle.st_tree.specs.declared.leaf.Leaf.{Leaf}
use Rattle.st_tree.specs.declared.leaf.Role.{Role}
use Rattle.st_tree.specs.declared.leaf.Role.TheVariants.{ChartBegun}
use Rattle.st_values.specs.Words.{raised}
use Rattle.st_values.specs.declared.value.Value.{Value}

-- ---- what a change makes of a state

-- the pairs of the leaves of a state with those of a program
abbrev pub pairs_of : StateView → List Rename → ProgramView → Pairs
pairs_of s renames program = pairs_between (leaves_of s) (leaves_of_program program) renames

-- The program is the new one, and its leaves have what was moved to them. The moment and the status stay.
abbrev pub changed : StateView → List Rename → ProgramView → StateView
changed s renames program = record {
  program = program;
  content = moved (leaves_of_program program) (pairs_of s renames program) s.content;
  now = s.now;
  status = s.status;
}

-- how many leaves are kept, dropped and fresh
abbrev pub counts_of_pairs : Pairs → Counts
counts_of_pairs pairs = record { kept = kept_count pairs; dropped = dropped_count pairs; fresh = fresh_count pairs }

abbrev pub counts_of : StateView → List Rename → ProgramView → Counts
counts_of s renames program = counts_of_pairs (pairs_of s renames program)

-- a part's two paths in upper case
abbrev pub raised_rename : Rename → Rename
raised_rename rename = record { old = raised rename.old; new = raised rename.new }

abbrev pub raised_renames : List Rename → List Rename
raised_renames renames = map raised_rename renames

-- ---- when it is refused

-- the renames give pairs of the leaves of a state with those of a program
abbrev pub gives_pairs : StateView → List Rename → ProgramView → Bool
gives_pairs s renames program = is_pairable (leaves_of s) (leaves_of_program program) renames

-- a leaf of this role tells whether a chart has begun
abbrev pub is_chart : Role → Bool
is_chart ChartBegun = true
is_chart _ = false

-- the old leaf of this number is kept
abbrev pub is_kept : List (Option ℕ) → ℕ → Bool
is_kept targets i = is_some (number_at targets i)

-- the number of the `$CHART` of the chart whose step this old leaf tells to be active, where the leaf is kept
abbrev pub active_chart : List Leaf → List (Option ℕ) → List Value → ℕ → Option ℕ
active_chart old targets values i = if is_kept targets i && is_true (value_at values i) then chart_of (leaf_at old i).role else None

-- a step of the chart is kept that is active
abbrev pub keeps_active_step : List Leaf → List (Option ℕ) → List Value → ℕ → Bool
keeps_active_step old targets values chart = list_any (λ i. is_number chart (active_chart old targets values i)) (range_with_len 0 (length old))

-- a chart is kept that keeps no active step
abbrev pub stops : List Leaf → List (Option ℕ) → List Value → ℕ → Bool
stops old targets values i = is_kept targets i && (is_chart (leaf_at old i).role && not (keeps_active_step old targets values i))

abbrev pub loses_active_step : List Leaf → List (Option ℕ) → List Value → Bool
loses_active_step old targets values = list_any (stops old targets values) (range_with_len 0 (length old))

-- a chart that both programs have would keep no active step
abbrev pub stops_chart : StateView → List Rename → ProgramView → Bool
stops_chart s renames program = loses_active_step (leaves_of s) (pairs_of s renames program).targets s.content.values

-- ---- how that is found

-- whether the mark of this number is set
abbrev pub mark_at : List Bool → ℕ → Bool
mark_at marks k = get_or marks k false

-- each old leaf has a mark: whether it is the chart of a kept and active step, one of the first n leaves
pub record AreMarks (old : List Leaf) (targets : List (Option ℕ)) (values : List Value) (n : ℕ) (marks : List Bool) : Type 0 where
  pub long : length marks ≡ length old
  pub marked : (k : ℕ) → k < length old → mark_at marks k ≡ list_any (λ i. is_number k (active_chart old targets values i)) (range_with_len 0 n)
