-- No two leaves of a program have the same path.
use Rattle.std.specs.Prelude.{◌≡◌, ◌≢◌, ◌<◌, ◌^◌, ℕ, ℤ, nat_abs, true, false, List, [], ◌∷◌, ◌++◌, map}
use Rattle.std.specs.List.{All, AllPairs, flat_map}
use Rattle.st_values.specs.Words.{is_word, raised}
use Rattle.st_tree.specs.declared.tree.unit.ChartElement.{ChartElement}
use Rattle.st_types.specs.Compositions.{Composition, unknown, elementary, array, composed, standard, Members, none, member, composition_of}
use Rattle.st_types.specs.Names.{Named, steps_in}
use Rattle.st_leaves.specs.LeavesIn.{leaves_of_whole, member_names}
use Rattle.st_leaves.specs.Paths.{HasWords, Path, field, index, is_same_path, kept, path_text}
use Rattle.st_leaves.specs.Programs.{program_leaves}

abbrev pub step_names : List ChartElement → List (List ℕ)
step_names chart = map (λ s. s.name.spelling) (flat_map steps_in chart)

-- no two of these names are the same
abbrev pub AreApart : List (List ℕ) → Type 0
AreApart names = AllPairs (λ a b. is_word a b ≡ false) names

-- no two members and steps of one whole have the same name
abbrev mutual
  pub HasDistinctNames : Composition → Type 0
  HasDistinctNames unknown = Unit {0}
  HasDistinctNames (elementary v) = Unit {0}
  HasDistinctNames (array ranges firsts c) = HasDistinctNames c
  HasDistinctNames (composed name ms chart) = AreApart (member_names ms ++ step_names chart) × HaveDistinctNames ms
  HasDistinctNames (standard b) = Unit {0}

  pub HaveDistinctNames : Members → Type 0
  HaveDistinctNames none = Unit {0}
  HaveDistinctNames (member name kind c ms) = HasDistinctNames c × HaveDistinctNames ms

-- where names are distinct, ways are
abbrev pub WaysAreDistinct : Type 0
WaysAreDistinct = (c : Composition) → HasDistinctNames c → AllPairs (λ l other. is_same_path l.path other.path ≡ false) (leaves_of_whole c)

-- numbers of at most 64 digits, which are written whole
abbrev pub AreShort : List ℤ → Type 0
AreShort [] = Unit {0}
AreShort (i ∷ is) = (nat_abs i < 10 ^ 64) × AreShort is

-- all subscripts on the way are such numbers
abbrev pub HasShortSubscripts : Path → Type 0
HasShortSubscripts [] = Unit {0}
HasShortSubscripts (field name ∷ path) = HasShortSubscripts path
HasShortSubscripts (kept name ∷ path) = HasShortSubscripts path
HasShortSubscripts (index subscripts ∷ path) = AreShort subscripts × HasShortSubscripts path

-- ways whose names are words, and whose subscripts are short, are written differently, unless they are the same
abbrev pub TextsAreWays : Type 0
TextsAreWays =
    (p q : Path) → HasWords p → HasWords q → HasShortSubscripts p → HasShortSubscripts q → raised (path_text p) ≡ raised (path_text q) → is_same_path p q ≡ true

-- no path of a program stands twice
abbrev pub PathsAreDistinct : Type 0
PathsAreDistinct = (units : List Named) (program : Named) → HasDistinctNames (composition_of units program.declares)
    → All (λ l. HasWords l.path) (leaves_of_whole (composition_of units program.declares))
    → All (λ l. HasShortSubscripts l.path) (leaves_of_whole (composition_of units program.declares))
    → AllPairs (λ leaf other. leaf.path ≢ other.path) (program_leaves units program)
