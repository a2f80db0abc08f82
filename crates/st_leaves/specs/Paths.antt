-- The ways to the leaves of a program, and how they are written.
use Rattle.std.specs.Ordering.{int_eq}
use Rattle.std.specs.Prelude.{ℕ, ℤ, Bool, true, false, ◌&&◌, List, [], ◌∷◌, ◌++◌, codes}
use Rattle.std.specs.Fmt.{signed_decimal}
use Rattle.std.specs.List.{flat_map}
use Rattle.st_values.specs.Words.{AreWordBytes, is_word}

-- what selects a part
pub data Selector : Type 0 where
  -- a declared name: of a variable, a member, a step, or an action
  field : List ℕ → Selector
  -- what a block, a step or an action keeps besides, which no program can name
  kept : List ℕ → Selector
  -- an element, by its subscripts
  index : List ℤ → Selector

-- the way from a whole to a part
abbrev pub Path : Type 0
Path = List Selector

-- ---- how a path is written: `.A`, `.$M`, `[1,2]`

abbrev pub subscripts_text : List ℤ → List ℕ
subscripts_text [] = []
subscripts_text (i ∷ []) = signed_decimal i
subscripts_text (i ∷ is) = signed_decimal i ++ codes "," ++ subscripts_text is

abbrev pub selector_text : Selector → List ℕ
selector_text (field name) = codes "." ++ name
selector_text (kept name) = codes ".$" ++ name
selector_text (index subscripts) = codes "[" ++ subscripts_text subscripts ++ codes "]"

abbrev pub path_text : Path → List ℕ
path_text path = flat_map selector_text path

-- ---- the same path, where names are the same if they differ in case only (2.1.2)

abbrev pub are_same_numbers : List ℤ → List ℤ → Bool
are_same_numbers [] [] = true
are_same_numbers (i ∷ is) (j ∷ js) = int_eq i j && are_same_numbers is js
are_same_numbers _ _ = false

abbrev pub is_same_selector : Selector → Selector → Bool
is_same_selector (field a) (field b) = is_word a b
is_same_selector (kept a) (kept b) = is_word a b
is_same_selector (index a) (index b) = are_same_numbers a b
is_same_selector _ _ = false

abbrev pub is_same_path : Path → Path → Bool
is_same_path [] [] = true
is_same_path (s ∷ p) (t ∷ q) = is_same_selector s t && is_same_path p q
is_same_path _ _ = false

-- ---- names that are words (2.1.2)

abbrev pub HasWord : Selector → Type 0
HasWord (field name) = AreWordBytes name
HasWord (kept name) = AreWordBytes name
HasWord (index subscripts) = Unit {0}

-- all names on the way are words
abbrev pub HasWords : Path → Type 0
HasWords [] = Unit {0}
HasWords (s ∷ path) = HasWord s × HasWords path
