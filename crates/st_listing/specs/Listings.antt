-- The leaves of a program, one put behind the other.
use Rattle.std.specs.Prelude.{ℕ, suc, Bool, true, false, List, [], ◌∷◌, ◌++◌, length, take, ◌-◌}
use Rattle.std.specs.List.{All}
use Rattle.st_values.specs.Words.{raised}
use Rattle.st_tree.specs.declared.leaf.Leaf.{Leaf}
use Rattle.st_leaves.specs.LeavesIn.{LeafIn, Use, as_input}
use Rattle.st_leaves.specs.Paths.{HasWords, Selector, path_text, selector_text}
use Rattle.st_leaves.specs.Programs.{role_at}

-- the leaves that are listed, and where the next ones stand: the text of the way to the part that is being listed, what each front of that
-- way is, and whether the part is one of an input of the program
pub record ListingView : Type 0 where
  pub leaves : List Leaf
  pub text : List ℕ
  pub spine : List (List ℕ)
  pub is_input : Bool

abbrev pub use_in : Bool → Use → Use
use_in true use' = as_input use'
use_in false use' = use'

-- the leaf of this number behind a way
abbrev pub leaf_behind : ListingView → ℕ → LeafIn → Leaf
leaf_behind s n l = record {
  path = raised (s.text ++ path_text l.path);
  shown = s.text ++ path_text l.path;
  spine = s.spine ++ l.spine;
  elem = l.initial.elem;
  initial = l.initial;
  role = role_at n (use_in s.is_input l.use');
}

abbrev pub leaves_behind : ListingView → ℕ → List LeafIn → List Leaf
leaves_behind s n [] = []
leaves_behind s n (l ∷ leaves) = leaf_behind s n l ∷ leaves_behind s (suc n) leaves

-- these leaves were listed too
abbrev pub listed : ListingView → List LeafIn → ListingView
listed s leaves = record { leaves = s.leaves ++ leaves_behind s (length s.leaves) leaves; text = s.text; spine = s.spine; is_input = s.is_input }

-- within a part that is written so, of a whole of this name
abbrev pub behind : ListingView → List ℕ → List ℕ → ListingView
behind s text name = record { leaves = s.leaves; text = s.text ++ text; spine = s.spine ++ name ∷ []; is_input = s.is_input }

abbrev pub inside : ListingView → Selector → List ℕ → ListingView
inside s selector name = behind s (selector_text selector) name

-- back to the way with so many bytes, of one part less
abbrev pub outside : ListingView → ℕ → ListingView
outside s len = record { leaves = s.leaves; text = take len s.text; spine = take (length s.spine - 1) s.spine; is_input = s.is_input }

-- where the part is one of an input of the program, or isn't
abbrev pub as_inputs : ListingView → Bool → ListingView
as_inputs s is_input = record { leaves = s.leaves; text = s.text; spine = s.spine; is_input = is_input }

-- all names on the ways to these leaves are words
abbrev pub AreWays : List LeafIn → Type 0
AreWays leaves = All (λ l. HasWords l.path) leaves
