-- How large a program may be: C9.
use Rattle.std.specs.Prelude.{ℕ, ◌+◌, nat_lt, Bool, false, ◌||◌, List, [], map, length}
use Rattle.st_values.specs.Types.{width_of}
use Rattle.st_leaves.specs.Sizes.{LeafSize, leaf, longest_path, total_bytes}
use Rattle.st_leaves.specs.Charts.{LeafBelow}

-- how many bytes its path has, and how many its value takes
abbrev pub size_of : LeafBelow → LeafSize
size_of l = leaf (length l.path) (width_of l.elem)

abbrev pub sizes_of : List LeafBelow → List LeafSize
sizes_of leaves = map size_of leaves

abbrev pub has_long_path : ℕ → List LeafSize → Bool
has_long_path name [] = false
has_long_path name leaves = nat_lt 255 (name + longest_path leaves)

-- more than 65,536 leaves or 524,288 bytes, or a path of more than 255 bytes, which begins with the program's name of so many
abbrev pub is_too_large : ℕ → List LeafBelow → Bool
is_too_large name leaves = nat_lt 65536 (length leaves) || nat_lt 524288 (total_bytes (sizes_of leaves)) || has_long_path name (sizes_of leaves)
