-- How far elements of arrays stand apart (2.4.1).
use Rattle.std.specs.Prelude.{◌≡◌, ℕ, ◌+◌, ◌*◌, ◌-◌, ◌<◌, List, [], ◌∷◌, IsTrue, min}
use Rattle.st_values.specs.Values.{in_range}
use Rattle.st_values.specs.declared.elem.Elem.TheVariants as elems
use Rattle.st_tree.specs.declared.tree.declaration.Subrange.{Subrange}
use Rattle.st_tree.specs.Literals.{number_of}
use Rattle.st_leaves.specs.Places.{extent, extent_of}
use Rattle.st_places.specs.declared.node.Dimension.{Dimension}

-- the subscripts of an array whose elements have so many leaves
abbrev pub dimensions_in : List Subrange → ℕ → List Dimension
dimensions_in [] size = []
dimensions_in (r ∷ rs) size = record { last = extent_of r - 1; stride = extent rs * size; low = number_of r.lower } ∷ dimensions_in rs size

-- the same of any array, where each count stops at a limit
pub record IsLimited (size : ℕ) (r : Subrange) (rs : List Subrange) (d : Dimension) : Type 0 where
  pub last : 0 < extent_of r → d.last + 1 ≡ min (extent_of r) 65536
  pub stride : d.stride ≡ min (extent rs * size) 1000000
  pub low : IsTrue (in_range elems.Lint (number_of r.lower)) → d.low ≡ number_of r.lower

abbrev pub AreLimited : ℕ → List Subrange → List Dimension → Type 0
AreLimited size [] [] = Unit {0}
AreLimited size (r ∷ rs) (d ∷ ds) = IsLimited size r rs d × AreLimited size rs ds
AreLimited size _ _ = ⊥
