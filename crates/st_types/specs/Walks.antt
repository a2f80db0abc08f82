-- What a walk along links keeps.
use Rattle.std.specs.Prelude.{ℕ, ◌≡◌, ◌+◌, ◌<◌, ◌≤◌, Bool, true, false, List, [], ◌∷◌, length, get_or, if◌then◌else◌}
use Rattle.std.specs.List.{All, Contains, sum_by}
use Rattle.st_types.specs.Links.{link_at, link_within}
use Rattle.st_types.specs.declared.base.Base.{Base}
use Rattle.st_types.specs.declared.base.Base.TheVariants as bases
use Rattle.st_types.specs.declared.link.Link.{Link}
use Rattle.st_types.specs.declared.link.Link.TheVariants as links
use Rattle.st_types.specs.declared.walk.Mark.{Mark}
use Rattle.st_types.specs.declared.walk.Mark.TheVariants as marks

-- the type of the unit of this number
abbrev pub base_at : List Base → ℕ → Base
base_at all i = get_or all i bases.Unknown

abbrev pub base_of : Mark → Base
base_of (marks.Done base) = base
base_of _ = bases.Unknown

abbrev pub mark_of : List Mark → ℕ → Mark
mark_of all i = get_or all i marks.New

abbrev pub is_new : Mark → Bool
is_new marks.New = true
is_new _ = false

-- the walk came to the unit
abbrev pub IsMet : List Mark → ℕ → Type 0
IsMet all i = is_new (mark_of all i) ≡ false

abbrev pub KeepsMet : List Mark → List Mark → Type 0
KeepsMet old new = (i : ℕ) → IsMet old i → IsMet new i

-- how many units weren't met
abbrev pub unmet : List Mark → ℕ
unmet all = sum_by (λ m. if is_new m then 1 else 0) all

-- the link leads to the unit
abbrev pub LeadsTo : Link → ℕ → Type 0
LeadsTo (links.Known base) j = ⊥
LeadsTo (links.SameAs k) j = k ≡ j
LeadsTo (links.ArrayOf k) j = k ≡ j

-- the unit to which the one before a path leads, where the last leads to `end`
abbrev pub first_on : List ℕ → ℕ → ℕ
first_on [] end = end
first_on (i ∷ path) end = i

-- each unit leads to the next, and the last to `end`
abbrev pub AreLinked : List Link → List ℕ → ℕ → Type 0
AreLinked all [] end = Unit {0}
AreLinked all (i ∷ path) end = LeadsTo (link_at all i) (first_on path end) × AreLinked all path end

-- Marks between two steps. The types that are known take no more links than `depth`; the units whose types aren't are on
-- the path.
pub record AreMarked (all : List Link) (marking : List Mark) (path : List ℕ) : Type 0 where
  pub depth : ℕ
  pub len : length marking ≡ length all
  pub fits : unmet marking + length path + depth ≡ length marking
  pub done : (i : ℕ) (base : Base) → mark_of marking i ≡ marks.Done base → (n : ℕ) → depth ≤ n → link_within all n i ≡ base
  pub opens : (i : ℕ) → mark_of marking i ≡ marks.Open → Contains path i
  pub within : All (λ i. i < length all) path

-- on the way down: the path leads to this unit
pub record IsDown (all : List Link) (marking : List Mark) (path : List ℕ) (at : ℕ) : Type 0 where
  pub marked : AreMarked all marking path
  pub linked : AreLinked all path at
  pub below : at < length all

-- on the way up: the path leads to a unit that stands for this type
pub record IsUp (all : List Link) (marking : List Mark) (path : List ℕ) (base : Base) : Type 0 where
  pub marked : AreMarked all marking path
  pub at : ℕ
  pub linked : AreLinked all path at
  pub known : (n : ℕ) → marked.depth ≤ n → link_within all n at ≡ base
