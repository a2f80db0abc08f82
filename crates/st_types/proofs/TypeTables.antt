-- What declared types stand for, by their links.
use Rattle.std.proofs.Common.{◌≡◌, ℕ, zero, suc, List, length, Option, Some, None, refl, ◌∙◌, ap}
use Rattle.st_types.specs.Tables.{first_of}
use Rattle.st_tree.specs.declared.tree.declaration.DeclaredType.TheVariants as declared_types
use Rattle.st_tree.specs.declared.tree.declaration.Specification.{Specification}
use Rattle.st_tree.specs.declared.tree.declaration.Specification.TheVariants as specifications
use Rattle.st_tree.specs.declared.tree.declaration.TypeName.{TypeName}
use Rattle.st_tree.specs.declared.tree.declaration.TypeName.TheVariants as type_names
use Rattle.st_types.specs.Links.{alias_link, array_link, derived_link, follow, link_at, link_within, name_link, names_of, optional_link, target, unit_link}
use Rattle.st_types.specs.Names.{Declares, Named, number_of, unit_at}
use Rattle.st_types.specs.Names as names
use Rattle.st_types.specs.Standard.{standard_of}
use Rattle.st_types.specs.Types.{array_of, derived_stands_for, name_stands_for, optional_stands_for, stands_for, type_at, type_within, unit_stands_for, without_instance}
use Rattle.st_types.specs.declared.base.Base.{Base}
use Rattle.st_types.specs.declared.base.Base.TheVariants as bases
use Rattle.st_types.specs.declared.link.Link.{Link}
use Rattle.st_types.specs.declared.link.Link.TheVariants as links
use Rattle.st_types.specs.declared.standard.Standard.{Standard}
use Rattle.st_types.specs.declared.standard.Standard.TheVariants as standards
use Rattle.st_types.proofs.Places.{position-map}
use Rattle.st_values.specs.Words.{is_word}

-- the number of a name among the names is that of the unit
pub number_in : (units : List Named) (name : List ℕ) → first_of (names_of units) name ≡ number_of units name
number_in units name = position-map (λ (u : Named). u.name.spelling) (λ n. is_word n name) units

-- ---- a link is followed as the type is found

-- what the target of a name stands for
abbrev at_target : (ℕ → Base) → Link → Base
at_target types (links.Known base) = base
at_target types (links.SameAs j) = types j
at_target types (links.ArrayOf j) = bases.Unknown

target_followed : (types : ℕ → Base) (standard : Option Standard) (number : Option ℕ) → at_target types (target standard number) ≡ stands_for types standard number
target_followed types (Some (standards.Function f)) number = refl
target_followed types (Some (standards.Conversion x y)) number = refl
target_followed types (Some (standards.Block b)) number = refl
target_followed types None None = refl
target_followed types None (Some i) = refl

-- a target is no array
data IsTarget : Link → Type 0 where
  known : (base : Base) → IsTarget (links.Known base)
  same : (j : ℕ) → IsTarget (links.SameAs j)

target_is : (standard : Option Standard) (number : Option ℕ) → IsTarget (target standard number)
target_is (Some (standards.Function f)) number = known bases.Unknown
target_is (Some (standards.Conversion x y)) number = known bases.Unknown
target_is (Some (standards.Block b)) number = known (bases.Standard b)
target_is None None = known bases.Unknown
target_is None (Some i) = same i

alias_followed : (types : ℕ → Base) (i : ℕ) (link : Link) → IsTarget link → follow types i (alias_link link) ≡ without_instance (at_target types link)
alias_followed types i link (known base) = refl
alias_followed types i link (same j) = refl

array_followed : (types : ℕ → Base) (i : ℕ) (link : Link) → IsTarget link → follow types i (array_link i link) ≡ array_of i (at_target types link)
array_followed types i link (known base) = refl
array_followed types i link (same j) = refl

module _ (units : List Named) (types : ℕ → Base) (i : ℕ) where
  -- what a name stands for
  abbrev type_of : List ℕ → Base
  type_of name = stands_for types (standard_of name) (number_of units name)

  name_is : (name : TypeName) → IsTarget (name_link (names_of units) name)
  name_is (type_names.Elementary position e) = known (bases.Elementary e)
  name_is (type_names.Declared identifier) = target_is (standard_of identifier.spelling) (first_of (names_of units) identifier.spelling)

  name_followed : (name : TypeName) → at_target types (name_link (names_of units) name) ≡ name_stands_for type_of name
  name_followed (type_names.Elementary position e) = refl
  name_followed (type_names.Declared identifier) =
      target_followed types (standard_of identifier.spelling) (first_of (names_of units) identifier.spelling) ∙ ap (stands_for types (standard_of identifier.spelling)) (number_in units identifier.spelling)

  derived_followed : (specification : Specification) → follow types i (derived_link (names_of units) i specification) ≡ derived_stands_for type_of i specification
  derived_followed (specifications.Simple name) = alias_followed types i (name_link (names_of units) name) (name_is name) ∙ ap without_instance (name_followed name)
  derived_followed (specifications.Array position ranges name) = array_followed types i (name_link (names_of units) name) (name_is name) ∙ ap (array_of i) (name_followed name)

  unit_followed : (unit : Declares) → follow types i (unit_link (names_of units) i unit) ≡ unit_stands_for type_of i unit
  unit_followed (names.type (declared_types.Derived specification initial)) = derived_followed specification
  unit_followed (names.type (declared_types.Structure position members)) = refl
  unit_followed (names.function f) = refl
  unit_followed (names.block b) = refl
  unit_followed (names.program p) = refl

  optional_followed : (unit : Option Named) → follow types i (optional_link (names_of units) i unit) ≡ optional_stands_for type_of i unit
  optional_followed None = refl
  optional_followed (Some unit) = unit_followed unit.declares

module _ (units : List Named) (all : List Link) (linked : (i : ℕ) → link_at all i ≡ optional_link (names_of units) i (unit_at units i)) where
  type_linked : (n i : ℕ) → link_within all n i ≡ type_within units n i
  unfolding link_within type_within
  type_linked zero i = refl
  type_linked (suc n) i =
      let same : link_within all n ≡ type_within units n = λ k j. type_linked n j k in
      ap (follow (link_within all n) i) (linked i)
      ∙ (optional_followed units (link_within all n) i (unit_at units i) ∙ ap (λ (types : ℕ → Base). optional_stands_for (λ name. stands_for types (standard_of name) (number_of units name)) i (unit_at units i)) same)

  -- what a unit stands for is at the end of its links
  pub type_at-linked : length all ≡ length units → (i : ℕ) → link_within all (suc (length all)) i ≡ type_at units i
  unfolding type_at
  type_at-linked len i = ap (λ (n : ℕ). link_within all (suc n) i) len ∙ type_linked (suc (length units)) i
