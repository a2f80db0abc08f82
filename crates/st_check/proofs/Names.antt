-- What the names of types stand for, by what is known of the units that they are.
use Rattle.std.proofs.Common.{◌≡◌, ℕ, zero, suc, ◌≤◌, Bool, true, false, ◌&&◌, not, List, [], ◌∷◌, Option, Some, None, is_some, length, refl, ap, sym, subst, if◌then◌else◌}
use Rattle.std.specs.List.{All, flat_map}
use Rattle.std.proofs.lemmas.List.Elements.{All-head}
use Rattle.st_tree.specs.declared.tree.declaration.Specification.{Specification}
use Rattle.st_tree.specs.declared.tree.declaration.Specification.TheVariants as specifications
use Rattle.st_tree.specs.declared.tree.declaration.Subrange.{Subrange}
use Rattle.st_tree.specs.declared.tree.declaration.TypeName.{TypeName}
use Rattle.st_tree.specs.declared.tree.declaration.TypeName.TheVariants as type_names
use Rattle.st_values.specs.declared.elem.Elem.{Elem}
use Rattle.st_references.specs.References.{contained, is_type, listed, names_type, specified_names, type_names_in}
use Rattle.st_types.specs.Names.{Declares, Named, number_of, unit_at, unit_by}
use Rattle.st_types.specs.Names as names
use Rattle.st_types.specs.Standard.{standard_of}
use Rattle.st_types.specs.Types.{is_unknown, name_stands_for, optional_stands_for, shape_of, stands_for, type_at, type_named, type_within, unit_stands_for, unknown, without_instance}
use Rattle.st_types.specs.declared.base.Base.{Base}
use Rattle.st_types.specs.declared.base.Base.TheVariants as bases
use Rattle.st_types.specs.declared.standard.Standard.{Standard}
use Rattle.st_types.specs.declared.standard.Standard.TheVariants as standards
use Rattle.st_types.specs.declared.standard.StandardBlock.{StandardBlock}
use Rattle.st_types.proofs.Units.{unit_at-past}
use Rattle.st_references.proofs.Lists.{all_left}

-- what a name stands for, where others are looked up by `types`
abbrev pub named_by : List Named → (ℕ → Base) → List ℕ → Base
named_by units types name = stands_for types (standard_of name) (number_of units name)

-- the units that a unit contains under this name
abbrev referred : List Named → Option Standard → Option ℕ → List ℕ
referred units standard number = if not (is_some standard) && names_type (unit_by units number) then listed number else []

-- What is so of every type that a name can stand for is so of what it stands for.
module _ (units : List Named) (P : ((ℕ → Base) → Base) → Type 0) (unknown : P (λ types. bases.Unknown))
    (elementary : (e : Elem) → P (λ types. bases.Elementary e)) (standard : (b : StandardBlock) → P (λ types. bases.Standard b))
    (others : (i : ℕ) → names_type (unit_at units i) ≡ false → P (λ types. types i)) where
  by_number : (i : ℕ) (t : Bool) → names_type (unit_at units i) ≡ t → All (λ j. P (λ types. types j)) (if t then i ∷ [] else []) → P (λ types. types i)
  by_number i true is all = All-head (λ j. P (λ types. types j)) i [] all
  by_number i false is all = others i is

  by_target : (s : Option Standard) (n : Option ℕ) → All (λ j. P (λ types. types j)) (referred units s n) → P (λ types. stands_for types s n)
  by_target (Some (standards.Block b)) n all = standard b
  by_target (Some (standards.Function f)) n all = unknown
  by_target (Some (standards.Conversion x y)) n all = unknown
  by_target None None all = unknown
  by_target None (Some i) all = by_number i (names_type (unit_at units i)) refl all

  pub by_name : (t : TypeName) → All (λ j. P (λ types. types j)) (flat_map (contained units) (type_names_in t)) → P (λ types. name_stands_for (named_by units types) t)
  by_name (type_names.Elementary position e) all = elementary e
  by_name (type_names.Declared identifier) all =
      by_target (standard_of identifier.spelling) (number_of units identifier.spelling)
      (all_left (λ j. P (λ types. types j)) (referred units (standard_of identifier.spelling) (number_of units identifier.spelling)) [] all)

-- ---- functions and programs are no types

no_type : (f : List ℕ → Base) (i : ℕ) (unit : Declares) → is_type unit ≡ false → unit_stands_for f i unit ≡ bases.Unknown
no_type f i (names.type d) is = absurd (cc)
no_type f i (names.function g) is = refl
no_type f i (names.block b) is = absurd (cc)
no_type f i (names.program p) is = refl

none_or_no_type : (f : List ℕ → Base) (i : ℕ) (unit : Option Named) → names_type unit ≡ false → optional_stands_for f i unit ≡ bases.Unknown
none_or_no_type f i None is = refl
none_or_no_type f i (Some unit) is = no_type f i unit.declares is

pub others_unknown : (units : List Named) (n i : ℕ) → names_type (unit_at units i) ≡ false → type_within units n i ≡ bases.Unknown
unfolding type_within
others_unknown units zero i is = refl
others_unknown units (suc n) i is = none_or_no_type (named_by units (type_within units n)) i (unit_at units i) is

-- past the last unit there is no type
pub past_unknown : (units : List Named) (i : ℕ) → length units ≤ i → type_at units i ≡ bases.Unknown
unfolding type_at
past_unknown units i past = others_unknown units (suc (length units)) i (ap names_type (unit_at-past units i past))

-- ---- what a name and a specification stand for in a text

module _ (units : List Named) (P : Base → Type 0) (none : P bases.Unknown) (elementary : (e : Elem) → P (bases.Elementary e)) (standard : (b : StandardBlock) → P (bases.Standard b)) where
  other : (i : ℕ) → names_type (unit_at units i) ≡ false → P (type_at units i)
  unfolding type_at
  other i is = subst P (sym (others_unknown units (suc (length units)) i is)) none

  pub of_name : (t : TypeName) → All (λ i. P (type_at units i)) (flat_map (contained units) (type_names_in t)) → P (name_stands_for (type_named units) t)
  unfolding type_named
  of_name t all = by_name units (λ (f : (ℕ → Base) → Base). P (f (type_at units))) none elementary standard other t all

  of_array : (ranges : List Subrange) (element : Base) (t : Bool) → P element → P (if t then unknown else record { subscripts = Some ranges; base = element }).base
  of_array ranges element true is = none
  of_array ranges element false is = is

  pub of_shape : (s : Specification) → All (λ i. P (type_at units i)) (flat_map (contained units) (specified_names s)) → P (shape_of units s).base
  unfolding shape_of
  of_shape (specifications.Simple t) all = of_name t all
  of_shape (specifications.Array position ranges t) all =
      of_array ranges (name_stands_for (type_named units) t) (is_unknown (without_instance (name_stands_for (type_named units) t))) (of_name t all)
