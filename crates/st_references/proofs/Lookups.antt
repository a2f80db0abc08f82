-- What is looked up in a table that has the initial values of all types.
use Rattle.std.proofs.Common.{◌≡◌, ◌∙◌, ℕ, zero, suc, List, [], ◌∷◌, get_or, map, Option, Some, None, refl, ap, sym}
use Rattle.st_tree.specs.declared.tree.declaration.DeclaredType.TheVariants as declared_types
use Rattle.st_tree.specs.declared.tree.declaration.Initial.{Initial}
use Rattle.st_tree.specs.declared.tree.declaration.Specification.{Specification}
use Rattle.st_tree.specs.declared.tree.declaration.Specification.TheVariants as specifications
use Rattle.st_tree.specs.declared.tree.declaration.TypeName.{TypeName}
use Rattle.st_tree.specs.declared.tree.declaration.TypeName.TheVariants as type_names
use Rattle.st_types.specs.Initials.{declares_initial, initial_at, initial_named, initial_of, known, name_initial, specified_initial, standing_initial, unit_initial, written_or}
use Rattle.st_types.specs.Names.{Declared, Named, number_of, unit_at}
use Rattle.st_types.specs.Names as names
use Rattle.st_types.specs.Standard.{standard_of}
use Rattle.st_types.specs.declared.standard.Standard.{Standard}
use Rattle.st_references.specs.Tables.{AreInitials, by_table, declares_written, written_by}

module _ (units : List Named) (table : List (Option Initial)) (all : AreInitials units table) where
  standing : (s : Option Standard) (n : Option ℕ) → known units (standing_initial (by_table table) s n) ≡ known units (standing_initial (initial_at units) s n)
  standing (Some s) n = refl
  standing None None = refl
  standing None (Some i) = all i

  pub named : (t : TypeName) → known units (name_initial units (by_table table) t) ≡ initial_named units t
  named (type_names.Elementary position e) = refl
  named (type_names.Declared t) = standing (standard_of t.spelling) (number_of units t.spelling)

  specified : (s : Specification) → known units (specified_initial units (by_table table) s) ≡ known units (specified_initial units (initial_at units) s)
  specified (specifications.Simple name) = named name
  specified (specifications.Array position ranges name) = refl

  written : (s : Specification) (i : Option Initial)
      → known units (written_or (specified_initial units (by_table table) s) i) ≡ known units (written_or (specified_initial units (initial_at units) s) i)
  written s (Some initial) = refl
  written s None = specified s

  pub declared : (v : Declared) → known units (written_or (specified_initial units (by_table table) v.specification) v.initial) ≡ initial_of units v
  declared v = written v.specification v.initial

-- ---- what types write themselves

-- of the unit of this number, in a list of all
own_at : (units : List Named) (i : ℕ) (u : Named) → Some u ≡ unit_at units i → get_or (map written_by units) i None ≡ written_by u
own_at [] i u is = absurd (cc)
own_at (v ∷ units) zero u is = let same = is_one u v is in ap written_by (sym same) where
  is_one : (a b : Named) → Some a ≡ Some b → a ≡ b
  is_one a b h = cc
own_at (v ∷ units) (suc i) u is = own_at units i u is

-- a type that writes a value begins with it
pub own_source : (units : List Named) (table all : List (Option Initial)) (i : ℕ) (u : Named) (s : Specification) (initial : Initial) → Some u ≡ unit_at units i → u.declares ≡ names.type (declared_types.Derived s (Some initial)) → all ≡ map written_by units
    → get_or all i None ≡ known units (unit_initial units (by_table table) (unit_at units i))
own_source units table all i u s initial at is all_are =
    ap (λ a. get_or a i None) all_are ∙ own_at units i u at ∙ ap declares_written is
    ∙ ap (λ d. known units (declares_initial units (by_table table) d)) (sym is) ∙ ap (λ o. known units (unit_initial units (by_table table) o)) at
