-- The results of functions, before what is declared.
use Rattle.std.proofs.Common.{◌≡◌, ℕ, List, [], ◌++◌, Option, Some, None, refl, subst, sym}
use Rattle.std.specs.Option.{option_map, option_map_or}
use Rattle.st_scopes.specs.Declarations.{names_at, names_in}
use Rattle.st_types.specs.Inside.{declares_at}
use Rattle.st_types.specs.Names.{Declared, Declares, Named, unit_at}
use Rattle.st_types.specs.Names as names
use Rattle.st_meaning.specs.Units.{result_declared}
use Rattle.st_tree.specs.declared.tree.unit.Function.{Function}
use Rattle.st_types.specs.Compositions.{composition_within}
use Rattle.st_types.specs.Types.{shape_of}
use Rattle.st_types.specs.declared.base.Base.TheVariants as bases
use Rattle.st_places.specs.Members.{AreParts, HasConstants, HasMembers, HasNames}
use Rattle.st_places.specs.Parts.{constants_among, own_names, own_names_at, result_names, variables_among}
use Rattle.st_places.specs.declared.unit.UnitParts.{UnitParts}

-- of the unit of this number
abbrev pub results_at : List Named → ℕ → List Declared
results_at units i = option_map_or result_names (declares_at units i) []

pub own_apart : (units : List Named) (i : ℕ) → own_names_at units i ≡ results_at units i ++ names_at units i
own_apart units i = by (declares_at units i)
  where
    by : (d : Option Declares) → option_map_or own_names d [] ≡ option_map_or result_names d [] ++ option_map_or names_in d []
    by None = refl
    by (Some d) = refl

-- the result is one value
pub result_parts : (units : List Named) (f : Function) → AreParts units (result_declared f) (record { base = bases.Elementary f.result; dimensions = None; count = 1 })
unfolding composition_within shape_of
result_parts units f = record { base = refl; dimensions = tt; count = refl }

results_are_variables : (d : Declares) → variables_among (result_names d) ≡ result_names d
results_are_variables (names.type t) = refl
results_are_variables (names.function f) = refl
results_are_variables (names.block b) = refl
results_are_variables (names.program p) = refl

no_constant : (d : Declares) → constants_among (result_names d) ≡ []
no_constant (names.type t) = refl
no_constant (names.function f) = refl
no_constant (names.block b) = refl
no_constant (names.program p) = refl

-- the tables of a unit that has nothing but its result so far
pub results_named : (units : List Named) (i : ℕ) (u : Named) (parts : UnitParts) → Some u ≡ unit_at units i → HasMembers units (result_names u.declares) parts.members
    → HasConstants units [] parts.constants → HasNames units (results_at units i) parts
results_named units i u parts at members constants =
    subst (λ d. HasNames units (option_map_or result_names (option_map (λ (x : Named). x.declares) d) []) parts) at
    (record {
      members = subst (λ vs. HasMembers units vs parts.members) (sym (results_are_variables u.declares)) members;
      constants = subst (λ vs. HasConstants units vs parts.constants) (sym (no_constant u.declares)) constants;
    })
