-- With whichever value a variable begins, it has as many leaves.
use Rattle.std.proofs.Common.{◌≡◌, Option, Some, None, refl}
use Rattle.st_tree.specs.declared.tree.declaration.Initial.{Initial}
use Rattle.st_tree.specs.declared.tree.declaration.Initial.TheVariants as initials
use Rattle.st_types.specs.Compositions.{Composition, unknown, elementary, array, composed, standard, started}
use Rattle.st_leaves.specs.Places.{count}

pub started_count : (initial : Option Initial) (c : Composition) → count (started initial c) ≡ count c
started_count None c = refl
started_count (Some (initials.Constant k)) unknown = refl
started_count (Some (initials.Constant k)) (elementary v) = refl
started_count (Some (initials.Constant k)) (array ranges firsts c) = refl
started_count (Some (initials.Constant k)) (composed name ms chart) = refl
started_count (Some (initials.Constant k)) (standard b) = refl
started_count (Some (initials.Array position items)) unknown = refl
started_count (Some (initials.Array position items)) (elementary v) = refl
started_count (Some (initials.Array position items)) (array ranges firsts c) = refl
started_count (Some (initials.Array position items)) (composed name ms chart) = refl
started_count (Some (initials.Array position items)) (standard b) = refl
