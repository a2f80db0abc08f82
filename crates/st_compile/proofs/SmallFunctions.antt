-- The functions of a program that runs are small.
use Rattle.std.proofs.Common.{◌≡◌, ℕ, zero, suc, Bool, true, ◌||◌, not, List, [], ◌∷◌, Some, ap, sym, ◌∙◌, subst}
use Rattle.std.specs.List.{list_all}
use Rattle.std.proofs.lemmas.Bool.{and_parts}
use Rattle.st_check.specs.Programs.{ProgramView, text_of}
use Rattle.st_types.specs.Names.{Named, unit_at, units_of}
use Rattle.st_places.specs.Parts.{is_small_function}
use Rattle.st_compile.specs.Small.{function_is_small, functions_are_small}
use Rattle.st_compile.proofs.Callable.{AreFunctionsSmall}

all_at : (f : Named → Bool) (us : List Named) (n : ℕ) (u : Named) → unit_at us n ≡ Some u → list_all f us ≡ true → f u ≡ true
all_at f [] n u at h = absurd cc
all_at f (v ∷ us) zero u at h = let same : v ≡ u = cc in subst (λ w. f w ≡ true) same (and_parts (f v) (list_all f us) h).0
all_at f (v ∷ us) (suc n) u at h = all_at f us n u at (and_parts (f v) (list_all f us) h).1

pub functions_small : (program : ProgramView) → functions_are_small program ≡ true → AreFunctionsSmall program
unfolding functions_are_small
functions_small program h n u at is =
    let units = units_of (text_of program) in
    ap (λ b. not b || is_small_function units u) (sym is) ∙ all_at (function_is_small units) units n u at h
