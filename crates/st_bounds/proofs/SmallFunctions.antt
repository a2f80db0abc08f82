-- No function of a checked program with a short text has many variables: each is one value, and its name stands for two tokens.
use Rattle.std.proofs.Common.{◌≡◌, ℕ, zero, suc, ◌+◌, ◌≤◌, ◌^◌, Bool, true, false, ◌&&◌, ◌||◌, not, nat_le, if◌then◌else◌, List, [], ◌∷◌, length, Some, None, refl, sym, ap, ◌∙◌, subst, arith}
use Rattle.std.specs.List.{All, list_all}
use Rattle.std.proofs.lemmas.Bool.{le-leb}
use Rattle.std.proofs.lemmas.List.Elements.{All-head, All-tail}
use Rattle.st_tree.specs.declared.tree.position.Identifier.{Identifier}
use Rattle.st_syntax.specs.Lengths.{IsShort}
use Rattle.st_tree.specs.Kinds.{is_constant}
use Rattle.st_types.specs.Compositions.{Composition, composition_within, declared_composition, elementary, member, members_by}
use Rattle.st_types.specs.Names.{Declared, Declares, Named, named, unit_at, units_of, variables_in, variables_of}
use Rattle.st_types.specs.Names as names
use Rattle.st_leaves.specs.Places.{count, counts}
use Rattle.st_check.specs.Laws.{IsOneValue}
use Rattle.st_check.specs.Programs.{IsChecked, ProgramView, text_of}
use Rattle.st_check.proofs.ElementaryFunctions.{elementary_functions}
use Rattle.st_compile.specs.Small.{function_is_small, functions_are_small}
use Rattle.st_bounds.specs.Laws.{AllFitCode, FitsCode, ShortProgramsHaveSmallFunctions}
use Rattle.st_bounds.proofs.Fitting.{texts_fit}

unit_fits : (us : List Named) (n : ℕ) (u : Named) → All FitsCode us → unit_at us n ≡ Some u → length (variables_in u.declares) ≤ 2 ^ 19
unit_fits [] n u all at = absurd cc
unit_fits (v ∷ us) zero u all at =
    let same : v ≡ u = cc in
    subst (λ (w : Named). length (variables_in w.declares) ≤ 2 ^ 19) same (All-head FitsCode v us all).variables
unit_fits (v ∷ us) (suc n) u all at = unit_fits us n u (All-tail FitsCode v us all) at

all_units : (f : Named → Bool) (us : List Named) → ((n : ℕ) (u : Named) → unit_at us n ≡ Some u → f u ≡ true) → list_all f us ≡ true
all_units f [] each = refl
all_units f (u ∷ us) each =
    ap (λ b. b && list_all f us) (each 0 u refl) ∙ all_units f us (λ n v at. each (suc n) v at)

module _ (units : List Named) where
  abbrev of_declared : Declared → Composition
  of_declared v = declared_composition units (composition_within units (suc (length units))) v

  one_leaf : (v : Declared) → IsOneValue (of_declared v) → count (of_declared v) ≡ 1
  one_leaf v one = ap count one.is

  few_leaves : (vs : List Declared) → All (λ v. IsOneValue (of_declared v)) vs → counts (members_by units (composition_within units (suc (length units))) vs) ≤ length vs
  few_leaves [] all = omega arith
  few_leaves (v ∷ vs) all =
      by (is_constant v.kind) (one_leaf v (All-head (λ w. IsOneValue (of_declared w)) v vs all)) (few_leaves vs (All-tail (λ w. IsOneValue (of_declared w)) v vs all)) where
        by : (b : Bool) → count (of_declared v) ≡ 1 → counts (members_by units (composition_within units (suc (length units))) vs) ≤ length vs
            → counts (if b then members_by units (composition_within units (suc (length units))) vs
            else member v.name.spelling v.kind (of_declared v) (members_by units (composition_within units (suc (length units))) vs)) ≤ suc (length vs)
        by true one few = omega (arith, few)
        by false one few = omega (arith, one, few)

module _ (program : ProgramView) (checked : IsChecked program) (short : IsShort (text_of program)) where
  abbrev units : List Named
  units = units_of (text_of program)

  small_by : (n : ℕ) (name : Identifier) (d : Declares) → unit_at units n ≡ Some (named name d) → length (variables_in d) ≤ 2 ^ 19
      → function_is_small units (named name d) ≡ true
  small_by n name (names.type t) at few = refl
  small_by n name (names.function f) at few =
      le-leb (1 + counts (members_by units (composition_within units (suc (length units))) (variables_of f.variables)) + 0) 999999
      (omega (arith, few, few_leaves units (variables_of f.variables) (elementary_functions program checked n (named name (names.function f)) f at refl)))
  small_by n name (names.block b) at few = refl
  small_by n name (names.program p) at few = refl

  small_functions : functions_are_small program ≡ true
  unfolding functions_are_small
  small_functions =
      all_units (function_is_small units) units (λ n u at. small_by n u.name u.declares at (unit_fits units n u (texts_fit (text_of program) short).each at))

pub small : ShortProgramsHaveSmallFunctions
small program checked short = small_functions program checked short
