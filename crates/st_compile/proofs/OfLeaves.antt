-- The values of a program's leaves, and their types, are those of what its variables consist of.
use Rattle.std.proofs.Common.{◌≡◌, ℕ, suc, true, List, [], ◌∷◌, map, refl, ap, sym, ◌∙◌, subst}
use Rattle.std.specs.List.{AllZip}
use Rattle.st_check.specs.Faults.{is_program}
use Rattle.st_types.specs.Compositions.{composition_of}
use Rattle.st_types.specs.Names.{Named}
use Rattle.st_leaves.specs.LeavesIn.{LeafIn, leaves_in, leaves_of_whole}
use Rattle.st_leaves.specs.Charts.{LeafBelow}
use Rattle.st_leaves.specs.Compositions.{counted}
use Rattle.st_leaves.specs.Programs.{leaves_from, program_leaves}
use Rattle.st_leaves.specs.Sound.{IsValueOf}
use Rattle.st_leaves.proofs.Counted.{counts, counts_whole}
use Rattle.st_meaning.specs.Meaning.{Values}
use Rattle.st_meaning.specs.Sound.{AreValuesOf}
use Rattle.st_meaning.specs.Units.{root_of}
use Rattle.st_machine.specs.Blocks.{types_in}
use Rattle.st_compile.proofs.OfTypes.{HaveTypes, elems_of, typed_values, values_typed}
use Rattle.st_compile.proofs.Renamed.{program_root}

counted_elems : (ls others : List LeafIn) → map counted ls ≡ map counted others → elems_of ls ≡ elems_of others
counted_elems [] [] e = refl
counted_elems [] (o ∷ others) e = absurd cc
counted_elems (l ∷ ls) [] e = absurd cc
counted_elems (l ∷ ls) (o ∷ others) e =
    let here : counted l ≡ counted o = cc in
    let elem : l.initial.elem ≡ o.initial.elem = ap (λ (b : LeafBelow). b.elem) here in
    let rest = counted_elems ls others cc in
    cc

-- ---- of a program's leaves

from_leaves : (main : List ℕ) (n : ℕ) (ls : List LeafIn) (values : Values) → AllZip IsValueOf (leaves_from main n ls) values → HaveTypes (elems_of ls) values
from_leaves main n [] [] h = tt
from_leaves main n [] (v ∷ values) h = h
from_leaves main n (l ∷ ls) [] h = h
from_leaves main n (l ∷ ls) (v ∷ values) h = (record { in_range = h.0.in_range; of_type = h.0.elem }, from_leaves main (suc n) ls values h.1)

to_leaves : (main : List ℕ) (n : ℕ) (ls : List LeafIn) (values : Values) → HaveTypes (elems_of ls) values → AllZip IsValueOf (leaves_from main n ls) values
to_leaves main n [] [] h = tt
to_leaves main n [] (v ∷ values) h = h
to_leaves main n (l ∷ ls) [] h = h
to_leaves main n (l ∷ ls) (v ∷ values) h = (record { elem = h.0.of_type; in_range = h.0.in_range }, to_leaves main (suc n) ls values h.1)

-- their types are those of the leaves
types_from : (main : List ℕ) (n : ℕ) (ls : List LeafIn) → types_in (leaves_from main n ls) ≡ elems_of ls
types_from main n [] = refl
types_from main n (l ∷ ls) = ap (λ es. l.initial.elem ∷ es) (types_from main (suc n) ls)

module _ (units : List Named) (u : Named) (is : is_program u.declares ≡ true) where
  abbrev declared : List LeafIn
  declared = leaves_of_whole (composition_of units u.declares)

  elems_root : elems_of declared ≡ elems_of (leaves_in (root_of units u))
  elems_root = counted_elems declared (leaves_in (root_of units u)) (counts_whole (composition_of units u.declares) ∙ ap (λ c. counts (leaves_in c)) (sym (program_root units u is)))

  pub types_of_root : types_in (program_leaves units u) ≡ elems_of (leaves_in (root_of units u))
  unfolding program_leaves
  types_of_root = types_from u.name.spelling 0 declared ∙ elems_root

  pub values_of_root : (values : Values) → AllZip IsValueOf (program_leaves units u) values → AreValuesOf (root_of units u) values
  unfolding program_leaves
  values_of_root values h =
      values_typed (root_of units u) values (subst (λ es. HaveTypes es values) elems_root (from_leaves u.name.spelling 0 declared values h))

  pub values_of_program : (values : Values) → AreValuesOf (root_of units u) values → AllZip IsValueOf (program_leaves units u) values
  unfolding program_leaves
  values_of_program values h =
      to_leaves u.name.spelling 0 declared values (subst (λ es. HaveTypes es values) (sym elems_root) (typed_values (root_of units u) values h))
