-- The variables of a program bear no other name than they do as leaves.
use Rattle.std.proofs.Common.{◌≡◌, true, List, suc, codes, length, refl}
use Rattle.st_check.specs.Faults.{is_program}
use Rattle.st_types.specs.Compositions.{composition_of, composition_within, unit_composition}
use Rattle.st_types.specs.Names.{Declares, Named}
use Rattle.st_types.specs.Names as names
use Rattle.st_meaning.specs.Units.{root_name, root_of, unit_root}

pub program_root : (units : List Named) (u : Named) → is_program u.declares ≡ true → root_of units u ≡ composition_of units u.declares
unfolding composition_of
program_root units u is = by u.declares is where
  by : (d : Declares) → is_program d ≡ true → unit_root units (root_name u.name.spelling d) d ≡ unit_composition units (composition_within units (suc (length units))) (codes "PROGRAM") d
  by (names.type d) e = absurd cc
  by (names.function f) e = absurd cc
  by (names.block b) e = absurd cc
  by (names.program p) e = refl
