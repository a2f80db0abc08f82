-- The program of a name.
use Rattle.std.proofs.Common.{◌≡◌, ℕ, zero, suc, ◌<◌, List, [], ◌∷◌, length, true, Some, get_or, subst}
use Rattle.std.proofs.lemmas.Bool.{and_parts}
use Rattle.std.proofs.lemmas.List.Quantifiers.{position-Some}
use Rattle.st_types.specs.Names.{Named, unit_at}
use Rattle.st_check.specs.Faults.{is_main, is_program, program_named}

-- the unit that is read
pub read : (units : List Named) (i : ℕ) (u d : Named) → unit_at units i ≡ Some u → get_or units i d ≡ u
read [] i u d is = absurd (cc)
read (v ∷ vs) zero u d is = cc
read (v ∷ vs) (suc i) u d is = read vs i u d is

pub program_is_unit : (units : List Named) (main : List ℕ) (i : ℕ) → program_named units main ≡ Some i → i < length units
program_is_unit [] main i is = absurd (cc)
program_is_unit (u ∷ us) main i is = (position-Some (is_main main) (u ∷ us) i u is).0

pub program_is_program : (units : List Named) (main : List ℕ) (i : ℕ) (u : Named) → program_named units main ≡ Some i → unit_at units i ≡ Some u → is_program u.declares ≡ true
program_is_program units main i u is found =
    (and_parts (is_program u.declares) _ (subst (λ v. is_main main v ≡ true) (read units i u u found) ((position-Some (is_main main) units i u is).1))).0
