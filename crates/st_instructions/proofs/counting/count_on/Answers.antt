use Rattle.std.proofs.Common.{◌≡◌, [], ◌∷◌, ℤ, List, pos, get_or, IsTrue, refl, rules, w64}
use Rattle.std.proofs.lemmas.Int.{to_z-of_z}
use Rattle.st_instructions.specs.Ready.{has_three}
use Rattle.st_instructions.proofs.counting.count_on.Goals as goal

-- what the three newest of a stack are
three : (stack : List ℤ) → IsTrue (has_three stack) → (rest : List ℤ) × (stack ≡ get_or stack 0 (pos 0) ∷ get_or stack 1 (pos 0) ∷ get_or stack 2 (pos 0) ∷ rest)
three [] h = cc
three (x ∷ []) h = cc
three (x ∷ y ∷ []) h = cc
three (x ∷ y ∷ z ∷ rest) h = (rest, refl)

pub returns : goal.returns
returns c =
    let are = three c.args.stack.now.0 c.requires in
    record {
      cells = (are.0, rw (to_z-of_z w64 c.pick.result (search rules), to_z-of_z w64 c.pick-2.result (search rules), to_z-of_z w64 c.pick-3.result (search rules), c.pick.ensures, c.pick-2.ensures, c.pick-3.ensures) are.1);
    }
