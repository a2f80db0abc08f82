-- What a unit of a checked program contains and calls stands before it in the order.
use Rattle.std.proofs.Common.{◌≡◌, ℕ, zero, suc, ◌<◌, ◌≤◌, Bool, true, false, if◌then◌else◌, nat_eq, List, [], ◌∷◌, length, get_or, take, get_or-take, refl, sym, ◌∙◌, subst, arith}
use Rattle.std.specs.List.{Contains}
use Rattle.std.proofs.lemmas.Bool.{eqb-false, eqb-true}
use Rattle.std.proofs.lemmas.List.{get_or_default, length-map, length-take-le}
use Rattle.st_references.specs.Graphs.{IsOrder, Refers}
use Rattle.st_references.proofs.Orders.{references_are_before}
use Rattle.st_references.proofs.Units.{made_of_unit}
use Rattle.st_references.specs.References.{graph_of, references}
use Rattle.st_check.specs.Programs.{level_in}
use Rattle.st_types.specs.Names.{Named}
use Rattle.st_types.proofs.Units.{found_below}
use Rattle.st_compile.specs.Ranks.{ReferBelow}

-- the level of a number that stands at this place is that of its first place
pub record IsPlaced (order : List ℕ) (n level place : ℕ) : Type 0 where
  pub below : level < length order
  pub at : get_or order level n ≡ n
  pub first : level ≤ place

pub placed : (order : List ℕ) (n place : ℕ) → place < length order → get_or order place n ≡ n → IsPlaced order n (level_in order n) place
placed [] n place below is = absurd (omega (arith, below))
placed (m ∷ order) n place below is = by (nat_eq m n) refl place below is (λ k less same. placed order n k less same) where
  by : (b : Bool) → nat_eq m n ≡ b → (k : ℕ) → k < length (m ∷ order) → get_or (m ∷ order) k n ≡ n
      → ((j : ℕ) → j < length order → get_or order j n ≡ n → IsPlaced order n (level_in order n) j)
      → IsPlaced (m ∷ order) n (if b then 0 else suc (level_in order n)) k
  by true e k less same more = record { below = omega arith; at = eqb-true m n e; first = omega arith }
  by false e zero less same more = absurd (eqb-false m n e same)
  by false e (suc j) less same more =
      let rest = more j (omega (arith, less)) same in
      record { below = omega (arith, rest.below); at = rest.at; first = omega (arith, rest.first) }

-- each level is at most the number of places
pub level_limit : (order : List ℕ) (n : ℕ) → level_in order n ≤ length order
level_limit [] n = omega arith
level_limit (m ∷ order) n = by (nat_eq m n) (level_limit order n) where
  by : (b : Bool) → level_in order n ≤ length order → (if b then 0 else suc (level_in order n)) ≤ length (m ∷ order)
  by true less = omega arith
  by false less = omega (arith, less)

pub refer_below : (units : List Named) (order : List ℕ) → IsOrder (graph_of units) order → ReferBelow units (level_in order)
refer_below units order ordered number other unit at contains =
    let graph = graph_of units in
    let has : Contains order number = ordered.all number (omega (arith, length-map units (λ v. references units v.declares), found_below units number unit at)) in
    let own = placed order number has.0 has.1 has.2 in
    let place = level_in order number in
    let refers : Refers graph number other = subst (λ row. Contains row other) (sym (made_of_unit (λ v. references units v.declares) units number unit at)) contains in
    let here : get_or order place 0 ≡ number = get_or_default order place 0 number own.below ∙ own.at in
    let before : Contains (take place order) other = references_are_before graph order place other ordered own.below (subst (λ row. Refers graph row other) (sym here) refers) in
    let earlier : before.0 < place = omega (arith, before.1, length-take-le place order (omega (arith, own.below))) in
    let there : get_or order before.0 other ≡ other = sym (get_or-take place order before.0 other earlier) ∙ before.2 in
    let first = placed order other before.0 (omega (arith, earlier, own.below)) there in
    omega (arith, first.first, earlier)
