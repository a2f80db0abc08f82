-- What is made of the units of a program, by their numbers and by their places in the order.
use Rattle.std.proofs.Common.{◌≡◌, ℕ, zero, suc, ◌+◌, ◌<◌, Bool, true, false, if◌then◌else◌, nat_eq, List, [], ◌∷◌, ◌++◌, map, length, get_or, Some, refl, ap, sym, ◌∙◌, subst, arith}
use Rattle.std.specs.List.{All, Contains, slice_get}
use Rattle.std.specs.Prelude.{slice_index_or}
use Rattle.std.proofs.lemmas.Bool.{eqb-true, eqb-false}
use Rattle.std.proofs.lemmas.List.{get_or-append-add, get_or_append_left, length-map}
use Rattle.st_check.specs.Programs.{level_in}
use Rattle.st_references.specs.Graphs.{IsOrder}
use Rattle.st_references.specs.References.{graph_of, references}
use Rattle.st_types.specs.Names.{Named, unit_at}
use Rattle.st_types.proofs.Units.{found_below}
use Rattle.st_compile.specs.Programs.{made_of, numbered}

-- ---- by their numbers

module _ {V : Type 0} (make : ℕ → Named → V) where
  behind_at : (k : ℕ) (us : List Named) (i : ℕ) (u : Named) → unit_at us i ≡ Some u → slice_get (numbered make k us) i ≡ Some (make (k + i) u)
  behind_at k [] i u is = absurd cc
  behind_at k (v ∷ us) zero u is =
      let same : k + zero ≡ k = omega arith in
      let found : v ≡ u = cc in
      ap (λ w. Some (make k w)) found ∙ ap (λ n. Some (make n u)) (sym same)
  behind_at k (v ∷ us) (suc i) u is =
      let same : suc k + i ≡ k + suc i = omega arith in
      behind_at (suc k) us i u is ∙ ap (λ n. Some (make n u)) same

  pub view_at : (units : List Named) (i : ℕ) (u : Named) → unit_at units i ≡ Some u → slice_get (numbered make 0 units) i ≡ Some (make i u)
  view_at units i u is =
      let same : 0 + i ≡ i = omega arith in
      behind_at 0 units i u is ∙ ap (λ n. Some (make n u)) same

  pub length-numbered : (k : ℕ) (us : List Named) → length (numbered make k us) ≡ length us
  length-numbered k [] = refl
  length-numbered k (u ∷ us) = ap suc (length-numbered (suc k) us)

  -- the unit that it is made of, which has this number among these
  pub record IsOf (us : List Named) (i number : ℕ) (v : V) : Type 0 where
    pub unit : Named
    pub at : unit_at us i ≡ Some unit
    pub is : v ≡ make number unit

  unit_behind : (k : ℕ) (us : List Named) (i : ℕ) (v : V) → slice_get (numbered make k us) i ≡ Some v → IsOf us i (k + i) v
  unit_behind k [] i v is = absurd cc
  unit_behind k (u ∷ us) zero v is =
      let same : k + zero ≡ k = omega arith in
      let found : make k u ≡ v = cc in
      record { unit = u; at = refl; is = sym found ∙ ap (λ n. make n u) (sym same) }
  unit_behind k (u ∷ us) (suc i) v is =
      let same : suc k + i ≡ k + suc i = omega arith in
      let rest = unit_behind (suc k) us i v is in
      record { unit = rest.unit; at = rest.at; is = rest.is ∙ ap (λ n. make n rest.unit) same }

  pub unit_of_view : (units : List Named) (i : ℕ) (v : V) → slice_get (numbered make 0 units) i ≡ Some v → IsOf units i i v
  unit_of_view units i v is =
      let same : 0 + i ≡ i = omega arith in
      subst (λ n. IsOf units i n v) same (unit_behind 0 units i v is)

  got_behind : (other : V) (k : ℕ) (us : List Named) (i : ℕ) → get_or (numbered make k us) i other ≡ made_of make other (k + i) (unit_at us i)
  got_behind other k [] i = refl
  got_behind other k (u ∷ us) zero = let same : k ≡ k + zero = omega arith in ap (λ n. make n u) same
  got_behind other k (u ∷ us) (suc i) =
      let same : suc k + i ≡ k + suc i = omega arith in
      got_behind other (suc k) us i ∙ ap (λ n. made_of make other n (unit_at us i)) same

  pub got_at : (other : V) (units : List Named) (i : ℕ) → get_or (numbered make 0 units) i other ≡ made_of make other i (unit_at units i)
  got_at other units i =
      let same : 0 + i ≡ i = omega arith in
      got_behind other 0 units i ∙ ap (λ n. made_of make other n (unit_at units i)) same

-- ---- by their places

found_level : (order : List ℕ) (n k : ℕ) → k < length order → slice_index_or order k n ≡ n → slice_get order (level_in order n) ≡ Some n
found_level [] n k below is = absurd (omega (arith, below))
found_level (m ∷ order) n k below is = by (nat_eq m n) refl k below is (λ j less same. found_level order n j less same) where
  by : (b : Bool) → nat_eq m n ≡ b → (k : ℕ) → k < length (m ∷ order) → slice_index_or (m ∷ order) k n ≡ n
      → ((j : ℕ) → j < length order → slice_index_or order j n ≡ n → slice_get order (level_in order n) ≡ Some n)
      → slice_get (m ∷ order) (if b then 0 else suc (level_in order n)) ≡ Some n
  by true e k below is more = ap Some (eqb-true m n e)
  by false e zero below is more = absurd (eqb-false m n e is)
  by false e (suc j) below is more = more j (omega (arith, below)) is

module _ (units : List Named) (order : List ℕ) (ordered : IsOrder (graph_of units) order) where
  -- each unit stands in the order, at its level
  pub at_its_level : (n : ℕ) (u : Named) → unit_at units n ≡ Some u → slice_get order (level_in order n) ≡ Some n
  at_its_level n u at =
      let rows = length-map units (λ v. references units v.declares) in
      let has : Contains order n = ordered.all n (omega (arith, rows, found_below units n u at)) in
      found_level order n has.0 has.1 has.2

  -- and something is made of each number in the order
  pub all_made : {V : Type 0} (make : ℕ → Named → V) (given : List ℕ) (made : List V) → given ≡ order → made ≡ numbered make 0 units → All (λ number. number < length made) given
  all_made make given made same is k d below =
      let rows = length-map units (λ v. references units v.declares) in
      let many : length made ≡ length units = ap length is ∙ length-numbered make 0 units in
      let number = subst (All (λ n. n < length (graph_of units))) (sym same) ordered.rows k d below in
      omega (arith, number, rows, many)

got_below : {X : Type 0} (xs : List X) (i : ℕ) (x : X) → slice_get xs i ≡ Some x → i < length xs
got_below [] i x is = absurd cc
got_below (y ∷ xs) zero x is = omega arith
got_below (y ∷ xs) (suc i) x is = let more = got_below xs i x is in omega (arith, more)

pub level_below : (order : List ℕ) (n : ℕ) → slice_get order (level_in order n) ≡ Some n → level_in order n < length order
level_below order n is = got_below order (level_in order n) n is

-- what is given for each unit in the order, at its level
pub given_at : {Y : Type 0} (f : ℕ → Y) (order : List ℕ) (p n : ℕ) (d : Y) → slice_get order p ≡ Some n → get_or (map f order) p d ≡ f n
given_at f [] p n d is = absurd cc
given_at f (m ∷ order) zero n d is = let same : m ≡ n = cc in ap f same
given_at f (m ∷ order) (suc p) n d is = given_at f order p n d is

module _ {Y : Type 0} (f g : ℕ → Y) (order : List ℕ) (p n : ℕ) (d : Y) (is : slice_get order p ≡ Some n) where
  -- where two things are given, on the first levels
  pub first_given : get_or (map f order ++ map g order) p d ≡ f n
  first_given = get_or_append_left (map f order) (map g order) d p (omega (arith, got_below order p n is, length-map order f)) ∙ given_at f order p n d is

  -- and on those above
  pub second_given : get_or (map f order ++ map g order) (length order + p) d ≡ g n
  second_given =
      ap (λ k. get_or (map f order ++ map g order) (k + p) d) (sym (length-map order f)) ∙ get_or-append-add (map f order) (map g order) p d ∙ given_at g order p n d is
