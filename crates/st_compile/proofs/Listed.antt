-- What is made of each unit of a program, in the order of their numbers, and in that of the levels.
use Rattle.std.proofs.Common.{◌≡◌, ℕ, zero, suc, ◌+◌, ◌≤◌, Bool, true, false, ◌&&◌, List, [], ◌∷◌, ◌++◌, get_or, length, map, take, Some, refl, ap, sym, ◌∙◌, arith, take_all}
use Rattle.std.specs.List.{list_all, slice_get}
use Rattle.std.proofs.lemmas.Bool.{and_from, and_parts}
use Rattle.st_check.specs.Programs.{ProgramView, order_of, text_of}
use Rattle.st_machine.specs.Levels.{no_room}
use Rattle.st_machine.specs.declared.stacks.Room.{Room}
use Rattle.st_types.specs.Names.{Named, unit_at, units_of}
use Rattle.st_compile.specs.Programs.{block_room, function_room, numbered, program_names, program_rooms, room_at}
use Rattle.st_compile.proofs.Ordered.{got_at}

-- one more of them, behind the others
pub views_more : {V : Type 0} (make : ℕ → Named → V) (first : ℕ) (us : List Named) (n at : ℕ) (u : Named) → unit_at us n ≡ Some u → at ≡ first + n
    → numbered make first (take (suc n) us) ≡ numbered make first (take n us) ++ make at u ∷ []
views_more make first [] n at u found is = absurd cc
views_more make first (v ∷ us) zero at u found is =
    let same : v ≡ u = cc in
    let number : first ≡ at = omega (arith, is) in
    ap (λ k. make k v ∷ []) number ∙ ap (λ w. make at w ∷ []) same
views_more make first (v ∷ us) (suc n) at u found is =
    ap (λ vs. make first v ∷ vs) (views_more make (suc first) us n at u found (omega (arith, is)))

pub map_more_at : {X : Type 0} (f : Named → X) (us : List Named) (n : ℕ) (u : Named) → unit_at us n ≡ Some u → map f (take (suc n) us) ≡ map f (take n us) ++ f u ∷ []
map_more_at f [] n u found = absurd cc
map_more_at f (v ∷ us) zero u found = let same : v ≡ u = cc in ap (λ w. f w ∷ []) same
map_more_at f (v ∷ us) (suc n) u found = ap (λ xs. f v ∷ xs) (map_more_at f us n u found)

pub map_more : {X Y : Type 0} (f : X → Y) (xs : List X) (n : ℕ) (x : X) → slice_get xs n ≡ Some x → map f (take (n + 1) xs) ≡ map f (take n xs) ++ f x ∷ []
map_more f [] n x found = absurd cc
map_more f (y ∷ xs) zero x found = let same : y ≡ x = cc in ap (λ z. f z ∷ []) same
map_more f (y ∷ xs) (suc n) x found =
    let number : suc n + 1 ≡ suc (n + 1) = omega arith in
    ap (λ k. map f (take k (y ∷ xs))) number ∙ ap (λ ys. f y ∷ ys) (map_more f xs n x found)

-- ---- whether all of them pass a test

pub all_more : (f : Named → Bool) (us : List Named) (n : ℕ) (u : Named) → unit_at us n ≡ Some u → list_all f (take n us) ≡ true → f u ≡ true → list_all f (take (suc n) us) ≡ true
all_more f [] n u found before here = absurd cc
all_more f (v ∷ us) zero u found before here = let same : v ≡ u = cc in ap (λ w. f w && true) same ∙ ap (λ b. b && true) here
all_more f (v ∷ us) (suc n) u found before here =
    let parts = and_parts (f v) (list_all f (take n us)) before in
    and_from (f v) (list_all f (take (suc n) us)) parts.0 (all_more f us n u found parts.1 here)

pub all_fails : (f : Named → Bool) (us : List Named) (n : ℕ) (u : Named) → unit_at us n ≡ Some u → f u ≡ false → list_all f us ≡ false
all_fails f [] n u found here = absurd cc
all_fails f (v ∷ us) zero u found here = let same : v ≡ u = cc in ap (λ b. b && list_all f us) (ap f same ∙ here)
all_fails f (v ∷ us) (suc n) u found here = ap (λ b. f v && b) (all_fails f us n u found here) ∙ and_none (f v)
  where
    and_none : (b : Bool) → (b && false) ≡ false
    and_none true = refl
    and_none false = refl

-- ---- what is pushed, and all of it

module _ (units : List Named) (n : ℕ) (u : Named) (found : unit_at units n ≡ Some u) where
  next : {X : Type 0} (make : List Named → X) → make (take (n + 1) units) ≡ make (take (suc n) units)
  next make = let number : n + 1 ≡ suc n = omega arith in ap (λ k. make (take k units)) number

  pub view_pushed : {V : Type 0} (make : ℕ → Named → V) (old new : List V) (v : V) → new ≡ old ++ v ∷ [] → old ≡ numbered make 0 (take n units) → v ≡ make n u
      → new ≡ numbered make 0 (take (n + 1) units)
  view_pushed make old new v pushed before is =
      pushed ∙ ap (λ vs. vs ++ v ∷ []) before ∙ ap (λ x. numbered make 0 (take n units) ++ x ∷ []) is
      ∙ sym (next (numbered make 0) ∙ views_more make 0 units n n u found (omega arith))

  pub item_pushed : {X : Type 0} (f : Named → X) (old new : List X) (x : X) → new ≡ old ++ x ∷ [] → old ≡ map f (take n units) → x ≡ f u → new ≡ map f (take (n + 1) units)
  item_pushed f old new x pushed before is =
      pushed ∙ ap (λ xs. xs ++ x ∷ []) before ∙ ap (λ y. map f (take n units) ++ y ∷ []) is ∙ sym (next (map f) ∙ map_more_at f units n u found)

  pub all_pushed : (f : Named → Bool) → list_all f (take n units) ≡ true → f u ≡ true → list_all f (take (n + 1) units) ≡ true
  all_pushed f before here = next (list_all f) ∙ all_more f units n u found before here

pub views_done : {V : Type 0} (make : ℕ → Named → V) (units : List Named) (vs : List V) (n : ℕ) → length units ≤ n → vs ≡ numbered make 0 (take n units) → vs ≡ numbered make 0 units
views_done make units vs n past is = is ∙ ap (numbered make 0) (take_all n units past)

pub names_done : (program : ProgramView) (ns : List (List ℕ)) (n : ℕ) → length (units_of (text_of program)) ≤ n
    → ns ≡ map (λ (u : Named). u.name.spelling) (take n (units_of (text_of program))) → ns ≡ program_names program
unfolding program_names
names_done program ns n past is = is ∙ ap (map (λ (u : Named). u.name.spelling)) (take_all n (units_of (text_of program)) past)

-- ---- in the order of the levels

rooms_in : (make : ℕ → Named → Room) (units : List Named) (order : List ℕ) → map (λ n. get_or (numbered make 0 units) n no_room) order ≡ map (room_at make units) order
rooms_in make units [] = refl
rooms_in make units (n ∷ order) =
    ap (λ r. r ∷ map (λ k. get_or (numbered make 0 units) k no_room) order) (got_at make no_room units n) ∙ ap (λ rs. room_at make units n ∷ rs) (rooms_in make units order)

pub rooms_done : (program : ProgramView) (placed functions blocks : List Room) → functions ≡ numbered (function_room (units_of (text_of program))) 0 (units_of (text_of program))
    → blocks ≡ numbered (block_room (units_of (text_of program))) 0 (units_of (text_of program))
    → placed ≡ map (λ k. get_or functions k no_room) (order_of program) ++ map (λ k. get_or blocks k no_room) (order_of program) → placed ≡ program_rooms program
unfolding program_rooms
rooms_done program placed functions blocks first second put =
    let units = units_of (text_of program) in
    let order = order_of program in
    put ∙ ap (λ rs. map (λ k. get_or rs k no_room) order ++ map (λ k. get_or blocks k no_room) order) first
    ∙ ap (λ rs. map (λ k. get_or (numbered (function_room units) 0 units) k no_room) order ++ map (λ k. get_or rs k no_room) order) second
    ∙ ap (λ rs. rs ++ map (λ k. get_or (numbered (block_room units) 0 units) k no_room) order) (rooms_in (function_room units) units order)
    ∙ ap (λ rs. map (room_at (function_room units) units) order ++ rs) (rooms_in (block_room units) units order)
