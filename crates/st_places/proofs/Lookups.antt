-- Members by their names.
use Rattle.std.proofs.Common.{◌≡◌, ℕ, suc, ◌+◌, ◌≤◌, Bool, true, false, if◌then◌else◌, List, [], ◌∷◌, length, Option, Some, None, ltb, position, refl, ap, sym, subst, arith}
use Rattle.std.specs.Prelude.{min}
use Rattle.std.specs.List.{position_or_len, slice_get}
use Rattle.std.specs.Option.{option_map}
use Rattle.std.proofs.Math.Numerals.{one-add}
use Rattle.std.proofs.lemmas.Bool.Decides.{nat_tests}
use Rattle.st_types.specs.Tables.{first_of}
use Rattle.st_scopes.specs.Declarations.{spellings_of}
use Rattle.st_types.proofs.Cases.{by_test}
use Rattle.st_tree.specs.Kinds.{is_constant}
use Rattle.st_types.specs.Compositions.{Composition, unknown, Members as Parts, none, member, declared_composition, members_by}
use Rattle.st_types.specs.Names.{Declared, Named}
use Rattle.st_values.specs.Words.{is_word}
use Rattle.st_leaves.specs.Places.{counts}
use Rattle.st_leaves.specs.Selected.{member_selected}
use Rattle.st_meaning.specs.Offsets.{member_offset}
use Rattle.st_places.specs.Members.{AreMembers, IsMember, member_count}
use Rattle.st_places.specs.Parts.{inside, variables_among}
use Rattle.st_places.specs.declared.member.Member.{Member}

module _ {X : Type 0} (test : X → Bool) (x : X) (xs : List X) where
  pub position-here : test x ≡ true → position test (x ∷ xs) ≡ Some 0
  position-here passes =
      let lt : ltb 0 (length (x ∷ xs)) ≡ true = grind (arith, nat_tests) in
      rw (passes, lt) refl

  pub position-next : test x ≡ false → position test (x ∷ xs) ≡ option_map suc (position test xs)
  position-next fails = by_test (ltb (position_or_len test xs) (length xs))
      (λ t.
      let lt : ltb (1 + position_or_len test xs) (length (x ∷ xs)) ≡ true = grind (arith, nat_tests) in
      rw (fails, lt, t) (ap (λ (n : ℕ). Some n) (one-add (position_or_len test xs))))
      (λ t.
      let le : ltb (1 + position_or_len test xs) (length (x ∷ xs)) ≡ false = grind (arith, nat_tests) in
      rw (fails, le, t) refl)

module _ (units : List Named) where
  -- all of these are members
  abbrev pub members_of : List Declared → Parts
  members_of [] = none
  members_of (v ∷ vs) = member v.name.spelling v.kind (declared_composition units (inside units) v) (members_of vs)

  one_member : (b : Bool) (v : Declared) (ms : Parts) (vs : List Declared) → ms ≡ members_of vs
      → (if b then ms else member v.name.spelling v.kind (declared_composition units (inside units) v) ms) ≡ members_of (if b then vs else v ∷ vs)
  one_member true v ms vs is = is
  one_member false v ms vs is = ap (member v.name.spelling v.kind (declared_composition units (inside units) v)) is

  pub without_constants : (vs : List Declared) → members_by units (inside units) vs ≡ members_of (variables_among vs)
  without_constants [] = refl
  without_constants (v ∷ vs) = one_member (is_constant v.kind) v (members_by units (inside units) vs) (variables_among vs) (without_constants vs)

  -- the member of a number, which consists of this and stands behind so many leaves of so many
  pub record IsAt (before : ℕ) (vs : List Declared) (ms : List Member) (k : ℕ) (selected : Composition) (offset total : ℕ) : Type 0 where
    pub v : Declared
    pub m : Member
    pub declared : slice_get vs k ≡ Some v
    pub item : slice_get ms k ≡ Some m
    pub is : selected ≡ declared_composition units (inside units) v
    pub stands : m.offset ≡ min (before + offset) 1000000
    pub within : offset ≤ total

  abbrev pub IsFoundAt : ℕ → List Declared → List Member → Composition → ℕ → ℕ → Option ℕ → Type 0
  IsFoundAt before vs ms selected offset total None = selected ≡ unknown
  IsFoundAt before vs ms selected offset total (Some k) = IsAt before vs ms k selected offset total

  next_found : (before : ℕ) (v : Declared) (vs : List Declared) (m : Member) (ms : List Member) (selected : Composition) (offset total : ℕ) (found : Option ℕ)
      → IsFoundAt (before + member_count units v) vs ms selected offset total found
      → IsFoundAt before (v ∷ vs) (m ∷ ms) selected (member_count units v + offset) (member_count units v + total) (option_map suc found)
  next_found before v vs m ms selected offset total None is = is
  next_found before v vs m ms selected offset total (Some k) is = record {
    v = is.v;
    m = is.m;
    declared = is.declared;
    item = is.item;
    is = is.is;
    stands = omega (arith, is.stands);
    within = omega (arith, is.within);
  }

  here_found : (before : ℕ) (v : Declared) (vs : List Declared) (m : Member) (ms : List Member) (total : ℕ) → IsMember units before v m
      → IsAt before (v ∷ vs) (m ∷ ms) 0 (declared_composition units (inside units) v) 0 total
  here_found before v vs m ms total is = record {
    v = v;
    m = m;
    declared = refl;
    item = refl;
    is = refl;
    stands = omega (arith, is.offset);
    within = omega arith;
  }

  pub found_at : (name : List ℕ) (before : ℕ) (vs : List Declared) (ms : List Member) → AreMembers units before vs ms
      → IsFoundAt before vs ms (member_selected (members_of vs) name) (member_offset (members_of vs) name) (counts (members_of vs)) (first_of (spellings_of vs) name)
  found_at name before [] ms are = refl
  found_at name before (v ∷ vs) [] are = absurd are
  found_at name before (v ∷ vs) (m ∷ ms) are =
      by_test (is_word v.name.spelling name)
      (λ t.
      subst (IsFoundAt before (v ∷ vs) (m ∷ ms) (member_selected (members_of (v ∷ vs)) name) (member_offset (members_of (v ∷ vs)) name) (counts (members_of (v ∷ vs))))
      (sym (position-here (λ n. is_word n name) v.name.spelling (spellings_of vs) t))
      (subst (λ b. IsAt before (v ∷ vs) (m ∷ ms) 0 (if b then declared_composition units (inside units) v else member_selected (members_of vs) name)
      (if b then 0 else member_count units v + member_offset (members_of vs) name) (counts (members_of (v ∷ vs)))) (sym t)
      (here_found before v vs m ms (counts (members_of (v ∷ vs))) are.0)))
      (λ t.
      subst (IsFoundAt before (v ∷ vs) (m ∷ ms) (member_selected (members_of (v ∷ vs)) name) (member_offset (members_of (v ∷ vs)) name) (counts (members_of (v ∷ vs))))
      (sym (position-next (λ n. is_word n name) v.name.spelling (spellings_of vs) t))
      (subst (λ b. IsFoundAt before (v ∷ vs) (m ∷ ms) (if b then declared_composition units (inside units) v else member_selected (members_of vs) name)
      (if b then 0 else member_count units v + member_offset (members_of vs) name) (counts (members_of (v ∷ vs))) (option_map suc (first_of (spellings_of vs) name))) (sym t)
      (next_found before v vs m ms (member_selected (members_of vs) name) (member_offset (members_of vs) name) (counts (members_of vs)) (first_of (spellings_of vs) name)
      (found_at name (before + member_count units v) vs ms are.1))))
