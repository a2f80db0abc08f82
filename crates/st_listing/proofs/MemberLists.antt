-- What stands for declared names, in lists of them.
use Rattle.std.proofs.Common.{◌≡◌, ℕ, ◌+◌, ◌<◌, List, [], ◌∷◌, ◌++◌, length, map, drop, get_or, refl, ap, sym, ◌∙◌, subst, arith}
use Rattle.std.specs.List.{All}
use Rattle.std.proofs.lemmas.List.{drop_more, get_or-map, length-map}
use Rattle.std.proofs.lemmas.List.Elements.{All-cons, All-get_or, All-nil}
use Rattle.st_types.specs.Names.{Declared, Named}
use Rattle.st_scopes.specs.Declarations.{names_at}
use Rattle.st_listing.specs.Members.{IsMember, MemberView, declared_of, member_of}
use Rattle.st_listing.specs.Walks.{AreMembers, AreRows, ListsTheSame, member_leaves}
use Rattle.st_listing.proofs.Walks.{members_more, rows_at}

-- ---- what is made of declared names

made : (units : List Named) (v : Declared) → IsMember units (member_of units v)
made units v = record { shape = refl; initial = refl; of_elements = refl }

all_made : (units : List Named) (vs : List Declared) → All (IsMember units) (map (member_of units) vs)
all_made units [] = All-nil (IsMember units)
all_made units (v ∷ vs) = All-cons (IsMember units) (member_of units v) (map (member_of units) vs) (made units v) (all_made units vs)

each_made : (units : List Named) (rows : List (List Declared)) → All (All (IsMember units)) (map (map (member_of units)) rows)
each_made units [] = All-nil (All (IsMember units))
each_made units (vs ∷ rows) = All-cons (All (IsMember units)) (map (member_of units) vs) (map (map (member_of units)) rows) (all_made units vs) (each_made units rows)

declared_made : (units : List Named) (vs : List Declared) → declared_of (map (member_of units) vs) ≡ vs
declared_made units [] = refl
declared_made units (v ∷ vs) = ap (λ x. v ∷ x) (declared_made units vs)

rows_made : (units : List Named) (rows : List (List Declared)) → map declared_of (map (map (member_of units)) rows) ≡ rows
rows_made units [] = refl
rows_made units (vs ∷ rows) = ap (λ x. x ∷ map declared_of (map (map (member_of units)) rows)) (declared_made units vs) ∙ ap (λ x. vs ∷ x) (rows_made units rows)

pub are_members : (units : List Named) (rows : List (List Declared)) (members : List (List MemberView)) → AreRows units rows → members ≡ map (map (member_of units)) rows → AreMembers units members
are_members units rows members rows_are is = record {
  rows = subst (AreRows units) (sym (ap (map declared_of) is ∙ rows_made units rows)) rows_are;
  each = subst (All (All (IsMember units))) (sym is) (each_made units rows);
}

-- ---- those of a unit, in the table of all

below_all : (units : List Named) (members : List (List MemberView)) (i : ℕ) → AreMembers units members → i < length units → i < length members
below_all units members i are below = omega (arith, below, are.rows.len, length-map members declared_of)

pub same_at : (units : List Named) (members : List (List MemberView)) (i : ℕ) (ms other : List MemberView) → AreMembers units members → i < length units → ms ≡ get_or members i other → ListsTheSame units (declared_of ms) (names_at units i)
same_at units members i ms other are below at =
    rows_at units (map declared_of members) i (declared_of ms) (declared_of other) are.rows below
    (ap declared_of at ∙ sym (get_or-map declared_of members i other (declared_of other) (below_all units members i are below)))

pub known_at : (units : List Named) (members : List (List MemberView)) (i : ℕ) (ms other : List MemberView) → AreMembers units members → i < length units → ms ≡ get_or members i other → All (IsMember units) ms
known_at units members i ms other are below at =
    subst (All (IsMember units)) (sym at) (All-get_or (All (IsMember units)) members i other (below_all units members i are below) are.each)

-- ---- one of them

pub member_at : (units : List Named) (ms : List MemberView) (i : ℕ) (m : MemberView) → i < length ms → m ≡ get_or ms i m → All (IsMember units) ms → IsMember units m
member_at units ms i m within at known = subst (IsMember units) (sym at) (All-get_or (IsMember units) ms i m within known)

pub drop_one : (ms : List MemberView) (i : ℕ) (m : MemberView) → i < length ms → m ≡ get_or ms i m → declared_of (drop i ms) ≡ m.declared ∷ declared_of (drop (i + 1) ms)
drop_one ms i m within at = ap declared_of (drop_more ms i m within ∙ ap (λ x. x ∷ drop (i + 1) ms) (sym at))

pub members_left : (units : List Named) (depth : ℕ) (of : List ℕ) (ms : List MemberView) (i : ℕ) (m : MemberView) → i < length ms → m ≡ get_or ms i m
    → member_leaves units depth of (declared_of (drop i ms)) ≡ member_leaves units depth of (m.declared ∷ []) ++ member_leaves units depth of (declared_of (drop (i + 1) ms))
members_left units depth of ms i m within at = ap (member_leaves units depth of) (drop_one ms i m within at) ∙ members_more units depth of m.declared (declared_of (drop (i + 1) ms))
