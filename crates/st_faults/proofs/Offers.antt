-- Faults that are offered one after the other.
use Rattle.std.proofs.Common.{◌≡◌, ℕ, ◌+◌, ◌<◌, List, ◌∷◌, ◌++◌, map, length, get_or, drop, ap, sym, ◌∙◌}
use Rattle.std.specs.List.{flat_map}
use Rattle.std.proofs.lemmas.List.{drop_more}
use Rattle.st_faults.specs.Faults.{First, offer_all}
use Rattle.st_faults.specs.declared.fault.Fault.{Fault}
use Rattle.st_faults.proofs.Least.{offer_append}

-- two offers, one behind the other
pub both : (o o1 o2 : First) (fs gs : List Fault) → o1 ≡ offer_all o fs → o2 ≡ offer_all o1 gs → o2 ≡ offer_all o (fs ++ gs)
both o o1 o2 fs gs a b = b ∙ ap (λ p. offer_all p gs) a ∙ sym (offer_append o fs gs)

pub three : (o o1 o2 o3 : First) (fs gs hs : List Fault) → o1 ≡ offer_all o fs → o2 ≡ offer_all o1 gs → o3 ≡ offer_all o2 hs → o3 ≡ offer_all o (fs ++ gs ++ hs)
three o o1 o2 o3 fs gs hs a b c = both o o2 o3 (fs ++ gs) hs (both o o1 o2 fs gs a b) c

-- the faults of one item are offered, and then what is left
pub offered : (o o2 r : First) (fs rest all : List Fault) → o2 ≡ offer_all o fs → all ≡ fs ++ rest → offer_all o all ≡ r → offer_all o2 rest ≡ r
offered o o2 r fs rest all a b h = ap (λ p. offer_all p rest) a ∙ sym (offer_append o fs rest) ∙ ap (offer_all o) (sym b) ∙ h

-- ---- turns of loops over items

-- what is left before a turn: the item, and what is left behind it
pub dropped : {A : Type 0} (xs : List A) (i : ℕ) (x : A) → i < length xs → x ≡ get_or xs i x → drop i xs ≡ x ∷ drop (i + 1) xs
dropped xs i x lt is = drop_more xs i x lt ∙ ap (λ y. y ∷ drop (i + 1) xs) (sym is)

-- an item gives its own faults, and those behind it give the rest
pub split_turn : {A : Type 0} (all rest : List A → List Fault) (fs : List Fault) (xs : List A) (i : ℕ) (x : A) (o o2 r : First)
    → all (x ∷ drop (i + 1) xs) ≡ fs ++ rest (drop (i + 1) xs) → i < length xs → x ≡ get_or xs i x → o2 ≡ offer_all o fs
    → offer_all o (all (drop i xs)) ≡ r → offer_all o2 (rest (drop (i + 1) xs)) ≡ r
split_turn all rest fs xs i x o o2 r split lt is e h =
    offered o o2 r fs (rest (drop (i + 1) xs)) (all (drop i xs)) e (ap all (dropped xs i x lt is) ∙ split) h

-- each item gives its own faults
pub turn : {A : Type 0} (f : A → List Fault) (xs : List A) (i : ℕ) (x : A) (o o2 r : First) → i < length xs → x ≡ get_or xs i x → o2 ≡ offer_all o (f x)
    → offer_all o (flat_map f (drop i xs)) ≡ r → offer_all o2 (flat_map f (drop (i + 1) xs)) ≡ r
turn f xs i x o o2 r lt is e h =
    offered o o2 r (f x) (flat_map f (drop (i + 1) xs)) (flat_map f (drop i xs)) e (ap (flat_map f) (dropped xs i x lt is)) h

-- over items of which something is known that gives the faults
pub known_turn : {A B : Type 0} (f : B → List Fault) (k : A → B) (xs : List A) (i : ℕ) (x : A) (o o2 r : First) → i < length xs → x ≡ get_or xs i x → o2 ≡ offer_all o (f (k x))
    → offer_all o (flat_map f (map k (drop i xs))) ≡ r → offer_all o2 (flat_map f (map k (drop (i + 1) xs))) ≡ r
known_turn f k xs i x o o2 r lt is e h =
    offered o o2 r (f (k x)) (flat_map f (map k (drop (i + 1) xs))) (flat_map f (map k (drop i xs))) e (ap (λ ys. flat_map f (map k ys)) (dropped xs i x lt is)) h

-- over items that are copied
pub turn_at : {A : Type 0} (f : A → List Fault) (xs : List A) (i : ℕ) (d : A) (o o2 r : First) → i < length xs → o2 ≡ offer_all o (f (get_or xs i d))
    → offer_all o (flat_map f (drop i xs)) ≡ r → offer_all o2 (flat_map f (drop (i + 1) xs)) ≡ r
turn_at f xs i d o o2 r lt e h =
    offered o o2 r (f (get_or xs i d)) (flat_map f (drop (i + 1) xs)) (flat_map f (drop i xs)) e (ap (flat_map f) (drop_more xs i d lt)) h

-- an item gives nothing itself, and changes what those behind it give
pub step : {A B : Type 0} (all rest : List A → B) (xs : List A) (i : ℕ) (x : A) (r : B)
    → all (x ∷ drop (i + 1) xs) ≡ rest (drop (i + 1) xs) → i < length xs → x ≡ get_or xs i x → all (drop i xs) ≡ r → rest (drop (i + 1) xs) ≡ r
step all rest xs i x r on lt is h = sym on ∙ sym (ap all (dropped xs i x lt is)) ∙ h
