-- Groups of ways, and those of names that are stored.
use Rattle.std.proofs.Common.{◌≡◌, ℕ, Bool, true, false, ◌&&◌, not, List, [], ◌∷◌, map}
use Rattle.std.specs.List.{AllByRecursion as Each, list_all}
use Rattle.std.proofs.lemmas.Bool.{and_left, and_parts, and_right, not-true}
use Rattle.st_values.specs.Words.{is_word}
use Rattle.st_leaves.specs.Paths.{Path, Selector, field, is_same_path, is_same_selector}
use Rattle.st_leaves.proofs.Groups.{behind, grouped, groups_apart}
use Rattle.st_leaves.proofs.Pairs.{Between, Pairwise, each_any, each_append, each_map, each_weaker, pairwise_map, pairwise_weaker}
use Rattle.st_leaves.proofs.WaysIn.{Group, stored, stored_way}

abbrev pub Differ : Path → Path → Type 0
Differ p q = is_same_path p q ≡ false

abbrev pub BeginApart : Selector → Selector → Type 0
BeginApart s t = is_same_selector s t ≡ false

pub groups_differ : (gs : List Group) → Pairwise (λ g h. BeginApart g.0 h.0) gs → Each (λ g. Pairwise Differ g.1) gs → Pairwise Differ (grouped gs)
groups_differ gs apart inside =
    groups_apart BeginApart Differ (λ s t p q e. and_left (is_same_selector s t) (is_same_path p q) e) (λ s p q e. and_right (is_same_selector s s) (is_same_path p q) e) gs apart inside

-- no group begins with this selector
pub away : (t : Selector) (q : Path) (gs : List Group) → Each (λ g. BeginApart g.0 t) gs → Each (λ p. Differ p (t ∷ q)) (grouped gs)
away t q [] apart = tt
away t q (g ∷ gs) apart =
    each_append (λ p. Differ p (t ∷ q)) (behind g.0 g.1) (grouped gs)
    (each_map (λ p. Differ p (t ∷ q)) (λ p. g.0 ∷ p) g.1 (each_any (λ p. Differ (g.0 ∷ p) (t ∷ q)) g.1 (λ p. and_left (is_same_selector g.0 t) (is_same_path p q) apart.0)))
    (away t q gs apart.1)

pub away_from : (t : Selector) (q : Path) (gs : List Group) → Each (λ g. BeginApart t g.0) gs → Each (Differ (t ∷ q)) (grouped gs)
away_from t q [] apart = tt
away_from t q (g ∷ gs) apart =
    each_append (Differ (t ∷ q)) (behind g.0 g.1) (grouped gs)
    (each_map (Differ (t ∷ q)) (λ p. g.0 ∷ p) g.1 (each_any (λ p. Differ (t ∷ q) (g.0 ∷ p)) g.1 (λ p. and_left (is_same_selector t g.0) (is_same_path q p) apart.0)))
    (away_from t q gs apart.1)

-- not what is kept of a name that is stored
abbrev pub IsNotStored : Path → Type 0
IsNotStored p = Differ p stored

pub between_stored : (gs : List Group) (names : List (List ℕ)) → Each (λ g. Each IsNotStored g.1) gs → Between Differ (grouped gs) (map stored_way names)
between_stored [] names others = tt
between_stored (g ∷ gs) names others =
    each_append (λ p. Each (Differ p) (map stored_way names)) (behind g.0 g.1) (grouped gs)
    (each_map (λ p. Each (Differ p) (map stored_way names)) (λ p. g.0 ∷ p) g.1
    (each_weaker IsNotStored (λ p. Each (Differ (g.0 ∷ p)) (map stored_way names)) g.1
    (λ p other. each_map (Differ (g.0 ∷ p)) stored_way names
    (each_any (λ name. Differ (g.0 ∷ p) (stored_way name)) names (λ name. and_right (is_same_selector g.0 (field name)) (is_same_path p stored) other))) others.0))
    (between_stored gs names others.1)

pub stored_differ : (names : List (List ℕ)) → Pairwise (λ a b. is_word a b ≡ false) names → Pairwise Differ (map stored_way names)
stored_differ names apart =
    pairwise_map Differ stored_way names
    (pairwise_weaker (λ a b. is_word a b ≡ false) (λ a b. Differ (stored_way a) (stored_way b)) names (λ a b e. and_left (is_word a b) (is_same_path stored stored) e) apart)

-- ---- by a test

abbrev pub all_differ : List Path → Bool
all_differ [] = true
all_differ (p ∷ ps) = list_all (λ q. not (is_same_path p q)) ps && all_differ ps

each_tested : (p : Path) (ps : List Path) → list_all (λ q. not (is_same_path p q)) ps ≡ true → Each (Differ p) ps
each_tested p [] test = tt
each_tested p (q ∷ qs) test =
    let parts = and_parts (not (is_same_path p q)) (list_all (λ r. not (is_same_path p r)) qs) test in
    (not-true (is_same_path p q) parts.0, each_tested p qs parts.1)

pub tested : (ps : List Path) → all_differ ps ≡ true → Pairwise Differ ps
tested [] test = tt
tested (p ∷ ps) test =
    let parts = and_parts (list_all (λ q. not (is_same_path p q)) ps) (all_differ ps) test in
    (each_tested p ps parts.0, tested ps parts.1)

pub not_stored_tested : (ps : List Path) → list_all (λ p. not (is_same_path p stored)) ps ≡ true → Each IsNotStored ps
not_stored_tested [] test = tt
not_stored_tested (p ∷ ps) test =
    let parts = and_parts (not (is_same_path p stored)) (list_all (λ q. not (is_same_path q stored)) ps) test in
    (not-true (is_same_path p stored) parts.0, not_stored_tested ps parts.1)
