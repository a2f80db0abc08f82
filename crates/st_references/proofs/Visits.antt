-- The path of a walk in depth, with the references that were followed.
use Rattle.std.proofs.Common.{◌≡◌, ℕ, zero, suc, ◌+◌, ◌-◌, ◌<◌, ◌≤◌, List, [], ◌∷◌, Bool, true, false, length, get_or, set, map, refl, sym, ◌∙◌, subst, arith, ◌⊎◌, inl, inr}
use Rattle.std.specs.List.{All, sum_by}
use Rattle.std.proofs.lemmas.List.{get_or_default}
use Rattle.std.proofs.lemmas.List.Elements.{All-weaker}
use Rattle.st_references.specs.Graphs.{Graph, references, IsRow, Refers}
use Rattle.st_references.specs.Walks.{IsSeen}
use Rattle.st_references.specs.declared.walk.Visit.{Visit}

abbrev pub rows_of : List Visit → List ℕ
rows_of path = map (λ visit. visit.row) path

abbrev pub visit_of : ℕ → ℕ → Visit
visit_of a followed = record { row = a; followed = followed }

-- the visit with one reference more followed
abbrev pub next_of : Visit → Visit
next_of visit = record { row = visit.row; followed = visit.followed + 1 }

-- as many references as were followed are seen
pub record IsFollowed (graph : Graph) (seen : List Bool) (visit : Visit) : Type 0 where
  pub row : IsRow graph visit.row
  pub within : visit.followed ≤ length (references graph visit.row)
  pub sees : (k : ℕ) → k < visit.followed → IsSeen seen (get_or (references graph visit.row) k 0)

-- what was seen stays seen
abbrev pub Keeps : List Bool → List Bool → Type 0
Keeps seen seen' = (a : ℕ) → IsSeen seen a → IsSeen seen' a

pub follows_keeps : (graph : Graph) (seen seen' : List Bool) (visit : Visit) → Keeps seen seen' → IsFollowed graph seen visit
    → IsFollowed graph seen' visit
follows_keeps graph seen seen' visit keeps f = record {
  row = f.row;
  within = f.within;
  sees = λ k lt. keeps (get_or (references graph visit.row) k 0) (f.sees k lt);
}

pub followed_keeps : (graph : Graph) (seen seen' : List Bool) (path : List Visit) → Keeps seen seen' → All (IsFollowed graph seen) path
    → All (IsFollowed graph seen') path
followed_keeps graph seen seen' path keeps h =
    All-weaker (IsFollowed graph seen) (IsFollowed graph seen') (λ visit f. follows_keeps graph seen seen' visit keeps f) path h

pub not_followed : (graph : Graph) (seen : List Bool) (a : ℕ) → IsRow graph a → IsFollowed graph seen (visit_of a 0)
not_followed graph seen a h = record { row = h; within = omega arith; sees = λ k lt. absurd (omega (arith, lt)) }

pub one_followed : (graph : Graph) (seen : List Bool) (a k : ℕ) → IsFollowed graph seen (visit_of a k) → k < length (references graph a)
    → IsSeen seen (get_or (references graph a) k 0) → IsFollowed graph seen (visit_of a (k + 1))
one_followed graph seen a k f lt h = record {
  row = f.row;
  within = omega (arith, lt);
  sees = λ i below. elim (last_or_before i below) as (λ _. IsSeen seen (get_or (references graph a) i 0)) [
    | inl m ↦ f.sees i m
    | inr e ↦ subst (λ j. IsSeen seen (get_or (references graph a) j 0)) (sym e) h
  ];
} where
  last_or_before : (i : ℕ) → i < k + 1 → (i < k) ⊎ (i ≡ k)
  last_or_before i below = grind (arith, below)

pub all_followed : (graph : Graph) (seen : List Bool) (a k : ℕ) → IsFollowed graph seen (visit_of a k) → length (references graph a) ≤ k
    → (b : ℕ) → Refers graph a b → IsSeen seen b
all_followed graph seen a k f e b h =
    subst (IsSeen seen) (get_or_default (references graph a) h.0 0 b h.1 ∙ h.2) (f.sees h.0 (omega (arith, h.1, e)))

-- ---- what is left to be done

-- one for each reference of a row of the path that isn't followed, and one to leave the row
abbrev pub work_on : Graph → Visit → ℕ
work_on graph visit = suc (length (references graph visit.row) - visit.followed)

-- one for each reference of a row that isn't seen, and two to enter and to leave the row
abbrev pub work_ahead : Graph → List Bool → ℕ
work_ahead [] seen = 0
work_ahead (row ∷ rows) [] = 0
work_ahead (row ∷ rows) (true ∷ seen) = work_ahead rows seen
work_ahead (row ∷ rows) (false ∷ seen) = suc (suc (length row)) + work_ahead rows seen

abbrev pub work : Graph → List Visit → List Bool → ℕ
work graph path seen = sum_by (work_on graph) path + work_ahead graph seen

pub work_ahead-set : (graph : Graph) (seen : List Bool) (a : ℕ) → IsRow graph a → a < length seen → get_or seen a false ≡ false
    → suc (suc (length (references graph a))) + work_ahead graph (set seen a true) ≡ work_ahead graph seen
work_ahead-set [] seen a row lt new = absurd (omega (arith, row))
work_ahead-set (r ∷ rs) [] a row lt new = absurd (omega (arith, lt))
work_ahead-set (r ∷ rs) (true ∷ seen) zero row lt new = let no : ⊥ = cc in absurd no
work_ahead-set (r ∷ rs) (false ∷ seen) zero row lt new = refl
work_ahead-set (r ∷ rs) (true ∷ seen) (suc a) row lt new = work_ahead-set rs seen a (omega (arith, row)) (omega (arith, lt)) new
work_ahead-set (r ∷ rs) (false ∷ seen) (suc a) row lt new =
    omega (arith, work_ahead-set rs seen a (omega (arith, row)) (omega (arith, lt)) new)
