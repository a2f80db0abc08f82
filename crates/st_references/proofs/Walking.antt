-- Steps of a walk in depth.
use Rattle.std.proofs.Common.{◌≡◌, ◌≢◌, ℕ, ◌<◌, ◌≤◌, List, [], ◌∷◌, ◌++◌, Bool, true, false, length, get_or, set, ap, sym, ◌∙◌, subst, arith, ◌⊎◌, inl, inr, length-set}
use Rattle.std.specs.List.{AllPairs, Contains}
use Rattle.std.proofs.lemmas.List.Elements.{All-push, Contains-append_left, Contains-get_or, Contains-push, Contains-push_cases}
use Rattle.std.proofs.lemmas.List.{get_or_default}
use Rattle.std.proofs.lemmas.List.Quantifiers.{all_pairs_push}
use Rattle.st_references.specs.Graphs.{Graph, IsRow, Refers, Reaches, direct}
use Rattle.st_references.specs.Walks.{IsSeen, occurrences, one, StaysOrReaches, IsPostorder, IsWalk}
use Rattle.st_references.proofs.GraphLemmas.{onwards}
use Rattle.st_references.proofs.Listed.{Contains-nil, occurrences-append, occurs, contained, split_push, pairs_last, pairs_shorter}
use Rattle.st_references.proofs.Marks.{set_keeps, one-set}

-- the row that is entered stands at the end of the path from now on
pub entered : (graph : Graph) (path : List ℕ) (seen : List Bool) (order : List ℕ) (a : ℕ) → IsWalk graph path seen order
    → IsRow graph a → get_or seen a false ≡ false → ((b : ℕ) → Contains path b → Reaches graph b a)
    → IsWalk graph (path ++ a ∷ []) (set seen a true) order
entered graph path seen order a w row new reach =
    let in_marks : a < length seen = omega (arith, row, w.length) in
    record {
      length = length-set seen a true ∙ w.length;
      places = λ b. omega (arith, w.places b, occurrences-append b path (a ∷ []), one-set seen b a in_marks new);
      rows = w.rows;
      once = w.once;
      last = w.last;
      followed = λ b c h r. set_keeps seen c a in_marks (w.followed b c h r);
      along = all_pairs_push (Reaches graph) path a w.along (λ k d h. reach (get_or path k d) (Contains-get_or path k d h));
    }

-- where the last row of the path refers to a row, all rows of the path reach that one
pub path_reaches : (graph : Graph) (path : List ℕ) (a b : ℕ) → AllPairs (Reaches graph) (path ++ a ∷ []) → Refers graph a b
    → (c : ℕ) → Contains (path ++ a ∷ []) c → Reaches graph c b
path_reaches graph path a b h r c k = elim (Contains-push_cases path a c k) as (λ _. Reaches graph c b) [
  | inl m ↦ onwards graph c a b (pairs_last (Reaches graph) path a c h m) r
  | inr e ↦ subst (λ x. Reaches graph x b) e (direct r)
]

-- a row that is seen stands in the order or on the path
placed : (graph : Graph) (path : List ℕ) (seen : List Bool) (order : List ℕ) (a : ℕ) → IsWalk graph path seen order
    → IsSeen seen a → Contains order a ⊎ Contains path a
placed graph path seen order a w h = elim (some_or_none (occurrences a order)) as (λ _. Contains order a ⊎ Contains path a) [
  | inl lt ↦ inl (contained a order lt)
  | inr e ↦ inr (contained a path (omega (arith, e, w.places a, ap one h)))
] where
  some_or_none : (n : ℕ) → (0 < n) ⊎ (n ≡ 0)
  some_or_none n = grind arith

-- a row of the path doesn't stand in the order
not_left : (graph : Graph) (path : List ℕ) (seen : List Bool) (order : List ℕ) (a : ℕ) → IsWalk graph path seen order
    → Contains path a → Contains order a → ⊥
not_left graph path seen order a w on_path in_order =
    omega (arith, w.places a, occurs a path on_path, occurs a order in_order, one-le (get_or seen a false)) where
      one-le : (b : Bool) → one b ≤ 1
      one-le true = omega arith
      one-le false = omega arith

-- what a row in the order, or the last row of the path, refers to is one of them, or reaches the last row of the path
stays : (graph : Graph) (path : List ℕ) (seen : List Bool) (order : List ℕ) (a : ℕ) → IsWalk graph (path ++ a ∷ []) seen order
    → ((b : ℕ) → Refers graph a b → IsSeen seen b) → StaysOrReaches graph (order ++ a ∷ []) a
stays graph path seen order a w refers b c h r =
    elim (placed graph (path ++ a ∷ []) seen order c w seen_c) as (λ _. Contains (order ++ a ∷ []) c ⊎ Reaches graph c a) [
      | inl k ↦ inl (Contains-append_left order (a ∷ []) c k)
      | inr k ↦ elim (Contains-push_cases path a c k) as (λ _. Contains (order ++ a ∷ []) c ⊎ Reaches graph c a) [
        | inl m ↦ inr (pairs_last (Reaches graph) path a c w.along m)
        | inr e ↦ inl (subst (Contains (order ++ a ∷ [])) e (Contains-push order a))
      ]
    ] where
      seen_c : IsSeen seen c
      seen_c = elim (Contains-push_cases order a b h) as (λ _. IsSeen seen c) [
        | inl k ↦ w.followed b c k r
        | inr e ↦ refers c (subst (λ x. Refers graph x c) (sym e) r)
      ]

-- the last row of the path, all of whose references are seen, takes its place in the order
pub left : (graph : Graph) (path : List ℕ) (seen : List Bool) (order : List ℕ) (a : ℕ) → IsWalk graph (path ++ a ∷ []) seen order
    → IsRow graph a → ((b : ℕ) → Refers graph a b → IsSeen seen b) → IsWalk graph path seen (order ++ a ∷ [])
left graph path seen order a w row refers = record {
  length = w.length;
  places = λ b. omega (arith, w.places b, occurrences-append b path (a ∷ []), occurrences-append b order (a ∷ []));
  rows = All-push (IsRow graph) order a w.rows row;
  once = all_pairs_push (λ b c. b ≢ c) order a w.once (λ k d lt e. not_left graph (path ++ a ∷ []) seen order a w (Contains-push path a) (k, lt, get_or_default order k a d lt ∙ e));
  last = λ before after b e. elim (split_push order before after b a e) as (λ _. StaysOrReaches graph (before ++ b ∷ []) b) [
    | inl p ↦ subst (λ x. StaysOrReaches graph (before ++ x ∷ []) x) p.1 (subst (λ rows. StaysOrReaches graph (rows ++ a ∷ []) a) p.0 (stays graph path seen order a w refers))
    | inr p ↦ w.last before p.0 b p.1
  ];
  followed = λ b c h r. elim (Contains-push_cases order a b h) as (λ _. IsSeen seen c) [
    | inl k ↦ w.followed b c k r
    | inr e ↦ refers c (subst (λ x. Refers graph x c) (sym e) r)
  ];
  along = pairs_shorter (Reaches graph) path a w.along;
}

-- a walk that stands on no path and has seen all rows
pub all_left : (graph : Graph) (seen : List Bool) (order : List ℕ) → IsWalk graph [] seen order
    → ((a : ℕ) → IsRow graph a → IsSeen seen a) → IsPostorder graph order
all_left graph seen order w all = record {
  rows = w.rows;
  all = λ a h. elim (placed graph [] seen order a w (all a h)) as (λ _. Contains order a) [ inl k ↦ k | inr k ↦ absurd (Contains-nil a k) ];
  once = w.once;
  last = w.last;
}
