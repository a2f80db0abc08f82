-- Turns of a search.
use Rattle.std.proofs.Common.{◌≡◌, ℕ, ◌+◌, ◌<◌, ◌≤◌, List, [], ◌∷◌, ◌++◌, Bool, true, false, not, length, get_or, set, drop, take, refl, ap, sym, ◌∙◌, subst, arith, ◌⊎◌, inl, inr, add-one, append_assoc, cond, length-drop, get_or-set_other, length-append}
use Rattle.std.specs.List.{All, Contains}
use Rattle.std.proofs.Math.Seq.{drop-append_seam, drop-cons}
use Rattle.std.proofs.lemmas.List.{append-nil, drop-append-le, get_or_default, take_more}
use Rattle.std.proofs.lemmas.List.Sums.{sum_by-set}
use Rattle.std.proofs.lemmas.List.Elements.{Contains-append_left, Contains-append_right, Contains-append_cases, Contains-push, Contains-push_cases}
use Rattle.st_references.specs.Graphs.{Graph, references, IsRow, IsClosed, Refers, Reaches, direct, onward}
use Rattle.st_references.specs.Searches.{AddsNew}
use Rattle.st_references.specs.Walks.{IsSeen}
use Rattle.st_references.proofs.Listed.{Contains-nil, Contains-single, Contains-head, Contains-tail, Contains-cons_cases, same_or_not}
use Rattle.st_references.proofs.GraphLemmas.{reached_row, onwards}
use Rattle.st_references.proofs.Marks.{seen_or_not, set_sees, set_keeps}

-- rows with one property, and then rows with another
pub adds_both : (P Q : ℕ → Type 0) (seen seen' seen'' : List Bool) (found found' found'' : List ℕ) → AddsNew P seen seen' found found'
    → AddsNew Q seen' seen'' found' found'' → AddsNew (λ a. P a ⊎ Q a) seen seen'' found found''
adds_both P Q seen seen' seen'' found found' found'' p q = record {
  sees = λ a. (
    (λ h. elim ((q.sees a).0 h) as (λ _. IsSeen seen a ⊎ (P a ⊎ Q a)) [
      | inl k ↦ elim ((p.sees a).0 k) as (λ _. IsSeen seen a ⊎ (P a ⊎ Q a)) [ inl m ↦ inl m | inr m ↦ inr (inl m) ]
      | inr k ↦ inr (inr k)
    ]),
    (λ h. elim h as (λ _. IsSeen seen'' a) [
      | inl k ↦ (q.sees a).1 (inl ((p.sees a).1 (inl k)))
      | inr k ↦ elim k as (λ _. IsSeen seen'' a) [ inl m ↦ (q.sees a).1 (inl ((p.sees a).1 (inr m))) | inr m ↦ (q.sees a).1 (inr m) ]
    ]),
  );
  newly = p.newly ++ q.newly;
  lists = q.lists ∙ ap (λ rows. rows ++ q.newly) p.lists ∙ append_assoc found p.newly q.newly;
  new = λ a. (
    (λ h. elim (Contains-append_cases p.newly q.newly a h) as (λ _. (P a ⊎ Q a) × (IsSeen seen a → ⊥)) [
      | inl k ↦ (inl ((p.new a).0 k).0, ((p.new a).0 k).1)
      | inr k ↦ (inr ((q.new a).0 k).0, (λ s. ((q.new a).0 k).1 ((p.sees a).1 (inl s))))
    ]),
    (λ h. elim (seen_or_not seen' a) as (λ _. Contains (p.newly ++ q.newly) a) [
      | inl s ↦ elim ((p.sees a).0 s) as (λ _. Contains (p.newly ++ q.newly) a) [
        | inl m ↦ absurd (h.1 m)
        | inr m ↦ Contains-append_left p.newly q.newly a ((p.new a).1 (m, h.1))
      ]
      | inr n ↦ elim h.0 as (λ _. Contains (p.newly ++ q.newly) a) [
        | inl m ↦ Contains-append_left p.newly q.newly a ((p.new a).1 (m, h.1))
        | inr m ↦ Contains-append_right p.newly q.newly a ((q.new a).1 (m, (λ s. let no : ⊥ = cc in no)))
      ]
    ]),
  );
  once = omega (arith, p.once, q.once);
}

-- among the rows that aren't seen, those with one property are those with the other
pub adds_same : (P Q : ℕ → Type 0) (seen seen' : List Bool) (found found' : List ℕ) → ((a : ℕ) → P a → IsSeen seen a ⊎ Q a)
    → ((a : ℕ) → Q a → IsSeen seen a ⊎ P a) → AddsNew P seen seen' found found' → AddsNew Q seen seen' found found'
adds_same P Q seen seen' found found' to from w = record {
  sees = λ a. (
    (λ h. elim ((w.sees a).0 h) as (λ _. IsSeen seen a ⊎ Q a) [ inl k ↦ inl k | inr k ↦ to a k ]),
    (λ h. elim h as (λ _. IsSeen seen' a) [ inl k ↦ (w.sees a).1 (inl k) | inr k ↦ (w.sees a).1 (from a k) ]),
  );
  newly = w.newly;
  lists = w.lists;
  new = λ a. (
    (λ h. elim (to a ((w.new a).0 h).0) as (λ _. Q a × (IsSeen seen a → ⊥)) [ inl s ↦ absurd (((w.new a).0 h).1 s) | inr k ↦ (k, ((w.new a).0 h).1) ]),
    (λ h. elim (from a h.0) as (λ _. Contains w.newly a) [ inl s ↦ absurd (h.1 s) | inr k ↦ (w.new a).1 (k, h.1) ]),
  );
  once = w.once;
}

-- a row that is seen adds nothing
pub adds_none : (seen : List Bool) (found : List ℕ) (a : ℕ) → IsSeen seen a → AddsNew (λ b. a ≡ b) seen seen found found
adds_none seen found a s = record {
  sees = λ b. ((λ h. inl h), (λ h. elim h as (λ _. IsSeen seen b) [ inl k ↦ k | inr e ↦ subst (IsSeen seen) e s ]));
  newly = [];
  lists = sym (append-nil found);
  new = λ b. ((λ h. absurd (Contains-nil b h)), (λ h. absurd (h.1 (subst (IsSeen seen) h.0 s))));
  once = refl;
}

-- one for a row that isn't seen
abbrev unseen : Bool → ℕ
unseen mark = cond (not mark) 1 0

-- a row that isn't adds itself
pub adds_one : (seen : List Bool) (found : List ℕ) (a : ℕ) → a < length seen → get_or seen a false ≡ false
    → AddsNew (λ b. a ≡ b) seen (set seen a true) found (found ++ a ∷ [])
adds_one seen found a lt new = record {
  sees = λ b. (
    (λ h. elim (same_or_not b a) as (λ _. IsSeen seen b ⊎ (a ≡ b)) [ inl e ↦ inr (sym e) | inr n ↦ inl (sym (get_or-set_other seen a b true false n) ∙ h) ]),
    (λ h. elim h as (λ _. IsSeen (set seen a true) b) [ inl k ↦ set_keeps seen b a lt k | inr e ↦ set_sees seen b a lt (sym e) ]),
  );
  newly = a ∷ [];
  lists = refl;
  new = λ b. (
    (λ h. let e : a ≡ b = Contains-single b a h in (e, (λ s. let no : ⊥ = cc in no))),
    (λ h. subst (Contains (a ∷ [])) h.0 (Contains-head a [])),
  );
  once = omega (arith, sum_by-set unseen seen a true false lt, ap unseen new, length-append found (a ∷ []));
}

-- one row more of a list
pub adds_next : (rows : List ℕ) (i : ℕ) (seen seen' seen'' : List Bool) (found found' found'' : List ℕ) → i < length rows
    → AddsNew (Contains (take i rows)) seen seen' found found' → AddsNew (λ a. get_or rows i 0 ≡ a) seen' seen'' found' found''
    → AddsNew (Contains (take (i + 1) rows)) seen seen'' found found''
adds_next rows i seen seen' seen'' found found' found'' lt p q = rw (take_more rows i 0 lt)
    (adds_same (λ a. Contains (take i rows) a ⊎ (get_or rows i 0 ≡ a)) (Contains (take i rows ++ get_or rows i 0 ∷ [])) seen seen'' found found''
    (λ a h. inr (elim h as (λ _. Contains (take i rows ++ get_or rows i 0 ∷ []) a) [
      | inl k ↦ Contains-append_left (take i rows) (get_or rows i 0 ∷ []) a k
      | inr e ↦ subst (Contains (take i rows ++ get_or rows i 0 ∷ [])) e (Contains-push (take i rows) (get_or rows i 0))
    ]))
    (λ a h. inr (Contains-push_cases (take i rows) (get_or rows i 0) a h))
    (adds_both (Contains (take i rows)) (λ a. get_or rows i 0 ≡ a) seen seen' seen'' found found' found'' p q))

-- a row that is seen was seen before, or is listed now
pub listed : (P : ℕ → Type 0) (seen seen' : List Bool) (found found' : List ℕ) (w : AddsNew P seen seen' found found') (a : ℕ) → IsSeen seen' a
    → IsSeen seen a ⊎ Contains w.newly a
listed P seen seen' found found' w a h = elim (seen_or_not seen a) as (λ _. IsSeen seen a ⊎ Contains w.newly a) [
  | inl s ↦ inl s
  | inr n ↦ elim ((w.sees a).0 h) as (λ _. IsSeen seen a ⊎ Contains w.newly a) [
    | inl s ↦ inl s
    | inr p ↦ inr ((w.new a).1 (p, (λ s. let no : ⊥ = cc in no)))
  ]
]

-- what a search from a row keeps: all that is seen has its references seen too, but the rows found from this place on
pub record IsSearch (graph : Graph) (from : ℕ) (seen seen' : List Bool) (found found' : List ℕ) (next : ℕ) : Type 0 where
  pub length : length seen' ≡ length graph
  pub adds : AddsNew (IsSeen seen') seen seen' found found'
  pub reached : (a : ℕ) → IsSeen seen' a → IsSeen seen a ⊎ Reaches graph from a
  pub begun : (a : ℕ) → Refers graph from a → IsSeen seen' a
  pub due : (a : ℕ) → IsSeen seen' a → Contains (drop next found') a ⊎ ((b : ℕ) → Refers graph a b → IsSeen seen' b)
  pub ahead : (a : ℕ) → Contains (drop next found') a → Reaches graph from a

pub search_begun : (graph : Graph) (from : ℕ) (seen seen' : List Bool) (found found' refs : List ℕ) (next : ℕ) → next ≡ length found → ((a b : ℕ) → IsSeen seen a → Refers graph a b → IsSeen seen b)
    → references graph from ≡ refs → AddsNew (Contains refs) seen seen' found found' → length seen' ≡ length graph → IsSearch graph from seen seen' found found' next
search_begun graph from seen seen' found found' refs next start closed same w len = rw start (record {
  length = len;
  adds = adds_same (Contains refs) (IsSeen seen') seen seen' found found' (λ a h. inr ((w.sees a).1 (inr h))) (λ a h. (w.sees a).0 h) w;
  reached = λ a h. elim ((w.sees a).0 h) as (λ _. IsSeen seen a ⊎ Reaches graph from a) [ inl k ↦ inl k | inr k ↦ inr (direct (refers a k)) ];
  begun = λ a h. (w.sees a).1 (inr (subst (λ rows. Contains rows a) same h));
  due = λ a h. elim (listed (Contains refs) seen seen' found found' w a h) as (λ _. Contains (drop (length found) found') a ⊎ ((b : ℕ) → Refers graph a b → IsSeen seen' b)) [
    | inl s ↦ inr (λ b r. (w.sees b).1 (inl (closed a b s r)))
    | inr k ↦ inl (subst (λ rows. Contains rows a) (sym rest) k)
  ];
  ahead = λ a h. direct (refers a ((w.new a).0 (subst (λ rows. Contains rows a) rest h)).0);
}) where
  refers : (a : ℕ) → Contains refs a → Refers graph from a
  refers a h = subst (λ rows. Contains rows a) (sym same) h

  rest : drop (length found) found' ≡ w.newly
  rest = ap (drop (length found)) w.lists ∙ drop-append_seam found w.newly

-- the row that is found at a place, as the code reads it, is the first of the rows from there on
pub first_ahead : (found : List ℕ) (next row : ℕ) → next < length found → row ≡ get_or found next row → drop next found ≡ row ∷ drop (next + 1) found
first_ahead found next row lt read = rw (add-one, read ∙ get_or_default found next row 0 lt) (drop-cons found next 0 lt)

pub search_continued : (graph : Graph) (from : ℕ) (seen seen' seen'' : List Bool) (found found' found'' : List ℕ) (next row : ℕ) (refs : List ℕ)
    → IsSearch graph from seen seen' found found' next → next < length found' → row ≡ get_or found' next row → references graph row ≡ refs
    → AddsNew (Contains refs) seen' seen'' found' found'' → length seen'' ≡ length graph → IsSearch graph from seen seen'' found found'' (next + 1)
search_continued graph from seen seen' seen'' found found' found'' next row refs s lt read same w len = record {
  length = len;
  adds = adds_same (λ a. IsSeen seen' a ⊎ Contains refs a) (IsSeen seen'') seen seen'' found found'' (λ a h. inr ((w.sees a).1 h)) (λ a h. inr ((w.sees a).0 h))
      (adds_both (IsSeen seen') (Contains refs) seen seen' seen'' found found' found'' s.adds w);
  reached = λ a h. elim ((w.sees a).0 h) as (λ _. IsSeen seen a ⊎ Reaches graph from a) [ inl k ↦ s.reached a k | inr k ↦ inr (goes_on a k) ];
  begun = λ a h. (w.sees a).1 (inl (s.begun a h));
  due = λ a h. elim (listed (Contains refs) seen' seen'' found' found'' w a h) as (λ _. Contains (drop (next + 1) found'') a ⊎ ((b : ℕ) → Refers graph a b → IsSeen seen'' b)) [
    | inl k ↦ elim (s.due a k) as (λ _. Contains (drop (next + 1) found'') a ⊎ ((b : ℕ) → Refers graph a b → IsSeen seen'' b)) [
      | inl m ↦ elim (Contains-cons_cases a row (drop (next + 1) found') (subst (λ rows. Contains rows a) first m)) as (λ _. Contains (drop (next + 1) found'') a ⊎ ((b : ℕ) → Refers graph a b → IsSeen seen'' b)) [
        | inl e ↦ inr (λ b r. (w.sees b).1 (inr (subst (λ rows. Contains rows b) (ap (references graph) (sym e) ∙ same) r)))
        | inr n ↦ inl (subst (λ rows. Contains rows a) (sym rest) (Contains-append_left (drop (next + 1) found') w.newly a n))
      ]
      | inr m ↦ inr (λ b r. (w.sees b).1 (inl (m b r)))
    ]
    | inr k ↦ inl (subst (λ rows. Contains rows a) (sym rest) (Contains-append_right (drop (next + 1) found') w.newly a k))
  ];
  ahead = λ a h. elim (Contains-append_cases (drop (next + 1) found') w.newly a (subst (λ rows. Contains rows a) rest h)) as (λ _. Reaches graph from a) [
    | inl k ↦ s.ahead a (subst (λ rows. Contains rows a) (sym first) (Contains-tail a row (drop (next + 1) found') k))
    | inr k ↦ goes_on a ((w.new a).0 k).0
  ];
} where
  first : drop next found' ≡ row ∷ drop (next + 1) found'
  first = first_ahead found' next row lt read

  rest : drop (next + 1) found'' ≡ drop (next + 1) found' ++ w.newly
  rest = ap (drop (next + 1)) w.lists ∙ drop-append-le (next + 1) found' w.newly (omega (arith, lt))

  goes_on : (a : ℕ) → Contains refs a → Reaches graph from a
  goes_on a h = onwards graph from row a (s.ahead row (subst (λ rows. Contains rows row) (sym first) (Contains-head row (drop (next + 1) found'))))
      (subst (λ rows. Contains rows a) (sym same) h)

pub next_row : (graph : Graph) (from : ℕ) (seen seen' : List Bool) (found found' : List ℕ) (next row : ℕ) → IsClosed graph
    → IsSearch graph from seen seen' found found' next → next < length found' → row ≡ get_or found' next row → IsRow graph row
next_row graph from seen seen' found found' next row closed s lt read = reached_row graph from row closed
    (s.ahead row (subst (λ rows. Contains rows row) (sym (first_ahead found' next row lt read)) (Contains-head row (drop (next + 1) found'))))

pub references_marked : (graph : Graph) (seen : List Bool) (a : ℕ) (refs : List ℕ) → IsClosed graph → IsRow graph a → references graph a ≡ refs
    → length seen ≡ length graph → All (λ b. b < length seen) refs
references_marked graph seen a refs closed row same len = subst (All (λ b. b < length seen)) same (λ k d lt. omega (arith, closed a [] row k d lt, len))

-- where what is seen has its references seen too, what it reaches is seen
pub closed_reaches : (graph : Graph) (seen : List Bool) → ((a b : ℕ) → IsSeen seen a → Refers graph a b → IsSeen seen b)
    → (a b : ℕ) → IsSeen seen a → Reaches graph a b → IsSeen seen b
closed_reaches graph seen closed a b s (direct r) = closed a b s r
closed_reaches graph seen closed a b s (onward {b = m} r k) = closed_reaches graph seen closed m b (closed a m s r) k

pub search_ended : (graph : Graph) (from : ℕ) (seen seen' : List Bool) (found found' : List ℕ) (next : ℕ)
    → IsSearch graph from seen seen' found found' next → length found' ≤ next → AddsNew (Reaches graph from) seen seen' found found'
search_ended graph from seen seen' found found' next s le = adds_same (IsSeen seen') (Reaches graph from) seen seen' found found' s.reached (λ a h. inr (all a h)) s.adds where
  closed : (a b : ℕ) → IsSeen seen' a → Refers graph a b → IsSeen seen' b
  closed a b h r = elim (s.due a h) as (λ _. IsSeen seen' b) [
    | inl k ↦ absurd (omega (arith, k.1, length-drop next found', le))
    | inr k ↦ k b r
  ]

  all : (a : ℕ) → Reaches graph from a → IsSeen seen' a
  all a (direct r) = s.begun a r
  all a (onward {b = m} r k) = closed_reaches graph seen' closed m a (s.begun m r) k
