-- Rows that reach themselves.
use Rattle.std.proofs.Common.{◌≡◌, ℕ, suc, ◌+◌, ◌-◌, ◌<◌, ◌≤◌, List, [], ◌∷◌, ◌++◌, Bool, true, false, length, get_or, set, drop, take, refl, ap, sym, ◌∙◌, subst, arith, ◌⊎◌, inl, inr, get_or-set_other, length-drop, length-set}
use Rattle.std.specs.Prelude.{◌↔◌}
use Rattle.std.specs.List.{All, Contains}
use Rattle.std.proofs.Math.Seq.{drop-cons}
use Rattle.std.proofs.lemmas.List.{get_or-drop, get_or-take, get_or_default, length-take-le}
use Rattle.std.proofs.lemmas.List.Elements.{All-from_get_or, Contains-append_left, Contains-append_right, Contains-append_cases, Contains-get_or, Contains-push, Contains-push_cases}
use Rattle.st_references.specs.Graphs.{Graph, references, IsRow, IsClosed, Refers, Reaches, direct, onward}
use Rattle.st_references.specs.Reversals.{IsReversal}
use Rattle.st_references.specs.Searches.{AddsNew}
use Rattle.st_references.specs.Walks.{IsSeen, StaysOrReaches, ReachesLast, IsPostorder}
use Rattle.st_references.proofs.GraphLemmas.{refers_row, reaches_row, onwards}
use Rattle.st_references.proofs.Listed.{Contains-cons_cases, same_or_not, split_place}
use Rattle.st_references.proofs.Marks.{mark_read, set_sees, set_keeps}
use Rattle.st_references.proofs.Searching.{listed}

-- ---- a graph with its references turned round

pub turned_back : (graph reversal : Graph) → IsReversal graph reversal → IsReversal reversal graph
turned_back graph reversal r = record { rows = sym r.rows; turned = λ a b. ((r.turned b a).1, (r.turned b a).0) }

pub reversed_reaches : (graph reversal : Graph) → IsReversal graph reversal → (a b : ℕ) → Reaches reversal b a → Reaches graph a b
reversed_reaches graph reversal r a b (direct h) = direct ((r.turned a b).0 h)
reversed_reaches graph reversal r a b (onward {b = m} h k) = onwards graph a m b (reversed_reaches graph reversal r a m k) ((r.turned m b).0 h)

pub reversed_closed : (graph reversal : Graph) → IsReversal graph reversal → IsClosed reversal
reversed_closed graph reversal r = All-from_get_or (All (IsRow reversal)) reversal [] (λ b row.
    All-from_get_or (IsRow reversal) (references reversal b) 0 (λ i h.
    let a : ℕ = get_or (references reversal b) i 0 in
    let is_row : IsRow graph a = refers_row graph a b ((r.turned a b).0 (Contains-get_or (references reversal b) i 0 h)) in
    omega (arith, is_row, r.rows)))

-- ---- rows in the order in which a walk leaves them

-- what is reached from the rows up to one is one of them, or the first of the way that isn't reaches this one
leaves : (graph : Graph) (rows : List ℕ) (a b c : ℕ) → StaysOrReaches graph rows a → Contains rows b → Reaches graph b c → Contains rows c ⊎ Reaches graph b a
leaves graph rows a b c s h (direct r) = elim (s b c h r) as (λ _. Contains rows c ⊎ Reaches graph b a) [
  | inl k ↦ inl k
  | inr k ↦ inr (onward r k)
]
leaves graph rows a b c s h (onward {b = m} r k) = elim (s b m h r) as (λ _. Contains rows c ⊎ Reaches graph b a) [
  | inl n ↦ elim (leaves graph rows a m c s n k) as (λ _. Contains rows c ⊎ Reaches graph b a) [
    | inl o ↦ inl o
    | inr o ↦ inr (onward r o)
  ]
  | inr n ↦ inr (onward r n)
]

-- a row that reaches one that doesn't stand before it reaches itself
pub reaches_later : (graph : Graph) (order before after : List ℕ) (a b : ℕ) → ReachesLast graph order → order ≡ before ++ a ∷ after
    → Reaches graph a b → (Contains before b → ⊥) → Reaches graph a a
reaches_later graph order before after a b last is h not_before =
    elim (leaves graph (before ++ a ∷ []) a a b (last before after a is) (Contains-push before a) h) as (λ _. Reaches graph a a) [
      | inl k ↦ elim (Contains-push_cases before a b k) as (λ _. Reaches graph a a) [
        | inl m ↦ absurd (not_before m)
        | inr e ↦ subst (Reaches graph a) (sym e) h
      ]
      | inr k ↦ k
    ]

-- the same by places: the row that is reached stands at this place, and the one that reaches it not after it
pub reaches_place : (graph : Graph) (order : List ℕ) (place a b : ℕ) → IsPostorder graph order → place < length order
    → b ≡ get_or order place b → Contains order a → (Contains (drop (place + 1) order) a → ⊥) → Reaches graph a b → Reaches graph a a
reaches_place graph order place a b postorder lt is (i, below, e) not_after h =
    reaches_later graph order (take i order) (drop (suc i) order) a b postorder.last (split_place order i a below e) h not_before where
      up_to : i ≤ place
      up_to = elim (within_or_after place) as (λ _. i ≤ place) [
        | inl le ↦ le
        | inr gt ↦ absurd (not_after (
          i - (place + 1),
          omega (arith, below, gt, length-drop (place + 1) order),
          get_or-drop (place + 1) order (i - (place + 1)) a ∙ ap (λ j. get_or order j a) (there gt) ∙ e,
        ))
      ] where
        within_or_after : (n : ℕ) → (i ≤ n) ⊎ (n < i)
        within_or_after n = grind arith

        there : place < i → place + 1 + (i - (place + 1)) ≡ i
        there gt = omega (arith, gt)

      not_before : Contains (take i order) b → ⊥
      not_before (k, under, same) =
          let in_take : k < i = omega (arith, under, length-take-le i order (omega (arith, below))) in
          postorder.once k place b (omega (arith, in_take, up_to)) lt (sym (get_or-take i order k b in_take) ∙ same ∙ is)

-- ---- turns of the loop

-- from this place of the order on, all rows are seen; each row that is seen and reaches itself is found, and no other row is
pub record IsSwept (graph : Graph) (order : List ℕ) (place : ℕ) (seen : List Bool) (found : List ℕ) : Type 0 where
  pub length : length seen ≡ length graph
  pub passed : (a : ℕ) → Contains (drop place order) a → IsSeen seen a
  pub closed : (a b : ℕ) → IsSeen seen b → Refers graph a b → IsSeen seen a
  pub returns : (a : ℕ) → Contains found a → Reaches graph a a
  pub all : (a : ℕ) → IsSeen seen a → Reaches graph a a → Contains found a

-- the row before those that are passed
abbrev row_before : List ℕ → ℕ → ℕ
row_before order next = get_or order (next - 1) 0

first_passed : (order : List ℕ) (next : ℕ) → 0 < next → next ≤ length order → drop (next - 1) order ≡ row_before order next ∷ drop next order
first_passed order next some within =
    let at : suc (next - 1) ≡ next = omega (arith, some) in
    drop-cons order (next - 1) 0 (omega (arith, some, within)) ∙ ap (λ n. row_before order next ∷ drop n order) at

passed_on : (order : List ℕ) (next : ℕ) (seen : List Bool) → 0 < next → next ≤ length order → IsSeen seen (row_before order next)
    → ((a : ℕ) → Contains (drop next order) a → IsSeen seen a) → (a : ℕ) → Contains (drop (next - 1) order) a → IsSeen seen a
passed_on order next seen some within here rest a h =
    elim (Contains-cons_cases a (row_before order next) (drop next order) (subst (λ rows. Contains rows a) (first_passed order next some within) h)) as (λ _. IsSeen seen a) [
      | inl e ↦ subst (IsSeen seen) e here
      | inr k ↦ rest a k
    ]

row_before_row : (graph : Graph) (order : List ℕ) (next : ℕ) → IsPostorder graph order → 0 < next → next ≤ length order → IsRow graph (row_before order next)
row_before_row graph order next postorder some within = postorder.rows (next - 1) 0 (omega (arith, some, within))

-- the row is seen
pub swept_seen : (graph : Graph) (order : List ℕ) (next : ℕ) (seen : List Bool) (found : List ℕ) (mark : Bool) → IsSwept graph order next seen found
    → IsPostorder graph order → 0 < next → next ≤ length order → mark ≡ get_or seen (row_before order next) mark → mark ≡ true
    → IsSwept graph order (next - 1) seen found
swept_seen graph order next seen found mark w postorder some within read is = record {
  length = w.length;
  passed = passed_on order next seen some within (mark_read seen (row_before order next) mark true (omega (arith, row_before_row graph order next postorder some within, w.length)) read is) w.passed;
  closed = w.closed;
  returns = w.returns;
  all = w.all;
}

-- it isn't, and the rows that reach it are added
pub swept_new : (graph reversal : Graph) (order : List ℕ) (next : ℕ) (seen seen' : List Bool) (found found' : List ℕ) (mark : Bool) → IsSwept graph order next seen found
    → IsReversal graph reversal → IsPostorder graph order → 0 < next → next ≤ length order → mark ≡ get_or seen (row_before order next) mark → mark ≡ false
    → AddsNew (Reaches reversal (row_before order next)) seen seen' found found' → length seen' ≡ length reversal
    → IsSwept graph order (next - 1) (set seen' (row_before order next) true) found'
swept_new graph reversal order next seen seen' found found' mark w reversed postorder some within read is added len = record {
  length = length-set seen' row true ∙ len ∙ reversed.rows;
  passed = passed_on order next (set seen' row true) some within (set_sees seen' row row in_marks refl) (λ a h. marked a (sees a (w.passed a h)));
  closed = λ a b h r. marked a (closed' a b h r);
  returns = λ a h. elim (Contains-append_cases found added.newly a (subst (λ rows. Contains rows a) added.lists h)) as (λ _. Reaches graph a a) [
    | inl k ↦ w.returns a k
    | inr k ↦ returns_now a ((added.new a).0 k)
  ];
  all = λ a h r. subst (λ rows. Contains rows a) (sym added.lists) (all' a h r);
} where
  row : ℕ
  row = row_before order next

  in_marks : row < length seen'
  in_marks = omega (arith, row_before_row graph order next postorder some within, len, reversed.rows)

  sees : (a : ℕ) → IsSeen seen a → IsSeen seen' a
  sees a h = (added.sees a).1 (inl h)

  marked : (a : ℕ) → IsSeen seen' a → IsSeen (set seen' row true) a
  marked a h = set_keeps seen' a row in_marks h

  -- what reaches the row is seen
  reaching : (a : ℕ) → Reaches graph a row → IsSeen seen' a
  reaching a h = (added.sees a).1 (inr (reversed_reaches reversal graph (turned_back graph reversal reversed) row a h))

  closed' : (a b : ℕ) → IsSeen (set seen' row true) b → Refers graph a b → IsSeen seen' a
  closed' a b h r = elim (same_or_not b row) as (λ _. IsSeen seen' a) [
    | inl e ↦ reaching a (direct (subst (Refers graph a) e r))
    | inr n ↦ elim ((added.sees b).0 (sym (get_or-set_other seen' row b true false n) ∙ h)) as (λ _. IsSeen seen' a) [
      | inl k ↦ sees a (w.closed a b k r)
      | inr k ↦ reaching a (onward r (reversed_reaches graph reversal reversed b row k))
    ]
  ]

  returns_now : (a : ℕ) → Reaches reversal row a × (IsSeen seen a → ⊥) → Reaches graph a a
  returns_now a h =
      let there : next - 1 + 1 ≡ next = omega (arith, some) in
      let reaches : Reaches graph a row = reversed_reaches graph reversal reversed a row h.0 in
      reaches_place graph order (next - 1) a row postorder (omega (arith, some, within)) (sym (get_or_default order (next - 1) row 0 (omega (arith, some, within)))) (postorder.all a (reaches_row graph a row reaches)) (λ k. h.1 (w.passed a (subst (λ n. Contains (drop n order) a) there k))) reaches

  all' : (a : ℕ) → IsSeen (set seen' row true) a → Reaches graph a a → Contains (found ++ added.newly) a
  all' a h r = elim (listed (Reaches reversal row) seen seen' found found' added a (seen_now (same_or_not a row))) as (λ _. Contains (found ++ added.newly) a) [
    | inl k ↦ Contains-append_left found added.newly a (w.all a k r)
    | inr k ↦ Contains-append_right found added.newly a k
  ] where
    seen_now : (a ≡ row) ⊎ (a ≡ row → ⊥) → IsSeen seen' a
    seen_now (inl e) = reaching a (subst (Reaches graph a) e r)
    seen_now (inr n) = sym (get_or-set_other seen' row a true false n) ∙ h

-- where all rows are passed, those that reach themselves are found, and no others
pub all_swept : (graph : Graph) (order : List ℕ) (place : ℕ) (seen : List Bool) (found : List ℕ) → IsSwept graph order place seen found → place ≡ 0
    → IsPostorder graph order → (a : ℕ) → Contains found a ↔ Reaches graph a a
all_swept graph order place seen found w none postorder a = (
  (λ h. w.returns a h),
  (λ h. w.all a (w.passed a (subst (λ n. Contains (drop n order) a) (sym none) (postorder.all a (reaches_row graph a a h)))) h),
)
