-- Turns of the loops that turn references round.
use Rattle.std.proofs.Common.{◌≡◌, ℕ, ◌+◌, ◌<◌, ◌≤◌, List, [], ◌∷◌, ◌++◌, length, get_or, set, ap, sym, ◌∙◌, subst, arith, ◌⊎◌, inl, inr, length-set, get_or-set_same, get_or-set_other}
use Rattle.std.specs.Prelude.{◌↔◌}
use Rattle.std.specs.List.{Contains}
use Rattle.std.proofs.lemmas.List.{get_or_default}
use Rattle.std.proofs.lemmas.List.Elements.{Contains-append_left, Contains-push, Contains-push_cases}
use Rattle.st_references.specs.Graphs.{Graph, references, IsRow, Refers}
use Rattle.st_references.specs.Reversals.{IsReversal, AddsReferences}
use Rattle.st_references.proofs.GraphLemmas.{refers_row}
use Rattle.st_references.proofs.Listed.{same_or_not}

-- one row more refers to this one
pub one_reference : (from : List ℕ) (to : ℕ) (graph graph' : Graph) (a : ℕ) (old new : List ℕ) → AddsReferences from to graph graph'
    → IsRow graph' a → old ≡ get_or graph' a old → new ≡ old ++ to ∷ [] → AddsReferences (from ++ a ∷ []) to graph (set graph' a new)
one_reference from to graph graph' a old new w row is_old is_new = record {
  rows = length-set graph' a new ∙ w.rows;
  refers = λ b c. elim (same_or_not b a) as (λ _. Refers (set graph' a new) b c ↔ (Refers graph b c ⊎ (Contains (from ++ a ∷ []) b × (c ≡ to)))) [
    | inl e ↦ subst (λ x. Refers (set graph' a new) x c ↔ (Refers graph x c ⊎ (Contains (from ++ a ∷ []) x × (c ≡ to)))) (sym e) (there c)
    | inr n ↦ subst (λ rows. Contains rows c ↔ (Refers graph b c ⊎ (Contains (from ++ a ∷ []) b × (c ≡ to)))) (sym (get_or-set_other graph' a b new [] n)) (elsewhere b c n)
  ];
} where
  before : references graph' a ≡ old
  before = get_or_default graph' a [] old row ∙ sym is_old

  after : references (set graph' a new) a ≡ old ++ to ∷ []
  after = get_or-set_same graph' a new [] row ∙ is_new

  there : (c : ℕ) → Refers (set graph' a new) a c ↔ (Refers graph a c ⊎ (Contains (from ++ a ∷ []) a × (c ≡ to)))
  there c = (
    (λ h. elim (Contains-push_cases old to c (subst (λ rows. Contains rows c) after h)) as (λ _. Refers graph a c ⊎ (Contains (from ++ a ∷ []) a × (c ≡ to))) [
      | inl k ↦ elim ((w.refers a c).0 (subst (λ rows. Contains rows c) (sym before) k)) as (λ _. Refers graph a c ⊎ (Contains (from ++ a ∷ []) a × (c ≡ to))) [
        | inl m ↦ inl m
        | inr m ↦ inr (Contains-push from a, m.1)
      ]
      | inr e ↦ inr (Contains-push from a, sym e)
    ]),
    (λ h. subst (λ rows. Contains rows c) (sym after) (elim h as (λ _. Contains (old ++ to ∷ []) c) [
      | inl k ↦ Contains-append_left old (to ∷ []) c (subst (λ rows. Contains rows c) before ((w.refers a c).1 (inl k)))
      | inr k ↦ subst (Contains (old ++ to ∷ [])) (sym k.1) (Contains-push old to)
    ])),
  )

  elsewhere : (b c : ℕ) → (b ≡ a → ⊥) → Refers graph' b c ↔ (Refers graph b c ⊎ (Contains (from ++ a ∷ []) b × (c ≡ to)))
  elsewhere b c n = (
    (λ h. elim ((w.refers b c).0 h) as (λ _. Refers graph b c ⊎ (Contains (from ++ a ∷ []) b × (c ≡ to))) [
      | inl k ↦ inl k
      | inr k ↦ inr (Contains-append_left from (a ∷ []) b k.0, k.1)
    ]),
    (λ h. elim h as (λ _. Refers graph' b c) [
      | inl k ↦ (w.refers b c).1 (inl k)
      | inr k ↦ elim (Contains-push_cases from a b k.0) as (λ _. Refers graph' b c) [
        | inl m ↦ (w.refers b c).1 (inr (m, k.1))
        | inr e ↦ absurd (n (sym e))
      ]
    ]),
  )

-- the references of the rows below this one are turned round
pub record IsReversedBelow (graph reversal : Graph) (row : ℕ) : Type 0 where
  pub rows : length reversal ≡ length graph
  pub turned : (a b : ℕ) → Refers reversal b a ↔ ((a < row) × Refers graph a b)

pub one_reversed : (graph reversal reversal' : Graph) (row : ℕ) (refs : List ℕ) → IsReversedBelow graph reversal row → references graph row ≡ refs
    → AddsReferences refs row reversal reversal' → IsReversedBelow graph reversal' (row + 1)
one_reversed graph reversal reversal' row refs w same added = record {
  rows = added.rows ∙ w.rows;
  turned = λ a b. (
    (λ h. elim ((added.refers b a).0 h) as (λ _. (a < row + 1) × Refers graph a b) [
      | inl k ↦ let below : a < row = ((w.turned a b).0 k).0 in (omega arith, ((w.turned a b).0 k).1)
      | inr k ↦ let e : a ≡ row = k.1 in (omega arith, subst (λ x. Refers graph x b) (sym e) (subst (λ rows. Contains rows b) (sym same) k.0))
    ]),
    (λ h. elim (last_or_before a h.0) as (λ _. Refers reversal' b a) [
      | inl lt ↦ (added.refers b a).1 (inl ((w.turned a b).1 (lt, h.1)))
      | inr e ↦ (added.refers b a).1 (inr (subst (λ rows. Contains rows b) (ap (references graph) e ∙ same) h.1, e))
    ]),
  );
} where
  last_or_before : (a : ℕ) → a < row + 1 → (a < row) ⊎ (a ≡ row)
  last_or_before a h = grind (arith, h)

pub all_reversed : (graph reversal : Graph) (row : ℕ) → length graph ≤ row → IsReversedBelow graph reversal row → IsReversal graph reversal
all_reversed graph reversal row le w = record {
  rows = w.rows;
  turned = λ a b. (
    (λ h. ((w.turned a b).0 h).1),
    (λ h. let lt : a < length graph = refers_row graph a b h in (w.turned a b).1 (omega arith, h)),
  );
}
