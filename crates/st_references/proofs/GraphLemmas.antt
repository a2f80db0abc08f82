-- References and what is reached.
use Rattle.std.proofs.Common.{◌≡◌, ℕ, ◌<◌, ◌≤◌, List, [], length, get_or, sym, ◌∙◌, subst, arith, ◌⊎◌, inl, inr}
use Rattle.std.specs.List.{Contains}
use Rattle.std.proofs.Math.ListN.{get_or-eq_default}
use Rattle.std.proofs.lemmas.List.{get_or_default}
use Rattle.std.proofs.lemmas.List.Elements.{All-contains}
use Rattle.st_references.specs.Graphs.{Graph, references, IsRow, IsClosed, Refers, Reaches, direct, onward}
use Rattle.st_references.proofs.Listed.{Contains-nil}

-- rows past the last refer to nothing, and reach nothing
pub refers_row : (graph : Graph) (a b : ℕ) → Refers graph a b → IsRow graph a
refers_row graph a b h = elim (below_or_not (length graph)) as (λ _. IsRow graph a) [
  | inl lt ↦ lt
  | inr le ↦ absurd (Contains-nil b (subst (λ rows. Contains rows b) (get_or-eq_default graph [] le) h))
] where
  below_or_not : (n : ℕ) → (a < n) ⊎ (n ≤ a)
  below_or_not n = grind arith

pub reaches_row : (graph : Graph) (a b : ℕ) → Reaches graph a b → IsRow graph a
reaches_row graph a b (direct r) = refers_row graph a b r
reaches_row graph a b (onward {b = m} r k) = refers_row graph a m r

-- what is referred to is a row, and what is reached
pub reference_row : (graph : Graph) (a b : ℕ) → IsClosed graph → Refers graph a b → IsRow graph b
reference_row graph a b closed h = All-contains (IsRow graph) (references graph a) b (closed a [] (refers_row graph a b h)) h

pub reached_row : (graph : Graph) (a b : ℕ) → IsClosed graph → Reaches graph a b → IsRow graph b
reached_row graph a b closed (direct r) = reference_row graph a b closed r
reached_row graph a b closed (onward {b = m} r k) = reached_row graph m b closed k

-- one reference more at the end of the way
pub onwards : (graph : Graph) (a b c : ℕ) → Reaches graph a b → Refers graph b c → Reaches graph a c
onwards graph a b c (direct r) k = onward r (direct k)
onwards graph a b c (onward {b = m} r s) k = onward r (onwards graph m b c s k)

-- the references of a row, as the code reads them
pub references_read : (graph : Graph) (a : ℕ) (row refs : List ℕ) → IsRow graph a → row ≡ get_or graph a row → refs ≡ row → references graph a ≡ refs
references_read graph a row refs h read is = get_or_default graph a [] row h ∙ sym read ∙ sym is
