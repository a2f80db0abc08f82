-- Faults one behind the other.
use Rattle.std.proofs.Common.{◌≡◌, ℕ, ◌+◌, ◌<◌, ◌≤◌, List, [], ◌∷◌, ◌++◌, length, refl, sym, ap, ◌∙◌, subst, arith}
use Rattle.std.specs.List.{All}
use Rattle.std.specs.Prelude.{MatchOption, Option, None}
use Rattle.std.proofs.lemmas.List.Elements.{All-cons, All-nil, All-weaker}
use Rattle.st_tree.specs.declared.tree.unit.Unit.{Unit as Section}
use Rattle.st_faults.specs.declared.fault.Fault.{Fault}
use Rattle.st_check.specs.Recursions.{HasNoneFrom, IsFirstOfUnitsFrom}
use Rattle.st_explain.specs.Collections.{AreInOrder, AreLater, AreNext, last_number}

module _ (us : List Section) where
  -- those behind a token stand behind it, in order
  pub next_in_order : (number : ℕ) (gs : List Fault) → AreNext us number gs → All (λ g. number < g.position.number) gs × AreInOrder gs
  next_in_order number [] next = (All-nil (λ g. number < g.position.number), tt)
  next_in_order number (g ∷ gs) next =
      let rest = next_in_order g.position.number gs next.1 in
      let below : number < g.position.number = omega (arith, next.0.behind) in (
        All-cons (λ h. number < h.position.number) g gs below
            (All-weaker (λ h. g.position.number < h.position.number) (λ h. number < h.position.number) (λ h k. omega (arith, below, k)) gs rest.0),
        (rest.0, rest.1),
      )

  -- one more, behind the last
  next_push : (number : ℕ) (gs : List Fault) (h : Fault) → AreNext us number gs → IsFirstOfUnitsFrom (last_number number gs + 1) us h → AreNext us number (gs ++ h ∷ [])
  next_push number [] h next one = (one, tt)
  next_push number (g ∷ gs) h next one = (next.0, next_push g.position.number gs h next.1 one)

  last_push : (number : ℕ) (gs : List Fault) (h : Fault) → last_number number (gs ++ h ∷ []) ≡ h.position.number
  last_push number [] h = refl
  last_push number (g ∷ gs) h = last_push g.position.number gs h

  -- these faults are the first one, and those behind it up to the last one
  pub record AreFrom (first : Fault) (fs : List Fault) (last : Fault) : Type 0 where
    pub later : List Fault
    pub begin : fs ≡ first ∷ later
    pub next : AreNext us first.position.number later
    pub ends : last_number first.position.number later ≡ last.position.number

  pub from_first : (first : Fault) (fs : List Fault) → fs ≡ first ∷ [] → AreFrom first fs first
  from_first first fs e = record { later = []; begin = e; next = tt; ends = refl }

  pub from_push : (first : Fault) (fs gs : List Fault) (last g : Fault) → gs ≡ fs ++ g ∷ [] → AreFrom first fs last → IsFirstOfUnitsFrom (last.position.number + 1) us g
      → AreFrom first gs g
  from_push first fs gs last g e w one = record {
    later = w.later ++ g ∷ [];
    begin = e ∙ ap (λ xs. xs ++ g ∷ []) w.begin;
    next = next_push first.position.number w.later g w.next (subst (λ n. IsFirstOfUnitsFrom (n + 1) us g) (sym w.ends) one);
    ends = last_push first.position.number w.later g;
  }

  -- they are the later ones, where there are so many, or none is behind the last
  pub later_of : (most : ℕ) (first : Fault) (fs : List Fault) (last : Fault) → AreFrom first fs last → length fs ≤ most
      → (length fs < most → HasNoneFrom (last.position.number + 1) us) → (later : List Fault) × (fs ≡ first ∷ later) × AreLater us most first later
  later_of most first fs last w few all = (
    w.later,
    w.begin,
    record {
      next = w.next;
      few = subst (λ xs. length xs ≤ most) w.begin few;
      all = λ below. subst (λ n. HasNoneFrom (n + 1) us) (sym w.ends) (all (subst (λ xs. length xs < most) (sym w.begin) below));
    },
  )

-- what is so where there is nothing
pub of_none : (A : Type 0) (B : Fault → Type 0) (o : Option Fault) → MatchOption o A B → o ≡ None → A
of_none A B o h e = subst (λ x. MatchOption x A B) e h
