-- Which rows are seen.
use Rattle.std.proofs.Common.{◌≡◌, ℕ, ◌+◌, ◌<◌, List, [], ◌∷◌, Bool, true, false, length, get_or, set, refl, ap, sym, ◌∙◌, arith, ◌⊎◌, inl, inr, get_or-set_same, get_or-set_other}
use Rattle.std.proofs.lemmas.List.{get_or_default}
use Rattle.st_references.specs.Walks.{IsSeen, occurrences, one}
use Rattle.st_references.proofs.Listed.{occurrences-same, occurrences-other, same_or_not}

pub seen_or_not : (seen : List Bool) (a : ℕ) → IsSeen seen a ⊎ (get_or seen a false ≡ false)
seen_or_not seen a = go (get_or seen a false) where
  go : (b : Bool) → (b ≡ true) ⊎ (b ≡ false)
  go true = inl refl
  go false = inr refl

-- the mark of a row, as the code reads it
pub mark_read : (seen : List Bool) (a : ℕ) (mark known : Bool) → a < length seen → mark ≡ get_or seen a mark → mark ≡ known
    → get_or seen a false ≡ known
mark_read seen a mark known lt read is = get_or_default seen a false mark lt ∙ sym read ∙ is

pub set_sees : (seen : List Bool) (a b : ℕ) → b < length seen → a ≡ b → IsSeen (set seen b true) a
set_sees seen a b lt e = ap (λ x. get_or (set seen b true) x false) e ∙ get_or-set_same seen b true false lt

pub set_keeps : (seen : List Bool) (a b : ℕ) → b < length seen → IsSeen seen a → IsSeen (set seen b true) a
set_keeps seen a b lt h = elim (same_or_not a b) as (λ _. IsSeen (set seen b true) a) [
  | inl e ↦ set_sees seen a b lt e
  | inr n ↦ get_or-set_other seen b a true false n ∙ h
]

-- the row that is marked counts for one more
pub one-set : (seen : List Bool) (a b : ℕ) → b < length seen → get_or seen b false ≡ false
    → one (get_or (set seen b true) a false) ≡ one (get_or seen a false) + occurrences a (b ∷ [])
one-set seen a b lt new = elim (same_or_not a b) as (λ _. one (get_or (set seen b true) a false) ≡ one (get_or seen a false) + occurrences a (b ∷ [])) [
  | inl e ↦ omega (arith, ap one (set_sees seen a b lt e), ap one (ap (λ x. get_or seen x false) e ∙ new), occurrences-same a b e)
  | inr n ↦ omega (arith, ap one (get_or-set_other seen b a true false n), occurrences-other a b n)
]
