-- What is kept of the faults that were offered is the first of them.
use Rattle.std.proofs.Common.{◌≡◌, ℕ, ◌≤◌, if◌then◌else◌, List, [], ◌∷◌, ◌++◌, refl, ap, sym, ◌∙◌, subst, Bool, true, false, arith, ◌⊎◌, inl, inr, zero, suc, ◌<◌, length}
use Rattle.std.specs.Prelude.{Option, Some, None}
use Rattle.std.specs.List.{Contains}
use Rattle.std.specs.Prelude.{slice_index_or, nat_lt}
use Rattle.std.proofs.lemmas.Bool.Decides.{nat_tests}
use Rattle.st_faults.specs.declared.fault.Fault.{Fault}
use Rattle.st_faults.specs.Faults.{First, IsFirstFrom, earlier, is_before, none_from, offer_all, with_fault}

-- more are offered behind others
pub offer_append : (first : First) (fs gs : List Fault) → offer_all first (fs ++ gs) ≡ offer_all (offer_all first fs) gs
unfolding offer_all
offer_append first [] gs = refl
offer_append first (f ∷ fs) gs = offer_append (with_fault first f) fs gs

-- ---- what is kept is the first of the faults that count

-- the first of all faults
unfoldable earliest : Option Fault → List Fault → Option Fault
earliest first [] = first
earliest first (f ∷ fs) = earliest (earlier first f) fs

-- those at tokens from one on
unfoldable from_on : ℕ → List Fault → List Fault
from_on start [] = []
from_on start (f ∷ fs) = if nat_lt f.position.number start then from_on start fs else f ∷ from_on start fs

abbrev more_kept : First → Fault → First
more_kept k f = record { start = k.start; kept = earlier k.kept f }

left_out : (start : ℕ) (g : Fault) (fs : List Fault) → nat_lt g.position.number start ≡ true → from_on start (g ∷ fs) ≡ from_on start fs
unfolding from_on
left_out start g fs e = rw e refl

taken : (start : ℕ) (g : Fault) (fs : List Fault) → nat_lt g.position.number start ≡ false → from_on start (g ∷ fs) ≡ g ∷ from_on start fs
unfolding from_on
taken start g fs e = rw e refl

with_none : (k : First) (f : Fault) → nat_lt f.position.number k.start ≡ true → with_fault k f ≡ k
unfolding with_fault
with_none k f e = rw e refl

with_more : (k : First) (f : Fault) → nat_lt f.position.number k.start ≡ false → with_fault k f ≡ more_kept k f
unfolding with_fault
with_more k f e = rw e refl

kept_by : (k : First) (f : Fault) (fs : List Fault) (b : Bool) → nat_lt f.position.number k.start ≡ b
    → (offer_all k fs).kept ≡ earliest k.kept (from_on k.start fs)
    → (offer_all (more_kept k f) fs).kept ≡ earliest (earlier k.kept f) (from_on k.start fs)
    → (offer_all k (f ∷ fs)).kept ≡ earliest k.kept (from_on k.start (f ∷ fs))
unfolding offer_all earliest
kept_by k f fs true e a b = ap (λ j. (offer_all j fs).kept) (with_none k f e) ∙ a ∙ sym (ap (earliest k.kept) (left_out k.start f fs e))
kept_by k f fs false e a b = ap (λ j. (offer_all j fs).kept) (with_more k f e) ∙ b ∙ sym (ap (earliest k.kept) (taken k.start f fs e))

kept_is : (k : First) (fs : List Fault) → (offer_all k fs).kept ≡ earliest k.kept (from_on k.start fs)
unfolding offer_all earliest from_on
kept_is k [] = refl
kept_is k (f ∷ fs) = kept_by k f fs (nat_lt f.position.number k.start) refl (kept_is k fs) (kept_is (more_kept k f) fs)

-- one of these
pub data IsAmong (f : Fault) : List Fault → Type 0 where
  here : (fs : List Fault) → IsAmong f (f ∷ fs)
  later : (g : Fault) (fs : List Fault) → IsAmong f fs → IsAmong f (g ∷ fs)

before_self : (f : Fault) → is_before f f ≡ false
before_self f = grind (arith, nat_tests)

before_not : (f g : Fault) → is_before f g ≡ true → is_before g f ≡ false
before_not f g h = grind (arith, nat_tests)

before_trans : (a b c : Fault) → is_before b a ≡ false → is_before c b ≡ false → is_before c a ≡ false
before_trans a b c h g = grind (arith, nat_tests)

abbrev all_after : Fault → List Fault → Type 0
all_after f fs = (g : Fault) → IsAmong g fs → is_before g f ≡ false

-- of h and the others this is the first
abbrev IsLeast : Fault → List Fault → Fault → Type 0
IsLeast h fs f = ((f ≡ h) ⊎ IsAmong f fs) × (is_before h f ≡ false) × all_after f fs

among_more : (f h : Fault) (fs : List Fault) → (f ≡ h) ⊎ IsAmong f fs → IsAmong f (h ∷ fs)
among_more f h fs (inl e) = subst (λ x. IsAmong x (h ∷ fs)) (sym e) (here fs)
among_more f h fs (inr a) = later h fs a

still : (f h k : Fault) (fs : List Fault) → (f ≡ h) ⊎ IsAmong f fs → (f ≡ h) ⊎ IsAmong f (k ∷ fs)
still f h k fs (inl e) = inl e
still f h k fs (inr a) = inr (later k fs a)

all_more : (f k : Fault) (fs : List Fault) → is_before k f ≡ false → all_after f fs → all_after f (k ∷ fs)
all_more f k fs h go g (here _) = h
all_more f k fs h go g (later _ _ a) = go g a

abbrev Least : Fault → List Fault → Type 0
Least h fs = (f : Fault) × (earliest (Some h) fs ≡ Some f) × IsLeast h fs f

least_by : (h k : Fault) (fs : List Fault) (b : Bool) → is_before k h ≡ b → Least k fs → Least h fs → Least h (k ∷ fs)
unfolding earliest
least_by h k fs true e w v = (w.0, rw e w.1, (inr (among_more w.0 k fs w.2.0), before_trans w.0 k h w.2.1 (before_not k h e), all_more w.0 k fs w.2.1 w.2.2))
least_by h k fs false e v w = (w.0, rw e w.1, (still w.0 h k fs w.2.0, w.2.1, all_more w.0 k fs (before_trans w.0 h k w.2.1 e) w.2.2))

least : (h : Fault) (fs : List Fault) → Least h fs
unfolding earliest
least h [] = (h, refl, (inl refl, before_self h, λ g a. elim a [ ]))
least h (k ∷ fs) = least_by h k fs (is_before k h) refl (least k fs) (least h fs)

-- ---- the faults that count are among those that were offered

counts_by : (f g : Fault) (start : ℕ) (fs : List Fault) (b : Bool) → nat_lt g.position.number start ≡ b
    → (IsAmong f (from_on start fs) → IsAmong f fs × (start ≤ f.position.number)) → IsAmong f (from_on start (g ∷ fs)) → IsAmong f (g ∷ fs) × (start ≤ f.position.number)
counts_by f g start fs true e more a = let w = more (subst (IsAmong f) (left_out start g fs e) a) in (later g fs w.0, w.1)
counts_by f g start fs false e more a = by f (subst (IsAmong f) (taken start g fs e) a) more where
  by : (h : Fault) → IsAmong h (g ∷ from_on start fs) → (IsAmong h (from_on start fs) → IsAmong h fs × (start ≤ h.position.number)) → IsAmong h (g ∷ fs) × (start ≤ h.position.number)
  by h (here _) more = (here fs, grind (arith, nat_tests))
  by h (later _ _ k) more = let w = more k in (later g fs w.0, w.1)

counts : (f : Fault) (start : ℕ) (fs : List Fault) → IsAmong f (from_on start fs) → IsAmong f fs × (start ≤ f.position.number)
unfolding from_on
counts f start [] a = elim a [ ]
counts f start (g ∷ fs) a = counts_by f g start fs (nat_lt g.position.number start) refl (counts f start fs) a

counted_by : (f g : Fault) (start : ℕ) (fs : List Fault) (b : Bool) → nat_lt g.position.number start ≡ b → start ≤ f.position.number
    → (IsAmong f fs → IsAmong f (from_on start fs)) → IsAmong f (g ∷ fs) → IsAmong f (from_on start (g ∷ fs))
counted_by f g start fs true e le more (here _) = absurd (grind (arith, nat_tests))
counted_by f g start fs true e le more (later _ _ a) = subst (IsAmong f) (sym (left_out start g fs e)) (more a)
counted_by f g start fs false e le more (here _) = subst (IsAmong f) (sym (taken start g fs e)) (here (from_on start fs))
counted_by f g start fs false e le more (later _ _ a) = subst (IsAmong f) (sym (taken start g fs e)) (later g (from_on start fs) (more a))

counted : (f : Fault) (start : ℕ) (fs : List Fault) → start ≤ f.position.number → IsAmong f fs → IsAmong f (from_on start fs)
unfolding from_on
counted f start [] le a = elim a [ ]
counted f start (g ∷ fs) le a = counted_by f g start fs (nat_lt g.position.number start) refl le (counted f start fs le) a

-- ---- by index

index_of : (f : Fault) (fs : List Fault) → IsAmong f fs → Contains fs f
index_of f fs (here more) = (0, omega arith, refl)
index_of f fs (later g more a) = let w = index_of f more a in (suc w.0, omega (arith, w.1), w.2)

at_index : (f : Fault) (fs : List Fault) (k : ℕ) → k < length fs → slice_index_or fs k f ≡ f → IsAmong f fs
at_index f [] k lt e = absurd (omega (arith, lt))
at_index f (g ∷ fs) zero lt e = subst (λ x. IsAmong f (x ∷ fs)) (sym e) (here fs)
at_index f (g ∷ fs) (suc k) lt e = later g fs (at_index f fs k (omega (arith, lt)) e)

among : (f : Fault) (fs : List Fault) → Contains fs f → IsAmong f fs
among f fs c = at_index f fs c.0 c.1 c.2

-- ---- what is kept was offered, and nothing that was is before it

earliest_none : (fs : List Fault) → earliest None fs ≡ None → (f : Fault) → IsAmong f fs → ⊥
unfolding earliest
earliest_none [] h f a = elim a [ ]
earliest_none (k ∷ fs) h f a = let w = least k fs in let e : Some w.0 ≡ None = sym w.1 ∙ h in absurd (cc)

earliest_kept : (fs : List Fault) (f : Fault) → earliest None fs ≡ Some f → IsAmong f fs × all_after f fs
unfolding earliest
earliest_kept [] f h = absurd (cc)
earliest_kept (k ∷ fs) f h =
    let w = least k fs in
    let same : w.0 ≡ f = (let e : Some w.0 ≡ Some f = sym w.1 ∙ h in cc) in
    subst (λ x. IsAmong x (k ∷ fs) × all_after x (k ∷ fs)) same (among_more w.0 k fs w.2.0, all_more w.0 k fs w.2.1 w.2.2)

pub none_kept_from : (start : ℕ) (fs : List Fault) (f : Fault) → (offer_all (none_from start) fs).kept ≡ None → Contains fs f → start ≤ f.position.number → ⊥
none_kept_from start fs f h c le =
    earliest_none (from_on start fs) (sym (kept_is (none_from start) fs) ∙ h) f (counted f start fs le (among f fs c))

pub first_kept_from : (start : ℕ) (fs : List Fault) (f : Fault) → (offer_all (none_from start) fs).kept ≡ Some f → IsFirstFrom start fs f
first_kept_from start fs f h =
    let w = earliest_kept (from_on start fs) f (sym (kept_is (none_from start) fs) ∙ h) in
    let there = counts f start fs w.0 in record {
      there = index_of f fs there.0;
      behind = there.1;
      first = λ g c le. w.1 g (counted g start fs le (among g fs c));
    }

-- where faults at all tokens count and none is kept, nothing was offered
pub none_kept : (fs : List Fault) → (offer_all (none_from 0) fs).kept ≡ None → fs ≡ []
none_kept [] h = refl
none_kept (f ∷ fs) h = absurd (none_kept_from 0 (f ∷ fs) f h (0, omega arith, refl) (omega arith))
