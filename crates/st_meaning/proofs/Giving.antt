-- What gives something, and what doesn't stop.
use Rattle.std.proofs.Common.{◌≡◌, ℕ, zero, suc, ◌≤◌, ℤ, Bool, true, false, List, refl, arith, if◌then◌else◌}
use Rattle.st_tree.specs.declared.tree.declaration.Subrange.{Subrange}
use Rattle.st_meaning.specs.Meaning.{are_within, when_within}
use Rattle.st_meaning.specs.Operations.{Answer, gives, stops, then_with, answered_in, stop, with_step}
use Rattle.st_meaning.specs.declared.fault.RunFaultKind.TheVariants as faults

pub record Given {A B : Type 0} (answer : Answer A) (go : A → ℕ → Answer B) (y : B) (rest : ℕ) : Type 0 where
  pub value : A
  pub left : ℕ
  pub first : answer ≡ gives value left
  pub then' : go value left ≡ gives y rest

-- both steps give something
pub given_in : {A B : Type 0} (answer : Answer A) (go : A → ℕ → Answer B) (y : B) (rest : ℕ) → then_with answer go ≡ gives y rest → Given answer go y rest
given_in (gives x n) go y rest h = record { value = x; left = n; first = refl; then' = h }
given_in (stops f) go y rest h = cc

pub same_given : {A : Type 0} (x y : A) (m n : ℕ) → gives x m ≡ gives y n → x ≡ y
same_given x y m n h = cc

pub same_left : {A : Type 0} (x y : A) (m n : ℕ) → gives x m ≡ gives y n → m ≡ n
same_left x y m n h = cc

-- the subscripts lie within the bounds
pub within_given : {A : Type 0} (line : ℕ) (ranges : List Subrange) (is : List ℤ) (go : Answer A) (y : A) (rest : ℕ) → when_within line ranges is go ≡ gives y rest
    → (are_within ranges is ≡ true) × (go ≡ gives y rest)
within_given {A} line ranges is go y rest h = by (are_within ranges is) h where
  by : (b : Bool) → (if b then go else stops (stop faults.IndexOutOfRange line)) ≡ gives y rest → (b ≡ true) × (go ≡ gives y rest)
  by true h = (refl, h)
  by false h = cc

-- ---- calls

pub record Stepped {A : Type 0} (go : ℕ → Answer A) (left : ℕ) (y : A) (rest : ℕ) : Type 0 where
  pub behind : ℕ
  pub then' : go behind ≡ gives y rest
  pub steps : behind ≤ left

-- there was a step
pub stepped_in : {A : Type 0} (line left : ℕ) (go : ℕ → Answer A) (y : A) (rest : ℕ) → with_step line left go ≡ gives y rest → Stepped go left y rest
stepped_in line zero go y rest h = cc
stepped_in line (suc n) go y rest h = record { behind = n; then' = h; steps = omega arith }

-- what a unit gives, whichever it is
pub answered_given : {A : Type 0} (unit : ℕ) (answer : Answer A) (y : A) (rest : ℕ) → answered_in unit answer ≡ gives y rest → answer ≡ gives y rest
answered_given unit (gives x n) y rest h = h
answered_given unit (stops f) y rest h = cc
