-- Causes of which none holds.
use Rattle.std.proofs.Common.{◌≡◌, Bool, true, false, List, [], ◌∷◌, refl}
use Rattle.std.specs.Prelude.{Err, Ok, cond}
use Rattle.st_control.specs.Machine.{Cause, unless}

-- what isn't refused is the result
pub unless_gives : {A : Type 0} (causes : List Cause) (result other : A) → unless causes result ≡ Ok other → result ≡ other
unless_gives [] result other h = cc
unless_gives (cause ∷ causes) result other h =
    elim cause.1 as (λ b. cond b (Err cause.0) (unless causes result) ≡ Ok other → result ≡ other)
    [ true ↦ λ refused. cc | false ↦ λ passes. unless_gives causes result other passes ] h

-- no cause holds
abbrev pub NoneHolds : List Cause → Type 0
NoneHolds [] = Unit {0}
NoneHolds (cause ∷ causes) = (cause.1 ≡ false) × NoneHolds causes

-- what isn't refused has no cause
pub unless_allows : {A : Type 0} (causes : List Cause) (result other : A) → unless causes result ≡ Ok other → NoneHolds causes
unless_allows [] result other h = tt
unless_allows (cause ∷ causes) result other h = by cause.1 refl h (unless_allows causes result other) where
  by : (b : Bool) → cause.1 ≡ b → cond b (Err cause.0) (unless causes result) ≡ Ok other → (unless causes result ≡ Ok other → NoneHolds causes) → NoneHolds (cause ∷ causes)
  by true is refused later = absurd (cc)
  by false is passes later = (is, later passes)
