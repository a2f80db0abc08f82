-- Proofs by cases.
use Rattle.std.proofs.Common.{◌≡◌, Bool, true, false, refl}

-- by what a test gives
pub by_test : {P : Type 0} (b : Bool) → (b ≡ true → P) → (b ≡ false → P) → P
by_test true h k = h refl
by_test false h k = k refl
