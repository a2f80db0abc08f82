-- Code that is emitted before code that is there.
use Rattle.std.proofs.Common.{◌≡◌, ◌+◌, List, ◌++◌, length, reverse, sym, ap, ◌∙◌, arith, append_assoc, length-append}
use Rattle.std.proofs.lemmas.List.{reverse-append, length-reverse}
use Rattle.st_code.specs.Code.{Line}

pub before_code : (base mid new a b : List Line) → mid ≡ base ++ reverse a → new ≡ mid ++ reverse b → new ≡ base ++ reverse (b ++ a)
before_code base mid new a b e f = f ∙ ap (λ m. m ++ reverse b) e ∙ append_assoc base (reverse a) (reverse b) ∙ ap (λ r. base ++ r) (sym (reverse-append b a))

-- how long it is then
pub grown : (base new a : List Line) → new ≡ base ++ reverse a → length new ≡ length base + length a
grown base new a e = omega (arith, ap length e, length-append base (reverse a), length-reverse a)
