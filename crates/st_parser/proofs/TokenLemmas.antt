-- Facts on numbered tokens.
use Rattle.std.proofs.Common.{◌≡◌, ℕ, suc, List, [], ◌∷◌, length, refl, ap}
use Rattle.st_parser.specs.Names.{Token}
use Rattle.st_parser.specs.Grammar.Tokens.{numbered}

-- numbering keeps the count
pub length_numbered : (n : ℕ) (ts : List Token) → length (numbered n ts) ≡ length ts
length_numbered n [] = refl
length_numbered n (t ∷ ts) = ap suc (length_numbered (suc n) ts)
