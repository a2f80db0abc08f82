-- What is told of faults, one behind the other.
use Rattle.std.proofs.Common.{◌≡◌, ℕ, ◌+◌, ◌<◌, List, [], ◌∷◌, ◌++◌, length, get_or, take, refl, sym, subst}
use Rattle.std.proofs.lemmas.List.{take_more}
use Rattle.st_faults.specs.declared.fault.Fault.{Fault}
use Rattle.st_messages.specs.declared.lexeme.Lexeme.{Lexeme}
use Rattle.st_explain.specs.Messages.{AreTold, IsToldAt, more, none}

module _ (file text : List ℕ) (lexemes : List Lexeme) where
  pub told_push : (fs : List Fault) (f : Fault) (old mid new : List ℕ) → AreTold file text lexemes fs old mid → IsToldAt file text lexemes f mid new
      → AreTold file text lexemes (fs ++ f ∷ []) old new
  told_push [] f old mid new none h = more h none
  told_push (g ∷ fs) f old mid new (more {mid = between} k w) h = more k (told_push fs f between mid new w h)

  pub told_more : (fs : List Fault) (i : ℕ) (d : Fault) (old mid new : List ℕ) → i < length fs → AreTold file text lexemes (take i fs) old mid
      → IsToldAt file text lexemes (get_or fs i d) mid new → AreTold file text lexemes (take (i + 1) fs) old new
  told_more fs i d old mid new below w h =
      subst (λ xs. AreTold file text lexemes xs old new) (sym (take_more fs i d below)) (told_push (take i fs) (get_or fs i d) old mid new w h)

  told_none : (old new : List ℕ) → AreTold file text lexemes [] old new → old ≡ new
  told_none old new none = refl

  -- what is told of one alone
  pub told_alone : (f : Fault) (old new : List ℕ) → AreTold file text lexemes (f ∷ []) old new → IsToldAt file text lexemes f old new
  told_alone f old new (more {mid = mid} k w) = subst (λ m. IsToldAt file text lexemes f old m) (told_none mid new w) k
