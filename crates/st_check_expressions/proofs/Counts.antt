-- Arguments that are counted, and names that are looked up.
use Rattle.std.proofs.Common.{arith, ◌≡◌, ℕ, suc, ◌+◌, List, [], ◌∷◌, ◌++◌, ◌&&◌, ◌||◌, cond, not, length, map, refl, ap}
use Rattle.std.proofs.lemmas.List.Recursion.{is_count_by}
use Rattle.std.specs.List.{list_all, list_any}
use Rattle.std.specs.Option.{is_some}
use Rattle.std.specs.Prelude.{count_by}
use Rattle.st_values.specs.Words.{is_word}
use Rattle.st_tree.specs.declared.tree.expression.Argument.TheOpen.{Argument-F}
use Rattle.st_tree.specs.declared.tree.expression.Argument.{Argument, out-Argument}
use Rattle.st_tree.specs.declared.tree.expression.Call.{Call}
use Rattle.st_tree.specs.declared.tree.expression.Expression.{Expression}
use Rattle.st_tree.specs.declared.tree.expression.Operation.{Operation}
use Rattle.st_tree.specs.declared.tree.expression.Part.{Part}
use Rattle.st_tree.specs.declared.tree.expression.Variable.{Variable}
use Rattle.st_tree.specs.declared.tree.position.Identifier.{Identifier}
use Rattle.st_types.specs.Signatures.{Signature, input_number}
use Rattle.st_check_expressions.specs.Calls.{is_input_of}
use Rattle.st_check_expressions.specs.Known.{is_empty}
use Rattle.st_check_expressions.specs.Nodes.{positional_at, positional_of, positionals_of}

-- ---- arguments by position

one_more : (n : ℕ) → suc n ≡ 1 + n
one_more n = omega arith

counted : (w : Argument-F Argument Expression Part Call Operation Variable) (ys : List Expression) → length (positional_at w ++ ys) ≡ cond (not (is_empty (positional_at w))) (1 + length ys) (length ys)
counted (Argument-F.Positional x) ys = one_more (length ys)
counted (Argument-F.Input name x) ys = refl
counted (Argument-F.Output name v) ys = refl

pub length_positionals : (xs : List Argument) → length (positionals_of xs) ≡ count_by (λ x. not (is_empty (positional_of x))) xs
length_positionals xs =
    is_count_by (λ ys. length (positionals_of ys)) (λ x. not (is_empty (positional_of x))) refl
    (λ x ys. counted (out-Argument x) (positionals_of ys)) xs

-- ---- names of inputs

pub all_inputs : {A : Type 0} (k : A → Identifier) (f : Signature) (xs : List A) → list_all (is_input_of f) (map k xs) ≡ list_all (λ x. is_some (input_number f.inputs (k x).spelling)) xs
all_inputs k f [] = refl
all_inputs k f (x ∷ xs) = ap (λ b. is_some (input_number f.inputs (k x).spelling) && b) (all_inputs k f xs)

-- ---- variables that loops count

pub any_counted : {A : Type 0} (k : A → List ℕ) (name : List ℕ) (xs : List A) → list_any (is_word name) (map k xs) ≡ list_any (λ x. is_word name (k x)) xs
any_counted k name [] = refl
any_counted k name (x ∷ xs) = ap (λ b. is_word name (k x) || b) (any_counted k name xs)
