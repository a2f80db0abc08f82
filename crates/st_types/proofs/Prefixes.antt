-- Words that are made of two parts.
use Rattle.std.proofs.Common.{◌≡◌, ℕ, eqb, false, List, [], ◌∷◌, ◌++◌, Some, None, refl, sym, ◌∙◌, ap}
use Rattle.std.specs.Char.{to_ascii_lowercase}
use Rattle.std.specs.Option.{option_and_then, option_map_or}
use Rattle.st_values.specs.Words.{is_word}
use Rattle.st_types.specs.Parts.{rest_after}
use Rattle.st_types.proofs.Cases.{by_test}

-- what stands after a word of two parts stands after the second
pub rest_after-append : (a b text : List ℕ) → option_and_then (rest_after b) (rest_after a text) ≡ rest_after (a ++ b) text
rest_after-append [] b text = refl
rest_after-append (x ∷ a) b [] = refl
rest_after-append (x ∷ a) b (y ∷ text) = by_test (eqb (to_ascii_lowercase y) (to_ascii_lowercase x)) (λ t. rw t (rest_after-append a b text)) (λ t. rw t refl)

-- a text is a word of two parts where what stands after the first is the second
pub is_word-append : (a b text : List ℕ) → is_word (a ++ b) text ≡ option_map_or (is_word b) (rest_after a text) false
is_word-append [] b text = refl
is_word-append (x ∷ a) b [] = refl
is_word-append (x ∷ a) b (y ∷ text) = by_test (eqb (to_ascii_lowercase y) (to_ascii_lowercase x)) (λ t. rw t (is_word-append a b text)) (λ t. rw t refl)

pub rest_after-None : (a b text : List ℕ) → rest_after a text ≡ None → None ≡ rest_after (a ++ b) text
rest_after-None a b text none = sym (ap (option_and_then (rest_after b)) none) ∙ rest_after-append a b text

pub rest_after-Some : (a b text rest : List ℕ) → rest_after a text ≡ Some rest → rest_after b rest ≡ rest_after (a ++ b) text
rest_after-Some a b text rest some = sym (ap (option_and_then (rest_after b)) some) ∙ rest_after-append a b text
