-- Words that are the same, ignoring case.
use Rattle.std.proofs.Common.{◌≡◌, ℕ, true, List, map, ◌∙◌}
use Rattle.std.specs.Char.{to_ascii_lowercase}
use Rattle.std.proofs.lemmas.Slice.Eq.{bytes_eq-Decides}
use Rattle.st_values.specs.Words.{is_word}
use Rattle.st_values.proofs.SameWords.{is_word_comm}
use Rattle.st_leaves.proofs.NamesOnce.{alike}

pub same_word : (a b : List ℕ) → is_word a b ≡ true → map to_ascii_lowercase b ≡ map to_ascii_lowercase a
same_word a b h = (bytes_eq-Decides (map to_ascii_lowercase b) (map to_ascii_lowercase a)).0 h

-- two that are the same as a third are the same
pub words_meet : (a b c : List ℕ) → is_word a c ≡ true → is_word b c ≡ true → is_word a b ≡ true
words_meet a b c h k = alike a c b h ∙ is_word_comm c b ∙ k
