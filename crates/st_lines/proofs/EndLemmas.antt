-- Lemmas on the line that ends the text of a change.
use Rattle.std.proofs.Common.{◌≡◌, ℕ, zero, suc, List, [], ◌++◌, take, refl, ap, sym, ◌∙◌, arith}
use Rattle.std.specs.Prelude.{nat_le}
use Rattle.std.proofs.lemmas.Bool.{le-leb}
use Rattle.std.proofs.lemmas.List.{take_all}
use Rattle.st_devices.specs.Words.{words_of}
use Rattle.st_lines.specs.Commands.{is_end}
use Rattle.st_lines.specs.SourceTexts.{end_word}

-- a line that has only bytes of `end_change` so far ends the text if it has all ten
pub is_end_front : (count : ℕ) → nat_le 10 count ≡ is_end (words_of (take count end_word ++ []))
is_end_front zero = refl
is_end_front (suc zero) = refl
is_end_front (suc (suc zero)) = refl
is_end_front (suc (suc (suc zero))) = refl
is_end_front (suc (suc (suc (suc zero)))) = refl
is_end_front (suc (suc (suc (suc (suc zero))))) = refl
is_end_front (suc (suc (suc (suc (suc (suc zero)))))) = refl
is_end_front (suc (suc (suc (suc (suc (suc (suc zero))))))) = refl
is_end_front (suc (suc (suc (suc (suc (suc (suc (suc zero)))))))) = refl
is_end_front (suc (suc (suc (suc (suc (suc (suc (suc (suc zero))))))))) = refl
is_end_front (suc (suc (suc (suc (suc (suc (suc (suc (suc (suc count)))))))))) =
    le-leb 10 (suc (suc (suc (suc (suc (suc (suc (suc (suc (suc count)))))))))) (omega arith) ∙ ap (λ (xs : List ℕ). is_end (words_of (xs ++ []))) (sym (take_all (suc (suc (suc (suc (suc (suc (suc (suc (suc (suc count)))))))))) end_word (omega arith)))
