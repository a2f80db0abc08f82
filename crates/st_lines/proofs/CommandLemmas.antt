-- Lemmas on the commands of lines.
use Rattle.std.proofs.Common.{◌≡◌, Bool, true, false, List, [], ◌∷◌, ◌++◌, refl, ap}
use Rattle.std.specs.Prelude.{Option, Some, None, if◌then◌else◌}
use Rattle.std.specs.Option.{option_map_or}
use Rattle.st_lines.specs.Commands.{Asked, AskedInParts, Change, EndsWhole, WholeInParts, asked_from, begun_on, end_from, ends_text, whole_from, with_line}
use Rattle.st_lines.specs.Commands.Asked.{change, one}

-- a fact of both outcomes of a test
by_test : (P : Bool → Type 0) (b : Bool) → P true → P false → P b
by_test P true on_true on_false = on_true
by_test P false on_true on_false = on_false

-- a fact of a line that begins a change, and of one that doesn't
by_beginning : (P : Option Change → Type 0) (o : Option Change) → ((begun : Change) → P (Some begun)) → P None → P o
by_beginning P None some none = none
by_beginning P (Some begun) some none = some begun

pub asked_in_parts : AskedInParts
asked_in_parts None [] more = refl
asked_in_parts (Some begun) [] more = refl
asked_in_parts None (line ∷ lines) more =
    by_beginning (λ o. option_map_or (λ begun. asked_from (Some begun) (lines ++ more)) o (one line ∷ asked_from None (lines ++ more))
    ≡ option_map_or (λ begun. whole_from (Some begun) lines) o (one line ∷ whole_from None lines)
    ++ asked_from (option_map_or (λ begun. end_from (Some begun) lines) o (end_from None lines)) more) (begun_on line)
    (λ begun. asked_in_parts (Some begun) lines more)
    (ap (λ (rest : List Asked). one line ∷ rest) (asked_in_parts None lines more))
asked_in_parts (Some begun) (line ∷ lines) more =
    by_test (λ b. (if b then change begun ∷ asked_from None (lines ++ more) else asked_from (Some (with_line begun line)) (lines ++ more))
    ≡ (if b then change begun ∷ whole_from None lines else whole_from (Some (with_line begun line)) lines)
    ++ asked_from (if b then end_from None lines else end_from (Some (with_line begun line)) lines) more) (ends_text line)
    (ap (λ (rest : List Asked). change begun ∷ rest) (asked_in_parts None lines more))
    (asked_in_parts (Some (with_line begun line)) lines more)

pub whole_in_parts : WholeInParts
whole_in_parts None [] more = refl
whole_in_parts (Some begun) [] more = refl
whole_in_parts None (line ∷ lines) more =
    by_beginning (λ o. option_map_or (λ begun. whole_from (Some begun) (lines ++ more)) o (one line ∷ whole_from None (lines ++ more))
    ≡ option_map_or (λ begun. whole_from (Some begun) lines) o (one line ∷ whole_from None lines)
    ++ whole_from (option_map_or (λ begun. end_from (Some begun) lines) o (end_from None lines)) more) (begun_on line)
    (λ begun. whole_in_parts (Some begun) lines more)
    (ap (λ (rest : List Asked). one line ∷ rest) (whole_in_parts None lines more))
whole_in_parts (Some begun) (line ∷ lines) more =
    by_test (λ b. (if b then change begun ∷ whole_from None (lines ++ more) else whole_from (Some (with_line begun line)) (lines ++ more))
    ≡ (if b then change begun ∷ whole_from None lines else whole_from (Some (with_line begun line)) lines)
    ++ whole_from (if b then end_from None lines else end_from (Some (with_line begun line)) lines) more) (ends_text line)
    (ap (λ (rest : List Asked). change begun ∷ rest) (whole_in_parts None lines more))
    (whole_in_parts (Some (with_line begun line)) lines more)

pub ends_whole : EndsWhole
ends_whole None [] ended = refl
ends_whole (Some begun) [] ended = cc
ends_whole None (line ∷ lines) ended =
    by_beginning (λ o. option_map_or (λ begun. end_from (Some begun) lines) o (end_from None lines) ≡ None
    → option_map_or (λ begun. asked_from (Some begun) lines) o (one line ∷ asked_from None lines)
    ≡ option_map_or (λ begun. whole_from (Some begun) lines) o (one line ∷ whole_from None lines)) (begun_on line)
    (λ begun. ends_whole (Some begun) lines)
    (λ is. ap (λ (rest : List Asked). one line ∷ rest) (ends_whole None lines is)) ended
ends_whole (Some begun) (line ∷ lines) ended =
    by_test (λ b. (if b then end_from None lines else end_from (Some (with_line begun line)) lines) ≡ None
    → (if b then change begun ∷ asked_from None lines else asked_from (Some (with_line begun line)) lines)
    ≡ (if b then change begun ∷ whole_from None lines else whole_from (Some (with_line begun line)) lines)) (ends_text line)
    (λ is. ap (λ (rest : List Asked). change begun ∷ rest) (ends_whole None lines is))
    (ends_whole (Some (with_line begun line)) lines) ended
