-- Lemmas on the text of a change that is read byte by byte.
use Rattle.std.proofs.Common.{◌≡◌, ◌≢◌, ◌-◌, ℕ, false, List, [], ◌∷◌, ◌++◌, length, get_or, refl, ap, ◌∙◌, arith, append_assoc, length-append}
use Rattle.std.specs.Prelude.{◌==◌}
use Rattle.std.specs.Str.Lines.{strip_carriage_return}
use Rattle.std.proofs.Math.Seq.{get_or-append_seam, take-append_seam}
use Rattle.std.proofs.lemmas.Grind.{common_steps}
use Rattle.st_lines.specs.SourceTexts.{IsFront}
use Rattle.st_lines.specs.declared.source_text.Size.{Size}

-- bytes that begin with a text still do with more
pub front_more : (bytes more text : List ℕ) (size : Size) → IsFront bytes size text → IsFront (bytes ++ more) size text
front_more bytes more text size front = record {
  len = front.len;
  kept = λ kept short.
      let begin = front.kept kept short in
      (begin.0 ++ more, ap (λ xs. xs ++ more) begin.1 ∙ append_assoc text begin.0 more);
  lost = front.lost;
}

-- the last byte of a part
last_byte : (part : List ℕ) (byte : ℕ) → get_or (part ++ byte ∷ []) (length (part ++ byte ∷ []) - 1) 0 ≡ byte
last_byte part byte =
    let place : length (part ++ byte ∷ []) - 1 ≡ length part = omega (arith, length-append part (byte ∷ [])) in
    rw place (get_or-append_seam part byte [] 0)

-- a CR at the end is dropped
pub strip-cr : (part : List ℕ) → strip_carriage_return (part ++ 13 ∷ []) ≡ part
strip-cr part =
    let place : length (part ++ 13 ∷ []) - 1 ≡ length part = omega (arith, length-append part (13 ∷ [])) in
    rw (last_byte part 13, place) (take-append_seam part (13 ∷ []))

-- and another byte isn't
pub strip-other : (part : List ℕ) (byte : ℕ) → byte ≢ 13 → strip_carriage_return (part ++ byte ∷ []) ≡ part ++ byte ∷ []
strip-other part byte other =
    let is_other : (byte == 13) ≡ false = grind (arith, common_steps) in
    rw (last_byte part byte, is_other) refl
