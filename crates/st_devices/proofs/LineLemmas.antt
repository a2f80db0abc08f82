-- Lemmas on the lines of a text, and on a line that is taken by parts.
use Rattle.std.proofs.Common.{◌≡◌, ◌≢◌, ℕ, ◌<◌, Bool, true, false, List, [], ◌∷◌, ◌++◌, length, take, inl, inr, refl, ap, sym, ◌∙◌, arith, append-nil}
use Rattle.std.specs.Prelude.{nat_lt, ◌==◌}
use Rattle.std.specs.Str.Lines.{strip_carriage_return}
use Rattle.std.proofs.lemmas.Bool.{ltb-false}
use Rattle.std.proofs.lemmas.Grind.{common_steps}
use Rattle.std.proofs.lemmas.List.{take_all}
use Rattle.std.proofs.lemmas.List.Elements.{All-append}
use Rattle.std.proofs.lemmas.List.Splits.{length-slice_split, slice_split_at, slice_split_none}
use Rattle.st_devices.specs.Lines.{is_lf, parts_of, ended_line, last_line, lines_in, lines_of, whole_lines_in, whole_lines_of}
use Rattle.st_devices.specs.Pending.{NoLf, TakesFound}
use Rattle.st_devices.specs.declared.input.Found.{Found}
use Rattle.st_devices.specs.declared.input.Found.TheVariants as findings

parts_some : (bytes : List ℕ) → 0 < length (parts_of bytes)
parts_some bytes = omega (arith, length-slice_split is_lf bytes)

lines_in-cons : (part : List ℕ) (parts : List (List ℕ)) → 0 < length parts → lines_in (part ∷ parts) ≡ ended_line part ∷ lines_in parts
lines_in-cons part [] some = absurd (omega arith)
lines_in-cons part (next ∷ more) some = refl

whole_lines_in-cons : (part : List ℕ) (parts : List (List ℕ)) → 0 < length parts → whole_lines_in (part ∷ parts) ≡ ended_line part ∷ whole_lines_in parts
whole_lines_in-cons part [] some = absurd (omega arith)
whole_lines_in-cons part (next ∷ more) some = refl

-- the line before the first LF
pub lines_of-ended : (part rest : List ℕ) → NoLf part → lines_of (part ++ 10 ∷ rest) ≡ ended_line part ∷ lines_of rest
lines_of-ended part rest no_lf = rw (slice_split_at is_lf part 10 rest no_lf refl) (lines_in-cons part (parts_of rest) (parts_some rest))

pub whole_lines_of-ended : (part rest : List ℕ) → NoLf part → whole_lines_of (part ++ 10 ∷ rest) ≡ ended_line part ∷ whole_lines_of rest
whole_lines_of-ended part rest no_lf = rw (slice_split_at is_lf part 10 rest no_lf refl) (whole_lines_in-cons part (parts_of rest) (parts_some rest))

pub is_not_empty : (part : List ℕ) → 0 < length part → (length part == 0) ≡ false
is_not_empty part some = grind (arith, common_steps)

is_some : (part : List ℕ) → false ≡ (length part == 0) → 0 < length part
is_some part empty = grind (arith, common_steps)

lines_in-last : (part : List ℕ) → 0 < length part → lines_in (part ∷ []) ≡ last_line part ∷ []
lines_in-last part some = rw (is_not_empty part some) refl

-- the last line, without an LF
pub lines_of-last : (part : List ℕ) → NoLf part → 0 < length part → lines_of part ≡ last_line part ∷ []
lines_of-last part no_lf some = rw (slice_split_none is_lf part no_lf) (lines_in-last part some)

-- a part of a line is no whole line
pub whole_lines_of-part : (part : List ℕ) → NoLf part → whole_lines_of part ≡ []
whole_lines_of-part part no_lf = rw (slice_split_none is_lf part no_lf) refl

is_no_lf : (byte : ℕ) → byte ≢ 10 → is_lf byte ≡ false
is_no_lf byte other = grind (arith, common_steps)

pub NoLf-more : (part : List ℕ) (byte : ℕ) → NoLf part → byte ≢ 10 → NoLf (part ++ byte ∷ [])
NoLf-more part byte no_lf other =
    All-append (λ b. is_lf b ≡ false) part (byte ∷ []) no_lf (λ k d within. let first : k ≡ 0 = omega arith in rw first (is_no_lf byte other))

-- the line so far: of a line that is too long, only the first 4,096 bytes are kept
pub record LineSoFar (is_empty is_long : Bool) (line bytes rest : List ℕ) : Type 0 where
  pub part : List ℕ
  pub split : bytes ≡ part ++ rest
  pub no_lf : NoLf part
  pub kept : line ≡ take 4096 part
  pub empty : is_empty ≡ (length part == 0)
  pub long : is_long ≡ nat_lt 4096 (length part)

-- a line that is short enough was kept whole
kept_whole : (line part : List ℕ) → line ≡ take 4096 part → false ≡ nat_lt 4096 (length part) → line ≡ part
kept_whole line part kept short = kept ∙ take_all 4096 part (ltb-false 4096 (length part) (sym short))

-- an LF was taken
pub line_ended : (is_empty is_long at_end : Bool) (line bytes rest more text : List ℕ) (found : Found) → LineSoFar is_empty is_long line bytes rest → rest ≡ 10 ∷ more
    → (is_long ≡ true → found ≡ findings.TooLong) → (is_long ≡ false → (found ≡ findings.Line) × (text ≡ strip_carriage_return line))
    → TakesFound found at_end text bytes more
line_ended is_empty true at_end line bytes rest more text found so next long short =
    rw (long refl) (strip_carriage_return so.part, inl (record { part = so.part; split = so.split ∙ ap (λ xs. so.part ++ xs) next; no_lf = so.no_lf; is = rw (← so.long) refl }))
line_ended is_empty false at_end line bytes rest more text found so next long short =
    rw ((short refl).0) (inl (record {
      part = so.part;
      split = so.split ∙ ap (λ xs. so.part ++ xs) next;
      no_lf = so.no_lf;
      is = rw ((short refl).1, ← so.long, kept_whole line so.part so.kept so.long) refl;
    }))

-- the end was met, after some bytes
pub line_last : (is_empty is_long at_end : Bool) (line bytes rest more : List ℕ) (found : Found) → LineSoFar is_empty is_long line bytes rest → is_empty ≡ false → (rest ≡ []) × (more ≡ []) → at_end ≡ true
    → (is_long ≡ true → found ≡ findings.TooLong) → (is_long ≡ false → found ≡ findings.Line)
    → TakesFound found at_end line bytes more
line_last is_empty true at_end line bytes rest more found so bytes_read none ended long short =
    let whole : bytes ≡ so.part = so.split ∙ ap (λ xs. so.part ++ xs) none.0 ∙ append-nil so.part in
    rw (long refl) (bytes, inr (record { whole = none.1; no_lf = rw whole so.no_lf; some = rw whole (is_some so.part (sym bytes_read ∙ so.empty)); is = rw (whole, ← so.long) refl }, ended))
line_last is_empty false at_end line bytes rest more found so bytes_read none ended long short =
    let whole : bytes ≡ so.part = so.split ∙ ap (λ xs. so.part ++ xs) none.0 ∙ append-nil so.part in
    rw (short refl) (inr (record { whole = none.1; no_lf = rw whole so.no_lf; some = rw whole (is_some so.part (sym bytes_read ∙ so.empty)); is = rw (whole, ← so.long, kept_whole line so.part so.kept so.long) refl }, ended))
