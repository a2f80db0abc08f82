-- Lemmas on commands that are read line by line, and on the text of a change.
use Rattle.std.proofs.Common.{◌≡◌, ◌≢◌, ℕ, Bool, true, false, List, [], ◌∷◌, ◌++◌, inl, inr, refl, ap, sym, ◌∙◌, arith, append_assoc, append-nil}
use Rattle.std.specs.Prelude.{Option, Some, None, if◌then◌else◌}
use Rattle.std.specs.Option.{option_map_or}
use Rattle.st_devices.specs.Lines.{Line, ended_line, last_line, lines_of, whole_lines_of}
use Rattle.st_devices.specs.Pending.{NoLf, TakesLine, TakesPart}
use Rattle.st_layout.specs.declared.renames.Rename.{Rename}
use Rattle.st_lines.specs.Commands.{Asked, Change, TakesCommand, TakesPartOf, asked_from, asked_of, begun_on, change_with, ends_text, new_change, whole_asked_of, whole_from, with_line}
use Rattle.st_lines.specs.SourceTexts.{Holds, HoldsText, TakesLines}
use Rattle.st_lines.specs.declared.source_text.SourceText.{SourceText}
use Rattle.st_devices.proofs.LineLemmas.{NoLf-more, lines_of-ended, lines_of-last, whole_lines_of-ended, whole_lines_of-part}

-- ---- lines

-- the bytes of one line, with its LF where it has one
record FirstLine (at_end : Bool) (line : Line) (bytes rest : List ℕ) : Type 0 where
  read : List ℕ
  split : bytes ≡ read ++ rest
  lines : lines_of bytes ≡ line ∷ lines_of rest
  whole : at_end ≡ false → (more : List ℕ) → whole_lines_of (read ++ more) ≡ line ∷ whole_lines_of more

first_line : (at_end : Bool) (line : Line) (bytes rest : List ℕ) → TakesLine at_end line bytes rest → FirstLine at_end line bytes rest
first_line at_end line bytes rest (inl takes) =
    let parted : (more : List ℕ) → (takes.part ++ 10 ∷ []) ++ more ≡ takes.part ++ 10 ∷ more = λ more. append_assoc takes.part (10 ∷ []) more in
    record {
      read = takes.part ++ 10 ∷ [];
      split = takes.split ∙ sym (parted rest);
      lines = rw (takes.split, takes.is) (lines_of-ended takes.part rest takes.no_lf);
      whole = λ _ more. rw (parted more, takes.is) (whole_lines_of-ended takes.part more takes.no_lf);
    }
first_line at_end line bytes rest (inr takes) = record {
  read = bytes;
  split = sym (append-nil bytes) ∙ ap (λ xs. bytes ++ xs) (sym takes.0.whole);
  lines = rw (takes.0.whole, takes.0.is) (lines_of-last bytes takes.0.no_lf takes.0.some);
  whole = λ not_ended. let ended = takes.1 in cc (not_ended, ended);
}

-- what commands a line is, and begins
asked_from-one : (line : Line) (lines : List Line) → begun_on line ≡ None → asked_from None (line ∷ lines) ≡ Asked.one line ∷ asked_from None lines
asked_from-one line lines is = ap (λ (o : Option Change). option_map_or (λ begun. asked_from (Some begun) lines) o (Asked.one line ∷ asked_from None lines)) is

asked_from-begun : (line : Line) (lines : List Line) (begun : Change) → begun_on line ≡ Some begun → asked_from None (line ∷ lines) ≡ asked_from (Some begun) lines
asked_from-begun line lines begun is = ap (λ (o : Option Change). option_map_or (λ change. asked_from (Some change) lines) o (Asked.one line ∷ asked_from None lines)) is

whole_from-one : (line : Line) (lines : List Line) → begun_on line ≡ None → whole_from None (line ∷ lines) ≡ Asked.one line ∷ whole_from None lines
whole_from-one line lines is = ap (λ (o : Option Change). option_map_or (λ begun. whole_from (Some begun) lines) o (Asked.one line ∷ whole_from None lines)) is

whole_from-begun : (line : Line) (lines : List Line) (begun : Change) → begun_on line ≡ Some begun → whole_from None (line ∷ lines) ≡ whole_from (Some begun) lines
whole_from-begun line lines begun is = ap (λ (o : Option Change). option_map_or (λ change. whole_from (Some change) lines) o (Asked.one line ∷ whole_from None lines)) is

-- a line that is a command
pub TakesCommand-one : (was_end at_end : Bool) (line : Line) (bytes rest : List ℕ) → (at_end ≡ false → was_end ≡ false)
    → TakesLine was_end line bytes rest → begun_on line ≡ None → TakesCommand None (Asked.one line) at_end bytes rest
TakesCommand-one was_end at_end line bytes rest ended takes is =
    let first = first_line was_end line bytes rest takes in
    record {
      read = first.read;
      split = first.split;
      first = rw first.lines (asked_from-one line (lines_of rest) is);
      whole = λ not_ended more. rw (first.whole (ended not_ended) more) (whole_from-one line (whole_lines_of more) is);
    }

-- a line that begins a change, and then its text
pub TakesCommand-more : (was_end at_end : Bool) (line : Line) (begun : Change) (asked : Asked) (x y z : List ℕ) → (at_end ≡ false → was_end ≡ false)
    → TakesLine was_end line x y → begun_on line ≡ Some begun → TakesCommand (Some begun) asked at_end y z → TakesCommand None asked at_end x z
TakesCommand-more was_end at_end line begun asked x y z ended takes is next =
    let first = first_line was_end line x y takes in
    record {
      read = first.read ++ next.read;
      split = first.split ∙ ap (λ xs. first.read ++ xs) next.split ∙ sym (append_assoc first.read next.read z);
      first = rw first.lines (asked_from-begun line (lines_of y) begun is ∙ next.first);
      whole = λ not_ended more. rw (append_assoc first.read next.read more, first.whole (ended not_ended) (next.read ++ more))
          (whole_from-begun line (whole_lines_of (next.read ++ more)) begun is ∙ next.whole not_ended more);
    }

-- a part of a line
pub TakesPartOf-line : (bytes rest : List ℕ) → TakesPart bytes rest → TakesPartOf None bytes rest
TakesPartOf-line bytes rest part = record { read = part.0; split = part.1; none = rw (whole_lines_of-part part.0 part.2) refl }

-- a line that begins a change, and then a part of its text
pub TakesPartOf-more : (was_end : Bool) (line : Line) (begun : Change) (x y z : List ℕ) → was_end ≡ false → TakesLine was_end line x y → begun_on line ≡ Some begun
    → TakesPartOf (Some begun) y z → TakesPartOf None x z
TakesPartOf-more was_end line begun x y z not_ended takes is next =
    let first = first_line was_end line x y takes in
    record {
      read = first.read ++ next.read;
      split = first.split ∙ ap (λ xs. first.read ++ xs) next.split ∙ sym (append_assoc first.read next.read z);
      none = rw (first.whole not_ended next.read) (whole_from-begun line (whole_lines_of next.read) begun is ∙ next.none);
    }

-- ---- the text of a change

-- the text so far: whole lines, and a part of the next
pub record TextSoFar (renames : List Rename) (source : SourceText) (bytes rest : List ℕ) : Type 0 where
  pub text : List ℕ
  pub read : List ℕ
  pub part : List ℕ
  pub split : bytes ≡ read ++ (part ++ rest)
  pub no_lf : NoLf part
  pub holds : Holds source text part
  pub asked : asked_from (Some (new_change renames)) (lines_of bytes) ≡ asked_from (Some (change_with renames text)) (lines_of (part ++ rest))
  pub whole : (more : List ℕ) → whole_from (Some (new_change renames)) (whole_lines_of (read ++ more)) ≡ whole_from (Some (change_with renames text)) (whole_lines_of more)

-- another byte of a line
pub TextSoFar-byte : (renames : List Rename) (old new : SourceText) (byte : ℕ) (x y z : List ℕ) → TextSoFar renames old x y → y ≡ byte ∷ z → byte ≢ 10
    → ((text part : List ℕ) → Holds old text part → Holds new text (part ++ byte ∷ [])) → TextSoFar renames new x z
TextSoFar-byte renames old new byte x y z so next other takes =
    let parted : so.part ++ y ≡ (so.part ++ byte ∷ []) ++ z = ap (λ xs. so.part ++ xs) next ∙ sym (append_assoc so.part (byte ∷ []) z) in
    record {
      text = so.text;
      read = so.read;
      part = so.part ++ byte ∷ [];
      split = so.split ∙ ap (λ xs. so.read ++ xs) parted;
      no_lf = NoLf-more so.part byte so.no_lf other;
      holds = takes so.text so.part so.holds;
      asked = so.asked ∙ ap (λ xs. asked_from (Some (change_with renames so.text)) (lines_of xs)) parted;
      whole = so.whole;
    }

-- what a line does within a change
module _ {A : Type 0} where
  if_true : (test : Bool) (first second : A) → test ≡ true → (if test then first else second) ≡ first
  if_true test first second is = rw is refl

  if_false : (test : Bool) (first second : A) → test ≡ false → (if test then first else second) ≡ second
  if_false test first second is = rw is refl

-- the LF of a source line
pub TextSoFar-line : (renames : List Rename) (old new : SourceText) (x y z : List ℕ) (is_last : Bool) → TextSoFar renames old x y → y ≡ 10 ∷ z
    → ((text part : List ℕ) → Holds old text part → is_last ≡ ends_text (ended_line part)) → is_last ≡ false
    → ((text part : List ℕ) → Holds old text part → Holds new (text ++ (ended_line part).text ++ 10 ∷ []) []) → TextSoFar renames new x z
TextSoFar-line renames old new x y z is_last so next test goes_on takes =
    let begun = change_with renames so.text in
    let line = ended_line so.part in
    let is_source : ends_text line ≡ false = sym (test so.text so.part so.holds) ∙ goes_on in
    let parted : (more : List ℕ) → (so.part ++ 10 ∷ []) ++ more ≡ so.part ++ 10 ∷ more = λ more. append_assoc so.part (10 ∷ []) more in
    record {
      text = so.text ++ line.text ++ 10 ∷ [];
      read = so.read ++ (so.part ++ 10 ∷ []);
      part = [];
      split = so.split ∙ ap (λ xs. so.read ++ (so.part ++ xs)) next ∙ ap (λ xs. so.read ++ xs) (sym (parted z)) ∙ sym (append_assoc so.read (so.part ++ 10 ∷ []) z);
      no_lf = λ k d within. absurd (omega arith);
      holds = takes so.text so.part so.holds;
      asked = so.asked ∙ ap (λ xs. asked_from (Some begun) (lines_of (so.part ++ xs))) next ∙ ap (asked_from (Some begun)) (lines_of-ended so.part z so.no_lf)
          ∙ if_false (ends_text line) (Asked.change begun ∷ asked_of z) (asked_from (Some (with_line begun line)) (lines_of z)) is_source;
      whole = λ more. ap (λ xs. whole_from (Some (new_change renames)) (whole_lines_of xs)) (append_assoc so.read (so.part ++ 10 ∷ []) more)
          ∙ so.whole ((so.part ++ 10 ∷ []) ++ more) ∙ ap (λ xs. whole_from (Some begun) (whole_lines_of xs)) (parted more)
          ∙ ap (whole_from (Some begun)) (whole_lines_of-ended so.part more so.no_lf)
          ∙ if_false (ends_text line) (Asked.change begun ∷ whole_asked_of more) (whole_from (Some (with_line begun line)) (whole_lines_of more)) is_source;
    }

-- the LF of the line that ends the text
pub TakesLines-line : (renames : List Rename) (old new : SourceText) (at_end : Bool) (x y z : List ℕ) (is_last : Bool) → TextSoFar renames old x y → y ≡ 10 ∷ z
    → ((text part : List ℕ) → Holds old text part → is_last ≡ ends_text (ended_line part)) → is_last ≡ true
    → ((text part : List ℕ) → Holds old text part → HoldsText new text) → TakesLines renames true at_end new x z
TakesLines-line renames old new at_end x y z is_last so next test ends takes =
    let begun = change_with renames so.text in
    let line = ended_line so.part in
    let is_end : ends_text line ≡ true = sym (test so.text so.part so.holds) ∙ ends in
    let parted : (more : List ℕ) → (so.part ++ 10 ∷ []) ++ more ≡ so.part ++ 10 ∷ more = λ more. append_assoc so.part (10 ∷ []) more in
    let taken : TakesCommand (Some (new_change renames)) (Asked.change begun) at_end x z = record {
      read = so.read ++ (so.part ++ 10 ∷ []);
      split = so.split ∙ ap (λ xs. so.read ++ (so.part ++ xs)) next ∙ ap (λ xs. so.read ++ xs) (sym (parted z)) ∙ sym (append_assoc so.read (so.part ++ 10 ∷ []) z);
      first = so.asked ∙ ap (λ xs. asked_from (Some begun) (lines_of (so.part ++ xs))) next ∙ ap (asked_from (Some begun)) (lines_of-ended so.part z so.no_lf)
          ∙ if_true (ends_text line) (Asked.change begun ∷ asked_of z) (asked_from (Some (with_line begun line)) (lines_of z)) is_end;
      whole = λ _ more. ap (λ xs. whole_from (Some (new_change renames)) (whole_lines_of xs)) (append_assoc so.read (so.part ++ 10 ∷ []) more)
          ∙ so.whole ((so.part ++ 10 ∷ []) ++ more) ∙ ap (λ xs. whole_from (Some begun) (whole_lines_of xs)) (parted more)
          ∙ ap (whole_from (Some begun)) (whole_lines_of-ended so.part more so.no_lf)
          ∙ if_true (ends_text line) (Asked.change begun ∷ whole_asked_of more) (whole_from (Some (with_line begun line)) (whole_lines_of more)) is_end;
    } in
    (so.text, taken, takes so.text so.part so.holds)

-- the commands of a last part, within a change
last_ends : (begun : Change) (part : List ℕ) → NoLf part → ends_text (last_line part) ≡ true → asked_from (Some begun) (lines_of part) ≡ Asked.change begun ∷ []
last_ends begun [] no_lf ends = cc ends
last_ends begun (byte ∷ part) no_lf ends = rw (lines_of-last (byte ∷ part) no_lf (omega arith))
    (if_true (ends_text (last_line (byte ∷ part))) (Asked.change begun ∷ []) (Asked.unended ∷ []) ends)

last_goes_on : (begun : Change) (part : List ℕ) → NoLf part → ends_text (last_line part) ≡ false → asked_from (Some begun) (lines_of part) ≡ Asked.unended ∷ []
last_goes_on begun [] no_lf goes_on = refl
last_goes_on begun (byte ∷ part) no_lf goes_on = rw (lines_of-last (byte ∷ part) no_lf (omega arith))
    (if_false (ends_text (last_line (byte ∷ part))) (Asked.change begun ∷ []) (Asked.unended ∷ []) goes_on)

-- the end of the input
pub TakesLines-end : (renames : List Rename) (old new : SourceText) (at_end : Bool) (x y z : List ℕ) (is_last : Bool) → TextSoFar renames old x y → (y ≡ []) × (z ≡ []) → at_end ≡ true
    → ((text part : List ℕ) → Holds old text part → is_last ≡ ends_text (last_line part))
    → (is_last ≡ true → (text part : List ℕ) → Holds old text part → HoldsText new text) → TakesLines renames is_last at_end new x z
TakesLines-end renames old new at_end x y z true so none ended test takes =
    let begun = change_with renames so.text in
    let rest : so.part ++ y ≡ so.part = ap (λ xs. so.part ++ xs) none.0 ∙ append-nil so.part in
    let taken : TakesCommand (Some (new_change renames)) (Asked.change begun) at_end x z = record {
      read = x;
      split = sym (append-nil x) ∙ ap (λ xs. x ++ xs) (sym none.1);
      first = rw none.1 (so.asked ∙ ap (λ xs. asked_from (Some begun) (lines_of xs)) rest ∙ last_ends begun so.part so.no_lf (sym (test so.text so.part so.holds)));
      whole = λ not_ended. cc (not_ended, ended);
    } in
    (so.text, taken, takes refl so.text so.part so.holds)
TakesLines-end renames old new at_end x y z false so none ended test takes =
    let begun = change_with renames so.text in
    let rest : so.part ++ y ≡ so.part = ap (λ xs. so.part ++ xs) none.0 ∙ append-nil so.part in
    record {
      read = x;
      split = sym (append-nil x) ∙ ap (λ xs. x ++ xs) (sym none.1);
      first = rw none.1 (so.asked ∙ ap (λ xs. asked_from (Some begun) (lines_of xs)) rest ∙ last_goes_on begun so.part so.no_lf (sym (test so.text so.part so.holds)));
      whole = λ not_ended. cc (not_ended, ended);
    }

-- the source failed within the text
pub TakesPartOf-text : (renames : List Rename) (source : SourceText) (x y z : List ℕ) → TextSoFar renames source x y → y ≡ z → TakesPartOf (Some (new_change renames)) x z
TakesPartOf-text renames source x y z so same = record {
  read = so.read ++ so.part;
  split = so.split ∙ ap (λ xs. so.read ++ (so.part ++ xs)) same ∙ sym (append_assoc so.read so.part z);
  none = so.whole so.part ∙ ap (whole_from (Some (change_with renames so.text))) (whole_lines_of-part so.part so.no_lf);
}
