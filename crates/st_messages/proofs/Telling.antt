-- What a draft says, step by step.
use Rattle.std.proofs.Common.{◌≡◌, ◌∙◌, ℕ, List, [], ◌∷◌, ◌++◌, length, map, ◌<◌, refl, sym, ap, subst, append_assoc, arith, true, false, Some}
use Rattle.std.specs.Prelude.{◌==◌, codes, if◌then◌else◌, slice_get, option_map, IfOk, Ok, Err, Result}
use Rattle.std.proofs.lemmas.Option.{slice_get_within, slice_get-get_or, slice_get-map}
use Rattle.std.specs.String.{string_bytes}
use Rattle.st_tokens.proofs.Cases.{by_test, is_equal}
use Rattle.st_messages.specs.Drafts.{Adds, Becomes, Said, ended, said, with_line, with_text}
use Rattle.st_messages.specs.Rows.{filled}
use Rattle.st_messages.specs.Sayings.{AreWordsFor, AreWordsOf, Says, SaysAt, Tells, with_below}
use Rattle.st_messages.specs.declared.draft.Draft.{Draft}
use Rattle.st_messages.specs.declared.form.Words.{Words}
use Rattle.st_messages.specs.declared.saying.Saying.{Saying}

abbrev made : List ℕ → List ℕ → Said
made title more = record { title = title; more = more }

-- what has an element isn't empty
not_empty : (x : ℕ) (xs : List ℕ) → (length (x ∷ xs) == 0) ≡ false
not_empty x xs = by_test (length (x ∷ xs) == 0) (λ t. absurd (let e : length (x ∷ xs) ≡ 0 = is_equal (length (x ∷ xs)) 0 t in omega (arith, e))) (λ t. t)

-- nor is what has one behind others
not_empty_behind : (xs : List ℕ) (y : ℕ) (ys : List ℕ) → (length (xs ++ (y ∷ ys)) == 0) ≡ false
not_empty_behind [] y ys = not_empty y ys
not_empty_behind (x ∷ xs) y ys = not_empty x (xs ++ (y ∷ ys))

-- a text behind a line that was begun is a part of it
line_of_two : (s : Said) (text : List ℕ) → with_text (with_line s (codes "  ")) text ≡ with_line s (codes "  " ++ text)
line_of_two s text =
    let e = not_empty_behind (ended s.more) 32 (codes " ") in
    rw e (ap (λ m. made s.title m) (append_assoc (ended s.more) (codes "  ") text))

-- a title, and a line below
pub told_below : (old mid line new : Draft) (title text : List ℕ) → Adds old mid title
    → Becomes mid line (with_line (said mid) (codes "  ")) → Adds line new text
    → Becomes old new (with_line (with_text (said old) title) (codes "  " ++ text))
told_below old mid line new title text h k n f = (
  (h (k (n f).0).0).0,
  (n f).1 ∙ ap (λ s. with_text s text) (k (n f).0).1 ∙ line_of_two (said mid) text ∙ ap (λ s. with_line s (codes "  " ++ text)) (h (k (n f).0).0).1,
)

from_nothing : (draft : Draft) (title : List ℕ) → string_bytes draft.title ≡ [] → string_bytes draft.more ≡ []
    → with_text (said draft) title ≡ made title []
from_nothing draft title e h = ap (λ t. with_text (made t (string_bytes draft.more)) title) e ∙ ap (λ m. with_text (made [] m) title) h

-- the line of a row below a title
line_below : (texts : List (List ℕ)) (title below : List ℕ)
    → ended (with_below (made title []) texts below).more ≡ (if length below == 0 then [] else ended (codes "  " ++ filled texts below))
line_below texts title below = by_test (length below == 0) (λ e. rw e refl) (λ e. rw e refl)

title_above : (texts : List (List ℕ)) (title below : List ℕ) → (with_below (made title []) texts below).title ≡ title
title_above texts title below = by_test (length below == 0) (λ e. rw e refl) (λ e. rw e refl)

-- what was said of a row, and nothing before, are its words
pub are_words : (saying : Saying) (texts : List (List ℕ)) (first last : Draft) (words : Words)
    → string_bytes first.title ≡ [] → string_bytes first.more ≡ [] → Tells first last saying texts → last.failed ≡ false
    → string_bytes words.title ≡ string_bytes last.title → string_bytes words.more ≡ ended (string_bytes last.more) → AreWordsOf saying texts words
are_words saying texts first last words e h t f title more =
    let text = filled texts saying.title.now in
    let all : said last ≡ with_below (made text []) texts saying.below.now =
    (t f).1 ∙ ap (λ s. with_below s texts saying.below.now) (from_nothing first text e h) in
    record {
      title = title ∙ ap (λ (s : Said). s.title) all ∙ title_above texts text saying.below.now;
      below = more ∙ ap (λ (s : Said). ended s.more) all ∙ line_below texts text saying.below.now;
    }

some_same : {B : Type 0} {a b : B} → Some a ≡ Some b → a ≡ b
some_same e = cc

-- where a cause has this number among those of a table, what the row of the number says is said of the cause
pub row_listed : {A : Type 0} (rows : List (A × List ℕ × List ℕ)) (number : ℕ) (cause : A) (saying : Saying)
    → slice_get (map (λ row. row.0) rows) number ≡ Some cause → SaysAt rows number saying → Says rows cause saying
row_listed {A} rows number cause saying own at =
    let same : at.0 ≡ cause = some_same (sym (ap (option_map (λ (row : A × List ℕ × List ℕ). row.0)) at.1) ∙ sym (slice_get-map (λ (row : A × List ℕ × List ℕ). row.0) rows number) ∙ own) in
    let row : A × List ℕ × List ℕ = (cause, saying.title.now, saying.below.now) in
    let is : slice_get rows number ≡ Some row =
    subst (λ c. slice_get rows number ≡ Some (c, saying.title.now, saying.below.now)) same at.1 in
    let within : number < length rows = slice_get_within rows number row is in
    (number, within, some_same (sym (slice_get-get_or rows number row within) ∙ is))

-- the words of the row of a cause are said of it
pub words_said : {A E : Type 0} (rows : List (A × List ℕ × List ℕ)) (cause : A) (saying : Saying) (texts : List (List ℕ)) (r : Result Words E)
    → Says rows cause saying → IfOk r (AreWordsOf saying texts) → IfOk r (AreWordsFor rows cause texts)
words_said rows cause saying texts (Ok words) h k = (saying, h, k)
words_said rows cause saying texts (Err e) h k = tt
