-- What is said of causes, by the rows of tables.
use Rattle.std.specs.Prelude.{◌≡◌, ◌==◌, ℕ, List, [], ◌++◌, Some, codes, if◌then◌else◌, length, slice_get}
use Rattle.std.specs.List.{Contains}
use Rattle.std.specs.String.{string_bytes}
use Rattle.st_messages.specs.Drafts.{Becomes, Said, ended, said, with_text, with_line}
use Rattle.st_messages.specs.Rows.{filled}
use Rattle.st_messages.specs.declared.draft.Draft.{Draft}
use Rattle.st_messages.specs.declared.form.Words.{Words}
use Rattle.st_messages.specs.declared.saying.Saying.{Saying}

-- the row of this number says this, of whatever cause it is the row
abbrev pub SaysAt : {A : Type 0} → List (A × List ℕ × List ℕ) → ℕ → Saying → Type 0
SaysAt {A} rows number saying = (cause : A) × (slice_get rows number ≡ Some (cause, saying.title.now, saying.below.now))

-- the table has a row of this cause, which says this
abbrev pub Says : {A : Type 0} → List (A × List ℕ × List ℕ) → A → Saying → Type 0
Says rows cause saying = Contains rows (cause, saying.title.now, saying.below.now)

-- the line of a row, with these texts in its places, where it has one
abbrev pub with_below : Said → List (List ℕ) → List ℕ → Said
with_below s texts below = if length below == 0 then s else with_line s (codes "  " ++ filled texts below)

-- where there was memory for all, this was said behind what was there
abbrev pub Tells : Draft → Draft → Saying → List (List ℕ) → Type 0
Tells old new saying texts =
    Becomes old new (with_below (with_text (said old) (filled texts saying.title.now)) texts saying.below.now)

-- these are the words of a row with these texts in its places: its title, and its line, if it has one
pub record AreWords (heading line : List ℕ) (texts : List (List ℕ)) (words : Words) : Type 0 where
  pub title : string_bytes words.title ≡ filled texts heading
  pub below : string_bytes words.more ≡ (if length line == 0 then [] else ended (codes "  " ++ filled texts line))

abbrev pub AreWordsOf : Saying → List (List ℕ) → Words → Type 0
AreWordsOf saying texts words = AreWords saying.title.now saying.below.now texts words

-- these are the words of the row of this cause
abbrev pub AreWordsFor : {A : Type 0} → List (A × List ℕ × List ℕ) → A → List (List ℕ) → Words → Type 0
AreWordsFor rows cause texts words = (saying : Saying) × Says rows cause saying × AreWordsOf saying texts words

-- where there was memory for all, the row of this cause was said behind what was there
abbrev pub TellsFor : {A : Type 0} → List (A × List ℕ × List ℕ) → Draft → Draft → A → List (List ℕ) → Type 0
TellsFor rows old new cause texts = (saying : Saying) × Says rows cause saying × Tells old new saying texts
