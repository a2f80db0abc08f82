-- What is read as the text of a change.
use Rattle.std.specs.Prelude.{ℕ, ◌≡◌, ◌≤◌, ◌<◌, ◌^◌, Bool, List, length, Some}
use Rattle.st_layout.specs.declared.renames.Rename.{Rename}
use Rattle.st_lines.specs.Commands.{Asked, TakesCommand, change_with, new_change}
use Rattle.st_lines.specs.declared.change_text.ChangeText.{ChangeText}
use Rattle.st_lines.specs.declared.change_text.ChangeText.TheVariants.{Whole, TooLong, Memory, Unended}

-- a text that was ended was read so: its bytes are there, or it is too long, or there was no memory for it, which an empty text doesn't want
abbrev pub IsKept : ChangeText → List ℕ → Type 0
IsKept (Whole bytes) text = (bytes.items ≡ text) × (length text ≤ 2 ^ 20)
IsKept TooLong text = 2 ^ 20 < length text
IsKept Memory text = (0 < length text) × (length text ≤ 2 ^ 20)
IsKept Unended text = ⊥

-- a change was taken whose text was ended, and its text was read so
abbrev pub TakesEnded : List Rename → ChangeText → Bool → List ℕ → List ℕ → Type 0
TakesEnded renames read at_end bytes rest =
    (text : List ℕ) × TakesCommand (Some (new_change renames)) (Asked.change (change_with renames text)) at_end bytes rest × IsKept read text

-- the text of a change was taken, with the line that ends it, or the input ended before
abbrev pub TakesText : List Rename → ChangeText → Bool → List ℕ → List ℕ → Type 0
TakesText renames Unended at_end bytes rest = TakesCommand (Some (new_change renames)) Asked.unended at_end bytes rest
TakesText renames read at_end bytes rest = TakesEnded renames read at_end bytes rest
