-- Lemmas on what was read as the text of a change.
use Rattle.std.proofs.Common.{◌≡◌, ℕ, Bool, List, subst}
use Rattle.std.specs.Prelude.{Option, Some}
use Rattle.st_devices.specs.Pending.{OnReading}
use Rattle.st_layout.specs.declared.renames.Rename.{Rename}
use Rattle.st_lines.specs.ChangeTexts.{IsKept, TakesText}
use Rattle.st_lines.specs.Commands.{Asked, TakesCommand, change_with, new_change}
use Rattle.st_lines.specs.SourceTexts.{TakesLines}
use Rattle.st_lines.specs.declared.change_text.ChangeText.{ChangeText}
use Rattle.st_lines.specs.declared.change_text.ChangeText.TheVariants.{Whole, TooLong, Memory, Unended}
use Rattle.st_lines.specs.declared.source_text.SourceText.{SourceText}

-- the text was ended
pub TakesText-ended : (renames : List Rename) (read : ChangeText) (at_end : Bool) (x y text : List ℕ)
    → TakesCommand (Some (new_change renames)) (Asked.change (change_with renames text)) at_end x y → IsKept read text → TakesText renames read at_end x y
TakesText-ended renames (Whole bytes) at_end x y text takes kept = (text, takes, kept)
TakesText-ended renames TooLong at_end x y text takes kept = (text, takes, kept)
TakesText-ended renames Memory at_end x y text takes kept = (text, takes, kept)
TakesText-ended renames Unended at_end x y text takes kept = absurd kept

-- the same facts of equal answers
pub TakesLines-same : (renames : List Rename) (o p at_end : Bool) (a b : Option (List ℕ)) (source : SourceText) → OnReading a b (TakesLines renames o at_end source) → o ≡ p
    → OnReading a b (TakesLines renames p at_end source)
TakesLines-same renames o p at_end a b source takes same = subst (λ (q : Bool). OnReading a b (TakesLines renames q at_end source)) same takes

pub TakesText-same : (renames : List Rename) (o p : ChangeText) (at_end : Bool) (a b : Option (List ℕ)) → OnReading a b (TakesText renames o at_end) → o ≡ p
    → OnReading a b (TakesText renames p at_end)
TakesText-same renames o p at_end a b takes same = subst (λ (q : ChangeText). OnReading a b (TakesText renames q at_end)) same takes
