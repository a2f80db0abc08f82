-- The status with which the program ends.
use Rattle.std.specs.Prelude.{◌≡◌, ◌≢◌, ◌⊎◌, ℕ, List, [], ◌∷◌}
use Rattle.std.specs.declared.io.ErrorKind.{ErrorKind as IoErrorKind}
use Rattle.std.specs.declared.io.ErrorKind.TheVariants as io_error_kinds
use Rattle.clap.specs.Words.{IsAmong, Kinds, Text}
use Rattle.clap.specs.declared.error.kind.ErrorKind.{ErrorKind}
use Rattle.clap.specs.declared.error.kind.ErrorKind.TheVariants as error_kinds
use Rattle.st_session.specs.Loads.{OfLoad}
use Rattle.st_session.specs.Texts.{OfCheck}
use Rattle.st_session.specs.Checks.{check_status}
use Rattle.st_session.specs.Layouts.{OfLayout, layout_status}
use Rattle.st_session.specs.Runs.{HasStatus}
use Rattle.st_session.specs.Statuses.{device_failed, no_memory}
use Rattle.st_words.specs.Words.{AreInOrder, HasLimit, IsOrder, chosen_by, faults_of, limit_of}
use Rattle.st_words.specs.declared.words.Order.{Order}
use Rattle.st_words.specs.declared.words.Verb.TheVariants.{Check, Layout, Run}

-- the words are at fault
abbrev pub usage : ℕ
usage = 2

-- 0 where help or the version was asked for; or what the user is to read couldn't be written
abbrev pub EndsBy : ErrorKind → ℕ → Type 0
EndsBy error_kinds.OutOfMemory status = status ≡ no_memory
EndsBy error_kinds.DisplayHelp status = (status ≡ 0) ⊎ (status ≡ device_failed)
EndsBy error_kinds.DisplayVersion status = (status ≡ 0) ⊎ (status ≡ device_failed)
EndsBy other status = (status ≡ usage) ⊎ (status ≡ device_failed)

-- memory ran out, or the status is that of one of the faults
abbrev pub EndsByOneOf : Kinds → ℕ → Type 0
EndsByOneOf faults status = (status ≡ no_memory) ⊎ ((fault : ErrorKind) × IsAmong fault faults × EndsBy fault status)

-- the text is checked as the program of this name, and the status is that of the answer
abbrev pub EndsAsChecked : List ℕ → List ℕ → ℕ → Type 0
EndsAsChecked text main status = OfCheck text main (λ checked. status ≡ check_status checked)

-- the text is laid out as the program of this name, and the status is that of the answer
abbrev pub EndsAsLaidOut : List ℕ → List ℕ → ℕ → Type 0
EndsAsLaidOut text main status = OfLayout text main (λ laid. status ≡ layout_status laid)

-- the text is loaded under this name and limit, and of the commands of some bytes the status is theirs
abbrev pub EndsAsLoaded : List ℕ → List ℕ → ℕ → ℕ → Type 0
EndsAsLoaded text main limit status = OfLoad text main limit (λ loaded. (bytes : List ℕ) × HasStatus bytes status loaded)

-- unless memory ran out or a device failed, this text is checked, laid out or loaded as is ordered, and the status is that of what comes of it
pub record EndsAsOrdered (order : Order) (text : List ℕ) (status : ℕ) : Type 0 where
  pub check : order.verb ≡ Check → status ≢ device_failed → status ≢ no_memory → EndsAsChecked text order.main.now status
  pub layout : order.verb ≡ Layout → status ≢ device_failed → status ≢ no_memory → EndsAsLaidOut text order.main.now status
  pub run : order.verb ≡ Run → status ≢ device_failed → status ≢ no_memory → EndsAsLoaded text order.main.now order.steps status

-- where the order is to check: memory ran out, or the file couldn't be read or a device failed, or some text is checked as the
-- order says
abbrev pub EndsAsCheck : Order → ℕ → Type 0
EndsAsCheck order status = order.verb ≡ Check → status ≢ device_failed → status ≢ no_memory → (text : List ℕ) × EndsAsChecked text order.main.now status

-- where the order is to lay out: memory ran out, or the file couldn't be read or a device failed, or some text is laid out as the
-- order says
abbrev pub EndsAsLayout : Order → ℕ → Type 0
EndsAsLayout order status = order.verb ≡ Layout → status ≢ device_failed → status ≢ no_memory → (text : List ℕ) × EndsAsLaidOut text order.main.now status

-- where the order is to run: memory ran out, or the file couldn't be read or a device failed, or some text is loaded as the
-- order says, and of the commands of some bytes the status is theirs
abbrev pub EndsAsRun : Order → ℕ → Type 0
EndsAsRun order status = order.verb ≡ Run → status ≢ device_failed → status ≢ no_memory → (text : List ℕ) × EndsAsLoaded text order.main.now order.steps status

-- the status of these words: that of one of their faults, of a K outside its range, or of the order that they give
pub record EndsByWords (words : List Text) (status : ℕ) : Type 0 where
  pub fault : faults_of words ≢ [] → EndsByOneOf (faults_of words) status
  pub limit : faults_of words ≡ [] → ¬ HasLimit (limit_of (chosen_by words)) → EndsByOneOf (error_kinds.ValueValidation ∷ []) status
  pub order : AreInOrder words → status ≢ no_memory → (given : Order) × IsOrder given (chosen_by words) × EndsAsCheck given status × EndsAsLayout given status × EndsAsRun given status

-- where memory ran out, and where another error came
abbrev pub error_status : IoErrorKind → ℕ → ℕ
error_status io_error_kinds.OutOfMemory other = no_memory
error_status kind other = other
