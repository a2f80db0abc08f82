-- What the lines of a session ask for.
use Rattle.std.specs.Prelude.{ℕ, ℤ, Bool, List, [], ◌∷◌, if◌then◌else◌, codes, map, ◌==◌}
use Rattle.std.specs.List.{after_first, before_first, list_all, list_any}
use Rattle.std.specs.Option.{option_map_or}
use Rattle.std.specs.Str.{bytes_eq}
use Rattle.st_devices.specs.Lines.{Line}
use Rattle.st_devices.specs.Words.{words_of}
use Rattle.st_layout.specs.declared.renames.Rename.{Rename}
use Rattle.st_lines.specs.ScanWords.{Pair, is_pair, moment_read, pairs_of}
use Rattle.st_lines.specs.declared.request.Request.{Request}
use Rattle.st_lines.specs.declared.request.Request.TheVariants as requests

-- what a line asks for: paths and values are texts, a moment is in milliseconds
pub data RequestView : Type 0 where
  nothing : RequestView
  show : List ℕ → RequestView
  write : List ℕ → List ℕ → RequestView
  force : List ℕ → List ℕ → RequestView
  release : List ℕ → RequestView
  scan : ℤ → List Pair → RequestView
  change : List Rename → RequestView
  undo : RequestView
  reset : RequestView
  status : RequestView
  unknown : RequestView

-- ---- renames

abbrev pub is_equals : ℕ → Bool
is_equals byte = byte == 61

-- a word can be a rename: it has an `=`
abbrev pub has_equals : List ℕ → Bool
has_equals word = list_any is_equals word

-- the rename that a word is: it is cut at its first `=`
abbrev pub rename_of : List ℕ → Rename
rename_of word = record { old = before_first is_equals word; new = after_first is_equals word }

-- the renames that words are
abbrev pub renames_of : List (List ℕ) → List Rename
renames_of words = map rename_of words

-- ---- the words of a line

-- what one word asks for
abbrev pub word_request : List ℕ → RequestView
word_request word =
    if bytes_eq word (codes "undo") then undo
    else if bytes_eq word (codes "reset") then reset
    else if bytes_eq word (codes "status") then status
    else unknown

-- what a word and a path ask for
abbrev pub path_request : List ℕ → List ℕ → RequestView
path_request word path =
    if bytes_eq word (codes "show") then show path
    else if bytes_eq word (codes "release") then release path
    else unknown

-- what a word, a path and a value ask for
abbrev pub value_request : List ℕ → List ℕ → List ℕ → RequestView
value_request word path value =
    if bytes_eq word (codes "write") then write path value
    else if bytes_eq word (codes "force") then force path value
    else unknown

-- what `change` and these words ask for
abbrev pub change_request : List (List ℕ) → RequestView
change_request words = if list_all has_equals words then change (renames_of words) else unknown

-- what `scan` and these words ask for
abbrev pub scan_request : List (List ℕ) → RequestView
scan_request [] = unknown
scan_request (word ∷ words) = if list_all is_pair words then option_map_or (λ moment. scan moment (pairs_of words)) (moment_read word) unknown else unknown

-- what another word and these words ask for: other words, and other numbers of words, ask for nothing that there is
abbrev pub command_request : List ℕ → List (List ℕ) → RequestView
command_request word [] = word_request word
command_request word (path ∷ []) = path_request word path
command_request word (path ∷ value ∷ []) = value_request word path value
command_request word (path ∷ value ∷ next ∷ more) = unknown

-- what the words of a line ask for
abbrev pub request_in : List (List ℕ) → RequestView
request_in [] = nothing
request_in (word ∷ words) =
    if bytes_eq word (codes "change") then change_request words
    else if bytes_eq word (codes "scan") then scan_request words
    else command_request word words

-- what a line asks for: one that is too long asks for nothing that there is
abbrev pub request_on : Line → RequestView
request_on line = if line.is_long then unknown else request_in (words_of line.text)

-- ---- what was read

-- what was read as a request
abbrev pub request_of : Request → RequestView
request_of requests.Nothing = nothing
request_of (requests.Show path) = show path.now
request_of (requests.Write path value) = write path.now value.now
request_of (requests.Force path value) = force path.now value.now
request_of (requests.Release path) = release path.now
request_of (requests.Scan moment pairs) = scan moment (pairs_of (words_of pairs.words.now))
request_of (requests.Change words) = change (renames_of (words_of words.now))
request_of requests.Undo = undo
request_of requests.Reset = reset
request_of requests.Status = status
request_of requests.Unknown = unknown
