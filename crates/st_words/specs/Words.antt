-- The program's command line, and the order that its words give.
use Rattle.std.specs.Prelude.{◌≡◌, ◌≤◌, ◌⊎◌, IsSome, ℕ, Bool, true, false, List, [], Option, Some, None, codes, option_and_then}
use Rattle.std.specs.Str.Parse.{IsNumeral, digits_value, without_leading_plus}
use Rattle.clap.specs.Words.{App, HasKind, Kinds, Row, Rule, Text, fault_of, first_of, kind_of, new_app, new_rule, one_of, subcommand_of, takes, with_rule, with_subcommand}
use Rattle.clap.specs.declared.builder.action.ArgAction.TheVariants.{SetTrue}
use Rattle.clap.specs.declared.error.Error.{Error}
use Rattle.clap.specs.declared.error.kind.ErrorKind.TheVariants as error_kinds
use Rattle.st_words.specs.declared.words.Manner.{Manner}
use Rattle.st_words.specs.declared.words.Verb.{Verb}
use Rattle.st_words.specs.declared.words.Verb.TheVariants.{Check, Layout, Run}
use Rattle.st_words.specs.declared.words.Order.{Order}

-- FILE, which is required
abbrev pub file_rule : Rule
file_rule = record (new_rule (codes "FILE")) { required = true }

-- `--program N`, which is required
abbrev pub program_rule : Rule
program_rule = record (new_rule (codes "program")) { long = Some (codes "program"); value_names = 1; required = true }

-- `--steps K`
abbrev pub steps_rule : Rule
steps_rule = record (new_rule (codes "steps")) { long = Some (codes "steps"); value_names = 1 }

-- an option `--NAME` without a value
abbrev pub flag_rule : Text → Rule
flag_rule name = record (new_rule name) { long = Some name; action = Some SetTrue }

-- a subcommand with FILE and `--program N`
abbrev pub program_app : Text → App
program_app name = with_rule (with_rule (new_app name) file_rule) program_rule

-- the same with `--quiet`
abbrev pub file_app : Text → App
file_app name = with_rule (program_app name) (flag_rule (codes "quiet"))

-- `check FILE --program N [--all]`
abbrev pub check_app : App
check_app = with_rule (file_app (codes "check")) (flag_rule (codes "all"))

-- `layout FILE --program N`
abbrev pub layout_app : App
layout_app = file_app (codes "layout")

-- `run FILE --program N [--steps K]`
abbrev pub run_app : App
run_app = with_rule (file_app (codes "run")) steps_rule

-- the program's own settings: it has a version, one of the subcommands is required, and `help` is none of them
abbrev pub stc_top : App
stc_top = record {
  top = record (new_app (codes "stc")).top { has_version = true; subcommand_required = true; disable_help_subcommand = true };
  subs = [];
}

-- with the first subcommand
abbrev pub checking_app : App
checking_app = with_subcommand stc_top check_app.top

-- with what says something of a text alone
abbrev pub text_app : App
text_app = with_subcommand checking_app layout_app.top

-- the whole command line
abbrev pub stc_app : App
stc_app = with_subcommand text_app run_app.top

-- the subcommand of each verb
abbrev pub verb_name : Verb → Text
verb_name Check = codes "check"
verb_name Layout = codes "layout"
verb_name Run = codes "run"

-- the text writes this number, from 1 to 10,000,000, in decimal
abbrev pub IsStepLimit : Text → ℕ → Type 0
IsStepLimit text steps = IsNumeral 10 (without_leading_plus text) × (steps ≡ digits_value 10 (without_leading_plus text)) × (1 ≤ steps) × (steps ≤ 10000000)

-- the limit is the one that K writes, and 100,000 where K is not given
abbrev pub IsLimitOf : Option Text → ℕ → Type 0
IsLimitOf None steps = steps ≡ 100000
IsLimitOf (Some text) steps = IsStepLimit text steps

-- K is in its range where it is given
abbrev pub HasLimit : Option Text → Type 0
HasLimit given = (steps : ℕ) × IsLimitOf given steps

-- K, where the subcommand was given it
abbrev pub limit_of : Option (Text × List Row) → Option Text
limit_of = option_and_then (λ met. first_of (codes "steps") met.1)

-- the subcommand that the words name, with what they give it
unfoldable pub chosen_by : List Text → Option (Text × List Row)
chosen_by words = subcommand_of stc_app words

-- the command line takes the words
unfoldable pub is_taken : List Text → Bool
is_taken words = takes stc_app words

-- the kinds of error that the command line gives at the words: none where it finds no fault in them
unfoldable pub faults_of : List Text → Kinds
faults_of words = fault_of stc_app words

-- the command line takes the words, with K in its range where they give it
abbrev pub AreInOrder : List Text → Type 0
AreInOrder words = (is_taken words ≡ true) × HasLimit (limit_of (chosen_by words))

-- memory ran out, or the command line finds this fault in the words, or it finds none and the error is that of K
abbrev pub IsFaultOf : List Text → Error → Type 0
IsFaultOf words error = HasKind (faults_of words) error ⊎ ((faults_of words ≡ []) × (kind_of error ≡ error_kinds.ValueValidation))

-- the subcommand is that of a verb, it has FILE and N, and its K is in range
abbrev pub IsRunnable : Option (Text × List Row) → Type 0
IsRunnable None = ⊥
IsRunnable (Some met) = ((verb : Verb) × (met.0 ≡ verb_name verb)) × IsSome (first_of (codes "FILE") met.1)
    × IsSome (first_of (codes "program") met.1) × HasLimit (first_of (codes "steps") met.1)

-- the order is what the subcommand and its matches say
abbrev pub IsOrder : Order → Option (Text × List Row) → Type 0
IsOrder order None = ⊥
IsOrder order (Some met) = (met.0 ≡ verb_name order.verb) × (first_of (codes "FILE") met.1 ≡ Some order.file.now)
    × (first_of (codes "program") met.1 ≡ Some order.main.now) × IsLimitOf (first_of (codes "steps") met.1) order.steps

-- the flag is set where it is given, and isn't where it is left out
abbrev pub IsFlagOf : Bool → Option Text → Type 0
IsFlagOf flag given = (given ≡ Some (codes "true") → flag ≡ true) × (given ≡ Some (codes "false") → flag ≡ false) × (given ≡ None → flag ≡ false)

-- the manner is what the matches of the subcommand say
abbrev pub IsManner : Manner → Option (Text × List Row) → Type 0
IsManner manner None = (manner.quiet ≡ false) × (manner.all ≡ false)
IsManner manner (Some met) = IsFlagOf manner.quiet (one_of (codes "quiet") met.1) × IsFlagOf manner.all (one_of (codes "all") met.1)
