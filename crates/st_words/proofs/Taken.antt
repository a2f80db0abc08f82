-- Words that are in order name a verb's subcommand, with all that it requires.
use Rattle.std.proofs.Common.{◌≡◌, ◌∙◌, ◌||◌, Bool, List, [], refl, sym, ap, subst, codes, true, false, not, true≢false}
use Rattle.std.specs.Prelude.{IfSome, IsSome, Option, Result, Some, None, Box, is_some, find, option_map}
use Rattle.std.specs.Box.{box_value}
use Rattle.std.specs.List.{AllByRecursion, list_all}
use Rattle.std.specs.Option.{option_map_or}
use Rattle.clap.specs.Words.{App, FailsBy, HasMatchesOf, Row, Text, first_of, one_of, fault_of, is_simple, is_simple_and_free, built, subcommand_of, subcommand_rows_of, takes}
use Rattle.clap.specs.Takes.{default_passes, entered_passes, is_given, is_valid, level_passes, settle_passes, walk_passes}
use Rattle.clap.specs.Simple.{Shape, argument_words, entered, label_of, names_of, rows_at, subcommand_rows}
use Rattle.clap.specs.Walk.{Held, Names, answers_to, finished, nothing_held, walk, walk_from}
use Rattle.clap.specs.declared.error.Error.{Error}
use Rattle.clap.specs.declared.parser.matches.SubCommand.{SubCommand}
use Rattle.clap.specs.declared.parser.matches.ArgMatches.{ArgMatches}
use Rattle.clap.specs.declared.parser.matches.ArgMatches.TheViews.{out-SubCommand}
use Rattle.clap.proofs.WalkLemmas.{both}
use Rattle.st_words.proofs.Valued.{AsksValue, asks_flag, asks_help, asks_one, found_holds, given_has_value, level_valued}
use Rattle.st_words.specs.Words.{AreInOrder, HasLimit, IsFlagOf, IsLimitOf, IsManner, IsOrder, IsRunnable, chosen_by, faults_of, is_taken, limit_of, stc_app, verb_name}
use Rattle.st_words.specs.declared.words.Manner.{Manner}
use Rattle.st_words.specs.declared.words.Order.{Order}
use Rattle.st_words.specs.declared.words.Verb.{Verb}
use Rattle.st_words.specs.declared.words.Verb.TheVariants.{Check, Layout, Run}

-- ---- the command that was built, and its matches

-- the command takes the words that its command line takes
pub taken_by : (app : App) (words : List Text) → app ≡ stc_app → is_taken words ≡ true → takes app words ≡ true
unfolding is_taken
taken_by app words same taken = ap (λ a. takes a words) same ∙ taken

-- the matches of the command have the subcommand that the words name
pub chosen_in : (app : App) (words : List Text) (m : ArgMatches) → app ≡ stc_app → HasMatchesOf app words m → subcommand_rows_of m ≡ chosen_by words
unfolding chosen_by
chosen_in app words m same has = (has (ap is_simple same)).1 ∙ ap (λ a. subcommand_of a words) same

-- a parse by the command fails by the faults of the command line
pub fails_by : {T : Type 0} (app : App) (words : List Text) (r : Result T Error) → app ≡ stc_app
    → (is_simple_and_free app ≡ true → FailsBy (fault_of app words) r) → FailsBy (faults_of words) r
unfolding faults_of
fails_by app words r same fails = subst (λ a. FailsBy (fault_of a words) r) same (fails (ap is_simple_and_free same))

-- ---- a level that is taken

level_valid : (s : Shape) (names : Names) (h : Held) (words : List Text) (has : Bool) → level_passes s names h words has ≡ true
    → is_valid s (finished s.rules (walk s.rules names h words).held) has ≡ true
level_valid s names h words has e =
    let end = (walk s.rules names h words).held in
    let after = (both (walk_passes s names (walk_from h) words) _ e).1 in
    let settles = both (settle_passes s.rules s.args_override_self end) _ after in
    (both (list_all default_passes s.rules) (is_valid s (finished s.rules end) has) settles.1).1

-- where a subcommand is required and the words are taken, one is entered
level_enters : (s : Shape) (names : Names) (h : Held) (words : List Text) (has : Bool) → s.subcommand_required ≡ true
    → level_passes s names h words has ≡ true → has ≡ true
level_enters s names h words has required e =
    let valid = level_valid s names h words has e in
    given s.subcommand_required has required (both (not s.subcommand_required || has) _ (both (not s.arg_required_else_help || _) _ valid).1).0
  where
    given : (a b : Bool) → a ≡ true → (not a || b) ≡ true → b ≡ true
    given true b t h = h
    given false b t h = absurd (true≢false (sym t))

-- ---- the subcommand that is entered

-- a subcommand of a verb that requires FILE and `--program N`, each with a value
record ServesVerb (s : Shape) : Type 0 where
  pub verb : Verb
  pub name : s.name ≡ verb_name verb
  pub asks : AllByRecursion AsksValue s.rules
  pub requires : (rows : List Row) → is_valid s rows false ≡ true → (is_given (codes "FILE") rows ≡ true) × (is_given (codes "program") rows ≡ true)

-- what the words give where such a subcommand takes them
abbrev IsServed : Text × List Row → Type 0
IsServed met = ((verb : Verb) × (met.0 ≡ verb_name verb)) × IsSome (first_of (codes "FILE") met.1) × IsSome (first_of (codes "program") met.1)

served : (s : Shape) (words : List Text) → ServesVerb s → level_passes s [] nothing_held words false ≡ true → IsServed (rows_at s words)
served s words serves e =
    let rows = finished s.rules (walk s.rules [] nothing_held words).held in
    let valued = level_valued s [] serves.asks words false e in
    let given = serves.requires rows (level_valid s [] nothing_held words false e) in
    ((serves.verb, serves.name), given_has_value (codes "FILE") rows valued given.0, given_has_value (codes "program") rows valued given.1)

entered_served : (a : App) (stop : Option (Text × List Text)) → AllByRecursion ServesVerb a.subs → entered_passes a stop ≡ true → IfSome (entered a stop) IsServed
entered_served a None each e = tt
entered_served a (Some p) each e = go (find (λ s. answers_to p.0 (label_of s)) a.subs) (found_holds ServesVerb (λ s. answers_to p.0 (label_of s)) a.subs each) e
  where
    go : (o : Option Shape) → IfSome o ServesVerb → option_map_or (λ s. level_passes s [] nothing_held p.1 false) o true ≡ true
        → IfSome (option_map (λ s. rows_at s p.1) o) IsServed
    go None h e = tt
    go (Some s) h e = served s p.1 h e

runs : (met : Option (Text × List Row)) → is_some met ≡ true → IfSome met IsServed → HasLimit (limit_of met) → IsRunnable met
runs None some h limit = true≢false (sym some)
runs (Some m) some h limit = (h.0, h.1, h.2, limit)

-- each subcommand of the program serves a verb
subcommands_serve : AllByRecursion ServesVerb (built stc_app).subs
subcommands_serve = (
  record {
    verb = Check;
    name = refl;
    asks = (asks_one _ refl refl, (asks_one _ refl refl, (asks_flag _ _ refl refl, (asks_flag _ _ refl refl, (asks_help _ refl, tt)))));
    requires = λ rows e. let p = both (is_given (codes "FILE") rows) _ e in (p.0, (both (is_given (codes "program") rows) _ p.1).0);
  },
  (
    record {
      verb = Layout;
      name = refl;
      asks = (asks_one _ refl refl, (asks_one _ refl refl, (asks_flag _ _ refl refl, (asks_help _ refl, tt))));
      requires = λ rows e. let p = both (is_given (codes "FILE") rows) _ e in (p.0, (both (is_given (codes "program") rows) _ p.1).0);
    },
    (
      record {
        verb = Run;
        name = refl;
        asks = (asks_one _ refl refl, (asks_one _ refl refl, (asks_flag _ _ refl refl, (asks_one _ refl refl, (asks_help _ refl, tt)))));
        requires = λ rows e. let p = both (is_given (codes "FILE") rows) _ e in (p.0, (both (is_given (codes "program") rows) _ p.1).0);
      },
      tt,
    ),
  ),
)

-- words that are in order name a subcommand that can run
pub in_order_runs : (words : List Text) → AreInOrder words → IsRunnable (chosen_by words)
unfolding is_taken chosen_by
in_order_runs words right =
    let a = built stc_app in
    let given = argument_words stc_app words in
    let stop = (walk a.top.rules (names_of a) nothing_held given).stopped in
    let passes = both (entered_passes a stop) _ (both (is_simple stc_app) _ right.0).1 in
    let some : is_some (entered a stop) ≡ true = level_enters a.top (names_of a) nothing_held given _ refl passes.1 in
    runs (entered a stop) some (entered_served a stop subcommands_serve passes.0) right.1

-- --the matches of a subcommand

module _ {Z : Type 0} where
  pub rows_are : (met : Option (Box SubCommand Z)) (name : Text) (rows : List Row) → Some name ≡ option_map (λ b. (out-SubCommand (box_value b)).name.now) met
      → Some rows ≡ option_map (λ p. p.1) (subcommand_rows met) → subcommand_rows met ≡ Some (name, rows)
  rows_are None name rows e f = cc
  rows_are (Some b) name rows e f = cc

pub order_is : (order : Order) (met : Option (Text × List Row)) (name : Text) (rows : List Row) → met ≡ Some (name, rows) → name ≡ verb_name order.verb
    → first_of (codes "FILE") rows ≡ Some order.file.now → first_of (codes "program") rows ≡ Some order.main.now
    → IsLimitOf (first_of (codes "steps") rows) order.steps → IsOrder order met
order_is order met name rows e verb file main steps = rw e (verb, file, main, steps)

pub manner_is : (manner : Manner) (met : Option (Text × List Row)) (name : Text) (rows : List Row) → met ≡ Some (name, rows)
    → IsFlagOf manner.quiet (one_of (codes "quiet") rows) → IsFlagOf manner.all (one_of (codes "all") rows) → IsManner manner met
manner_is manner met name rows e quiet all = rw e (quiet, all)

-- what a subcommand that can run gives
module _ (met : Option (Text × List Row)) (name : Text) (rows : List Row) (is : met ≡ Some (name, rows)) (runs : IsRunnable met) where
  pub file_within : None ≡ first_of (codes "FILE") rows → ⊥
  file_within none = true≢false (sym (rw is at runs).1 ∙ ap is_some (sym none))

  pub main_within : None ≡ first_of (codes "program") rows → ⊥
  main_within none = true≢false (sym (rw is at runs).2 ∙ ap is_some (sym none))

  pub limit_within : HasLimit (first_of (codes "steps") rows)
  limit_within = (rw is at runs).3
