-- In words that a command takes, each argument that is given has a value, where each of its
-- arguments asks for one.
use Rattle.std.proofs.Common.{◌≡◌, ◌∙◌, ◌&&◌, ◌||◌, ℕ, Bool, zero, suc, List, [], ◌∷◌, ◌++◌, refl, sym, ap, subst, true, false, not, cond, true≢false}
use Rattle.std.specs.Prelude.{IfSome, IsSome, Option, Some, None, drop, encode_utf8, find, fold, if◌then◌else◌, is_some, length, nat_le, option_and_then, slice_get, unwrap_or}
use Rattle.std.specs.List.{AllByRecursion}
use Rattle.std.specs.Option.{option_map_or}
use Rattle.std.specs.Str.{bytes_eq, chars}
use Rattle.clap.specs.Lexer.{long_of, short_of}
use Rattle.clap.specs.Facts.{explicit_source, unwrap_or_range}
use Rattle.clap.specs.Simple.{Shape}
use Rattle.clap.specs.Takes.{bundle_passes, bundle_step_passes, flag_word_passes, flags_pass, is_given, level_passes, long_passes, option_passes, other_passes, positional_passes, react_passes, settle_passes, short_passes, step_passes, turn_passes, use_passes, walk_passes, word_passes}
use Rattle.clap.specs.Walk.{Held, Names, Outcome, Row, Rule, Step, Text, Waiting, Walk, after_flag, after_step, arg_by_id, arg_by_index, arg_by_long, arg_by_short, at_row, attached_value, bundle_met, bundle_step, default_rows, done, finished, first_of, flag_met, has_row, idle, is_pending, long_met, long_or_other, more_values, next, nothing_held, option, option_met, option_word, plain, plain_word, positional, positional_held, reacted, reading_by, refused, settled, settled_rows, short_met, short_or_plain, subcommand, subcommand_met, subcommand_or_other, takes_several, takes_values, to_positional, trailing, used, used_as, used_by_id, value, values_or_missing, waits, walk, walk_from, walked, walked_from, with_default, with_values, without, word_met}
use Rattle.clap.specs.declared.builder.action.ArgAction.TheVariants.{Help, Set, SetTrue}
use Rattle.clap.specs.declared.builder.value_parser.Reading.{Reading}
use Rattle.clap.specs.declared.parser.matches.ValueSource.{ValueSource}
use Rattle.clap.proofs.WalkLemmas.{both}

-- ---- rows with values

abbrev HasValue : Row → Type 0
HasValue r = IsSome (slice_get r.values 0)

abbrev pub Valued : List Row → Type 0
Valued = AllByRecursion HasValue

-- what holds of each element holds of the one that is found
pub found_holds : {X : Type 0} (P : X → Type 0) (p : X → Bool) (xs : List X) → AllByRecursion P xs → IfSome (find p xs) P
found_holds P p [] each = tt
found_holds P p (x ∷ xs) each = go (p x) (found_holds P p xs each.1)
  where
    go : (b : Bool) → IfSome (find p xs) P → IfSome (cond b (Some x) (find p xs)) P
    go true later = each.0
    go false later = later

joined : (rows more : List Row) → Valued rows → Valued more → Valued (rows ++ more)
joined [] more f g = g
joined (r ∷ rows) more f g = (f.0, joined rows more f.1 g)

changed : (id : Text) (change : Row → List Row) (missing rows : List Row) → ((r : Row) → HasValue r → Valued (change r)) → Valued missing → Valued rows
    → Valued (at_row id change missing rows)
changed id change missing [] keeps m f = m
changed id change missing (r ∷ rows) keeps m f = go (bytes_eq r.id id) (changed id change missing rows keeps m f.1)
  where
    go : (b : Bool) → Valued (at_row id change missing rows) → Valued (if b then change r ++ rows else r ∷ at_row id change missing rows)
    go true later = joined (change r) rows (keeps r f.0) f.1
    go false later = (f.0, later)

more_valued : (source : ValueSource) (v : Text) (vs : List Text) (r : Row) → HasValue r → Valued (more_values source (v ∷ vs) r)
more_valued source v vs r f = (go r.values, tt)
  where
    go : (values : List Text) → IsSome (slice_get (values ++ v ∷ vs) 0)
    go [] = refl
    go (w ∷ ws) = refl

with_valued : (id : Text) (how : Reading) (source : ValueSource) (v : Text) (vs : List Text) (rows : List Row) → Valued rows → Valued (with_values id how source (v ∷ vs) rows)
with_valued id how source v vs rows f = changed id (more_values source (v ∷ vs)) _ rows (more_valued source v vs) (refl, tt) f

without_valued : (id : Text) (rows : List Row) → Valued rows → Valued (without id rows)
without_valued id rows f = changed id (λ _. []) [] rows (λ r h. tt) tt f

default_valued : (rows : List Row) (a : Rule) → Valued rows → Valued (with_default rows a)
default_valued rows a f = go (has_row a.id rows) a.defaults
  where
    go : (b : Bool) (values : List Text) → Valued (if b then rows else default_rows a.id (reading_by a) values rows)
    go true values = f
    go false [] = f
    go false (v ∷ vs) = with_valued a.id (reading_by a) _ v vs rows f

defaults_valued : (rules : List Rule) (rows : List Row) → Valued rows → Valued (fold with_default rows rules)
defaults_valued [] rows f = f
defaults_valued (a ∷ rules) rows f = defaults_valued rules (with_default rows a) (default_valued rows a f)

-- what is given has a first value
pub given_has_value : (id : Text) (rows : List Row) → Valued rows → is_given id rows ≡ true → IsSome (first_of id rows)
given_has_value id rows f given = go (find (λ r. bytes_eq r.id id) rows) (found_holds HasValue (λ r. bytes_eq r.id id) rows f) given
  where
    go : (o : Option Row) → IfSome o HasValue → option_map_or (λ r. explicit_source r.source) o false ≡ true → IsSome (option_and_then (λ r. slice_get r.values 0) o)
    go None h e = absurd (true≢false (sym e))
    go (Some r) h e = h

-- ---- the walk

-- a use of the argument that passes leaves rows with values
pub record AsksValue (a : Rule) : Type 0 where
  pub uses : (again : Bool) (values : List Text) (rows : List Row) → use_passes again a values rows ≡ true → Valued rows → Valued (used a values rows)

-- an argument of one value
pub asks_one : (a : Rule) → a.action ≡ Some Set → (unwrap_or_range a.range).start_inclusive ≡ 1 → AsksValue a
asks_one a set one = record { uses = go }
  where
    go : (again : Bool) (values : List Text) (rows : List Row) → use_passes again a values rows ≡ true → Valued rows → Valued (used a values rows)
    go again [] rows e f = absurd (true≢false (sym (sym (ap (λ n. nat_le n 0) one) ∙ (both (nat_le (unwrap_or_range a.range).start_inclusive 0) _ e).0)))
    go again (v ∷ vs) rows e f =
        subst (λ o. Valued (used_as (unwrap_or o Set) a.id (reading_by a) (v ∷ vs) rows)) (sym set)
        (with_valued a.id (reading_by a) _ v vs (without a.id rows) (without_valued a.id rows f))

-- a flag, whose use without a value has the one that stands for it
pub asks_flag : (a : Rule) (v : Text) → a.action ≡ Some SetTrue → a.missing ≡ v ∷ [] → AsksValue a
asks_flag a v flag missing = record { uses = go }
  where
    set : (w : Text) (ws : List Text) (rows : List Row) → Valued rows → Valued (used_as (unwrap_or a.action Set) a.id (reading_by a) (w ∷ ws) rows)
    set w ws rows f =
        subst (λ o. Valued (used_as (unwrap_or o Set) a.id (reading_by a) (w ∷ ws) rows)) (sym flag)
        (with_valued a.id (reading_by a) _ w ws (without a.id rows) (without_valued a.id rows f))

    go : (again : Bool) (values : List Text) (rows : List Row) → use_passes again a values rows ≡ true → Valued rows → Valued (used a values rows)
    go again [] rows e f = subst (λ vs. Valued (used_as (unwrap_or a.action Set) a.id (reading_by a) vs rows)) (sym missing) (set v [] rows f)
    go again (w ∷ ws) rows e f = set w ws rows f

-- a request for help, which leaves the rows
pub asks_help : (a : Rule) → a.action ≡ Some Help → AsksValue a
asks_help a help = record { uses = λ again values rows e f. subst (λ o. Valued (used_as (unwrap_or o Set) a.id (reading_by a) (values_or_missing a values) rows)) (sym help) f }

module _ (c : List Rule) (again : Bool) (asks : AllByRecursion AsksValue c) where
  settle_valued : (h : Held) → settle_passes c again h ≡ true → Valued h.rows → Valued (settled c h).rows
  settle_valued h e f = go h.pending e
    where
      by_id : (p : Text × List Text) (o : Option Rule) → IfSome o AsksValue → option_map_or (λ a. use_passes again a p.1 h.rows) o true ≡ true
          → Valued (used_by_id o p.1 h.rows)
      by_id p None q e = f
      by_id p (Some a) q e = q.uses again p.1 h.rows e f

      go : (o : Option (Text × List Text)) → option_map_or (λ p. option_map_or (λ a. use_passes again a p.1 h.rows) (arg_by_id c p.0) true) o true ≡ true
          → Valued (settled_rows c o h.rows)
      go None e = f
      go (Some p) e = by_id p (arg_by_id c p.0) (found_holds AsksValue (λ a. bytes_eq a.id p.0) c asks) e

  react_valued : (a : Rule) (values : List Text) (h : Held) → AsksValue a → react_passes c again a values h ≡ true → Valued h.rows → Valued (reacted c a values h).rows
  react_valued a values h ask e f =
      let p = both (settle_passes c again h) _ e in
      ask.uses again values (settled c h).rows p.1 (settle_valued h p.0 f)

  option_valued : (a : Rule) (v : Option Text) (h : Held) → AsksValue a → option_passes c again a v h ≡ true → Valued h.rows → Valued (option_met c a v h).0.rows
  option_valued a None h ask e f = settle_valued h e f
  option_valued a (Some v) h ask e f = react_valued a (v ∷ []) h ask e f

  long_valued : (o : Option Rule) (v : Option Text) (h : Held) → IfSome o AsksValue → long_passes c again o v h ≡ true → Valued h.rows → Valued (long_met c o v h).0.rows
  long_valued None v h ask e f = f
  long_valued (Some a) v h ask e f = go (takes_values a) v e
    where
      go : (b : Bool) (w : Option Text) → (if b then option_passes c again a w h else (not (is_some w) && react_passes c again a [] h)) ≡ true
          → Valued (if b then option_met c a w h else flag_met c a w h).0.rows
      go true w e = option_valued a w h ask e f
      go false None e = react_valued a [] h ask e f
      go false (Some w) e = f

  bundle_valued : (k : ℕ) (flags : Text) (skip : ℕ) (so_far : Outcome) (h : Held) → flags_pass c again k flags skip h ≡ true → Valued h.rows
      → Valued (bundle_met c k flags skip so_far h).0.rows
  unfolding flags_pass bundle_met
  bundle_valued zero flags skip so_far h e f = f
  bundle_valued (suc k) flags skip so_far h e f = go (slice_get (chars flags) 0) skip e (λ t n o g. bundle_valued k t n o g)
    where
      short : (o : Option Rule) (rest : Text) → IfSome o AsksValue → short_passes c again o rest h (flags_pass c again k rest 0) ≡ true
          → ((g : Held) → flags_pass c again k rest 0 g ≡ true → Valued g.rows → Valued (bundle_met c k rest 0 done g).0.rows)
          → Valued (short_met c o rest h (bundle_met c k rest 0 done)).0.rows
      short None rest ask e later = f
      short (Some a) rest ask e later = taken (takes_values a) e
        where
          taken : (b : Bool) → (if b then option_passes c again a (attached_value rest) h else (react_passes c again a [] h && flags_pass c again k rest 0 (reacted c a [] h))) ≡ true
              → Valued (if b then option_met c a (attached_value rest) h else bundle_met c k rest 0 done (reacted c a [] h)).0.rows
          taken true e = option_valued a (attached_value rest) h ask e f
          taken false e =
              let p = both (react_passes c again a [] h) _ e in
              later (reacted c a [] h) p.1 (react_valued a [] h ask p.0 f)

      go : (o : Option ℕ) (n : ℕ) → bundle_step_passes c again o flags n h (flags_pass c again k) ≡ true
          → ((t : Text) (m : ℕ) (s : Outcome) (g : Held) → flags_pass c again k t m g ≡ true → Valued g.rows → Valued (bundle_met c k t m s g).0.rows)
          → Valued (bundle_step c o flags n so_far h (bundle_met c k)).0.rows
      go None n e later = f
      go (Some x) zero e later =
          let rest = drop (length (encode_utf8 x)) flags in
          short (arg_by_short c x) rest (found_holds AsksValue _ c asks) e (later rest 0 done)
      go (Some x) (suc n) e later = later (drop (length (encode_utf8 x)) flags) n so_far h e f

  plain_valued : (waiting : Waiting) (word : Text) (h : Held) → Valued h.rows → Valued (plain_word c waiting word h).0.rows
  plain_valued idle word h f = f
  plain_valued positional word h f = f
  plain_valued (option id) word h f = go (arg_by_id c id)
    where
      go : (o : Option Rule) → Valued (option_word o id word h).0.rows
      go None = f
      go (Some a) = f

  after_valued : (waiting : Waiting) (word : Text) (h : Held) (o : Outcome) → Valued h.rows → Valued (after_flag c waiting word h o).0.rows
  after_valued waiting word h done f = f
  after_valued waiting word h (waits id) f = f
  after_valued waiting word h plain f = plain_valued waiting word h f
  after_valued waiting word h refused f = plain_valued waiting word h f

  flag_valued : (waiting : Waiting) (word : Text) (h : Held) → flag_word_passes c again (long_of word) word h ≡ true → Valued h.rows
      → Valued (long_or_other c waiting word (long_of word) h).0.rows
  flag_valued waiting word h e f = go (long_of word) e
    where
      short : (o : Option Text) → option_map_or (λ flags. bundle_passes c again flags h) o true ≡ true → Valued (short_or_plain c waiting word o h).0.rows
      short None e = plain_valued waiting word h f
      short (Some flags) e = after_valued waiting word _ _ (bundle_valued (length flags) flags h.skip plain (record h { skip = 0 }) e f)

      go : (o : Option (Text × Option Text)) → flag_word_passes c again o word h ≡ true → Valued (long_or_other c waiting word o h).0.rows
      go (Some p) e = after_valued waiting word _ _ (long_valued (arg_by_long c p.0) p.1 h (found_holds AsksValue _ c asks) e f)
      go None e = short (short_of word) e

  positional_valued : (a : Rule) (word : Text) (h : Held) → positional_passes c again a h ≡ true → Valued h.rows → Valued (positional_held c a word h).rows
  positional_valued a word h e f = go (is_pending a h.pending && takes_several a) e
    where
      go : (b : Bool) → (b || settle_passes c again h) ≡ true → Valued (if b then h else settled c h).rows
      go true e = f
      go false e = settle_valued h e f

module _ (s : Shape) (names : Names) (asks : AllByRecursion AsksValue s.rules) where
  word_valued : (is_trailing : Bool) (waiting : Waiting) (position : ℕ) (word : Text) (h : Held) → word_passes s names is_trailing waiting word h ≡ true → Valued h.rows
      → Valued (word_met s.rules names is_trailing waiting position word h).0.rows
  word_valued true waiting position word h e f = f
  word_valued false waiting position word h e f = go (subcommand_met names waiting word) e
    where
      other : (b : Bool) → (b || flag_word_passes s.rules s.args_override_self (long_of word) word h) ≡ true
          → Valued (if b then (h, trailing position) else long_or_other s.rules waiting word (long_of word) h).0.rows
      other true e = f
      other false e = flag_valued s.rules s.args_override_self asks waiting word h e f

      go : (o : Option Text) → other_passes s o word h ≡ true → Valued (subcommand_or_other s.rules o waiting position word h).0.rows
      go (Some name) e = f
      go None e = other (bytes_eq word (45 ∷ 45 ∷ [])) e

  step_valued : (w : Walk) (word : Text) (h : Held) (step : Step) → step_passes s w.position h step ≡ true → Valued h.rows → Valued (after_step s.rules word w h step).held.rows
  step_valued w word h (next waiting) e f = f
  step_valued w word h (trailing position) e f = f
  step_valued w word h (subcommand name) e f = f
  step_valued w word h value e f = go (arg_by_index s.rules w.position) e
    where
      go : (o : Option Rule) → option_map_or (λ a. positional_passes s.rules s.args_override_self a h) o false ≡ true → Valued (to_positional s.rules o word w h).held.rows
      go None e = f
      go (Some a) e = positional_valued s.rules s.args_override_self asks a word h e f

  turn_valued : (w : Walk) (word : Text) → turn_passes s names w word ≡ true → Valued w.held.rows → Valued (walked s.rules names w word).held.rows
  unfolding walked
  turn_valued w word e f = go w.stopped e
    where
      met : Held × Step
      met = word_met s.rules names w.is_trailing w.waiting w.position word w.held

      go : (o : Option (Text × List Text))
          → (is_some o || (word_passes s names w.is_trailing w.waiting word w.held && step_passes s w.position met.0 met.1)) ≡ true
          → Valued (walked_from s.rules names o w word).held.rows
      go (Some p) e = f
      go None e =
          let p = both (word_passes s names w.is_trailing w.waiting word w.held) _ e in
          step_valued w word met.0 met.1 p.1 (word_valued w.is_trailing w.waiting w.position word w.held p.0 f)

  walk_valued : (words : List Text) (w : Walk) → walk_passes s names w words ≡ true → Valued w.held.rows → Valued (fold (walked s.rules names) w words).held.rows
  unfolding walk_passes
  walk_valued [] w e f = f
  walk_valued (word ∷ words) w e f =
      let p = both (turn_passes s names w word) _ e in
      walk_valued words (walked s.rules names w word) p.1 (turn_valued w word p.0 f)

  -- the rows at the end of a level that is taken
  pub level_valued : (words : List Text) (has : Bool) → level_passes s names nothing_held words has ≡ true
      → Valued (finished s.rules (walk s.rules names nothing_held words).held)
  level_valued words has e =
      let end = (walk s.rules names nothing_held words).held in
      let p = both (walk_passes s names (walk_from nothing_held) words) _ e in
      let q = both (settle_passes s.rules s.args_override_self end) _ p.1 in
      defaults_valued s.rules _ (settle_valued s.rules s.args_override_self asks end q.0 (walk_valued words (walk_from nothing_held) p.0 tt))
