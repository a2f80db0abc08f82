-- What an invocation of a chart does keeps the frame (2.6).
use Rattle.std.proofs.Common.{◌≡◌, ℕ, suc, ◌+◌, ◌<◌, ◌≤◌, Bool, true, false, List, [], ◌∷◌, drop, length, get_or, Option, Some, None, if◌then◌else◌, IsTrue, refl, ap, sym, ◌∙◌, subst, arith}
use Rattle.std.specs.List.{AllZip}
use Rattle.std.proofs.lemmas.List.{get_or-drop}
use Rattle.std.proofs.lemmas.Slice.Zip.{AllZip-long}
use Rattle.st_values.specs.Values.{in_range, truth, IsOfType}
use Rattle.st_values.specs.declared.elem.Elem.{Elem}
use Rattle.st_values.specs.declared.elem.Elem.TheVariants as elems
use Rattle.st_types.specs.Compositions.{Composition}
use Rattle.st_leaves.specs.Paths.{field}
use Rattle.st_leaves.specs.Places.{count}
use Rattle.st_blocks.proofs.TypeLemmas.{cell_typed}
use Rattle.st_operators.specs.Laws.{IsOf}
use Rattle.st_meaning.specs.Charts.{actions_on, is_asked, moved_on, names_on, names_stored, times_set}
use Rattle.st_meaning.specs.Laws.{KeepsFrame}
use Rattle.st_meaning.specs.Meaning.{Calls, Values, no_value, stored_at, value_of}
use Rattle.st_meaning.specs.Offsets.{chart_offset}
use Rattle.st_meaning.specs.Operations.{gives, then_with}
use Rattle.st_meaning.specs.Sketches.{Sketch, chart_types}
use Rattle.st_meaning.specs.Sound.{AreBoolVariables, AreSoundCalls, AreSoundTests, AreValuesOf, HasChartLeaves, HasOneLeafEach, IsChart, IsTermOf, type_at}
use Rattle.st_meaning.specs.Statements.{Outcome, Setting, done, chart_done, chart_meaning, chart_part, condition_value, conditions_meaning, is_true, part_made, stretch, times_done, unless_forced, with_stretch}
use Rattle.st_meaning.specs.Terms.{Term, Tests, no_tests, more_tests, field_part, whole}
use Rattle.st_meaning.specs.Wholes.{Functions}
use Rattle.st_meaning.proofs.ChartStates.{moved_typed, times_typed}
use Rattle.st_meaning.proofs.Frames.{AlwaysStays, given_stays, nothing_done, stays_after, store_keeps}
use Rattle.st_meaning.proofs.Giving.{given_in, same_left, stepped_in}
use Rattle.st_meaning.proofs.Places.{places_have_leaves}
use Rattle.st_meaning.proofs.Stretches.{Stands, before, inside, past, stands, stretch_at, stretch_length, unless_at, unless_length, with_before, with_inside, with_length, with_past, zipped}
use Rattle.st_meaning.proofs.TermValues.{term_value}

-- ---- leaves that stand together, of these types, and what is made of their values

module _ (root : Composition) (forced : List Bool) (offset : ℕ) (types : List Elem) (fits : offset + length types ≤ count root)
    (are : (i : ℕ) → i < length types → type_at root (offset + i) ≡ get_or types i elems.Bool) (values : Values) (all : AreValuesOf root values) where
  abbrev size : ℕ
  size = length types

  abbrev old : Values
  old = stretch values offset size

  old_length : length old ≡ size
  old_length = stretch_length values offset size (omega (arith, fits, all.all))

  old_is : (i : ℕ) → i < size → IsOf (type_at root (offset + i)) (get_or old i no_value)
  old_is i h = subst (IsOf (type_at root (offset + i))) (sym (stretch_at values offset size i h)) (all.each (offset + i) (omega (arith, h, fits)))

  -- the old values have the types,
  pub old_typed : AllZip IsOfType types old
  old_typed = zipped types old old_length (λ i h. let is = old_is i h in (is.of_type ∙ are i h, is.in_range))

  -- and where the new ones have them too, they keep the frame
  module _ (make : Values → Values) (typed : AllZip IsOfType types (make old)) where
    abbrev new : Values
    new = make old

    new_length : length new ≡ size
    new_length = AllZip-long IsOfType types new typed

    as_many : length old ≡ length new
    as_many = old_length ∙ sym new_length

    abbrev part : Values
    part = unless_forced (drop offset forced) old new

    part_length : length part ≡ size
    part_length = unless_length (drop offset forced) old new as_many ∙ new_length

    abbrev others : Values
    others = with_stretch values offset part

    part_fits : offset + length part ≤ length values
    part_fits = omega (arith, part_length, fits, all.all)

    in_part : (i : ℕ) → i < length part → i < size
    in_part i h = omega (arith, h, part_length)

    either_is : (i : ℕ) → i < size → (f : Bool) → IsOf (type_at root (offset + i)) (if f then get_or old i no_value else get_or new i no_value)
    either_is i h true = old_is i h
    either_is i h false = let cell = cell_typed types new typed i h in record { in_range = cell.1; of_type = cell.0 ∙ sym (are i h) }

    each_is : (n : ℕ) → Stands offset (length part) n → n < count root → IsOf (type_at root n) (get_or others n no_value)
    each_is n (before h) less = subst (IsOf (type_at root n)) (sym (with_before values offset part part_fits n h)) (all.each n less)
    each_is n (inside i h) less =
        subst (IsOf (type_at root n)) (sym (with_inside values offset part part_fits i h ∙ unless_at (drop offset forced) old new as_many i))
        (either_is i (in_part i h) (get_or (drop offset forced) i false))
    each_is n (past i) less = subst (IsOf (type_at root n)) (sym (with_past values offset part part_fits i)) (all.each n less)

    each_kept : (n : ℕ) → Stands offset (length part) n → get_or forced n false ≡ true → get_or others n no_value ≡ get_or values n no_value
    each_kept n (before h) f = with_before values offset part part_fits n h
    each_kept n (inside i h) f =
        with_inside values offset part part_fits i h ∙ unless_at (drop offset forced) old new as_many i
        ∙ ap (λ t. if t then get_or old i no_value else get_or new i no_value) (get_or-drop offset forced i false ∙ f) ∙ stretch_at values offset size i (in_part i h)
    each_kept n (past i) f = with_past values offset part part_fits i

    pub part_keeps : (left : ℕ) → KeepsFrame root forced values left (part_made forced offset size make values) left
    part_keeps left = record {
      all = record { all = with_length values offset part part_fits ∙ all.all; each = λ n less. each_is n (stands offset (length part) n) less };
      kept = λ n f. each_kept n (stands offset (length part) n) f;
      steps = omega arith;
    }

-- ---- a chart

module _ (root : Composition) (sketch : Sketch) (leaves : HasChartLeaves root sketch) (setting : Setting) (moment : IsTrue (in_range elems.Time setting.now)) where
  pub chart_typed : (values : Values) → AreValuesOf root values → AllZip IsOfType (chart_types sketch) (chart_part root sketch values)
  chart_typed values all = old_typed root setting.forced (chart_offset root) (chart_types sketch) leaves.fits leaves.types values all

  pub times_keep : (values : Values) → AreValuesOf root values → (left : ℕ) → KeepsFrame root setting.forced values left (times_done setting sketch (chart_offset root) values) left
  times_keep values all left =
      part_keeps root setting.forced (chart_offset root) (chart_types sketch) leaves.fits leaves.types values all (times_set sketch setting.now)
      (times_typed setting.now moment sketch (chart_part root sketch values) (chart_typed values all)) left

  pub done_keeps : (conditions : List Bool) (values : Values) → AreValuesOf root values → (left : ℕ)
      → KeepsFrame root setting.forced values left (chart_done setting sketch (chart_offset root) conditions values) left
  done_keeps conditions values all left =
      part_keeps root setting.forced (chart_offset root) (chart_types sketch) leaves.fits leaves.types values all (moved_on sketch conditions setting.now)
      (moved_typed setting.now moment sketch conditions (chart_part root sketch values) (chart_typed values all)) left

module _ (functions : Functions) (calls : Calls) (known : AreSoundCalls functions calls) (root : Composition) (one : HasOneLeafEach root) where
  -- ---- conditions

  condition_takes : (values : Values) → AreValuesOf root values → (asked : Bool) (line : ℕ) (t : Term) → IsTermOf functions root elems.Bool t → (left : ℕ) (b : Bool) (rest : ℕ)
      → condition_value calls root values asked line t left ≡ gives b rest → rest ≤ left
  condition_takes values all true line t sound left b rest h =
      let behind = stepped_in line left (λ n. then_with (value_of calls root values t n) (λ v m. gives (is_true v) m)) b rest h in
      let v = given_in (value_of calls root values t behind.behind) (λ w m. gives (is_true w) m) b rest behind.then' in
      let is = term_value functions calls known root values one all t behind.behind v.value v.left sound.sound v.first in
      let same = same_left (is_true v.value) b v.left rest v.then' in
      omega (arith, behind.steps, is.steps, same)
  condition_takes values all false line t sound left b rest h = let same = same_left false b left rest h in omega (arith, same)

  conditions_take : (values : Values) → AreValuesOf root values → (asked : ℕ → Bool) (number : ℕ) (ts : Tests) → AreSoundTests functions root ts → (left : ℕ) (bs : List Bool) (rest : ℕ)
      → conditions_meaning calls root values asked number ts left ≡ gives bs rest → rest ≤ left
  conditions_take values all asked number no_tests sound left bs rest h = let same = same_left [] bs left rest h in omega (arith, same)
  conditions_take values all asked number (more_tests line t more) sound left bs rest h =
      let x = given_in (condition_value calls root values (asked number) line t left)
      (λ b n. then_with (conditions_meaning calls root values asked (suc number) more n) (λ cs m. gives (b ∷ cs) m)) bs rest h in
      let xs = given_in (conditions_meaning calls root values asked (suc number) more x.left) (λ cs m. gives (x.value ∷ cs) m) bs rest x.then' in
      let one' = condition_takes values all (asked number) line t sound.0 left x.value x.left x.first in
      let more' = conditions_take values all asked (suc number) more sound.1 x.left xs.value xs.left xs.first in
      let same = same_left (x.value ∷ xs.value) bs xs.left rest xs.then' in
      omega (arith, one', more', same)

  -- ---- names

  pub names_keep : (forced : List Bool) (names : List (Option (List ℕ))) → AreBoolVariables root names → (on : List Bool) (values : Values) → AreValuesOf root values → (left : ℕ)
      → KeepsFrame root forced values left (names_stored root forced names on values) left
  names_keep forced [] bools on values all left = nothing_done root forced values left all
  names_keep forced (None ∷ names) bools on values all left = names_keep forced names bools (drop 1 on) values all left
  names_keep forced (Some name ∷ names) bools on values all left =
      let path = field name ∷ [] in
      let v = truth (get_or on 0 false) in
      let leaf = places_have_leaves functions calls root values elems.Bool (field_part name whole) left path left (record { type = bools.0; parts = tt }) refl in
      let kept = store_keeps root forced values elems.Bool path v left one all leaf (truth_is (get_or on 0 false)) in
      let others = stored_at root forced values path v in
      stays_after root forced values others left left (done (names_stored root forced names (drop 1 on) others) left) kept (names_keep forced names bools.1 (drop 1 on) others kept.all left)
    where
      truth_is : (b : Bool) → IsOf elems.Bool (truth b)
      truth_is true = record { in_range = refl; of_type = refl }
      truth_is false = record { in_range = refl; of_type = refl }

  -- ---- the whole

  pub chart_stays : (sketch : Sketch) (tests : Tests) (actions : ℕ) → IsChart functions root sketch tests actions → (setting : Setting) → IsTrue (in_range elems.Time setting.now)
      → (run : List Bool → Values → ℕ → Outcome) → ((on : List Bool) → AlwaysStays root setting.forced (run on))
      → AlwaysStays root setting.forced (chart_meaning calls root setting sketch tests run)
  chart_stays sketch tests actions sound setting moment run stays values left all =
      let forced = setting.forced in
      let timed = times_done setting sketch (chart_offset root) values in
      let first = times_keep root sketch sound.leaves setting moment values all left in
      let asked = is_asked sketch (chart_part root sketch timed) in
      let go : List Bool → ℕ → Outcome = (λ conditions n.
      let on = names_on sketch conditions setting.now (chart_part root sketch timed) in
      run (actions_on sketch on) (names_stored root forced sketch.variables on (chart_done setting sketch (chart_offset root) conditions timed)) n) in
      stays_after root forced values timed left left (chart_meaning calls root setting sketch tests run values left) first
      (given_stays root forced timed left (conditions_meaning calls root timed asked 0 tests left) go first.all
      (λ bs n h. conditions_take timed first.all asked 0 tests sound.conditions left bs n h)
      (λ bs n h.
      let on = names_on sketch bs setting.now (chart_part root sketch timed) in
      let moved = chart_done setting sketch (chart_offset root) bs timed in
      let second = done_keeps root sketch sound.leaves setting moment bs timed first.all n in
      let stored = names_stored root forced sketch.variables on moved in
      let third = names_keep forced sketch.variables sound.variables on moved second.all n in
      stays_after root forced timed moved n n (run (actions_on sketch on) stored n) second
      (stays_after root forced moved stored n n (run (actions_on sketch on) stored n) third (stays (actions_on sketch on) stored n third.all))))
