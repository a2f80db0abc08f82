-- What an instruction does to a stretch of the values it does among all values, and as many values are left.
use Rattle.std.proofs.Common.{◌≡◌, ℕ, zero, suc, ◌+◌, ◌*◌, ◌-◌, ◌^◌, ◌<◌, ◌≤◌, Bool, true, false, ◌&&◌, if◌then◌else◌, nat_le, nat_lt, ℤ, pos, negsuc, List, [], ◌∷◌, ◌++◌, drop, length, map, get_or, reverse, take, Some, refl, ap, sym, ◌∙◌, subst, arith, length-drop, length-take}
use Rattle.std.specs.Prelude.{◌+ℤ◌, ◌-ℤ◌}
use Rattle.std.proofs.Math.Seq.{drop-drop}
use Rattle.std.proofs.lemmas.Bool.{and_from, and_parts, le-leb, leb-true, lt-ltb, ltb-true}
use Rattle.st_values.specs.Types.{is_same}
use Rattle.st_values.specs.Values.{in_range}
use Rattle.st_values.specs.declared.elem.Elem.{Elem}
use Rattle.st_values.specs.declared.value.Value.{Value}
use Rattle.st_types.specs.Compositions.{standard}
use Rattle.st_types.specs.declared.standard.StandardBlock.{StandardBlock}
use Rattle.st_types.specs.declared.standard.StandardBlock.TheVariants as blocks
use Rattle.st_leaves.specs.Places.{count}
use Rattle.st_blocks.specs.Cells.{types_of}
use Rattle.st_blocks.specs.Steps.{stepped}
use Rattle.st_meaning.specs.Charts.{actions_on, is_asked, moved_on, names_on, times_set, variables_on}
use Rattle.st_meaning.specs.Meaning.{Values, no_value, stored_to}
use Rattle.st_meaning.specs.Operations.{Answer, gives, stops, answered_in, binary_value, takes_one, unary_value}
use Rattle.st_meaning.specs.Sketches.{Sketch, chart_size, chart_types}
use Rattle.st_meaning.specs.Statements.{Setting, Outcome, done, exited, returned, faulted, block_done, chart_done, ended, goes_on, is_nonzero, left_by, part_made, setting_from, stretch, times_done, unless_forced, with_stretch}
use Rattle.st_meaning.proofs.Stretches.{block_count, stretch_at, stretch_length}
use Rattle.st_code.specs.Code.{cell_of}
use Rattle.st_code.specs.Machine.{After, goes, stuck, Environment, UnitBody, act, answered, are_cells_in, are_cells_of, are_of_types, charted, counted, distance_in, entered, enters, gets, has_chart, has_leaf, has_leaves, indexed, is_cell_of, number_in, put, puts, puts_distance, state, takes_operands, tested, truth_of, turned, value_in, values_in}
use Rattle.st_code.specs.Relative.{GoesAlike, InstructionsAreRelative, environment_from, from_leaf}
use Rattle.st_code.specs.declared.instr.Instr.{Instr}
use Rattle.st_code.specs.declared.instr.Instr.TheVariants.{Push, Get, GetAt, Put, PutAt, Index, IndexBelow, Add, Apply, Combine, Select, Step, GoOn, SkipUnless, SkipIf, GoBack, Within, Drop, Begin, Test, Next, Leave, Invoke, Enter, Pick, Call, Times, Ask, Chart, Cut}
use Rattle.st_code.proofs.Stretches.{setting_twice, stretch_twice, with_itself, with_stored, with_twice}

-- ---- the leaves of standard blocks

some_leaves : (b : StandardBlock) → 1 ≤ count (standard b)
some_leaves blocks.RTrig = omega arith
some_leaves blocks.FTrig = omega arith
some_leaves blocks.Sr = omega arith
some_leaves blocks.Rs = omega arith
some_leaves blocks.Ctu = omega arith
some_leaves blocks.Ctd = omega arith
some_leaves blocks.Ton = omega arith
some_leaves blocks.Tof = omega arith
some_leaves blocks.Tp = omega arith

pub as_many_types : (es : List Elem) (values : Values) → are_of_types es values ≡ true → length values ≡ length es
as_many_types [] [] h = refl
as_many_types [] (v ∷ values) h = absurd (cc)
as_many_types (e ∷ es) [] h = absurd (cc)
as_many_types (e ∷ es) (v ∷ values) h =
    ap suc (as_many_types es values (and_parts (is_same v.elem e && in_range e v.bits) (are_of_types es values) h).1)

-- where an instance has values of the block's types, all its leaves are there
pub leaves_fit : (values : Values) (b : StandardBlock) (leaf : ℕ) → has_leaves values b leaf ≡ true → leaf + count (standard b) ≤ length values
leaves_fit values b leaf h =
    let n = count (standard b) in
    let many : length (stretch values leaf n) ≡ n = as_many_types (types_of b) (stretch values leaf n) h ∙ block_count b in
    omega (arith, many, some_leaves b, length-take n (drop leaf values), length-drop leaf values)

-- and where a chart has values of its types
some_size : (sketch : Sketch) → 1 ≤ chart_size sketch
some_size sketch = omega arith

pub chart_fits : (values : Values) (sketch : Sketch) (leaf : ℕ) → has_chart values sketch leaf ≡ true → leaf + chart_size sketch ≤ length values
chart_fits values sketch leaf h =
    let n = chart_size sketch in
    let many : length (stretch values leaf n) ≡ n = as_many_types (chart_types sketch) (stretch values leaf n) h in
    omega (arith, many, some_size sketch, length-take n (drop leaf values), length-drop leaf values)

module _ (values : Values) (first size : ℕ) (fits : first + size ≤ length values) where
  abbrev part : Values
  part = stretch values first size

  abbrev Alike : After → After → Type 0
  Alike = GoesAlike values first

  -- ---- tests

  when_so : (b c : Bool) (x y : After) → (b ≡ true → (c ≡ true) × Alike x y) → Alike (if b then x else stuck) (if c then y else stuck)
  when_so true c x y h = subst (λ d. Alike x (if d then y else stuck)) (sym (h refl).0) (h refl).1
  when_so false c x y h = tt

  when : (b : Bool) (x y : After) → Alike x y → Alike (if b then x else stuck) (if b then y else stuck)
  when true x y h = h
  when false x y h = tt

  either : (b : Bool) (x y z w : After) → Alike x y → Alike z w → Alike (if b then x else z) (if b then y else w)
  either true x y z w h k = h
  either false x y z w h k = k

  -- ---- parts of instructions

  same : (place : ℕ) (stack : List ℤ) (left : ℕ) → Alike (goes (state place stack part left)) (goes (state place stack values left))
  same place stack left = ap (λ (all : Values). goes (state place stack all left)) (sym (with_itself values first size fits))

  inside : (leaf : ℕ) → nat_lt leaf (length part) ≡ true → leaf < size
  inside leaf h = omega (arith, ltb-true leaf (length part) h, stretch_length values first size fits)

  there : (leaf : ℕ) → leaf < size → nat_lt (first + leaf) (length values) ≡ true
  there leaf h = lt-ltb (first + leaf) (length values) (omega (arith, h, fits))

  gets_alike : (leaf place : ℕ) (stack : List ℤ) (left : ℕ) → Alike (gets leaf place stack part left) (gets (first + leaf) place stack values left)
  gets_alike leaf place stack left =
      when_so (nat_lt leaf (length part)) (nat_lt (first + leaf) (length values)) (goes (state (place + 1) (cell_of (get_or part leaf no_value).bits ∷ stack) part left))
      (goes (state (place + 1) (cell_of (get_or values (first + leaf) no_value).bits ∷ stack) values left))
      (λ h. (
        there leaf (inside leaf h),
        ap (λ (v : Value). goes (state (place + 1) (cell_of v.bits ∷ stack) values left)) (sym (stretch_at values first size leaf (inside leaf h)))
            ∙ same (place + 1) (cell_of (get_or part leaf no_value).bits ∷ stack) left,
      ))

  has_leaf_there : (e : Elem) (leaf : ℕ) → has_leaf part e leaf ≡ true → (leaf < size) × (has_leaf values e (first + leaf) ≡ true)
  has_leaf_there e leaf h =
      let both = and_parts (nat_lt leaf (length part)) (is_same (get_or part leaf no_value).elem e) h in
      let few = inside leaf both.0 in (
        few,
        and_from (nat_lt (first + leaf) (length values)) (is_same (get_or values (first + leaf) no_value).elem e) (there leaf few)
            (ap (λ (v : Value). is_same v.elem e) (sym (stretch_at values first size leaf few)) ∙ both.1),
      )

  puts_alike : (marks : List Bool) (e : Elem) (cell : ℤ) (leaf place : ℕ) (stack : List ℤ) (left : ℕ)
      → Alike (puts (drop first marks) e cell leaf place stack part left) (puts marks e cell (first + leaf) place stack values left)
  puts_alike marks e cell leaf place stack left =
      when_so (has_leaf part e leaf && is_cell_of e cell) (has_leaf values e (first + leaf) && is_cell_of e cell)
      (goes (state place stack (stored_to (drop first marks) part (value_in e cell) (Some leaf)) left))
      (goes (state place stack (stored_to marks values (value_in e cell) (Some (first + leaf))) left))
      (λ h.
      let both = and_parts (has_leaf part e leaf) (is_cell_of e cell) h in
      let at = has_leaf_there e leaf both.0 in (
        and_from (has_leaf values e (first + leaf)) (is_cell_of e cell) at.1 both.1,
        ap (λ (all : Values). goes (state place stack all left)) (with_stored values first size fits marks leaf (value_in e cell) at.0),
      ))

  distance_alike : (n place : ℕ) (stack : List ℤ) (left : ℕ) → Alike (puts_distance n place stack part left) (puts_distance n place stack values left)
  distance_alike n place stack left =
      when (nat_lt n (2 ^ 63)) (goes (state (place + 1) (pos n ∷ stack) part left)) (goes (state (place + 1) (pos n ∷ stack) values left)) (same (place + 1) (pos n ∷ stack) left)

  indexed_alike : (i : ℤ) (last stride more line place : ℕ) (stack : List ℤ) (left : ℕ)
      → Alike (indexed i last stride more line place stack part left) (indexed i last stride more line place stack values left)
  indexed_alike (pos far) last stride more line place stack left =
      either (nat_le far last) _ _ _ _ (distance_alike (more + far * stride) place stack left) refl
  indexed_alike (negsuc n) last stride more line place stack left = refl

  answered_alike : (a : Answer Value) (place : ℕ) (stack : List ℤ) → Alike (answered a place stack part) (answered a place stack values)
  answered_alike (gives v left) place stack = same (place + 1) (cell_of v.bits ∷ stack) left
  answered_alike (stops f) place stack = refl

  counted_alike : (line left : ℕ) (go on : ℕ → After) → ((n : ℕ) → Alike (go n) (on n)) → Alike (counted line left go) (counted line left on)
  counted_alike line zero go on h = refl
  counted_alike line (suc n) go on h = h n

  -- ---- FOR

  tested_alike : (marks : List Bool) (e : Elem) (leaf distance : ℕ) (step last counter : ℤ) (place : ℕ) (stack : List ℤ) (left : ℕ)
      → Alike (tested (drop first marks) e leaf distance step last counter place stack part left)
      (tested marks e (first + leaf) distance step last counter place stack values left)
  tested_alike marks e leaf distance step last counter place stack left =
      either (goes_on (number_in e counter) (number_in e last) (number_in e step)) _ _ _ _
      (puts_alike marks e counter leaf (place + 1) (step ∷ last ∷ counter ∷ stack) left)
      (same (place + 1 + distance) (step ∷ last ∷ counter ∷ stack) left)

  turned_alike : (marks : List Bool) (e : Elem) (leaf distance : ℕ) (number step last counter : ℤ) (place : ℕ) (stack : List ℤ) (left : ℕ)
      → Alike (turned (drop first marks) e leaf distance number step last counter place stack part left)
      (turned marks e (first + leaf) distance number step last counter place stack values left)
  turned_alike marks e leaf distance number step last counter place stack left =
      either (goes_on number (number_in e last) (number_in e step)) _ _ _ _
      (puts_alike marks e (cell_of number) leaf (place - distance) (step ∷ last ∷ cell_of number ∷ stack) left)
      (same (place + 1) (step ∷ last ∷ counter ∷ stack) left)

  -- ---- invocations

  block_alike : (setting : Setting) (b : StandardBlock) (leaf : ℕ) → leaf + count (standard b) ≤ size
      → block_done setting b (first + leaf) values ≡ with_stretch values first (block_done (setting_from first setting) b leaf part)
  block_alike setting b leaf few =
      let n = count (standard b) in
      let marks = setting.forced in
      let made : List Bool → Values → Values = (λ forced old. unless_forced forced old (stepped b old setting.now)) in
      let old : stretch part leaf n ≡ stretch values (first + leaf) n = stretch_twice values first size leaf n few in
      let twice : drop leaf (drop first marks) ≡ drop (first + leaf) marks = ap (λ (s : Setting). s.forced) (setting_twice first leaf setting) in
      ap (λ (vs : Values). with_stretch values (first + leaf) (made (drop (first + leaf) marks) vs)) (sym old)
      ∙ ap (λ (forced : List Bool). with_stretch values (first + leaf) (made forced (stretch part leaf n))) (sym twice)
      ∙ sym (with_twice values first size fits leaf (made (drop leaf (drop first marks)) (stretch part leaf n)) (omega (arith, few)))

  invoke_alike : (setting : Setting) (b : StandardBlock) (leaf place : ℕ) (stack : List ℤ) (left : ℕ)
      → Alike (if has_leaves part b leaf then goes (state place stack (block_done (setting_from first setting) b leaf part) left) else stuck)
      (if has_leaves values b (first + leaf) then goes (state place stack (block_done setting b (first + leaf) values) left) else stuck)
  invoke_alike setting b leaf place stack left =
      when_so (has_leaves part b leaf) (has_leaves values b (first + leaf)) _ _
      (λ h.
      let few : leaf + count (standard b) ≤ size = omega (arith, leaves_fit part b leaf h, stretch_length values first size fits) in (
        ap (λ (vs : Values). are_of_types (types_of b) vs) (sym (stretch_twice values first size leaf (count (standard b)) few)) ∙ h,
        ap (λ (all : Values). goes (state place stack all left)) (block_alike setting b leaf few),
      ))

  -- ---- charts

  part_alike : (marks : List Bool) (leaf n : ℕ) (make : Values → Values) → leaf + n ≤ size
      → part_made marks (first + leaf) n make values ≡ with_stretch values first (part_made (drop first marks) leaf n make part)
  part_alike marks leaf n make few =
      let made : List Bool → Values → Values = (λ forced old. unless_forced forced old (make old)) in
      ap (λ (vs : Values). with_stretch values (first + leaf) (made (drop (first + leaf) marks) vs)) (sym (stretch_twice values first size leaf n few))
      ∙ ap (λ (forced : List Bool). with_stretch values (first + leaf) (made forced (stretch part leaf n))) (sym (drop-drop leaf first marks))
      ∙ sym (with_twice values first size fits leaf (made (drop leaf (drop first marks)) (stretch part leaf n)) (omega (arith, few)))

  -- the leaves of a chart in the stretch are there among all values
  chart_inside : (sketch : Sketch) (leaf : ℕ) → has_chart part sketch leaf ≡ true → leaf + chart_size sketch ≤ size
  chart_inside sketch leaf h = omega (arith, chart_fits part sketch leaf h, stretch_length values first size fits)

  chart_there : (sketch : Sketch) (leaf : ℕ) → leaf + chart_size sketch ≤ size → has_chart part sketch leaf ≡ true → has_chart values sketch (first + leaf) ≡ true
  chart_there sketch leaf few h = ap (λ (vs : Values). are_of_types (chart_types sketch) vs) (sym (stretch_twice values first size leaf (chart_size sketch) few)) ∙ h

  times_alike : (setting : Setting) (sketch : Sketch) (leaf place : ℕ) (stack : List ℤ) (left : ℕ)
      → Alike (if has_chart part sketch leaf then goes (state place stack (times_done (setting_from first setting) sketch leaf part) left) else stuck)
      (if has_chart values sketch (first + leaf) then goes (state place stack (times_done setting sketch (first + leaf) values) left) else stuck)
  times_alike setting sketch leaf place stack left =
      when_so (has_chart part sketch leaf) (has_chart values sketch (first + leaf)) _ _
      (λ h.
      let few = chart_inside sketch leaf h in (
        chart_there sketch leaf few h,
        ap (λ (all : Values). goes (state place stack all left)) (part_alike setting.forced leaf (chart_size sketch) (times_set sketch setting.now) few),
      ))

  ask_alike : (sketch : Sketch) (room leaf number place : ℕ) (stack : List ℤ) (left : ℕ)
      → Alike (if has_chart part sketch leaf then put room place (truth_of (is_asked sketch (stretch part leaf (chart_size sketch)) number)) stack part left else stuck)
      (if has_chart values sketch (first + leaf) then put room place (truth_of (is_asked sketch (stretch values (first + leaf) (chart_size sketch)) number)) stack values left else stuck)
  ask_alike sketch room leaf number place stack left =
      when_so (has_chart part sketch leaf) (has_chart values sketch (first + leaf)) _ _
      (λ h.
      let few = chart_inside sketch leaf h in
      let cell = truth_of (is_asked sketch (stretch part leaf (chart_size sketch)) number) in (
        chart_there sketch leaf few h,
        subst (λ (vs : Values). Alike (put room place cell stack part left) (put room place (truth_of (is_asked sketch vs number)) stack values left))
            (stretch_twice values first size leaf (chart_size sketch) few)
            (when (nat_lt (length stack) room) (goes (state (place + 1) (cell ∷ stack) part left)) (goes (state (place + 1) (cell ∷ stack) values left)) (same (place + 1) (cell ∷ stack) left)),
      ))

  -- what an invocation leaves on the stack
  abbrev cells_of : Setting → Sketch → List ℤ → Values → List ℤ
  cells_of setting sketch stack cells =
      let count = length sketch.passages in
      let on = names_on sketch (reverse (map is_nonzero (take count stack))) setting.now cells in
      map truth_of (variables_on sketch.variables on) ++ (map truth_of (actions_on sketch on) ++ drop count stack)

  charted_alike : (setting : Setting) (sketch : Sketch) (room leaf place : ℕ) (stack : List ℤ) (left : ℕ)
      → Alike (charted (setting_from first setting) sketch room leaf place stack part left) (charted setting sketch room (first + leaf) place stack values left)
  charted_alike setting sketch room leaf place stack left =
      let count = length sketch.passages in
      let conditions = reverse (map is_nonzero (take count stack)) in
      let n = chart_size sketch in
      let fits_room : Values → Bool = (λ cells. nat_le (length (cells_of setting sketch stack cells)) room) in
      when_so (has_chart part sketch leaf && nat_le count (length stack) && fits_room (stretch part leaf n))
      (has_chart values sketch (first + leaf) && nat_le count (length stack) && fits_room (stretch values (first + leaf) n)) _ _
      (λ h.
      let both = and_parts (has_chart part sketch leaf && nat_le count (length stack)) (fits_room (stretch part leaf n)) h in
      let there' = (and_parts (has_chart part sketch leaf) (nat_le count (length stack)) both.0).0 in
      let few = chart_inside sketch leaf there' in
      let same_cells : stretch part leaf n ≡ stretch values (first + leaf) n = stretch_twice values first size leaf n few in (
        subst (λ (vs : Values). (are_of_types (chart_types sketch) vs && nat_le count (length stack) && fits_room vs) ≡ true) same_cells h,
        ap (λ (vs : Values). goes (state (place + 1) (cells_of setting sketch stack vs) (chart_done setting sketch (first + leaf) conditions values) left)) (sym same_cells)
            ∙ ap (λ (all : Values). goes (state (place + 1) (cells_of setting sketch stack (stretch part leaf n)) all left))
            (part_alike setting.forced leaf n (moved_on sketch conditions setting.now) few),
      ))

  left_alike : (unit leaf place : ℕ) (stack : List ℤ) (o : Outcome) → leaf ≤ size
      → Alike (entered place stack (left_by unit leaf part o)) (entered place stack (left_by unit (first + leaf) values o))
  left_alike unit leaf place stack (done others n) few =
      ap (λ (all : Values). goes (state (place + 1) stack all n)) (sym (with_twice values first size fits leaf others few))
  left_alike unit leaf place stack (exited others n) few = tt
  left_alike unit leaf place stack (returned others n) few = tt
  left_alike unit leaf place stack (faulted f) few = refl

  enters_alike : (setting : Setting) (body : UnitBody) (unit leaf place : ℕ) (stack : List ℤ) (left : ℕ)
      → Alike (enters (setting_from first setting) body unit leaf place stack part left) (enters setting body unit (first + leaf) place stack values left)
  enters_alike setting body unit leaf place stack left =
      let o = ended (body.run (setting_from leaf (setting_from first setting)) (stretch part leaf body.size) left) in
      let p = ended (body.run (setting_from (first + leaf) setting) (stretch values (first + leaf) body.size) left) in
      when_so (nat_le (leaf + body.size) (length part)) (nat_le (first + leaf + body.size) (length values)) (entered place stack (left_by unit leaf part o))
      (entered place stack (left_by unit (first + leaf) values p))
      (λ h.
      let few : leaf + body.size ≤ size = omega (arith, leb-true (leaf + body.size) (length part) h, stretch_length values first size fits) in
      let same_end : o ≡ p =
      ap (λ (s : Setting). ended (body.run s (stretch part leaf body.size) left)) (setting_twice first leaf setting)
      ∙ ap (λ (vs : Values). ended (body.run (setting_from (first + leaf) setting) vs left)) (stretch_twice values first size leaf body.size few)
      in (
        le-leb (first + leaf + body.size) (length values) (omega (arith, few, fits)),
        subst (λ (q : Outcome). Alike (entered place stack (left_by unit leaf part o)) (entered place stack (left_by unit (first + leaf) values q))) same_end
            (left_alike unit leaf place stack o (omega (arith, few))),
      ))

  -- ---- instructions

  module _ (env : Environment) (room : ℕ) where
    act_alike : (i : Instr) (line place : ℕ) (stack : List ℤ) (left : ℕ)
        → Alike (act (environment_from first env) room i line place stack part left) (act env room (from_leaf first i) line place stack values left)
    act_alike (Push n) line place stack left = when (nat_lt (length stack) room) _ _ (same (place + 1) (n ∷ stack) left)
    act_alike (Get leaf) line place stack left = when (nat_lt (length stack) room) _ _ (gets_alike leaf place stack left)
    act_alike (GetAt leaf) line place (n ∷ stack) left =
        let sum : first + (leaf + distance_in n) ≡ first + leaf + distance_in n = omega arith in
        subst (λ k. Alike (gets (leaf + distance_in n) place stack part left) (gets k place stack values left)) sum (gets_alike (leaf + distance_in n) place stack left)
    act_alike (Put e leaf) line place (v ∷ stack) left = puts_alike env.setting.forced e v leaf (place + 1) stack left
    act_alike (PutAt e leaf) line place (n ∷ v ∷ stack) left =
        let sum : first + (leaf + distance_in n) ≡ first + leaf + distance_in n = omega arith in
        subst
        (λ k. Alike (puts (drop first env.setting.forced) e v (leaf + distance_in n) (place + 1) stack part left) (puts env.setting.forced e v k (place + 1) stack values left))
        sum (puts_alike env.setting.forced e v (leaf + distance_in n) (place + 1) stack left)
    act_alike (Index e last stride low) line place (i ∷ stack) left = indexed_alike (number_in e i -ℤ low) last stride 0 line place stack left
    act_alike (IndexBelow e last stride low) line place (n ∷ i ∷ stack) left =
        indexed_alike (number_in e i -ℤ low) last stride (distance_in n) line place stack left
    act_alike Add line place (m ∷ n ∷ stack) left = distance_alike (distance_in n + distance_in m) place stack left
    act_alike (Apply o e) line place (v ∷ stack) left =
        when (takes_one o e && is_cell_of e v) _ _ (same (place + 1) (cell_of (unary_value o (value_in e v)).bits ∷ stack) left)
    act_alike (Combine o e f) line place (w ∷ v ∷ stack) left =
        when (takes_operands o e f && is_cell_of e v && is_cell_of f w) _ _
        (answered_alike (binary_value o line (value_in e v) (value_in f w) left) place stack)
    act_alike Select line place (w ∷ v ∷ g ∷ stack) left = same (place + 1) ((if is_nonzero g then w else v) ∷ stack) left
    act_alike Step line place stack left = counted_alike line left _ _ (λ n. same (place + 1) stack n)
    act_alike (GoOn distance) line place stack left = same (place + 1 + distance) stack left
    act_alike (SkipUnless distance) line place (v ∷ stack) left = same (if is_nonzero v then place + 1 else (place + 1 + distance)) stack left
    act_alike (SkipIf distance) line place (v ∷ stack) left = same (if is_nonzero v then place + 1 + distance else (place + 1)) stack left
    act_alike (GoBack distance) line place stack left = counted_alike line left _ _ (λ n. same (place - distance) stack n)
    act_alike (Within e) line place (high ∷ low ∷ found ∷ v ∷ stack) left = same (place + 1) _ left
    act_alike Drop line place (v ∷ stack) left = same (place + 1) stack left
    act_alike (Begin e leaf) line place (step ∷ last ∷ counter ∷ stack) left =
        puts_alike env.setting.forced e counter leaf (place + 1) (step ∷ last ∷ counter ∷ stack) left
    act_alike (Test e leaf distance) line place (step ∷ last ∷ counter ∷ stack) left =
        when (are_cells_of e step last counter) _ _ (tested_alike env.setting.forced e leaf distance step last counter place stack left)
    act_alike (Next e leaf distance) line place (step ∷ last ∷ counter ∷ stack) left =
        when (are_cells_of e step last counter) _ _
        (counted_alike line left _ _ (λ n. turned_alike env.setting.forced e leaf distance (number_in e counter +ℤ number_in e step) step last counter place stack n))
    act_alike Leave line place (step ∷ last ∷ counter ∷ stack) left = same (place + 1) stack left
    act_alike (Invoke b leaf) line place stack left = invoke_alike env.setting b leaf (place + 1) stack left
    act_alike (Enter leaf unit) line place stack left = enters_alike env.setting (env.bodies unit) unit leaf place stack left
    act_alike (Pick distance) line place stack left =
        when (nat_lt distance (length stack)) _ _ (when (nat_lt (length stack) room) _ _ (same (place + 1) (get_or stack distance (pos 0) ∷ stack) left))
    act_alike (Call unit inputs below) line place stack left =
        let f = env.functions unit in
        let cells = reverse (take inputs stack) in
        let rest = drop (inputs + below) stack in
        when (are_cells_in f.inputs cells && nat_lt (length rest) room) _ _
        (answered_alike (answered_in unit (f.run (values_in f.inputs cells) left)) place rest)
    act_alike (Times unit leaf) line place stack left = times_alike env.setting (env.charts unit) leaf (place + 1) stack left
    act_alike (Ask unit leaf number) line place stack left = ask_alike (env.charts unit) room leaf number place stack left
    act_alike (Chart unit leaf) line place stack left = charted_alike env.setting (env.charts unit) room leaf place stack left
    act_alike (Cut count) line place stack left = when (nat_le count (length stack)) _ _ (same (place + 1) (drop (length stack - count) stack) left)
    act_alike i line place stack left = tt

pub instructions_are_relative : InstructionsAreRelative
instructions_are_relative env room i line place stack values left first size fits = act_alike values first size fits env room i line place stack left
