-- Invocations of function blocks keep the frame (3.3.2.2).
use Rattle.std.proofs.Common.{◌≡◌, ℕ, ◌<◌, ℤ, Bool, true, false, List, IsTrue, drop, length, get_or, if◌then◌else◌, refl, ap, sym, ◌∙◌, subst, arith}
use Rattle.std.proofs.lemmas.Slice.Zip.{AllZip-long}
use Rattle.st_values.specs.Values.{in_range, IsOfType}
use Rattle.st_values.specs.declared.elem.Elem.TheVariants as elems
use Rattle.st_values.specs.declared.value.Value.{Value}
use Rattle.st_types.specs.Compositions.{Composition, standard}
use Rattle.st_types.specs.declared.standard.StandardBlock.{StandardBlock}
use Rattle.st_leaves.specs.Paths.{Path}
use Rattle.st_leaves.specs.Places.{count}
use Rattle.st_leaves.specs.Selected.{selected_by}
use Rattle.st_blocks.specs.Cells.{AreLeavesOf, types_of}
use Rattle.st_blocks.specs.Steps.{stepped}
use Rattle.st_blocks.proofs.TypeLemmas.{blocks_keep_their_types, cell_typed}
use Rattle.st_operators.specs.Laws.{IsOf}
use Rattle.st_meaning.specs.Laws.{KeepsFrame, StaysInFrame}
use Rattle.st_meaning.specs.Meaning.{Calls, Values, located, no_value, stored_at, value_of}
use Rattle.st_meaning.specs.Offsets.{offset_of}
use Rattle.st_meaning.specs.Sound.{AreSoundCalls, AreSoundMoves, AreValuesOf, HasOneLeafEach, IsInvocation, term_type, type_at}
use Rattle.st_meaning.specs.Statements.{Outcome, Setting, done, exited, returned, faulted, after_step, block_done, body_meaning, command_meaning, given, instance_meaning, left_by, moves_meaning, setting_from, stretch, then_do, unless_forced}
use Rattle.st_meaning.specs.Terms.{Body, Moves, no_moves, more_moves, invoke, enter}
use Rattle.st_meaning.specs.Wholes.{Functions}
use Rattle.st_meaning.proofs.Frames.{AlwaysStays, given_stays, nothing_done, stays_after, step_stays, store_keeps, then_stays}
use Rattle.st_meaning.proofs.Instances.{part_keeps}
use Rattle.st_meaning.proofs.Places.{places_have_leaves}
use Rattle.st_meaning.proofs.Stretches.{block_count, block_type, cells_typed, part_values, unless_at, unless_length}
use Rattle.st_meaning.proofs.TermValues.{places_take_steps, term_value}

-- ---- what a block does to the values of an instance

module _ (b : StandardBlock) (now : ℤ) (in_time : IsTrue (in_range elems.Time now)) (forced : List Bool) (old : Values) (all : AreValuesOf (standard b) old) where
  abbrev made : Values
  made = stepped b old now

  made_typed : AreLeavesOf b made
  made_typed = blocks_keep_their_types b old now in_time (cells_typed b old all)

  made_length : length made ≡ count (standard b)
  made_length = AllZip-long IsOfType (types_of b) made made_typed ∙ block_count b

  as_many : length old ≡ length made
  as_many = all.all ∙ sym made_length

  either_is : (i : ℕ) → i < count (standard b) → (f : Bool) → IsOf (type_at (standard b) i) (if f then get_or old i no_value else get_or made i no_value)
  either_is i h true = all.each i h
  either_is i h false =
      let cell = cell_typed (types_of b) made made_typed i (subst (λ n. i < n) (sym (block_count b)) h) in
      record { in_range = cell.1; of_type = cell.0 ∙ sym (block_type b i) }

  cells_keep : (left : ℕ) → KeepsFrame (standard b) forced old left (unless_forced forced old made) left
  cells_keep left = record {
    all = record {
      all = unless_length forced old made as_many ∙ made_length;
      each = λ i less. subst (IsOf (type_at (standard b) i)) (sym (unless_at forced old made as_many i)) (either_is i less (get_or forced i false));
    };
    kept = λ i f. unless_at forced old made as_many i ∙ ap (λ t. if t then get_or old i no_value else get_or made i no_value) f;
    steps = omega arith;
  }

pub block_keeps : (root : Composition) (setting : Setting) → IsTrue (in_range elems.Time setting.now) → (name : List ℕ) (b : StandardBlock) → selected_by root name ≡ standard b
    → (values : Values) → AreValuesOf root values → (left : ℕ) → KeepsFrame root setting.forced values left (block_done setting b (offset_of root name) values) left
block_keeps root setting now name b is values all left =
    let offset = offset_of root name in
    let old = stretch values offset (count (standard b)) in
    let forced = drop offset setting.forced in
    part_keeps root name (standard b) is setting.forced values all left (unless_forced forced old (stepped b old setting.now)) left
    (cells_keep b setting.now now forced old (part_values root name (standard b) is values all) left)

-- ---- inputs and outputs

module _ (functions : Functions) (calls : Calls) (known : AreSoundCalls functions calls) (root : Composition) (setting : Setting) (one : HasOneLeafEach root) where
  pub moves_stay : (ms : Moves) → AreSoundMoves functions root ms → AlwaysStays root setting.forced (moves_meaning calls root setting ms)
  moves_stay no_moves sound values left all = nothing_done root setting.forced values left all
  moves_stay (more_moves ps t more) sound values left all =
      let forced = setting.forced in
      let e = term_type root t in
      let found : Value → Path → ℕ → Outcome = (λ v path m. moves_meaning calls root setting more (stored_at root forced values path v) m) in
      given_stays root forced values left (value_of calls root values t left) (λ v n. given (located calls root values root ps n) (found v)) all
      (λ v n h. (term_value functions calls known root values one all t left v n sound.1 h).steps)
      (λ v n h. given_stays root forced values n (located calls root values root ps n) (found v) all
      (λ path m k. places_take_steps functions calls root values e ps n path m known one all sound.0 k)
      (λ path m k.
      let others = stored_at root forced values path v in
      let kept = store_keeps root forced values e path v m one all (places_have_leaves functions calls root values e ps n path m sound.0 k)
      (term_value functions calls known root values one all t left v n sound.1 h).value in
      stays_after root forced values others m m (moves_meaning calls root setting more others m) kept (moves_stay more sound.2 others m kept.all)))

  pub invoke_stays : IsTrue (in_range elems.Time setting.now) → (line : ℕ) (name : List ℕ) (b : StandardBlock) (inputs outputs : Moves)
      → IsInvocation functions root name b inputs outputs → AlwaysStays root setting.forced (command_meaning calls root setting (invoke line name b inputs outputs))
  invoke_stays now line name b inputs outputs sound values left all =
      let forced = setting.forced in
      let behind : Values → ℕ → Outcome = (λ others k. moves_meaning calls root setting outputs (block_done setting b (offset_of root name) others) k) in
      let run : ℕ → Outcome = (λ n. then_do (moves_meaning calls root setting inputs values n) behind) in
      step_stays root forced values line left (λ m. after_step line m run) all
      (λ m. step_stays root forced values line m run all
      (λ n. then_stays root forced values n (moves_meaning calls root setting inputs values n) behind (moves_stay inputs sound.inputs values n all)
      (λ others k whole.
      let kept = block_keeps root setting now name b sound.block others whole k in
      let made = block_done setting b (offset_of root name) others in
      stays_after root forced others made k k (moves_meaning calls root setting outputs made k) kept (moves_stay outputs sound.outputs made k kept.all))))

  -- ---- function blocks of the text

  -- what a body leaves of an instance keeps the frame of the whole where it keeps that of the instance
  left_stays : (name : List ℕ) (unit : ℕ) (values : Values) (left : ℕ) → AreValuesOf root values → (o : Outcome)
      → StaysInFrame (selected_by root name) (drop (offset_of root name) setting.forced) (stretch values (offset_of root name) (count (selected_by root name))) left o
      → StaysInFrame root setting.forced values left (left_by unit (offset_of root name) values o)
  left_stays name unit values left all (done part rest) keeps = part_keeps root name (selected_by root name) refl setting.forced values all left part rest keeps
  left_stays name unit values left all (exited part rest) keeps = part_keeps root name (selected_by root name) refl setting.forced values all left part rest keeps
  left_stays name unit values left all (returned part rest) keeps = part_keeps root name (selected_by root name) refl setting.forced values all left part rest keeps
  left_stays name unit values left all (faulted f) keeps = tt

  -- the body of an instance always stays in its frame
  abbrev pub BodyStays : List ℕ → (Setting → Values → ℕ → Outcome) → Type 0
  BodyStays name body =
      AlwaysStays (selected_by root name) (drop (offset_of root name) setting.forced) (body (setting_from (offset_of root name) setting))

  instance_stays : (name : List ℕ) (unit : ℕ) (body : Setting → Values → ℕ → Outcome) → BodyStays name body
      → AlwaysStays root setting.forced (instance_meaning root setting name unit body)
  instance_stays name unit body stays values left all =
      let offset = offset_of root name in
      let part = selected_by root name in
      let old = stretch values offset (count part) in
      left_stays name unit values left all (body (setting_from offset setting) old left) (stays old left (part_values root name part refl values all))

  pub enter_stays : (line : ℕ) (name : List ℕ) (unit : ℕ) (body : Body) (inputs outputs : Moves) → AreSoundMoves functions root inputs → AreSoundMoves functions root outputs
      → BodyStays name (λ within part i. body_meaning calls (selected_by root name) within body part i)
      → AlwaysStays root setting.forced (command_meaning calls root setting (enter line name unit body inputs outputs))
  enter_stays line name unit body inputs outputs entering leaving stays values left all =
      let forced = setting.forced in
      let run : Values → ℕ → Outcome = instance_meaning root setting name unit (λ within part i. body_meaning calls (selected_by root name) within body part i) in
      let after : Values → ℕ → Outcome = (λ them j. moves_meaning calls root setting outputs them j) in
      let behind : Values → ℕ → Outcome = (λ others k. then_do (run others k) after) in
      let go : ℕ → Outcome = (λ n. then_do (moves_meaning calls root setting inputs values n) behind) in
      step_stays root forced values line left (λ m. after_step line m go) all
      (λ m. step_stays root forced values line m go all
      (λ n. then_stays root forced values n (moves_meaning calls root setting inputs values n) behind (moves_stay inputs entering values n all)
      (λ others k whole. then_stays root forced others k (run others k) after
      (instance_stays name unit (λ within part i. body_meaning calls (selected_by root name) within body part i) stays others k whole)
      (λ them j full. moves_stay outputs leaving them j full))))
