-- The leaves of a chart among all, and what is made of them.
use Rattle.std.proofs.Common.{◌≡◌, ℕ, ◌+◌, ◌<◌, ◌≤◌, ℤ, Bool, true, false, List, [], ◌∷◌, ◌++◌, length, get_or, map, drop, Option, Some, None, w64, FitsSigned, refl, sym, ap, subst, ◌∙◌, arith, length-take, length-drop}
use Rattle.std.specs.List.{AllZip}
use Rattle.std.specs.Option.{is_some}
use Rattle.std.proofs.lemmas.Slice.Zip.{AllZip-long}
use Rattle.st_values.specs.declared.elem.Elem.TheVariants as elems
use Rattle.st_values.specs.declared.value.Value.{Value}
use Rattle.st_tree.specs.declared.leaf.Leaf.{Leaf}
use Rattle.st_values.specs.Values.{IsOfType}
use Rattle.st_blocks.proofs.TypeLemmas.{cell_typed}
use Rattle.st_blocks.proofs.RangeLemmas.{is_time}
use Rattle.st_memory.specs.Memory.{Content, Fits}
use Rattle.st_memory.proofs.Contents.{value_fits}
use Rattle.st_meaning.specs.Charts.{moved_on, times_set}
use Rattle.st_meaning.specs.Meaning.{Values, no_value}
use Rattle.st_meaning.specs.Sketches.{Sketch, chart_types, flags_types, steps_types}
use Rattle.st_meaning.specs.Statements.{part_made, stretch, unless_forced, with_stretch}
use Rattle.st_meaning.proofs.ChartStates.{moved_typed, times_typed}
use Rattle.st_meaning.proofs.Stretches.{stretch_at}
use Rattle.st_meaning.specs.Views.{IsOf, SketchView}
use Rattle.st_chart_runs.specs.Leaves.{FitFrom}
use Rattle.st_chart_runs.specs.Views.{StandsAt, types_of}

-- ---- some chart with these numbers

abbrev nameless : Bool → Option (List ℕ)
nameless true = Some []
nameless false = None

same_names : (bs : List Bool) → bs ≡ map is_some (map nameless bs)
same_names [] = refl
same_names (true ∷ bs) = ap (λ (cs : List Bool). true ∷ cs) (same_names bs)
same_names (false ∷ bs) = ap (λ (cs : List Bool). false ∷ cs) (same_names bs)

abbrev some_sketch : SketchView → Sketch
some_sketch view = record {
  pulses = view.pulses;
  passages = view.passages;
  links = view.links;
  variables = map nameless view.variables;
  stored = view.stored;
  actions = view.actions;
}

some_is : (view : SketchView) → IsOf view (some_sketch view)
some_is view = record { pulses = refl; passages = refl; links = refl; variables = same_names view.variables; stored = refl; actions = refl }

-- what follows is of the types of its leaves
pub timed_typed : (view : SketchView) (now : ℤ) → FitsSigned w64 now → (old new : Values) → AllZip IsOfType (types_of view) old
    → ((s : Sketch) → IsOf view s → new ≡ times_set s now old) → AllZip IsOfType (types_of view) new
timed_typed view now fits old new typed made =
    subst (λ (vs : Values). AllZip IsOfType (types_of view) vs) (sym (made (some_sketch view) (some_is view))) (times_typed now (is_time now fits) (some_sketch view) old typed)

pub invoked_typed : (view : SketchView) (now : ℤ) → FitsSigned w64 now → (conditions : List Bool) (old new : Values) → AllZip IsOfType (types_of view) old
    → ((s : Sketch) → IsOf view s → new ≡ moved_on s conditions now old) → AllZip IsOfType (types_of view) new
invoked_typed view now fits conditions old new typed made =
    subst (λ (vs : Values). AllZip IsOfType (types_of view) vs) (sym (made (some_sketch view) (some_is view)))
    (moved_typed now (is_time now fits) (some_sketch view) conditions old typed)

-- ---- its leaves

pub types_are : (view : SketchView) (s : Sketch) → IsOf view s → types_of view ≡ chart_types s
types_are view s is =
    ap (λ (ps : List Bool). elems.Bool ∷ (steps_types ps ++ flags_types view.stored)) is.pulses
    ∙ ap (λ (ns : List ℕ). elems.Bool ∷ (steps_types s.pulses ++ flags_types ns)) is.stored

some_types : (view : SketchView) → 0 < length (types_of view)
some_types view = omega arith

-- they are all there
pub leaves_there : (view : SketchView) (leaf : ℕ) (values : Values) → StandsAt view leaf values → leaf + length (types_of view) ≤ length values
leaves_there view leaf values stands =
    let n = length (types_of view) in
    omega (arith, some_types view, AllZip-long IsOfType (types_of view) (stretch values leaf n) stands, length-take n (drop leaf values), length-drop leaf values)

-- what is read has their types
pub read_typed : (view : SketchView) (leaf : ℕ) (values cells : Values) (n : ℕ) → StandsAt view leaf values → n ≡ length (types_of view) → cells ≡ stretch values leaf n
    → AllZip IsOfType (types_of view) cells
read_typed view leaf values cells n stands many is =
    subst (λ (vs : Values). AllZip IsOfType (types_of view) vs) (sym (is ∙ ap (stretch values leaf) many)) stands

-- and what has their types can be stored
pub written_fit : (leaves : List Leaf) (content : Content) (view : SketchView) (leaf : ℕ) (new : Values) → Fits leaves content → StandsAt view leaf content.values
    → AllZip IsOfType (types_of view) new → FitFrom leaves leaf new
written_fit leaves content view leaf new fit stands typed i h =
    let ts = types_of view in
    let size = length ts in
    let below : i < size = omega (arith, h, AllZip-long IsOfType ts new typed) in
    let there : leaf + i < length leaves = omega (arith, below, leaves_there view leaf content.values stands, fit.values) in
    let value = value_fits leaves content.values (leaf + i) fit.types there in
    let old = cell_typed ts (stretch content.values leaf size) stands i below in
    let now = cell_typed ts new typed i below in
    let same : get_or (stretch content.values leaf size) i no_value ≡ get_or content.values (leaf + i) no_value = stretch_at content.values leaf size i below in
    record { elem = now.0 ∙ sym old.0 ∙ ap (λ (v : Value). v.elem) same ∙ value.elem; in_range = now.1 }

-- what is made of the values of the leaves takes their place
pub part_is : (marks : List Bool) (values cells new : Values) (leaf m n : ℕ) (make : Values → Values) → length new ≡ n → m ≡ n → cells ≡ stretch values leaf m → new ≡ make cells
    → with_stretch values leaf (unless_forced (drop leaf marks) (stretch values leaf (length new)) new) ≡ part_made marks leaf n make values
part_is marks values cells new leaf m n make long many is made =
    ap (λ k. with_stretch values leaf (unless_forced (drop leaf marks) (stretch values leaf k) new)) long
    ∙ ap (λ (vs : Values). with_stretch values leaf (unless_forced (drop leaf marks) (stretch values leaf n) vs)) (made ∙ ap make (is ∙ ap (stretch values leaf) many))
