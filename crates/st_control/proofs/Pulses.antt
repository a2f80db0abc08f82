-- What tells whether a step has given its pulses names the flags of this step and of its chart.
use Rattle.std.proofs.Common.{◌≡◌, ℕ, zero, suc, ◌+◌, ◌-◌, ◌<◌, List, [], ◌∷◌, ◌++◌, codes, get_or, length, Option, Some, None, refl, ap, sym, ◌∙◌, arith}
use Rattle.std.specs.Char.{to_ascii_uppercase}
use Rattle.std.proofs.lemmas.Grind.{flat_map-append}
use Rattle.std.proofs.lemmas.List.{append_assoc, map-append}
use Rattle.st_values.specs.Words.{raised}
use Rattle.st_tree.specs.declared.leaf.Leaf.{Leaf}
use Rattle.st_tree.specs.declared.leaf.Role.TheVariants.{StepActive, StepPulsed}
use Rattle.st_types.specs.Compositions.{Composition, composition_of}
use Rattle.st_types.specs.Names.{Named, unit_at, units_of}
use Rattle.st_check.specs.Programs.{leaves_of_program, main_of, optional_leaves, text_of}
use Rattle.st_leaves.specs.Flags.{HasChart, leaf_in_at}
use Rattle.st_leaves.specs.LeavesIn.{LeafIn, Use, active, begun, elapsed, hidden, input, leaves_of_whole, plain, pulsed}
use Rattle.st_leaves.specs.Paths.{Path, Selector, field, kept, path_text, selector_text}
use Rattle.st_leaves.specs.Programs.{leaves_from, program_leaves, role_at}
use Rattle.st_leaves.specs.Programs as programs
use Rattle.st_leaves.proofs.FlagCharts.{wholes_have_charts}
use Rattle.st_layout.specs.Layout.{leaf_at, no_leaf}
use Rattle.st_control.specs.Pulses.{IsPulse, PulsesNameTheirSteps, of_step}
use Rattle.st_control.proofs.PulsesIn.{HasFlag, wholes_have_pulses}

-- ---- ways

but_last : Path → Path
but_last [] = []
but_last (s ∷ []) = []
but_last (s ∷ t ∷ path) = s ∷ but_last (t ∷ path)

one_more : (path : Path) (s : Selector) → but_last (path ++ (s ∷ [])) ≡ path
unfolding but_last
one_more [] s = refl
one_more (t ∷ []) s = refl
one_more (t ∷ u ∷ path) s = ap (λ (p : Path). t ∷ p) (one_more (u ∷ path) s)

-- the step of a chart that ends this way
same_way : (step front : Path) (name last : Selector) → step ++ (last ∷ []) ≡ front ++ (name ∷ last ∷ []) → step ≡ front ++ (name ∷ [])
same_way step front name last is =
    sym (one_more step last) ∙ (ap but_last (is ∙ sym (append_assoc front (name ∷ []) (last ∷ []))) ∙ one_more (front ++ (name ∷ [])) last)

-- ---- leaves and their numbers

pulsed_use : (n : ℕ) (u : Use) (a b : ℕ) → role_at n u ≡ StepPulsed a b → (back : ℕ) × (begun_back : ℕ) × (u ≡ pulsed back begun_back) × (a ≡ n - back) × (b ≡ n - begun_back)
pulsed_use n plain a b is = absurd (cc)
pulsed_use n input a b is = absurd (cc)
pulsed_use n hidden a b is = absurd (cc)
pulsed_use n begun a b is = absurd (cc)
pulsed_use n (active back) a b is = absurd (cc)
pulsed_use n elapsed a b is = absurd (cc)
pulsed_use n (pulsed back begun_back) a b is = (back, begun_back, refl, cc, cc)

none_before : (k : ℕ) → 0 + k ≡ k
none_before k = omega arith

module _ (main : List ℕ) where
  from_at : (n : ℕ) (ls : List LeafIn) (k : ℕ) → k < length ls → get_or (leaves_from main n ls) k no_leaf ≡ programs.leaf_at main (n + k) (leaf_in_at ls k)
  from_at n [] k below = absurd (omega (arith, below))
  from_at n (l ∷ ls) zero below = ap (λ (m : ℕ). programs.leaf_at main m l) (omega arith)
  from_at n (l ∷ ls) (suc k) below = from_at (suc n) ls k (omega (arith, below)) ∙ ap (λ (m : ℕ). programs.leaf_at main m (leaf_in_at ls k)) (omega arith)

  from_long : (n : ℕ) (ls : List LeafIn) → length (leaves_from main n ls) ≡ length ls
  from_long n [] = refl
  from_long n (l ∷ ls) = ap suc (from_long (suc n) ls)

  at_main : (ls : List LeafIn) (k : ℕ) → k < length ls → leaf_at (leaves_from main 0 ls) k ≡ programs.leaf_at main k (leaf_in_at ls k)
  at_main ls k below = from_at 0 ls k below ∙ ap (λ (m : ℕ). programs.leaf_at main m (leaf_in_at ls k)) (none_before k)

  -- the text of a way, in two parts
  text_of_both : (front back : Path) → raised (main ++ path_text (front ++ back)) ≡ raised (main ++ path_text front) ++ raised (path_text back)
  text_of_both front back =
      ap raised (ap (λ (t : List ℕ). main ++ t) (flat_map-append selector_text front back) ∙ sym (append_assoc main (path_text front) (path_text back)))
      ∙ map-append to_ascii_uppercase (main ++ path_text front) (path_text back)

  written : (front : Path) (step : List ℕ) (last : Selector)
      → raised (main ++ path_text (front ++ (field step ∷ last ∷ []))) ≡ of_step (raised (main ++ path_text front)) (raised step) (raised (path_text (last ∷ [])))
  written front step last =
      text_of_both front (field step ∷ last ∷ []) ∙ ap (λ (t : List ℕ). raised (main ++ path_text front) ++ 46 ∷ t) (map-append to_ascii_uppercase step (path_text (last ∷ [])))

  module _ (c : Composition) where
    abbrev ls : List LeafIn
    ls = leaves_of_whole c

    abbrev all : List Leaf
    all = leaves_from main 0 ls

    -- a leaf of these, and a number of its role, by the place among the ways
    leaf_there : (k n : ℕ) → k < length ls → n ≡ k → leaf_at all n ≡ programs.leaf_at main n (leaf_in_at ls k)
    leaf_there k n less is =
        at_main ls n (omega (arith, less, is)) ∙ ap (λ (m : ℕ). programs.leaf_at main n (leaf_in_at ls m)) is

    -- of a step whose flag, and whose chart, stand before
    pulse_at : (i a b back begun_back : ℕ) → i < length ls → a ≡ i - back → b ≡ i - back - (begun_back - back) → HasFlag ls i back begun_back
        → HasChart ls (i - back) (begun_back - back) → IsPulse all i a b
    pulse_at i a b back begun_back less at_a at_b has chart =
        let here = leaf_there i i less refl in
        let flag_there = leaf_there (i - back) a (omega (arith, less)) at_a in
        let chart_there = leaf_there (i - back - (begun_back - back)) b (omega (arith, less)) at_b in
        let path_of : Path → List ℕ = (λ p. raised (main ++ path_text p)) in
        let front : Path = chart.flag.front in
        let step : List ℕ = chart.flag.step in
        let way : has.pulse.step ≡ front ++ (field step ∷ []) =
        same_way has.pulse.step front (field step) (field (codes "X")) (sym has.pulse.flag_path ∙ chart.flag.flag_path) in
        let pulse_way : (leaf_in_at ls i).path ≡ front ++ (field step ∷ kept (codes "P") ∷ []) =
        has.pulse.pulse_path ∙ (ap (λ (p : Path). p ++ (kept (codes "P") ∷ [])) way ∙ append_assoc front (field step ∷ []) (kept (codes "P") ∷ [])) in
        record {
          whole = path_of front;
          step = raised step;
          pulse_path = ap (λ (l : Leaf). l.path) here ∙ (ap path_of pulse_way ∙ written front step (kept (codes "P")));
          flag_path = ap (λ (l : Leaf). l.path) flag_there ∙ (ap path_of chart.flag.flag_path ∙ written front step (field (codes "X")));
          flag_role = ap (λ (l : Leaf). l.role) flag_there
              ∙ (ap (role_at a) has.pulse.flag_use ∙ ap StepActive (omega (arith, at_a, at_b)));
          chart_path = ap (λ (l : Leaf). l.path) chart_there ∙ (ap path_of chart.flag.chart_path ∙ text_of_both front (kept (codes "CHART") ∷ []));
          chart_role = ap (λ (l : Leaf). l.role) chart_there ∙ ap (role_at b) chart.flag.chart_use;
        }

    whole_has_pulses : (i a b : ℕ) → i < length all → (leaf_at all i).role ≡ StepPulsed a b → IsPulse all i a b
    whole_has_pulses i a b below role =
        let less : i < length ls = omega (arith, below, from_long 0 ls) in
        let told = pulsed_use i (leaf_in_at ls i).use' a b (ap (λ (l : Leaf). l.role) (sym (at_main ls i less)) ∙ role) in
        let has : HasFlag ls i told.0 told.1 = wholes_have_pulses c i told.0 told.1 less told.2 in
        let chart : HasChart ls (i - told.0) (told.1 - told.0) = wholes_have_charts c (i - told.0) (told.1 - told.0) (omega (arith, less)) has.pulse.flag_use in
        pulse_at i a b told.0 told.1 less told.3 (omega (arith, told.4, has.behind, has.between, chart.behind)) has chart

-- ---- checked programs

of_unit : (units : List Named) (unit : Option Named) (i a b : ℕ) → i < length (optional_leaves units unit)
    → (leaf_at (optional_leaves units unit) i).role ≡ StepPulsed a b → IsPulse (optional_leaves units unit) i a b
unfolding program_leaves
of_unit units None i a b below role = absurd (omega (arith, below))
of_unit units (Some unit) i a b below role = whole_has_pulses unit.name.spelling (composition_of units unit.declares) i a b below role

pub pulses_name_their_steps : PulsesNameTheirSteps
unfolding leaves_of_program
pulses_name_their_steps program i a b below role =
    of_unit (units_of (text_of program)) (unit_at (units_of (text_of program)) (main_of program)) i a b below role
