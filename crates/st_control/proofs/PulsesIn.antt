-- Among the leaves of a whole, what tells whether a step has given its pulses stands behind the flag of this step.
use Rattle.std.proofs.Common.{◌≡◌, ℕ, ℤ, zero, suc, ◌+◌, ◌-◌, ◌≤◌, ◌<◌, ◌⊎◌, inl, inr, Bool, true, false, List, [], ◌∷◌, ◌++◌, codes, drop, length, map, Option, Some, None, refl, ap, sym, ◌∙◌, subst, arith}
use Rattle.std.specs.List.{flat_map, list_any}
use Rattle.std.proofs.lemmas.Bool.{cases_lt}
use Rattle.std.proofs.lemmas.List.{get_or_append_left, get_or-append-add, get_or-map, length-append, length-map}
use Rattle.st_tree.specs.declared.tree.constant.Constant.{Constant}
use Rattle.st_tree.specs.declared.tree.declaration.VarKind.{VarKind}
use Rattle.st_tree.specs.declared.tree.declaration.VarKind.TheVariants as var_kinds
use Rattle.st_tree.specs.declared.tree.unit.ChartElement.{ChartElement}
use Rattle.st_tree.specs.declared.tree.unit.Step.{Step}
use Rattle.st_types.specs.Compositions.{Composition, unknown, elementary, array, composed, standard, Members, none, member}
use Rattle.st_types.specs.Initials.{value_written}
use Rattle.st_types.specs.Names.{steps_in}
use Rattle.st_types.specs.Standard.{Pin, pins_of, Kept, block_name, kept_by}
use Rattle.st_types.specs.declared.standard.StandardBlock.{StandardBlock}
use Rattle.st_leaves.specs.Charts.{is_pulse, stored_by}
use Rattle.st_leaves.specs.Flags.{leaf_in_at, no_leaf_in}
use Rattle.st_values.specs.Values.{truth}
use Rattle.st_leaves.specs.LeavesIn.{LeafIn, Use, active, all_steps_in, as_input, begun, block_leaves, chart_in, elapsed, first_written, hidden, input, kept_leaf, leaves_in, leaves_of_whole, member_names, members_in, one, pin_leaf, plain, pulsed, starting, state_in, step_in, stored_in, subscript_lists, used_as, whole_chart_in, within}
use Rattle.st_leaves.specs.LeavesIn as leaves
use Rattle.st_leaves.specs.Paths.{Path, Selector, field, index, kept}

-- the second tells whether a step has given its pulses, and the first is the flag of this step, so many leaves behind its chart's
pub record IsPulseOf (back : ℕ) (flag pulse : LeafIn) : Type 0 where
  pub step : Path
  pub pulse_path : pulse.path ≡ step ++ (kept (codes "P") ∷ [])
  pub flag_path : flag.path ≡ step ++ (field (codes "X") ∷ [])
  pub flag_use : flag.use' ≡ active back

-- the flag stands so many leaves before, and its chart's so many
pub record HasFlag (leaves : List LeafIn) (i back begun_back : ℕ) : Type 0 where
  pub behind : back ≤ i
  pub between : back ≤ begun_back
  pub pulse : IsPulseOf (begun_back - back) (leaf_in_at leaves (i - back)) (leaf_in_at leaves i)

abbrev pub HavePulses : List LeafIn → Type 0
HavePulses leaves = (i back begun_back : ℕ) → i < length leaves → (leaf_in_at leaves i).use' ≡ pulsed back begun_back → HasFlag leaves i back begun_back

-- ---- lists, one after the other

abbrev at : List LeafIn → ℕ → LeafIn
at = leaf_in_at

at_right : (xs ys : List LeafIn) (i : ℕ) → length xs ≤ i → at (xs ++ ys) i ≡ at ys (i - length xs)
at_right xs ys i behind = ap (at (xs ++ ys)) (omega (arith, behind)) ∙ get_or-append-add xs ys (i - length xs) no_leaf_in

at_left : (xs ys : List LeafIn) (i : ℕ) → i < length xs → at (xs ++ ys) i ≡ at xs i
at_left xs ys i below = get_or_append_left xs ys no_leaf_in i below

pulse_of : (n : ℕ) (h h' l l' : LeafIn) → h ≡ h' → l ≡ l' → IsPulseOf n h l → IsPulseOf n h' l'
pulse_of n h h' l l' p q is = subst (λ k. IsPulseOf n k l') p (subst (IsPulseOf n h) q is)

use_at : (l l' : LeafIn) (u : Use) → l ≡ l' → l.use' ≡ u → l'.use' ≡ u
use_at l l' u same is = ap (λ (k : LeafIn). k.use') (sym same) ∙ is

both : (xs ys : List LeafIn) → HavePulses xs → HavePulses ys → HavePulses (xs ++ ys)
both xs ys left right i back begun_back below told = by (cases_lt i (length xs)) where
  by : (i < length xs) ⊎ (length xs ≤ i) → HasFlag (xs ++ ys) i back begun_back
  by (inl less) =
      let has = left i back begun_back less (use_at (at (xs ++ ys) i) (at xs i) (pulsed back begun_back) (at_left xs ys i less) told) in
      record {
        behind = has.behind;
        between = has.between;
        pulse = pulse_of (begun_back - back) (at xs (i - back)) (at (xs ++ ys) (i - back)) (at xs i) (at (xs ++ ys) i)
            (sym (at_left xs ys (i - back) (omega (arith, less)))) (sym (at_left xs ys i less)) has.pulse;
      }
  by (inr more) =
      let has = right (i - length xs) back begun_back (omega (arith, below, more, length-append xs ys))
      (use_at (at (xs ++ ys) i) (at ys (i - length xs)) (pulsed back begun_back) (at_right xs ys i more) told) in
      record {
        behind = omega (arith, has.behind, more);
        between = has.between;
        pulse = pulse_of (begun_back - back) (at ys (i - length xs - back)) (at (xs ++ ys) (i - back)) (at ys (i - length xs)) (at (xs ++ ys) i)
            (ap (at ys) (omega (arith, has.behind, more)) ∙ sym (at_right xs ys (i - back) (omega (arith, has.behind, more)))) (sym (at_right xs ys i more)) has.pulse;
      }

-- ---- lists that tell of no pulses

abbrev IsQuiet : LeafIn → Type 0
IsQuiet l = (back begun_back : ℕ) → l.use' ≡ pulsed back begun_back → ⊥

abbrev Quiet : List LeafIn → Type 0
Quiet [] = Unit {0}
Quiet (l ∷ ls) = IsQuiet l × Quiet ls

none_pulsed : (ls : List LeafIn) → Quiet ls → (i back begun_back : ℕ) → i < length ls → (at ls i).use' ≡ pulsed back begun_back → ⊥
none_pulsed [] q i back begun_back below told = absurd (omega (arith, below))
none_pulsed (l ∷ ls) q zero back begun_back below told = q.0 back begun_back told
none_pulsed (l ∷ ls) q (suc i) back begun_back below told = none_pulsed ls q.1 i back begun_back (omega (arith, below)) told

quiet_have : (ls : List LeafIn) → Quiet ls → HavePulses ls
quiet_have ls q i back begun_back below told = absurd (none_pulsed ls q i back begun_back below told)

quiet_both : (xs ys : List LeafIn) → Quiet xs → Quiet ys → Quiet (xs ++ ys)
quiet_both [] ys q r = r
quiet_both (x ∷ xs) ys q r = (q.0, quiet_both xs ys q.1 r)

quiet_each : {A : Type 0} (f : A → List LeafIn) → ((x : A) → Quiet (f x)) → (xs : List A) → Quiet (flat_map f xs)
quiet_each f q [] = tt
quiet_each f q (x ∷ xs) = quiet_both (f x) (flat_map f xs) (q x) (quiet_each f q xs)

-- ---- what changes no leaf's use

record KeepsPulses (f : LeafIn → LeafIn) : Type 0 where
  pulse : (n : ℕ) (h l : LeafIn) → IsPulseOf n h l → IsPulseOf n (f h) (f l)
  told : (l : LeafIn) (back begun_back : ℕ) → (f l).use' ≡ pulsed back begun_back → l.use' ≡ pulsed back begun_back

mapped : (f : LeafIn → LeafIn) → KeepsPulses f → (ls : List LeafIn) → HavePulses ls → HavePulses (map f ls)
mapped f keeps ls have i back begun_back below told =
    let less : i < length ls = omega (arith, below, length-map ls f) in
    let at_f : (k : ℕ) → k < length ls → f (at ls k) ≡ at (map f ls) k = (λ k few. sym (get_or-map f ls k no_leaf_in no_leaf_in few)) in
    let has = have i back begun_back less (keeps.told (at ls i) back begun_back (use_at (at (map f ls) i) (f (at ls i)) (pulsed back begun_back) (sym (at_f i less)) told)) in
    record {
      behind = has.behind;
      between = has.between;
      pulse = pulse_of (begun_back - back) (f (at ls (i - back))) (at (map f ls) (i - back)) (f (at ls i)) (at (map f ls) i) (at_f (i - back) (omega (arith, less))) (at_f i less)
          (keeps.pulse (begun_back - back) (at ls (i - back)) (at ls i) has.pulse);
    }

abbrev inside : Selector → List ℕ → LeafIn → LeafIn
inside s name l = record { path = s ∷ l.path; spine = name ∷ l.spine; initial = l.initial; use' = l.use' }

inside_keeps : (s : Selector) (name : List ℕ) → KeepsPulses (inside s name)
inside_keeps s name = record {
  pulse = λ n h l is. record {
    step = s ∷ is.step;
    pulse_path = ap (λ (p : Path). s ∷ p) is.pulse_path;
    flag_path = ap (λ (p : Path). s ∷ p) is.flag_path;
    flag_use = is.flag_use;
  };
  told = λ l back begun_back u. u;
}

within_have : (s : Selector) (name : List ℕ) (ls : List LeafIn) → HavePulses ls → HavePulses (within s name ls)
within_have s name ls have = mapped (inside s name) (inside_keeps s name) ls have

-- a leaf that begins with a value that is written
abbrev beginning : Constant → LeafIn → LeafIn
beginning c l = record { path = l.path; spine = l.spine; initial = value_written l.initial.elem c; use' = l.use' }

beginning_keeps : (c : Constant) → KeepsPulses (beginning c)
beginning_keeps c = record {
  pulse = λ n h l is. record { step = is.step; pulse_path = is.pulse_path; flag_path = is.flag_path; flag_use = is.flag_use };
  told = λ l back begun_back u. u;
}

starting_have : (c : Option Constant) (ls : List LeafIn) → HavePulses ls → HavePulses (starting c ls)
starting_have None ls have = have
starting_have (Some c) ls have = mapped (beginning c) (beginning_keeps c) ls have

-- a leaf of an input of the program
abbrev given : LeafIn → LeafIn
given l = record { path = l.path; spine = l.spine; initial = l.initial; use' = as_input l.use' }

was_pulsed : (u : Use) (back begun_back : ℕ) → as_input u ≡ pulsed back begun_back → u ≡ pulsed back begun_back
was_pulsed plain back begun_back is = absurd (cc)
was_pulsed input back begun_back is = is
was_pulsed hidden back begun_back is = is
was_pulsed begun back begun_back is = is
was_pulsed (active n) back begun_back is = is
was_pulsed elapsed back begun_back is = is
was_pulsed (pulsed m n) back begun_back is = is

given_keeps : KeepsPulses given
given_keeps = record {
  pulse = λ n h l is. record { step = is.step; pulse_path = is.pulse_path; flag_path = is.flag_path; flag_use = ap as_input is.flag_use };
  told = λ l back begun_back u. was_pulsed l.use' back begun_back u;
}

used_have : (kind : VarKind) (ls : List LeafIn) → HavePulses ls → HavePulses (used_as kind ls)
used_have var_kinds.Input ls have = mapped given given_keeps ls have
used_have var_kinds.Internal ls have = have
used_have var_kinds.Constant ls have = have
used_have var_kinds.Output ls have = have

-- ---- arrays and blocks

elements_have : (lists : List (List ℤ)) (firsts : List (Option Constant)) (ls : List LeafIn) → HavePulses ls → HavePulses (leaves.elements_in lists firsts ls)
elements_have [] firsts ls have = quiet_have [] tt
elements_have (is ∷ others) firsts ls have =
    both (within (index is) (codes "array") (starting (first_written firsts) ls)) (leaves.elements_in others (drop 1 firsts) ls)
    (within_have (index is) (codes "array") (starting (first_written firsts) ls) (starting_have (first_written firsts) ls have)) (elements_have others (drop 1 firsts) ls have)

quiet_pin : (name : List ℕ) (p : Pin) → Quiet (pin_leaf name p)
quiet_pin name p = ((λ back begun_back u. absurd (cc)), tt)

quiet_kept : (name : List ℕ) (k : Kept) → Quiet (kept_leaf name k)
quiet_kept name k = ((λ back begun_back u. absurd (cc)), tt)

quiet_block : (b : StandardBlock) → Quiet (block_leaves b)
quiet_block b =
    quiet_both (flat_map (pin_leaf (block_name b)) (pins_of b)) (flat_map (kept_leaf (block_name b)) (kept_by b))
    (quiet_each (pin_leaf (block_name b)) (quiet_pin (block_name b)) (pins_of b)) (quiet_each (kept_leaf (block_name b)) (quiet_kept (block_name b)) (kept_by b))

-- ---- charts

first_back : (m n back begun_back : ℕ) → pulsed m n ≡ pulsed back begun_back → m ≡ back
first_back m n back begun_back is = ap (λ (u : Use). back_in u) is where
  back_in : Use → ℕ
  back_in (pulsed k l) = k
  back_in _ = 0

second_back : (m n back begun_back : ℕ) → pulsed m n ≡ pulsed back begun_back → n ≡ begun_back
second_back m n back begun_back is = ap (λ (u : Use). back_in u) is where
  back_in : Use → ℕ
  back_in (pulsed k l) = l
  back_in _ = 0

-- of a step that is so many leaves behind its chart's flag
state_pulsed : (n : ℕ) (is_initial : Bool) (back begun_back : ℕ) → 3 ≡ back → n + 3 ≡ begun_back → HasFlag (state_in n is_initial true) 3 back begun_back
state_pulsed n is_initial back begun_back first second =
    subst (λ (b : ℕ). HasFlag (state_in n is_initial true) 3 b begun_back) first
    (subst (λ (b : ℕ). HasFlag (state_in n is_initial true) 3 3 b) second (record {
      behind = omega arith;
      between = omega arith;
      pulse = record {
        step = [];
        pulse_path = refl;
        flag_path = refl;
        flag_use = ap active (omega arith);
      };
    }))

with_pulses : (n : ℕ) (is_initial : Bool) → HavePulses (state_in n is_initial true)
with_pulses n is_initial zero back begun_back below told = absurd (cc)
with_pulses n is_initial (suc zero) back begun_back below told = absurd (cc)
with_pulses n is_initial (suc (suc zero)) back begun_back below told = absurd (cc)
with_pulses n is_initial (suc (suc (suc zero))) back begun_back below told =
    state_pulsed n is_initial back begun_back (first_back 3 (n + 3) back begun_back told) (second_back 3 (n + 3) back begun_back told)
with_pulses n is_initial (suc (suc (suc (suc i)))) back begun_back below told = absurd (omega (arith, below))

state_has : (n : ℕ) (is_initial has_pulse : Bool) → HavePulses (state_in n is_initial has_pulse)
state_has n is_initial true = with_pulses n is_initial
state_has n is_initial false = quiet_have (state_in n is_initial false) ((λ b m u. absurd (cc)), ((λ b m u. absurd (cc)), ((λ b m u. absurd (cc)), tt)))

steps_have : (name : List ℕ) (back : ℕ) (steps : List Step) → HavePulses (all_steps_in name back steps)
steps_have name back [] = quiet_have [] tt
steps_have name back (s ∷ steps) =
    both (step_in name back s) (all_steps_in name (back + length (step_in name back s)) steps)
    (within_have (field s.name.spelling) name (state_in back s.is_initial (list_any is_pulse s.associations)) (state_has back s.is_initial (list_any is_pulse s.associations)))
    (steps_have name (back + length (step_in name back s)) steps)

quiet_stored : (name stored : List ℕ) → Quiet (stored_in name stored)
quiet_stored name stored = ((λ back begun_back u. absurd (cc)), tt)

whole_chart_has : (name : List ℕ) (stored : List (List ℕ)) (steps : List Step) → HavePulses (whole_chart_in name stored steps)
whole_chart_has name stored steps =
    both (one (kept (codes "CHART")) name (truth false) begun) (all_steps_in name 1 steps ++ flat_map (stored_in name) stored)
    (quiet_have (one (kept (codes "CHART")) name (truth false) begun) ((λ back begun_back u. absurd (cc)), tt))
    (both (all_steps_in name 1 steps) (flat_map (stored_in name) stored) (steps_have name 1 steps)
    (quiet_have (flat_map (stored_in name) stored) (quiet_each (stored_in name) (quiet_stored name) stored)))

chart_has : (name : List ℕ) (stored : List (List ℕ)) (chart : List ChartElement) → HavePulses (chart_in name stored chart)
chart_has name stored [] = quiet_have [] tt
chart_has name stored (e ∷ es) = whole_chart_has name stored (flat_map steps_in (e ∷ es))

-- ---- what variables consist of

mutual
  parts_have : (c : Composition) → HavePulses (leaves_in c)
  parts_have unknown = quiet_have [] tt
  parts_have (elementary v) = quiet_have (leaves_in (elementary v)) ((λ back begun_back u. absurd (cc)), tt)
  parts_have (array ranges firsts c) = elements_have (subscript_lists ranges) firsts (leaves_in c) (parts_have c)
  parts_have (composed name ms chart) =
      both (members_in name ms) (chart_in name (stored_by (member_names ms) chart) chart) (members_have name ms) (chart_has name (stored_by (member_names ms) chart) chart)
  parts_have (standard b) = quiet_have (block_leaves b) (quiet_block b)

  members_have : (name : List ℕ) (ms : Members) → HavePulses (members_in name ms)
  members_have name none = quiet_have [] tt
  members_have name (member field' kind c ms) =
      both (within (field field') name (leaves_in c)) (members_in name ms) (within_have (field field') name (leaves_in c) (parts_have c)) (members_have name ms)

variables_have : (name : List ℕ) (ms : Members) → HavePulses (leaves.variables_in name ms)
variables_have name none = quiet_have [] tt
variables_have name (member field' kind c ms) =
    both (within (field field') name (used_as kind (leaves_in c))) (leaves.variables_in name ms)
    (within_have (field field') name (used_as kind (leaves_in c)) (used_have kind (leaves_in c) (parts_have c))) (variables_have name ms)

pub wholes_have_pulses : (c : Composition) → HavePulses (leaves_of_whole c)
wholes_have_pulses unknown = parts_have unknown
wholes_have_pulses (elementary v) = parts_have (elementary v)
wholes_have_pulses (array ranges firsts c) = parts_have (array ranges firsts c)
wholes_have_pulses (composed name ms chart) =
    both (leaves.variables_in name ms) (chart_in name (stored_by (member_names ms) chart) chart) (variables_have name ms) (chart_has name (stored_by (member_names ms) chart) chart)
wholes_have_pulses (standard b) = parts_have (standard b)
