-- Each flag of a step stands behind the leaf that says whether its chart has begun.
use Rattle.std.proofs.Common.{◌≡◌, ℕ, ℤ, zero, suc, ◌+◌, ◌-◌, ◌≤◌, ◌<◌, ◌⊎◌, inl, inr, Bool, true, false, List, [], ◌∷◌, ◌++◌, codes, drop, length, map, Option, Some, None, if◌then◌else◌, refl, ap, sym, ◌∙◌, subst, arith}
use Rattle.std.specs.List.{flat_map, list_any}
use Rattle.std.proofs.lemmas.Bool.{cases_lt}
use Rattle.std.proofs.lemmas.List.{append_assoc, append-nil, get_or_append_left, get_or-append-add, get_or-map, length-append, length-map}
use Rattle.st_values.specs.declared.elem.Elem.TheVariants as elems
use Rattle.st_tree.specs.declared.tree.constant.Constant.{Constant}
use Rattle.st_tree.specs.declared.tree.declaration.VarKind.{VarKind}
use Rattle.st_tree.specs.declared.tree.declaration.VarKind.TheVariants as var_kinds
use Rattle.st_tree.specs.declared.tree.unit.ChartElement.{ChartElement}
use Rattle.st_tree.specs.declared.tree.unit.Step.{Step}
use Rattle.st_types.specs.Compositions.{Composition, unknown, elementary, array, composed, standard, Members, none, member}
use Rattle.st_types.specs.Initials.{value_written, zero_of}
use Rattle.st_types.specs.Names.{steps_in}
use Rattle.st_types.specs.Standard.{Pin, pins_of, Kept, block_name, kept_by}
use Rattle.st_types.specs.declared.standard.StandardBlock.{StandardBlock}
use Rattle.st_leaves.specs.Charts.{is_pulse, stored_by}
use Rattle.st_values.specs.Values.{truth}
use Rattle.st_leaves.specs.LeavesIn.{LeafIn, Use, active, all_steps_in, as_input, begun, block_leaves, chart_in, elapsed, first_written, hidden, input, kept_leaf, leaves_in, member_names, members_in, one, pin_leaf, plain, pulsed, starting, step_in, stored_in, subscript_lists, used_as, whole_chart_in, within}
use Rattle.st_leaves.specs.LeavesIn as leaves
use Rattle.st_leaves.specs.Paths.{Path, Selector, field, index, kept}
use Rattle.st_leaves.proofs.Counted.{written_elem}
use Rattle.st_leaves.specs.Flags.{HasChart, HaveCharts, IsFlagOf, WholesHaveCharts, leaf_in_at, no_leaf_in}

-- ---- lists, one after the other

abbrev at : List LeafIn → ℕ → LeafIn
at = leaf_in_at

at_right : (xs ys : List LeafIn) (i : ℕ) → length xs ≤ i → at (xs ++ ys) i ≡ at ys (i - length xs)
at_right xs ys i behind = ap (at (xs ++ ys)) (omega (arith, behind)) ∙ get_or-append-add xs ys (i - length xs) no_leaf_in

at_left : (xs ys : List LeafIn) (i : ℕ) → i < length xs → at (xs ++ ys) i ≡ at xs i
at_left xs ys i below = get_or_append_left xs ys no_leaf_in i below

flag_of : (h h' l l' : LeafIn) → h ≡ h' → l ≡ l' → IsFlagOf h l → IsFlagOf h' l'
flag_of h h' l l' p q is = subst (λ k. IsFlagOf k l') p (subst (IsFlagOf h) q is)

both : (xs ys : List LeafIn) → HaveCharts xs → HaveCharts ys → HaveCharts (xs ++ ys)
both xs ys left right i back below active_at = by (cases_lt i (length xs)) where
  by : (i < length xs) ⊎ (length xs ≤ i) → HasChart (xs ++ ys) i back
  by (inl less) =
      let has = left i back less (ap (λ (l : LeafIn). l.use') (sym (at_left xs ys i less)) ∙ active_at) in
      record {
        behind = has.behind;
        flag = flag_of (at xs (i - back)) (at (xs ++ ys) (i - back)) (at xs i) (at (xs ++ ys) i)
            (sym (at_left xs ys (i - back) (omega (arith, less)))) (sym (at_left xs ys i less)) has.flag;
      }
  by (inr more) =
      let has = right (i - length xs) back (omega (arith, below, more, length-append xs ys)) (ap (λ (l : LeafIn). l.use') (sym (at_right xs ys i more)) ∙ active_at) in
      record {
        behind = omega (arith, has.behind, more);
        flag = flag_of (at ys (i - length xs - back)) (at (xs ++ ys) (i - back)) (at ys (i - length xs)) (at (xs ++ ys) i)
            (ap (at ys) (omega (arith, has.behind, more)) ∙ sym (at_right xs ys (i - back) (omega (arith, has.behind, more)))) (sym (at_right xs ys i more)) has.flag;
      }

-- ---- lists without flags

abbrev IsQuiet : LeafIn → Type 0
IsQuiet l = (back : ℕ) → l.use' ≡ active back → ⊥

abbrev Quiet : List LeafIn → Type 0
Quiet [] = Unit {0}
Quiet (l ∷ ls) = IsQuiet l × Quiet ls

none_active : (ls : List LeafIn) → Quiet ls → (i back : ℕ) → i < length ls → (at ls i).use' ≡ active back → ⊥
none_active [] q i back below active_at = absurd (omega (arith, below))
none_active (l ∷ ls) q zero back below active_at = q.0 back active_at
none_active (l ∷ ls) q (suc i) back below active_at = none_active ls q.1 i back (omega (arith, below)) active_at

quiet_have : (ls : List LeafIn) → Quiet ls → HaveCharts ls
quiet_have ls q i back below active_at = absurd (none_active ls q i back below active_at)

quiet_both : (xs ys : List LeafIn) → Quiet xs → Quiet ys → Quiet (xs ++ ys)
quiet_both [] ys q r = r
quiet_both (x ∷ xs) ys q r = (q.0, quiet_both xs ys q.1 r)

quiet_each : {A : Type 0} (f : A → List LeafIn) → ((x : A) → Quiet (f x)) → (xs : List A) → Quiet (flat_map f xs)
quiet_each f q [] = tt
quiet_each f q (x ∷ xs) = quiet_both (f x) (flat_map f xs) (q x) (quiet_each f q xs)

-- ---- what changes no flag

record KeepsFlags (f : LeafIn → LeafIn) : Type 0 where
  flag : (h l : LeafIn) → IsFlagOf h l → IsFlagOf (f h) (f l)
  active_at : (l : LeafIn) (back : ℕ) → (f l).use' ≡ active back → l.use' ≡ active back

mapped : (f : LeafIn → LeafIn) → KeepsFlags f → (ls : List LeafIn) → HaveCharts ls → HaveCharts (map f ls)
mapped f keeps ls have i back below active_at =
    let less : i < length ls = omega (arith, below, length-map ls f) in
    let at_f : (k : ℕ) → k < length ls → f (at ls k) ≡ at (map f ls) k = (λ k few. sym (get_or-map f ls k no_leaf_in no_leaf_in few)) in
    let has = have i back less (keeps.active_at (at ls i) back (ap (λ (l : LeafIn). l.use') (at_f i less) ∙ active_at)) in
    record {
      behind = has.behind;
      flag = flag_of (f (at ls (i - back))) (at (map f ls) (i - back)) (f (at ls i)) (at (map f ls) i) (at_f (i - back) (omega (arith, less))) (at_f i less)
          (keeps.flag (at ls (i - back)) (at ls i) has.flag);
    }

abbrev inside : Selector → List ℕ → LeafIn → LeafIn
inside s name l = record { path = s ∷ l.path; spine = name ∷ l.spine; initial = l.initial; use' = l.use' }

inside_keeps : (s : Selector) (name : List ℕ) → KeepsFlags (inside s name)
inside_keeps s name = record {
  flag = λ h l is. record {
    front = s ∷ is.front;
    spine = name ∷ is.spine;
    whole = is.whole;
    step = is.step;
    flag_path = ap (λ (p : Path). s ∷ p) is.flag_path;
    flag_spine = ap (λ (ns : List (List ℕ)). name ∷ ns) is.flag_spine;
    chart_path = ap (λ (p : Path). s ∷ p) is.chart_path;
    chart_spine = ap (λ (ns : List (List ℕ)). name ∷ ns) is.chart_spine;
    chart_use = is.chart_use;
    chart_type = is.chart_type;
  };
  active_at = λ l back u. u;
}

within_have : (s : Selector) (name : List ℕ) (ls : List LeafIn) → HaveCharts ls → HaveCharts (within s name ls)
within_have s name ls have = mapped (inside s name) (inside_keeps s name) ls have

-- a leaf that begins with a value that is written
abbrev beginning : Constant → LeafIn → LeafIn
beginning c l = record { path = l.path; spine = l.spine; initial = value_written l.initial.elem c; use' = l.use' }

beginning_keeps : (c : Constant) → KeepsFlags (beginning c)
beginning_keeps c = record {
  flag = λ h l is. record {
    front = is.front;
    spine = is.spine;
    whole = is.whole;
    step = is.step;
    flag_path = is.flag_path;
    flag_spine = is.flag_spine;
    chart_path = is.chart_path;
    chart_spine = is.chart_spine;
    chart_use = is.chart_use;
    chart_type = written_elem h.initial.elem c ∙ is.chart_type;
  };
  active_at = λ l back u. u;
}

starting_have : (c : Option Constant) (ls : List LeafIn) → HaveCharts ls → HaveCharts (starting c ls)
starting_have None ls have = have
starting_have (Some c) ls have = mapped (beginning c) (beginning_keeps c) ls have

-- a leaf of an input of the program
abbrev given : LeafIn → LeafIn
given l = record { path = l.path; spine = l.spine; initial = l.initial; use' = as_input l.use' }

was_active : (u : Use) (back : ℕ) → as_input u ≡ active back → u ≡ active back
was_active plain back is = absurd (cc)
was_active input back is = is
was_active hidden back is = is
was_active begun back is = is
was_active (active n) back is = is
was_active elapsed back is = is
was_active (pulsed m n) back is = is

given_keeps : KeepsFlags given
given_keeps = record {
  flag = λ h l is. record {
    front = is.front;
    spine = is.spine;
    whole = is.whole;
    step = is.step;
    flag_path = is.flag_path;
    flag_spine = is.flag_spine;
    chart_path = is.chart_path;
    chart_spine = is.chart_spine;
    chart_use = ap as_input is.chart_use;
    chart_type = is.chart_type;
  };
  active_at = λ l back u. was_active l.use' back u;
}

used_have : (kind : VarKind) (ls : List LeafIn) → HaveCharts ls → HaveCharts (used_as kind ls)
used_have var_kinds.Input ls have = mapped given given_keeps ls have
used_have var_kinds.Internal ls have = have
used_have var_kinds.Constant ls have = have
used_have var_kinds.Output ls have = have

-- ---- arrays and blocks

elements_have : (lists : List (List ℤ)) (firsts : List (Option Constant)) (ls : List LeafIn) → HaveCharts ls → HaveCharts (leaves.elements_in lists firsts ls)
elements_have [] firsts ls have = quiet_have [] tt
elements_have (is ∷ others) firsts ls have =
    both (within (index is) (codes "array") (starting (first_written firsts) ls)) (leaves.elements_in others (drop 1 firsts) ls)
    (within_have (index is) (codes "array") (starting (first_written firsts) ls) (starting_have (first_written firsts) ls have)) (elements_have others (drop 1 firsts) ls have)

quiet_pin : (name : List ℕ) (p : Pin) → Quiet (pin_leaf name p)
quiet_pin name p = ((λ back u. absurd (cc)), tt)

quiet_kept : (name : List ℕ) (k : Kept) → Quiet (kept_leaf name k)
quiet_kept name k = ((λ back u. absurd (cc)), tt)

quiet_block : (b : StandardBlock) → Quiet (block_leaves b)
quiet_block b =
    quiet_both (flat_map (pin_leaf (block_name b)) (pins_of b)) (flat_map (kept_leaf (block_name b)) (kept_by b))
    (quiet_each (pin_leaf (block_name b)) (quiet_pin (block_name b)) (pins_of b)) (quiet_each (kept_leaf (block_name b)) (quiet_kept (block_name b)) (kept_by b))

-- ---- charts

-- whether the chart of a whole of this name has begun
record IsHead (name : List ℕ) (l : LeafIn) : Type 0 where
  path : l.path ≡ kept (codes "CHART") ∷ []
  spine : l.spine ≡ name ∷ []
  active_at : l.use' ≡ begun
  type : l.initial.elem ≡ elems.Bool

abbrev flag_leaf : List ℕ → ℕ → Bool → List ℕ → LeafIn
flag_leaf name back is_initial step = inside (field step) name (record { path = field (codes "X") ∷ []; spine = codes "step" ∷ []; initial = truth is_initial; use' = active back })

same_back : (back n : ℕ) → active back ≡ active n → back ≡ n
same_back back n is = ap (λ (u : Use). back_in u) is where
  back_in : Use → ℕ
  back_in (active m) = m
  back_in _ = 0

none_left : (i n : ℕ) → i ≡ n → i - n ≡ 0
none_left i n last = omega (arith, last)

with_flag : (name : List ℕ) (pre : List LeafIn) (is_initial : Bool) (step : List ℕ) → 0 < length pre → IsHead name (at pre 0) → HaveCharts pre
    → HaveCharts (pre ++ (flag_leaf name (length pre) is_initial step ∷ []))
with_flag name pre is_initial step some head have i back below active_at = by (cases_lt i (length pre)) where
  x : LeafIn
  x = flag_leaf name (length pre) is_initial step

  by : (i < length pre) ⊎ (length pre ≤ i) → HasChart (pre ++ (x ∷ [])) i back
  by (inl less) =
      let has = have i back less (ap (λ (l : LeafIn). l.use') (sym (at_left pre (x ∷ []) i less)) ∙ active_at) in
      record {
        behind = has.behind;
        flag = flag_of (at pre (i - back)) (at (pre ++ (x ∷ [])) (i - back)) (at pre i) (at (pre ++ (x ∷ [])) i)
            (sym (at_left pre (x ∷ []) (i - back) (omega (arith, less)))) (sym (at_left pre (x ∷ []) i less)) has.flag;
      }
  by (inr more) =
      let last : i ≡ length pre = omega (arith, below, more, length-append pre (x ∷ [])) in
      let here : at (pre ++ (x ∷ [])) i ≡ x = at_right pre (x ∷ []) i more ∙ ap (at (x ∷ [])) (none_left i (length pre) last) in
      let same : length pre ≡ back = same_back (length pre) back (ap (λ (l : LeafIn). l.use') (sym here) ∙ active_at) in
      let first : at (pre ++ (x ∷ [])) (i - back) ≡ at pre 0 = ap (at (pre ++ (x ∷ []))) (none_left i back (last ∙ same)) ∙ at_left pre (x ∷ []) 0 some in
      record {
        behind = omega (arith, last, same);
        flag = flag_of (at pre 0) (at (pre ++ (x ∷ [])) (i - back)) x (at (pre ++ (x ∷ [])) i) (sym first) (sym here) (record {
          front = [];
          spine = [];
          whole = name;
          step = step;
          flag_path = refl;
          flag_spine = refl;
          chart_path = head.path;
          chart_spine = head.spine;
          chart_use = head.active_at;
          chart_type = head.type;
        });
      }

-- what stands behind the flag of a step
abbrev behind_flag : List ℕ → ℕ → Bool → List ℕ → List LeafIn
behind_flag name back has_pulse step =
    within (field step) name
    (one (field (codes "T")) (codes "step") (zero_of elems.Time) elapsed ++ one (kept (codes "M")) (codes "step") (zero_of elems.Time) hidden
    ++ (if has_pulse then one (kept (codes "P")) (codes "step") (truth false) (pulsed 3 (back + 3)) else []))

quiet_behind : (name : List ℕ) (back : ℕ) (has_pulse : Bool) (step : List ℕ) → Quiet (behind_flag name back has_pulse step)
quiet_behind name back true step = ((λ b u. absurd (cc)), ((λ b u. absurd (cc)), ((λ b u. absurd (cc)), tt)))
quiet_behind name back false step = ((λ b u. absurd (cc)), ((λ b u. absurd (cc)), tt))

steps_have : (name : List ℕ) (steps : List Step) (pre : List LeafIn) → 0 < length pre → IsHead name (at pre 0) → HaveCharts pre
    → HaveCharts (pre ++ all_steps_in name (length pre) steps)
steps_have name [] pre some head have = subst HaveCharts (sym (append-nil pre)) have
steps_have name (s ∷ steps) pre some head have =
    let p : Bool = list_any is_pulse s.associations in
    let x : LeafIn = flag_leaf name (length pre) s.is_initial s.name.spelling in
    let more : List LeafIn = behind_flag name (length pre) p s.name.spelling in
    let next : List LeafIn = pre ++ step_in name (length pre) s in
    let joined : (pre ++ (x ∷ [])) ++ more ≡ next = append_assoc pre (x ∷ []) more in
    let have' : HaveCharts next = subst HaveCharts joined (both (pre ++ (x ∷ [])) more (with_flag name pre s.is_initial s.name.spelling some head have) (quiet_have more (quiet_behind name (length pre) p s.name.spelling))) in
    let first : at next 0 ≡ at pre 0 = at_left pre (step_in name (length pre) s) 0 some in
    let rest = steps_have name steps next (omega (arith, some, length-append pre (step_in name (length pre) s))) (subst (IsHead name) (sym first) head) have' in
    subst HaveCharts
    (append_assoc pre (step_in name (length pre) s) (all_steps_in name (length next) steps)
    ∙ ap (λ (n : ℕ). pre ++ (step_in name (length pre) s ++ all_steps_in name n steps)) (length-append pre (step_in name (length pre) s))) rest

quiet_stored : (name stored : List ℕ) → Quiet (stored_in name stored)
quiet_stored name stored = ((λ back u. absurd (cc)), tt)

whole_chart_has : (name : List ℕ) (stored : List (List ℕ)) (steps : List Step) → HaveCharts (whole_chart_in name stored steps)
whole_chart_has name stored steps =
    let head : List LeafIn = one (kept (codes "CHART")) name (truth false) begun in
    let all : HaveCharts (head ++ all_steps_in name 1 steps) =
    steps_have name steps head (omega arith) (record { path = refl; spine = refl; active_at = refl; type = refl }) (quiet_have head ((λ back u. absurd (cc)), tt)) in
    subst HaveCharts (append_assoc head (all_steps_in name 1 steps) (flat_map (stored_in name) stored))
    (both (head ++ all_steps_in name 1 steps) (flat_map (stored_in name) stored) all
    (quiet_have (flat_map (stored_in name) stored) (quiet_each (stored_in name) (quiet_stored name) stored)))

chart_has : (name : List ℕ) (stored : List (List ℕ)) (chart : List ChartElement) → HaveCharts (chart_in name stored chart)
chart_has name stored [] = quiet_have [] tt
chart_has name stored (e ∷ es) = whole_chart_has name stored (flat_map steps_in (e ∷ es))

-- ---- what variables consist of

mutual
  parts_have : (c : Composition) → HaveCharts (leaves_in c)
  parts_have unknown = quiet_have [] tt
  parts_have (elementary v) = quiet_have (leaves_in (elementary v)) ((λ back u. absurd (cc)), tt)
  parts_have (array ranges firsts c) = elements_have (subscript_lists ranges) firsts (leaves_in c) (parts_have c)
  parts_have (composed name ms chart) =
      both (members_in name ms) (chart_in name (stored_by (member_names ms) chart) chart) (members_have name ms) (chart_has name (stored_by (member_names ms) chart) chart)
  parts_have (standard b) = quiet_have (block_leaves b) (quiet_block b)

  members_have : (name : List ℕ) (ms : Members) → HaveCharts (members_in name ms)
  members_have name none = quiet_have [] tt
  members_have name (member field' kind c ms) =
      both (within (field field') name (leaves_in c)) (members_in name ms) (within_have (field field') name (leaves_in c) (parts_have c)) (members_have name ms)

variables_have : (name : List ℕ) (ms : Members) → HaveCharts (leaves.variables_in name ms)
variables_have name none = quiet_have [] tt
variables_have name (member field' kind c ms) =
    both (within (field field') name (used_as kind (leaves_in c))) (leaves.variables_in name ms)
    (within_have (field field') name (used_as kind (leaves_in c)) (used_have kind (leaves_in c) (parts_have c))) (variables_have name ms)

pub wholes_have_charts : WholesHaveCharts
wholes_have_charts unknown = parts_have unknown
wholes_have_charts (elementary v) = parts_have (elementary v)
wholes_have_charts (array ranges firsts c) = parts_have (array ranges firsts c)
wholes_have_charts (composed name ms chart) =
    both (leaves.variables_in name ms) (chart_in name (stored_by (member_names ms) chart) chart) (variables_have name ms) (chart_has name (stored_by (member_names ms) chart) chart)
wholes_have_charts (standard b) = parts_have (standard b)
