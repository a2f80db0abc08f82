-- What the size of a program is counted by, of parts.
use Rattle.std.proofs.Common.{◌≡◌, ℕ, ◌+◌, ℤ, Bool, true, false, List, [], ◌∷◌, ◌++◌, codes, drop, length, map, Option, Some, None, refl, ap, sym, ◌∙◌, arith, length-append}
use Rattle.std.specs.Fmt.{signed_decimal}
use Rattle.std.specs.List.{flat_map, list_any}
use Rattle.std.proofs.lemmas.List.{map-append}
use Rattle.st_values.specs.declared.elem.Elem.{Elem}
use Rattle.st_values.specs.declared.elem.Elem.TheVariants as elems
use Rattle.st_tree.specs.declared.tree.constant.Constant.{Constant}
use Rattle.st_tree.specs.declared.tree.declaration.Initial.{Initial}
use Rattle.st_tree.specs.declared.tree.declaration.Initial.TheVariants as initials
use Rattle.st_tree.specs.declared.tree.declaration.Subrange.{Subrange}
use Rattle.st_tree.specs.declared.tree.declaration.VarKind.{VarKind}
use Rattle.st_tree.specs.declared.tree.declaration.VarKind.TheVariants as var_kinds
use Rattle.st_tree.specs.declared.tree.unit.ChartElement.{ChartElement}
use Rattle.st_tree.specs.declared.tree.unit.Step.{Step}
use Rattle.st_types.specs.Compositions.{Composition, unknown, elementary, array, composed, standard, Members, none, member, started}
use Rattle.st_types.specs.Initials.{first_values, value_written}
use Rattle.st_types.specs.Names.{steps_in}
use Rattle.st_types.specs.declared.standard.StandardBlock.{StandardBlock}
use Rattle.st_types.specs.declared.standard.StandardBlock.TheVariants as blocks
use Rattle.st_leaves.specs.Charts.{LeafBelow, below, chart_leaves, is_pulse, kept_under, step_leaves, stored_by, stored_leaves, state_leaves}
use Rattle.st_leaves.specs.Compositions.{counted}
use Rattle.st_leaves.specs.Leaves.{array_leaves, choices, numbers_in, standard_leaves, subscript_text}
use Rattle.st_leaves.specs.LeavesIn.{LeafIn, all_steps_in, block_leaves, chart_in, elements_in, first_written, leaves_in, leaves_of_whole, member_names, members_in, starting, state_in, step_in, stored_in, subscript_lists, used_as, variables_in, within}
use Rattle.st_leaves.specs.Paths.{Selector, field, index, selector_text, subscripts_text}
use Rattle.st_leaves.proofs.SubscriptTexts.{IsSome, some_signed}

abbrev pub counts : List LeafIn → List LeafBelow
counts leaves = map counted leaves

-- ---- parts

pub counts_append : (leaves more : List LeafIn) → counts (leaves ++ more) ≡ counts leaves ++ counts more
counts_append leaves more = map-append counted leaves more

pub counts_within : (s : Selector) (name : List ℕ) (leaves : List LeafIn) → counts (within s name leaves) ≡ below (selector_text s) (counts leaves)
counts_within s name [] = refl
counts_within s name (l ∷ leaves) = ap (λ others. counted (record { path = s ∷ l.path; spine = name ∷ l.spine; initial = l.initial; use' = l.use' }) ∷ others) (counts_within s name leaves)

-- a value that is written has the type of what it is written for
pub written_elem : (e : Elem) (c : Constant) → (value_written e c).elem ≡ e
written_elem elems.Bool c = refl
written_elem elems.Sint c = refl
written_elem elems.Int c = refl
written_elem elems.Dint c = refl
written_elem elems.Lint c = refl
written_elem elems.Usint c = refl
written_elem elems.Uint c = refl
written_elem elems.Udint c = refl
written_elem elems.Ulint c = refl
written_elem elems.Byte c = refl
written_elem elems.Word c = refl
written_elem elems.Dword c = refl
written_elem elems.Lword c = refl
written_elem elems.Time c = refl

counts_starting : (first : Option Constant) (leaves : List LeafIn) → counts (starting first leaves) ≡ counts leaves
counts_starting None leaves = refl
counts_starting (Some c) [] = refl
counts_starting (Some c) (l ∷ leaves) =
    ap (λ e. record { path = (counted l).path; elem = e } ∷ counts (starting (Some c) leaves)) (written_elem l.initial.elem c)
    ∙ ap (λ others. counted l ∷ others) (counts_starting (Some c) leaves)

-- ---- elements

abbrev texts_of : (lists : List (List ℤ)) → List (List ℕ)
texts_of lists = map subscripts_text lists

before_others : (i : ℤ) (text : List ℕ) → IsSome text → signed_decimal i ++ codes "," ++ text ≡ subscript_text i text
before_others i [] some = absurd (omega (arith, some))
before_others i (c ∷ cs) some = refl

some_subscripts : (i : ℤ) (is : List ℤ) → IsSome (subscripts_text (i ∷ is))
some_subscripts i [] = some_signed i
some_subscripts i (j ∷ js) = omega (arith, some_signed i, length-append (signed_decimal i ++ codes ",") (subscripts_text (j ∷ js)), length-append (signed_decimal i) (codes ","))

text_before : (i : ℤ) (is : List ℤ) → subscripts_text (i ∷ is) ≡ subscript_text i (subscripts_text is)
text_before i [] = refl
text_before i (j ∷ js) = before_others i (subscripts_text (j ∷ js)) (some_subscripts j js)

texts_before : (i : ℤ) (lists : List (List ℤ)) → texts_of (map (λ is. i ∷ is) lists) ≡ map (subscript_text i) (texts_of lists)
texts_before i [] = refl
texts_before i (is ∷ lists) =
    ap (λ text. text ∷ texts_of (map (λ js. i ∷ js) lists)) (text_before i is) ∙ ap (λ texts. subscript_text i (subscripts_text is) ∷ texts) (texts_before i lists)

texts_over : (numbers : List ℤ) (lists : List (List ℤ)) → texts_of (flat_map (λ i. map (λ is. i ∷ is) lists) numbers) ≡ flat_map (λ i. map (subscript_text i) (texts_of lists)) numbers
texts_over [] lists = refl
texts_over (i ∷ numbers) lists =
    map-append subscripts_text (map (λ is. i ∷ is) lists) (flat_map (λ j. map (λ is. j ∷ is) lists) numbers)
    ∙ ap (λ texts. texts ++ texts_of (flat_map (λ j. map (λ is. j ∷ is) lists) numbers)) (texts_before i lists)
    ∙ ap (λ texts. map (subscript_text i) (texts_of lists) ++ texts) (texts_over numbers lists)

texts_are_choices : (ranges : List Subrange) → texts_of (subscript_lists ranges) ≡ choices ranges
texts_are_choices [] = refl
texts_are_choices (r ∷ rs) =
    texts_over (numbers_in r) (subscript_lists rs) ∙ ap (λ texts. flat_map (λ i. map (subscript_text i) texts) (numbers_in r)) (texts_are_choices rs)

counts_elements : (lists : List (List ℤ)) (firsts : List (Option Constant)) (leaves : List LeafIn)
    → counts (elements_in lists firsts leaves) ≡ flat_map (λ text. below (codes "[" ++ text ++ codes "]") (counts leaves)) (texts_of lists)
counts_elements [] firsts leaves = refl
counts_elements (is ∷ others) firsts leaves =
    counts_append (within (index is) (codes "array") (starting (first_written firsts) leaves)) (elements_in others (drop 1 firsts) leaves)
    ∙ ap (λ ls. ls ++ counts (elements_in others (drop 1 firsts) leaves))
    (counts_within (index is) (codes "array") (starting (first_written firsts) leaves) ∙ ap (below (selector_text (index is))) (counts_starting (first_written firsts) leaves))
    ∙ ap (λ ls. below (selector_text (index is)) (counts leaves) ++ ls) (counts_elements others (drop 1 firsts) leaves)

pub counts_array : (ranges : List Subrange) (firsts : List (Option Constant)) (leaves : List LeafIn) → counts (elements_in (subscript_lists ranges) firsts leaves) ≡ array_leaves ranges (counts leaves)
counts_array ranges firsts leaves =
    counts_elements (subscript_lists ranges) firsts leaves
    ∙ ap (flat_map (λ text. below (codes "[" ++ text ++ codes "]") (counts leaves))) (texts_are_choices ranges)

-- ---- standard function blocks

pub counts_block : (b : StandardBlock) → counts (block_leaves b) ≡ standard_leaves b
counts_block blocks.RTrig = refl
counts_block blocks.FTrig = refl
counts_block blocks.Sr = refl
counts_block blocks.Rs = refl
counts_block blocks.Ctu = refl
counts_block blocks.Ctd = refl
counts_block blocks.Ton = refl
counts_block blocks.Tof = refl
counts_block blocks.Tp = refl

-- ---- charts

counts_state : (back : ℕ) (is_initial has_pulse : Bool) → counts (state_in back is_initial has_pulse) ≡ state_leaves has_pulse
counts_state back is_initial true = refl
counts_state back is_initial false = refl

counts_step : (name : List ℕ) (back : ℕ) (s : Step) → counts (step_in name back s) ≡ step_leaves s
counts_step name back s =
    counts_within (field s.name.spelling) name (state_in back s.is_initial (list_any is_pulse s.associations))
    ∙ ap (below (codes "." ++ s.name.spelling)) (counts_state back s.is_initial (list_any is_pulse s.associations))

counts_steps : (name : List ℕ) (back : ℕ) (steps : List Step) → counts (all_steps_in name back steps) ≡ flat_map step_leaves steps
counts_steps name back [] = refl
counts_steps name back (s ∷ steps) =
    counts_append (step_in name back s) (all_steps_in name (back + length (step_in name back s)) steps)
    ∙ ap (λ ls. ls ++ counts (all_steps_in name (back + length (step_in name back s)) steps)) (counts_step name back s)
    ∙ ap (λ ls. step_leaves s ++ ls) (counts_steps name (back + length (step_in name back s)) steps)

counts_stored : (name : List ℕ) (stored : List (List ℕ)) → counts (flat_map (stored_in name) stored) ≡ stored_leaves stored
counts_stored name [] = refl
counts_stored name (n ∷ stored) = ap (λ ls. counts (stored_in name n) ++ ls) (counts_stored name stored)

pub counts_chart : (name : List ℕ) (stored : List (List ℕ)) (elements : List ChartElement) → counts (chart_in name stored elements) ≡ chart_leaves stored elements
counts_chart name stored [] = refl
counts_chart name stored (e ∷ es) =
    ap (λ ls. kept_under (codes "CHART") elems.Bool ∷ ls)
    (counts_append (all_steps_in name 1 steps) (flat_map (stored_in name) stored) ∙ ap (λ ls. ls ++ counts (flat_map (stored_in name) stored)) (counts_steps name 1 steps)
    ∙ ap (λ ls. flat_map step_leaves steps ++ ls) (counts_stored name stored)) where
      steps : List Step
      steps = flat_map steps_in (e ∷ es)

-- ---- what begins with a value that is written

pub counts_started : (initial : Option Initial) (c : Composition) → counts (leaves_in (started initial c)) ≡ counts (leaves_in c)
counts_started None c = refl
counts_started (Some (initials.Constant v)) (elementary w) = ap (λ e. record { path = []; elem = e } ∷ []) (written_elem w.elem v)
counts_started (Some (initials.Constant v)) unknown = refl
counts_started (Some (initials.Constant v)) (array ranges firsts c) = refl
counts_started (Some (initials.Constant v)) (composed name ms chart) = refl
counts_started (Some (initials.Constant v)) (standard b) = refl
counts_started (Some (initials.Array position items)) (array ranges firsts c) =
    counts_array ranges (first_values items) (leaves_in c) ∙ sym (counts_array ranges firsts (leaves_in c))
counts_started (Some (initials.Array position items)) unknown = refl
counts_started (Some (initials.Array position items)) (elementary w) = refl
counts_started (Some (initials.Array position items)) (composed name ms chart) = refl
counts_started (Some (initials.Array position items)) (standard b) = refl

-- ---- the program

as_inputs : (leaves : List LeafIn) → counts (used_as var_kinds.Input leaves) ≡ counts leaves
as_inputs [] = refl
as_inputs (l ∷ leaves) = ap (λ ls. counted l ∷ ls) (as_inputs leaves)

counts_used : (kind : VarKind) (leaves : List LeafIn) → counts (used_as kind leaves) ≡ counts leaves
counts_used var_kinds.Input leaves = as_inputs leaves
counts_used var_kinds.Internal leaves = refl
counts_used var_kinds.Constant leaves = refl
counts_used var_kinds.Output leaves = refl

counts_variables : (name : List ℕ) (ms : Members) → counts (variables_in name ms) ≡ counts (members_in name ms)
counts_variables name none = refl
counts_variables name (member n kind c ms) =
    counts_append (within (field n) name (used_as kind (leaves_in c))) (variables_in name ms)
    ∙ ap (λ ls. ls ++ counts (variables_in name ms)) (counts_within (field n) name (used_as kind (leaves_in c)) ∙ ap (below (codes "." ++ n)) (counts_used kind (leaves_in c)) ∙ sym (counts_within (field n) name (leaves_in c)))
    ∙ ap (λ ls. counts (within (field n) name (leaves_in c)) ++ ls) (counts_variables name ms)
    ∙ sym (counts_append (within (field n) name (leaves_in c)) (members_in name ms))

-- whether it is a whole or a part is no matter
pub counts_whole : (c : Composition) → counts (leaves_of_whole c) ≡ counts (leaves_in c)
counts_whole unknown = refl
counts_whole (elementary v) = refl
counts_whole (array ranges firsts c) = refl
counts_whole (composed name ms chart) =
    let own = chart_in name (stored_by (member_names ms) chart) chart in
    counts_append (variables_in name ms) own ∙ ap (λ ls. ls ++ counts own) (counts_variables name ms) ∙ sym (counts_append (members_in name ms) own)
counts_whole (standard b) = refl
