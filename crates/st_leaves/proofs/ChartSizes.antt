-- The leaves of charts, step by step.
use Rattle.std.proofs.Common.{◌≡◌, ℕ, ◌+◌, ◌<◌, Bool, List, [], ◌∷◌, ◌++◌, codes, length, take, get_or, refl, ap, sym, ◌∙◌, arith, append-nil, subst}
use Rattle.std.specs.List.{flat_map, list_any}
use Rattle.std.proofs.lemmas.Grind.{flat_map-append}
use Rattle.std.proofs.lemmas.List.{map-append, take_more}
use Rattle.st_values.specs.declared.elem.Elem.TheVariants as elems
use Rattle.st_tree.specs.declared.tree.unit.Association.{Association}
use Rattle.st_tree.specs.declared.tree.unit.ChartElement.{ChartElement}
use Rattle.st_tree.specs.declared.tree.unit.Step.{Step}
use Rattle.st_types.specs.Names.{steps_in}
use Rattle.st_leaves.specs.Sizes.{IsSize}
use Rattle.st_leaves.specs.declared.limited.Size.{Size}
use Rattle.st_leaves.specs.Charts.{LeafBelow, all_leaves, associations_in, associations_of, below, chart_leaves, is_pulse, kept_under, step_leaves, stored_leaves, state_leaves}
use Rattle.st_leaves.specs.Limits.{size_of, sizes_of}

-- two lists of leaves, one after the other
pub sizes_joined : (size : Size) (leaves more all : List LeafBelow) → leaves ++ more ≡ all → IsSize size (sizes_of leaves ++ sizes_of more) → IsSize size (sizes_of all)
sizes_joined size leaves more all is h = subst (IsSize size) (sym (map-append size_of leaves more) ∙ ap sizes_of is) h

-- the steps among one element more
pub steps_more : (elements : List ChartElement) (i : ℕ) (element : ChartElement) → i < length elements → flat_map steps_in (take (i + 1) elements) ≡ flat_map steps_in (take i elements) ++ steps_in (get_or elements i element)
steps_more elements i element within =
    ap (flat_map steps_in) (take_more elements i element within) ∙ flat_map-append steps_in (take i elements) (get_or elements i element ∷ [])
    ∙ ap (λ ss. flat_map steps_in (take i elements) ++ ss) (append-nil (steps_in (get_or elements i element)))

-- one step more
pub step_more : (elements : List ChartElement) (i : ℕ) (element : ChartElement) (s : Step) → i < length elements → element ≡ get_or elements i element → steps_in element ≡ s ∷ []
    → flat_map steps_in (take (i + 1) elements) ≡ flat_map steps_in (take i elements) ++ s ∷ []
step_more elements i element s within at one =
    steps_more elements i element within ∙ ap (λ e. flat_map steps_in (take i elements) ++ steps_in e) (sym at) ∙ ap (λ ss. flat_map steps_in (take i elements) ++ ss) one

pub leaves_more : (steps : List Step) (s : Step) → flat_map step_leaves steps ++ step_leaves s ≡ flat_map step_leaves (steps ++ s ∷ [])
leaves_more steps s = sym (flat_map-append step_leaves steps (s ∷ []) ∙ ap (λ ls. flat_map step_leaves steps ++ ls) (append-nil (step_leaves s)))

pub associations_more : (elements : List ChartElement) (i : ℕ) (element : ChartElement) (s : Step) (associations : List Association) → i < length elements → element ≡ get_or elements i element → steps_in element ≡ s ∷ []
    → associations ≡ s.associations → associations_in (take (i + 1) elements) ≡ associations_in (take i elements) ++ associations
associations_more elements i element s associations within at one these =
    ap associations_of (step_more elements i element s within at one)
    ∙ flat_map-append (λ (t : Step). t.associations) (flat_map steps_in (take i elements)) (s ∷ []) ∙ ap (λ as'. associations_in (take i elements) ++ as') (append-nil s.associations ∙ sym these)

pub chart_some : (stored : List (List ℕ)) (elements : List ChartElement) → 0 < length elements → all_leaves stored (flat_map steps_in elements) ≡ chart_leaves stored elements
chart_some stored [] some = absurd (omega (arith, some))
chart_some stored (e ∷ es) some = refl

-- one name more
pub leaves_stored : (names : List (List ℕ)) (name : List ℕ) → stored_leaves names ++ below (codes "." ++ name) (kept_under (codes "S") elems.Bool ∷ []) ≡ stored_leaves (names ++ name ∷ [])
leaves_stored names name =
    sym (flat_map-append (λ n. below (codes "." ++ n) (kept_under (codes "S") elems.Bool ∷ [])) names (name ∷ []))

-- a step, by whether it has pulses
pub step_sized : (size : Size) (s : Step) (name : List ℕ) (associations : List Association) (has_pulse : Bool) → name ≡ s.name.spelling → associations ≡ s.associations → has_pulse ≡ list_any is_pulse associations
    → IsSize size (sizes_of (below (codes "." ++ name) (state_leaves has_pulse))) → IsSize size (sizes_of (step_leaves s))
step_sized size s name associations has_pulse named_so with_these has h =
    subst (λ leaves. IsSize size (sizes_of leaves))
    (ap (λ n. below (codes "." ++ n) (state_leaves has_pulse)) named_so ∙ ap (λ b. below (codes "." ++ s.name.spelling) (state_leaves b)) (has ∙ ap (list_any is_pulse) with_these)) h
