-- The associations of a chart, with the numbers of their steps and names.
use Rattle.std.proofs.Common.{◌≡◌, ℕ, suc, ◌+◌, ◌<◌, ◌≤◌, Option, Some, None, List, [], ◌∷◌, ◌++◌, length, take, get_or, refl, ap, sym, subst, ◌∙◌, arith, append-nil, append_assoc, length-append}
use Rattle.std.specs.List.{All, flat_map, position}
use Rattle.std.proofs.lemmas.List.Elements.{All-append, All-cons, All-nil, All-weaker}
use Rattle.std.proofs.lemmas.List.Folds.{length-flat_map-take}
use Rattle.st_values.specs.Words.{is_word}
use Rattle.st_tree.specs.declared.tree.unit.Association.{Association}
use Rattle.st_tree.specs.declared.tree.unit.ChartElement.{ChartElement}
use Rattle.st_tree.specs.declared.tree.unit.Step.{Step}
use Rattle.st_types.specs.Names.{steps_in}
use Rattle.st_charts.specs.declared.table.Link.{Link}
use Rattle.st_meaning.specs.Sketched.{link_in, link_with, links_from}
use Rattle.st_meaning.proofs.Lists.{each_flat, flat_one, found_below}

-- ---- one step more

links_append : (names : List (List ℕ)) (n : ℕ) (steps : List Step) (s : Step) → links_from names n (steps ++ s ∷ []) ≡ links_from names n steps ++ flat_map (link_in names (n + length steps)) s.associations
links_append names n [] s = append-nil (flat_map (link_in names n) s.associations) ∙ ap (λ m. flat_map (link_in names m) s.associations) (omega arith)
links_append names n (t ∷ steps) s =
    ap (λ ls. flat_map (link_in names n) t.associations ++ ls)
    (links_append names (suc n) steps s ∙ ap (λ m. links_from names (suc n) steps ++ flat_map (link_in names m) s.associations) (omega arith))
    ∙ sym (append_assoc (flat_map (link_in names n) t.associations) (links_from names (suc n) steps) (flat_map (link_in names (n + length (t ∷ steps))) s.associations))

pub links_more : (names : List (List ℕ)) (elements : List ChartElement) (i : ℕ) (element : ChartElement) (s : Step) (associations : List Association) (number : ℕ) (now new : List Link) → i < length elements
    → element ≡ get_or elements i element → steps_in element ≡ s ∷ [] → associations ≡ s.associations → number ≡ length (flat_map steps_in (take i elements))
    → now ≡ links_from names 0 (flat_map steps_in (take i elements)) → new ≡ now ++ flat_map (link_in names number) associations → new ≡ links_from names 0 (flat_map steps_in (take (i + 1) elements))
links_more names elements i element s associations number now new within at one these numbered so_far added =
    added ∙ ap (λ ls. ls ++ flat_map (link_in names number) associations) so_far
    ∙ ap (λ as'. links_from names 0 (flat_map steps_in (take i elements)) ++ flat_map (link_in names number) as') these
    ∙ ap (λ m. links_from names 0 (flat_map steps_in (take i elements)) ++ flat_map (link_in names m) s.associations) (numbered ∙ omega arith)
    ∙ sym (links_append names 0 (flat_map steps_in (take i elements)) s) ∙ ap (links_from names 0) (sym (flat_one steps_in elements i element s within at one))

pub number_more : (elements : List ChartElement) (i : ℕ) (element : ChartElement) (s : Step) (number : ℕ) → i < length elements → element ≡ get_or elements i element → steps_in element ≡ s ∷ []
    → number ≡ length (flat_map steps_in (take i elements)) → number + 1 ≡ length (flat_map steps_in (take (i + 1) elements))
number_more elements i element s number within at one numbered =
    let more = ap length (flat_one steps_in elements i element s within at one) in
    let both = length-append (flat_map steps_in (take i elements)) (s ∷ []) in omega (arith, more, both)

-- the number of a step is below how many there are
pub number_below : (elements : List ChartElement) (i : ℕ) (element : ChartElement) (s : Step) (number : ℕ) → i < length elements → element ≡ get_or elements i element → steps_in element ≡ s ∷ []
    → number ≡ length (flat_map steps_in (take i elements)) → number + 1 ≤ length (flat_map steps_in elements)
number_below elements i element s number within at one numbered =
    let most = length-flat_map-take steps_in elements i element within in
    let single : length (steps_in (get_or elements i element)) ≡ 1 = ap (λ e. length (steps_in e)) (sym at) ∙ ap length one in omega (arith, most, single)

-- ---- the numbers are in range

-- what is made of an association with a name that has a number in range
in_range : (P : Link → Type 0) (step : ℕ) (a : Association) (o : Option ℕ) → ((i : ℕ) → o ≡ Some i → All P (link_with step a (Some i))) → All P (link_with step a o)
in_range P step a None h = All-nil P
in_range P step a (Some i) h = h i refl

steps_of_links : (names : List (List ℕ)) (n bound : ℕ) → n < bound → (associations : List Association) → All (λ (l : Link). l.step < bound) (flat_map (link_in names n) associations)
steps_of_links names n bound below =
    each_flat (λ (l : Link). l.step < bound) (link_in names n)
    (λ a. in_range (λ (l : Link). l.step < bound) n a (position (is_word a.name.spelling) names)
    (λ i is. All-cons (λ (l : Link). l.step < bound) _ [] below (All-nil (λ (l : Link). l.step < bound))))

names_of_links : (names : List (List ℕ)) (n : ℕ) (associations : List Association) → All (λ (l : Link). l.name < length names) (flat_map (link_in names n) associations)
names_of_links names n =
    each_flat (λ (l : Link). l.name < length names) (link_in names n)
    (λ a. in_range (λ (l : Link). l.name < length names) n a (position (is_word a.name.spelling) names)
    (λ i is. All-cons (λ (l : Link). l.name < length names) _ [] (found_below (is_word a.name.spelling) names i is) (All-nil (λ (l : Link). l.name < length names))))

all_steps : (names : List (List ℕ)) (n : ℕ) (steps : List Step) → All (λ (l : Link). l.step < n + length steps) (links_from names n steps)
all_steps names n [] = All-nil (λ (l : Link). l.step < n + length {A = Step} [])
all_steps names n (s ∷ steps) =
    All-append (λ (l : Link). l.step < n + length (s ∷ steps)) (flat_map (link_in names n) s.associations) (links_from names (suc n) steps) (steps_of_links names n (n + length (s ∷ steps)) (omega arith) s.associations)
    (All-weaker (λ (l : Link). l.step < suc n + length steps) (λ (l : Link). l.step < n + length (s ∷ steps)) (λ l lt. omega (arith, lt)) (links_from names (suc n) steps) (all_steps names (suc n) steps))

all_names : (names : List (List ℕ)) (n : ℕ) (steps : List Step) → All (λ (l : Link). l.name < length names) (links_from names n steps)
all_names names n [] = All-nil (λ (l : Link). l.name < length names)
all_names names n (s ∷ steps) =
    All-append (λ (l : Link). l.name < length names) (flat_map (link_in names n) s.associations) (links_from names (suc n) steps) (names_of_links names n s.associations) (all_names names (suc n) steps)

pub steps_within : (names : List (List ℕ)) (steps : List Step) (links : List Link) (count : ℕ) → count ≡ length steps → links ≡ links_from names 0 steps → All (λ (l : Link). l.step < count) links
steps_within names steps links count counted are =
    subst (All (λ (l : Link). l.step < count)) (sym are)
    (All-weaker (λ (l : Link). l.step < 0 + length steps) (λ (l : Link). l.step < count) (λ l lt. omega (arith, lt, counted)) (links_from names 0 steps) (all_steps names 0 steps))

pub names_within : (names : List (List ℕ)) (steps : List Step) (links : List Link) (count : ℕ) → count ≡ length names → links ≡ links_from names 0 steps → All (λ (l : Link). l.name < count) links
names_within names steps links count counted are =
    subst (All (λ (l : Link). l.name < count)) (sym are)
    (All-weaker (λ (l : Link). l.name < length names) (λ (l : Link). l.name < count) (λ l lt. omega (arith, lt, counted)) (links_from names 0 steps) (all_names names 0 steps))
