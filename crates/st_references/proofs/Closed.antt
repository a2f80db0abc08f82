-- The numbers in the graph of references are those of units.
use Rattle.std.proofs.Common.{◌≡◌, ◌∙◌, ℕ, ◌<◌, Bool, true, false, List, [], ◌∷◌, length, get_or, Option, Some, None, refl, sym, ap, subst, if◌then◌else◌}
use Rattle.std.proofs.lemmas.List.{length-map}
use Rattle.std.proofs.lemmas.List.Elements.{All-append, All-cons, All-map, All-nil}
use Rattle.std.proofs.lemmas.List.Quantifiers.{position-Some}
use Rattle.std.specs.List.{All, flat_map}
use Rattle.st_values.specs.Words.{is_word}
use Rattle.st_types.specs.Names.{Declares, Named, number_of}
use Rattle.st_references.specs.Calls.{unit_calls}
use Rattle.st_references.specs.References.{called, contained, graph_of, listed, references, unit_types}

All-flat_map : {A B : Type 0} (P : B → Type 0) (f : A → List B) → ((x : A) → All P (f x)) → (xs : List A) → All P (flat_map f xs)
All-flat_map P f each [] = All-nil P
All-flat_map P f each (x ∷ xs) = All-append P (f x) (flat_map f xs) (each x) (All-flat_map P f each xs)

All-if : {A : Type 0} (P : A → Type 0) (b : Bool) (xs : List A) → All P xs → All P (if b then xs else [])
All-if P true xs all = all
All-if P false xs all = All-nil P

All-listed : (P : ℕ → Type 0) (n : Option ℕ) → ((i : ℕ) → n ≡ Some i → P i) → All P (listed n)
All-listed P None of = All-nil P
All-listed P (Some i) of = All-cons P i [] (of i refl) (All-nil P)

-- the number of a unit is below how many there are
number_below : (units : List Named) (name : List ℕ) (i : ℕ) → number_of units name ≡ Some i → i < length units
number_below [] name i is = absurd (cc)
number_below (u ∷ us) name i is = (position-Some (λ v. is_word v.name.spelling name) (u ∷ us) i u is).0

-- what a name stands for is a unit
found_below : (units : List Named) (b : Bool) (name : List ℕ) → All (λ a. a < length units) (if b then listed (number_of units name) else [])
found_below units b name = All-if (λ a. a < length units) b (listed (number_of units name)) (All-listed (λ a. a < length units) (number_of units name) (number_below units name))

references_below : (units : List Named) (unit : Declares) → All (λ a. a < length units) (references units unit)
references_below units unit =
    All-append (λ a. a < length units) (flat_map (contained units) (unit_types unit)) (flat_map (called units unit) (unit_calls unit))
    (All-flat_map (λ a. a < length units) (contained units) (λ name. found_below units _ name) (unit_types unit))
    (All-flat_map (λ a. a < length units) (called units unit) (λ name. found_below units _ name) (unit_calls unit))

rows_below : (units : List Named) → All (All (λ a. a < length units)) (graph_of units)
rows_below units = All-map (All (λ a. a < length units)) (λ u. references units u.declares) units (λ k u below. references_below units (get_or units k u).declares)

-- each entry is the number of a row
pub graph_closed : (units : List Named) (graph : List (List ℕ)) → graph ≡ graph_of units → All (All (λ a. a < length graph)) graph
graph_closed units graph is =
    let len : length graph ≡ length units = ap length is ∙ length-map units (λ u. references units u.declares) in
    subst (λ n. All (All (λ a. a < n)) graph) (sym len) (subst (λ g. All (All (λ a. a < length units)) g) (sym is) (rows_below units))
