-- What a memory holds, by path.
use Rattle.std.proofs.Common.{ℕ, ◌≡◌, ◌≢◌, ◌<◌, ◌↔◌, Bool, true, false, cond, List, length, Option, Some, None, IsSome, IfSome, refl, sym, ◌∙◌, ap, arith}
use Rattle.std.specs.List.{AllPairs, Contains}
use Rattle.std.specs.Option.{option_map, option_map_or}
use Rattle.std.proofs.lemmas.List.{get_or-set_other, get_or-set_same, same_lists, get_or_default}
use Rattle.std.proofs.lemmas.Slice.Eq.{bytes_eq-Decides}
use Rattle.st_tree.specs.declared.leaf.Leaf.{Leaf}
use Rattle.st_values.specs.declared.value.Value.{Value}
use Rattle.st_memory.specs.Laws.{HasLeavesValues, MarkChangesOneForce, PathsDetermineContent, SetChangesOneValue, is_path_of}
use Rattle.st_layout.specs.Layout.{IsValueAt, leaf_at, no_value, number_of, paths_of}
use Rattle.st_values.specs.Words.{raised}
use Rattle.st_memory.specs.Memory.{Content, forced_at, value_at, with_force, with_value}
use Rattle.st_memory.proofs.Contents.{value_fits}
use Rattle.st_layout.proofs.Paths.{number-None, number-Some, number-at, number-listed, number-own}

abbrev made : List Value → List Bool → Content
made values forced = record { values = values; forced = forced }

-- an update at a leaf's path, of whatever is stored by number
module _ {Y : Type 0} (leaves : List Leaf) (i : ℕ) (path : List ℕ) (distinct : AllPairs (λ leaf other. leaf.path ≢ other.path) leaves) (below : i < length leaves) where
  at_path : (new old : ℕ → Y) (none y : Y) → new i ≡ y → ((k : ℕ) → k ≢ i → new k ≡ old k) → option_map_or new (number_of leaves path) none ≡ cond (is_path_of leaves i path) y (option_map_or old (number_of leaves path) none)
  at_path new old none y here others = by (is_path_of leaves i path) refl
    where
      other : (number : Option ℕ) → number_of leaves path ≡ number → is_path_of leaves i path ≡ false → option_map_or new number none ≡ option_map_or old number none
      other None is fails = refl
      other (Some k) is fails = others k (λ same. let yes : is_path_of leaves i path ≡ true = (bytes_eq-Decides (raised path) (leaf_at leaves i).path).1 (sym (number-Some leaves path k is).1 ∙ ap (λ (n : ℕ). (leaf_at leaves n).path) same) in cc)

      by : (test : Bool) → is_path_of leaves i path ≡ test → option_map_or new (number_of leaves path) none ≡ cond test y (option_map_or old (number_of leaves path) none)
      by true is = rw (number-at leaves path i distinct below ((bytes_eq-Decides (raised path) (leaf_at leaves i).path).0 is)) here
      by false is = other (number_of leaves path) refl is

option_map-is : {X Y : Type 0} (f : X → Y) (o : Option X) → option_map f o ≡ option_map_or (λ x. Some (f x)) o None
option_map-is f None = refl
option_map-is f (Some x) = refl

pub set_changes_one_value : SetChangesOneValue
set_changes_one_value leaves content i value path sound fits below =
    let one = at_path leaves i path sound.distinct below (λ k. Some (value_at (with_value content i value).values k)) (λ k. Some (value_at content.values k)) None (Some value)
    (ap (λ (v : Value). Some v) (get_or-set_same content.values i value no_value (omega (arith, fits.values, below))))
    (λ k apart. ap (λ (v : Value). Some v) (get_or-set_other content.values i k value no_value apart)) in
    (rw (option_map-is (value_at (with_value content i value).values) (number_of leaves path), option_map-is (value_at content.values) (number_of leaves path)) one, refl)

pub mark_changes_one_force : MarkChangesOneForce
mark_changes_one_force leaves content i on path sound fits below = (
  at_path leaves i path sound.distinct below (forced_at (with_force content i on).forced) (forced_at content.forced) false on
      (get_or-set_same content.forced i on false (omega (arith, fits.forced, below)))
      (λ k apart. get_or-set_other content.forced i k on false apart),
  refl,
)

pub has_leaves_values : HasLeavesValues
has_leaves_values leaves content path fits = by (number_of leaves path) refl
  where
    by : (number : Option ℕ) → number_of leaves path ≡ number → (IsSome (option_map (value_at content.values) number) ↔ Contains (paths_of leaves) (raised path)) × IfSome number (λ i. IfSome (option_map (value_at content.values) number) (λ value. IsValueAt leaves i value))
    by None is = ((λ some. cc, λ listed. absurd (number-None leaves path is listed)), tt)
    by (Some i) is =
        let at = number-Some leaves path i is in
        ((λ _. (number-listed leaves path (Some i) (sym is)).0 refl, λ _. refl), value_fits leaves content.values i fits.types at.0)

pub paths_determine_content : PathsDetermineContent
paths_determine_content leaves content other sound fits other_fits values forces =
    let own : (i : ℕ) → i < length leaves → number_of leaves (leaf_at leaves i).path ≡ Some i = λ i below. number-own leaves i sound below in
    let same_values : content.values ≡ other.values = same_lists content.values other.values (omega (arith, fits.values, other_fits.values)) (λ k d below.
    let here : k < length leaves = omega (arith, below, fits.values) in
    let both : Some (value_at content.values k) ≡ Some (value_at other.values k) = rw (own k here) at (values (leaf_at leaves k).path) in
    get_or_default content.values k d no_value below ∙ ((cc) ∙ get_or_default other.values k no_value d (omega (arith, here, other_fits.values)))) in
    let same_forces : content.forced ≡ other.forced = same_lists content.forced other.forced (omega (arith, fits.forced, other_fits.forced)) (λ k d below.
    let here : k < length leaves = omega (arith, below, fits.forced) in
    let both : forced_at content.forced k ≡ forced_at other.forced k = rw (own k here) at (forces (leaf_at leaves k).path) in
    get_or_default content.forced k d false below ∙ (both ∙ get_or_default other.forced k false d (omega (arith, here, other_fits.forced)))) in
    ap (λ (vs : List Value). made vs content.forced) same_values ∙ ap (λ (bs : List Bool). made other.values bs) same_forces
