-- The table of the initial values of types, while it is filled.
use Rattle.std.proofs.Common.{◌≡◌, ◌∙◌, ◌⊎◌, ℕ, suc, ◌<◌, ◌≤◌, false, List, [], length, get_or, set, take, Option, Some, None, refl, ap, sym, subst, arith, inl, inr}
use Rattle.std.specs.List.{Contains}
use Rattle.std.proofs.Math.Seq.{take-suc}
use Rattle.std.proofs.lemmas.Bool.{cases_Bool, cases_eq, cases_lt}
use Rattle.std.proofs.lemmas.List.{get_or-set_other, get_or-set_same, length-map, take_all}
use Rattle.std.proofs.lemmas.List.Elements.{Contains-push_cases}
use Rattle.st_tree.specs.declared.tree.declaration.Initial.{Initial}
use Rattle.st_references.specs.Graphs.{IsOrder}
use Rattle.st_references.specs.References.{graph_of, names_type, references}
use Rattle.st_references.proofs.Contents.{before_place, order_len}
use Rattle.st_types.specs.Initials.{initial_at, initial_within, known, unit_initial}
use Rattle.st_types.specs.Names.{Named, unit_at}
use Rattle.st_types.proofs.Units.{unit_at-past}
use Rattle.st_references.specs.Tables.{AreInitials, by_table, initial_in}
use Rattle.st_references.proofs.Aliases.{alias_number, by_unit, no_type_within, of_alias, unit_known, within_more}

-- the unit is one of these, or no type
abbrev pub IsSettled : List Named → List ℕ → ℕ → Type 0
IsSettled units placed i = Contains placed i ⊎ (names_type (unit_at units i) ≡ false)

-- the table has the initial values of these units, each within so many
abbrev pub Knows : List Named → List ℕ → ℕ → List (Option Initial) → Type 0
Knows units placed n table = (i : ℕ) → IsSettled units placed i → initial_within units n i ≡ Some (initial_in table i)

-- before the first unit
pub knows_none : (units : List Named) (table : List (Option Initial)) → ((i : ℕ) → initial_in table i ≡ None) → Knows units [] 1 table
knows_none units table none i (inl has) = absurd (omega (arith, has.1))
knows_none units table none i (inr is) = no_type_within units 0 i is ∙ ap Some (sym (none i))

module _ (units : List Named) (order : List ℕ) (ordered : IsOrder (graph_of units) order) (place : ℕ) (below : place < length order) where
  abbrev next : ℕ
  next = get_or order place 0

  -- the type that the unit at the place is declared as
  alias_settled : (j : ℕ) → alias_number units (unit_at units next) ≡ Some j → IsSettled units (take place order) j
  alias_settled j is = elim (cases_Bool (names_type (unit_at units j))) as (λ _. IsSettled units (take place order) j) [
    | inl one ↦ inl (of_alias units (Contains (take place order)) j one (unit_at units next) is (λ u at. before_place units order ordered place u below at))
    | inr none ↦ inr none
  ]

  module _ (table : List (Option Initial)) (knows : Knows units (take place order) (suc place) table) where
    abbrev pub own : Option Initial
    own = known units (unit_initial units (by_table table) (unit_at units next))

    next_known : initial_within units (suc (suc place)) next ≡ Some own
    unfolding initial_within
    next_known =
        by_unit units (by_table table) (initial_within units (suc place)) own (unit_at units next)
        (λ j is y at. knows j (alias_settled j is) ∙ at) (unit_known units (by_table table) (λ i. refl) (unit_at units next))

    settled_before : (i : ℕ) → (i ≡ next → ⊥) → IsSettled units (take (suc place) order) i → IsSettled units (take place order) i
    settled_before i other (inr is) = inr is
    settled_before i other (inl has) = elim (Contains-push_cases (take place order) next i (subst (λ placed. Contains placed i) (take-suc order place 0 below) has)) as (λ _. IsSettled units (take place order) i) [
      | inl before ↦ inl before
      | inr same ↦ absurd (other (sym same))
    ]

    -- with that of the unit at the place
    pub knows_more : next < length table → Knows units (take (suc place) order) (suc (suc place)) (set table next own)
    knows_more inside i settled = elim (cases_eq i next) as (λ _. initial_within units (suc (suc place)) i ≡ Some (initial_in (set table next own) i)) [
      | inl same ↦
          subst (λ k. initial_within units (suc (suc place)) k ≡ Some (initial_in (set table next own) k)) (sym same)
          (next_known ∙ ap Some (sym (get_or-set_same table next own None inside)))
      | inr other ↦
          within_more units (suc place) (suc (suc place)) i (initial_in table i) (omega arith) (knows i (settled_before i other settled))
          ∙ ap Some (sym (get_or-set_other table next i own None other))
    ]

-- after the last unit
pub all_known : (units : List Named) (order : List ℕ) (ordered : IsOrder (graph_of units) order) (place : ℕ) (table : List (Option Initial))
    → length order ≤ place → place ≤ length order → Knows units (take place order) (suc place) table → AreInitials units table
unfolding initial_at
all_known units order ordered place table last le knows i =
    sym (ap (known units) (within_more units (suc place) (suc (length units)) i (initial_in table i) (omega (arith, le, order_len units order ordered)) (knows i settled)))
  where
    settled : IsSettled units (take place order) i
    settled = elim (cases_lt i (length units)) as (λ _. IsSettled units (take place order) i) [
      | inl below ↦
          inl (subst (λ placed. Contains placed i) (sym (take_all place order last)) (ordered.all i (omega (arith, below, length-map units (λ u. references units u.declares)))))
      | inr past ↦ inr (ap names_type (unit_at-past units i past))
    ]
