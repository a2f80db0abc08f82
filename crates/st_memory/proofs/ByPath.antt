-- What an online change makes of a content, by path.
use Rattle.std.proofs.Common.{ℕ, ◌≡◌, ◌<◌, ◌↔◌, Bool, true, false, ◌&&◌, cond, pos, List, length, Option, Some, None, IsSomeAnd, refl, sym, ◌∙◌, ap, subst}
use Rattle.std.specs.Option.{is_some, option_map, option_map_or}
use Rattle.std.proofs.lemmas.Bool.{and_from, and_parts}
use Rattle.std.proofs.lemmas.Bool.Decides.{Decides-int_eq}
use Rattle.st_values.specs.declared.value.Value.{Value}
use Rattle.st_tree.specs.declared.leaf.Leaf.{Leaf}
use Rattle.st_tree.specs.declared.leaf.Role.{Role}
use Rattle.st_tree.specs.declared.leaf.Role.TheVariants.{StepActive, StepPulsed}
use Rattle.st_leaves.specs.Sound.{IsSound}
use Rattle.st_memory.specs.Laws.{BeginsAsDeclared, FreshLeafIsInitial, FreshLeafIsNotForced, FreshPulseFollowsStep, FreshStepIsInactive, IsChange, IsFresh, KeptForceStays, KeptValueStays, WasTrue, carried_value, is_forced, is_forced_still, value_of}
use Rattle.st_layout.specs.Layout.{leaf_at}
use Rattle.st_memory.specs.Memory.{Content, forced_at, value_at}
use Rattle.st_memory.specs.Moves.{fresh_value, is_true, moved, moved_force, moved_value, truth, was_true}
use Rattle.st_layout.specs.Pairs.{Pairs, number_at}
use Rattle.st_layout.proofs.Paths.{number-own}
use Rattle.st_memory.proofs.Moving.{moved_force_at, moved_value_at}
use Rattle.st_layout.proofs.Paired.{pair_of_source, pair_of_target}

-- what stands at a leaf's path
value_at_path : (leaves : List Leaf) (content : Content) (i : ℕ) → IsSound leaves → i < length leaves → value_of leaves content (leaf_at leaves i).path ≡ Some (value_at content.values i)
value_at_path leaves content i sound below = ap (option_map (value_at content.values)) (number-own leaves i sound below)

force_at_path : (leaves : List Leaf) (content : Content) (i : ℕ) → IsSound leaves → i < length leaves → is_forced leaves content (leaf_at leaves i).path ≡ forced_at content.forced i
force_at_path leaves content i sound below = ap (λ (number : Option ℕ). option_map_or (forced_at content.forced) number false) (number-own leaves i sound below)

module _ (old new : List Leaf) (pairs : Pairs) (before : Content) (change : IsChange old new pairs before) where
  carried_is : (j : ℕ) → j < length new → carried_value new pairs before j ≡ Some (moved_value pairs.sources before.values (leaf_at new j) (number_at pairs.sources j))
  carried_is j below =
      value_at_path new (moved new pairs before) j change.new_sound below
      ∙ ap (λ (value : Value). Some value) (moved_value_at new pairs before change.pairing.sources j below)

  forced_is : (j : ℕ) → j < length new → is_forced_still new pairs before j ≡ moved_force before.forced (number_at pairs.sources j)
  forced_is j below = force_at_path new (moved new pairs before) j change.new_sound below ∙ moved_force_at new pairs before change.pairing.sources j below

  -- a fresh leaf of this role
  fresh_is : (j : ℕ) (role : Role) → IsFresh new pairs j → (leaf_at new j).role ≡ role → carried_value new pairs before j ≡ Some (fresh_value pairs.sources before.values (leaf_at new j) role)
  fresh_is j role fresh is =
      carried_is j fresh.0
      ∙ (ap (λ (source : Option ℕ). Some (moved_value pairs.sources before.values (leaf_at new j) source)) fresh.1
      ∙ ap (λ (other : Role). Some (fresh_value pairs.sources before.values (leaf_at new j) other)) is)

  -- a test of whether a leaf takes the place of one that was TRUE
  was_true_told : (j : ℕ) → (was_true pairs.sources before.values j ≡ true) ↔ WasTrue old pairs before j
  was_true_told j = (to (number_at pairs.sources j) refl, from)
    where
      to : (source : Option ℕ) → number_at pairs.sources j ≡ source → option_map_or (λ i. is_true (value_at before.values i)) source false ≡ true → WasTrue old pairs before j
      to None is holds = cc
      to (Some i) is holds =
          let pair = pair_of_source old new pairs change.pairing i j is in
          let there = value_at_path old before i change.old_sound pair.old_below in
          let bits : (value_at before.values i).bits ≡ pos 1 = (Decides-int_eq (value_at before.values i).bits (pos 1)).0 holds in
          (i, is, subst (λ (value : Option Value). IsSomeAnd value (λ value. value.bits ≡ pos 1)) (sym there) bits)

      from : WasTrue old pairs before j → was_true pairs.sources before.values j ≡ true
      from (i, is, holds) =
          let pair = pair_of_source old new pairs change.pairing i j is in
          let there = value_at_path old before i change.old_sound pair.old_below in
          let bits : (value_at before.values i).bits ≡ pos 1 = subst (λ (value : Option Value). IsSomeAnd value (λ value. value.bits ≡ pos 1)) there holds in
          ap (λ (source : Option ℕ). option_map_or (λ i. is_true (value_at before.values i)) source false) is
          ∙ (Decides-int_eq (value_at before.values i).bits (pos 1)).1 bits

pub kept_value_stays : KeptValueStays
kept_value_stays old new pairs before i j change target =
    let pair = pair_of_target old new pairs change.pairing i j target in
    carried_is old new pairs before change j pair.new_below
    ∙ (ap (λ (source : Option ℕ). Some (moved_value pairs.sources before.values (leaf_at new j) source)) pair.source
    ∙ sym (value_at_path old before i change.old_sound pair.old_below))

pub kept_force_stays : KeptForceStays
kept_force_stays old new pairs before i j change target =
    let pair = pair_of_target old new pairs change.pairing i j target in
    forced_is old new pairs before change j pair.new_below
    ∙ (ap (moved_force before.forced) pair.source
    ∙ sym (force_at_path old before i change.old_sound pair.old_below))

pub fresh_leaf_is_not_forced : FreshLeafIsNotForced
fresh_leaf_is_not_forced old new pairs before j change fresh = forced_is old new pairs before change j fresh.0 ∙ ap (moved_force before.forced) fresh.1

pub fresh_step_is_inactive : FreshStepIsInactive
fresh_step_is_inactive old new pairs before j begun change fresh role chart =
    let kept : is_some (number_at pairs.sources begun) ≡ true = chart in
    fresh_is old new pairs before change j (StepActive begun) fresh role
    ∙ ap (λ (b : Bool). Some (cond b (truth (leaf_at new j) false) (leaf_at new j).initial)) kept

pub fresh_pulse_follows_step : FreshPulseFollowsStep
fresh_pulse_follows_step old new pairs before j active begun change fresh role =
    let step = was_true_told old new pairs before change active in
    let chart = was_true_told old new pairs before change begun in
    let a : Bool = was_true pairs.sources before.values active in
    let b : Bool = was_true pairs.sources before.values begun in (
      a && b,
      fresh_is old new pairs before change j (StepPulsed active begun) fresh role,
      (λ both. let parts = and_parts a b both in (step.0 parts.0, chart.0 parts.1), λ both. and_from a b (step.1 both.0) (chart.1 both.1)),
    )

initial_value : (pairs : Pairs) (values : List Value) (leaf : Leaf) (role : Role) → BeginsAsDeclared pairs role → fresh_value pairs.sources values leaf role ≡ leaf.initial
initial_value pairs values leaf (StepActive begun) begins = ap (λ (source : Option ℕ). cond (is_some source) (truth leaf false) leaf.initial) begins
initial_value pairs values leaf (StepPulsed active begun) begins = absurd begins
initial_value pairs values leaf _ begins = refl

pub fresh_leaf_is_initial : FreshLeafIsInitial
fresh_leaf_is_initial old new pairs before j change fresh begins =
    fresh_is old new pairs before change j (leaf_at new j).role fresh refl
    ∙ ap (λ (value : Value). Some value) (initial_value pairs before.values (leaf_at new j) (leaf_at new j).role begins)
