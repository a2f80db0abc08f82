-- The inputs of a scan.
use Rattle.std.proofs.Common.{ℕ, ◌≡◌, ◌<◌, Bool, true, false, List, [], ◌∷◌, length, get_or, set, refl, sym, ◌∙◌, ap, arith}
use Rattle.std.specs.List.{list_any}
use Rattle.std.specs.Prelude.{if◌then◌else◌, nat_lt, not}
use Rattle.std.proofs.lemmas.Bool.{not-false, or_parts}
use Rattle.std.proofs.lemmas.Bool.Decides.{nat_tests}
use Rattle.std.proofs.lemmas.List.{get_or-set_other}
use Rattle.std.proofs.lemmas.List.Folds.{list_any_at}
use Rattle.st_control.proofs.Records.{takes_value}
use Rattle.st_control.specs.Machine.{is_value_of}
use Rattle.st_control.specs.Scans.{Input, has_no_leaf, has_other_type, with_input, with_inputs}
use Rattle.st_memory.proofs.Contents.{with_value_fits}
use Rattle.st_layout.specs.Layout.{IsValueAt, leaf_at, no_value}
use Rattle.st_memory.specs.Memory.{Content, Fits, forced_at, value_at}
use Rattle.st_tree.specs.declared.leaf.Leaf.{Leaf}
use Rattle.st_values.specs.declared.value.Value.{Value}

abbrev pub made : List Value → List Bool → Content
made values forced = record { values = values; forced = forced }

-- ---- one of the inputs

-- where none passes a test, each fails it
pub none_at : {X : Type 0} (test : X → Bool) (xs : List X) (i : ℕ) (d : X) → list_any test xs ≡ false → i < length xs → test (get_or xs i d) ≡ false
none_at test xs i d none below = by (test (get_or xs i d)) refl
  where
    by : (b : Bool) → test (get_or xs i d) ≡ b → b ≡ false
    by true is = let one : list_any test xs ≡ true = list_any_at test xs i d below is in cc
    by false is = refl

module _ (leaves : List Leaf) (inputs : List Input) (i : ℕ) (d : Input) (below : i < length inputs) where
  -- its leaf is there
  pub leaf_below : list_any (has_no_leaf leaves) inputs ≡ false → (get_or inputs i d).0 < length leaves
  leaf_below none =
      let there : nat_lt (get_or inputs i d).0 (length leaves) ≡ true = not-false (nat_lt (get_or inputs i d).0 (length leaves)) (none_at (has_no_leaf leaves) inputs i d none below) in
      grind (arith, nat_tests)

  -- and has its type
  pub value_of_leaf : list_any (has_other_type leaves) inputs ≡ false → IsValueAt leaves (get_or inputs i d).0 (get_or inputs i d).1
  value_of_leaf none =
      takes_value leaves (get_or inputs i d).0 (get_or inputs i d).1
      (not-false (is_value_of (leaf_at leaves (get_or inputs i d).0) (get_or inputs i d).1) (none_at (has_other_type leaves) inputs i d none below))

  -- one of another type is enough
  pub one_other : (leaf : Leaf) (fits : Bool) → leaf ≡ leaf_at leaves (get_or inputs i d).0 → fits ≡ is_value_of leaf (get_or inputs i d).1 → fits ≡ false
      → list_any (has_other_type leaves) inputs ≡ true
  one_other leaf fits leaf_is told fails =
      list_any_at (has_other_type leaves) inputs i d below
      (ap (λ (it : Leaf). not (is_value_of it (get_or inputs i d).1)) (sym leaf_is) ∙ ap not (sym told ∙ fails))

-- ---- all of them

-- inputs of their leaves' types leave values of these
module _ (leaves : List Leaf) (forced : List Bool) where
  input_fits : (values : List Value) (input : Input) → has_other_type leaves input ≡ false → Fits leaves (made values forced) → Fits leaves (made (with_input forced values input) forced)
  input_fits values input right fits =
      elim (forced_at forced input.0) as (λ b. Fits leaves (made (if b then values else set values input.0 input.1) forced)) [
        | true ↦ fits
        | false ↦ with_value_fits leaves (made values forced) input.0 input.1 fits (takes_value leaves input.0 input.1 (not-false (is_value_of (leaf_at leaves input.0) input.1) right))
      ]

  pub inputs_fit : (inputs : List Input) (values : List Value) → list_any (has_other_type leaves) inputs ≡ false → Fits leaves (made values forced)
      → Fits leaves (made (with_inputs forced values inputs) forced)
  inputs_fit [] values right fits = fits
  inputs_fit (input ∷ inputs) values right fits =
      let parts = or_parts (has_other_type leaves input) (list_any (has_other_type leaves) inputs) right in
      inputs_fit inputs (with_input forced values input) parts.1 (input_fits values input parts.0 fits)

-- a forced leaf keeps its value
module _ (forced : List Bool) (leaf : ℕ) (is : forced_at forced leaf ≡ true) where
  input_kept : (values : List Value) (input : Input) → value_at (with_input forced values input) leaf ≡ value_at values leaf
  input_kept values input = by (forced_at forced input.0) refl
    where
      by : (b : Bool) → forced_at forced input.0 ≡ b → value_at (if b then values else set values input.0 input.1) leaf ≡ value_at values leaf
      by true same = refl
      by false free = get_or-set_other values input.0 leaf input.1 no_value (λ same. let here : forced_at forced leaf ≡ forced_at forced input.0 = ap (forced_at forced) same in cc)

  pub inputs_kept : (inputs : List Input) (values : List Value) → value_at (with_inputs forced values inputs) leaf ≡ value_at values leaf
  inputs_kept [] values = refl
  inputs_kept (input ∷ inputs) values = inputs_kept inputs (with_input forced values input) ∙ input_kept values input
