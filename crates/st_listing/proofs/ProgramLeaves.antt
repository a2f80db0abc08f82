-- The leaves of a program, where its parts are listed.
use Rattle.std.proofs.Common.{◌≡◌, ℕ, suc, ◌<◌, ◌≤◌, ◌||◌, Bool, false, true, List, [], ◌∷◌, map, length, Some, Result, Ok, Err, IfOk, refl, ap, sym, ◌∙◌, subst, arith, nat_lt}
use Rattle.std.proofs.lemmas.Bool.Decides.{nat_tests}
use Rattle.std.proofs.lemmas.List.{length-map}
use Rattle.st_tree.specs.declared.leaf.Leaf.{Leaf}
use Rattle.st_tree.specs.declared.tree.unit.Unit.{Unit as Section}
use Rattle.st_leaves.specs.Sizes.{total_bytes}
use Rattle.st_types.specs.Compositions.{composition_of}
use Rattle.st_types.specs.Inside.{named_by}
use Rattle.st_types.specs.Names.{Named, unit_at, units_of}
use Rattle.st_types.specs.declared.unit.NamedUnit.{NamedUnit}
use Rattle.st_types.proofs.Units.{unit_at-past}
use Rattle.st_leaves.specs.Compositions.{LeavesAreThoseOfTheComposition, counted}
use Rattle.st_leaves.specs.Leaves.{leaves_of}
use Rattle.st_leaves.specs.LeavesIn.{LeafIn, leaves_of_whole}
use Rattle.st_leaves.specs.Limits.{has_long_path, is_too_large, sizes_of}
use Rattle.st_leaves.specs.Programs.{leaf_at, leaves_from, program_leaves}
use Rattle.st_leaves.specs.Sound.{IsSound}
use Rattle.st_chart_parts.proofs.Units.{same_unit}
use Rattle.st_check.specs.Laws.{CheckedHasSoundLeaves}
use Rattle.st_check.specs.Programs.{IsChecked, ProgramView, leaves_of_program, main_of, optional_leaves, text_of}
use Rattle.st_listing.specs.Listings.{AreWays, ListingView, leaves_behind, listed}
use Rattle.st_listing.specs.Worded.{IsWorded}

-- where nothing is listed yet
abbrev pub begun : List ℕ → ListingView
begun main = record { leaves = []; text = main; spine = []; is_input = false }

behind_program : (main : List ℕ) (n : ℕ) (ls : List LeafIn) → leaves_behind (begun main) n ls ≡ leaves_from main n ls
behind_program main n [] = refl
behind_program main n (l ∷ ls) = ap (λ leaves. leaf_at main n l ∷ leaves) (behind_program main (suc n) ls)

-- all that is listed are the leaves of the program
pub program_listed : (units : List Named) (u : Named) → (listed (begun u.name.spelling) (leaves_of_whole (composition_of units u.declares))).leaves ≡ program_leaves units u
unfolding program_leaves
program_listed units u = behind_program u.name.spelling 0 (leaves_of_whole (composition_of units u.declares))

neither : (a b : Bool) → a || b ≡ false → (a ≡ false) × (b ≡ false)
neither false false h = (refl, refl)
neither false true h = absurd (cc)
neither true b h = absurd (cc)

-- what isn't too large has so few leaves
pub few_leaves : (units : List Named) (u : Named) (name : ℕ) → LeavesAreThoseOfTheComposition → is_too_large name (leaves_of units u.declares) ≡ false → length (leaves_of_whole (composition_of units u.declares)) ≤ 65536
few_leaves units u name same small = by (leaves_of_whole (composition_of units u.declares)) (subst (λ leaves. is_too_large name leaves ≡ false) (same units u.declares) small) where
  by : (ls : List LeafIn) → is_too_large name (map counted ls) ≡ false → length ls ≤ 65536
  by ls small =
      let both = neither (nat_lt 65536 (length (map counted ls)) || nat_lt 524288 (total_bytes (sizes_of (map counted ls)))) (has_long_path name (sizes_of (map counted ls))) small in
      let count = neither (nat_lt 65536 (length (map counted ls))) (nat_lt 524288 (total_bytes (sizes_of (map counted ls)))) both.0 in
      let few : length (map counted ls) ≤ 65536 = (let test = count.0 in grind (arith, nat_tests)) in
      subst (λ n. n ≤ 65536) (length-map ls counted) few

-- a unit that is found has a number below that of units
pub found_below : (units : List Named) (i : ℕ) (u : Named) → unit_at units i ≡ Some u → i < length units
found_below units i u found = by (nat_lt i (length units)) refl where
  by : (b : Bool) → b ≡ nat_lt i (length units) → i < length units
  by true is = grind (arith, nat_tests)
  by false is = absurd (let none = unit_at-past units i (grind (arith, nat_tests)) in let both = sym found ∙ none in cc)

-- what a walk lists where nothing was listed
pub all_walked : (units : List Named) (main : ℕ) (u : Named) (read : NamedUnit) (name : List ℕ) (s t : ListingView) (items : List Leaf) → Some (named_by read) ≡ unit_at units main → unit_at units main ≡ Some u
    → name ≡ read.name.now.spelling → s ≡ begun name → t ≡ listed s (leaves_of_whole (composition_of units u.declares)) → items ≡ t.leaves → items ≡ program_leaves units u
all_walked units main u read name s t items at found named_so begins walked are =
    are ∙ ap ListingView.leaves walked ∙ ap (λ (v : ListingView). (listed v (leaves_of_whole (composition_of units u.declares))).leaves) begins
    ∙ ap (λ n. (listed (begun n) (leaves_of_whole (composition_of units u.declares))).leaves) (named_so ∙ ap (λ (v : Named). v.name.spelling) (same_unit (named_by read) u (at ∙ found)))
    ∙ program_listed units u

-- ---- of a checked program

module _ (p : ProgramView) (text : List Section) (main : ℕ) (text_is : text ≡ text_of p) (main_is : main ≡ main_of p) (checked : IsChecked p) where
  there : unit_at (units_of text) main ≡ Some checked.unit
  there = ap (λ t. unit_at (units_of t) main) text_is ∙ ap (unit_at (units_of (text_of p))) main_is ∙ checked.found

  pub main_below : main < length (units_of text)
  main_below = found_below (units_of text) main checked.unit there

  pub main_few : LeavesAreThoseOfTheComposition → (u : Named) → unit_at (units_of text) main ≡ Some u → length (leaves_of_whole (composition_of (units_of text) u.declares)) ≤ 65536
  main_few same u found =
      let is : checked.unit ≡ u = same_unit checked.unit u (sym there ∙ found) in
      subst (λ (v : Named). length (leaves_of_whole (composition_of (units_of text) v.declares)) ≤ 65536) is
      (few_leaves (units_of text) checked.unit (length checked.unit.name.spelling) same
      (subst (λ (t : List Section). is_too_large (length checked.unit.name.spelling) (leaves_of (units_of t) checked.unit.declares) ≡ false) (sym text_is) checked.small))

  listed_are : (items : List Leaf) → ((u : Named) → unit_at (units_of text) main ≡ Some u → items ≡ program_leaves (units_of text) u) → items ≡ leaves_of_program p
  unfolding leaves_of_program
  listed_are items each =
      each checked.unit there ∙ ap (λ t. program_leaves (units_of t) checked.unit) text_is ∙ ap (optional_leaves (units_of (text_of p))) (sym checked.found)

  pub main_listed : {V E : Type 0} (r : Result V E) (items : V → List Leaf) → IfOk r (λ v. (u : Named) → unit_at (units_of text) main ≡ Some u → items v ≡ program_leaves (units_of text) u) → IfOk r (λ v. items v ≡ leaves_of_program p)
  main_listed (Err e) items each = tt
  main_listed (Ok v) items each = listed_are (items v) each

  pub main_sound : {V E : Type 0} (r : Result V E) (items : V → List Leaf) → CheckedHasSoundLeaves → IfOk r (λ v. (u : Named) → unit_at (units_of text) main ≡ Some u → items v ≡ program_leaves (units_of text) u)
      → IfOk r (λ v. (u : Named) → unit_at (units_of text) main ≡ Some u → AreWays (leaves_of_whole (composition_of (units_of text) u.declares))) → IfOk r (λ v. IsSound (items v))
  main_sound (Err e) items law each ways = tt
  main_sound (Ok v) items law each ways =
      subst IsSound (sym (listed_are (items v) each))
      (law p checked checked.unit checked.found (subst (λ (t : List Section). AreWays (leaves_of_whole (composition_of (units_of t) checked.unit.declares))) text_is (ways checked.unit there)))

  -- and all names on the ways to its leaves are words
  pub main_worded : {V E : Type 0} (r : Result V E) → IfOk r (λ v. (u : Named) → unit_at (units_of text) main ≡ Some u → AreWays (leaves_of_whole (composition_of (units_of text) u.declares)))
      → IfOk r (λ v. IsWorded p)
  main_worded (Err e) ways = tt
  main_worded (Ok v) ways = record {
    checked = checked;
    unit = checked.unit;
    found = checked.found;
    words = subst (λ (t : List Section). AreWays (leaves_of_whole (composition_of (units_of t) checked.unit.declares))) text_is (ways checked.unit there);
  }
