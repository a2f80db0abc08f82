-- Checked programs are small: the bounds of their arrays are numbers of LINT, and they have few leaves.
use Rattle.std.proofs.Common.{◌≡◌, ◌≤◌, ℕ, zero, suc, ◌||◌, ◌==◌, nat_lt, false, List, [], ◌∷◌, ◌++◌, map, length, Some, ◌∙◌, subst}
use Rattle.std.specs.List.{AllByRecursion as Each}
use Rattle.std.proofs.lemmas.Bool.{ltb-false}
use Rattle.std.proofs.lemmas.List.{length-map}
use Rattle.std.proofs.lemmas.List.Elements.{All-from_recursion}
use Rattle.st_tree.specs.declared.tree.declaration.Subrange.{Subrange}
use Rattle.st_types.specs.Compositions.{Composition, unknown, elementary, array, composed, standard, Members, none, member, composition_of}
use Rattle.st_types.specs.Names.{Named, unit_at}
use Rattle.st_faults.specs.Faults.{fault, when}
use Rattle.st_faults.specs.declared.fault.Rule.TheVariants as rules
use Rattle.st_leaves.specs.Sizes.{total_bytes}
use Rattle.st_leaves.specs.Bounds.{HasBounds, HaveBounds, IsBounded}
use Rattle.st_leaves.specs.Compositions.{counted}
use Rattle.st_leaves.specs.Leaves.{leaves_of}
use Rattle.st_leaves.specs.LeavesIn.{leaves_of_whole}
use Rattle.st_leaves.specs.Limits.{has_long_path, is_too_large, sizes_of}
use Rattle.st_leaves.specs.Places.{count}
use Rattle.st_leaves.proofs.Composed.{leaves_are_those_of_the_composition}
use Rattle.st_leaves.proofs.Numbers.{leaves_are_counted}
use Rattle.st_check_units.specs.Units.{is_past_limit, is_taken, name_faults, names_faults, node_faults, units_faults}
use Rattle.st_check.proofs.Apart.{kept_when, neither, nothing_parts}
use Rattle.st_check.proofs.ShortSubscripts.{HasShortRanges, HaveShortRanges, IsShortRange}

-- ---- bounds

each_bounded : (ranges : List Subrange) → Each IsShortRange ranges → Each IsBounded ranges
each_bounded [] all = tt
each_bounded (r ∷ rs) all = (all.0.1, each_bounded rs all.1)

mutual
  pub has_bounds : (c : Composition) → HasShortRanges c → HasBounds c
  has_bounds unknown h = tt
  has_bounds (elementary v) h = tt
  has_bounds (array ranges firsts c) h = (All-from_recursion IsBounded ranges (each_bounded ranges h.0), has_bounds c h.1)
  has_bounds (composed name ms chart) h = have_bounds ms h
  has_bounds (standard b) h = tt

  have_bounds : (ms : Members) → HaveShortRanges ms → HaveBounds ms
  have_bounds none h = tt
  have_bounds (member name kind c ms) h = (has_bounds c h.0, have_bounds ms h.1)

-- ---- leaves

pub few_leaves : (units : List Named) (program : Named) → is_too_large (length program.name.spelling) (leaves_of units program.declares) ≡ false
    → count (composition_of units program.declares) ≤ 65536
few_leaves units program small =
    let ls = leaves_of_whole (composition_of units program.declares) in
    let few : is_too_large (length program.name.spelling) (map counted ls) ≡ false =
    subst (λ leaves. is_too_large (length program.name.spelling) leaves ≡ false) (leaves_are_those_of_the_composition units program.declares) small in
    let number = neither (nat_lt 65536 (length (map counted ls))) (nat_lt 524288 (total_bytes (sizes_of (map counted ls))))
    (neither (nat_lt 65536 (length (map counted ls)) || nat_lt 524288 (total_bytes (sizes_of (map counted ls)))) (has_long_path (length program.name.spelling) (sizes_of (map counted ls))) few).0 in
    subst (λ n. n ≤ 65536) (length-map ls counted ∙ (leaves_are_counted (composition_of units program.declares)).1) (ltb-false 65536 (length (map counted ls)) number.0)

-- ---- names

short_name : (others : List (List ℕ)) (units : List Named) (i : ℕ) (u : Named) → names_faults others units ≡ [] → unit_at units i ≡ Some u → length u.name.spelling ≤ 128
short_name others [] i u nothing found = absurd cc
short_name others (v ∷ vs) zero u nothing found =
    let first = (nothing_parts (name_faults others v.name) (names_faults (others ++ v.name.spelling ∷ []) vs) nothing).0 in
    let limit = kept_when (is_past_limit (length others) v.name.spelling) (fault v.name.position rules.LimitPassed)
    (nothing_parts (when (is_taken others v.name.spelling) (fault v.name.position rules.NameTwice)) (when (is_past_limit (length others) v.name.spelling) (fault v.name.position rules.LimitPassed)) first).1 in
    let short = ltb-false 128 (length v.name.spelling) (neither (length others == 1000) (nat_lt 128 (length v.name.spelling)) limit).1 in
    let same : v ≡ u = cc in
    subst (λ (w : Named). length w.name.spelling ≤ 128) same short
short_name others (v ∷ vs) (suc i) u nothing found =
    short_name (others ++ v.name.spelling ∷ []) vs i u (nothing_parts (name_faults others v.name) (names_faults (others ++ v.name.spelling ∷ []) vs) nothing).1 found

pub name_is_short : (units : List Named) (i : ℕ) (u : Named) → node_faults units ≡ [] → unit_at units i ≡ Some u → length u.name.spelling ≤ 128
name_is_short units i u nothing found = short_name [] units i u (nothing_parts (names_faults [] units) (units_faults units) nothing).0 found
