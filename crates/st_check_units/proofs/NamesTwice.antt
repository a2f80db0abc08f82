-- Names that stand twice.
use Rattle.std.proofs.Common.{◌≡◌, ℕ, ◌+◌, ◌<◌, suc, Bool, true, false, cond, not, ◌||◌, List, [], ◌∷◌, ◌++◌, Some, None, length, get_or, drop, is_some, position, refl, ap, sym, ◌∙◌, ltb, append_assoc, arith}
use Rattle.std.proofs.lemmas.Bool.Decides.{nat_tests}
use Rattle.std.specs.List.{flat_map, list_any, position_or_len}
use Rattle.std.proofs.lemmas.List.{append-nil, map-append}
use Rattle.st_tree.specs.declared.tree.position.Identifier.{Identifier}
use Rattle.st_faults.specs.Faults.{First, fault, offer_all, when}
use Rattle.st_faults.specs.declared.fault.Fault.{Fault}
use Rattle.st_faults.specs.declared.fault.Rule.TheVariants as rules
use Rattle.st_check_units.specs.Repeats.{is_there, repeated, spellings}
use Rattle.st_faults.proofs.Offers.{dropped, offered}

-- ---- what a table finds

is_some-cond : (b : Bool) (n : ℕ) → is_some (cond b (Some n) None) ≡ b
is_some-cond true n = refl
is_some-cond false n = refl

found_before : {A : Type 0} (p : A → Bool) (xs : List A) → ltb (position_or_len p xs) (length xs) ≡ list_any p xs
found_before p [] = refl
found_before p (x ∷ xs) = by (p x) (found_before p xs)
  where
    by : (b : Bool) → ltb (position_or_len p xs) (length xs) ≡ list_any p xs → ltb (cond (not b) (1 + position_or_len p xs) 0) (suc (length xs)) ≡ (b || list_any p xs)
    by true h = grind (arith, nat_tests)
    by false h = let e : ltb (1 + position_or_len p xs) (suc (length xs)) ≡ ltb (position_or_len p xs) (length xs) = grind (arith, nat_tests) in e ∙ h

-- a place is found where there is one
pub is_some-position : {A : Type 0} (p : A → Bool) (xs : List A) → is_some (position p xs) ≡ list_any p xs
is_some-position p xs = is_some-cond (ltb (position_or_len p xs) (length xs)) (position_or_len p xs) ∙ found_before p xs

-- ---- names, one list after another

pub repeated-append : (others : List (List ℕ)) (ns ms : List Identifier) → repeated others (ns ++ ms) ≡ repeated others ns ++ repeated (others ++ spellings ns) ms
repeated-append others [] ms = ap (λ t. repeated t ms) (sym (append-nil others))
repeated-append others (n ∷ ns) ms =
    let own : List Fault = when (is_there others n.spelling) (fault n.position rules.NameTwice) in
    ap (λ fs. own ++ fs) (repeated-append (others ++ n.spelling ∷ []) ns ms ∙ ap (λ t. repeated (others ++ n.spelling ∷ []) ns ++ repeated t ms) (append_assoc others (n.spelling ∷ []) (spellings ns)))
    ∙ sym (append_assoc own (repeated (others ++ n.spelling ∷ []) ns) (repeated (others ++ spellings (n ∷ ns)) ms))

module _ {A : Type 0} (k : A → List Identifier) (xs : List A) (i : ℕ) (x : A) (lt : i < length xs) (is : x ≡ get_or xs i x) (ns : List Identifier) (same : ns ≡ k x) where
  -- what is left to be offered, after one item more
  pub repeated_turn : (others others2 : List (List ℕ)) (o o2 r : First) → o2 ≡ offer_all o (repeated others ns) → others2 ≡ others ++ spellings ns
      → offer_all o (repeated others (flat_map k (drop i xs))) ≡ r → offer_all o2 (repeated others2 (flat_map k (drop (i + 1) xs))) ≡ r
  repeated_turn others others2 o o2 r e s h =
      offered o o2 r (repeated others ns) (repeated others2 (flat_map k (drop (i + 1) xs))) (repeated others (flat_map k (drop i xs))) e
      (ap (λ ys. repeated others (flat_map k ys)) (dropped xs i x lt is) ∙ ap (λ ms. repeated others (ms ++ flat_map k (drop (i + 1) xs))) (sym same) ∙ repeated-append others ns (flat_map k (drop (i + 1) xs)) ∙ ap (λ t. repeated others ns ++ repeated t (flat_map k (drop (i + 1) xs))) (sym s)) h

  -- what is left to be added
  pub seen_turn : (others others2 r : List (List ℕ)) → others2 ≡ others ++ spellings ns → others ++ spellings (flat_map k (drop i xs)) ≡ r → others2 ++ spellings (flat_map k (drop (i + 1) xs)) ≡ r
  seen_turn others others2 r s h =
      ap (λ t. t ++ spellings (flat_map k (drop (i + 1) xs))) s ∙ append_assoc others (spellings ns) (spellings (flat_map k (drop (i + 1) xs)))
      ∙ ap (λ t. others ++ t) (sym (map-append (λ n. n.spelling) ns (flat_map k (drop (i + 1) xs)))) ∙ ap (λ ms. others ++ spellings (ms ++ flat_map k (drop (i + 1) xs))) same
      ∙ sym (ap (λ ys. others ++ spellings (flat_map k ys)) (dropped xs i x lt is)) ∙ h
