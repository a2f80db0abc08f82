-- Stretches of the values of leaves: a stretch of a stretch, and what stands in the place of one.
use Rattle.std.proofs.Common.{◌≡◌, ℕ, ◌+◌, ◌-◌, ◌<◌, ◌≤◌, Bool, true, false, if◌then◌else◌, ◌⊎◌, inl, inr, List, ◌++◌, length, get_or, take, drop, Some, ap, sym, ◌∙◌, subst, arith, append_assoc, length-append, length-drop, length-take}
use Rattle.std.specs.Prelude.{set}
use Rattle.std.proofs.Math.ListN.{length-set}
use Rattle.std.proofs.Math.Seq.{drop-append_seam, drop-drop, take-add, take-append_seam}
use Rattle.std.proofs.lemmas.Bool.{cases_lt}
use Rattle.std.proofs.lemmas.List.{drop_all, drop-take, get_or-drop, set-append_left, set-append_right, take-append-drop, take-take}
use Rattle.st_values.specs.declared.value.Value.{Value}
use Rattle.st_meaning.specs.Meaning.{Values, stored_to}
use Rattle.st_meaning.specs.Statements.{Setting, setting_from, stretch, with_stretch}
use Rattle.st_meaning.proofs.Stretches.{stretch_length}

-- the moment is the same, and what is forced is seen from both
pub setting_twice : (first leaf : ℕ) (setting : Setting) → setting_from leaf (setting_from first setting) ≡ setting_from (first + leaf) setting
setting_twice first leaf setting =
    ap (λ (marks : List Bool). record { now = setting.now; forced = marks }) (drop-drop leaf first setting.forced)

-- what is taken behind so many of a list's first elements, and what follows those
seam_within : (m size : ℕ) (xs : Values) → ((m < size) ⊎ (size ≤ m)) → drop m (take size xs) ++ drop (m + (size - m)) xs ≡ drop m xs
seam_within m size xs (inl less) =
    let r = size - m in
    let whole : size ≡ m + r = omega (arith, less) in
    ap (λ n. drop m (take n xs) ++ drop (m + r) xs) whole ∙ ap (λ (ys : Values). ys ++ drop (m + r) xs) (drop-take m r xs)
    ∙ ap (λ (ys : Values). take r (drop m xs) ++ ys) (sym (drop-drop r m xs)) ∙ take-append-drop r (drop m xs)
seam_within m size xs (inr most) =
    let short : length (take size xs) ≤ m = omega (arith, length-take size xs, most) in
    let none : m + (size - m) ≡ m = omega (arith, most) in
    ap (λ (ys : Values). ys ++ drop (m + (size - m)) xs) (drop_all m (take size xs) short) ∙ ap (λ n. drop n xs) none

seam : (m size : ℕ) (xs : Values) → drop m (take size xs) ++ drop (m + (size - m)) xs ≡ drop m xs
seam m size xs = seam_within m size xs (cases_lt m size)

module _ (values : Values) (first size : ℕ) where
  -- a stretch of a stretch
  pub stretch_twice : (leaf n : ℕ) → leaf + n ≤ size → stretch (stretch values first size) leaf n ≡ stretch values (first + leaf) n
  stretch_twice leaf n few =
      let m = size - leaf in
      let whole : size ≡ leaf + m = omega (arith, few) in
      ap (λ k. take n (drop leaf (take k (drop first values)))) whole ∙ ap (λ (ys : Values). take n ys) (drop-take leaf m (drop first values))
      ∙ take-take n m (drop leaf (drop first values)) (omega (arith, few)) ∙ ap (λ (ys : Values). take n ys) (drop-drop leaf first values)

  module _ (fits : first + size ≤ length values) where
    -- a stretch in its own place
    pub with_itself : with_stretch values first (stretch values first size) ≡ values
    with_itself =
        let part = stretch values first size in
        ap (λ n. take first values ++ (part ++ drop (first + n) values)) (stretch_length values first size fits)
        ∙ ap (λ (ys : Values). take first values ++ (part ++ ys)) (sym (drop-drop size first values))
        ∙ ap (λ (ys : Values). take first values ++ ys) (take-append-drop size (drop first values)) ∙ take-append-drop first values

    -- others in the place of a stretch of a stretch
    pub with_twice : (leaf : ℕ) (others : Values) → leaf ≤ size
        → with_stretch values first (with_stretch (stretch values first size) leaf others) ≡ with_stretch values (first + leaf) others
    with_twice leaf others few =
        let part = stretch values first size in
        let n = leaf + length others in
        let front = take leaf part in
        let rest = drop n part in
        let long : length (front ++ (others ++ rest)) ≡ n + (size - n) = omega (
          arith,
          length-append front (others ++ rest),
          length-append others rest,
          length-take leaf part,
          length-drop n part,
          stretch_length values first size fits,
          few,
        ) in
        let sum : first + n ≡ first + leaf + length others = omega arith in
        let behind : rest ++ drop (first + (n + (size - n))) values ≡ drop (first + leaf + length others) values =
        ap (λ (ys : Values). rest ++ ys) (sym (drop-drop (n + (size - n)) first values)) ∙ seam n size (drop first values) ∙ drop-drop n first values
        ∙ ap (λ k. drop k values) sum
        in
        let before : take first values ++ front ≡ take (first + leaf) values =
        ap (λ (ys : Values). take first values ++ ys) (take-take leaf size (drop first values) few) ∙ sym (take-add first leaf values)
        in
        ap (λ k. take first values ++ ((front ++ (others ++ rest)) ++ drop (first + k) values)) long
        ∙ ap (λ (ys : Values). take first values ++ ys) (append_assoc front (others ++ rest) (drop (first + (n + (size - n))) values))
        ∙ ap (λ (ys : Values). take first values ++ (front ++ ys)) (append_assoc others rest (drop (first + (n + (size - n))) values))
        ∙ ap (λ (ys : Values). take first values ++ (front ++ (others ++ ys))) behind
        ∙ sym (append_assoc (take first values) front (others ++ drop (first + leaf + length others) values))
        ∙ ap (λ (ys : Values). ys ++ (others ++ drop (first + leaf + length others) values)) before

    -- one other value
    pub with_one : (leaf : ℕ) (v : Value) → leaf < size → set values (first + leaf) v ≡ with_stretch values first (set (stretch values first size) leaf v)
    with_one leaf v few =
        let part = stretch values first size in
        let front = take first values in
        let rest = drop (first + length part) values in
        let at_first : length front ≡ first = omega (arith, length-take first values, fits) in
        let inside : leaf < length part = omega (arith, stretch_length values first size fits, few) in
        let after : first + leaf - first ≡ leaf = omega arith in
        let begun : first ≤ first + leaf = omega arith in
        ap (λ (ys : Values). set ys (first + leaf) v) (sym with_itself) ∙ set-append_right front (part ++ rest) first (first + leaf) v at_first begun
        ∙ ap (λ n. front ++ set (part ++ rest) n v) after ∙ ap (λ (ys : Values). front ++ ys) (set-append_left part rest leaf v inside)
        ∙ ap (λ n. front ++ (set part leaf v ++ drop (first + n) values)) (sym (length-set part leaf v))

    -- a store to a leaf of the stretch, unless that is forced
    pub with_stored : (marks : List Bool) (leaf : ℕ) (v : Value) → leaf < size
        → stored_to marks values v (Some (first + leaf)) ≡ with_stretch values first (stored_to (drop first marks) (stretch values first size) v (Some leaf))
    with_stored marks leaf v few =
        let part = stretch values first size in
        subst
        (λ b. (if b then values else set values (first + leaf) v) ≡ with_stretch values first (if get_or (drop first marks) leaf false then part else set part leaf v))
        (get_or-drop first marks leaf false) (by (get_or (drop first marks) leaf false)) where
          by : (b : Bool)
              → (if b then values else set values (first + leaf) v)
              ≡ with_stretch values first (if b then stretch values first size else set (stretch values first size) leaf v)
          by true = sym with_itself
          by false = with_one leaf v few

-- ---- nothing outside the stretch changes

module _ (values : Values) (first : ℕ) (part : Values) (fits : first + length part ≤ length values) where
  pub same_before : take first (with_stretch values first part) ≡ take first values
  same_before =
      let front = take first values in
      let long : length front ≡ first = omega (arith, length-take first values, fits) in
      ap (λ n. take n (front ++ (part ++ drop (first + length part) values))) (sym long) ∙ take-append_seam front (part ++ drop (first + length part) values)

  from_first : drop first (with_stretch values first part) ≡ part ++ drop (first + length part) values
  from_first =
      let front = take first values in
      let long : length front ≡ first = omega (arith, length-take first values, fits) in
      ap (λ n. drop n (front ++ (part ++ drop (first + length part) values))) (sym long) ∙ drop-append_seam front (part ++ drop (first + length part) values)

  pub same_behind : drop (first + length part) (with_stretch values first part) ≡ drop (first + length part) values
  same_behind =
      sym (drop-drop (length part) first (with_stretch values first part)) ∙ ap (λ (ys : Values). drop (length part) ys) from_first
      ∙ drop-append_seam part (drop (first + length part) values)

  -- the stretch is what was put there
  pub stretch_with : stretch (with_stretch values first part) first (length part) ≡ part
  stretch_with = ap (λ (ys : Values). take (length part) ys) from_first ∙ take-append_seam part (drop (first + length part) values)

  -- others after that, as many
  pub with_others : (others : Values) → length others ≡ length part → with_stretch (with_stretch values first part) first others ≡ with_stretch values first others
  with_others others same =
      ap (λ n. take first (with_stretch values first part) ++ (others ++ drop (first + n) (with_stretch values first part))) same
      ∙ ap (λ (ys : Values). ys ++ (others ++ drop (first + length part) (with_stretch values first part))) same_before
      ∙ ap (λ (ys : Values). take first values ++ (others ++ ys)) same_behind ∙ ap (λ n. take first values ++ (others ++ drop (first + n) values)) (sym same)
