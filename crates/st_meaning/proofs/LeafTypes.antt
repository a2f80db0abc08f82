-- The types of leaves (2.4.1).
use Rattle.std.proofs.Common.{◌≡◌, ℕ, zero, suc, ◌+◌, ◌*◌, ◌<◌, List, [], ◌∷◌, ◌++◌, codes, drop, length, Option, Some, None, refl, ap, sym, ◌∙◌, subst, get_or, arith, suc-mul}
use Rattle.std.proofs.lemmas.List.{get_or_append_left, get_or-append-add}
use Rattle.st_values.specs.declared.elem.Elem.{Elem}
use Rattle.st_tree.specs.declared.tree.constant.Constant.{Constant}
use Rattle.st_types.specs.Initials.{number_in}
use Rattle.st_leaves.specs.LeavesIn.{LeafIn, elements_in, first_written, starting, within}
use Rattle.st_leaves.specs.Paths.{Selector, index}
use Rattle.st_leaves.proofs.Numbers.{element_length}
use Rattle.st_operators.proofs.Results.{wrapped_is}
use Rattle.st_meaning.specs.Sound.{no_leaf}
use Rattle.std.specs.Prelude.{ℤ}

-- the type of the leaf of this number
abbrev pub elem_at : List LeafIn → ℕ → Elem
elem_at ls n = (get_or ls n no_leaf).initial.elem

pub elem_left : (xs ys : List LeafIn) (n : ℕ) → n < length xs → elem_at (xs ++ ys) n ≡ elem_at xs n
elem_left xs ys n h = ap (λ l. l.initial.elem) (get_or_append_left xs ys no_leaf n h)

pub elem_right : (xs ys : List LeafIn) (k n : ℕ) → length xs ≡ k → elem_at (xs ++ ys) (k + n) ≡ elem_at ys n
elem_right xs ys k n e = ap (λ m. elem_at (xs ++ ys) (m + n)) (sym e) ∙ ap (λ l. l.initial.elem) (get_or-append-add xs ys n no_leaf)

elem_within : (s : Selector) (name : List ℕ) (ls : List LeafIn) (n : ℕ) → elem_at (within s name ls) n ≡ elem_at ls n
elem_within s name [] n = refl
elem_within s name (l ∷ ls) zero = refl
elem_within s name (l ∷ ls) (suc n) = elem_within s name ls n

elem_starting : (first : Option Constant) (ls : List LeafIn) (n : ℕ) → elem_at (starting first ls) n ≡ elem_at ls n
elem_starting None ls n = refl
elem_starting (Some c) [] n = refl
elem_starting (Some c) (l ∷ ls) zero = (wrapped_is l.initial.elem (number_in c)).of_type
elem_starting (Some c) (l ∷ ls) (suc n) = elem_starting (Some c) ls n

-- each element has the same types
pub elem_elements : (lists : List (List ℤ)) (firsts : List (Option Constant)) (ls : List LeafIn) (j k : ℕ) → j < length lists → k < length ls
    → elem_at (elements_in lists firsts ls) (j * length ls + k) ≡ elem_at ls k
elem_elements [] firsts ls j k few h = absurd (omega (arith, few))
elem_elements (is ∷ others) firsts ls zero k few h =
    let z : 0 * length ls + k ≡ k = omega arith in
    let one = within (index is) (codes "array") (starting (first_written firsts) ls) in
    let less : k < length one = subst (λ n. k < n) (sym (element_length is (first_written firsts) ls)) h in
    ap (elem_at (elements_in (is ∷ others) firsts ls)) z ∙ elem_left one (elements_in others (drop 1 firsts) ls) k less
    ∙ elem_within (index is) (codes "array") (starting (first_written firsts) ls) k ∙ elem_starting (first_written firsts) ls k
elem_elements (is ∷ others) firsts ls (suc j) k few h =
    let z : suc j * length ls + k ≡ length ls + (j * length ls + k) = omega (arith, suc-mul j (length ls)) in
    ap (elem_at (elements_in (is ∷ others) firsts ls)) z
    ∙ elem_right (within (index is) (codes "array") (starting (first_written firsts) ls)) (elements_in others (drop 1 firsts) ls) (length ls) (j * length ls + k) (element_length is (first_written firsts) ls)
    ∙ elem_elements others (drop 1 firsts) ls j k (omega (arith, few)) h
