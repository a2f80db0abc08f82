-- Choices of subscripts, one after the other.
use Rattle.std.proofs.Common.{◌≡◌, ℕ, zero, suc, ◌<◌, ℤ, pos, negsuc, ◌+ℤ◌, ◌-ℤ◌, ◌<ℤ◌, ◌≤ℤ◌, ◌↔◌, Bool, true, false, not, IsTrue, List, [], ◌∷◌, ◌++◌, length, map, take, drop, get_or, set, codes, Result, Ok, Err, IfOk, OnOk, ◌-◌, subst, refl, ap, sym, ◌∙◌, arith, append_assoc, append-nil}
use Rattle.std.specs.Fmt.{signed_decimal}
use Rattle.std.specs.List.{All, flat_map}
use Rattle.std.proofs.lemmas.Int.{ints}
use Rattle.std.proofs.lemmas.List.{drop_all, length-map, take_rest}
use borrow.Rule.Slice.PartMut.{put_mid}
use Rattle.std.specs.String.{string_bytes}
use Rattle.std.specs.Prelude.{String}
use Rattle.std.specs.Global.{Global}
use Rattle.std.proofs.lemmas.List.Elements.{All-cons, All-head, All-nil, All-tail}
use Rattle.st_leaves.specs.Subscripts.{next, numbers, value_of, values_from}
use Rattle.st_leaves.specs.declared.subrange.Number.{Number}
use Rattle.st_leaves.proofs.Texts.{next_is}
use Rattle.st_tree.specs.declared.tree.declaration.Subrange.{Subrange}
use Rattle.st_tree.specs.Literals.{number_of}
use Rattle.st_leaves.specs.Leaves.{numbers_in, number_written}
use Rattle.st_leaves.specs.LeavesIn.{subscript_lists}
use Rattle.st_leaves.specs.Paths.{index, selector_text, subscripts_text}
use Rattle.st_listing.specs.Choices.{AreSubscripts, HasNumbers, IsStep, between, choices_from, choices_left, left_if, lowers}
use Rattle.st_listing.specs.declared.subscripts.Subscripts.TheInside.{Inside}

-- ---- numbers

one_less : (l u : ℤ) → 0 < values_from (u -ℤ l) → values_from (u -ℤ l) ≡ suc (values_from (u -ℤ next l))
one_less l u some = by (u -ℤ l) (u -ℤ next l) (omega (arith, ints, next_is l)) some where
  by : (d e : ℤ) → e +ℤ pos 1 ≡ d → 0 < values_from d → values_from d ≡ suc (values_from e)
  by (pos n) (pos m) is some = omega (arith, ints, is)
  by (pos n) (negsuc m) is some = omega (arith, ints, is)
  by (negsuc n) e is some = absurd (omega (arith, some))

first_number : (l u : ℤ) → 0 < values_from (u -ℤ l) → between l u ≡ l ∷ between (next l) u
first_number l u some = ap (λ n. numbers n l) (one_less l u some)

some_behind : (i u : ℤ) → i <ℤ u → 0 < values_from (u -ℤ next i)
some_behind i u below = by (u -ℤ next i) (omega (arith, ints, next_is i, below)) where
  by : (d : ℤ) → pos 0 ≤ℤ d → 0 < values_from d
  by (pos n) h = omega arith
  by (negsuc n) h = absurd (omega (arith, ints, h))

none_behind : (i u : ℤ) → u ≤ℤ i → between (next i) u ≡ []
none_behind i u h = ap (λ n. numbers n (next i)) (by (u -ℤ next i) (omega (arith, ints, next_is i, h))) where
  by : (d : ℤ) → d <ℤ pos 0 → values_from d ≡ 0
  by (pos n) h = absurd (omega (arith, ints, h))
  by (negsuc n) h = refl

pub has_numbers : (l u : ℤ) → l ≤ℤ u → 0 < values_from (u -ℤ l)
has_numbers l u h = by (u -ℤ l) (omega (arith, ints, h)) where
  by : (d : ℤ) → pos 0 ≤ℤ d → 0 < values_from d
  by (pos n) h = omega arith
  by (negsuc n) h = absurd (omega (arith, ints, h))

pub has_none : (l u : ℤ) → 0 < values_from (u -ℤ l) → l ≤ℤ u
has_none l u some = by (u -ℤ l) refl some where
  by : (d : ℤ) → d ≡ u -ℤ l → 0 < values_from d → l ≤ℤ u
  by (pos n) is some = omega (arith, ints, is)
  by (negsuc n) is some = absurd (omega (arith, some))

-- ---- choices

abbrev behind : List Subrange → ℤ → List (List ℤ)
behind rs j = map (λ js. j ∷ js) (subscript_lists rs)

pub choices_head : (rs : List Subrange) (is : List ℤ) → length rs ≡ length is → (others : List (List ℤ)) × (choices_from rs is ≡ is ∷ others)
choices_head [] [] len = ([], refl)
choices_head [] (i ∷ is) len = absurd (omega (arith, len))
choices_head (r ∷ rs) [] len = absurd (omega (arith, len))
choices_head (r ∷ rs) (i ∷ is) len =
    let h = choices_head rs is (omega (arith, len)) in
    (map (λ js. i ∷ js) h.0 ++ flat_map (behind rs) (between (next i) (number_of r.upper)), ap (λ cs. map (λ js. i ∷ js) cs ++ flat_map (behind rs) (between (next i) (number_of r.upper))) h.1)

-- from the first one on there are all
pub choices_all : (rs : List Subrange) → All HasNumbers rs → choices_from rs (lowers rs) ≡ subscript_lists rs
choices_all [] all = refl
choices_all (r ∷ rs) all =
    ap (λ cs. map (λ js. number_of r.lower ∷ js) cs ++ flat_map (behind rs) (between (next (number_of r.lower)) (number_of r.upper))) (choices_all rs (All-tail HasNumbers r rs all))
    ∙ ap (flat_map (behind rs)) (sym (first_number (number_of r.lower) (number_of r.upper) (All-head HasNumbers r rs all)))

-- the others move
pub others_move : (r : Subrange) (rs : List Subrange) (i : ℤ) (is js : List ℤ) → choices_from rs is ≡ is ∷ choices_from rs js → choices_from (r ∷ rs) (i ∷ is) ≡ (i ∷ is) ∷ choices_from (r ∷ rs) (i ∷ js)
others_move r rs i is js h = ap (λ cs. map (λ js. i ∷ js) cs ++ flat_map (behind rs) (between (next i) (number_of r.upper))) h

-- the first number moves, and the others are the first again
pub first_moves : (r : Subrange) (rs : List Subrange) (i n : ℤ) (is js : List ℤ) → All HasNumbers rs → choices_from rs is ≡ is ∷ [] → js ≡ lowers rs → n ≡ next i → i <ℤ number_of r.upper
    → choices_from (r ∷ rs) (i ∷ is) ≡ (i ∷ is) ∷ choices_from (r ∷ rs) (n ∷ js)
first_moves r rs i n is js all last first following below =
    ap (λ cs. map (λ js. i ∷ js) cs ++ flat_map (behind rs) (between (next i) (number_of r.upper))) last
    ∙ ap (λ ns. (i ∷ is) ∷ flat_map (behind rs) ns) (first_number (next i) (number_of r.upper) (some_behind i (number_of r.upper) below))
    ∙ ap (λ cs. (i ∷ is) ∷ (map (λ js. next i ∷ js) cs ++ flat_map (behind rs) (between (next (next i)) (number_of r.upper)))) (sym (choices_all rs all))
    ∙ ap (λ k. (i ∷ is) ∷ choices_from (r ∷ rs) (k ∷ lowers rs)) (sym following)
    ∙ ap (λ ks. (i ∷ is) ∷ choices_from (r ∷ rs) (n ∷ ks)) (sym first)

-- none moves
pub none_moves : (r : Subrange) (rs : List Subrange) (i : ℤ) (is : List ℤ) → choices_from rs is ≡ is ∷ [] → number_of r.upper ≤ℤ i → choices_from (r ∷ rs) (i ∷ is) ≡ (i ∷ is) ∷ []
none_moves r rs i is last most =
    ap (λ cs. map (λ js. i ∷ js) cs ++ flat_map (behind rs) (between (next i) (number_of r.upper))) last ∙ ap (λ ns. (i ∷ is) ∷ flat_map (behind rs) ns) (none_behind i (number_of r.upper) most)

-- ---- a step from a choice to the next one

-- the rest of what a choice is made of
abbrev pub rest_of : {X : Type 0} → List X → List X
rest_of xs = take (length xs - 1) (drop 1 xs)

-- with the rest that it has then
abbrev pub with_rest : List Number → List Number → List Number
with_rest xs ys = put_mid 1 (length xs - 1) xs ys

rest_is : {X : Type 0} (x : X) (xs : List X) → rest_of (x ∷ xs) ≡ xs
rest_is x xs = take_rest (x ∷ xs) 1

with_rest_is : (x : Number) (xs ys : List Number) → with_rest (x ∷ xs) ys ≡ x ∷ ys
with_rest_is x xs ys = ap (λ zs. x ∷ (ys ++ zs)) (drop_all (length (x ∷ xs) - 1) xs (omega arith)) ∙ ap (λ zs. x ∷ zs) (append-nil ys)

pub step_rest : (rs : List Subrange) (xs ys : List Number) (b : Bool) → IsStep (rest_of rs) (map value_of (rest_of xs)) b (map value_of ys) → length rs ≡ length xs → 0 < length rs → b ≡ true
    → IsStep rs (map value_of xs) true (map value_of (with_rest xs ys))
step_rest [] xs ys b moved len some is = absurd (omega (arith, some))
step_rest (r ∷ rs) [] ys b moved len some is = absurd (omega (arith, len))
step_rest (r ∷ rs) (x ∷ xs) ys b moved len some is =
    let tails = subst (λ (ks : List Number). IsStep rs (map value_of ks) true (map value_of ys)) (rest_is x xs) (subst (λ (ss : List Subrange). IsStep ss (map value_of (rest_of (x ∷ xs))) true (map value_of ys)) (rest_is r rs) (subst (λ (c : Bool). IsStep (rest_of (r ∷ rs)) (map value_of (rest_of (x ∷ xs))) c (map value_of ys)) is moved)) in
    subst (λ (ks : List Number). IsStep (r ∷ rs) (map value_of (x ∷ xs)) true (map value_of ks)) (sym (with_rest_is x xs ys)) (others_move r rs (value_of x) (map value_of xs) (map value_of ys) tails)

-- the rest was the last choice
rest_last : (r : Subrange) (rs : List Subrange) (x : Number) (xs ys : List Number) (b : Bool) → IsStep (rest_of (r ∷ rs)) (map value_of (rest_of (x ∷ xs))) b (map value_of ys) → b ≡ false → IsStep rs (map value_of xs) false (map value_of ys)
rest_last r rs x xs ys b moved is =
    subst (λ (ks : List Number). IsStep rs (map value_of ks) false (map value_of ys)) (rest_is x xs) (subst (λ (ss : List Subrange). IsStep ss (map value_of (rest_of (x ∷ xs))) false (map value_of ys)) (rest_is r rs) (subst (λ (c : Bool). IsStep (rest_of (r ∷ rs)) (map value_of (rest_of (x ∷ xs))) c (map value_of ys)) is moved))

pub step_first : (rs : List Subrange) (xs ys : List Number) (b : Bool) (n u d : Number) (e : Subrange) → IsStep (rest_of rs) (map value_of (rest_of xs)) b (map value_of ys) → length rs ≡ length xs → 0 < length rs → b ≡ false
    → All HasNumbers rs → u ≡ number_written (get_or rs 0 e).upper → value_of n ≡ next (value_of (get_or xs 0 d)) → value_of (get_or xs 0 d) <ℤ value_of u → IsStep rs (map value_of xs) true (map value_of (set (with_rest xs ys) 0 n))
step_first [] xs ys b n u d e moved len some is all upper following below = absurd (omega (arith, some))
step_first (r ∷ rs) [] ys b n u d e moved len some is all upper following below = absurd (omega (arith, len))
step_first (r ∷ rs) (x ∷ xs) ys b n u d e moved len some is all upper following below =
    let last = rest_last r rs x xs ys b moved is in
    subst (λ (ks : List Number). IsStep (r ∷ rs) (map value_of (x ∷ xs)) true (map value_of (set ks 0 n))) (sym (with_rest_is x xs ys))
    (first_moves r rs (value_of x) (value_of n) (map value_of xs) (map value_of ys) (All-tail HasNumbers r rs all) last.0 last.1 following
    (subst (λ (k : Number). value_of x <ℤ value_of k) upper below))

pub step_last : (rs : List Subrange) (xs ys : List Number) (b : Bool) (n u d : Number) (e : Subrange) → IsStep (rest_of rs) (map value_of (rest_of xs)) b (map value_of ys) → length rs ≡ length xs → 0 < length rs → b ≡ false
    → u ≡ number_written (get_or rs 0 e).upper → n ≡ number_written (get_or rs 0 e).lower → value_of u ≤ℤ value_of (get_or xs 0 d) → IsStep rs (map value_of xs) false (map value_of (set (with_rest xs ys) 0 n))
step_last [] xs ys b n u d e moved len some is upper lowest most = absurd (omega (arith, some))
step_last (r ∷ rs) [] ys b n u d e moved len some is upper lowest most = absurd (omega (arith, len))
step_last (r ∷ rs) (x ∷ xs) ys b n u d e moved len some is upper lowest most =
    let last = rest_last r rs x xs ys b moved is in
    subst (λ (ks : List Number). IsStep (r ∷ rs) (map value_of (x ∷ xs)) false (map value_of (set ks 0 n))) (sym (with_rest_is x xs ys)) (
      none_moves r rs (value_of x) (map value_of xs) last.0 (subst (λ (k : Number). value_of k ≤ℤ value_of x) upper most),
      ap (λ k. value_of k ∷ map value_of ys) lowest ∙ ap (λ ks. number_of r.lower ∷ ks) last.1,
    )

pub first_values : (rs : List Subrange) → map value_of (map (λ r. number_written r.lower) rs) ≡ lowers rs
first_values [] = refl
first_values (r ∷ rs) = ap (λ is. number_of r.lower ∷ is) (first_values rs)

none_each : (is : List ℤ) → flat_map (λ j. map (λ js. j ∷ js) []) is ≡ []
none_each [] = refl
none_each (i ∷ is) = none_each is

one_empty : (r : Subrange) (rs : List Subrange) → (All HasNumbers (r ∷ rs) → ⊥) → ((All HasNumbers rs → ⊥) → subscript_lists rs ≡ []) → subscript_lists (r ∷ rs) ≡ []
one_empty r rs none others = by (values_from (number_of r.upper -ℤ number_of r.lower)) refl where
  by : (n : ℕ) → n ≡ values_from (number_of r.upper -ℤ number_of r.lower) → subscript_lists (r ∷ rs) ≡ []
  by zero is = ap (λ k. flat_map (behind rs) (numbers k (number_of r.lower))) (sym is)
  by (suc n) is =
      ap (λ cs. flat_map (λ j. map (λ js. j ∷ js) cs) (numbers_in r)) (others (λ all. none (All-cons HasNumbers r rs (omega (arith, is)) all)))
      ∙ none_each (numbers_in r)

-- where a range has no number there is no choice
none_chosen : (rs : List Subrange) → (All HasNumbers rs → ⊥) → subscript_lists rs ≡ []
none_chosen [] none = absurd (none (All-nil HasNumbers))
none_chosen (r ∷ rs) none = one_empty r rs none (none_chosen rs)

all_left_by : (rs : List Subrange) (b : Bool) → (IsTrue b ↔ All HasNumbers rs) → left_if (not b) (choices_from rs (lowers rs)) ≡ subscript_lists rs
all_left_by rs true some = choices_all rs (some.0 refl)
all_left_by rs false some = sym (none_chosen rs (λ all. absurd (let h : false ≡ true = some.1 all in cc)))

pub all_left : (rs : List Subrange) (ns : List Number) (b : Bool) → ns ≡ map (λ r. number_written r.lower) rs → (IsTrue b ↔ All HasNumbers rs)
    → left_if (not b) (choices_from rs (map value_of ns)) ≡ subscript_lists rs
all_left rs ns b first some =
    ap (λ ms. left_if (not b) (choices_from rs (map value_of ms))) first ∙ ap (λ is. left_if (not b) (choices_from rs is)) (first_values rs) ∙ all_left_by rs b some

done_by : (s : Inside) (b : Bool) → b ≡ s.is_done → length s.ranges.now ≡ length s.chosen.items
    → (IsTrue b → left_if b (choices_from s.ranges.now (map value_of s.chosen.items)) ≡ []) × (left_if b (choices_from s.ranges.now (map value_of s.chosen.items)) ≡ [] → IsTrue b)
done_by s true is len = (λ h. refl, λ h. refl)
done_by s false is len =
    let h = choices_head s.ranges.now (map value_of s.chosen.items) (len ∙ sym (length-map s.chosen.items value_of)) in
    (λ yes. absurd (cc), λ none. absurd (let both = sym h.1 ∙ none in cc))

pub done_if_none : (s : Inside) (view : List (List ℤ)) → choices_left s ≡ view → AreSubscripts s → (IsTrue s.is_done → view ≡ []) × (view ≡ [] → IsTrue s.is_done)
done_if_none s view is held =
    let h = done_by s s.is_done refl held.len in
    (λ yes. sym is ∙ h.0 yes, λ none. h.1 (is ∙ none))

-- ---- texts

pub text_joined : (n : Number) (ns : List Number) → subscripts_text (value_of n ∷ map value_of ns) ≡ signed_decimal (value_of n) ++ flat_map (λ m. codes "," ++ signed_decimal (value_of m)) ns
text_joined n [] = sym (append-nil (signed_decimal (value_of n)))
text_joined n (m ∷ ns) =
    append_assoc (signed_decimal (value_of n)) (codes ",") (subscripts_text (value_of m ∷ map value_of ns))
    ∙ ap (λ text. signed_decimal (value_of n) ++ (codes "," ++ text)) (text_joined m ns)

pub text_of_rest : {E : Type 0} (r : Result (Unit {0}) E) (numbers : List Number) (old middle new : List ℕ) → 0 < length numbers → (d : Number) → middle ≡ old ++ signed_decimal (value_of (get_or numbers 0 d))
    → OnOk r (new ≡ middle ++ flat_map (λ m. codes "," ++ signed_decimal (value_of m)) (rest_of numbers)) → OnOk r (new ≡ old ++ subscripts_text (map value_of numbers))
text_of_rest (Err e) numbers old middle new some d one others = tt
text_of_rest (Ok t) [] old middle new some d one others = absurd (omega (arith, some))
text_of_rest (Ok t) (n ∷ ns) old middle new some d one others =
    others ∙ ap (λ text. text ++ flat_map (λ m. codes "," ++ signed_decimal (value_of m)) (rest_of (n ∷ ns))) one
    ∙ ap (λ ks. (old ++ signed_decimal (value_of n)) ++ flat_map (λ m. codes "," ++ signed_decimal (value_of m)) ks) (rest_is n ns)
    ∙ append_assoc old (signed_decimal (value_of n)) (flat_map (λ m. codes "," ++ signed_decimal (value_of m)) ns) ∙ ap (λ text. old ++ text) (sym (text_joined n ns))

-- the text is that of the first choice that is left
text_by : (s : Inside) (b : Bool) (text : List ℕ) (is : List ℤ) (others : List (List ℤ)) → b ≡ s.is_done → length s.ranges.now ≡ length s.chosen.items → text ≡ selector_text (index (map value_of s.chosen.items))
    → left_if b (choices_from s.ranges.now (map value_of s.chosen.items)) ≡ is ∷ others → text ≡ selector_text (index is)
text_by s true text is others done len written left = absurd (cc)
text_by s false text is others done len written left =
    let h = choices_head s.ranges.now (map value_of s.chosen.items) (len ∙ sym (length-map s.chosen.items value_of)) in
    written ∙ ap (λ (cs : List (List ℤ)). selector_text (index (get_or cs 0 is))) (sym h.1 ∙ left)

pub text_of_choice : {E : Type 0} (s : Inside) (view : List (List ℤ)) (r : Result (String Global) E) → choices_left s ≡ view → AreSubscripts s → IfOk r (λ text. string_bytes text ≡ selector_text (index (map value_of s.chosen.items)))
    → IfOk r (λ text. (is : List ℤ) (others : List (List ℤ)) → view ≡ is ∷ others → string_bytes text ≡ selector_text (index is))
text_of_choice s view (Err e) seen held written = tt
text_of_choice s view (Ok text) seen held written = λ is others left. text_by s s.is_done (string_bytes text) is others refl held.len written (seen ∙ left)
