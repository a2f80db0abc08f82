-- Which argument goes to which input of a function.
use Rattle.std.proofs.Common.{◌≡◌, ℕ, suc, ◌+◌, ◌<◌, ◌≤◌, ◌==◌, ◌⊎◌, inl, inr, nat_lt, Bool, true, false, not, if◌then◌else◌, List, [], ◌∷◌, ◌++◌, length, take, drop, get_or, refl, sym, ap, ◌∙◌, arith, add-one, append_assoc, append-nil, length-append, drop-cons, take_all, take-append-drop, eq-or-lt_of_le}
use Rattle.std.specs.Prelude.{Option, Some, None, ◌&&◌, slice_set}
use Rattle.std.specs.List.{position, position_or_len}
use Rattle.std.specs.Option.{is_none}
use Rattle.std.proofs.Math.Seq.{take-suc}
use Rattle.std.proofs.lemmas.Bool.{lt-ltb, ltb-false, ltb-true}
use Rattle.std.proofs.lemmas.Bool.Decides.{Decides-eqb}
use Rattle.std.proofs.lemmas.List.{get_or_append_left, get_or-set_other, get_or-set_same, get_or_at, length-set}
use Rattle.std.proofs.lemmas.List.Folds.{position_or_len_push}
use Rattle.std.proofs.lemmas.List.Quantifiers.{position-Some}
use Rattle.std.proofs.lemmas.List.Sums.{position_or_len_is, prefix_len-le-length}
use Rattle.st_values.specs.declared.value.Value.{Value}
use Rattle.st_tree.specs.declared.tree.expression.Argument.{Argument}
use Rattle.st_meaning.specs.Terms.{Source}
use Rattle.st_meaning.specs.Typing.{Passed, argument_typed, go_to, goes_to, is_number, source_of, sources_from}
use Rattle.st_meaning.specs.Wholes.{Called, Input, Whole}
use Rattle.st_code.specs.Code.{are_in_order}
use Rattle.st_emit_expressions.specs.Calls.{passed_in}
use Rattle.st_emit_expressions.specs.Functions.{AreFirst, destination_list, destinations, first_noted}

-- ---- arguments

pub passed_left : (w : Whole) (all : List Argument) (i : ℕ) (a : Argument) → i < length all → a ≡ get_or all i a → passed_in w (drop i all) ≡ argument_typed w a ++ passed_in w (drop (i + 1) all)
passed_left w all i a h e = rw add-one (ap (passed_in w) (drop-cons all i a h ∙ ap (λ x. x ∷ drop (suc i) all) (sym e)))

passed_append : (w : Whole) (xs ys : List Argument) → passed_in w (xs ++ ys) ≡ passed_in w xs ++ passed_in w ys
passed_append w [] ys = refl
passed_append w (a ∷ xs) ys = ap (λ l. argument_typed w a ++ l) (passed_append w xs ys) ∙ sym (append_assoc (argument_typed w a) (passed_in w xs) (passed_in w ys))

pub passed_more : (w : Whole) (all : List Argument) (i : ℕ) (a : Argument) → i < length all → a ≡ get_or all i a → passed_in w (take (i + 1) all) ≡ passed_in w (take i all) ++ argument_typed w a
passed_more w all i a h e =
    rw add-one
    (ap (passed_in w) (take-suc all i a h ∙ ap (λ x. take i all ++ x ∷ []) (sym e)) ∙ passed_append w (take i all) (a ∷ [])
    ∙ ap (λ l. passed_in w (take i all) ++ l) (append-nil (argument_typed w a)))

go_append : (inputs : List Input) (place : ℕ) (xs ys : List Passed) → go_to inputs place (xs ++ ys) ≡ go_to inputs place xs ++ go_to inputs (place + length xs) ys
go_append inputs place [] ys = let z : place ≡ place + 0 = omega arith in ap (λ p. go_to inputs p ys) z
go_append inputs place (x ∷ xs) ys =
    let z : suc place + length xs ≡ place + length (x ∷ xs) = omega arith in
    ap (λ l. goes_to inputs place x.name ∷ l) (go_append inputs (suc place) xs ys ∙ ap (λ p. go_to inputs (suc place) xs ++ go_to inputs p ys) z)

pub go_length : (inputs : List Input) (place : ℕ) (xs : List Passed) → length (go_to inputs place xs) ≡ length xs
go_length inputs place [] = refl
go_length inputs place (x ∷ xs) = ap suc (go_length inputs (suc place) xs)

pub sources_length : (to : List (Option ℕ)) (n : ℕ) (inputs : List Input) → length (sources_from to n inputs) ≡ length inputs
sources_length to n [] = refl
sources_length to n (i ∷ inputs) = ap suc (sources_length to (suc n) inputs)

-- where the arguments go that stand before the one of this number
abbrev pub front : Whole → Called → List Argument → ℕ → List (Option ℕ)
front w f all i = go_to f.inputs 0 (passed_in w (take i all))

pub front_all : (w : Whole) (f : Called) (all : List Argument) (i : ℕ) → length all ≤ i → front w f all i ≡ destinations w f all
front_all w f all i h = ap (λ l. go_to f.inputs 0 (passed_in w l)) (take_all i all h)

module _ (w : Whole) (f : Called) (all : List Argument) (i place : ℕ) (a : Argument) (input : Option (Option ℕ)) (lt : i < length all) (e : a ≡ get_or all i a)
    (count : place ≡ length (front w f all i)) (goes : go_to f.inputs place (argument_typed w a) ≡ destination_list input) where
  goes_there : go_to f.inputs (0 + length (passed_in w (take i all))) (argument_typed w a) ≡ destination_list input
  goes_there =
      let z : 0 + length (passed_in w (take i all)) ≡ place = omega (arith, count, go_length f.inputs 0 (passed_in w (take i all))) in
      ap (λ p. go_to f.inputs p (argument_typed w a)) z ∙ goes

  pub front_more : front w f all (i + 1) ≡ front w f all i ++ destination_list input
  front_more =
      ap (go_to f.inputs 0) (passed_more w all i a lt e) ∙ go_append f.inputs 0 (passed_in w (take i all)) (argument_typed w a) ∙ ap (λ l. front w f all i ++ l) goes_there

-- an argument with a value, and those behind it
pub front_split : (w : Whole) (f : Called) (all : List Argument) (i : ℕ) (to : List (Option ℕ)) → front w f all (i + 1) ≡ to
    → (rest : List (Option ℕ)) × (destinations w f all ≡ to ++ rest)
front_split w f all i to e =
    let first = passed_in w (take (i + 1) all) in
    let last = passed_in w (drop (i + 1) all) in (
      go_to f.inputs (0 + length first) last,
      ap (λ l. go_to f.inputs 0 (passed_in w l)) (sym (take-append-drop (i + 1) all)) ∙ ap (go_to f.inputs 0) (passed_append w (take (i + 1) all) (drop (i + 1) all))
          ∙ go_append f.inputs 0 first last ∙ ap (λ l. l ++ go_to f.inputs (0 + length first) last) e,
    )

-- where it goes
pub goes_at : (to front rest : List (Option ℕ)) (input : Option ℕ) (place : ℕ) → place ≡ length front → to ≡ (front ++ input ∷ []) ++ rest → (get_or to place None ≡ input) × (place < length to)
goes_at to front rest input place count e = (
  ap (λ l. get_or l place None) (e ∙ append_assoc front (input ∷ []) rest) ∙ get_or_at front input rest None place (sym count),
  omega (arith, count, ap length e, length-append (front ++ input ∷ []) rest, length-append front (input ∷ [])),
)

pub one_longer : (front : List (Option ℕ)) (input : Option ℕ) (place : ℕ) → place ≡ length front → place + 1 ≡ length (front ++ input ∷ [])
one_longer front input place count = omega (arith, count, length-append front (input ∷ []))

-- ---- whether the arguments are the inputs in order

same_number : (n : ℕ) → (n == n) ≡ true
same_number n = (Decides-eqb n n).1 refl

other_number : (n m : ℕ) → (n ≡ m → ⊥) → (n == m) ≡ false
other_number n m f = by (n == m) refl where
  by : (b : Bool) → (n == m) ≡ b → (n == m) ≡ false
  by true e = absurd (f ((Decides-eqb n m).0 e))
  by false e = e

not_both : (j k : ℕ) (o : Option ℕ) → j < k → is_number j o ≡ true → is_number k o ≡ false
not_both j k None h e = refl
not_both j k (Some m) h e = other_number m k (λ q. omega (arith, (Decides-eqb m j).0 e))

position_at : (p : Option ℕ → Bool) (xs : List (Option ℕ)) (n : ℕ) → position_or_len p xs ≡ n → n < length xs → position p xs ≡ Some n
position_at p xs n e h = ap (λ k. if nat_lt k (length xs) then Some k else None) e ∙ ap (λ b. if b then Some n else None) (lt-ltb n (length xs) h)

less_or : (a b : ℕ) → (a < b) ⊎ (b ≤ a)
less_or a b = by (nat_lt a b) refl where
  by : (t : Bool) → nat_lt a b ≡ t → (a < b) ⊎ (b ≤ a)
  by true q = inl (omega (arith, ltb-true a b q))
  by false q = inr (omega (arith, ltb-false a b q))

not_less : (a b : ℕ) → b ≤ a → nat_lt a b ≡ false
not_less a b h = by (nat_lt a b) refl where
  by : (t : Bool) → nat_lt a b ≡ t → nat_lt a b ≡ false
  by true q = absurd (omega (arith, ltb-true a b q))
  by false q = q

position_none : (p : Option ℕ → Bool) (xs : List (Option ℕ)) → position_or_len p xs ≡ length xs → position p xs ≡ None
position_none p xs e =
    ap (λ k. if nat_lt k (length xs) then Some k else None) e ∙ ap (λ b. if b then Some (length xs) else None) (not_less (length xs) (length xs) (omega arith))

first_here : (to : List (Option ℕ)) (m k : ℕ) → ((n : ℕ) → n < m → is_number n (get_or to n None) ≡ true) → m ≤ length to → k < m → position (is_number k) to ≡ Some k
first_here to m k each le lt =
    position_at (is_number k) to k
    (position_or_len_is (is_number k) to k None (omega arith) (λ j h. not_both j k (get_or to j None) h (each j (omega arith))) (λ h. each k lt)) (omega arith)

and_false : (a b : Bool) → b ≡ false → (a && b) ≡ false
and_false true b e = e
and_false false b e = refl

order_step : (m k : ℕ) (v : Value) (o : Option ℕ) (rest : List Source) (b : Bool) → are_in_order m (1 + k) rest ≡ b → are_in_order m k (source_of v o ∷ rest) ≡ (is_number k o && b)
order_step m k v None rest b e = refl
order_step m k v (Some p) rest b e = ap (λ x. p == k && x) e

next_is : (to : List (Option ℕ)) (m k : ℕ) (is : List Input) (b : Bool) → are_in_order m (suc k) (sources_from to (suc k) is) ≡ b → are_in_order m (1 + k) (sources_from to (suc k) is) ≡ b
next_is to m k is b e = let z : 1 + k ≡ suc k = omega arith in ap (λ n. are_in_order m n (sources_from to (suc k) is)) z ∙ e

pub in_order : (to : List (Option ℕ)) (m : ℕ) → m ≡ length to → ((n : ℕ) → n < m → is_number n (get_or to n None) ≡ true) → (k : ℕ) (is : List Input)
    → are_in_order m k (sources_from to k is) ≡ (k + length is == m)
in_order to m e each k [] = let z : k ≡ k + 0 = omega arith in ap (λ n. n == m) z
in_order to m e each k (i ∷ is) = by (less_or k m) (next_is to m k is (suc k + length is == m) (in_order to m e each (suc k) is)) where
  by : (k < m) ⊎ (m ≤ k) → are_in_order m (1 + k) (sources_from to (suc k) is) ≡ (suc k + length is == m) → are_in_order m k (sources_from to k (i ∷ is)) ≡ (k + length (i ∷ is) == m)
  by (inl lt) rest =
      let z : suc k + length is ≡ k + length (i ∷ is) = omega arith in
      order_step m k i.initial (position (is_number k) to) (sources_from to (suc k) is) (suc k + length is == m) rest
      ∙ ap (λ o. is_number k o && (suc k + length is == m)) (first_here to m k each (omega (arith, e)) lt) ∙ ap (λ b. b && (suc k + length is == m)) (same_number k) ∙ ap (λ n. n == m) z
  by (inr le) rest =
      order_step m k i.initial (position (is_number k) to) (sources_from to (suc k) is) (suc k + length is == m) rest
      ∙ and_false (is_number k (position (is_number k) to)) (suc k + length is == m) (other_number (suc k + length is) m (λ q. omega arith))
      ∙ sym (other_number (k + length (i ∷ is)) m (λ q. omega arith))

not_first : (to : List (Option ℕ)) (n : ℕ) → is_number n (get_or to n None) ≡ false → is_number n (position (is_number n) to) ≡ false
not_first to n h = by (position (is_number n) to) refl where
  at : (p : ℕ) → position (is_number n) to ≡ Some p → (p ≡ n → ⊥)
  at p e q = let found = (position-Some (is_number n) to p None e).1 in cc (h, found, q)

  by : (o : Option ℕ) → position (is_number n) to ≡ o → is_number n o ≡ false
  by None e = refl
  by (Some p) e = other_number p n (at p e)

pub out_of_order : (to : List (Option ℕ)) (m n : ℕ) → n < m → is_number n (get_or to n None) ≡ false → (k : ℕ) (is : List Input) → k ≤ n → are_in_order m k (sources_from to k is) ≡ false
out_of_order to m n lt h k [] le = other_number k m (λ q. omega arith)
out_of_order to m n lt h k (i ∷ is) le = by (eq-or-lt_of_le le) (λ l. next_is to m k is false (out_of_order to m n lt h (suc k) is (omega (arith, l)))) where
  by : (k ≡ n) ⊎ (k < n) → (k < n → are_in_order m (1 + k) (sources_from to (suc k) is) ≡ false) → are_in_order m k (sources_from to k (i ∷ is)) ≡ false
  by (inl q) rest =
      order_step m k i.initial (position (is_number k) to) (sources_from to (suc k) is) (are_in_order m (1 + k) (sources_from to (suc k) is)) refl
      ∙ ap (λ b. b && are_in_order m (1 + k) (sources_from to (suc k) is)) (not_first to k (ap (λ x. is_number x (get_or to x None)) q ∙ h))
  by (inr l) rest =
      order_step m k i.initial (position (is_number k) to) (sources_from to (suc k) is) false (rest l)
      ∙ and_false (is_number k (position (is_number k) to)) false refl

pub order_more : (front : List (Option ℕ)) (input : Option ℕ) (place : ℕ) → place ≡ length front → is_number place input ≡ true → ((n : ℕ) → n < place → is_number n (get_or front n None) ≡ true)
    → (n : ℕ) → n < place + 1 → is_number n (get_or (front ++ input ∷ []) n None) ≡ true
order_more front input place count h each n lt = by (less_or n place) where
  by : (n < place) ⊎ (place ≤ n) → is_number n (get_or (front ++ input ∷ []) n None) ≡ true
  by (inl l) = ap (is_number n) (get_or_append_left front (input ∷ []) None n (omega (arith, count))) ∙ each n l
  by (inr l) =
      let z : n ≡ place = omega arith in
      ap (λ k. is_number k (get_or (front ++ input ∷ []) k None)) z ∙ ap (is_number place) (get_or_at front input [] None place (sym count)) ∙ h

-- ---- of each input the first argument that goes to it

abbrev pub first_or : Option ℕ → Bool → ℕ → Option ℕ
first_or None b n = if b then Some n else None
first_or (Some i) b n = Some i

kept : (o : Option ℕ) (n : ℕ) → first_or o false n ≡ o
kept None n = refl
kept (Some i) n = refl

position_more : (p : Option ℕ → Bool) (xs : List (Option ℕ)) (y : Option ℕ) → position p (xs ++ y ∷ []) ≡ first_or (position p xs) (p y) (length xs)
position_more p xs y = by (less_or (position_or_len p xs) (length xs)) where
  long : length (xs ++ y ∷ []) ≡ length xs + 1
  long = length-append xs (y ∷ [])

  at_end : position_or_len p xs ≡ length xs → (b : Bool) → p y ≡ b → position p (xs ++ y ∷ []) ≡ first_or None b (length xs)
  at_end e b q =
      let here : position_or_len p (xs ++ y ∷ []) ≡ length xs + (if b then 0 else 1)
      = position_or_len_push p xs y ∙ ap (λ t. if t then (length xs + (if p y then 0 else 1)) else position_or_len p xs) (ap (λ k. k == length xs) e ∙ same_number (length xs))
      ∙ ap (λ t. length xs + (if t then 0 else 1)) q in
      last b here where
        last : (c : Bool) → position_or_len p (xs ++ y ∷ []) ≡ length xs + (if c then 0 else 1) → position p (xs ++ y ∷ []) ≡ first_or None c (length xs)
        last true f = position_at p (xs ++ y ∷ []) (length xs) (let z : length xs + 0 ≡ length xs = omega arith in f ∙ z) (omega (arith, long))
        last false f = position_none p (xs ++ y ∷ []) (f ∙ sym long)

  by : (position_or_len p xs < length xs) ⊎ (length xs ≤ position_or_len p xs) → position p (xs ++ y ∷ []) ≡ first_or (position p xs) (p y) (length xs)
  by (inl lt) =
      let k = position_or_len p xs in
      let here : position_or_len p (xs ++ y ∷ []) ≡ k
      = position_or_len_push p xs y ∙ ap (λ t. if t then (length xs + (if p y then 0 else 1)) else k) (other_number k (length xs) (λ q. omega arith)) in
      position_at p (xs ++ y ∷ []) k here (omega (arith, long)) ∙ ap (λ o. first_or o (p y) (length xs)) (sym (position_at p xs k refl lt))
  by (inr le) =
      let e : position_or_len p xs ≡ length xs = omega (arith, prefix_len-le-length (λ x. not (p x)) xs) in
      at_end e (p y) refl ∙ ap (λ o. first_or o (p y) (length xs)) (sym (position_none p xs e))

noted_number : (all : List (Option ℕ)) (input : Option ℕ) (place : ℕ) → length (first_noted all input place) ≡ length all
noted_number all None place = refl
noted_number all (Some m) place = by (nat_lt m (length all) && is_none (get_or all m None)) where
  by : (b : Bool) → length (if b then slice_set all m (Some place) else all) ≡ length all
  by true = length-set all m (Some place)
  by false = refl

noted_here : (all : List (Option ℕ)) (place n : ℕ) → n < length all → get_or (first_noted all (Some n) place) n None ≡ first_or (get_or all n None) true place
noted_here all place n h =
    ap (λ t. get_or (if t && is_none (get_or all n None) then slice_set all n (Some place) else all) n None) (lt-ltb n (length all) h) ∙ at (get_or all n None) refl where
      at : (o : Option ℕ) → get_or all n None ≡ o → get_or (if true && is_none o then slice_set all n (Some place) else all) n None ≡ first_or o true place
      at None q = get_or-set_same all n (Some place) None h
      at (Some i) q = q

other_kept : (all : List (Option ℕ)) (m place n : ℕ) → (n ≡ m → ⊥) → (b : Bool) → get_or (if b then slice_set all m (Some place) else all) n None ≡ get_or all n None
other_kept all m place n f true = get_or-set_other all m n (Some place) None f
other_kept all m place n f false = refl

noted_each : (all : List (Option ℕ)) (input : Option ℕ) (place n : ℕ) → n < length all → get_or (first_noted all input place) n None ≡ first_or (get_or all n None) (is_number n input) place
noted_each all None place n h = sym (kept (get_or all n None) place)
noted_each all (Some m) place n h = by (m == n) refl where
  by : (b : Bool) → (m == n) ≡ b → get_or (first_noted all (Some m) place) n None ≡ first_or (get_or all n None) (m == n) place
  by true e =
      let q : m ≡ n = (Decides-eqb m n).0 e in
      ap (λ k. get_or (first_noted all (Some k) place) n None) q ∙ noted_here all place n h ∙ ap (λ b. first_or (get_or all n None) b place) (sym e)
  by false e =
      other_kept all m place n (λ q. cc ((Decides-eqb m n).1 (sym q), e)) (nat_lt m (length all) && is_none (get_or all m None)) ∙ sym (kept (get_or all n None) place)
      ∙ ap (λ b. first_or (get_or all n None) b place) (sym e)

pub noted_first : (inputs : ℕ) (to all : List (Option ℕ)) (input : Option ℕ) (place : ℕ) → place ≡ length to → AreFirst inputs to all → AreFirst inputs (to ++ input ∷ []) (first_noted all input place)
noted_first inputs to all input place e h = record {
  number = noted_number all input place ∙ h.number;
  each = λ n lt.
      noted_each all input place n (omega (arith, h.number)) ∙ ap (λ o. first_or o (is_number n input) place) (h.each n lt)
      ∙ ap (first_or (position (is_number n) to) (is_number n input)) e ∙ sym (position_more (is_number n) to input);
}
