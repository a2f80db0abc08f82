-- How long the texts of an array's subscripts are.
use Rattle.std.proofs.Common.{◌≡◌, ℕ, zero, suc, ◌+◌, ◌<◌, ◌/◌, ◌%◌, ℤ, pos, negsuc, Bool, true, false, nat_eq, cond, List, [], ◌∷◌, ◌++◌, codes, map, length, take, get_or, fold, refl, ap, sym, ◌∙◌, arith, add-one, length-append, append-nil, append_assoc}
use Rattle.std.specs.Fmt.{decimal, digit_glyph, digits, digits_onto, signed_decimal}
use Rattle.std.specs.List.{flat_map}
use Rattle.std.proofs.Math.Seq.{take-suc}
use Rattle.std.proofs.lemmas.List.{map-append}
use Rattle.std.proofs.lemmas.List.Sums.{fold-append}
use Rattle.st_leaves.specs.Sizes.{pairs}
use Rattle.st_leaves.specs.Subscripts.{texts_between}
use Rattle.st_tree.specs.declared.tree.declaration.Subrange.{Subrange}
use Rattle.st_tree.specs.Literals.{number_of}
use Rattle.st_leaves.specs.Leaves.{choices, numbers_in, subscript_text}

abbrev pub texts_in : Subrange → List ℕ
texts_in r = texts_between (number_of r.lower) (number_of r.upper)

-- of one subscript more
abbrev pub with_subscript : List ℕ → Subrange → List ℕ
with_subscript texts r = pairs (pairs texts (1 ∷ [])) (texts_in r)

-- of one subscript more, from the first on
pub one_more : (rs : List Subrange) (i : ℕ) (r : Subrange) → i < length rs → r ≡ get_or rs i r
    → with_subscript (fold with_subscript (0 ∷ []) (take i rs)) r ≡ fold with_subscript (0 ∷ []) (take (i + 1) rs)
one_more rs i r below is =
    rw add-one (ap (with_subscript (fold with_subscript (0 ∷ []) (take i rs))) is
    ∙ sym (ap (fold with_subscript (0 ∷ [])) (take-suc rs i r below) ∙ fold-append with_subscript (0 ∷ []) (take i rs) (get_or rs i r ∷ [])))

-- ---- texts before texts

abbrev pub before : ℕ → List ℕ → List ℕ
before n texts = map (λ m. n + m) texts

before_before : (n m : ℕ) (texts : List ℕ) → before n (before m texts) ≡ before (n + m) texts
before_before n m [] = refl
before_before n m (t ∷ ts) = ap (λ k. k ∷ before n (before m ts)) (sum n m t) ∙ ap (λ ks. (n + m + t) ∷ ks) (before_before n m ts) where
  sum : (n m t : ℕ) → n + (m + t) ≡ n + m + t
  sum n m t = omega arith

pairs_append : (xs ys more : List ℕ) → pairs (xs ++ ys) more ≡ pairs xs more ++ pairs ys more
pairs_append [] ys more = refl
pairs_append (x ∷ xs) ys more = ap (λ ks. before x more ++ ks) (pairs_append xs ys more) ∙ sym (append_assoc (before x more) (pairs xs more) (pairs ys more))

before_pairs : (n : ℕ) (xs more : List ℕ) → pairs (before n xs) more ≡ before n (pairs xs more)
before_pairs n [] more = refl
before_pairs n (x ∷ xs) more =
    ap (λ ks. ks ++ pairs (before n xs) more) (sym (before_before n x more)) ∙ ap (λ ks. before n (before x more) ++ ks) (before_pairs n xs more)
    ∙ sym (map-append (λ m. n + m) (before x more) (pairs xs more))

pairs_assoc : (xs ys zs : List ℕ) → pairs (pairs xs ys) zs ≡ pairs xs (pairs ys zs)
pairs_assoc [] ys zs = refl
pairs_assoc (x ∷ xs) ys zs = pairs_append (before x ys) (pairs xs ys) zs ∙ ap (λ ks. ks ++ pairs (pairs xs ys) zs) (before_pairs x ys zs) ∙ ap (λ ks. before x (pairs ys zs) ++ ks) (pairs_assoc xs ys zs)

-- ---- the choices of subscripts

-- each subscript behind a separator, and one after the last
abbrev pub separated : List Subrange → List ℕ
separated [] = 1 ∷ []
separated (r ∷ rs) = pairs (pairs (1 ∷ []) (texts_in r)) (separated rs)

folded : (texts : List ℕ) (rs : List Subrange) → pairs (fold with_subscript texts rs) (1 ∷ []) ≡ pairs texts (separated rs)
folded texts [] = refl
folded texts (r ∷ rs) =
    folded (with_subscript texts r) rs ∙ ap (λ ks. pairs ks (separated rs)) (pairs_assoc texts (1 ∷ []) (texts_in r)) ∙ pairs_assoc texts (pairs (1 ∷ []) (texts_in r)) (separated rs)

-- ---- no number has an empty text

glyphs : (k n g : ℕ) (more : List ℕ) → 0 < length (digits_onto k 10 false n (g ∷ more))
glyphs zero n g more = omega arith
glyphs (suc k) n g more = by (nat_eq (n / 10) 0) (glyphs k (n / 10) (digit_glyph false (n % 10)) (g ∷ more)) where
  by : (last : Bool) → 0 < length (digits_onto k 10 false (n / 10) (digit_glyph false (n % 10) ∷ g ∷ more)) → 0 < length (cond last (digit_glyph false (n % 10) ∷ g ∷ more) (digits_onto k 10 false (n / 10) (digit_glyph false (n % 10) ∷ g ∷ more)))
  by true some = omega arith
  by false some = some

some_glyphs : (k n : ℕ) → 0 < length (digits_onto (suc k) 10 false n [])
some_glyphs k n = by (nat_eq (n / 10) 0) where
  by : (last : Bool) → 0 < length (cond last (digit_glyph false (n % 10) ∷ []) (digits_onto k 10 false (n / 10) (digit_glyph false (n % 10) ∷ [])))
  by true = omega arith
  by false = glyphs k (n / 10) (digit_glyph false (n % 10)) []

some_decimal : (n : ℕ) → 0 < length (decimal n)
unfolding digits
some_decimal n = some_glyphs 63 n

pub some_signed : (z : ℤ) → 0 < length (signed_decimal z)
some_signed (pos n) = some_decimal n
some_signed (negsuc n) = omega arith

-- ---- the texts with the brackets around them

abbrev pub IsSome : List ℕ → Type 0
IsSome text = 0 < length text

abbrev pub AreSome : List (List ℕ) → Type 0
AreSome [] = Unit {0}
AreSome (t ∷ ts) = IsSome t × AreSome ts

some_append : (xs ys : List (List ℕ)) → AreSome xs → AreSome ys → AreSome (xs ++ ys)
some_append [] ys _ more = more
some_append (x ∷ xs) ys (some, others) more = (some, some_append xs ys others more)

abbrev pub bracketed : List (List ℕ) → List ℕ
bracketed texts = map (λ text. length text + 2) texts

some_subscript : (i : ℤ) (rest : List ℕ) → IsSome (subscript_text i rest)
some_subscript i [] = some_signed i
some_subscript i (c ∷ cs) = omega (arith, some_signed i, length-append (signed_decimal i ++ codes ",") (c ∷ cs), length-append (signed_decimal i) (codes ","))

some_mapped : (i : ℤ) (texts : List (List ℕ)) → AreSome (map (subscript_text i) texts)
some_mapped i [] = tt
some_mapped i (t ∷ ts) = (some_subscript i t, some_mapped i ts)

some_over : (numbers : List ℤ) (texts : List (List ℕ)) → AreSome (flat_map (λ i. map (subscript_text i) texts) numbers)
some_over [] texts = tt
some_over (i ∷ is) texts = some_append (map (subscript_text i) texts) (flat_map (λ j. map (subscript_text j) texts) is) (some_mapped i texts) (some_over is texts)

some_choice : (r : Subrange) (rs : List Subrange) → AreSome (choices (r ∷ rs))
some_choice r rs = some_over (numbers_in r) (choices rs)

-- a subscript and `,` before another text
longer : (i : ℤ) (rest : List ℕ) → IsSome rest → length (subscript_text i rest) + 2 ≡ 1 + length (signed_decimal i) + (length rest + 2)
longer i [] some = absurd (omega (arith, some))
longer i (c ∷ cs) some = omega (arith, length-append (signed_decimal i ++ codes ",") (c ∷ cs), length-append (signed_decimal i) (codes ","))

all_longer : (i : ℤ) (texts : List (List ℕ)) → AreSome texts → bracketed (map (subscript_text i) texts) ≡ before (1 + length (signed_decimal i)) (bracketed texts)
all_longer i [] some = refl
all_longer i (t ∷ ts) (some, more) =
    ap (λ n. n ∷ bracketed (map (subscript_text i) ts)) (longer i t some) ∙ ap (λ ns. (1 + length (signed_decimal i) + (length t + 2)) ∷ ns) (all_longer i ts more)

-- each of these numbers before the texts of further subscripts, where those together with `]` have these lengths
over : (numbers : List ℤ) (texts : List (List ℕ)) (ends : List ℕ) → ((i : ℤ) → bracketed (map (subscript_text i) texts) ≡ before (1 + length (signed_decimal i)) ends)
    → bracketed (flat_map (λ i. map (subscript_text i) texts) numbers) ≡ pairs (before 1 (map (λ i. length (signed_decimal i)) numbers)) ends
over [] texts ends each = refl
over (i ∷ is) texts ends each =
    map-append (λ text. length text + 2) (map (subscript_text i) texts) (flat_map (λ j. map (subscript_text j) texts) is)
    ∙ ap (λ ns. ns ++ bracketed (flat_map (λ j. map (subscript_text j) texts) is)) (each i)
    ∙ ap (λ ns. before (1 + length (signed_decimal i)) ends ++ ns) (over is texts ends each)

with_separator : (r : Subrange) (ends : List ℕ) → pairs (before 1 (texts_in r)) ends ≡ pairs (pairs (1 ∷ []) (texts_in r)) ends
with_separator r ends = ap (λ ns. pairs ns ends) (sym (append-nil (before 1 (texts_in r))))

chosen : (r : Subrange) (rs : List Subrange) → bracketed (choices (r ∷ rs)) ≡ separated (r ∷ rs)
chosen r [] = over (numbers_in r) (choices []) (1 ∷ []) (λ i. ap (λ n. n ∷ []) (last i)) ∙ with_separator r (1 ∷ []) where
  last : (i : ℤ) → length (signed_decimal i) + 2 ≡ 1 + length (signed_decimal i) + 1
  last i = omega arith
chosen r (s ∷ ss) =
    over (numbers_in r) (choices (s ∷ ss)) (bracketed (choices (s ∷ ss))) (λ i. all_longer i (choices (s ∷ ss)) (some_choice s ss))
    ∙ with_separator r (bracketed (choices (s ∷ ss))) ∙ ap (λ ends. pairs (pairs (1 ∷ []) (texts_in r)) ends) (chosen s ss)

-- of no text but an empty one, before some
alone : (ends : List ℕ) → pairs (0 ∷ []) ends ≡ ends
alone ends = append-nil (before 0 ends) ∙ same ends where
  same : (ns : List ℕ) → before 0 ns ≡ ns
  same [] = refl
  same (n ∷ ns) = ap (λ m. m ∷ before 0 ns) (none n) ∙ ap (λ ms. n ∷ ms) (same ns) where
    none : (n : ℕ) → 0 + n ≡ n
    none n = omega arith

-- all subscripts, one after another, and `]`
pub all_chosen : (rs : List Subrange) → 0 < length rs → pairs (fold with_subscript (0 ∷ []) rs) (1 ∷ []) ≡ bracketed (choices rs)
all_chosen [] some = absurd (omega (arith, some))
all_chosen (r ∷ rs) some = folded (0 ∷ []) (r ∷ rs) ∙ alone (separated (r ∷ rs)) ∙ sym (chosen r rs)

-- the brackets around a text
pub brackets : (text : List ℕ) → length (codes "[" ++ text ++ codes "]") ≡ length text + 2
brackets text = omega (arith, length-append (codes "[" ++ text) (codes "]"))
