-- Lists of leaves, put together and taken apart.
use Rattle.std.proofs.Common.{◌≡◌, ℕ, suc, ◌+◌, ◌-◌, ◌&&◌, Bool, true, false, List, [], ◌∷◌, ◌++◌, Option, Some, None, length, take, refl, ap, sym, ◌∙◌, arith, append-nil, append_assoc, length-append, subst}
use Rattle.std.specs.List.{list_all}
use Rattle.std.proofs.lemmas.List.{length-map, take-append-le, take_all}
use Rattle.std.proofs.lemmas.List.Elements.{All-append, All-cons, All-head, All-nil, All-tail}
use Rattle.st_values.specs.Words.{AreWordBytes, is_word_byte, raised}
use Rattle.st_tree.specs.declared.leaf.Leaf.{Leaf}
use Rattle.st_tree.specs.declared.tree.constant.Constant.{Constant}
use Rattle.st_tree.specs.declared.tree.declaration.VarKind.TheVariants as var_kinds
use Rattle.st_leaves.specs.LeavesIn.{LeafIn, as_input, starting, used_as, within}
use Rattle.st_leaves.specs.Paths.{HasWord, HasWords, Path, Selector, field, index, kept, path_text, selector_text}
use Rattle.st_leaves.specs.Programs.{role_at}
use Rattle.st_listing.specs.Listings.{AreWays, as_inputs, ListingView, inside, leaf_behind, leaves_behind, listed, outside, use_in}

-- ---- none, and one list after another

pub listed_none : (s : ListingView) → listed s [] ≡ s
listed_none s = ap (λ ls. record { leaves = ls; text = s.text; spine = s.spine; is_input = s.is_input }) (append-nil s.leaves)

pub length_behind : (s : ListingView) (n : ℕ) (ls : List LeafIn) → length (leaves_behind s n ls) ≡ length ls
length_behind s n [] = refl
length_behind s n (l ∷ ls) = ap suc (length_behind s (suc n) ls)

-- how many leaves there are then
pub length_listed : (s : ListingView) (ls : List LeafIn) → length (listed s ls).leaves ≡ length s.leaves + length ls
length_listed s ls = length-append s.leaves (leaves_behind s (length s.leaves) ls) ∙ ap (λ n. length s.leaves + n) (length_behind s (length s.leaves) ls)

behind_append : (s t : ListingView) (n : ℕ) (a b : List LeafIn) → ((k : ℕ) (l : LeafIn) → leaf_behind t k l ≡ leaf_behind s k l)
    → leaves_behind s n (a ++ b) ≡ leaves_behind s n a ++ leaves_behind t (n + length a) b
behind_append s t n [] b same = others b n (n + 0) (omega arith) where
  others : (ls : List LeafIn) (k m : ℕ) → k ≡ m → leaves_behind s k ls ≡ leaves_behind t m ls
  others [] k m is = refl
  others (l ∷ ls) k m is = ap (λ j. leaf_behind s j l ∷ leaves_behind s (suc k) ls) is ∙ ap (λ x. x ∷ leaves_behind s (suc k) ls) (sym (same m l)) ∙ ap (λ xs. leaf_behind t m l ∷ xs) (others ls (suc k) (suc m) (ap suc is))
behind_append s t n (l ∷ a) b same =
    ap (λ xs. leaf_behind s n l ∷ xs) (behind_append s t (suc n) a b same ∙ ap (λ k. leaves_behind s (suc n) a ++ leaves_behind t k b) (omega arith))

-- one list after another is both
pub listed_twice : (s : ListingView) (a b : List LeafIn) → listed (listed s a) b ≡ listed s (a ++ b)
listed_twice s a b =
    ap (λ ls. record { leaves = ls; text = s.text; spine = s.spine; is_input = s.is_input })
    (append_assoc s.leaves (leaves_behind s (length s.leaves) a) (leaves_behind (listed s a) (length (listed s a).leaves) b)
    ∙ ap (λ n. s.leaves ++ (leaves_behind s (length s.leaves) a ++ leaves_behind (listed s a) n b)) (length_listed s a)
    ∙ ap (λ ls. s.leaves ++ ls) (sym (behind_append s (listed s a) (length s.leaves) a b (λ k l. refl))))

pub listed_more : (s now new : ListingView) (a b all : List LeafIn) → all ≡ a ++ b → now ≡ listed s a → new ≡ listed now b → new ≡ listed s all
listed_more s now new a b all split is more = more ∙ ap (λ v. listed v b) is ∙ listed_twice s a b ∙ ap (listed s) (sym split)

-- how many leaves there are where these were listed
pub listed_count : (s now : ListingView) (ls : List LeafIn) → now ≡ listed s ls → length now.leaves ≡ length s.leaves + length ls
listed_count s now ls is = ap (λ v. length v.leaves) is ∙ length_listed s ls

-- ---- entering a part, listing and leaving it again

abbrev leaf_of : List ℕ → List (List ℕ) → Bool → ℕ → LeafIn → Leaf
leaf_of text spine is_input n l = record { path = raised text; shown = text; spine = spine; elem = l.initial.elem; initial = l.initial; role = role_at n (use_in is_input l.use') }

behind_within : (s : ListingView) (selector : Selector) (name : List ℕ) (n : ℕ) (ls : List LeafIn) → leaves_behind (inside s selector name) n ls ≡ leaves_behind s n (within selector name ls)
behind_within s selector name n [] = refl
behind_within s selector name n (l ∷ ls) =
    ap (λ text. leaf_of text ((s.spine ++ name ∷ []) ++ l.spine) s.is_input n l ∷ leaves_behind (inside s selector name) (suc n) ls) (append_assoc s.text (selector_text selector) (path_text l.path))
    ∙ ap (λ spine. leaf_of (s.text ++ path_text (selector ∷ l.path)) spine s.is_input n l ∷ leaves_behind (inside s selector name) (suc n) ls) (append_assoc s.spine (name ∷ []) l.spine)
    ∙ ap (λ xs. leaf_of (s.text ++ path_text (selector ∷ l.path)) (s.spine ++ name ∷ l.spine) s.is_input n l ∷ xs) (behind_within s selector name (suc n) ls)

front : {A : Type 0} (xs ys : List A) → take (length xs) (xs ++ ys) ≡ xs
front xs ys = take-append-le (length xs) xs ys (omega arith) ∙ take_all (length xs) xs (omega arith)

but_last : {A : Type 0} (xs : List A) (x : A) → take (length (xs ++ x ∷ []) - 1) (xs ++ x ∷ []) ≡ xs
but_last xs x = ap (λ n. take n (xs ++ x ∷ [])) (let n = length-append xs (x ∷ []) in omega (arith, n)) ∙ front xs (x ∷ [])

-- what was listed within a part is listed, seen from the whole
pub listed_within : (s : ListingView) (selector : Selector) (name : List ℕ) (ls : List LeafIn)
    → outside (listed (inside s selector name) ls) (length s.text) ≡ listed s (within selector name ls)
listed_within s selector name ls =
    ap (λ text. record { leaves = s.leaves ++ leaves_behind (inside s selector name) (length s.leaves) ls; text = text; spine = take (length (s.spine ++ name ∷ []) - 1) (s.spine ++ name ∷ []); is_input = s.is_input }) (front s.text (selector_text selector))
    ∙ ap (λ spine. record { leaves = s.leaves ++ leaves_behind (inside s selector name) (length s.leaves) ls; text = s.text; spine = spine; is_input = s.is_input }) (but_last s.spine name)
    ∙ ap (λ xs. record { leaves = s.leaves ++ xs; text = s.text; spine = s.spine; is_input = s.is_input }) (behind_within s selector name (length s.leaves) ls)

-- ---- inputs of the program

behind_inputs : (s : ListingView) (n : ℕ) (ls : List LeafIn) → s.is_input ≡ false → leaves_behind (as_inputs s true) n ls ≡ leaves_behind s n (used_as var_kinds.Input ls)
behind_inputs s n [] off = refl
behind_inputs s n (l ∷ ls) off =
    ap (λ b. leaf_of (s.text ++ path_text l.path) (s.spine ++ l.spine) b n (record { path = l.path; spine = l.spine; initial = l.initial; use' = as_input l.use' }) ∷ leaves_behind (as_inputs s true) (suc n) ls) (sym off)
    ∙ ap (λ xs. leaf_behind s n (record { path = l.path; spine = l.spine; initial = l.initial; use' = as_input l.use' }) ∷ xs) (behind_inputs s (suc n) ls off)

-- what was listed as an input of the program is listed as one
pub listed_inputs : (s : ListingView) (ls : List LeafIn) → s.is_input ≡ false → as_inputs (listed (as_inputs s true) ls) false ≡ listed s (used_as var_kinds.Input ls)
listed_inputs s ls off =
    ap (λ b. record { leaves = s.leaves ++ leaves_behind (as_inputs s true) (length s.leaves) ls; text = s.text; spine = s.spine; is_input = b }) (sym off)
    ∙ ap (λ xs. record { leaves = s.leaves ++ xs; text = s.text; spine = s.spine; is_input = s.is_input }) (behind_inputs s (length s.leaves) ls off)

-- ---- lists of leaves within parts

pub length_within : (selector : Selector) (name : List ℕ) (ls : List LeafIn) → length (within selector name ls) ≡ length ls
length_within selector name ls = length-map ls (λ l. record { path = selector ∷ l.path; spine = name ∷ l.spine; initial = l.initial; use' = l.use' })

pub length_starting : (first : Option Constant) (ls : List LeafIn) → length (starting first ls) ≡ length ls
length_starting None ls = refl
length_starting (Some c) [] = refl
length_starting (Some c) (l ∷ ls) = ap suc (length_starting (Some c) ls)

-- ---- ways

pub ways_none : AreWays []
ways_none = All-nil (λ l. HasWords l.path)

pub ways_append : (a b : List LeafIn) → AreWays a → AreWays b → AreWays (a ++ b)
ways_append a b = All-append (λ l. HasWords l.path) a b

pub ways_more : (a b all : List LeafIn) → all ≡ a ++ b → AreWays a → AreWays b → AreWays all
ways_more a b all split first second = subst AreWays (sym split) (ways_append a b first second)

pub ways_within : (selector : Selector) (name : List ℕ) (ls : List LeafIn) → HasWord selector → AreWays ls → AreWays (within selector name ls)
ways_within selector name [] word ways = ways_none
ways_within selector name (l ∷ ls) word ways =
    All-cons (λ l. HasWords l.path) _ (within selector name ls) (word, All-head (λ l. HasWords l.path) l ls ways) (ways_within selector name ls word (All-tail (λ l. HasWords l.path) l ls ways))

pub ways_starting : (first : Option Constant) (ls : List LeafIn) → AreWays ls → AreWays (starting first ls)
ways_starting None ls ways = ways
ways_starting (Some c) [] ways = ways_none
ways_starting (Some c) (l ∷ ls) ways =
    All-cons (λ l. HasWords l.path) _ (starting (Some c) ls) (All-head (λ l. HasWords l.path) l ls ways) (ways_starting (Some c) ls (All-tail (λ l. HasWords l.path) l ls ways))

-- ---- ways whose names are known

abbrev has_word : Selector → Bool
has_word (field name) = list_all is_word_byte name
has_word (kept name) = list_all is_word_byte name
has_word (index subscripts) = true

abbrev are_ways : List LeafIn → Bool
are_ways ls = list_all (λ l. list_all has_word l.path) ls

both : (a b : Bool) → (a && b) ≡ true → (a ≡ true) × (b ≡ true)
both true b h = (refl, h)
both false b h = cc

words_by : (w : List ℕ) → list_all is_word_byte w ≡ true → AreWordBytes w
words_by [] h = tt
words_by (b ∷ w) h = ((both (is_word_byte b) (list_all is_word_byte w) h).0, words_by w (both (is_word_byte b) (list_all is_word_byte w) h).1)

word_by : (s : Selector) → has_word s ≡ true → HasWord s
word_by (field name) h = words_by name h
word_by (kept name) h = words_by name h
word_by (index subscripts) h = tt

path_by : (path : Path) → list_all has_word path ≡ true → HasWords path
path_by [] h = tt
path_by (s ∷ path) h = (word_by s (both (has_word s) (list_all has_word path) h).0, path_by path (both (has_word s) (list_all has_word path) h).1)

pub ways_by : (ls : List LeafIn) → are_ways ls ≡ true → AreWays ls
ways_by [] h = ways_none
ways_by (l ∷ ls) h =
    let h' = both (list_all has_word l.path) (are_ways ls) h in All-cons (λ l. HasWords l.path) l ls (path_by l.path h'.0) (ways_by ls h'.1)
