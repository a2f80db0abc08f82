-- Marks, one bit a leaf.
use Rattle.std.proofs.Common.{true≢false, ℕ, zero, suc, ◌≡◌, ◌≢◌, ◌+◌, ◌-◌, ◌*◌, ◌/◌, ◌%◌, ◌<◌, ◌≤◌, ◌==◌, ◌&&◌, ◌||◌, nat_lt, Bool, true, false, cond, List, [], ◌∷◌, ◌++◌, Option, Some, None, add-one, append_assoc, drop, length, set, get_or, replicate, refl, sym, ap, ◌∙◌, ⊎_elim, arith}
use Rattle.std.specs.Int.{bit_at}
use Rattle.std.specs.Option.{is_none}
use Rattle.std.proofs.lemmas.Bool.{both_ways, cases_eq, cases_lt}
use Rattle.std.proofs.lemmas.List.{drop_more, get_or-set_other, get_or-set_same, get_or-replicate, length-replicate, length-set, same_lists}
use Rattle.std.proofs.lemmas.List.FromFn.{get_or-map-range_with_len, length-map-range_with_len}
use Rattle.std.proofs.lemmas.Nat.Bits.{bit_at-zero}
use Rattle.st_values.proofs.Cases.{below, is_below, is_not_below}
use Rattle.st_memory.specs.Memory.{forced_at}
use Rattle.st_memory.specs.Moves.{saved_forced}
use Rattle.st_layout.specs.Pairs.{number_at}
use Rattle.st_memory.specs.Packed.{has_mark, mark_at, mark_bytes, marked}

pub length-marked : (count : ℕ) (marks : List ℕ) → length (marked count marks) ≡ count
length-marked count marks = length-map-range_with_len (mark_at marks) 0 count

pub marked_at : (count : ℕ) (marks : List ℕ) (i : ℕ) (d : Bool) → i < count → get_or (marked count marks) i d ≡ mark_at marks i
marked_at count marks i d below = get_or-map-range_with_len (mark_at marks) 0 count i i d below (omega arith)

-- the marks are those of a list, place by place
pub marked_is : (count : ℕ) (marks : List ℕ) (forced : List Bool) → length forced ≡ count → ((i : ℕ) (d : Bool) → i < count → mark_at marks i ≡ get_or forced i d) → marked count marks ≡ forced
marked_is count marks forced long each =
    same_lists (marked count marks) forced (length-marked count marks ∙ sym long) (λ k d below.
    let within : k < count = omega (arith, below, length-marked count marks) in
    marked_at count marks k d within ∙ each k d within)

-- one mark is put, and the others stay
pub put_marked : (count : ℕ) (marks new : List ℕ) (i : ℕ) (on : Bool) → i < count → mark_at new i ≡ on → ((k : ℕ) → k ≢ i → mark_at new k ≡ mark_at marks k) → marked count new ≡ set (marked count marks) i on
put_marked count marks new i on below here others =
    marked_is count new (set (marked count marks) i on) (length-set (marked count marks) i on ∙ length-marked count marks) (λ k d within.
    ⊎_elim (λ (same : k ≡ i).
    ap (mark_at new) same ∙ (here ∙ sym (ap (λ (n : ℕ). get_or (set (marked count marks) i on) n d) same ∙ get_or-set_same (marked count marks) i on d (omega (arith, below, length-marked count marks)))))
    (λ (apart : k ≡ i → ⊥).
    others k apart ∙ sym (get_or-set_other (marked count marks) i k on d apart ∙ marked_at count marks k d within))
    (cases_eq k i))

-- no bit of 0 is set
pub no_mark : (bytes i : ℕ) → i < 8 * bytes → mark_at (replicate bytes 0) i ≡ false
unfolding mark_at
no_mark bytes i below =
    ap (λ (n : ℕ). bit_at n (i % 8) == 1) (get_or-replicate bytes (i / 8) 0 0 (omega arith))
    ∙ ap (λ (n : ℕ). n == 1) (bit_at-zero (i % 8))

pub none_marked : (count bytes : ℕ) → count ≤ 8 * bytes → marked count (replicate bytes 0) ≡ replicate count false
none_marked count bytes room =
    marked_is count (replicate bytes 0) (replicate count false) (length-replicate count false) (λ k d below.
    no_mark bytes k (omega arith) ∙ sym (get_or-replicate count k false d below))

-- where no byte has a mark, all bytes are 0
all_zero : (marks : List ℕ) → has_mark marks ≡ false → (k : ℕ) → get_or marks k 0 ≡ 0
all_zero [] none zero = refl
all_zero [] none (suc k) = refl
all_zero (zero ∷ marks) none zero = refl
all_zero (zero ∷ marks) none (suc k) = all_zero marks none k
all_zero (suc n ∷ marks) none k = absurd (true≢false (sym (ap (λ (b : Bool). b || has_mark marks) (is_below 0 (suc n) (omega arith))) ∙ none))

pub unmarked : (marks : List ℕ) → has_mark marks ≡ false → (i : ℕ) → mark_at marks i ≡ false
unfolding mark_at
unmarked marks none i =
    ap (λ (n : ℕ). bit_at n (i % 8) == 1) (all_zero marks none (i / 8))
    ∙ ap (λ (n : ℕ). n == 1) (bit_at-zero (i % 8))

-- a byte in the place of the one with a leaf's mark
pub set_here : (marks : List ℕ) (i byte bit : ℕ) → i / 8 < length marks → bit_at byte (i % 8) ≡ bit → mark_at (set marks (i / 8) byte) i ≡ (bit == 1)
unfolding mark_at
set_here marks i byte bit below is =
    ap (λ (n : ℕ). bit_at n (i % 8) == 1) (get_or-set_same marks (i / 8) byte 0 below) ∙ ap (λ (n : ℕ). n == 1) is

pub set_others : (marks : List ℕ) (i byte : ℕ) → ((k : ℕ) → k < 8 → k ≢ i % 8 → bit_at byte k ≡ bit_at (get_or marks (i / 8) 0) k) → i / 8 < length marks → (j : ℕ) → j ≢ i → mark_at (set marks (i / 8) byte) j ≡ mark_at marks j
unfolding mark_at
set_others marks i byte same below j apart =
    ⊎_elim (λ (here : j / 8 ≡ i / 8).
    let other : j % 8 ≢ i % 8 = λ is. apart (omega (arith, is, here)) in
    ap (λ (n : ℕ). bit_at (get_or (set marks (i / 8) byte) n 0) (j % 8) == 1) here
    ∙ (ap (λ (n : ℕ). bit_at n (j % 8) == 1) (get_or-set_same marks (i / 8) byte 0 below)
    ∙ (ap (λ (n : ℕ). n == 1) (same (j % 8) (omega arith) other)
    ∙ ap (λ (n : ℕ). bit_at (get_or marks n 0) (j % 8) == 1) (sym here))))
    (λ (there : j / 8 ≡ i / 8 → ⊥).
    ap (λ (n : ℕ). bit_at n (j % 8) == 1) (get_or-set_other marks (i / 8) (j / 8) byte 0 there))
    (cases_eq (j / 8) (i / 8))

-- ---- marks that are put in order

not_below : (a b : ℕ) → nat_lt a b ≡ false → b ≤ a
not_below a b fails =
    ⊎_elim (λ (low : a < b). let yes : nat_lt a b ≡ true = is_below a b low in absurd (both_ways (nat_lt a b) fails yes)) (λ (high : b ≤ a). high) (cases_lt a b)

-- the leaves before this one are marked where they should be, and no others
pub record AreMarked (count upto : ℕ) (force : ℕ → Bool) (marks : List ℕ) : Type 0 where
  pub bytes : length marks ≡ mark_bytes count
  pub each : (i : ℕ) → i < count → mark_at marks i ≡ (nat_lt i upto && force i)

module _ (count : ℕ) (force : ℕ → Bool) where
  pub marked_none : (marks : List ℕ) → length marks ≡ mark_bytes count → marked count marks ≡ replicate count false → AreMarked count 0 force marks
  marked_none marks bytes none = record {
    bytes = bytes;
    each = λ i below.
        sym (marked_at count marks i false below) ∙ (ap (λ (them : List Bool). get_or them i false) none
        ∙ (get_or-replicate count i false false below ∙ sym (ap (λ (b : Bool). b && force i) (is_not_below i 0 (omega arith)))));
  }

  -- a gap of unmarked leaves, and a run of leaves behind it
  pub marked_run : (place first n : ℕ) (marks new : List ℕ) → place ≤ first → AreMarked count place force marks → length new ≡ length marks
      → ((i : ℕ) → place ≤ i → i < first → force i ≡ false) → ((k : ℕ) → k < n → mark_at new (first + k) ≡ force (first + k))
      → ((i : ℕ) → i < first → mark_at new i ≡ mark_at marks i) → ((i : ℕ) → first + n ≤ i → mark_at new i ≡ mark_at marks i) → AreMarked count (first + n) force new
  marked_run place first n marks new order so_far long gap run before behind = record {
    bytes = long ∙ so_far.bytes;
    each = λ i below.
        ⊎_elim (λ (less : i < first).
        before i less ∙ (so_far.each i below ∙ ⊎_elim (λ (low : i < place). same_side i place (first + n) (is_below i place low) (is_below i (first + n) (omega arith)))
        (λ (high : place ≤ i). none_side i place (first + n) (gap i high less))
        (cases_lt i place)))
        (λ (high : first ≤ i).
        ⊎_elim (λ (inside : i < first + n).
        ap (mark_at new) (there i high) ∙ (run (i - first) (omega (arith, inside, high)) ∙ (ap force (sym (there i high)) ∙ sym (ap (λ (b : Bool). b && force i) (is_below i (first + n) inside)))))
        (λ (past : first + n ≤ i).
        behind i past ∙ (so_far.each i below ∙ same_side i place (first + n) (is_not_below i place (omega (arith, order, high))) (is_not_below i (first + n) past)))
        (cases_lt i (first + n)))
        (cases_lt i first);
  }
    where
      there : (i : ℕ) → first ≤ i → i ≡ first + (i - first)
      there i high = omega arith

      same_side : {b : Bool} (i m m' : ℕ) → nat_lt i m ≡ b → nat_lt i m' ≡ b → (nat_lt i m && force i) ≡ (nat_lt i m' && force i)
      same_side i m m' is is' = ap (λ (b : Bool). b && force i) (is ∙ sym is')

      none_side : (i m m' : ℕ) → force i ≡ false → (nat_lt i m && force i) ≡ (nat_lt i m' && force i)
      none_side i m m' off = by (force i) off (nat_lt i m) (nat_lt i m')
        where
          by : (on : Bool) → on ≡ false → (a b : Bool) → (a && on) ≡ (b && on)
          by true is a b = cc
          by false is true true = refl
          by false is true false = refl
          by false is false true = refl
          by false is false false = refl

  pub marked_all : (n : ℕ) (marks : List ℕ) (forced : List Bool) → AreMarked count n force marks → count ≤ n → length forced ≡ count → ((i : ℕ) (d : Bool) → i < count → get_or forced i d ≡ force i) → marked count marks ≡ forced
  marked_all n marks forced so_far all long each =
      marked_is count marks forced long (λ i d within.
      so_far.each i within ∙ (ap (λ (b : Bool). b && force i) (is_below i n (omega arith)) ∙ sym (each i d within)))

-- ---- the numbers of marked leaves that are dropped

-- the number of one leaf more, if it is marked and dropped
pub numbers_more : (targets : List (Option ℕ)) (forced : List Bool) (i : ℕ) (all more whole : List ℕ) (drops : Bool) → i < length targets → i < length forced → (forced_at forced i && is_none (number_at targets i)) ≡ drops
    → all ++ saved_forced i (drop i targets) (drop i forced) ≡ whole → more ≡ cond drops (all ++ i ∷ []) all → more ++ saved_forced (i + 1) (drop (i + 1) targets) (drop (i + 1) forced) ≡ whole
numbers_more targets forced i all more whole drops below within told before next = by (number_at targets i) refl (forced_at forced i) refl drops told next
  where
    rest : List ℕ
    rest = saved_forced (i + 1) (drop (i + 1) targets) (drop (i + 1) forced)

    plain : (drops : Bool) → drops ≡ false → saved_forced i (drop i targets) (drop i forced) ≡ rest → more ≡ cond drops (all ++ i ∷ []) all → more ++ rest ≡ whole
    plain true is one next = cc
    plain false is one next = ap (λ (them : List ℕ). them ++ rest) next ∙ (ap (λ (them : List ℕ). all ++ them) (sym one) ∙ before)

    given : (drops : Bool) → drops ≡ true → saved_forced i (drop i targets) (drop i forced) ≡ i ∷ rest → more ≡ cond drops (all ++ i ∷ []) all → more ++ rest ≡ whole
    given false is one next = cc
    given true is one next = ap (λ (them : List ℕ). them ++ rest) next ∙ (append_assoc all (i ∷ []) rest ∙ (ap (λ (them : List ℕ). all ++ them) (sym one) ∙ before))

    by : (target : Option ℕ) → number_at targets i ≡ target → (on : Bool) → forced_at forced i ≡ on → (drops : Bool) → (on && is_none target) ≡ drops → more ≡ cond drops (all ++ i ∷ []) all → more ++ rest ≡ whole
    by None is true marked drops told next = given drops (sym told) (rw (drop_more targets i None below, drop_more forced i false within, is, marked) (ap (λ (n : ℕ). i ∷ saved_forced n (drop (i + 1) targets) (drop (i + 1) forced)) (sym (add-one i)))) next
    by None is false marked drops told next = plain drops (sym told) (rw (drop_more targets i None below, drop_more forced i false within, is, marked) (ap (λ (n : ℕ). saved_forced n (drop (i + 1) targets) (drop (i + 1) forced)) (sym (add-one i)))) next
    by (Some j) is true marked drops told next = plain drops (sym told) (rw (drop_more targets i None below, drop_more forced i false within, is) (ap (λ (n : ℕ). saved_forced n (drop (i + 1) targets) (drop (i + 1) forced)) (sym (add-one i)))) next
    by (Some j) is false marked drops told next = plain drops (sym told) (rw (drop_more targets i None below, drop_more forced i false within, is) (ap (λ (n : ℕ). saved_forced n (drop (i + 1) targets) (drop (i + 1) forced)) (sym (add-one i)))) next
