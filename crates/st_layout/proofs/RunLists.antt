-- Runs of numbers, and the numbers that they are.
use Rattle.std.proofs.Common.{ℕ, zero, suc, ◌≡◌, ◌≢◌, ◌+◌, ◌-◌, ◌^◌, ◌<◌, ◌≤◌, ◌&&◌, Bool, true, false, not, cond, if◌then◌else◌, nat_lt, List, [], ◌∷◌, ◌++◌, length, take, count_by, Option, Some, None, ⊎_elim, refl, sym, ◌∙◌, ap, arith, eq-eqb}
use Rattle.std.specs.List.{range_with_len, sum_by}
use Rattle.std.specs.Option.{is_some}
use Rattle.std.proofs.lemmas.Bool.{cases_lt, ne_eqb}
use Rattle.std.proofs.lemmas.List.{get_or_append_left, get_or_default, get_or_push, length_push, map-id, same_lists}
use Rattle.std.proofs.lemmas.List.FromFn.{get_or-map-range_with_len, length-map-range_with_len, map-range_with_len_more}
use Rattle.std.proofs.lemmas.List.Sums.{count_by_more_no, count_by_more_yes, length-filter, sum_by_push}
use Rattle.std.proofs.lemmas.List.Filters.{length-filter_both}
use Rattle.st_values.proofs.Cases.{is_below, is_not_below}
use Rattle.st_layout.specs.Pairs.{AreBelow}
use Rattle.st_layout.specs.Pairs.{begins_run, follows, number_at}
use Rattle.st_layout.specs.Runs.{AreRuns, IsNextRun, end_of, no_run, number_in, number_of_run, numbers_of, run_at}
use Rattle.st_layout.specs.declared.runs.Run.{Run}

abbrev choice : Bool → Option ℕ → Option ℕ → Option ℕ
choice test number other = if test then number else other

-- the first run that ends behind a place has the number there
pub number_in_at : (runs : List Run) (i k : ℕ) → ((m : ℕ) → m < k → end_of (run_at runs m) ≤ i) → k < length runs → i < end_of (run_at runs k) → number_in runs i ≡ number_of_run (run_at runs k) i
number_in_at [] i k before below behind = absurd (omega (arith, below))
number_in_at (run ∷ runs) i zero before below behind = ap (λ (test : Bool). choice test (number_of_run run i) (number_in runs i)) (is_below i (end_of run) behind)
number_in_at (run ∷ runs) i (suc k) before below behind =
    ap (λ (test : Bool). choice test (number_of_run run i) (number_in runs i)) (is_not_below i (end_of run) (before 0 (omega arith)))
    ∙ number_in_at runs i k (λ m low. before (suc m) (omega (arith, low))) (omega (arith, below)) behind

-- there is none behind the last run
pub number_in_past : (runs : List Run) (i : ℕ) → ((m : ℕ) → m < length runs → end_of (run_at runs m) ≤ i) → number_in runs i ≡ None
number_in_past [] i before = refl
number_in_past (run ∷ runs) i before =
    ap (λ (test : Bool). choice test (number_of_run run i) (number_in runs i)) (is_not_below i (end_of run) (before 0 (omega arith)))
    ∙ number_in_past runs i (λ m low. before (suc m) (omega (arith, low)))

-- a run has none before its first place
pub before_run : (run : Run) (i : ℕ) → i < run.first → number_of_run run i ≡ None
before_run run i low = ap (λ (test : Bool). choice test None (Some (run.to + (i - run.first)))) (is_below i run.first low)

pub in_run : (run : Run) (i : ℕ) → run.first ≤ i → number_of_run run i ≡ Some (run.to + (i - run.first))
in_run run i high = ap (λ (test : Bool). choice test None (Some (run.to + (i - run.first)))) (is_not_below i run.first high)

-- a run more changes nothing before it
number_in_push : (runs : List Run) (run : Run) (i : ℕ) → i < run.first → number_in (runs ++ run ∷ []) i ≡ number_in runs i
number_in_push [] run i low =
    ap (λ (test : Bool). choice test (number_of_run run i) None) (is_below i (end_of run) (omega arith)) ∙ before_run run i low
number_in_push (other ∷ runs) run i low = ap (λ (rest : Option ℕ). choice (nat_lt i (end_of other)) (number_of_run other i) rest) (number_in_push runs run i low)

-- and it has the numbers from there on
number_in_new : (runs : List Run) (run : Run) (i : ℕ) → ((m : ℕ) → m < length runs → end_of (run_at runs m) ≤ i) → run.first ≤ i → i < end_of run → number_in (runs ++ run ∷ []) i ≡ Some (run.to + (i - run.first))
number_in_new [] run i before high low =
    ap (λ (test : Bool). choice test (number_of_run run i) None) (is_below i (end_of run) low) ∙ in_run run i high
number_in_new (other ∷ runs) run i before high low =
    ap (λ (test : Bool). choice test (number_of_run other i) (number_in (runs ++ run ∷ []) i)) (is_not_below i (end_of other) (before 0 (omega arith)))
    ∙ number_in_new runs run i (λ m less. before (suc m) (omega (arith, less))) high low

pub length-numbers_of : (count : ℕ) (runs : List Run) → length (numbers_of count runs) ≡ count
length-numbers_of count runs = length-map-range_with_len (number_in runs) 0 count

pub numbers_at : (count : ℕ) (runs : List Run) (i : ℕ) → i < count → number_at (numbers_of count runs) i ≡ number_in runs i
numbers_at count runs i below = get_or-map-range_with_len (number_in runs) 0 count i i None below (omega arith)

-- each run ends before a later one does
pub ends_ascend : (count : ℕ) (runs : List Run) → AreRuns count runs → (k m : ℕ) → k < m → m < length runs → end_of (run_at runs k) ≤ end_of (run_at runs m)
ends_ascend count runs are k m before below = omega (arith, are.apart k m before below)

-- ---- the next run

-- no run ends behind the place
pub next_none : (count : ℕ) (runs : List Run) (from : ℕ) → from ≤ count → ((k : ℕ) → k < length runs → end_of (run_at runs k) ≤ from) → IsNextRun (numbers_of count runs) from (record { first = count; to = 0; count = 0 })
next_none count runs from low before = record {
  after = low;
  on = λ within. omega (arith, within, length-numbers_of count runs);
  within = omega (arith, length-numbers_of count runs);
  gap = λ i high less. numbers_at count runs i less ∙ number_in_past runs i (λ m below. omega (arith, before m below, high));
  kept = λ k below. absurd (omega (arith, below));
  none = λ empty. refl;
}

module _ (count : ℕ) (runs : List Run) (are : AreRuns count runs) (from k : ℕ) (before : (m : ℕ) → m < k → end_of (run_at runs m) ≤ from) (below : k < length runs) (behind : from < end_of (run_at runs k)) where
  at_run : (i : ℕ) → from ≤ i → i < end_of (run_at runs k) → number_at (numbers_of count runs) i ≡ number_of_run (run_at runs k) i
  at_run i high low =
      numbers_at count runs i (omega (arith, are.within k below, low)) ∙ number_in_at runs i k (λ m less. omega (arith, before m less, high)) below low

  -- the run begins at the place or behind it
  pub next_whole : from ≤ (run_at runs k).first → IsNextRun (numbers_of count runs) from (run_at runs k)
  next_whole low = record {
    after = low;
    on = λ within. behind;
    within = omega (arith, are.within k below, length-numbers_of count runs);
    gap = λ i high less. at_run i high (omega (arith, less)) ∙ before_run (run_at runs k) i less;
    kept = λ n less.
        at_run ((run_at runs k).first + n) (omega (arith, low)) (omega (arith, less))
        ∙ (in_run (run_at runs k) ((run_at runs k).first + n) (omega arith) ∙ ap (λ (m : ℕ). Some m) (omega arith));
    none = λ empty. absurd (omega (arith, empty, are.some k below));
  }

  -- the place is in the run
  pub next_part : (run : Run) → (run_at runs k).first ≤ from → run.first ≡ from → run.to ≡ (run_at runs k).to + (from - (run_at runs k).first) → run.count ≡ (run_at runs k).count - (from - (run_at runs k).first) → IsNextRun (numbers_of count runs) from run
  next_part run high first to rest = record {
    after = omega (arith, first);
    on = λ within. omega (arith, first, rest, behind, high);
    within = omega (arith, first, rest, behind, high, are.within k below, length-numbers_of count runs);
    gap = λ i from_low less. absurd (omega (arith, first, from_low, less));
    kept = λ n less.
        at_run (run.first + n) (omega (arith, first)) (omega (arith, first, rest, less, high, behind))
        ∙ (in_run (run_at runs k) (run.first + n) (omega (arith, first, high)) ∙ ap (λ (m : ℕ). Some m) (omega (arith, first, to, high)));
    none = λ empty. absurd (omega (arith, empty, rest, high, behind));
  }

-- ---- runs that are made

-- the runs of the numbers before a place, where no number goes on with the last run
pub record AreRunsOf (numbers : List (Option ℕ)) (place : ℕ) (runs : List Run) : Type 0 where
  pub within : place ≤ length numbers
  pub runs' : AreRuns place runs
  pub same : (i : ℕ) → i < place → number_in runs i ≡ number_at numbers i
  pub kept : sum_by (λ run. run.count) runs ≡ count_by is_some (take place numbers)
  pub longest : length runs ≡ count_by (begins_run numbers) (range_with_len 0 place)
  pub fresh : (i : ℕ) → place ≡ i + 1 → follows (number_at numbers i) (number_at numbers place) ≡ false

pub runs_none : (numbers : List (Option ℕ)) → AreRunsOf numbers 0 []
runs_none numbers = record {
  within = omega arith;
  runs' = record { apart = λ k m before below. absurd (omega (arith, below)); some = λ k below. absurd (omega (arith, below)); within = λ k below. absurd (omega (arith, below)); fits = λ k below. absurd (omega (arith, below)) };
  same = λ i below. absurd (omega (arith, below));
  kept = refl;
  longest = refl;
  fresh = λ i is. absurd (omega (arith, is));
}

range_more : (n : ℕ) → range_with_len 0 (n + 1) ≡ range_with_len 0 n ++ n ∷ []
range_more n = sym (map-id (range_with_len 0 (n + 1))) ∙ (map-range_with_len_more (λ (x : ℕ). x) 0 n n (omega arith) ∙ ap (λ (them : List ℕ). them ++ n ∷ []) (map-id (range_with_len 0 n)))

count_more : (p : ℕ → Bool) (n : ℕ) → count_by p (range_with_len 0 (n + 1)) ≡ count_by p (range_with_len 0 n) + cond (p n) 1 0
count_more p n = ap (count_by p) (range_more n) ∙ sum_by_push (λ (x : ℕ). cond (p x) 1 0) (range_with_len 0 n) n

begins_none : (numbers : List (Option ℕ)) (p : ℕ) → number_at numbers p ≡ None → begins_run numbers p ≡ false
begins_none numbers zero is = ap is_some is
begins_none numbers (suc i) is = ap (λ (o : Option ℕ). is_some o && not (follows (number_at numbers i) o)) is

begins_first : (numbers : List (Option ℕ)) (p to : ℕ) → number_at numbers p ≡ Some to → ((i : ℕ) → p ≡ i + 1 → follows (number_at numbers i) (number_at numbers p) ≡ false) → begins_run numbers p ≡ true
begins_first numbers zero to is fresh = ap is_some is
begins_first numbers (suc i) to is fresh =
    ap (λ (b : Bool). is_some (number_at numbers (suc i)) && not b) (fresh i (omega arith)) ∙ ap (λ (o : Option ℕ). is_some o && true) is

follows_next : (number other : Option ℕ) (n : ℕ) → number ≡ Some n → other ≡ Some (n + 1) → follows number other ≡ true
follows_next number other n is next = ap (λ (o : Option ℕ). follows o other) is ∙ (ap (follows (Some n)) next ∙ eq-eqb (n + 1) (n + 1) refl)

follows_not : (number other : Option ℕ) (n : ℕ) → number ≡ Some n → other ≢ Some (n + 1) → follows number other ≡ false
follows_not number None n is apart = ap (λ (o : Option ℕ). follows o None) is
follows_not number (Some m) n is apart = ap (λ (o : Option ℕ). follows o (Some m)) is ∙ ne_eqb m (n + 1) (λ same. apart (ap (λ (k : ℕ). Some k) same))

begins_not : (numbers : List (Option ℕ)) (p n : ℕ) → number_at numbers p ≡ Some n → number_at numbers (suc p) ≡ Some (n + 1) → begins_run numbers (suc p) ≡ false
begins_not numbers p n is next =
    ap (λ (b : Bool). is_some (number_at numbers (suc p)) && not b) (follows_next (number_at numbers p) (number_at numbers (suc p)) n is next)
    ∙ ap (λ (o : Option ℕ). is_some o && false) next

-- a place with no number
pub runs_gap : (numbers : List (Option ℕ)) (place : ℕ) (runs : List Run) → AreRunsOf numbers place runs → place < length numbers → number_at numbers place ≡ None → AreRunsOf numbers (place + 1) runs
runs_gap numbers place runs so_far below is = record {
  within = omega arith;
  runs' = record { apart = so_far.runs'.apart; some = so_far.runs'.some; within = λ k low. omega (arith, so_far.runs'.within k low); fits = so_far.runs'.fits };
  same = λ i low.
      ⊎_elim (λ (less : i < place). so_far.same i less)
      (λ (high : place ≤ i).
      number_in_past runs i (λ m within. omega (arith, so_far.runs'.within m within, high)) ∙ sym (ap (number_at numbers) (the_place i low high) ∙ is))
      (cases_lt i place);
  kept = so_far.kept ∙ sym (count_by_more_no is_some numbers place None below (ap is_some is));
  longest = so_far.longest ∙ sym (count_more (begins_run numbers) place ∙ (ap (λ (b : Bool). count_by (begins_run numbers) (range_with_len 0 place) + cond b 1 0) (begins_none numbers place is) ∙ omega arith));
  fresh = λ i same. ap (λ (n : ℕ). follows (number_at numbers n) (number_at numbers (place + 1))) (the_last i same) ∙ ap (λ (o : Option ℕ). follows o (number_at numbers (place + 1))) is;
}
  where
    the_place : (i : ℕ) → i < place + 1 → place ≤ i → i ≡ place
    the_place i low high = omega arith

    the_last : (i : ℕ) → place + 1 ≡ i + 1 → i ≡ place
    the_last i same = omega arith

-- numbers that follow one another, from a place on
module _ (numbers : List (Option ℕ)) (place to : ℕ) where
  kept_more : (n : ℕ) → ((k : ℕ) → k < n → number_at numbers (place + k) ≡ Some (to + k)) → place + n ≤ length numbers → count_by is_some (take (place + n) numbers) ≡ count_by is_some (take place numbers) + n
  kept_more zero kept within =
      let here : place + zero ≡ place = omega arith in
      let none : count_by is_some (take place numbers) ≡ count_by is_some (take place numbers) + zero = omega arith in
      ap (λ (m : ℕ). count_by is_some (take m numbers)) here ∙ none
  kept_more (suc n) kept within =
      let so_far = kept_more n (λ k low. kept k (omega (arith, low))) (omega (arith, within)) in
      ap (λ (m : ℕ). count_by is_some (take m numbers)) (next_place n)
      ∙ (count_by_more_yes is_some numbers (place + n) None (omega (arith, within)) (ap is_some (kept n (omega arith))) ∙ omega (arith, so_far))
    where
      next_place : (n : ℕ) → place + suc n ≡ place + n + 1
      next_place n = omega arith

  begins_more : (n : ℕ) → ((k : ℕ) → k < suc n → number_at numbers (place + k) ≡ Some (to + k)) → begins_run numbers place ≡ true → count_by (begins_run numbers) (range_with_len 0 (place + suc n)) ≡ count_by (begins_run numbers) (range_with_len 0 place) + 1
  begins_more zero kept begins =
      ap (λ (m : ℕ). count_by (begins_run numbers) (range_with_len 0 m)) one
      ∙ (count_more (begins_run numbers) place ∙ ap (λ (b : Bool). count_by (begins_run numbers) (range_with_len 0 place) + cond b 1 0) begins)
    where
      one : place + suc zero ≡ place + 1
      one = omega arith
  begins_more (suc n) kept begins =
      let so_far = begins_more n (λ k low. kept k (omega (arith, low))) begins in
      let goes_on : begins_run numbers (suc (place + n)) ≡ false = begins_not numbers (place + n) (to + n) (kept n (omega arith))
      (ap (number_at numbers) (moved n) ∙ (kept (suc n) (omega arith) ∙ ap (λ (m : ℕ). Some m) (moved_on n))) in
      ap (λ (m : ℕ). count_by (begins_run numbers) (range_with_len 0 m)) (next_place n)
      ∙ (count_more (begins_run numbers) (suc (place + n)) ∙ (ap (λ (b : Bool). count_by (begins_run numbers) (range_with_len 0 (suc (place + n))) + cond b 1 0) goes_on
      ∙ (plus_none (count_by (begins_run numbers) (range_with_len 0 (suc (place + n)))) ∙ (ap (λ (m : ℕ). count_by (begins_run numbers) (range_with_len 0 m)) (moved n) ∙ so_far))))
    where
      next_place : (n : ℕ) → place + suc (suc n) ≡ suc (place + n) + 1
      next_place n = omega arith

      moved : (n : ℕ) → suc (place + n) ≡ place + suc n
      moved n = omega arith

      moved_on : (n : ℕ) → to + suc n ≡ to + n + 1
      moved_on n = omega arith

      plus_none : (n : ℕ) → n + 0 ≡ n
      plus_none n = omega arith

-- one run more
module _ (numbers : List (Option ℕ)) (place : ℕ) (runs : List Run) (so_far : AreRunsOf numbers place runs) (to end : ℕ) (after : place < end) (all : end ≤ length numbers)
    (kept : (k : ℕ) → place + k < end → number_at numbers (place + k) ≡ Some (to + k)) (ends : number_at numbers end ≢ Some (to + (end - place))) (fits : to + (end - place) ≤ 2 ^ 32) where
  abbrev run : Run
  run = record { first = place; to = to; count = end - place }

  old_run : (k : ℕ) → k < length runs → run_at (runs ++ run ∷ []) k ≡ run_at runs k
  old_run k below = get_or_append_left runs (run ∷ []) no_run k below

  new_run : (k : ℕ) → k ≡ length runs → run_at (runs ++ run ∷ []) k ≡ run
  new_run k is = get_or_push runs run no_run k (sym is)

  each : (P : Run → Type 0) → ((k : ℕ) → k < length runs → P (run_at runs k)) → P run → (k : ℕ) → k < length (runs ++ run ∷ []) → P (run_at (runs ++ run ∷ []) k)
  each P old new k below =
      ⊎_elim (λ (less : k < length runs). rw (old_run k less) (old k less)) (λ (high : length runs ≤ k). rw (new_run k (omega (arith, high, below, length_push runs run))) new) (cases_lt k (length runs))

  pub runs_more : AreRunsOf numbers end (runs ++ run ∷ [])
  runs_more = record {
    within = all;
    runs' = record {
      apart = λ k m before below.
          ⊎_elim (λ (less : m < length runs). rw (old_run k (omega arith), old_run m less) (so_far.runs'.apart k m before less))
          (λ (high : length runs ≤ m). rw (old_run k (omega (arith, before, below, high, length_push runs run)), new_run m (omega (arith, high, below, length_push runs run))) (so_far.runs'.within k (omega (arith, before, below, high, length_push runs run))))
          (cases_lt m (length runs));
      some = each (λ run. 1 ≤ run.count) so_far.runs'.some (omega arith);
      within = each (λ run. end_of run ≤ end) (λ k below. omega (arith, so_far.runs'.within k below)) (omega arith);
      fits = each (λ run. run.to + run.count ≤ 2 ^ 32) so_far.runs'.fits fits;
    };
    same = λ i low.
        ⊎_elim (λ (less : i < place). number_in_push runs run i less ∙ so_far.same i less)
        (λ (high : place ≤ i).
        number_in_new runs run i (λ m below. omega (arith, so_far.runs'.within m below, high)) high (omega (arith, low))
        ∙ sym (ap (number_at numbers) (there i high) ∙ kept (i - place) (omega (arith, low, high))))
        (cases_lt i place);
    kept =
        sum_by_push (λ (run : Run). run.count) runs run
        ∙ (ap (λ (n : ℕ). n + (end - place)) so_far.kept
        ∙ sym (ap (λ (n : ℕ). count_by is_some (take n numbers)) whole ∙ kept_more numbers place to (end - place) (λ k low. kept k (omega (arith, low))) (omega arith)));
    longest =
        length_push runs run
        ∙ (ap (λ (n : ℕ). n + 1) so_far.longest
        ∙ sym (ap (λ (n : ℕ). count_by (begins_run numbers) (range_with_len 0 n)) from_last
        ∙ begins_more numbers place to (end - place - 1) (λ k low. kept k (omega (arith, low))) (begins_first numbers place to first so_far.fresh)));
    fresh = λ i is.
        follows_not (number_at numbers i) (number_at numbers end) (to + (i - place))
        (ap (number_at numbers) (there i (omega (arith, is))) ∙ kept (i - place) (omega (arith, is)))
        (λ goes_on. ends (goes_on ∙ ap (λ (n : ℕ). Some n) (last i is)));
  }
    where
      there : (i : ℕ) → place ≤ i → i ≡ place + (i - place)
      there i high = omega arith

      whole : end ≡ place + (end - place)
      whole = omega arith

      from_last : end ≡ place + suc (end - place - 1)
      from_last = omega arith

      first : number_at numbers place ≡ Some to
      first =
          let none : place ≡ place + 0 = omega arith in
          let same : to + 0 ≡ to = omega arith in
          ap (number_at numbers) none ∙ (kept 0 (omega arith) ∙ ap (λ (n : ℕ). Some n) same)

      last : (i : ℕ) → end ≡ i + 1 → to + (i - place) + 1 ≡ to + (end - place)
      last i is = omega arith

-- the runs of all numbers
pub runs_all : (numbers : List (Option ℕ)) (place : ℕ) (runs : List Run) → AreRunsOf numbers place runs → length numbers ≤ place → numbers_of (length numbers) runs ≡ numbers
runs_all numbers place runs so_far all =
    same_lists (numbers_of (length numbers) runs) numbers (length-numbers_of (length numbers) runs) (λ k d below.
    let within : k < length numbers = omega (arith, below, length-numbers_of (length numbers) runs) in
    get_or-map-range_with_len (number_in runs) 0 (length numbers) k k d within (omega arith) ∙ (so_far.same k (omega arith) ∙ get_or_default numbers k None d within))

-- the places without a number are the others
pub others_count : (numbers : List (Option ℕ)) → count_by (λ number. not (is_some number)) numbers ≡ length numbers - count_by is_some numbers
others_count numbers =
    let both = length-filter_both is_some (λ number. not (is_some number)) (λ x. refl) numbers in
    omega (arith, both, length-filter is_some numbers, length-filter (λ number. not (is_some number)) numbers)

-- the numbers of a run are below what all are below
pub run_below : (numbers : List (Option ℕ)) (from count : ℕ) (run : Run) → IsNextRun numbers from run → AreBelow numbers count → run.to + run.count ≤ count
run_below numbers from count run next below = by run.count refl
  where
    by : (n : ℕ) → run.count ≡ n → run.to + run.count ≤ count
    by zero none = omega (arith, none, next.none none)
    by (suc n) some = omega (arith, some, below (run.first + n) (run.to + n) (next.kept n (omega (arith, some))))
