-- Lemmas on a piece of a line that is taken at once.
use Rattle.std.proofs.Common.{◌≡◌, ℕ, ◌+◌, ◌-◌, ◌<◌, ◌≤◌, Bool, true, false, List, [], ◌∷◌, ◌++◌, length, get_or, take, drop, min, refl, ap, sym, ◌∙◌, arith, suc, inl, inr, ◌⊎◌, slice_range, append_assoc, append-nil, length-append, length-drop, subst}
use mir.Val.{bool_byte}
use Rattle.std.specs.Prelude.{Option, Some, not, if◌then◌else◌, nat_lt, ◌||◌, ◌==◌}
use Rattle.std.specs.Io.KnownBytes.{Keeps, prepend_known}
use Rattle.std.specs.List.{position_or_len}
use Rattle.std.specs.Str.Lines.{strip_carriage_return}
use Rattle.std.proofs.Math.Seq.{drop-cons, take-append-add}
use Rattle.std.proofs.lemmas.Bool.{eqb-true, le-ltb, lt-ltb, ltb-false, ltb-true}
use Rattle.std.proofs.lemmas.List.{drop-drop, drop-take, get_or-drop, get_or-take, length-take, take-append-drop, take-append-le, take-take, take_all, take_min}
use Rattle.std.proofs.lemmas.List.Elements.{All-append}
use Rattle.std.proofs.lemmas.List.Sums.{fails_before_first, passes_at_first, position_or_len_is, prefix_len-le-length}
use Rattle.st_devices.specs.Lines.{is_lf}
use Rattle.st_devices.specs.Pending.{NoLf, OnReading, TakesFound, TakesPiece, TakesSome}
use Rattle.st_devices.specs.declared.input.Found.{Found}
use Rattle.st_devices.specs.declared.input.Found.TheVariants as findings
use Rattle.st_devices.specs.declared.input.Piece.{Piece}
use Rattle.st_devices.proofs.LineLemmas.{LineSoFar, is_not_empty, line_ended}
use Rattle.st_devices.proofs.TakingLemmas.{OnReading-then, takes_front}

-- a line that has room for so many bytes more
pub kept_front : (line bytes : List ℕ) → length line ≤ 4096 → take 4096 (line ++ bytes) ≡ line ++ take (min (length bytes) (4096 - length line)) bytes
kept_front line bytes short =
    let room : 4096 ≡ length line + (4096 - length line) = omega (arith, short) in
    ap (λ n. take n (line ++ bytes)) room ∙ take-append-add line bytes (4096 - length line) ∙ ap (λ xs. line ++ xs) (sym (take_min (4096 - length line) bytes) ∙ ap (λ n. take n bytes) (omega arith))

-- what stands before the first LF has none
NoLf-before : (bytes : List ℕ) → NoLf (take (position_or_len is_lf bytes) bytes)
NoLf-before bytes = λ k d within.
    let before : k < position_or_len is_lf bytes = omega (arith, within, length-take (position_or_len is_lf bytes) bytes) in
    ap is_lf (get_or-take (position_or_len is_lf bytes) bytes k d before) ∙ fails_before_first is_lf bytes k d before

-- ---- the first LF, behind bytes that have none

-- n bytes more have none
pub none_behind : (bytes : List ℕ) (at n : ℕ) → ((k : ℕ) → k < at → is_lf (get_or bytes k 0) ≡ false) → ((k : ℕ) → at ≤ k → k < at + n → is_lf (get_or bytes k 0) ≡ false)
    → (k : ℕ) → k < at + n → is_lf (get_or bytes k 0) ≡ false
none_behind bytes at n none more = λ k below. none_at bytes at n none more k below (before_or_behind k at)
  where
    before_or_behind : (k at : ℕ) → (k < at) ⊎ (at ≤ k)
    before_or_behind k at = grind arith

    none_at : (bytes : List ℕ) (at n : ℕ) → ((k : ℕ) → k < at → is_lf (get_or bytes k 0) ≡ false) → ((k : ℕ) → at ≤ k → k < at + n → is_lf (get_or bytes k 0) ≡ false)
        → (k : ℕ) → k < at + n → (k < at) ⊎ (at ≤ k) → is_lf (get_or bytes k 0) ≡ false
    none_at bytes at n none more k below (inl before) = none k before
    none_at bytes at n none more k below (inr behind) = more k behind below

fails_behind : (bytes : List ℕ) (at n : ℕ) → n ≡ position_or_len is_lf (drop at bytes) → (k : ℕ) → at ≤ k → k < at + n → is_lf (get_or bytes k 0) ≡ false
fails_behind bytes at n first k behind below =
    let same : at + (k - at) ≡ k = omega (arith, behind) in
    ap is_lf (ap (λ m. get_or bytes m 0) (sym same) ∙ sym (get_or-drop at bytes (k - at) 0)) ∙ fails_before_first is_lf (drop at bytes) (k - at) 0 (omega (arith, first, behind, below))

-- the first is the first of the others
pub first_behind : (bytes : List ℕ) (at n : ℕ) → at ≤ length bytes → ((k : ℕ) → k < at → is_lf (get_or bytes k 0) ≡ false)
    → n ≡ position_or_len is_lf (take (length bytes - at) (drop at bytes)) → at + n ≡ position_or_len is_lf bytes
first_behind bytes at n within none counted =
    let rest = drop at bytes in
    let size : length rest ≡ length bytes - at = length-drop at bytes in
    let whole : take (length bytes - at) rest ≡ rest = take_all (length bytes - at) rest (omega (arith, size)) in
    let first : n ≡ position_or_len is_lf rest = counted ∙ ap (position_or_len is_lf) whole in
    let most : n ≤ length rest = rw first (prefix_len-le-length (λ byte. not (is_lf byte)) rest) in
    sym (position_or_len_is is_lf bytes (at + n) 0 (omega (arith, within, size, most))
    (none_behind bytes at n none (fails_behind bytes at n first))
    (λ inside. ap is_lf (sym (get_or-drop at bytes n 0) ∙ ap (λ m. get_or rest m 0) first) ∙ passes_at_first is_lf rest 0 (omega (arith, first, inside, size))))

range_take : (bytes : List ℕ) (at end n : ℕ) → n ≤ end - at → take n (slice_range bytes at end) ≡ slice_range bytes at (at + n)
range_take bytes at end n within =
    let size : n ≡ (at + n) - at = omega arith in
    take-take n (end - at) (drop at bytes) within ∙ ap (λ m. take m (drop at bytes)) size

range_drop : (bytes : List ℕ) (at end n : ℕ) → n ≤ end - at → drop n (slice_range bytes at end) ≡ slice_range bytes (at + n) end
range_drop bytes at end n within =
    let size : end - at ≡ n + (end - (at + n)) = omega (arith, within) in
    ap (λ m. drop n (take m (drop at bytes))) size ∙ drop-take n (end - (at + n)) (drop at bytes) ∙ ap (λ xs. take (end - (at + n)) xs) (drop-drop n at bytes)

length-range : (bytes : List ℕ) (at end : ℕ) → end ≤ length bytes → length (slice_range bytes at end) ≡ end - at
length-range bytes at end within = omega (arith, within, length-take (end - at) (drop at bytes), length-drop at bytes)

-- the piece before the first LF, with the LF where it is ended, and what is left
abbrev front_of : Bool → List ℕ → List ℕ
front_of is_ended part = part ++ (if is_ended then 10 ∷ [] else [])

split_at_lf : (bytes : List ℕ) (at end count : ℕ) (is_ended : Bool) → end ≤ length bytes → at ≤ end → count ≡ position_or_len is_lf (slice_range bytes at end) → count ≤ end - at → is_ended ≡ nat_lt (at + count) end
    → slice_range bytes at end ≡ front_of is_ended (slice_range bytes at (at + count)) ++ slice_range bytes (at + count + (if is_ended then 1 else 0)) end
split_at_lf bytes at end count true within ordered first most ended =
    let unread = slice_range bytes at end in
    let size : length unread ≡ end - at = length-range bytes at end within in
    let some : at + count < end = ltb-true (at + count) end (sym ended) in
    let inside : count < length unread = omega (arith, size, some) in
    let lf : get_or unread count 0 ≡ 10 = eqb-true (get_or unread count 0) 10 (ap (λ n. is_lf (get_or unread n 0)) first ∙ passes_at_first is_lf unread 0 (rw (← first) inside)) in
    let next : suc count ≡ count + 1 = omega arith in
    let rest : drop count unread ≡ 10 ∷ slice_range bytes (at + count + 1) end =
    drop-cons unread count 0 inside ∙ ap (λ n. n ∷ drop (suc count) unread) lf
    ∙ ap (λ xs. 10 ∷ xs) (ap (λ n. drop n unread) next ∙ range_drop bytes at end (count + 1) (omega (arith, some)) ∙ ap (λ n. slice_range bytes n end) (omega arith)) in
    sym (take-append-drop count unread) ∙ ap (λ xs. xs ++ drop count unread) (range_take bytes at end count most) ∙ ap (λ xs. slice_range bytes at (at + count) ++ xs) rest
    ∙ sym (append_assoc (slice_range bytes at (at + count)) (10 ∷ []) (slice_range bytes (at + count + 1) end))
split_at_lf bytes at end count false within ordered first most ended =
    let unread = slice_range bytes at end in
    sym (take-append-drop count unread) ∙ ap (λ xs. xs ++ drop count unread) (range_take bytes at end count most)
    ∙ ap (λ xs. slice_range bytes at (at + count) ++ xs) (range_drop bytes at end count most ∙ ap (λ n. slice_range bytes n end) (omega arith))
    ∙ ap (λ xs. xs ++ slice_range bytes (at + count + 0) end) (sym (append-nil (slice_range bytes at (at + count))))

-- the bytes of a front are those of a piece, and of its LF
front_split : (is_ended : Bool) (part bytes more : List ℕ) → bytes ≡ front_of is_ended part ++ more → bytes ≡ part ++ (if is_ended then 10 ∷ more else more)
front_split true part bytes more split = split ∙ append_assoc part (10 ∷ []) more
front_split false part bytes more split = split ∙ ap (λ xs. xs ++ more) (append-nil part)

pub bool_step : (is_ended : Bool) → bool_byte is_ended ≡ (if is_ended then 1 else 0)
bool_step true = refl
bool_step false = refl

-- where no LF was taken, something else was
some_taken : (is_ended : Bool) (at end count : ℕ) → at < end → count ≤ end - at → is_ended ≡ nat_lt (at + count) end → is_ended ≡ false → 0 < count
some_taken is_ended at end count some most ended goes_on =
    let last : end ≤ at + count = ltb-false (at + count) end (sym ended ∙ goes_on) in
    omega (arith, last, some)

-- a piece is taken, where what is pending was kept
pub takes_piece : (buffer : List ℕ) (at end count step : ℕ) (at_end is_ended is_cut : Bool) (before now : List ℕ) (old rest : Option (List ℕ)) → at < end → end ≤ length buffer
    → count ≡ position_or_len is_lf (slice_range buffer at end) → count ≤ length (slice_range buffer at end) → is_ended ≡ nat_lt (at + count) end → step ≡ (if is_ended then 1 else 0)
    → now ≡ take 4096 (before ++ slice_range buffer at (at + count)) → is_cut ≡ nat_lt 4096 (length before + length (slice_range buffer at (at + count)))
    → Keeps old (if at_end then Some (slice_range buffer at end) else prepend_known (slice_range buffer at end) rest)
    → OnReading old (if at_end then Some (slice_range buffer (at + count + step) end) else prepend_known (slice_range buffer (at + count + step) end) rest) (TakesSome is_ended is_cut before now)
takes_piece buffer at end count step at_end is_ended is_cut before now old rest some within first inside ended stepped kept cut same =
    let most : count ≤ end - at = omega (arith, inside, length-range buffer at end within) in
    let part = slice_range buffer at (at + count) in
    let front = front_of is_ended part in
    let unread = slice_range buffer at end in
    let left = slice_range buffer (at + count + step) end in
    let part_length : length part ≡ count = omega (arith, length-range buffer at (at + count) (omega (arith, most, some, within))) in
    let now_left = if at_end then Some left else prepend_known left rest in
    OnReading-then old now_left (λ bytes more. bytes ≡ front ++ more) (TakesSome is_ended is_cut before now)
    (λ bytes more split. record {
      part = part;
      split = front_split is_ended part bytes more split;
      no_lf = rw (← range_take buffer at end count most, first) (NoLf-before unread);
      some = λ goes_on. rw part_length (some_taken is_ended at end count some most ended goes_on);
      kept = kept;
      cut = cut;
    })
    (takes_front front unread left at_end old rest (rw stepped (split_at_lf buffer at end count is_ended within (omega (arith, some)) first most ended)) same)

-- of a line that goes on only the first 4,096 bytes are kept
kept_on : (part more : List ℕ) → (length part ≤ 4096) ⊎ (4096 < length part) → take 4096 (take 4096 part ++ more) ≡ take 4096 (part ++ more)
kept_on part more (inl short) = ap (λ xs. take 4096 (xs ++ more)) (take_all 4096 part short)
kept_on part more (inr long) =
    let full : length (take 4096 part) ≡ 4096 = omega (arith, length-take 4096 part, long) in
    take-append-le 4096 (take 4096 part) more (omega (arith, full)) ∙ take-take 4096 4096 part (omega arith) ∙ sym (take-append-le 4096 part more (omega (arith, long)))

-- whether it is too long then
long_on : (part more : List ℕ) → (length part ≤ 4096) ⊎ (4096 < length part)
    → (nat_lt 4096 (length part) || nat_lt 4096 (length (take 4096 part) + length more)) ≡ nat_lt 4096 (length (part ++ more))
long_on part more (inl short) =
    let size = length-append part more in
    rw (le-ltb 4096 (length part) short, take_all 4096 part short, size) refl
long_on part more (inr long) =
    let longer : 4096 < length (part ++ more) = omega (arith, length-append part more, long) in
    rw (lt-ltb 4096 (length part) long, lt-ltb 4096 (length (part ++ more)) longer) refl

short_or_long : (part : List ℕ) → (length part ≤ 4096) ⊎ (4096 < length part)
short_or_long part = grind arith

-- a piece was taken behind the line so far
pub piece_taken : (is_empty is_long is_ended is_cut : Bool) (before now bytes mid rest : List ℕ) → (so : LineSoFar is_empty is_long before bytes mid) → (taken : TakesSome is_ended is_cut before now mid rest)
    → (is_none : Bool) → is_none ≡ (length (so.part ++ taken.part) == 0) → LineSoFar is_none (is_long || is_cut) now bytes (if is_ended then 10 ∷ rest else rest)
piece_taken is_empty is_long is_ended is_cut before now bytes mid rest so taken is_none none =
    let goes_on = if is_ended then 10 ∷ rest else rest in record {
      part = so.part ++ taken.part;
      split = so.split ∙ ap (λ xs. so.part ++ xs) taken.split ∙ sym (append_assoc so.part taken.part goes_on);
      no_lf = All-append (λ byte. is_lf byte ≡ false) so.part taken.part so.no_lf taken.no_lf;
      kept = taken.kept ∙ ap (λ xs. take 4096 (xs ++ taken.part)) so.kept ∙ kept_on so.part taken.part (short_or_long so.part);
      empty = none;
      long = rw (so.long, taken.cut, so.kept) (long_on so.part taken.part (short_or_long so.part));
    }

-- where it has no LF, the line goes on
pub piece_goes_on : (is_empty is_long is_ended is_cut : Bool) (before now bytes mid rest : List ℕ) → LineSoFar is_empty is_long before bytes mid → TakesSome is_ended is_cut before now mid rest
    → is_ended ≡ false → LineSoFar false (is_long || is_cut) now bytes rest
piece_goes_on is_empty is_long true is_cut before now bytes mid rest so taken goes_on = cc goes_on
piece_goes_on is_empty is_long false is_cut before now bytes mid rest so taken goes_on =
    piece_taken is_empty is_long false is_cut before now bytes mid rest so taken false (sym (is_not_empty (so.part ++ taken.part) (omega (arith, length-append so.part taken.part, taken.some refl))))

-- where it has, the line is ended
pub piece_ends : (is_empty is_long is_ended is_cut at_end : Bool) (before now bytes mid rest text : List ℕ) (found : Found) → LineSoFar is_empty is_long before bytes mid → TakesSome is_ended is_cut before now mid rest
    → is_ended ≡ true → ((is_long || is_cut) ≡ true → found ≡ findings.TooLong)
    → ((is_long || is_cut) ≡ false → (found ≡ findings.Line) × (text ≡ strip_carriage_return now))
    → TakesFound found at_end text bytes rest
piece_ends is_empty is_long false is_cut at_end before now bytes mid rest text found so taken ends long short = cc ends
piece_ends is_empty is_long true is_cut at_end before now bytes mid rest text found so taken ends long short =
    let is_none = length (so.part ++ taken.part) == 0 in
    line_ended is_none (is_long || is_cut) at_end now bytes (10 ∷ rest) rest text found (piece_taken is_empty is_long true is_cut before now bytes mid rest so taken is_none refl) refl long short

-- the same fact of an equal answer
pub TakesPiece-same : (o p : Option Piece) (a b : Option (List ℕ)) (before now : List ℕ) → OnReading a b (TakesPiece o before now) → o ≡ p → OnReading a b (TakesPiece p before now)
TakesPiece-same o p a b before now takes same = subst (λ (q : Option Piece). OnReading a b (TakesPiece q before now)) same takes
