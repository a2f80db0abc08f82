-- What stands behind a token is what is skipped to.
use Rattle.std.proofs.Common.{◌≡◌, ℕ, ◌+◌, ◌<◌, ◌≤◌, List, [], ◌∷◌, length, drop, refl, sym, ap, ◌∙◌, true, false, subst, arith, length-drop}
use Rattle.std.specs.Prelude.{Option, Some, None, option_map, option_and_then, slice_index, codes, ◌==◌, ◌&&◌, ℤ, if◌then◌else◌, is_some, nat_lt}
use Rattle.std.specs.Char.{is_ascii_digit}
use Rattle.std.specs.Int.{is_in_range}
use Rattle.std.proofs.lemmas.Bool.Decides.{nat_tests}
use Rattle.st_values.specs.declared.elem.Class.{Class}
use Rattle.st_values.specs.declared.elem.Class.TheVariants.{Boolean, Integer, BitString, Duration}
use Rattle.st_values.specs.Durations.{interval_read}
use Rattle.st_values.specs.Numbers.{capped, digits_read}
use Rattle.st_values.specs.Types.{class_of}
use Rattle.st_values.specs.Words.{after, begins_with, is_word, is_word_byte}
use Rattle.st_tokens.specs.declared.symbol.Symbol.{Symbol}
use Rattle.st_tokens.specs.declared.token.Kind.{Kind}
use Rattle.st_tokens.specs.Characters.{begins_word, line_end}
use Rattle.st_tokens.specs.Scanning.{after_run, base_of, boolean_at, comment_at, digits_at, double, duration_at, duration_found, has_fraction, interval_at, interval_prefix, interval_rest, is_clean, is_duration_word, literal_at, negative_found, number_at, number_found, positive_found, prefixed_at, run, signed_at, signed_interval_at, single, symbol_at, symbol_or, token_at, typed_at, typed_found, word_at}
use Rattle.st_tokens.proofs.Cases.{by_test, is_equal, not_both, some_parts}
use Rattle.st_tokens.proofs.Names.{begins_word_byte}
use Rattle.st_tokens.proofs.Numbers.{base_cases, begins, digits_parts}
use Rattle.st_messages.specs.Skips.{after_base, after_character, after_continued, after_comment, after_interval, after_literal, after_prefix, after_sign, after_symbol, after_token, after_word}

-- no `#` comes first
abbrev pub NoHash : List ℕ → Type 0
NoHash rest = (back : List ℕ) → rest ≡ 35 ∷ back → ⊥

no_hash : (rest : List ℕ) → NoHash rest → begins_with (codes "#") rest ≡ false
no_hash rest n = by_test (begins_with (codes "#") rest)
    (λ t. absurd (n (after (codes "#") rest) (begins (codes "#") rest t))) (λ t. t)

no_base : (rest : List ℕ) → NoHash rest → after_base rest ≡ rest
no_base rest n = let e = no_hash rest n in rw e refl

mapped : {A B : Type 0} (f : A → B) (o : Option A) (b : B) → option_map f o ≡ Some b → (a : A) × (o ≡ Some a) × (f a ≡ b)
mapped f None b h = absurd (cc)
mapped f (Some a) b h = (a, refl, let e : f a ≡ b = cc in e)

chained : {A B : Type 0} (f : A → Option B) (o : Option A) (b : B) → option_and_then f o ≡ Some b → (a : A) × (o ≡ Some a) × (f a ≡ Some b)
chained f None b h = absurd (cc)
chained f (Some a) b h = (a, refl, h)

-- ---- signs

-- bytes of a word have no sign before them
no_sign : (text : List ℕ) → (run text ≡ [] → ⊥) → after_sign text ≡ text
no_sign [] n = refl
no_sign (b ∷ bs) n = by_test (b == 45)
    (λ t. absurd (n (ap (λ (x : ℕ). run (x ∷ bs)) (is_equal b 45 t))))
    (λ t. by_test (b == 43)
    (λ u. absurd (n (ap (λ (x : ℕ). run (x ∷ bs)) (is_equal b 43 u))))
    (λ u. rw (t, u) refl))

digits_are_some : (base : ℕ) (text : List ℕ) (n : ℕ) → digits_read base (run text) ≡ Some n → run text ≡ [] → ⊥
digits_are_some base text n h e = let h' : digits_read base [] ≡ Some n = subst (λ zs. digits_read base zs ≡ Some n) e h in cc

-- ---- numbers

-- digits, and what stands behind them
record Digits (text rest : List ℕ) : Type 0 where
  some : run text ≡ [] → ⊥
  behind : after_run text ≡ rest

digits_behind : (base : ℕ) (text rest : List ℕ) (v : ℕ) → digits_at base text ≡ Some (v, rest) → Digits text rest
digits_behind base text rest v h = let p = digits_parts base text rest v h in
    record { some = digits_are_some base text p.0 p.1; behind = sym p.3 }

-- a number has digits alone, or a base before a `#` and digits behind it
record Based (text rest : List ℕ) : Type 0 where
  hash : begins_with (codes "#") (after_run text) ≡ true
  some : run text ≡ [] → ⊥
  no_duration : is_duration_word (run text) ≡ false
  digits : Digits (after (codes "#") (after_run text)) rest

base_is_some : (text : List ℕ) (base : ℕ) → base_of (run text) ≡ Some base → run text ≡ [] → ⊥
base_is_some text base h e = let h' : base_of [] ≡ Some base = subst (λ zs. base_of zs ≡ Some base) e h in cc

data IsNumber (text rest : List ℕ) : Type 0 where
  based : Based text rest → IsNumber text rest
  plain : begins_with (codes "#") (after_run text) ≡ false → Digits text rest → IsNumber text rest

number_behind : (text rest : List ℕ) (v : ℕ) → number_at text ≡ Some (v, rest) → IsNumber text rest
unfolding number_at
number_behind text rest v h = by_test (begins_with (codes "#") (after_run text))
    (λ t. let h' : option_and_then (λ base. digits_at base (after (codes "#") (after_run text))) (base_of (run text)) ≡ Some (v, rest) = rw t at h in
    let w = chained (λ base. digits_at base (after (codes "#") (after_run text))) (base_of (run text)) (v, rest) h' in
    based (record {
      hash = t;
      some = base_is_some text w.0 w.1;
      no_duration = base_cases (λ m zs. is_duration_word zs ≡ false) (run text) w.0 w.1 refl refl refl;
      digits = digits_behind w.0 (after (codes "#") (after_run text)) rest v w.2;
    }))
    (λ t. let h' : digits_at 10 text ≡ Some (v, rest) = rw t at h in plain t (digits_behind 10 text rest v h'))

-- digits alone, as a literal
digits_literal : (text rest : List ℕ) → NoHash rest → after_run (after_sign text) ≡ rest → after_literal text ≡ rest
digits_literal text rest n e = ap after_base e ∙ no_base rest n

number_literal : (text rest : List ℕ) → NoHash rest → IsNumber text rest → after_literal text ≡ rest
number_literal text rest n (based b) =
    let h = b.hash in
    let e : after_literal text ≡ after_base (after_run text) = ap (λ (zs : List ℕ). after_base (after_run zs)) (no_sign text b.some) in
    let f : after_base (after_run text) ≡ after_run (after (codes "#") (after_run text)) = rw h refl in
    e ∙ f ∙ b.digits.behind
number_literal text rest n (plain h d) = digits_literal text rest n (ap after_run (no_sign text d.some) ∙ d.behind)

-- a number as a token
number_word : (text rest : List ℕ) → NoHash rest → IsNumber text rest → after_word text ≡ rest
number_word text rest n (based b) =
    let h = b.hash in let k = b.no_duration in
    let e : after_word text ≡ after_literal (after (codes "#") (after_run text)) = rw (h, k) refl in
    e ∙ digits_literal (after (codes "#") (after_run text)) rest n
    (ap after_run (no_sign (after (codes "#") (after_run text)) b.digits.some) ∙ b.digits.behind)
number_word text rest n (plain h d) = (let e : after_word text ≡ after_run text = rw h refl in e) ∙ d.behind

-- ---- typed literals

signed_literal : (text rest : List ℕ) (v : ℤ) → NoHash rest → signed_at text ≡ Some (v, rest) → after_literal text ≡ rest
unfolding signed_at
signed_literal text rest v n h = by_test (slice_index text 0 == 45)
    (λ t. let h' : option_map negative_found (digits_at 10 (drop 1 text)) ≡ Some (v, rest) = rw t at h in
    let w = mapped negative_found (digits_at 10 (drop 1 text)) (v, rest) h' in
    let d = digits_behind 10 (drop 1 text) w.0.1 w.0.0 w.1 in
    let s : after_sign text ≡ drop 1 text = rw t refl in
    digits_literal text rest n (ap after_run s ∙ d.behind ∙ ap (λ (p : ℤ × List ℕ). p.1) w.2))
    (λ t. by_test (slice_index text 0 == 43)
    (λ u. let h' : option_map positive_found (digits_at 10 (drop 1 text)) ≡ Some (v, rest) = rw (t, u) at h in
    let w = mapped positive_found (digits_at 10 (drop 1 text)) (v, rest) h' in
    let d = digits_behind 10 (drop 1 text) w.0.1 w.0.0 w.1 in
    let s : after_sign text ≡ drop 1 text = rw (t, u) refl in
    digits_literal text rest n (ap after_run s ∙ d.behind ∙ ap (λ (p : ℤ × List ℕ). p.1) w.2))
    (λ u. let h' : option_map positive_found (number_at text) ≡ Some (v, rest) = rw (t, u) at h in
    let w = mapped positive_found (number_at text) (v, rest) h' in
    let same : w.0.1 ≡ rest = ap (λ (p : ℤ × List ℕ). p.1) w.2 in
    number_literal text rest n (subst (IsNumber text) same (number_behind text w.0.1 w.0.0 w.1))))

-- TRUE or FALSE
truth_literal : (word text rest : List ℕ) → NoHash rest → is_word word [] ≡ false → is_word word (run text) ≡ true → after_run text ≡ rest → after_literal text ≡ rest
truth_literal word text rest n none t e =
    digits_literal text rest n (ap after_run (no_sign text (λ f. not_both (subst (λ zs. is_word word zs ≡ true) f t) none)) ∙ e)

boolean_literal : (text rest : List ℕ) (v : ℤ) → NoHash rest → boolean_at text ≡ Some (v, rest) → after_literal text ≡ rest
unfolding boolean_at
boolean_literal text rest v n h = by_test (is_word (codes "TRUE") (run text))
    (λ t. let h' = rw t at h in truth_literal (codes "TRUE") text rest n refl t (some_parts h').1)
    (λ t. by_test (is_word (codes "FALSE") (run text))
    (λ u. let h' = rw (t, u) at h in truth_literal (codes "FALSE") text rest n refl u (some_parts h').1)
    (λ u. let h' : signed_at text ≡ Some (v, rest) = rw (t, u) at h in signed_literal text rest v n h'))

literal_behind : (class : Class) (text rest : List ℕ) (v : ℤ) → NoHash rest → literal_at class text ≡ Some (v, rest) → after_literal text ≡ rest
unfolding literal_at
literal_behind Boolean text rest v n h = boolean_literal text rest v n h
literal_behind Integer text rest v n h = signed_literal text rest v n h
literal_behind BitString text rest v n h = signed_literal text rest v n h
literal_behind Duration text rest v n h = absurd (cc)

typed_behind : (w text rest : List ℕ) (kind : Kind) → NoHash rest → typed_at w text ≡ Some (kind, rest) → after_literal text ≡ rest
unfolding typed_at
typed_behind w text rest kind n h =
    let e = chained (λ elem. option_map (typed_found elem) (literal_at (class_of elem) text)) _ (kind, rest) h in
    let m = mapped (typed_found e.0) (literal_at (class_of e.0) text) (kind, rest) e.2 in
    let same : m.0.1 ≡ rest = ap (λ (p : Kind × List ℕ). p.1) m.2 in
    subst (λ zs. after_literal text ≡ zs) same (literal_behind (class_of e.0) text m.0.1 m.0.0 (subst NoHash (sym same) n) m.1)

-- ---- durations

interval_behind : (text rest : List ℕ) (v : ℕ) → interval_at text ≡ Some (v, rest) → interval_rest text ≡ rest
unfolding interval_at
interval_behind text rest v h =
    let m = mapped (λ (n : ℕ). (capped n, interval_rest text)) (interval_read (interval_prefix text)) (v, rest) h in
    ap (λ (p : ℕ × List ℕ). p.1) m.2

-- no duration has a `+`
no_plus : (bs rest : List ℕ) (v : ℕ) → interval_at (43 ∷ bs) ≡ Some (v, rest) → ⊥
unfolding interval_at interval_read
no_plus bs rest v h = cc

unsigned_interval : (text rest : List ℕ) (v : ℕ) → (slice_index text 0 == 45) ≡ false → interval_at text ≡ Some (v, rest) → after_interval text ≡ rest
unsigned_interval [] rest v t h = interval_behind [] rest v h
unsigned_interval (b ∷ bs) rest v t h = by_test (b == 43)
    (λ u. absurd (no_plus bs rest v (subst (λ x. interval_at (x ∷ bs) ≡ Some (v, rest)) (is_equal b 43 u) h)))
    (λ u. (let e : after_interval (b ∷ bs) ≡ interval_rest (b ∷ bs) = rw (t, u) refl in e) ∙ interval_behind (b ∷ bs) rest v h)

signed_interval_behind : (text rest : List ℕ) (v : ℤ) → signed_interval_at text ≡ Some (v, rest) → after_interval text ≡ rest
unfolding signed_interval_at
signed_interval_behind text rest v h = by_test (slice_index text 0 == 45)
    (λ t. let h' : option_map negative_found (interval_at (drop 1 text)) ≡ Some (v, rest) = rw t at h in
    let m = mapped negative_found (interval_at (drop 1 text)) (v, rest) h' in
    let e : after_interval text ≡ interval_rest (drop 1 text) = rw t refl in
    e ∙ interval_behind (drop 1 text) m.0.1 m.0.0 m.1 ∙ ap (λ (p : ℤ × List ℕ). p.1) m.2)
    (λ t. let h' : option_map positive_found (interval_at text) ≡ Some (v, rest) = rw t at h in
    let m = mapped positive_found (interval_at text) (v, rest) h' in
    unsigned_interval text m.0.1 m.0.0 t m.1 ∙ ap (λ (p : ℤ × List ℕ). p.1) m.2)

duration_behind : (text rest : List ℕ) (kind : Kind) → duration_at text ≡ Some (kind, rest) → after_interval text ≡ rest
unfolding duration_at
duration_behind text rest kind h =
    let m = mapped duration_found (signed_interval_at text) (kind, rest) h in
    signed_interval_behind text m.0.1 m.0.0 m.1 ∙ ap (λ (p : Kind × List ℕ). p.1) m.2

-- ---- words

prefixed_behind : (w text rest : List ℕ) (kind : Kind) → NoHash rest → prefixed_at w text ≡ Some (kind, rest) → after_prefix w text ≡ rest
unfolding prefixed_at
prefixed_behind w text rest kind n h = by_test (is_duration_word w)
    (λ t. let h' : duration_at text ≡ Some (kind, rest) = rw t at h in
    (let e : after_prefix w text ≡ after_interval text = rw t refl in e) ∙ duration_behind text rest kind h')
    (λ t. let h' : typed_at w text ≡ Some (kind, rest) = rw t at h in
    (let e : after_prefix w text ≡ after_literal text = rw t refl in e) ∙ typed_behind w text rest kind n h')

word_behind : (text rest : List ℕ) (kind : Kind) → NoHash rest → word_at text ≡ Some (kind, rest) → after_word text ≡ rest
unfolding word_at
word_behind text rest kind n h = by_test (begins_with (codes "#") (after_run text))
    (λ t. let h' : prefixed_at (run text) (after (codes "#") (after_run text)) ≡ Some (kind, rest) = rw t at h in
    (let e : after_word text ≡ after_prefix (run text) (after (codes "#") (after_run text)) = rw t refl in e)
    ∙ prefixed_behind (run text) (after (codes "#") (after_run text)) rest kind n h')
    (λ t. by_test (is_clean (run text))
    (λ u. let h' = rw (t, u) at h in (let e : after_word text ≡ after_run text = rw t refl in e) ∙ (some_parts h').1)
    (λ u. let h' : ◌≡◌ {A = Option (Kind × List ℕ)} None (Some (kind, rest)) = rw (t, u) at h in absurd (cc)))

-- ---- symbols

-- a symbol of one byte is no character of several
single_ascii : (b : ℕ) (x : Symbol) → single b ≡ Some x → nat_lt b 0x80 ≡ true
single_ascii b x h = grind (arith, nat_tests)

one_behind : (b : ℕ) (bs rest : List ℕ) (x : Symbol) → single b ≡ Some x → bs ≡ rest → after_character b bs ≡ rest
one_behind b bs rest x h e = let t = single_ascii b x h in rw t e

by_symbol : {P : Type 0} (o : Option Symbol) (bs rest : List ℕ) (kind : Kind) (other : Option (Kind × List ℕ)) → symbol_or o bs other ≡ Some (kind, rest)
    → ((x : Symbol) → o ≡ Some x → bs ≡ rest → P) → (o ≡ None → other ≡ Some (kind, rest) → P) → P
by_symbol None bs rest kind other h f g = g refl h
by_symbol (Some x) bs rest kind other h f g = f x refl (some_parts h).1

symbol_behind : (text rest : List ℕ) (kind : Kind) → symbol_at text ≡ Some (kind, rest) → after_symbol text ≡ rest
unfolding symbol_at
symbol_behind [] rest kind h = absurd (cc)
symbol_behind (b ∷ []) rest kind h = by_symbol (single b) [] rest kind None h (λ x e s. s) (λ e k. absurd (cc))
symbol_behind (b ∷ c ∷ bs) rest kind h = by_symbol (double b c) bs rest kind (symbol_or (single b) (c ∷ bs) None) h
    (λ x e s. subst (λ o. (if is_some o then bs else after_character b (c ∷ bs)) ≡ rest) (sym e) s)
    (λ e k. by_symbol (single b) (c ∷ bs) rest kind None k
    (λ x f s. subst (λ o. (if is_some o then bs else after_character b (c ∷ bs)) ≡ rest) (sym e) (one_behind b (c ∷ bs) rest x f s))
    (λ f m. absurd (cc)))

-- ---- tokens

digit_word : (b : ℕ) → is_ascii_digit b ≡ true → is_word_byte b ≡ true
digit_word b h = grind (arith, nat_tests)

no_word : (b : ℕ) → is_ascii_digit b ≡ false → begins_word b ≡ false → is_word_byte b ≡ false
no_word b h k = grind (arith, nat_tests)

pub token_behind : (text rest : List ℕ) (kind : Kind) → NoHash rest → token_at text ≡ Some (kind, rest) → after_token text ≡ rest
unfolding token_at
token_behind text rest kind n h = by_test (is_ascii_digit (slice_index text 0))
    (λ t. let h' : option_map number_found (number_at text) ≡ Some (kind, rest) = rw t at h in
    let m = mapped number_found (number_at text) (kind, rest) h' in
    let same : m.0.1 ≡ rest = ap (λ (p : Kind × List ℕ). p.1) m.2 in
    let w = digit_word (slice_index text 0) t in
    (let e : after_token text ≡ after_word text = rw w refl in e)
    ∙ number_word text rest n (subst (IsNumber text) same (number_behind text m.0.1 m.0.0 m.1)))
    (λ t. by_test (begins_word (slice_index text 0))
    (λ u. let h' : word_at text ≡ Some (kind, rest) = rw (t, u) at h in
    let w = begins_word_byte (slice_index text 0) u in
    (let e : after_token text ≡ after_word text = rw w refl in e) ∙ word_behind text rest kind n h')
    (λ u. let h' : symbol_at text ≡ Some (kind, rest) = rw (t, u) at h in
    let w = no_word (slice_index text 0) t u in
    (let e : after_token text ≡ after_symbol text = rw w refl in e) ∙ symbol_behind text rest kind h'))

-- ---- comments

-- fewer than two bytes have no end
pub after_comment-short : (text : List ℕ) → length text < 2 → after_comment text ≡ None
after_comment-short [] h = refl
after_comment-short (b ∷ []) h = refl
after_comment-short (b ∷ c ∷ bs) h = absurd (omega arith)

pub comment_behind : (line : ℕ) (text rest : List ℕ) → after_comment text ≡ Some rest → (next : ℕ) × (comment_at line text ≡ Some (next, rest))
comment_behind line [] rest h = absurd (cc)
comment_behind line (b ∷ []) rest h = absurd (cc)
comment_behind line (b ∷ c ∷ bs) rest h = by_test (b == 42 && c == 41)
    (λ t. let h' : ◌≡◌ {A = Option (List ℕ)} (Some bs) (Some rest) = rw t at h in let e : bs ≡ rest = cc in
    (line, rw t (ap (λ (zs : List ℕ). Some (line, zs)) e)))
    (λ t. let h' : after_comment (c ∷ bs) ≡ Some rest = rw t at h in
    let w = comment_behind (line + line_end b) (c ∷ bs) rest h' in (w.0, rw t w.1))

pub no_comment_behind : (line : ℕ) (text : List ℕ) → after_comment text ≡ None → comment_at line text ≡ None
no_comment_behind line [] h = refl
no_comment_behind line (b ∷ []) h = refl
no_comment_behind line (b ∷ c ∷ bs) h = by_test (b == 42 && c == 41)
    (λ t. let h' : ◌≡◌ {A = Option (List ℕ)} (Some bs) None = rw t at h in absurd (cc))
    (λ t. let h' : after_comment (c ∷ bs) ≡ None = rw t at h in rw t (no_comment_behind (line + line_end b) (c ∷ bs) h'))

-- ---- lengths

run_less : (text : List ℕ) → length (after_run text) ≤ length text
run_less [] = omega arith
run_less (b ∷ bs) = let k = run_less bs in by_test (is_word_byte b) (λ t. rw t (omega (arith, k))) (λ t. rw t (omega arith))

sign_less : (text : List ℕ) → length (after_sign text) ≤ length text
sign_less text = let k = length-drop 1 text in by_test (slice_index text 0 == 45) (λ t. rw t (omega (arith, k)))
    (λ t. by_test (slice_index text 0 == 43) (λ u. rw (t, u) (omega (arith, k))) (λ u. rw (t, u) (omega arith)))

base_less : (text : List ℕ) → length (after_base text) ≤ length text
base_less text = let k = length-drop 1 text in let r = run_less (drop 1 text) in
    by_test (begins_with (codes "#") text) (λ t. rw t (omega (arith, k, r))) (λ t. rw t (omega arith))

literal_less : (text : List ℕ) → length (after_literal text) ≤ length text
literal_less text = omega (arith, base_less (after_run (after_sign text)), run_less (after_sign text), sign_less text)

parts_less : (text : List ℕ) → length (interval_rest text) ≤ length text
parts_less text = let r = run_less text in let k = length-drop 1 (after_run text) in let s = run_less (drop 1 (after_run text)) in
    by_test (has_fraction text) (λ t. rw t (omega (arith, r, k, s))) (λ t. rw t (omega (arith, r)))

interval_less : (text : List ℕ) → length (after_interval text) ≤ length text
interval_less text = omega (arith, parts_less (after_sign text), sign_less text)

prefix_less : (w text : List ℕ) → length (after_prefix w text) ≤ length text
prefix_less w text = let a = interval_less text in let b = literal_less text in
    by_test (is_duration_word w) (λ t. rw t (omega (arith, a))) (λ t. rw t (omega (arith, b)))

word_less : (b : ℕ) (bs : List ℕ) → is_word_byte b ≡ true → length (after_word (b ∷ bs)) ≤ length bs
word_less b bs w =
    let e : after_run (b ∷ bs) ≡ after_run bs = rw w refl in
    let r = run_less bs in let k = length-drop 1 (after_run (b ∷ bs)) in let p = prefix_less (run (b ∷ bs)) (drop 1 (after_run (b ∷ bs))) in
    let l : length (after_run (b ∷ bs)) ≡ length (after_run bs) = ap length e in
    by_test (begins_with (codes "#") (after_run (b ∷ bs)))
    (λ t. (let f : after_word (b ∷ bs) ≡ after_prefix (run (b ∷ bs)) (drop 1 (after_run (b ∷ bs))) = rw t refl in omega (arith, ap length f, r, k, p, l)))
    (λ t. (let f : after_word (b ∷ bs) ≡ after_run (b ∷ bs) = rw t refl in omega (arith, ap length f, r, l)))

continued_less : (text : List ℕ) → length (after_continued text) ≤ length text
continued_less [] = omega arith
continued_less (b ∷ bs) = let k = continued_less bs in by_test (is_in_range 0x80 0xBF b) (λ t. rw t (omega (arith, k))) (λ t. rw t (omega arith))

character_less : (b : ℕ) (bs : List ℕ) → length (after_character b bs) ≤ length bs
character_less b bs = let k = continued_less bs in by_test (nat_lt b 0x80) (λ t. rw t (omega arith)) (λ t. rw t (omega (arith, k)))

symbol_less : (b : ℕ) (bs : List ℕ) → length (after_symbol (b ∷ bs)) ≤ length bs
symbol_less b [] = omega arith
symbol_less b (c ∷ bs) = let k = character_less b (c ∷ bs) in
    by_test (is_some (double b c)) (λ t. rw t (omega arith)) (λ t. rw t (omega (arith, k)))

pub token_shorter : (text : List ℕ) → 1 ≤ length text → length (after_token text) < length text
token_shorter [] h = absurd (omega arith)
token_shorter (b ∷ bs) h = by_test (is_word_byte b)
    (λ t. let f : after_token (b ∷ bs) ≡ after_word (b ∷ bs) = rw t refl in omega (arith, ap length f, word_less b bs t))
    (λ t. let f : after_token (b ∷ bs) ≡ after_symbol (b ∷ bs) = rw t refl in omega (arith, ap length f, symbol_less b bs))

pub comment_shorter : (text rest : List ℕ) → after_comment text ≡ Some rest → length rest < length text
comment_shorter [] rest h = absurd (cc)
comment_shorter (b ∷ []) rest h = absurd (cc)
comment_shorter (b ∷ c ∷ bs) rest h = by_test (b == 42 && c == 41)
    (λ t. let h' : ◌≡◌ {A = Option (List ℕ)} (Some bs) (Some rest) = rw t at h in let e : bs ≡ rest = cc in omega (arith, ap length e))
    (λ t. let h' : after_comment (c ∷ bs) ≡ Some rest = rw t at h in let k = comment_shorter (c ∷ bs) rest h' in omega (arith, k))
