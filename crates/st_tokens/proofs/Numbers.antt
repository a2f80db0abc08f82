-- Numbers at the start of a text: what is read there is the longest prefix that is a number.
use Rattle.std.proofs.Common.{◌≡◌, ℕ, ◌≤◌, List, [], ◌∷◌, ◌++◌, length, take, drop, refl, sym, ap, ◌∙◌, Bool, true, false, arith, ◌⊎◌, inl, inr, subst, append_assoc, length-append}
use Rattle.std.specs.Prelude.{Option, Some, None, option_map, option_and_then, codes, ◌==◌, ◌&&◌}
use Rattle.std.specs.Char.{is_digit, is_ascii_digit}
use Rattle.std.specs.Str.{bytes_eq}
use Rattle.std.proofs.lemmas.Bool.Decides.{nat_tests}
use Rattle.std.proofs.lemmas.List.{take-append-drop}
use Rattle.std.proofs.lemmas.Slice.Eq.{bytes_eq-Decides}
use Rattle.st_values.specs.Numbers.{are_digits, capped, digits_read, number_read}
use Rattle.st_values.specs.Words.{after, begins_with, is_word_byte, AreWordBytes}
use Rattle.st_tokens.specs.Characters.{BeginsWord}
use Rattle.st_tokens.specs.Scanning.{run, after_run, base_of, digits_at, number_at}
use Rattle.st_tokens.proofs.Runs.{run_splits, run_words, after_run_not, run_is, words_in_run}
use Rattle.st_tokens.proofs.Cases.{by_test, both, not_both, is_equal, some_parts}

-- a text that begins so is this and what stands after it
pub begins : (start text : List ℕ) → begins_with start text ≡ true → text ≡ start ++ after start text
begins start text h =
    let e : start ≡ take (length start) text = (bytes_eq-Decides start (take (length start) text)).0 h in
    sym (take-append-drop (length start) text) ∙ ap (λ (zs : List ℕ). zs ++ drop (length start) text) (sym e)

-- what is read at the start of a text: the longest prefix that reads as something
pub record Found {A B : Type 0} (read : List ℕ → Option A) (counts : A → B) (text rest : List ℕ) (v : B) : Type 0 where
  pub prefix : List ℕ
  pub value : A
  pub same : v ≡ counts value
  pub splits : text ≡ prefix ++ rest
  pub reads : read prefix ≡ Some value
  pub ends : BeginsWord rest → ⊥
  pub covers : length (run text) ≤ length prefix
  pub longest : (other back : List ℕ) (w : A) → text ≡ other ++ back → read other ≡ Some w → length other ≤ length prefix

-- no `#` follows
pub record Alive (rest : List ℕ) : Type 0 where
  pub ends : BeginsWord rest → ⊥
  pub no_hash : (back : List ℕ) → rest ≡ 35 ∷ back → ⊥

-- ---- digits

-- a digit is a byte of a word
digit_word : (base c : ℕ) → base ≤ 16 → is_digit c base ≡ true → is_word_byte c ≡ true
digit_word base c high h = grind (arith, nat_tests)

-- digits are bytes of a word
digits_words : (base : ℕ) (flag : Bool) (ds : List ℕ) → base ≤ 16 → are_digits base flag ds ≡ true → AreWordBytes ds
digits_words base flag [] high h = tt
digits_words base flag (c ∷ ds) high h = by_test (c == 95)
    (λ t. let h' : (flag && are_digits base false ds) ≡ true = rw t at h in
    (subst (λ x. is_word_byte x ≡ true) (sym (is_equal c 95 t)) refl, digits_words base false ds high (both flag _ h').1))
    (λ t. let h' : (is_digit c base && are_digits base true ds) ≡ true = rw t at h in let p = both (is_digit c base) _ h' in
    (digit_word base c high p.0, digits_words base true ds high p.1))

-- what reads as digits passes the test
pub digits_test : (base : ℕ) (ds : List ℕ) (n : ℕ) → digits_read base ds ≡ Some n → are_digits base false ds ≡ true
digits_test base ds n h = by_test (are_digits base false ds) (λ t. t) (λ t. let h' : ◌≡◌ {A = Option ℕ} None (Some n) = rw t at h in absurd (cc))

-- what reads as digits has bytes of a word alone
pub read_words : (base : ℕ) (ds : List ℕ) (n : ℕ) → base ≤ 16 → digits_read base ds ≡ Some n → AreWordBytes ds
read_words base ds n high h = digits_words base false ds high (digits_test base ds n h)

-- a digit of base 10
pub decimal_digit : (c : ℕ) → is_digit c 10 ≡ true → is_ascii_digit c ≡ true
decimal_digit c h = grind (arith, nat_tests)

-- decimal digits begin with one
pub first_decimal : (ds : List ℕ) (n : ℕ) → digits_read 10 ds ≡ Some n → (d : ℕ) × (more : List ℕ) × (ds ≡ d ∷ more) × (is_ascii_digit d ≡ true)
first_decimal [] n h = let t = digits_test 10 [] n h in absurd (cc)
first_decimal (d ∷ more) n h =
    let t = digits_test 10 (d ∷ more) n h in (
      d,
      more,
      refl,
      by_test (d == 95)
          (λ u. let t' : (false && are_digits 10 false more) ≡ true = rw u at t in absurd (cc))
          (λ u. let t' : (is_digit d 10 && are_digits 10 true more) ≡ true = rw u at t in decimal_digit d (both (is_digit d 10) _ t').0),
    )

-- ---- numbers

-- digits after a base and `#`
pub record Based (digits : List ℕ) (n : ℕ) : Type 0 where
  pub word : List ℕ
  pub more : List ℕ
  pub base : ℕ
  pub splits : digits ≡ word ++ 35 ∷ more
  pub named : base_of word ≡ Some base
  pub reads : digits_read base more ≡ Some n

-- a base is one of three, as it is written
pub base_cases : (P : ℕ → List ℕ → Type 0) (w : List ℕ) (base : ℕ) → base_of w ≡ Some base → P 16 (codes "16") → P 8 (codes "8") → P 2 (codes "2") → P base w
base_cases P w base h p q r = by_test (bytes_eq w (codes "16"))
    (λ t. made 16 (codes "16") t (let h' : ◌≡◌ {A = Option ℕ} (Some 16) (Some base) = rw t at h in let e : 16 ≡ base = cc in e) p)
    (λ t. by_test (bytes_eq w (codes "8"))
    (λ u. made 8 (codes "8") u (let h' : ◌≡◌ {A = Option ℕ} (Some 8) (Some base) = rw (t, u) at h in let e : 8 ≡ base = cc in e) q)
    (λ u. by_test (bytes_eq w (codes "2"))
    (λ v. made 2 (codes "2") v (let h' : ◌≡◌ {A = Option ℕ} (Some 2) (Some base) = rw (t, u, v) at h in let e : 2 ≡ base = cc in e) r)
    (λ v. let h' : ◌≡◌ {A = Option ℕ} None (Some base) = rw (t, u, v) at h in absurd (cc)))) where
      made : (m : ℕ) (name : List ℕ) → bytes_eq w name ≡ true → m ≡ base → P m name → P base w
      made m name t e x = subst (λ zs. P base zs) (sym ((bytes_eq-Decides w name).0 t)) (subst (λ k. P k name) e x)

-- no base is above 16
base_high : (w : List ℕ) (base : ℕ) → base_of w ≡ Some base → base ≤ 16
base_high w base h = base_cases (λ m zs. m ≤ 16) w base h (omega arith) (omega arith) (omega arith)

-- a base is written with bytes of a word
pub base_words : (w : List ℕ) (base : ℕ) → base_of w ≡ Some base → AreWordBytes w
base_words w base h = base_cases (λ m zs. AreWordBytes zs) w base h (refl, (refl, tt)) (refl, tt) (refl, tt)

-- a number is decimal digits, or has a base
pub number_shape : (ds : List ℕ) (n : ℕ) → number_read ds ≡ Some n → (digits_read 10 ds ≡ Some n) ⊎ Based ds n
number_shape ds n h = by_test (begins_with (codes "16#") ds)
    (λ t. inr (record { word = codes "16"; more = after (codes "16#") ds; base = 16; splits = begins (codes "16#") ds t; named = refl; reads = rw t at h }))
    (λ t. by_test (begins_with (codes "8#") ds)
    (λ u. inr (record { word = codes "8"; more = after (codes "8#") ds; base = 8; splits = begins (codes "8#") ds u; named = refl; reads = rw (t, u) at h }))
    (λ u. by_test (begins_with (codes "2#") ds)
    (λ v. inr (record { word = codes "2"; more = after (codes "2#") ds; base = 2; splits = begins (codes "2#") ds v; named = refl; reads = rw (t, u, v) at h }))
    (λ v. inl (rw (t, u, v) at h))))

-- digits after a base and `#` read as a number
pub number_based : (w more : List ℕ) (base n : ℕ) → base_of w ≡ Some base → digits_read base more ≡ Some n → number_read (w ++ 35 ∷ more) ≡ Some n
number_based w more base n h reads = base_cases (λ m zs. digits_read m more ≡ Some n → number_read (zs ++ 35 ∷ more) ≡ Some n) w base h (λ k. k) (λ k. k) (λ k. k) reads

-- no `#` is a byte of a word
words_no_hash : (w more : List ℕ) → AreWordBytes (w ++ 35 ∷ more) → ⊥
words_no_hash [] more h = let k : is_word_byte 35 ≡ true = h.0 in cc
words_no_hash (b ∷ w) more h = words_no_hash w more h.1

-- what has no `#` begins with no base
no_base : (w ds : List ℕ) → AreWordBytes ds → begins_with (w ++ 35 ∷ []) ds ≡ false
no_base w ds words = by_test (begins_with (w ++ 35 ∷ []) ds)
    (λ t. let e = begins (w ++ 35 ∷ []) ds t ∙ append_assoc w (35 ∷ []) (after (w ++ 35 ∷ []) ds) in absurd (words_no_hash w _ (subst AreWordBytes e words)))
    (λ t. t)

-- decimal digits read as a number
pub number_plain : (ds : List ℕ) (n : ℕ) → AreWordBytes ds → digits_read 10 ds ≡ Some n → number_read ds ≡ Some n
number_plain ds n words h = rw (no_base (codes "16") ds words, no_base (codes "8") ds words, no_base (codes "2") ds words) h

-- a number begins with a digit
pub first_digit : (ds : List ℕ) (n : ℕ) → number_read ds ≡ Some n → (d : ℕ) × (more : List ℕ) × (ds ≡ d ∷ more) × (is_ascii_digit d ≡ true)
first_digit ds n h = at (number_shape ds n h) where
  at : (digits_read 10 ds ≡ Some n) ⊎ Based ds n → (d : ℕ) × (more : List ℕ) × (ds ≡ d ∷ more) × (is_ascii_digit d ≡ true)
  at (inl k) = first_decimal ds n k
  at (inr b) = base_cases (λ m zs. ds ≡ zs ++ 35 ∷ b.more → (d : ℕ) × (more : List ℕ) × (ds ≡ d ∷ more) × (is_ascii_digit d ≡ true)) b.word b.base b.named
      (λ e. (49, 54 ∷ 35 ∷ b.more, e, refl)) (λ e. (56, 35 ∷ b.more, e, refl)) (λ e. (50, 35 ∷ b.more, e, refl)) b.splits

-- ---- at the start of a text

-- what reading digits gave
pub digits_parts : (base : ℕ) (text rest : List ℕ) (v : ℕ) → digits_at base text ≡ Some (v, rest)
    → (n : ℕ) × (digits_read base (run text) ≡ Some n) × (v ≡ capped n) × (rest ≡ after_run text)
unfolding digits_at
digits_parts base text rest v h = at (digits_read base (run text)) refl h where
  at : (o : Option ℕ) → digits_read base (run text) ≡ o → option_map {T = ℕ} {U = ℕ × List ℕ} (λ n. (capped n, after_run text)) o ≡ Some (v, rest)
      → (n : ℕ) × (digits_read base (run text) ≡ Some n) × (v ≡ capped n) × (rest ≡ after_run text)
  at None e g = absurd (cc)
  at (Some n) e g = let p = some_parts g in (n, e, sym p.0, sym p.1)

-- digits that no byte of a word follows are read
pub digits_made : (base : ℕ) (text ds rest : List ℕ) (n : ℕ) → base ≤ 16 → text ≡ ds ++ rest → digits_read base ds ≡ Some n → (BeginsWord rest → ⊥)
    → digits_at base text ≡ Some (capped n, rest)
unfolding digits_at
digits_made base text ds rest n high e h ends =
    let w = run_is text ds rest e (read_words base ds n high h) ends in
    rw (w.0, w.1) (ap (λ (o : Option ℕ). option_map {T = ℕ} {U = ℕ × List ℕ} (λ m. (capped m, rest)) o) h)

-- what stands after a run that a `#` follows
pub hash_split : (text : List ℕ) → begins_with (codes "#") (after_run text) ≡ true → text ≡ run text ++ 35 ∷ after (codes "#") (after_run text)
hash_split text t = run_splits text ∙ ap (λ (zs : List ℕ). run text ++ zs) (begins (codes "#") (after_run text) t)

-- a prefix that has a `#` after bytes of a word has it after the run
pub hash_run : (text w more back : List ℕ) → AreWordBytes w → text ≡ (w ++ 35 ∷ more) ++ back
    → (run text ≡ w) × (after_run text ≡ 35 ∷ (more ++ back))
hash_run text w more back words e = run_is text w (35 ∷ (more ++ back)) (e ∙ append_assoc w (35 ∷ more) back) words (λ (k : is_word_byte 35 ≡ true). cc)

-- a `#` after the run passes the test
pub hash_test : (text more : List ℕ) → after_run text ≡ 35 ∷ more → begins_with (codes "#") (after_run text) ≡ true
hash_test text more e = rw e refl

-- where none stands, the test fails
pub no_hash_test : (text : List ℕ) → ((back : List ℕ) → after_run text ≡ 35 ∷ back → ⊥) → begins_with (codes "#") (after_run text) ≡ false
no_hash_test text n = by_test (begins_with (codes "#") (after_run text)) (λ t. absurd (n (after (codes "#") (after_run text)) (begins (codes "#") (after_run text) t))) (λ t. t)

-- the longest prefix that reads as a number
abbrev pub NumberFound : List ℕ → List ℕ → ℕ → Type 0
NumberFound text rest v = Found number_read capped text rest v

-- without a `#` what is read is the longest
number_plain_found : (text rest : List ℕ) (v : ℕ) → begins_with (codes "#") (after_run text) ≡ false → digits_at 10 text ≡ Some (v, rest) → NumberFound text rest v
number_plain_found text rest v t h = let p = digits_parts 10 text rest v h in record {
  prefix = run text;
  value = p.0;
  same = p.2;
  splits = run_splits text ∙ ap (λ (zs : List ℕ). run text ++ zs) (sym p.3);
  reads = number_plain (run text) p.0 (run_words text) p.1;
  ends = subst (λ zs. BeginsWord zs → ⊥) (sym p.3) (after_run_not text);
  covers = omega arith;
  longest = λ other back w e r. at other back w e (number_shape other w r);
} where
  at : (other back : List ℕ) (w : ℕ) → text ≡ other ++ back → (digits_read 10 other ≡ Some w) ⊎ Based other w → length other ≤ length (run text)
  at other back w e (inl k) = words_in_run text other back e (read_words 10 other w (omega arith) k)
  at other back w e (inr b) =
      let r = hash_run text b.word b.more back (base_words b.word b.base b.named) (e ∙ ap (λ (zs : List ℕ). zs ++ back) b.splits) in
      not_both (hash_test text (b.more ++ back) r.1) t

-- what stands after the run and a `#`
abbrev pub tail_of : List ℕ → List ℕ
tail_of text = after (codes "#") (after_run text)

-- after a base and `#` what is read is the longest
number_based_found : (text rest : List ℕ) (v base : ℕ) → begins_with (codes "#") (after_run text) ≡ true → base_of (run text) ≡ Some base
    → digits_at base (after (codes "#") (after_run text)) ≡ Some (v, rest) → NumberFound text rest v
number_based_found text rest v base t named h = let p = digits_parts base (tail_of text) rest v h in record {
  prefix = run text ++ 35 ∷ run (tail_of text);
  value = p.0;
  same = p.2;
  splits = hash_split text t ∙ ap (λ (zs : List ℕ). run text ++ 35 ∷ zs) (run_splits (tail_of text) ∙ ap (λ (zs : List ℕ). run (tail_of text) ++ zs) (sym p.3))
      ∙ sym (append_assoc (run text) (35 ∷ run (tail_of text)) rest);
  reads = number_based (run text) (run (tail_of text)) base p.0 named p.1;
  ends = subst (λ zs. BeginsWord zs → ⊥) (sym p.3) (after_run_not (tail_of text));
  covers = let l = length-append (run text) (35 ∷ run (tail_of text)) in omega arith;
  longest = λ other back w e r. at other back w e (number_shape other w r);
} where
  at : (other back : List ℕ) (w : ℕ) → text ≡ other ++ back → (digits_read 10 other ≡ Some w) ⊎ Based other w → length other ≤ length (run text ++ 35 ∷ run (tail_of text))
  at other back w e (inl k) =
      let le = words_in_run text other back e (read_words 10 other w (omega arith) k) in let l = length-append (run text) (35 ∷ run (tail_of text)) in omega arith
  at other back w e (inr b) =
      let r = hash_run text b.word b.more back (base_words b.word b.base b.named) (e ∙ ap (λ (zs : List ℕ). zs ++ back) b.splits) in
      let same_tail : (tail_of text) ≡ b.more ++ back = ap (λ (zs : List ℕ). after (codes "#") zs) r.1 in
      let le = words_in_run (tail_of text) b.more back same_tail (read_words b.base b.more w (base_high b.word b.base b.named) b.reads) in
      let m = length-append b.word (35 ∷ b.more) in let l = length-append (run text) (35 ∷ run (tail_of text)) in
      let f = ap length b.splits in let g = ap length r.0 in omega arith

-- what is read is the longest number
pub number_is_found : (text rest : List ℕ) (v : ℕ) → number_at text ≡ Some (v, rest) → NumberFound text rest v
unfolding number_at
number_is_found text rest v h = by_test (begins_with (codes "#") (after_run text))
    (λ t. at t (base_of (run text)) refl (rw t at h))
    (λ t. number_plain_found text rest v t (rw t at h)) where
      at : begins_with (codes "#") (after_run text) ≡ true → (o : Option ℕ) → base_of (run text) ≡ o
          → option_and_then (λ base. digits_at base (after (codes "#") (after_run text))) o ≡ Some (v, rest) → NumberFound text rest v
      at t None e g = absurd (cc)
      at t (Some base) e g = number_based_found text rest v base t e g

-- a number that nothing continues is read
pub number_only : (text prefix rest : List ℕ) (n : ℕ) → text ≡ prefix ++ rest → number_read prefix ≡ Some n → Alive rest → number_at text ≡ Some (capped n, rest)
unfolding number_at
number_only text prefix rest n e h alive = at (number_shape prefix n h) where
  at : (digits_read 10 prefix ≡ Some n) ⊎ Based prefix n → number_at text ≡ Some (capped n, rest)
  at (inl k) =
      let w = run_is text prefix rest e (read_words 10 prefix n (omega arith) k) alive.ends in
      rw (no_hash_test text (λ back f. alive.no_hash back (sym w.1 ∙ f))) (digits_made 10 text prefix rest n (omega arith) e k alive.ends)
  at (inr b) =
      let r = hash_run text b.word b.more rest (base_words b.word b.base b.named) (e ∙ ap (λ (zs : List ℕ). zs ++ rest) b.splits) in
      let tail : after (codes "#") (after_run text) ≡ b.more ++ rest = ap (λ (zs : List ℕ). after (codes "#") zs) r.1 in
      let m = digits_made b.base (b.more ++ rest) b.more rest n (base_high b.word b.base b.named) refl b.reads alive.ends in
      rw (hash_test text (b.more ++ rest) r.1) (ap (λ (zs : List ℕ). option_and_then (λ base. digits_at base zs) (base_of (run text))) tail
      ∙ ap (λ (zs : List ℕ). option_and_then (λ base. digits_at base (b.more ++ rest)) (base_of zs)) r.0
      ∙ ap (λ (o : Option ℕ). option_and_then (λ base. digits_at base (b.more ++ rest)) o) b.named ∙ m)
