-- What stands after the `#` of a typed literal: what is read there is the longest prefix that reads as a number of the type.
use Rattle.std.proofs.Common.{◌≡◌, ℕ, zero, suc, ◌≤◌, List, [], ◌∷◌, ◌++◌, length, refl, sym, ap, ◌∙◌, Bool, true, false, cond, arith, ◌⊎◌, inl, inr, subst, map, add-one, drop, slice_index}
use Rattle.std.specs.Prelude.{Option, Some, None, option_map, codes, ◌==◌, ℤ, pos}
use Rattle.std.specs.Char.{to_ascii_lowercase}
use Rattle.std.proofs.lemmas.Slice.Eq.{bytes_eq-Decides}
use Rattle.st_values.specs.declared.elem.Class.{Class}
use Rattle.st_values.specs.declared.elem.Class.TheVariants.{Boolean, Integer, BitString, Duration}
use Rattle.st_values.specs.Numbers.{capped, capped_signed, digits_read, negative, number_read}
use Rattle.st_values.specs.Readings.{literal_read, signed_read}
use Rattle.st_values.specs.Words.{is_word, is_word_byte, AreWordBytes}
use Rattle.st_tokens.specs.Characters.{BeginsWord}
use Rattle.st_tokens.specs.Scanning.{run, after_run, base_of, digits_at, number_at, signed_at, boolean_at, literal_at, positive_found}
use Rattle.st_tokens.specs.Words.{IsSame}
use Rattle.st_tokens.proofs.Names.{is_name, same_name, name_word, word_words}
use Rattle.st_tokens.proofs.Numbers.{first_digit, Found, Alive, Based, read_words, digits_parts, digits_made, number_shape, base_cases, base_words, hash_run, number_is_found, number_only}
use Rattle.st_tokens.proofs.Runs.{run_splits, after_run_not, run_is, words_in_run}
use Rattle.st_tokens.proofs.Cases.{by_test, is_equal, not_both, some_parts}

-- the longest prefix that reads as a number with an optional sign
abbrev pub SignedFound : List ℕ → List ℕ → ℤ → Type 0
SignedFound text rest v = Found (signed_read true) capped_signed text rest v

-- holding a number down and negating it commute
pub capped_negative : (n : ℕ) → negative (capped n) ≡ capped_signed (negative n)
capped_negative zero = refl
capped_negative (suc n) = ap (λ (m : ℕ). negative (capped m)) (sym (add-one n))

-- a sign, and what is read of decimal digits after it
pub mapped_parts : {A B : Type 0} (f : A → B) (o : Option (A × List ℕ)) (v : B) (rest : List ℕ)
    → option_map {T = A × List ℕ} {U = B × List ℕ} (λ p. (f p.0, p.1)) o ≡ Some (v, rest) → (a : A) × (o ≡ Some (a, rest)) × (v ≡ f a)
mapped_parts {A} {B} f None v rest h = absurd (cc)
mapped_parts {A} {B} f (Some p) v rest h = let q = some_parts h in
    (p.0, subst (λ zs. ◌≡◌ {A = Option (A × List ℕ)} (Some (p.0, p.1)) (Some (p.0, zs))) q.1 refl, sym q.0)

-- what was mapped
pub mapped_some : {A B : Type 0} (f : A → B) (o : Option A) (b : B) → option_map f o ≡ Some b → (a : A) × (o ≡ Some a) × (b ≡ f a)
mapped_some f None b h = absurd (cc)
mapped_some f (Some a) b h = (a, refl, let e : f a ≡ b = cc in sym e)

-- a text with this byte first
pub first_is : (sign : ℕ) (text : List ℕ) → (0 == sign) ≡ false → (slice_index text 0 == sign) ≡ true → text ≡ sign ∷ drop 1 text
first_is sign [] never h = not_both h never
first_is sign (b ∷ bs) never h = ap (λ (x : ℕ). x ∷ bs) (is_equal b sign h)

-- one sign
record Sign (sign : ℕ) (means : ℕ → ℤ) : Type 0 where
  pub reads : (more : List ℕ) → signed_read true (sign ∷ more) ≡ option_map means (digits_read 10 more)
  pub counts : (n : ℕ) → means (capped n) ≡ capped_signed (means n)
  pub no_word : is_word_byte sign ≡ false

-- `-`
minus : Sign 45 negative
minus = record { reads = λ more. refl; counts = capped_negative; no_word = refl }

-- `+`
plus : Sign 43 pos
plus = record { reads = λ more. refl; counts = λ n. refl; no_word = refl }

-- after a sign what is read is the longest
sign_found : (sign : ℕ) (means : ℕ → ℤ) → Sign sign means → (text tail rest : List ℕ) (v : ℤ) → text ≡ sign ∷ tail
    → option_map {T = ℕ × List ℕ} {U = ℤ × List ℕ} (λ p. (means p.0, p.1)) (digits_at 10 tail) ≡ Some (v, rest) → SignedFound text rest v
sign_found sign means is text tail rest v e h =
    let m = mapped_parts means (digits_at 10 tail) v rest h in
    let p = digits_parts 10 tail rest m.0 m.1 in
    record {
      prefix = sign ∷ run tail;
      value = means p.0;
      same = m.2 ∙ ap means p.2 ∙ is.counts p.0;
      splits = e ∙ ap (λ (zs : List ℕ). sign ∷ zs) (run_splits tail ∙ ap (λ (zs : List ℕ). run tail ++ zs) (sym p.3));
      reads = is.reads (run tail) ∙ ap (option_map means) p.1;
      ends = subst (λ zs. BeginsWord zs → ⊥) (sym p.3) (after_run_not tail);
      covers = let r : run text ≡ [] = rw e (rw is.no_word refl) in rw r (omega arith);
      longest = longest;
    } where
      longest : (other back : List ℕ) (w : ℤ) → text ≡ other ++ back → signed_read true other ≡ Some w → length other ≤ length (sign ∷ run tail)
      longest [] back w f r = omega arith
      longest (c ∷ other) back w f r =
          let g : sign ∷ tail ≡ c ∷ (other ++ back) = sym e ∙ f in
          let head : c ≡ sign = cc in let split : tail ≡ other ++ back = cc in
          let k : option_map means (digits_read 10 other) ≡ Some w = sym (is.reads other) ∙ subst (λ x. signed_read true (x ∷ other) ≡ Some w) head r in
          let n = mapped_some means (digits_read 10 other) w k in
          let le = words_in_run tail other back split (read_words 10 other n.0 (omega arith) n.1) in omega arith

-- a text that doesn't begin so has no prefix that does
pub no_start : (sign : ℕ) (text prefix back : List ℕ) → (0 == sign) ≡ false → text ≡ prefix ++ back → (slice_index text 0 == sign) ≡ false → (slice_index prefix 0 == sign) ≡ false
no_start sign text [] back never e h = never
no_start sign text (c ∷ prefix) back never e h = subst (λ zs. (slice_index zs 0 == sign) ≡ false) e h

-- by the tests on the sign
abbrev signed_by : Bool → Bool → List ℕ → Option ℤ
signed_by m p text = cond m (option_map negative (digits_read 10 (drop 1 text)))
    (cond p (option_map pos (digits_read 10 (drop 1 text))) (option_map pos (number_read text)))

-- reading a signed number goes by the tests
signed_tests : (text : List ℕ) (m p : Bool) → (slice_index text 0 == 45) ≡ m → (slice_index text 0 == 43) ≡ p → signed_read true text ≡ signed_by m p text
signed_tests text m p e f = ap (λ (x : Bool). signed_by x ((slice_index text 0 == 43)) text) e ∙ ap (λ (x : Bool). signed_by m x text) f

-- without a sign
unsigned_reads : (text prefix back : List ℕ) → text ≡ prefix ++ back → (slice_index text 0 == 45) ≡ false → (slice_index text 0 == 43) ≡ false
    → signed_read true prefix ≡ option_map pos (number_read prefix)
unsigned_reads text prefix back e m p = signed_tests prefix false false (no_start 45 text prefix back refl e m) (no_start 43 text prefix back refl e p)

-- without a sign what is read is the longest
unsigned_found : (text rest : List ℕ) (v : ℤ) → (slice_index text 0 == 45) ≡ false → (slice_index text 0 == 43) ≡ false
    → option_map positive_found (number_at text) ≡ Some (v, rest) → SignedFound text rest v
unsigned_found text rest v m p h =
    let q = mapped_parts pos (number_at text) v rest h in
    let f = number_is_found text rest q.0 q.1 in
    record {
      prefix = f.prefix;
      value = pos f.value;
      same = q.2 ∙ ap pos f.same;
      splits = f.splits;
      reads = unsigned_reads text f.prefix rest f.splits m p ∙ ap (option_map pos) f.reads;
      ends = f.ends;
      covers = f.covers;
      longest = λ other back w e r.
          let n = mapped_some pos (number_read other) w (sym (unsigned_reads text other back e m p) ∙ r) in f.longest other back n.0 e n.1;
    }

-- what is read is the longest
pub signed_found : (text rest : List ℕ) (v : ℤ) → signed_at text ≡ Some (v, rest) → SignedFound text rest v
unfolding signed_at
signed_found text rest v h = by_test ((slice_index text 0 == 45))
    (λ t. sign_found 45 negative minus text (drop 1 text) rest v (first_is 45 text refl t) (rw t at h))
    (λ t. by_test ((slice_index text 0 == 43))
    (λ u. sign_found 43 pos plus text (drop 1 text) rest v (first_is 43 text refl u) (rw (t, u) at h))
    (λ u. unsigned_found text rest v t u (rw (t, u) at h)))

-- decimal digits after a sign are read
sign_only : (sign : ℕ) (means : ℕ → ℤ) → Sign sign means → (more rest : List ℕ) (z : ℤ) → signed_read true (sign ∷ more) ≡ Some z → Alive rest
    → option_map {T = ℕ × List ℕ} {U = ℤ × List ℕ} (λ p. (means p.0, p.1)) (digits_at 10 (more ++ rest)) ≡ Some (capped_signed z, rest)
sign_only sign means is more rest z h alive =
    let n = mapped_some means (digits_read 10 more) z (sym (is.reads more) ∙ h) in
    let d = digits_made 10 (more ++ rest) more rest n.0 (omega arith) refl n.1 alive.ends in
    ap (option_map {T = ℕ × List ℕ} {U = ℤ × List ℕ} (λ p. (means p.0, p.1))) d
    ∙ ap (λ (x : ℤ). let r : Option (ℤ × List ℕ) = Some (x, rest) in r) (is.counts n.0 ∙ ap capped_signed (sym n.2))

-- a number with an optional sign that nothing continues is read
pub signed_only : (text prefix rest : List ℕ) (z : ℤ) → text ≡ prefix ++ rest → signed_read true prefix ≡ Some z → Alive rest → signed_at text ≡ Some (capped_signed z, rest)
unfolding signed_at
signed_only text prefix rest z e h alive = by_test ((slice_index prefix 0 == 45))
    (λ t. let f = first_is 45 prefix refl t in let g : text ≡ 45 ∷ (drop 1 prefix ++ rest) = e ∙ ap (λ (zs : List ℕ). zs ++ rest) f in
    rw g (sign_only 45 negative minus (drop 1 prefix) rest z (subst (λ zs. signed_read true zs ≡ Some z) f h) alive))
    (λ t. by_test ((slice_index prefix 0 == 43))
    (λ u. let f = first_is 43 prefix refl u in let g : text ≡ 43 ∷ (drop 1 prefix ++ rest) = e ∙ ap (λ (zs : List ℕ). zs ++ rest) f in
    rw g (sign_only 43 pos plus (drop 1 prefix) rest z (subst (λ zs. signed_read true zs ≡ Some z) f h) alive))
    (λ u. at t u (mapped_some pos (number_read prefix) z (sym (signed_tests prefix false false t u) ∙ h)))) where
      same_start : (sign : ℕ) → (slice_index prefix 0 == sign) ≡ false → (n : ℕ) → number_read prefix ≡ Some n → (slice_index text 0 == sign) ≡ false
      same_start sign f n k = let d = first_digit prefix n k in
          let g : text ≡ d.0 ∷ (d.1 ++ rest) = e ∙ ap (λ (zs : List ℕ). zs ++ rest) d.2 in
          subst (λ zs. (slice_index zs 0 == sign) ≡ false) (sym g) (subst (λ zs. (slice_index zs 0 == sign) ≡ false) d.2 f)

      at : (slice_index prefix 0 == 45) ≡ false → (slice_index prefix 0 == 43) ≡ false
          → (n : ℕ) × (number_read prefix ≡ Some n) × (z ≡ pos n) → signed_at text ≡ Some (capped_signed z, rest)
      at t u n = let w = number_only text prefix rest n.0 e n.1 alive in
          rw (same_start 45 t n.0 n.1, same_start 43 u n.0 n.1) (ap (option_map positive_found) w
          ∙ ap (λ (x : ℤ). let r : Option (ℤ × List ℕ) = Some (capped_signed x, rest) in r) (sym n.2))

-- ---- truth values

-- a word that is no base
record Truth (word : List ℕ) : Type 0 where
  pub no_base : (w : List ℕ) (base : ℕ) → base_of w ≡ Some base → is_word word w ≡ true → ⊥
  pub not_empty : is_word word [] ≡ false
  pub name : is_name (map to_ascii_lowercase word) ≡ true

-- TRUE
truth : Truth (codes "TRUE")
truth = record {
  no_base = λ w base h. base_cases (λ m zs. is_word (codes "TRUE") zs ≡ true → ⊥) w base h (λ k. cc) (λ k. cc) (λ k. cc);
  not_empty = refl;
  name = refl;
}

-- FALSE
falsity : Truth (codes "FALSE")
falsity = record {
  no_base = λ w base h. base_cases (λ m zs. is_word (codes "FALSE") zs ≡ true → ⊥) w base h (λ k. cc) (λ k. cc) (λ k. cc);
  not_empty = refl;
  name = refl;
}

-- a test of words that passed
pub is_same : (word w : List ℕ) → is_word word w ≡ true → IsSame w word
is_same word w h = (bytes_eq-Decides (map to_ascii_lowercase w) (map to_ascii_lowercase word)).0 h

-- the same word passes the test
pub same_test : (word w : List ℕ) → IsSame w word → is_word word w ≡ true
same_test word w h = (bytes_eq-Decides (map to_ascii_lowercase w) (map to_ascii_lowercase word)).1 h

-- a truth value has bytes of a word alone
truth_words : (word w : List ℕ) → Truth word → is_word word w ≡ true → AreWordBytes w
truth_words word w is h = word_words w (name_word w (same_name w word (is_same word w h) is.name))

-- where the run is a truth value, a prefix that reads as a number is decimal digits
signed_truth : (word text other back : List ℕ) (z : ℤ) → Truth word → text ≡ other ++ back → signed_read true other ≡ Some z
    → is_word word (run text) ≡ true → AreWordBytes other
signed_truth word text other back z is e h t = by_test (slice_index other 0 == 45)
    (λ m. absurd (sign 45 refl refl m))
    (λ m. by_test (slice_index other 0 == 43)
    (λ p. absurd (sign 43 refl refl p))
    (λ p. let n = mapped_some pos (number_read other) z (sym (signed_tests other false false m p) ∙ h) in at n.0 (number_shape other n.0 n.1))) where
      sign : (byte : ℕ) → (0 == byte) ≡ false → is_word_byte byte ≡ false → (slice_index other 0 == byte) ≡ true → ⊥
      sign byte never other_byte m =
          let f = first_is byte other never m in
          let g : text ≡ byte ∷ (drop 1 other ++ back) = e ∙ ap (λ (zs : List ℕ). zs ++ back) f in
          let r : run text ≡ [] = rw g (rw other_byte refl) in
          not_both (subst (λ zs. is_word word zs ≡ true) r t) is.not_empty

      at : (n : ℕ) → (digits_read 10 other ≡ Some n) ⊎ Based other n → AreWordBytes other
      at n (inl k) = read_words 10 other n (omega arith) k
      at n (inr b) =
          let r = hash_run text b.word b.more back (base_words b.word b.base b.named) (e ∙ ap (λ (zs : List ℕ). zs ++ back) b.splits) in
          absurd (is.no_base b.word b.base b.named (subst (λ zs. is_word word zs ≡ true) r.0 t))

-- a number, and no truth value
record Numeric (text : List ℕ) (z : ℤ) : Type 0 where
  pub no_true : is_word (codes "TRUE") text ≡ false
  pub no_false : is_word (codes "FALSE") text ≡ false
  pub reads : signed_read true text ≡ Some z

-- what a whole text of BOOL reads as
boolean_cases : (text : List ℕ) (z : ℤ) → literal_read Boolean true text ≡ Some z
    → ((is_word (codes "TRUE") text ≡ true) × (z ≡ pos 1)) ⊎ (((is_word (codes "FALSE") text ≡ true) × (z ≡ pos 0)) ⊎ Numeric text z)
boolean_cases text z h = by_test (is_word (codes "TRUE") text)
    (λ t. let h' : ◌≡◌ {A = Option ℤ} (Some (pos 1)) (Some z) = rw t at h in inl (t, let e : pos 1 ≡ z = cc in sym e))
    (λ t. by_test (is_word (codes "FALSE") text)
    (λ u. let h' : ◌≡◌ {A = Option ℤ} (Some (pos 0)) (Some z) = rw (t, u) at h in inr (inl (u, let e : pos 0 ≡ z = cc in sym e)))
    (λ u. inr (inr (record { no_true = t; no_false = u; reads = rw (t, u) at h }))))

-- the longest prefix that reads as a literal of the class
abbrev pub LiteralFound : Class → List ℕ → List ℕ → ℤ → Type 0
LiteralFound class text rest v = Found (literal_read class true) capped_signed text rest v

-- a truth value is the whole run
truth_found : (word text rest : List ℕ) (v : ℤ) → Truth word → is_word word (run text) ≡ true → literal_read Boolean true (run text) ≡ Some v → v ≡ capped_signed v
    → rest ≡ after_run text → LiteralFound Boolean text rest v
truth_found word text rest v is t reads same f = record {
  prefix = run text;
  value = v;
  same = same;
  splits = run_splits text ∙ ap (λ (zs : List ℕ). run text ++ zs) (sym f);
  reads = reads;
  ends = subst (λ zs. BeginsWord zs → ⊥) (sym f) (after_run_not text);
  covers = omega arith;
  longest = λ other back w e r. words_in_run text other back e (words other back w e (boolean_cases other w r));
} where
  words : (other back : List ℕ) (w : ℤ) → text ≡ other ++ back
      → ((is_word (codes "TRUE") other ≡ true) × (w ≡ pos 1)) ⊎ (((is_word (codes "FALSE") other ≡ true) × (w ≡ pos 0)) ⊎ Numeric other w) → AreWordBytes other
  words other back w e (inl k) = truth_words (codes "TRUE") other truth k.0
  words other back w e (inr (inl k)) = truth_words (codes "FALSE") other falsity k.0
  words other back w e (inr (inr k)) = signed_truth word text other back w is e k.reads t

-- no truth value at the start, where the run is none
no_truth : (word text prefix rest : List ℕ) → Truth word → text ≡ prefix ++ rest → (BeginsWord rest → ⊥) → is_word word (run text) ≡ false → is_word word prefix ≡ false
no_truth word text prefix rest is e ends no_run = by_test (is_word word prefix)
    (λ t. let u = run_is text prefix rest e (truth_words word prefix is t) ends in not_both (subst (λ zs. is_word word zs ≡ true) (sym u.0) t) no_run)
    (λ t. t)

-- where the run is no truth value, a number is the longest
number_of_boolean : (text rest : List ℕ) (v : ℤ) → is_word (codes "TRUE") (run text) ≡ false → is_word (codes "FALSE") (run text) ≡ false → SignedFound text rest v
    → LiteralFound Boolean text rest v
number_of_boolean text rest v t u f = record {
  prefix = f.prefix;
  value = f.value;
  same = f.same;
  splits = f.splits;
  reads = rw (no_truth (codes "TRUE") text f.prefix rest truth f.splits f.ends t, no_truth (codes "FALSE") text f.prefix rest falsity f.splits f.ends u) f.reads;
  ends = f.ends;
  covers = f.covers;
  longest = λ other back w e r. at other back w e (boolean_cases other w r);
} where
  at : (other back : List ℕ) (w : ℤ) → text ≡ other ++ back
      → ((is_word (codes "TRUE") other ≡ true) × (w ≡ pos 1)) ⊎ (((is_word (codes "FALSE") other ≡ true) × (w ≡ pos 0)) ⊎ Numeric other w) → length other ≤ length f.prefix
  at other back w e (inl k) = let le = words_in_run text other back e (truth_words (codes "TRUE") other truth k.0) in let covers = f.covers in omega arith
  at other back w e (inr (inl k)) = let le = words_in_run text other back e (truth_words (codes "FALSE") other falsity k.0) in let covers = f.covers in omega arith
  at other back w e (inr (inr k)) = f.longest other back w e k.reads

-- what is read of BOOL is the longest
pub boolean_found : (text rest : List ℕ) (v : ℤ) → boolean_at text ≡ Some (v, rest) → LiteralFound Boolean text rest v
unfolding boolean_at
boolean_found text rest v h = by_test (is_word (codes "TRUE") (run text))
    (λ t. let p = some_parts (rw t at h) in
    truth_found (codes "TRUE") text rest v truth t (rw t (let e : ◌≡◌ {A = Option ℤ} (Some (pos 1)) (Some v) = ap (λ (x : ℤ). Some x) p.0 in e)) (sym p.0 ∙ ap capped_signed p.0) (sym p.1))
    (λ t. by_test (is_word (codes "FALSE") (run text))
    (λ u. let p = some_parts (rw (t, u) at h) in
    truth_found (codes "FALSE") text rest v falsity u (rw (t, u) (let e : ◌≡◌ {A = Option ℤ} (Some (pos 0)) (Some v) = ap (λ (x : ℤ). Some x) p.0 in e)) (sym p.0 ∙ ap capped_signed p.0) (sym p.1))
    (λ u. number_of_boolean text rest v t u (signed_found text rest v (rw (t, u) at h))))

-- a literal of BOOL that nothing continues is read
pub boolean_only : (text prefix rest : List ℕ) (z : ℤ) → text ≡ prefix ++ rest → literal_read Boolean true prefix ≡ Some z → Alive rest → boolean_at text ≡ Some (capped_signed z, rest)
unfolding boolean_at
boolean_only text prefix rest z e h alive = at (boolean_cases prefix z h) where
  not_true_false : (w : List ℕ) → is_word (codes "FALSE") w ≡ true → is_word (codes "TRUE") w ≡ false
  not_true_false w t = by_test (is_word (codes "TRUE") w)
      (λ u. let f = sym (is_same (codes "TRUE") w u) ∙ is_same (codes "FALSE") w t in absurd (cc))
      (λ u. u)

  with_rest : (v : ℤ) → v ≡ capped_signed z → after_run text ≡ rest → ◌≡◌ {A = Option (ℤ × List ℕ)} (Some (v, after_run text)) (Some (capped_signed z, rest))
  with_rest v f g = rw (f, g) refl

  at : ((is_word (codes "TRUE") prefix ≡ true) × (z ≡ pos 1)) ⊎ (((is_word (codes "FALSE") prefix ≡ true) × (z ≡ pos 0)) ⊎ Numeric prefix z)
      → boolean_at text ≡ Some (capped_signed z, rest)
  at (inl k) =
      let u = run_is text prefix rest e (truth_words (codes "TRUE") prefix truth k.0) alive.ends in
      rw (subst (λ zs. is_word (codes "TRUE") zs ≡ true) (sym u.0) k.0) (with_rest (pos 1) (sym (ap capped_signed k.1)) u.1)
  at (inr (inl k)) =
      let u = run_is text prefix rest e (truth_words (codes "FALSE") prefix falsity k.0) alive.ends in
      let t = subst (λ zs. is_word (codes "FALSE") zs ≡ true) (sym u.0) k.0 in
      rw (not_true_false (run text) t, t) (with_rest (pos 0) (sym (ap capped_signed k.1)) u.1)
  at (inr (inr k)) =
      rw (none (codes "TRUE") truth k.no_true, none (codes "FALSE") falsity k.no_false) (signed_only text prefix rest z e k.reads alive) where
        none : (word : List ℕ) → Truth word → is_word word prefix ≡ false → is_word word (run text) ≡ false
        none word is no_prefix = by_test (is_word word (run text))
            (λ t. let u = run_is text prefix rest e (signed_truth word text prefix rest z is e k.reads t) alive.ends in
            not_both (subst (λ zs. is_word word zs ≡ true) u.0 t) no_prefix)
            (λ t. t)

-- ---- by the class of the type

-- what is read is the longest literal of the class
pub literal_found : (class : Class) (text rest : List ℕ) (v : ℤ) → literal_at class text ≡ Some (v, rest) → LiteralFound class text rest v
unfolding literal_at
literal_found Boolean text rest v h = boolean_found text rest v h
literal_found Integer text rest v h = signed_found text rest v h
literal_found BitString text rest v h = signed_found text rest v h
literal_found Duration text rest v h = absurd (cc)

-- a literal of the class that nothing continues is read
pub literal_only : (class : Class) (text prefix rest : List ℕ) (z : ℤ) → (class ≡ Duration → ⊥) → text ≡ prefix ++ rest → literal_read class true prefix ≡ Some z → Alive rest
    → literal_at class text ≡ Some (capped_signed z, rest)
unfolding literal_at
literal_only Boolean text prefix rest z n e h alive = boolean_only text prefix rest z e h alive
literal_only Integer text prefix rest z n e h alive = signed_only text prefix rest z e h alive
literal_only BitString text prefix rest z n e h alive = signed_only text prefix rest z e h alive
literal_only Duration text prefix rest z n e h alive = absurd (n refl)
