-- The token that is read at the start of a text is its longest prefix with a form, and no other is.
use Rattle.std.proofs.Common.{◌≡◌, ℕ, suc, ◌+◌, ◌<◌, ◌≤◌, List, [], ◌∷◌, ◌++◌, length, refl, sym, ap, ◌∙◌, true, false, subst, ◌⊎◌, inl, inr, arith, append_assoc, length-append}
use Rattle.std.specs.Prelude.{Option, Some, None, option_map, option_and_then, codes, ℤ}
use Rattle.std.specs.Char.{is_ascii_digit}
use Rattle.st_values.specs.declared.elem.Class.TheVariants.{Duration}
use Rattle.st_values.specs.declared.elem.Elem.{Elem}
use Rattle.st_values.specs.declared.elem.Elem.TheVariants as elems
use Rattle.st_values.specs.Durations.{signed_interval_read}
use Rattle.st_values.specs.Numbers.{capped, capped_signed}
use Rattle.st_values.specs.Readings.{literal_read}
use Rattle.st_values.specs.Types.{class_of, name_of}
use Rattle.st_values.specs.Words.{after, begins_with, is_word, AreWordBytes}
use Rattle.st_tokens.specs.declared.keyword.Keyword.{Keyword}
use Rattle.st_tokens.specs.declared.symbol.Symbol.{Symbol}
use Rattle.st_tokens.specs.declared.token.Kind.{Kind}
use Rattle.st_tokens.specs.declared.token.Kind.TheVariants as token_kinds
use Rattle.st_tokens.specs.Characters.{begins_word, BeginsWord}
use Rattle.st_tokens.specs.Forms.{HasForm, word, keyword, type_name, number, typed, duration, symbol, IsDurationWord, time_of}
use Rattle.st_tokens.specs.Scanning.{run, after_run, is_clean, single, double, number_at, signed_interval_at, number_found, literal_at, typed_at, typed_found, duration_at, duration_found, is_duration_word, prefixed_at, word_at, word_kind, kind_by, symbol_or, symbol_at, token_at}
use Rattle.st_tokens.specs.Symbols.{symbol_text}
use Rattle.st_tokens.specs.Text.{IsLongest, IsRefused}
use Rattle.st_tokens.specs.Words.{IsSame, IsWord, keyword_of, elem_of}
use Rattle.st_tokens.proofs.SignedIntervals.{signed_interval_found, signed_interval_only, time_of-capped}
use Rattle.st_tokens.proofs.Firsts.{form_begins, opens_text, only_number, only_symbol, only_word, Plain, Literal, Lasting, duration_name}
use Rattle.st_tokens.proofs.Literals.{literal_found, literal_only, is_same, same_test}
use Rattle.st_tokens.proofs.Marks.{IsDouble, IsSingle, symbol_cases, single_is, double_is}
use Rattle.st_tokens.proofs.Names.{keyword_is, short_no_elem, elem_found, elem_is, elem_name, name_word, word_words, not_unclean, not_reserved, begins_word_byte}
use Rattle.st_tokens.proofs.Numbers.{Found, number_is_found, number_only, hash_split, hash_run, hash_test, no_hash_test, tail_of}
use Rattle.st_tokens.proofs.Runs.{run_splits, run_words, run_is, words_in_run, words_append}
use Rattle.st_tokens.proofs.Cases.{by_test, not_both, some_parts}

-- a token stands at the start of the text
pub record IsToken (text prefix rest : List ℕ) (kind : Kind) : Type 0 where
  pub longest : IsLongest text prefix rest kind
  pub allowed : IsRefused kind rest → ⊥

-- some prefix is a token
abbrev pub TokenFound : List ℕ → Kind → List ℕ → Type 0
TokenFound text kind rest = (prefix : List ℕ) × IsToken text prefix rest kind

-- what is found in two steps
mapped : {A B : Type 0} (f : A → B) (o : Option A) (b : B) → option_map f o ≡ Some b → (a : A) × (o ≡ Some a) × (f a ≡ b)
mapped f None b h = absurd (cc)
mapped f (Some a) b h = (a, refl, let e : f a ≡ b = cc in e)

-- ---- numbers

-- what is read after a digit is a token
number_token : (b : ℕ) (bs rest : List ℕ) (kind : Kind) → is_ascii_digit b ≡ true → option_map number_found (number_at (b ∷ bs)) ≡ Some (kind, rest) → TokenFound (b ∷ bs) kind rest
number_token b bs rest kind d h =
    let m = mapped number_found (number_at (b ∷ bs)) (kind, rest) h in
    let f = number_is_found (b ∷ bs) m.0.1 m.0.0 m.1 in
    let kind_is : token_kinds.Number (capped f.value) ≡ kind = sym (ap (λ (n : ℕ). token_kinds.Number n) f.same) ∙ ap (λ (p : Kind × List ℕ). p.0) m.2 in
    let rest_is : m.0.1 ≡ rest = ap (λ (p : Kind × List ℕ). p.1) m.2 in
    subst (λ k. TokenFound (b ∷ bs) k rest) kind_is (subst (λ zs. TokenFound (b ∷ bs) (token_kinds.Number (capped f.value)) zs) rest_is (
      f.prefix,
      record {
        longest = record {
          splits = f.splits;
          form = number f.value f.reads;
          longest = λ other back k e form.
              let n = only_number b other k form (opens_text b bs other back k e form) d in f.longest other back n.0 e n.1;
        };
        allowed = f.ends;
      },
    ))

-- ---- words

-- a word has the form that the tables say
word_form : (w : List ℕ) → IsWord w → (k : Option Keyword) (e : Option Elem) → keyword_of w ≡ k → elem_of w ≡ e → HasForm w (kind_by w k e)
word_form w h (Some x) e i j = keyword (keyword_is w x i)
word_form w h None (Some x) i j = type_name (elem_is w x j)
word_form w h None None i j = word h (not_reserved w i j)

-- a word has the form of its kind
kind_form : (w : List ℕ) → IsWord w → HasForm w (word_kind w)
unfolding word_kind
kind_form w h = word_form w h (keyword_of w) (elem_of w) refl refl

-- a clean word that no `#` follows is no fault
word_allowed : (w rest : List ℕ) → is_clean w ≡ true → ((back : List ℕ) → rest ≡ 35 ∷ back → ⊥) → (k : Option Keyword) (e : Option Elem) → IsRefused (kind_by w k e) rest → ⊥
word_allowed w rest c n (Some x) e h = h
word_allowed w rest c n None (Some x) h = n h.1.0 h.1.1
word_allowed w rest c n None None (inl u) = not_unclean w c u
word_allowed w rest c n None None (inr u) = n u.1.0 u.1.1

-- the same of the kind of a word
kind_allowed : (w rest : List ℕ) → is_clean w ≡ true → ((back : List ℕ) → rest ≡ 35 ∷ back → ⊥) → IsRefused (word_kind w) rest → ⊥
unfolding word_kind
kind_allowed w rest c n h = word_allowed w rest c n (keyword_of w) (elem_of w) h

-- the run of a text that begins as a word is one
run_word : (b : ℕ) (bs : List ℕ) → begins_word b ≡ true → IsWord (run (b ∷ bs))
run_word b bs w = let e : run (b ∷ bs) ≡ b ∷ run bs = rw (begins_word_byte b w) refl in
    subst IsWord (sym e) (w, run_words bs)

-- where no `#` follows the run, no form is longer
plain_longest : (b : ℕ) (bs other back : List ℕ) (k : Kind) → begins_word b ≡ true → begins_with (codes "#") (after_run (b ∷ bs)) ≡ false
    → b ∷ bs ≡ other ++ back → HasForm other k → length other ≤ length (run (b ∷ bs))
plain_longest b bs other back k w t e form = at (only_word b other k form (opens_text b bs other back k e form) w) where
  hash : (name literal : List ℕ) → AreWordBytes name → other ≡ name ++ 35 ∷ literal → length other ≤ length (run (b ∷ bs))
  hash name literal words f =
      let r = hash_run (b ∷ bs) name literal back words (e ∙ ap (λ (zs : List ℕ). zs ++ back) f) in
      not_both (hash_test (b ∷ bs) (literal ++ back) r.1) t

  at : Plain other k ⊎ (Literal other k ⊎ Lasting other k) → length other ≤ length (run (b ∷ bs))
  at (inl p) = words_in_run (b ∷ bs) other back e (word_words other p.is_word)
  at (inr (inl p)) = hash p.name p.literal (word_words p.name (name_word p.name (elem_name p.name p.elem p.named))) p.splits
  at (inr (inr p)) = hash p.name p.literal (word_words p.name (name_word p.name (duration_name p.name p.named))) p.splits

-- a clean word that no `#` follows is a token
plain_token : (b : ℕ) (bs : List ℕ) → begins_word b ≡ true → begins_with (codes "#") (after_run (b ∷ bs)) ≡ false → is_clean (run (b ∷ bs)) ≡ true
    → TokenFound (b ∷ bs) (word_kind (run (b ∷ bs))) (after_run (b ∷ bs))
plain_token b bs w t c = (
  run (b ∷ bs),
  record {
    longest = record {
      splits = run_splits (b ∷ bs);
      form = kind_form (run (b ∷ bs)) (run_word b bs w);
      longest = λ other back k e form. plain_longest b bs other back k w t e form;
    };
    allowed = kind_allowed (run (b ∷ bs)) (after_run (b ∷ bs)) c
        (λ back e. not_both (hash_test (b ∷ bs) back e) t);
  },
)

-- ---- literals that begin with a word

-- the parts of a prefix that has the run, a `#` and more
pub record AfterHash (text other back name literal : List ℕ) : Type 0 where
  pub run_is : run text ≡ name
  pub tail_is : tail_of text ≡ literal ++ back
  pub size : length other ≡ length (run text) + suc (length literal)

-- a prefix with a `#` after a name has the run for its name
after_hash : (text other back name literal : List ℕ) → AreWordBytes name → text ≡ other ++ back → other ≡ name ++ 35 ∷ literal → AfterHash text other back name literal
after_hash text other back name literal words e f =
    let r = hash_run text name literal back words (e ∙ ap (λ (zs : List ℕ). zs ++ back) f) in
    let l = length-append name (35 ∷ literal) in let m = ap length f in let n = ap length r.0 in
    record { run_is = r.0; tail_is = ap (λ (zs : List ℕ). after (codes "#") zs) r.1; size = omega arith }

-- a prefix that reads after the run and `#`, where no other kind of literal begins so
prefixed_longest : {A B : Type 0} (read : List ℕ → Option A) (counts : A → B) (v : B) (b : ℕ) (bs rest : List ℕ) → begins_word b ≡ true
    → (f : Found read counts (tail_of (b ∷ bs)) rest v)
    → ((other : List ℕ) (k : Kind) (p : Literal other k) → p.name ≡ run (b ∷ bs) → (a : A) × (read p.literal ≡ Some a))
    → ((other : List ℕ) (k : Kind) (p : Lasting other k) → p.name ≡ run (b ∷ bs) → (a : A) × (read p.literal ≡ Some a))
    → (other back : List ℕ) (k : Kind) → b ∷ bs ≡ other ++ back → HasForm other k → length other ≤ length (run (b ∷ bs) ++ 35 ∷ f.prefix)
prefixed_longest read counts v b bs rest w f typed_reads lasting_reads other back k e form = at (only_word b other k form (opens_text b bs other back k e form) w) where
  whole : length (run (b ∷ bs) ++ 35 ∷ f.prefix) ≡ length (run (b ∷ bs)) + suc (length f.prefix)
  whole = length-append (run (b ∷ bs)) (35 ∷ f.prefix)

  at : Plain other k ⊎ (Literal other k ⊎ Lasting other k) → length other ≤ length (run (b ∷ bs) ++ 35 ∷ f.prefix)
  at (inl p) = let le = words_in_run (b ∷ bs) other back e (word_words other p.is_word) in let l = whole in omega arith
  at (inr (inl p)) =
      let h = after_hash (b ∷ bs) other back p.name p.literal (word_words p.name (name_word p.name (elem_name p.name p.elem p.named))) e p.splits in
      let r = typed_reads other k p (sym h.run_is) in
      let le = f.longest p.literal back r.0 h.tail_is r.1 in let l = whole in let s = h.size in omega arith
  at (inr (inr p)) =
      let h = after_hash (b ∷ bs) other back p.name p.literal (word_words p.name (name_word p.name (duration_name p.name p.named))) e p.splits in
      let r = lasting_reads other k p (sym h.run_is) in
      let le = f.longest p.literal back r.0 h.tail_is r.1 in let l = whole in let s = h.size in omega arith

-- a text is its run, a `#`, what was read, and the rest
prefixed_splits : (text prefix rest : List ℕ) → begins_with (codes "#") (after_run text) ≡ true → tail_of text ≡ prefix ++ rest → text ≡ (run text ++ 35 ∷ prefix) ++ rest
prefixed_splits text prefix rest t e =
    hash_split text t ∙ ap (λ (zs : List ℕ). run text ++ 35 ∷ zs) e ∙ sym (append_assoc (run text) (35 ∷ prefix) rest)

-- ---- which words begin a duration

-- a word that begins durations passes the test
duration_test : (w : List ℕ) → IsDurationWord w → is_duration_word w ≡ true
duration_test w (inl h) = let t = same_test (codes "T") w h in rw t refl
duration_test w (inr h) = let t = same_test (codes "TIME") w h in by_test (is_word (codes "T") w) (λ u. rw u refl) (λ u. rw (u, t) refl)

-- a word that passes the test begins durations
duration_word : (w : List ℕ) → is_duration_word w ≡ true → IsDurationWord w
duration_word w h = by_test (is_word (codes "T") w)
    (λ t. inl (is_same (codes "T") w t))
    (λ t. inr (is_same (codes "TIME") w (rw t at h)))

-- no type but TIME has such a name
not_typed : (w : List ℕ) (elem : Elem) → IsDurationWord w → IsSame w (name_of elem) → elem ≡ elems.Time
not_typed w elem (inl d) h = let none = short_no_elem w d in let some = elem_found w elem h in absurd (cc)
not_typed w elem (inr d) h = let time = elem_found w elems.Time d in let some = elem_found w elem h in cc

-- a duration that is read is a token
duration_token : (b : ℕ) (bs rest : List ℕ) (kind : Kind) → begins_word b ≡ true → begins_with (codes "#") (after_run (b ∷ bs)) ≡ true
    → is_duration_word (run (b ∷ bs)) ≡ true → duration_at (tail_of (b ∷ bs)) ≡ Some (kind, rest) → TokenFound (b ∷ bs) kind rest
unfolding duration_at
duration_token b bs rest kind w t d h =
    let m = mapped duration_found (signed_interval_at (tail_of (b ∷ bs))) (kind, rest) h in
    let f = signed_interval_found (tail_of (b ∷ bs)) m.0.1 m.0.0 m.1 in
    let is = duration_word (run (b ∷ bs)) d in
    let kind_is : token_kinds.Duration (time_of f.value) ≡ kind =
    ap (λ (n : ℤ). token_kinds.Duration n) (sym (time_of-capped f.value) ∙ ap time_of (sym f.same)) ∙ ap (λ (p : Kind × List ℕ). p.0) m.2 in
    let rest_is : m.0.1 ≡ rest = ap (λ (p : Kind × List ℕ). p.1) m.2 in
    subst (λ k. TokenFound (b ∷ bs) k rest) kind_is (subst (λ zs. TokenFound (b ∷ bs) (token_kinds.Duration (time_of f.value)) zs) rest_is (
      run (b ∷ bs) ++ 35 ∷ f.prefix,
      record {
        longest = record {
          splits = prefixed_splits (b ∷ bs) f.prefix m.0.1 t f.splits;
          form = duration (run (b ∷ bs)) f.prefix f.value is f.reads;
          longest = λ other back k e form. prefixed_longest signed_interval_read capped_signed m.0.0 b bs m.0.1 w f
              (λ o j p e. absurd (p.no_time (not_typed (run (b ∷ bs)) p.elem is (subst (λ zs. IsSame zs (name_of p.elem)) e p.named))))
              (λ o j p e. (p.number, p.reads)) other back k e form;
        };
        allowed = f.ends;
      },
    ))

-- a typed literal that is read is a token
typed_token : (b : ℕ) (bs rest : List ℕ) (kind : Kind) (elem : Elem) → begins_word b ≡ true → begins_with (codes "#") (after_run (b ∷ bs)) ≡ true
    → is_duration_word (run (b ∷ bs)) ≡ false → elem_of (run (b ∷ bs)) ≡ Some elem
    → option_map (typed_found elem) (literal_at (class_of elem) (tail_of (b ∷ bs))) ≡ Some (kind, rest) → TokenFound (b ∷ bs) kind rest
typed_token b bs rest kind elem w t d i h =
    let m = mapped (typed_found elem) (literal_at (class_of elem) (tail_of (b ∷ bs))) (kind, rest) h in
    let f = literal_found (class_of elem) (tail_of (b ∷ bs)) m.0.1 m.0.0 m.1 in
    let kind_is : token_kinds.Typed elem (capped_signed f.value) ≡ kind =
    ap (λ (n : ℤ). token_kinds.Typed elem n) (sym f.same) ∙ ap (λ (p : Kind × List ℕ). p.0) m.2 in
    let rest_is : m.0.1 ≡ rest = ap (λ (p : Kind × List ℕ). p.1) m.2 in
    subst (λ k. TokenFound (b ∷ bs) k rest) kind_is (subst (λ zs. TokenFound (b ∷ bs) (token_kinds.Typed elem (capped_signed f.value)) zs) rest_is (
      run (b ∷ bs) ++ 35 ∷ f.prefix,
      record {
        longest = record {
          splits = prefixed_splits (b ∷ bs) f.prefix m.0.1 t f.splits;
          form = typed (run (b ∷ bs)) f.prefix elem f.value named no_time f.reads;
          longest = λ other back k e form. prefixed_longest (literal_read (class_of elem) true) capped_signed m.0.0 b bs m.0.1 w f
              (λ o j p e. (p.number, reads o j p e)) (λ o j p e. absurd (no_duration (subst IsDurationWord e p.named))) other back k e form;
        };
        allowed = f.ends;
      },
    )) where
      named : IsSame (run (b ∷ bs)) (name_of elem)
      named = elem_is (run (b ∷ bs)) elem i

      no_duration : IsDurationWord (run (b ∷ bs)) → ⊥
      no_duration k = not_both (duration_test (run (b ∷ bs)) k) d

      no_time : elem ≡ elems.Time → ⊥
      no_time e = no_duration (inr (subst (λ x. IsSame (run (b ∷ bs)) (name_of x)) e named))

      reads : (other : List ℕ) (k : Kind) (p : Literal other k) → p.name ≡ run (b ∷ bs) → literal_read (class_of elem) true p.literal ≡ Some p.number
      reads other k p e =
          let one = elem_found (run (b ∷ bs)) p.elem (subst (λ zs. IsSame zs (name_of p.elem)) e p.named) in
          let same : p.elem ≡ elem = cc in subst (λ x. literal_read (class_of x) true p.literal ≡ Some p.number) same p.reads

-- a literal that begins with a word is a token
prefixed_token : (b : ℕ) (bs rest : List ℕ) (kind : Kind) → begins_word b ≡ true → begins_with (codes "#") (after_run (b ∷ bs)) ≡ true
    → prefixed_at (run (b ∷ bs)) (tail_of (b ∷ bs)) ≡ Some (kind, rest) → TokenFound (b ∷ bs) kind rest
unfolding prefixed_at typed_at
prefixed_token b bs rest kind w t h = by_test (is_duration_word (run (b ∷ bs)))
    (λ d. duration_token b bs rest kind w t d (rw d at h))
    (λ d. by_elem d (elem_of (run (b ∷ bs))) refl (rw d at h)) where
      by_elem : is_duration_word (run (b ∷ bs)) ≡ false → (o : Option Elem) → elem_of (run (b ∷ bs)) ≡ o
          → option_and_then (λ elem. option_map (typed_found elem) (literal_at (class_of elem) (tail_of (b ∷ bs)))) o ≡ Some (kind, rest) → TokenFound (b ∷ bs) kind rest
      by_elem d None i g = absurd (cc)
      by_elem d (Some elem) i g = typed_token b bs rest kind elem w t d i g

-- what is read after a letter or `_` is a token
word_token : (b : ℕ) (bs rest : List ℕ) (kind : Kind) → begins_word b ≡ true → word_at (b ∷ bs) ≡ Some (kind, rest) → TokenFound (b ∷ bs) kind rest
unfolding word_at
word_token b bs rest kind w h = by_test (begins_with (codes "#") (after_run (b ∷ bs)))
    (λ t. prefixed_token b bs rest kind w t (rw t at h))
    (λ t. by_test (is_clean (run (b ∷ bs)))
    (λ c. let p = some_parts (rw (t, c) at h) in
    subst (λ k. TokenFound (b ∷ bs) k rest) p.0 (subst (λ zs. TokenFound (b ∷ bs) (word_kind (run (b ∷ bs))) zs) p.1 (plain_token b bs w t c)))
    (λ c. let h' : ◌≡◌ {A = Option (Kind × List ℕ)} None (Some (kind, rest)) = rw (t, c) at h in absurd (cc)))

-- ---- symbols

-- where no symbol of two bytes stands, none is longer than a byte
abbrev NoDouble : ℕ → List ℕ → Type 0
NoDouble b bs = (c : ℕ) (back : List ℕ) (y : Symbol) → bs ≡ c ∷ back → double b c ≡ Some y → ⊥

-- a symbol has two bytes at most
symbol_size : (b : ℕ) (bs back : List ℕ) (x : Symbol) → b ∷ bs ≡ symbol_text x ++ back → length (symbol_text x) ≤ 2
symbol_size b bs back x e = at (symbol_cases x) where
  at : IsDouble x ⊎ IsSingle x → length (symbol_text x) ≤ 2
  at (inl d) = let l = ap length d.text in omega arith
  at (inr d) = let l = ap length d.text in omega arith

-- where no symbol of two bytes stands, it has one
single_size : (b : ℕ) (bs back : List ℕ) (x : Symbol) → NoDouble b bs → b ∷ bs ≡ symbol_text x ++ back → length (symbol_text x) ≤ 1
single_size b bs back x none e = at (symbol_cases x) where
  at : IsDouble x ⊎ IsSingle x → length (symbol_text x) ≤ 1
  at (inl d) =
      let f : b ∷ bs ≡ d.first ∷ d.second ∷ back = e ∙ ap (λ (zs : List ℕ). zs ++ back) d.text in
      let same : b ≡ d.first = cc in let more : bs ≡ d.second ∷ back = cc in
      absurd (none d.second back x more (subst (λ y. double y d.second ≡ Some x) (sym same) d.found))
  at (inr d) = let l = ap length d.text in omega arith

-- a symbol that is the longest is a token
symbol_token : (b : ℕ) (bs rest : List ℕ) (x : Symbol) → is_ascii_digit b ≡ false → begins_word b ≡ false → b ∷ bs ≡ symbol_text x ++ rest
    → ((back : List ℕ) (y : Symbol) → b ∷ bs ≡ symbol_text y ++ back → length (symbol_text y) ≤ length (symbol_text x)) → TokenFound (b ∷ bs) (token_kinds.Symbol x) rest
symbol_token b bs rest x d w e longest = (
  symbol_text x,
  record {
    longest = record {
      splits = e;
      form = symbol x;
      longest = λ other back k f form. let o = only_symbol b other k form (opens_text b bs other back k f form) d w in
          let le = longest back o.0 (f ∙ ap (λ (zs : List ℕ). zs ++ back) o.1) in let l = ap length o.1 in omega arith;
    };
    allowed = λ h. h;
  },
)

-- a symbol of one byte
single_token : (b : ℕ) (bs rest : List ℕ) (kind : Kind) (o : Option Symbol) → is_ascii_digit b ≡ false → begins_word b ≡ false → NoDouble b bs
    → single b ≡ o → symbol_or o bs None ≡ Some (kind, rest) → TokenFound (b ∷ bs) kind rest
single_token b bs rest kind None d w none e h = absurd (cc)
single_token b bs rest kind (Some x) d w none e h = let p = some_parts h in let t = single_is b x e in
    subst (λ k. TokenFound (b ∷ bs) k rest) p.0 (subst (λ zs. TokenFound (b ∷ bs) (token_kinds.Symbol x) zs) p.1
    (symbol_token b bs bs x d w (sym (ap (λ (zs : List ℕ). zs ++ bs) t))
    (λ back y f. let le = single_size b bs back y none f in let l = ap length t in omega arith)))

-- a symbol of two bytes, else one of one
double_token : (b c : ℕ) (bs rest : List ℕ) (kind : Kind) (o : Option Symbol) → is_ascii_digit b ≡ false → begins_word b ≡ false
    → double b c ≡ o → symbol_or o bs (symbol_or (single b) (c ∷ bs) None) ≡ Some (kind, rest) → TokenFound (b ∷ c ∷ bs) kind rest
double_token b c bs rest kind None d w e h = single_token b (c ∷ bs) rest kind (single b) d w
    (λ a back y f g. let same : c ≡ a = cc in let g' = subst (λ z. double b z ≡ Some y) (sym same) g in cc) refl h
double_token b c bs rest kind (Some x) d w e h = let p = some_parts h in let t = double_is b c x e in
    subst (λ k. TokenFound (b ∷ c ∷ bs) k rest) p.0 (subst (λ zs. TokenFound (b ∷ c ∷ bs) (token_kinds.Symbol x) zs) p.1
    (symbol_token b (c ∷ bs) bs x d w (sym (ap (λ (zs : List ℕ). zs ++ bs) t))
    (λ back y f. let le = symbol_size b (c ∷ bs) back y f in let l = ap length t in omega arith)))

-- what is read after another byte is a token
symbols_token : (b : ℕ) (bs rest : List ℕ) (kind : Kind) → is_ascii_digit b ≡ false → begins_word b ≡ false → symbol_at (b ∷ bs) ≡ Some (kind, rest) → TokenFound (b ∷ bs) kind rest
unfolding symbol_at
symbols_token b [] rest kind d w h = single_token b [] rest kind (single b) d w (λ c back y f g. cc) refl h
symbols_token b (c ∷ bs) rest kind d w h = double_token b c bs rest kind (double b c) d w refl h

-- ---- a token at the start

-- what is read at the start of a text is a token
pub token_found : (text : List ℕ) (kind : Kind) (rest : List ℕ) → token_at text ≡ Some (kind, rest) → TokenFound text kind rest
unfolding token_at symbol_at
token_found [] kind rest h = absurd (cc)
token_found (b ∷ bs) kind rest h = by_test (is_ascii_digit b)
    (λ d. number_token b bs rest kind d (rw d at h))
    (λ d. by_test (begins_word b)
    (λ w. word_token b bs rest kind w (rw (d, w) at h))
    (λ w. symbols_token b bs rest kind d w (rw (d, w) at h)))

-- ---- and no other

-- the same kind
pair_some : (f : Kind) (g : Kind) (rest : List ℕ) → f ≡ g → ◌≡◌ {A = Option (Kind × List ℕ)} (Some (f, rest)) (Some (g, rest))
pair_some f g rest e = ap (λ (k : Kind). let r : Option (Kind × List ℕ) = Some (k, rest) in r) e

-- a token that begins with a digit is read
number_is_only : (b : ℕ) (bs prefix rest : List ℕ) (kind : Kind) → IsToken (b ∷ bs) prefix rest kind → ((back : List ℕ) → rest ≡ 35 ∷ back → ⊥) → is_ascii_digit b ≡ true
    → option_map number_found (number_at (b ∷ bs)) ≡ Some (kind, rest)
number_is_only b bs prefix rest kind h alive d =
    let n = only_number b prefix kind h.longest.form (opens_text b bs prefix rest kind h.longest.splits h.longest.form) d in
    let allowed = subst (λ k. IsRefused k rest → ⊥) n.2 h.allowed in
    let found = number_only (b ∷ bs) prefix rest n.0 h.longest.splits n.1 (record { ends = allowed; no_hash = alive }) in
    ap (option_map number_found) found ∙ pair_some (token_kinds.Number (capped n.0)) kind rest (sym n.2)

-- a word that is the longest form doesn't go on
word_ends : (b : ℕ) (bs prefix rest : List ℕ) (kind : Kind) → IsToken (b ∷ bs) prefix rest kind → IsWord prefix → BeginsWord rest → ⊥
word_ends b bs prefix [] kind h is ends = ends
word_ends b bs prefix (c ∷ rest) kind h is ends =
    let le = h.longest.longest (prefix ++ c ∷ []) rest (word_kind (prefix ++ c ∷ [])) (h.longest.splits ∙ sym (append_assoc prefix (c ∷ []) rest))
    (kind_form (prefix ++ c ∷ []) (longer prefix is)) in
    let l = length-append prefix (c ∷ []) in absurd (omega arith) where
      longer : (w : List ℕ) → IsWord w → IsWord (w ++ c ∷ [])
      longer [] k = absurd k
      longer (x ∷ w) k = (k.0, words_append w (c ∷ []) k.1 (ends, tt))

-- a token that is a word is read
plain_only : (b : ℕ) (bs prefix rest : List ℕ) (kind : Kind) → IsToken (b ∷ bs) prefix rest kind → ((back : List ℕ) → rest ≡ 35 ∷ back → ⊥) → Plain prefix kind
    → word_at (b ∷ bs) ≡ Some (kind, rest)
unfolding word_at
plain_only b bs prefix rest kind h alive p =
    let u = run_is (b ∷ bs) prefix rest h.longest.splits (word_words prefix p.is_word) (word_ends b bs prefix rest kind h p.is_word) in
    let t = no_hash_test (b ∷ bs) (λ back e. alive back (sym u.1 ∙ e)) in
    let c = subst (λ zs. is_clean zs ≡ true) (sym u.0) (p.clean_where rest h.allowed) in
    let kind_is : word_kind (run (b ∷ bs)) ≡ kind = ap word_kind u.0 ∙ p.kind_is in
    rw (t, c) (pair_some (word_kind (run (b ∷ bs))) kind (after_run (b ∷ bs)) kind_is ∙ ap (λ (zs : List ℕ). let r : Option (Kind × List ℕ) = Some (kind, zs) in r) u.1)

-- only TIME is written as a duration
no_duration_class : (elem : Elem) → (elem ≡ elems.Time → ⊥) → class_of elem ≡ Duration → ⊥
no_duration_class elems.Time n h = n refl
no_duration_class elems.Bool n h = cc
no_duration_class elems.Sint n h = cc
no_duration_class elems.Int n h = cc
no_duration_class elems.Dint n h = cc
no_duration_class elems.Lint n h = cc
no_duration_class elems.Usint n h = cc
no_duration_class elems.Uint n h = cc
no_duration_class elems.Udint n h = cc
no_duration_class elems.Ulint n h = cc
no_duration_class elems.Byte n h = cc
no_duration_class elems.Word n h = cc
no_duration_class elems.Dword n h = cc
no_duration_class elems.Lword n h = cc

-- a token that is a typed literal is read
literal_is_only : (b : ℕ) (bs prefix rest : List ℕ) (kind : Kind) → IsToken (b ∷ bs) prefix rest kind → ((back : List ℕ) → rest ≡ 35 ∷ back → ⊥) → (p : Literal prefix kind)
    → word_at (b ∷ bs) ≡ Some (kind, rest)
unfolding word_at prefixed_at typed_at
literal_is_only b bs prefix rest kind h alive p =
    let words = word_words p.name (name_word p.name (elem_name p.name p.elem p.named)) in
    let k = after_hash (b ∷ bs) prefix rest p.name p.literal words h.longest.splits p.splits in
    let r = hash_run (b ∷ bs) p.name p.literal rest words (h.longest.splits ∙ ap (λ (zs : List ℕ). zs ++ rest) p.splits) in
    let t = hash_test (b ∷ bs) (p.literal ++ rest) r.1 in
    let named = subst (λ zs. IsSame zs (name_of p.elem)) (sym k.run_is) p.named in
    let d : is_duration_word (run (b ∷ bs)) ≡ false = by_test (is_duration_word (run (b ∷ bs)))
    (λ t. absurd (p.no_time (not_typed (run (b ∷ bs)) p.elem (duration_word (run (b ∷ bs)) t) named))) (λ t. t) in
    let allowed = subst (λ j. IsRefused j rest → ⊥) p.kind_is h.allowed in
    let found = literal_only (class_of p.elem) (tail_of (b ∷ bs)) p.literal rest p.number (no_duration_class p.elem p.no_time) k.tail_is p.reads (record { ends = allowed; no_hash = alive }) in
    let i = elem_found (run (b ∷ bs)) p.elem named in
    rw (t, d) (ap (λ (o : Option Elem). option_and_then (λ elem. option_map (typed_found elem) (literal_at (class_of elem) (tail_of (b ∷ bs)))) o) i
    ∙ ap (option_map (typed_found p.elem)) found ∙ pair_some (token_kinds.Typed p.elem (capped_signed p.number)) kind rest (sym p.kind_is))

-- a token that is a duration is read
lasting_is_only : (b : ℕ) (bs prefix rest : List ℕ) (kind : Kind) → IsToken (b ∷ bs) prefix rest kind → ((back : List ℕ) → rest ≡ 35 ∷ back → ⊥) → (p : Lasting prefix kind)
    → word_at (b ∷ bs) ≡ Some (kind, rest)
unfolding word_at prefixed_at duration_at
lasting_is_only b bs prefix rest kind h alive p =
    let words = word_words p.name (name_word p.name (duration_name p.name p.named)) in
    let k = after_hash (b ∷ bs) prefix rest p.name p.literal words h.longest.splits p.splits in
    let r = hash_run (b ∷ bs) p.name p.literal rest words (h.longest.splits ∙ ap (λ (zs : List ℕ). zs ++ rest) p.splits) in
    let t = hash_test (b ∷ bs) (p.literal ++ rest) r.1 in
    let d = duration_test (run (b ∷ bs)) (subst IsDurationWord (sym k.run_is) p.named) in
    let allowed = subst (λ j. IsRefused j rest → ⊥) p.kind_is h.allowed in
    let found = signed_interval_only (tail_of (b ∷ bs)) p.literal rest p.number k.tail_is p.reads (record { ends = allowed; no_hash = alive }) in
    rw (t, d) (ap (option_map duration_found) found
    ∙ pair_some (token_kinds.Duration (time_of (capped_signed p.number))) kind rest (ap (λ (n : ℤ). token_kinds.Duration n) (time_of-capped p.number) ∙ sym p.kind_is))

-- a token that begins with a letter or `_` is read
word_is_only : (b : ℕ) (bs prefix rest : List ℕ) (kind : Kind) → IsToken (b ∷ bs) prefix rest kind → ((back : List ℕ) → rest ≡ 35 ∷ back → ⊥) → begins_word b ≡ true
    → word_at (b ∷ bs) ≡ Some (kind, rest)
word_is_only b bs prefix rest kind h alive w = at (only_word b prefix kind h.longest.form (opens_text b bs prefix rest kind h.longest.splits h.longest.form) w) where
  at : Plain prefix kind ⊎ (Literal prefix kind ⊎ Lasting prefix kind) → word_at (b ∷ bs) ≡ Some (kind, rest)
  at (inl p) = plain_only b bs prefix rest kind h alive p
  at (inr (inl p)) = literal_is_only b bs prefix rest kind h alive p
  at (inr (inr p)) = lasting_is_only b bs prefix rest kind h alive p

-- a symbol of two bytes is read
double_only : (x : Symbol) (b c : ℕ) (rest : List ℕ) → double b c ≡ Some x → symbol_at (b ∷ c ∷ rest) ≡ Some (token_kinds.Symbol x, rest)
unfolding symbol_at
double_only x b c rest h = ap (λ (o : Option Symbol). symbol_or o rest (symbol_or (single b) (c ∷ rest) None)) h

-- a symbol of one byte is read, where none of two stands
single_only : (x : Symbol) (b : ℕ) (rest : List ℕ) → single b ≡ Some x → ((c : ℕ) (back : List ℕ) → rest ≡ c ∷ back → double b c ≡ None) → symbol_at (b ∷ rest) ≡ Some (token_kinds.Symbol x, rest)
unfolding symbol_at
single_only x b [] h none = ap (λ (o : Option Symbol). symbol_or o [] None) h
single_only x b (c ∷ rest) h none = ap (λ (o : Option Symbol). symbol_or o rest (symbol_or (single b) (c ∷ rest) None)) (none c rest refl)
    ∙ ap (λ (o : Option Symbol). symbol_or o (c ∷ rest) None) h

-- a token that begins with another byte is read
symbol_is_only : (b : ℕ) (bs prefix rest : List ℕ) (kind : Kind) → IsToken (b ∷ bs) prefix rest kind → is_ascii_digit b ≡ false → begins_word b ≡ false
    → symbol_at (b ∷ bs) ≡ Some (kind, rest)
symbol_is_only b bs prefix rest kind h d w = at (only_symbol b prefix kind h.longest.form (opens_text b bs prefix rest kind h.longest.splits h.longest.form) d w) where
  text_is : (x : Symbol) → prefix ≡ symbol_text x → (text : List ℕ) → symbol_text x ≡ text → b ∷ bs ≡ text ++ rest
  text_is x e text f = h.longest.splits ∙ ap (λ (zs : List ℕ). zs ++ rest) (e ∙ f)

  no_double : (x : Symbol) (s : IsSingle x) → prefix ≡ symbol_text x → (c : ℕ) (back : List ℕ) → rest ≡ c ∷ back → (o : Option Symbol) → double s.byte c ≡ o → o ≡ None
  no_double x s e c back g None i = refl
  no_double x s e c back g (Some y) i =
      let t = double_is s.byte c y i in
      let text = text_is x e (s.byte ∷ []) s.text ∙ ap (λ (zs : List ℕ). s.byte ∷ zs) g in
      let le = h.longest.longest (symbol_text y) back (token_kinds.Symbol y) (text ∙ sym (ap (λ (zs : List ℕ). zs ++ back) t)) (symbol y) in
      let l = ap length t in let m = ap length (e ∙ s.text) in absurd (omega arith)

  by_case : (x : Symbol) → prefix ≡ symbol_text x → IsDouble x ⊎ IsSingle x → symbol_at (b ∷ bs) ≡ Some (token_kinds.Symbol x, rest)
  by_case x e (inl s) = subst (λ zs. symbol_at zs ≡ Some (token_kinds.Symbol x, rest)) (sym (text_is x e (s.first ∷ s.second ∷ []) s.text)) (double_only x s.first s.second rest s.found)
  by_case x e (inr s) = subst (λ zs. symbol_at zs ≡ Some (token_kinds.Symbol x, rest)) (sym (text_is x e (s.byte ∷ []) s.text))
      (single_only x s.byte rest s.found (λ c back g. no_double x s e c back g (double s.byte c) refl))

  at : (x : Symbol) × (prefix ≡ symbol_text x) × (kind ≡ token_kinds.Symbol x) → symbol_at (b ∷ bs) ≡ Some (kind, rest)
  at o = by_case o.0 o.1 (symbol_cases o.0) ∙ pair_some (token_kinds.Symbol o.0) kind rest (sym o.2)

-- a token at the start of a text is what is read, where no `#` follows
pub only : (text prefix rest : List ℕ) (kind : Kind) → IsToken text prefix rest kind → ((back : List ℕ) → rest ≡ 35 ∷ back → ⊥) → token_at text ≡ Some (kind, rest)
unfolding token_at
only [] prefix rest kind h alive =
    let w = form_begins prefix kind h.longest.form in
    let e : [] ≡ w.0 ∷ (w.1 ++ rest) = h.longest.splits ∙ ap (λ (zs : List ℕ). zs ++ rest) w.2 in absurd (cc)
only (b ∷ bs) prefix rest kind h alive = by_test (is_ascii_digit b)
    (λ d. rw d (number_is_only b bs prefix rest kind h alive d))
    (λ d. by_test (begins_word b)
    (λ w. rw (d, w) (word_is_only b bs prefix rest kind h alive w))
    (λ w. rw (d, w) (symbol_is_only b bs prefix rest kind h d w)))

-- an empty text has no token at its prefix
pub token_at-empty : (text : List ℕ) → length text < 1 → token_at text ≡ None
unfolding token_at symbol_at
token_at-empty [] h = refl
token_at-empty (b ∷ bs) h = absurd (omega arith)
