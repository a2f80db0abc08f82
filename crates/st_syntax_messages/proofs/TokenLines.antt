-- A token ends no line, so each one stands on the line that it has.
use Rattle.std.proofs.Common.{◌≡◌, ℕ, ◌-◌, ◌≤◌, List, [], ◌∷◌, ◌++◌, length, take, true, refl, sym, ap, ◌∙◌, subst, arith, append_assoc, length-append, inl, inr, ◌⊎◌, drop}
use Rattle.std.proofs.lemmas.List.{take_at}
use Rattle.std.proofs.lemmas.List.Sums.{sum_by-append, sum_by_push}
use Rattle.std.specs.List.{sum_by}
use Rattle.std.specs.Prelude.{Some, codes, option_map, ◌==◌, ℤ, pos, slice_index}
use Rattle.st_values.specs.declared.elem.Class.{Class}
use Rattle.st_values.specs.declared.elem.Class.TheVariants.{Boolean}
use Rattle.st_values.specs.Durations.{interval_read, signed_interval_read}
use Rattle.st_values.specs.Numbers.{digits_read, negative, number_read}
use Rattle.st_values.specs.Readings.{literal_read, signed_read}
use Rattle.st_values.specs.Types.{class_of}
use Rattle.st_values.specs.Words.{AreWordBytes, is_word, is_word_byte}
use Rattle.st_tokens.specs.declared.symbol.Symbol.{Symbol}
use Rattle.st_tokens.specs.declared.symbol.Symbol.TheVariants as symbols
use Rattle.st_tokens.specs.declared.token.Kind.{Kind}
use Rattle.st_tokens.specs.declared.token.Token.{Token}
use Rattle.st_tokens.specs.Characters.{line_end, line_ends}
use Rattle.st_tokens.specs.Forms.{HasForm, duration, keyword, number, symbol, type_name, typed, word}
use Rattle.st_tokens.specs.Symbols.{symbol_text}
use Rattle.st_tokens.specs.Text.{Tokens, token as token_on}
use Rattle.st_tokens.proofs.Cases.{by_test, is_equal}
use Rattle.st_tokens.proofs.Firsts.{duration_name}
use Rattle.st_tokens.proofs.Intervals.{Split, Whole, interval_shape}
use Rattle.st_tokens.proofs.Literals.{first_is, is_same, mapped_some}
use Rattle.st_tokens.proofs.Names.{elem_name, is_name, keyword_name, name_word, same_name, word_words}
use Rattle.st_tokens.proofs.Numbers.{Based, base_cases, base_words, number_shape, read_words}
use Rattle.st_messages.specs.declared.lexeme.Lexeme.{Lexeme}
use Rattle.st_messages.specs.Lexemes.{HasLexemes, blank, comment, done, next}
use Rattle.st_messages.specs.Places.{line_after, line_at}
use Rattle.st_syntax_messages.specs.Stopped.{start_at}

-- no line ends in these bytes
abbrev Flat : List ℕ → Type 0
Flat bs = sum_by line_end bs ≡ 0

flat_append : (a b : List ℕ) → Flat a → Flat b → Flat (a ++ b)
flat_append a b f g = let k = sum_by-append line_end a b in omega (arith, k, f, g)

flat_words : (bs : List ℕ) → AreWordBytes bs → Flat bs
flat_words [] h = refl
flat_words (b ∷ bs) h = let f : Flat (b ∷ []) = one b h.0 in let g = flat_words bs h.1 in flat_append (b ∷ []) bs f g where
  one : (b : ℕ) → is_word_byte b ≡ true → Flat (b ∷ [])
  one b w = by_test (b == 10)
      (λ t. absurd (let wrong : is_word_byte 10 ≡ true = subst (λ (c : ℕ). is_word_byte c ≡ true) (is_equal b 10 t) w in cc))
      (λ t. rw t refl)

flat_name : (w : List ℕ) → is_name w ≡ true → Flat w
flat_name w h = flat_words w (word_words w (name_word w h))

-- bytes on both sides of one that ends no line
flat_around : (c : ℕ) (a b : List ℕ) → Flat (c ∷ []) → Flat a → Flat b → Flat (a ++ c ∷ b)
flat_around c a b f g h = flat_append a (c ∷ b) g (flat_append (c ∷ []) b f h)

flat_digits : (text : List ℕ) (n : ℕ) → digits_read 10 text ≡ Some n → Flat text
flat_digits text n h = flat_words text (read_words 10 text n (omega arith) h)

flat_number : (text : List ℕ) (n : ℕ) → number_read text ≡ Some n → Flat text
flat_number text n h = by (number_shape text n h) where
  by : (digits_read 10 text ≡ Some n) ⊎ Based text n → Flat text
  by (inl d) = flat_digits text n d
  by (inr b) = subst Flat (sym b.splits) (flat_around 35 b.word b.more refl (flat_words b.word (base_words b.word b.base b.named))
      (flat_words b.more (read_words b.base b.more n (base_cases (λ m zs. m ≤ 16) b.word b.base b.named (omega arith) (omega arith) (omega arith)) b.reads)))

-- behind a sign
flat_signed : (sign : ℕ) (text : List ℕ) → Flat (sign ∷ []) → text ≡ sign ∷ drop 1 text → Flat (drop 1 text) → Flat text
flat_signed sign text f e g = subst Flat (sym e) (flat_append (sign ∷ []) (drop 1 text) f g)

flat_integer : (text : List ℕ) (z : ℤ) → signed_read true text ≡ Some z → Flat text
flat_integer text z h = by_test (slice_index text 0 == 45)
    (λ t. let g : option_map negative (digits_read 10 (drop 1 text)) ≡ Some z = rw t at h in
    let d = mapped_some negative (digits_read 10 (drop 1 text)) z g in flat_signed 45 text refl (first_is 45 text refl t) (flat_digits (drop 1 text) d.0 d.1))
    (λ t. by_test (slice_index text 0 == 43)
    (λ u. let g : option_map pos (digits_read 10 (drop 1 text)) ≡ Some z = rw (t, u) at h in
    let d = mapped_some pos (digits_read 10 (drop 1 text)) z g in flat_signed 43 text refl (first_is 43 text refl u) (flat_digits (drop 1 text) d.0 d.1))
    (λ u. let g : option_map pos (number_read text) ≡ Some z = rw (t, u) at h in
    let d = mapped_some pos (number_read text) z g in flat_number text d.0 d.1))

flat_literal : (class : Class) (text : List ℕ) (z : ℤ) → literal_read class true text ≡ Some z → Flat text
flat_literal Boolean text z h = by_test (is_word (codes "TRUE") text)
    (λ t. flat_name text (same_name text (codes "TRUE") (is_same (codes "TRUE") text t) refl))
    (λ t. by_test (is_word (codes "FALSE") text)
    (λ u. flat_name text (same_name text (codes "FALSE") (is_same (codes "FALSE") text u) refl))
    (λ u. flat_integer text z (rw (t, u) at h)))
flat_literal _ text z h = flat_integer text z h

flat_interval : (text : List ℕ) (n : ℕ) → interval_read text ≡ Some n → Flat text
flat_interval text n h = by (interval_shape text n h) where
  by : Whole text ⊎ Split text → Flat text
  by (inl w) = flat_words text w.words
  by (inr s) = subst Flat (sym s.splits) (flat_around 46 s.prefix s.back refl (flat_words s.prefix s.prefix_words) (flat_words s.back s.back_words))

flat_duration : (text : List ℕ) (z : ℤ) → signed_interval_read text ≡ Some z → Flat text
flat_duration text z h = by_test (slice_index text 0 == 45)
    (λ t. let g : option_map negative (interval_read (drop 1 text)) ≡ Some z = rw t at h in
    let d = mapped_some negative (interval_read (drop 1 text)) z g in flat_signed 45 text refl (first_is 45 text refl t) (flat_interval (drop 1 text) d.0 d.1))
    (λ t. let g : option_map pos (interval_read text) ≡ Some z = rw t at h in
    let d = mapped_some pos (interval_read text) z g in flat_interval text d.0 d.1)

flat_symbol : (x : Symbol) → Flat (symbol_text x)
flat_symbol symbols.Assign = refl
flat_symbol _ = refl

-- no line ends in a token
flat_form : (prefix : List ℕ) (kind : Kind) → HasForm prefix kind → Flat prefix
flat_form prefix kind (word {w = w} h n) = flat_words w (word_words w h)
flat_form prefix kind (keyword {w = w} {x = x} h) = flat_name w (keyword_name w x h)
flat_form prefix kind (type_name {w = w} {elem = elem} h) = flat_name w (elem_name w elem h)
flat_form prefix kind (number {digits = digits} n h) = flat_number digits n h
flat_form prefix kind (typed name literal elem n h k r) = flat_around 35 name literal refl (flat_name name (elem_name name elem h)) (flat_literal (class_of elem) literal n r)
flat_form prefix kind (duration name literal ms h r) = flat_around 35 name literal refl (flat_name name (duration_name name h)) (flat_duration literal ms r)
flat_form prefix kind (symbol x) = flat_symbol x

ends_are : (bs : List ℕ) → line_ends bs ≡ sum_by line_end bs
ends_are [] = refl
ends_are (b ∷ bs) = let k = ends_are bs in let e = sum_by-append line_end (b ∷ []) bs in let f = sum_by_push line_end [] b in omega (arith, k, e, f)

module _ (text : List ℕ) where
  -- the token of a number stands on its line
  line_of : {line : ℕ} {rest : List ℕ} {ts : Tokens} {ls : List Lexeme} → HasLexemes (length text) line rest ts ls
      → (pre : List ℕ) → text ≡ pre ++ rest → line ≡ line_after pre
      → (before : Tokens) (token : Token) (behind : Tokens) → ts ≡ before ++ token ∷ behind → line_at text (start_at ls (length before)) ≡ token.line
  line_of done pre splits here [] token behind e = absurd (cc)
  line_of done pre splits here (t ∷ before) token behind e = absurd (cc)
  line_of (blank {line = line} {b = b} {rest = rest} is d) pre splits here before token behind e =
      let k = sum_by_push line_end pre b in
      line_of d (pre ++ b ∷ []) (splits ∙ sym (append_assoc pre (b ∷ []) rest)) (omega (arith, k, here)) before token behind e
  line_of (comment {line = line} {body = body} {rest = rest} c d) pre splits here before token behind e =
      let a = sum_by-append line_end pre (codes "(*" ++ (body ++ codes "*)")) in
      let f : sum_by line_end (codes "(*" ++ (body ++ codes "*)")) ≡ sum_by line_end body =
      let g = sum_by-append line_end (codes "(*") (body ++ codes "*)") in let h = sum_by-append line_end body (codes "*)") in
      let i : sum_by line_end (codes "(*") ≡ 0 = refl in let j : sum_by line_end (codes "*)") ≡ 0 = refl in omega (arith, g, h, i, j) in
      let k = ends_are body in
      line_of d (pre ++ (codes "(*" ++ (body ++ codes "*)")))
      (splits ∙ ap (λ zs. pre ++ zs) (c.splits ∙ ap (λ zs. codes "(*" ++ zs) (sym (append_assoc body (codes "*)") rest))) ∙ sym (append_assoc pre (codes "(*" ++ (body ++ codes "*)")) rest))
      (omega (arith, a, f, k, here)) before token behind e
  line_of (next {line = line} {text = left} {kind = kind} plain is allowed d) pre splits here [] token behind e =
      let same : token_on line kind ≡ token = cc in
      let sizes = ap length splits in let size = length-append pre left in
      let at : length text - length left ≡ length pre = omega (arith, sizes, size) in
      ap (λ (n : ℕ). line_at text n) at ∙ ap (λ zs. line_after (take (length pre) zs)) splits ∙ ap line_after (take_at pre left (length pre) refl) ∙ sym here
      ∙ ap (λ (t : Token). t.line) same
  line_of (next {line = line} {prefix = prefix} {rest = rest} {kind = kind} {ts = us} plain is allowed d) pre splits here (t ∷ before) token behind e =
      let same : us ≡ before ++ token ∷ behind = cc in
      let k = sum_by-append line_end pre prefix in let f = flat_form prefix kind is.form in
      line_of d (pre ++ prefix) (splits ∙ ap (λ zs. pre ++ zs) is.splits ∙ sym (append_assoc pre prefix rest)) (omega (arith, k, f, here)) before token behind same

-- each token stands on the line that it has
pub token_line : (text : List ℕ) (ls : List Lexeme) (before : Tokens) (token : Token) (behind : Tokens) → HasLexemes (length text) 1 text (before ++ token ∷ behind) ls
    → line_at text (start_at ls (length before)) ≡ token.line
token_line text ls before token behind are = line_of text are [] refl refl before token behind refl
