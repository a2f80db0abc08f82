-- With which bytes tokens begin, and what forms there are with such a byte.
use Rattle.std.proofs.Common.{◌≡◌, ℕ, List, [], ◌∷◌, ◌++◌, refl, sym, ap, ◌∙◌, Bool, true, false, subst, ◌⊎◌, inl, inr}
use Rattle.std.specs.Prelude.{Option, Some, None, ◌||◌, is_some, ℤ, codes}
use Rattle.std.specs.Char.{is_ascii_digit}
use Rattle.st_values.specs.declared.elem.Elem.{Elem}
use Rattle.st_values.specs.declared.elem.Elem.TheVariants as elems
use Rattle.st_values.specs.Durations.{signed_interval_read}
use Rattle.st_values.specs.Numbers.{capped, capped_signed, number_read}
use Rattle.st_values.specs.Readings.{literal_read}
use Rattle.st_values.specs.Types.{class_of, name_of}
use Rattle.st_tokens.specs.declared.keyword.Keyword.{Keyword}
use Rattle.st_tokens.specs.declared.symbol.Symbol.{Symbol}
use Rattle.st_tokens.specs.declared.token.Kind.{Kind}
use Rattle.st_tokens.specs.declared.token.Kind.TheVariants as token_kinds
use Rattle.st_tokens.specs.Characters.{begins_word}
use Rattle.st_tokens.specs.Forms.{HasForm, word, keyword, type_name, number, typed, duration, symbol, IsDurationWord, time_of}
use Rattle.st_tokens.specs.Scanning.{is_clean, single, word_kind, kind_by}
use Rattle.st_tokens.specs.Symbols.{symbol_text}
use Rattle.st_tokens.specs.Text.{IsRefused}
use Rattle.st_tokens.specs.Words.{IsSame, IsWord, keyword_of, elem_of}
use Rattle.st_tokens.proofs.Marks.{Opens, IsDouble, IsSingle, symbol_cases}
use Rattle.st_tokens.proofs.Names.{keyword_found, elem_found, elem_no_keyword, not_keyword, not_elem, keyword_name, elem_name, same_name, name_word, name_clean, is_name, clean, begins_no_digit}
use Rattle.st_tokens.proofs.Numbers.{first_digit}
use Rattle.st_tokens.proofs.Cases.{not_both}

-- how a token of this kind may begin
abbrev pub IsOpener : Kind → ℕ → Type 0
IsOpener (token_kinds.Number n) b = is_ascii_digit b ≡ true
IsOpener (token_kinds.Symbol x) b = Opens b
IsOpener _ b = begins_word b ≡ true

-- a prefix with a byte that may begin its kind
abbrev pub Begins : List ℕ → Kind → Type 0
Begins prefix kind = (b : ℕ) × (bs : List ℕ) × (prefix ≡ b ∷ bs) × IsOpener kind b

-- what begins with a word begins as words do
word_begins : (w more : List ℕ) → IsWord w → (b : ℕ) × (bs : List ℕ) × (w ++ more ≡ b ∷ bs) × (begins_word b ≡ true)
word_begins [] more h = absurd h
word_begins (b ∷ bs) more h = (b, bs ++ more, refl, h.0)

-- a word begins as words do
alone_begins : (w : List ℕ) → IsWord w → (b : ℕ) × (bs : List ℕ) × (w ≡ b ∷ bs) × (begins_word b ≡ true)
alone_begins [] h = absurd h
alone_begins (b ∷ bs) h = (b, bs, refl, h.0)

-- `T` and `TIME`, ignoring case, are words without unclean `_`
pub duration_name : (w : List ℕ) → IsDurationWord w → is_name w ≡ true
duration_name w (inl h) = same_name w (codes "T") h refl
duration_name w (inr h) = same_name w (codes "TIME") h refl

-- a symbol begins with a byte that opens one
symbol_begins : (x : Symbol) → IsDouble x ⊎ IsSingle x → (b : ℕ) × (bs : List ℕ) × (symbol_text x ≡ b ∷ bs) × Opens b
symbol_begins x (inl d) = (d.first, d.second ∷ [], d.text, d.opens)
symbol_begins x (inr d) = (d.byte, [], d.text, d.opens)

-- each form begins as its kind may
pub form_begins : (prefix : List ℕ) (kind : Kind) → HasForm prefix kind → Begins prefix kind
form_begins prefix kind (word {w = w} h n) = alone_begins w h
form_begins prefix kind (keyword {w = w} {x = x} h) = alone_begins w (name_word w (keyword_name w x h))
form_begins prefix kind (type_name {w = w} {elem = elem} h) = alone_begins w (name_word w (elem_name w elem h))
form_begins prefix kind (number {digits = digits} n h) = first_digit digits n h
form_begins prefix kind (typed name literal elem n h k r) = word_begins name (35 ∷ literal) (name_word name (elem_name name elem h))
form_begins prefix kind (duration name literal ms h r) = word_begins name (35 ∷ literal) (name_word name (duration_name name h))
form_begins prefix kind (symbol x) = symbol_begins x (symbol_cases x)

-- a byte with which some token begins
abbrev pub begins_token : ℕ → Bool
begins_token b = is_ascii_digit b || (begins_word b || is_some (single b))

-- how a kind may begin, a token may
opener_token : (kind : Kind) (b : ℕ) → IsOpener kind b → begins_token b ≡ true
opener_token (token_kinds.Number n) b h = rw h refl
opener_token (token_kinds.Symbol x) b h = let d = h.no_digit in let w = h.no_word in let s = h.single in rw (d, w, s) refl
opener_token (token_kinds.Word w) b h = rw (begins_no_digit b h, h) refl
opener_token (token_kinds.Keyword x) b h = rw (begins_no_digit b h, h) refl
opener_token (token_kinds.Type elem) b h = rw (begins_no_digit b h, h) refl
opener_token (token_kinds.Typed elem n) b h = rw (begins_no_digit b h, h) refl
opener_token (token_kinds.Duration ms) b h = rw (begins_no_digit b h, h) refl

-- each form has a first byte, with which tokens begin
pub form_first : (prefix : List ℕ) (kind : Kind) → HasForm prefix kind → (b : ℕ) × (bs : List ℕ) × (prefix ≡ b ∷ bs) × (begins_token b ≡ true)
form_first prefix kind form = let w = form_begins prefix kind form in (w.0, w.1, w.2, opener_token kind w.0 w.3)

-- a form at the start of a text opens it
pub opens_text : (b : ℕ) (bs prefix back : List ℕ) (kind : Kind) → b ∷ bs ≡ prefix ++ back → HasForm prefix kind → IsOpener kind b
opens_text b bs prefix back kind e form =
    let w = form_begins prefix kind form in
    let f : b ∷ bs ≡ w.0 ∷ (w.1 ++ back) = e ∙ ap (λ (zs : List ℕ). zs ++ back) w.2 in
    let same : b ≡ w.0 = cc in subst (λ x. IsOpener kind x) (sym same) w.3

-- ---- which forms there are after which first byte

-- no byte is a digit and begins a word
no_digit_word : {P : Type 0} (b : ℕ) → is_ascii_digit b ≡ true → begins_word b ≡ true → P
no_digit_word b d w = not_both d (begins_no_digit b w)

-- after a digit only a number has a form
pub only_number : (b : ℕ) (prefix : List ℕ) (kind : Kind) → HasForm prefix kind → IsOpener kind b → is_ascii_digit b ≡ true
    → (n : ℕ) × (number_read prefix ≡ Some n) × (kind ≡ token_kinds.Number (capped n))
only_number b prefix kind (word h n) o d = no_digit_word b d o
only_number b prefix kind (keyword h) o d = no_digit_word b d o
only_number b prefix kind (type_name h) o d = no_digit_word b d o
only_number b prefix kind (number n h) o d = (n, h, refl)
only_number b prefix kind (typed name literal elem n h k r) o d = no_digit_word b d o
only_number b prefix kind (duration name literal ms h r) o d = no_digit_word b d o
only_number b prefix kind (symbol x) o d = not_both d o.no_digit

-- after what is no digit and begins no word only a symbol has a form
pub only_symbol : (b : ℕ) (prefix : List ℕ) (kind : Kind) → HasForm prefix kind → IsOpener kind b → is_ascii_digit b ≡ false → begins_word b ≡ false
    → (x : Symbol) × (prefix ≡ symbol_text x) × (kind ≡ token_kinds.Symbol x)
only_symbol b prefix kind (word h n) o d w = not_both o w
only_symbol b prefix kind (keyword h) o d w = not_both o w
only_symbol b prefix kind (type_name h) o d w = not_both o w
only_symbol b prefix kind (number n h) o d w = not_both o d
only_symbol b prefix kind (typed name literal elem n h k r) o d w = not_both o w
only_symbol b prefix kind (duration name literal ms h r) o d w = not_both o w
only_symbol b prefix kind (symbol x) o d w = (x, refl, refl)

-- a word, a reserved one or the name of a type
pub record Plain (prefix : List ℕ) (kind : Kind) : Type 0 where
  pub is_word : IsWord prefix
  pub kind_is : word_kind prefix ≡ kind
  pub clean_where : (rest : List ℕ) → (IsRefused kind rest → ⊥) → is_clean prefix ≡ true

-- a typed literal
pub record Literal (prefix : List ℕ) (kind : Kind) : Type 0 where
  pub name : List ℕ
  pub literal : List ℕ
  pub elem : Elem
  pub number : ℤ
  pub splits : prefix ≡ name ++ 35 ∷ literal
  pub named : IsSame name (name_of elem)
  pub no_time : elem ≡ elems.Time → ⊥
  pub reads : literal_read (class_of elem) true literal ≡ Some number
  pub kind_is : kind ≡ token_kinds.Typed elem (capped_signed number)

-- a duration
pub record Lasting (prefix : List ℕ) (kind : Kind) : Type 0 where
  pub name : List ℕ
  pub literal : List ℕ
  pub number : ℤ
  pub splits : prefix ≡ name ++ 35 ∷ literal
  pub named : IsDurationWord name
  pub reads : signed_interval_read literal ≡ Some number
  pub kind_is : kind ≡ token_kinds.Duration (time_of number)

-- the kind of a word, from what the tables say
kind_of : (w : List ℕ) (k : Option Keyword) (e : Option Elem) → keyword_of w ≡ k → elem_of w ≡ e → word_kind w ≡ kind_by w k e
unfolding word_kind
kind_of w k e h j = ap (λ (x : Option Keyword). kind_by w x (elem_of w)) h ∙ ap (λ (x : Option Elem). kind_by w k x) j

-- after what begins a word only words, typed literals and durations have a form
pub only_word : (b : ℕ) (prefix : List ℕ) (kind : Kind) → HasForm prefix kind → IsOpener kind b → begins_word b ≡ true
    → Plain prefix kind ⊎ (Literal prefix kind ⊎ Lasting prefix kind)
only_word b prefix kind (word {w = w} h n) o t = inl (record {
  is_word = h;
  kind_is = kind_of w None None (not_keyword w n) (not_elem w n);
  clean_where = λ rest allowed. clean w (λ u. allowed (inl u));
})
only_word b prefix kind (keyword {w = w} {x = x} h) o t = inl (record {
  is_word = name_word w (keyword_name w x h);
  kind_is = kind_of w (Some x) (elem_of w) (keyword_found w x h) refl;
  clean_where = λ rest allowed. name_clean w (keyword_name w x h);
})
only_word b prefix kind (type_name {w = w} {elem = elem} h) o t = inl (record {
  is_word = name_word w (elem_name w elem h);
  kind_is = kind_of w None (Some elem) (elem_no_keyword w elem h) (elem_found w elem h);
  clean_where = λ rest allowed. name_clean w (elem_name w elem h);
})
only_word b prefix kind (number n h) o t = no_digit_word b o t
only_word b prefix kind (typed name literal elem n h k r) o t =
    inr (inl (record { name = name; literal = literal; elem = elem; number = n; splits = refl; named = h; no_time = k; reads = r; kind_is = refl }))
only_word b prefix kind (duration name literal ms h r) o t =
    inr (inr (record { name = name; literal = literal; number = ms; splits = refl; named = h; reads = r; kind_is = refl }))
only_word b prefix kind (symbol x) o t = not_both t o.no_word
