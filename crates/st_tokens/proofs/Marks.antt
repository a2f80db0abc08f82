-- Symbols.
use Rattle.std.proofs.Common.{◌≡◌, ℕ, [], ◌∷◌, refl, sym, ap, ◌∙◌, true, false, cond, ◌⊎◌, inl, inr, subst}
use Rattle.std.specs.Prelude.{Option, Some, None, ◌==◌, ◌&&◌, is_some}
use Rattle.std.specs.Char.{is_ascii_digit}
use Rattle.st_tokens.specs.declared.symbol.Symbol.{Symbol}
use Rattle.st_tokens.specs.declared.symbol.Symbol.TheVariants as symbols
use Rattle.st_tokens.specs.Characters.{begins_word}
use Rattle.st_tokens.specs.Scanning.{double, single}
use Rattle.st_tokens.specs.Symbols.{symbol_text}
use Rattle.st_tokens.proofs.Cases.{by_test, both, is_equal}

-- a symbol begins with a byte that is one too, and is no digit and no letter
pub record Opens (b : ℕ) : Type 0 where
  pub single : is_some (single b) ≡ true
  pub no_digit : is_ascii_digit b ≡ false
  pub no_word : begins_word b ≡ false

-- a symbol is two bytes of one table, or one of the other
pub record IsDouble (x : Symbol) : Type 0 where
  pub first : ℕ
  pub second : ℕ
  pub text : symbol_text x ≡ first ∷ second ∷ []
  pub found : double first second ≡ Some x
  pub opens : Opens first

-- one byte of a table
pub record IsSingle (x : Symbol) : Type 0 where
  pub byte : ℕ
  pub text : symbol_text x ≡ byte ∷ []
  pub found : single byte ≡ Some x
  pub opens : Opens byte

-- a byte that opens symbols
opened : (b : ℕ) → is_some (single b) ≡ true → is_ascii_digit b ≡ false → begins_word b ≡ false → Opens b
opened b h k l = record { single = h; no_digit = k; no_word = l }

-- a symbol of one byte
made_single : (x : Symbol) (b : ℕ) → symbol_text x ≡ b ∷ [] → single b ≡ Some x → Opens b → IsSingle x
made_single x b h k l = record { byte = b; text = h; found = k; opens = l }

-- a symbol of two bytes
made_double : (x : Symbol) (b c : ℕ) → symbol_text x ≡ b ∷ c ∷ [] → double b c ≡ Some x → Opens b → IsDouble x
made_double x b c h k l = record { first = b; second = c; text = h; found = k; opens = l }

-- each symbol is in one of the tables
pub symbol_cases : (x : Symbol) → IsDouble x ⊎ IsSingle x
symbol_cases symbols.Assign = inl (made_double symbols.Assign 58 61 refl refl (opened 58 refl refl refl))
symbol_cases symbols.Output = inl (made_double symbols.Output 61 62 refl refl (opened 61 refl refl refl))
symbol_cases symbols.LessEqual = inl (made_double symbols.LessEqual 60 61 refl refl (opened 60 refl refl refl))
symbol_cases symbols.GreaterEqual = inl (made_double symbols.GreaterEqual 62 61 refl refl (opened 62 refl refl refl))
symbol_cases symbols.NotEqual = inl (made_double symbols.NotEqual 60 62 refl refl (opened 60 refl refl refl))
symbol_cases symbols.Range = inl (made_double symbols.Range 46 46 refl refl (opened 46 refl refl refl))
symbol_cases symbols.Open = inr (made_single symbols.Open 40 refl refl (opened 40 refl refl refl))
symbol_cases symbols.Close = inr (made_single symbols.Close 41 refl refl (opened 41 refl refl refl))
symbol_cases symbols.OpenBracket = inr (made_single symbols.OpenBracket 91 refl refl (opened 91 refl refl refl))
symbol_cases symbols.CloseBracket = inr (made_single symbols.CloseBracket 93 refl refl (opened 93 refl refl refl))
symbol_cases symbols.Comma = inr (made_single symbols.Comma 44 refl refl (opened 44 refl refl refl))
symbol_cases symbols.Semicolon = inr (made_single symbols.Semicolon 59 refl refl (opened 59 refl refl refl))
symbol_cases symbols.Colon = inr (made_single symbols.Colon 58 refl refl (opened 58 refl refl refl))
symbol_cases symbols.Dot = inr (made_single symbols.Dot 46 refl refl (opened 46 refl refl refl))
symbol_cases symbols.Plus = inr (made_single symbols.Plus 43 refl refl (opened 43 refl refl refl))
symbol_cases symbols.Minus = inr (made_single symbols.Minus 45 refl refl (opened 45 refl refl refl))
symbol_cases symbols.Times = inr (made_single symbols.Times 42 refl refl (opened 42 refl refl refl))
symbol_cases symbols.Divide = inr (made_single symbols.Divide 47 refl refl (opened 47 refl refl refl))
symbol_cases symbols.Equal = inr (made_single symbols.Equal 61 refl refl (opened 61 refl refl refl))
symbol_cases symbols.Less = inr (made_single symbols.Less 60 refl refl (opened 60 refl refl refl))
symbol_cases symbols.Greater = inr (made_single symbols.Greater 62 refl refl (opened 62 refl refl refl))
symbol_cases symbols.Ampersand = inr (made_single symbols.Ampersand 38 refl refl (opened 38 refl refl refl))
symbol_cases symbols.Percent = inr (made_single symbols.Percent 37 refl refl (opened 37 refl refl refl))

-- one more rule of a table of one byte
single_rule : (b m : ℕ) (x y : Symbol) (other : Option Symbol) → symbol_text x ≡ m ∷ [] → (other ≡ Some y → symbol_text y ≡ b ∷ [])
    → cond (b == m) (Some x) other ≡ Some y → symbol_text y ≡ b ∷ []
single_rule b m x y other e go h = by_test (b == m)
    (λ t. let h' : ◌≡◌ {A = Option Symbol} (Some x) (Some y) = rw t at h in let same : x ≡ y = cc in
    subst (λ z. symbol_text z ≡ b ∷ []) same (e ∙ ap (λ (n : ℕ). n ∷ []) (sym (is_equal b m t))))
    (λ t. go (rw t at h))

-- what the table of one byte says is written so
pub single_is : (b : ℕ) (y : Symbol) → single b ≡ Some y → symbol_text y ≡ b ∷ []
single_is b y h =
    single_rule b 40 symbols.Open y _ refl (single_rule b 41 symbols.Close y _ refl (single_rule b 91 symbols.OpenBracket y _ refl (single_rule b 93 symbols.CloseBracket y _ refl
    (single_rule b 44 symbols.Comma y _ refl (single_rule b 59 symbols.Semicolon y _ refl (single_rule b 58 symbols.Colon y _ refl (single_rule b 46 symbols.Dot y _ refl
    (single_rule b 43 symbols.Plus y _ refl (single_rule b 45 symbols.Minus y _ refl (single_rule b 42 symbols.Times y _ refl (single_rule b 47 symbols.Divide y _ refl
    (single_rule b 61 symbols.Equal y _ refl (single_rule b 60 symbols.Less y _ refl (single_rule b 62 symbols.Greater y _ refl (single_rule b 38 symbols.Ampersand y _ refl
    (single_rule b 37 symbols.Percent y _ refl (λ g. absurd (cc)))))))))))))))))) h

-- the same of two bytes
double_rule : (b c m n : ℕ) (x y : Symbol) (other : Option Symbol) → symbol_text x ≡ m ∷ n ∷ [] → c ≡ n → (other ≡ Some y → symbol_text y ≡ b ∷ c ∷ [])
    → cond (b == m) (Some x) other ≡ Some y → symbol_text y ≡ b ∷ c ∷ []
double_rule b c m n x y other e same_second go h = by_test (b == m)
    (λ t. let h' : ◌≡◌ {A = Option Symbol} (Some x) (Some y) = rw t at h in let same : x ≡ y = cc in
    subst (λ z. symbol_text z ≡ b ∷ c ∷ []) same (e ∙ sym (ap (λ (i : ℕ). i ∷ n ∷ []) (is_equal b m t)) ∙ sym (ap (λ (i : ℕ). b ∷ i ∷ []) same_second)))
    (λ t. go (rw t at h))

-- what the table of two bytes says is written so
pub double_is : (b c : ℕ) (y : Symbol) → double b c ≡ Some y → symbol_text y ≡ b ∷ c ∷ []
double_is b c y h = by_test (c == 61)
    (λ t. let e = is_equal c 61 t in
    double_rule b c 58 61 symbols.Assign y _ refl e (double_rule b c 60 61 symbols.LessEqual y _ refl e (double_rule b c 62 61 symbols.GreaterEqual y _ refl e (λ g. absurd (cc)))) (rw t at h))
    (λ t. by_test (c == 62)
    (λ u. let e = is_equal c 62 u in
    double_rule b c 60 62 symbols.NotEqual y _ refl e (double_rule b c 61 62 symbols.Output y _ refl e (λ g. absurd (cc))) (rw (t, u) at h))
    (λ u. by_test (b == 46 && c == 46)
    (λ v. let p = both (b == 46) (c == 46) v in let h' : ◌≡◌ {A = Option Symbol} (Some symbols.Range) (Some y) = rw (t, u, v) at h in let same : symbols.Range ≡ y = cc in
    subst (λ z. symbol_text z ≡ b ∷ c ∷ []) same (rw (is_equal b 46 p.0, is_equal c 46 p.1) refl))
    (λ v. let h' : ◌≡◌ {A = Option Symbol} None (Some y) = rw (t, u, v) at h in absurd (cc))))
