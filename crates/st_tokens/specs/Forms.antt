-- The forms of tokens (IEC 61131-3:2003, 2.1 and 2.2).
use Rattle.std.specs.Prelude.{◌≡◌, ◌≢◌, ℕ, true, ◌⊎◌, List, ◌∷◌, ◌++◌, ℤ, pos, codes, Some, if◌then◌else◌}
use Rattle.std.specs.Str.{byte}
use Rattle.st_values.specs.declared.elem.Elem.{Elem}
use Rattle.st_values.specs.declared.elem.Elem.TheVariants as elems
use Rattle.st_values.specs.declared.value.Value.{Value}
use Rattle.st_values.specs.Durations.{signed_interval_read}
use Rattle.st_values.specs.Numbers.{capped, capped_signed, number_read, too_much}
use Rattle.st_values.specs.Readings.{literal_read}
use Rattle.st_values.specs.Types.{name_of, class_of}
use Rattle.st_values.specs.Values.{in_range}
use Rattle.st_tokens.specs.declared.keyword.Keyword.{Keyword}
use Rattle.st_tokens.specs.declared.symbol.Symbol.{Symbol}
use Rattle.st_tokens.specs.declared.token.Kind.{Kind}
use Rattle.st_tokens.specs.declared.token.Kind.TheVariants as token_kinds
use Rattle.st_tokens.specs.Symbols.{symbol_text}
use Rattle.st_tokens.specs.Words.{IsWord, IsSame, IsReserved, spelling_of}

-- a number as a value of a type, in its range or not
abbrev pub value : Elem → ℤ → Value
value elem n = record { elem = elem; bits = n }

-- what a duration counts as: what TIME doesn't hold counts as what no type holds
abbrev pub time_of : ℤ → ℤ
time_of ms = if in_range elems.Time ms then ms else pos too_much

-- what stands before the `#` of a duration (2.2.3.1)
abbrev pub IsDurationWord : List ℕ → Type 0
IsDurationWord w = IsSame w (codes "T") ⊎ IsSame w (codes "TIME")

-- these bytes have the form of this token
pub data HasForm : List ℕ → Kind → Type 0 where
  -- a word that isn't reserved (2.1.2)
  word : {w : List ℕ} → IsWord w → (IsReserved w → ⊥) → HasForm w (token_kinds.Word w)
  -- a reserved word (2.1.3)
  keyword : {w : List ℕ} {x : Keyword} → IsSame w (spelling_of x) → HasForm w (token_kinds.Keyword x)
  -- the name of an elementary type (2.3.1)
  type_name : {w : List ℕ} {elem : Elem} → IsSame w (name_of elem) → HasForm w (token_kinds.Type elem)
  -- a number with or without a base (2.2.1)
  number : {digits : List ℕ} (n : ℕ) → number_read digits ≡ Some n → HasForm digits (token_kinds.Number (capped n))
  -- a typed literal: the name of a type but TIME, `#`, and a literal of that type (2.2.1)
  typed : (name literal : List ℕ) (elem : Elem) (n : ℤ) → IsSame name (name_of elem) → elem ≢ elems.Time
      → literal_read (class_of elem) true literal ≡ Some n → HasForm (name ++ byte "#" ∷ literal) (token_kinds.Typed elem (capped_signed n))
  -- a duration: `T#` or `TIME#`, an optional `-`, and parts (2.2.3.1)
  duration : (name literal : List ℕ) (ms : ℤ) → IsDurationWord name
      → signed_interval_read literal ≡ Some ms → HasForm (name ++ byte "#" ∷ literal) (token_kinds.Duration (time_of ms))
  -- a symbol: a delimiter of the standard (annex C)
  symbol : (x : Symbol) → HasForm (symbol_text x) (token_kinds.Symbol x)
