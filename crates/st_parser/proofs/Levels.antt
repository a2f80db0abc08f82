-- The open levels, by recursion on the tokens.
use Rattle.std.proofs.Common.{◌≡◌, ℕ, zero, suc, ◌+◌, ◌≤◌, List, [], ◌∷◌, ◌++◌, refl, ap, subst, arith}
use Rattle.st_tokens.specs.declared.keyword.Keyword.TheVariants as keywords
use Rattle.st_tokens.specs.declared.symbol.Symbol.TheVariants as symbols
use Rattle.st_tokens.specs.declared.token.Kind.TheVariants as token_kinds
use Rattle.st_parser.specs.Names.{Kind, Position}
use Rattle.st_parser.specs.Grammar.Levels.{opens, closes, opened, closed, IsWithin}
use Rattle.st_parser.specs.Grammar.Tokens.{Tok}

-- one more level may be open, and then this holds
abbrev pub below : (ℕ → Type 0) → ℕ → Type 0
below P zero = ⊥
below P (suc r) = P r

-- after a token that opens and closes so many levels
abbrev pub after_token : ℕ → ℕ → (ℕ → Type 0) → ℕ → Type 0
after_token (suc o) c P r = below P r
after_token zero (suc c) P r = P (suc r)
after_token zero zero P r = P r

-- the tokens open no more than r further levels
abbrev pub Fits : List Tok → ℕ → Type 0
Fits [] r = Unit {0}
Fits (t ∷ ts) r = after_token (opens t.1) (closes t.1) (Fits ts) r

-- how a token changes the count of open levels
pub data Step : ℕ → ℕ → Type 0 where
  up : Step 1 0
  down : Step 0 1
  level : Step 0 0

pub step_of : (t : Kind) → Step (opens t) (closes t)
step_of (token_kinds.Symbol symbols.Open) = up
step_of (token_kinds.Symbol symbols.OpenBracket) = up
step_of (token_kinds.Keyword keywords.If) = up
step_of (token_kinds.Keyword keywords.Case) = up
step_of (token_kinds.Keyword keywords.For) = up
step_of (token_kinds.Keyword keywords.While) = up
step_of (token_kinds.Keyword keywords.Repeat) = up
step_of (token_kinds.Symbol symbols.Close) = down
step_of (token_kinds.Symbol symbols.CloseBracket) = down
step_of (token_kinds.Keyword keywords.EndIf) = down
step_of (token_kinds.Keyword keywords.EndCase) = down
step_of (token_kinds.Keyword keywords.EndFor) = down
step_of (token_kinds.Keyword keywords.EndWhile) = down
step_of (token_kinds.Keyword keywords.EndRepeat) = down
step_of _ = level

tail : {o c : ℕ} → Step o c → (r : ℕ) (ts : List Tok) (P : ℕ → Type 0) → ((n : ℕ) → IsWithin n ts → P n)
    → ((prefix rest : List Tok) → ts ≡ prefix ++ rest → o + opened prefix ≤ c + closed prefix + r) → o + 0 ≤ c + 0 + r → after_token o c P r
tail up zero ts P go prefixes first = absurd (omega arith)
tail up (suc r) ts P go prefixes first = go r (λ prefix rest e. let le = prefixes prefix rest e in omega (arith, le))
tail down r ts P go prefixes first = go (suc r) (λ prefix rest e. let le = prefixes prefix rest e in omega (arith, le))
tail level r ts P go prefixes first = go r (λ prefix rest e. let le = prefixes prefix rest e in omega (arith, le))

pub fits_from : (ts : List Tok) (r : ℕ) → IsWithin r ts → Fits ts r
fits_from [] r within = tt
fits_from (t ∷ ts) r within = tail (step_of t.1) r ts (Fits ts) (fits_from ts)
    (λ prefix rest e. within (t ∷ prefix) rest (ap (λ us. t ∷ us) e)) (within (t ∷ []) ts refl)

prefix_of : {o c : ℕ} → Step o c → (r : ℕ) (prefix : List Tok) (P : ℕ → Type 0) → ((n : ℕ) → P n → opened prefix ≤ closed prefix + n)
    → after_token o c P r → o + opened prefix ≤ c + closed prefix + r
prefix_of up zero prefix P go fits = absurd fits
prefix_of up (suc r) prefix P go fits = let le = go r fits in omega (arith, le)
prefix_of down r prefix P go fits = let le = go (suc r) fits in omega (arith, le)
prefix_of level r prefix P go fits = let le = go r fits in omega (arith, le)

prefix_within : (ts : List Tok) (r : ℕ) (prefix rest : List Tok) → Fits ts r → ts ≡ prefix ++ rest → opened prefix ≤ closed prefix + r
prefix_within ts r [] rest fits e = omega arith
prefix_within [] r (f ∷ prefix) rest fits e = absurd (cc)
prefix_within (t ∷ ts) r (f ∷ prefix) rest fits e =
    let same : t ≡ f = cc in
    let same_rest : ts ≡ prefix ++ rest = cc in
    subst (λ g. opened (g ∷ prefix) ≤ closed (g ∷ prefix) + r) same
    (prefix_of (step_of t.1) r prefix (Fits ts) (λ n q. prefix_within ts n prefix rest q same_rest) fits)

pub within_from : (ts : List Tok) (r : ℕ) → Fits ts r → IsWithin r ts
within_from ts r fits = λ prefix rest e. prefix_within ts r prefix rest fits e

-- no more than r further levels are open
abbrev pub At : ℕ → List Tok → Type 0
At r ts = Fits ts r

-- a token leads from Q to Q'
abbrev pub Leads : (Q Q' : List Tok → Type 0) → Kind → Type 0
Leads Q Q' x = (p : Position) (ts : List Tok) → (Q ((p, x) ∷ ts) → Q' ts) × (Q' ts → Q ((p, x) ∷ ts))

-- the levels that may be open after a token that closes so many
abbrev pub past : ℕ → ℕ → ℕ
past zero r = r
past (suc c) r = suc r

leads_by : {o c : ℕ} → Step o c → o ≡ 0 → (P : ℕ → Type 0) (r : ℕ) → (after_token o c P r → P (past c r)) × (P (past c r) → after_token o c P r)
leads_by up none P r = absurd (omega arith)
leads_by down none P r = (λ q. q, λ q. q)
leads_by level none P r = (λ q. q, λ q. q)

-- a token that opens no level
pub leads : (x : Kind) (r : ℕ) → opens x ≡ 0 → Leads (At r) (At (past (closes x) r)) x
leads x r plain p ts = leads_by (step_of x) plain (Fits ts) r

enters_by : {o c : ℕ} → Step o c → o ≡ 1 → (P : ℕ → Type 0) (r : ℕ) → (after_token o c P (suc r) → P r) × (P r → after_token o c P (suc r))
enters_by up one P r = (λ q. q, λ q. q)
enters_by down one P r = absurd (omega arith)
enters_by level one P r = absurd (omega arith)

-- a token that opens a level
pub enters : (x : Kind) (r : ℕ) → opens x ≡ 1 → Leads (At (suc r)) (At r) x
enters x r one p ts = enters_by (step_of x) one (Fits ts) r

full_by : {o c : ℕ} → Step o c → o ≡ 1 → (P : ℕ → Type 0) → after_token o c P zero → ⊥
full_by up one P fits = fits
full_by down one P fits = absurd (omega arith)
full_by level one P fits = absurd (omega arith)

pub full : (x : Kind) → opens x ≡ 1 → (p : Position) (ts : List Tok) → At zero ((p, x) ∷ ts) → ⊥
full x one p ts fits = full_by (step_of x) one (Fits ts) fits
