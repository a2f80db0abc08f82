-- Parsers that read a relation exactly: what they read is in it, and what is in it they read.
use Rattle.std.proofs.Common.{◌≡◌, ℕ, zero, suc, ◌+◌, ◌<◌, ◌≤◌, List, [], ◌∷◌, length, refl, sym, ap, subst, ◌∙◌, Bool, true, false, if◌then◌else◌, rules, arith, ◌⊎◌, inl, inr}
use denote.Enum.Bare.{same_true}
use Rattle.std.specs.Prelude.{Option, Some, None, Ok, Err}
use Rattle.st_tokens.specs.contracts.keyword.Keyword as keyword
use Rattle.st_tokens.specs.contracts.symbol.Symbol as symbol
use Rattle.st_tokens.specs.declared.keyword.Keyword.TheVariants as keywords
use Rattle.st_tokens.specs.declared.symbol.Symbol.TheVariants as symbols
use Rattle.st_tokens.specs.declared.token.Kind.TheVariants as token_kinds
use Rattle.st_parser.specs.Names.{Identifier, Keyword, Kind, Position, Symbol}
use Rattle.st_parser.specs.Grammar.Levels.{opens, closes}
use Rattle.st_parser.specs.Grammar.Lists.{IsMany, none, more, IsNext, comma, IsListed, listed}
use Rattle.st_parser.specs.Reader.Parsers as parser
use Rattle.st_parser.specs.Reader.Parsers.{Refusal, Wrong, Deep, Outcome, Parser, ahead, and_then, many_from, many, is_symbol}
use Rattle.st_parser.specs.Grammar.Tokens.{identifier_of, Tok, kind, next, position, same_symbol, same_keyword}
use Rattle.st_parser.proofs.Local.{FirstOnly, Stays, Steady, by_kind, kind_first, place_first, stays_at_once, stays_bind, stays_expect, stays_many, stays_on, stays_one, stays_pure, stays_refuse, stays_token, steady_first}
use Rattle.st_parser.proofs.Loops.{at_item, at_end, at_err, ahead_ok, ahead_err, ok_parts}
use Rattle.st_parser.proofs.Levels.{At, past, Leads, leads, enters, full}

-- tokens, what they are, and the tokens after it
abbrev pub Relation : Type 0 → Type 1
Relation A = List Tok → A → List Tok → Type 0

-- of what was read: it is in R, it takes c tokens or more, and Q holds before it exactly where Q' holds after it
pub record Found {A : Type 0} (c : ℕ) (R : Relation A) (Q Q' : List Tok → Type 0) (ts : List Tok) (x : A) (rest : List Tok) : Type 0 where
  pub is : R ts x rest
  pub takes : length rest + c ≤ length ts
  pub after : Q ts → Q' rest
  pub before : Q' rest → Q ts

-- Where pre holds: what P reads is found in R, P is too deep only where Q doesn't hold, what is in R is read where Q holds and F of what follows,
-- and what stands behind the first token that P leaves doesn't matter.
pub record Exact {A : Type 0} (c : ℕ) (P : Parser A) (pre : List Tok → Type 0) (R : Relation A) (F : Option Kind → Type 0) (Q Q' : List Tok → Type 0) : Type 0 where
  pub reads : (ts : List Tok) (x : A) (rest : List Tok) → pre ts → P ts ≡ Ok (x, rest) → Found c R Q Q' ts x rest
  pub deep : (ts : List Tok) (at : Option Position) → pre ts → P ts ≡ Err (Deep at) → Q ts → ⊥
  pub read : (ts : List Tok) (x : A) (rest : List Tok) → pre ts → R ts x rest → F (kind rest) → Q ts → P ts ≡ Ok (x, rest)
  pub local : (ts : List Tok) → pre ts → Stays P ts

abbrev pub Always : List Tok → Type 0
Always ts = Unit {0}

-- whatever follows
abbrev pub Any : Option Kind → Type 0
Any t = Unit {0}

-- ---- relations

-- first R, and then S of what it is
pub data Then {A B : Type 0} (R : Relation A) (S : A → Relation B) : List Tok → B → List Tok → Type 0 where
  seq : {ts mid rest : List Tok} {x : A} {y : B} → R ts x mid → S x mid y rest → Then R S ts y rest

-- one token
pub data IsOne (x : Kind) : List Tok → Position → List Tok → Type 0 where
  one : {p : Position} {rest : List Tok} → IsOne x ((p, x) ∷ rest) p rest

-- no token
pub data IsPure {A : Type 0} (a : A) : List Tok → A → List Tok → Type 0 where
  done : {ts : List Tok} → IsPure a ts a ts

pub data IsWord : List Tok → Identifier → List Tok → Type 0 where
  a_word : {p : Position} {n : List ℕ} {rest : List Tok} → IsWord ((p, token_kinds.Word n) ∷ rest) (identifier_of p n) rest

pub data IsNumber : List Tok → ℕ → List Tok → Type 0 where
  a_number : {p : Position} {n : ℕ} {rest : List Tok} → IsNumber ((p, token_kinds.Number n) ∷ rest) n rest

-- ---- sequences

bind_ok : {A B : Type 0} (o : Outcome A) (f : A → Parser B) (y : B × List Tok) → and_then o f ≡ Ok y
    → (z : A × List Tok) × (o ≡ Ok z) × (f z.0 z.1 ≡ Ok y)
bind_ok (Ok z) f y h = (z, refl, h)
bind_ok (Err r) f y h = cc

bind_err : {A B : Type 0} (o : Outcome A) (f : A → Parser B) (r : Refusal) → and_then o f ≡ Err r
    → (o ≡ Err r) ⊎ ((z : A × List Tok) × (o ≡ Ok z) × (f z.0 z.1 ≡ Err r))
bind_err (Ok z) f r h = inr (z, refl, h)
bind_err (Err s) f r h = inl (cc)

module _ {A B : Type 0} {c d : ℕ} {P : Parser A} {f : A → Parser B} {pre pre' : List Tok → Type 0} {R : Relation A} {S : A → Relation B}
    {F G : Option Kind → Type 0} {Q Q' Q'' : List Tok → Type 0} (a : Exact c P pre R F Q Q') (b : (x : A) → Exact d (f x) pre' (S x) G Q' Q'')
    (carry : (ts : List Tok) (x : A) (mid : List Tok) → pre ts → R ts x mid → pre' mid)
    (follow : (x : A) (mid rest : List Tok) (y : B) → S x mid y rest → G (kind rest) → F (kind mid)) where
  bind_deep : (ts : List Tok) (at : Option Position) → pre ts → (P ts ≡ Err (Deep at)) ⊎ ((z : A × List Tok) × (P ts ≡ Ok z) × (f z.0 z.1 ≡ Err (Deep at))) → Q ts → ⊥
  bind_deep ts at p (inl h) q = a.deep ts at p h q
  bind_deep ts at p (inr z) q = let u = a.reads ts z.0.0 z.0.1 p z.1 in (b z.0.0).deep z.0.1 at (carry ts z.0.0 z.0.1 p u.is) z.2 (u.after q)

  bind_reads : (ts : List Tok) (y : B) (rest : List Tok) → pre ts → (z : A × List Tok) × (P ts ≡ Ok z) × (f z.0 z.1 ≡ Ok (y, rest)) → Found c (Then R S) Q Q'' ts y rest
  bind_reads ts y rest p z =
      let u = a.reads ts z.0.0 z.0.1 p z.1 in
      let v = (b z.0.0).reads z.0.1 y rest (carry ts z.0.0 z.0.1 p u.is) z.2 in
      record { is = seq u.is v.is; takes = omega (arith, u.takes, v.takes); after = λ q. v.after (u.after q); before = λ q. u.before (v.before q) }

  bind_read : {ts rest : List Tok} {y : B} → pre ts → Then R S ts y rest → G (kind rest) → Q ts → and_then (P ts) f ≡ Ok (y, rest)
  bind_read {ts} {rest} {y} p (seq {mid = mid} {x = x} r t) g q =
      let e = a.read ts x mid p r (follow x mid rest y t g) q in
      let u = a.reads ts x mid p e in
      rw e ((b x).read mid y rest (carry ts x mid p r) t g (u.after q))

  -- P, and then f, whose premise P carries over
  pub exact_bind_if : Exact c (λ ts. and_then (P ts) f) pre (Then R S) G Q Q''
  exact_bind_if = record {
    reads = λ ts y rest p h. bind_reads ts y rest p (bind_ok (P ts) f (y, rest) h);
    deep = λ ts at p h. bind_deep ts at p (bind_err (P ts) f (Deep at) h);
    read = λ ts y rest p d g q. bind_read p d g q;
    local = λ ts p. stays_bind P f ts (a.local ts p) (λ x mid e. (b x).local mid (carry ts x mid p (a.reads ts x mid p e).is));
  }

-- P, and then f
pub exact_bind : {A B : Type 0} {c d : ℕ} {P : Parser A} {f : A → Parser B} {pre : List Tok → Type 0} {R : Relation A} {S : A → Relation B}
    {F G : Option Kind → Type 0} {Q Q' Q'' : List Tok → Type 0} → Exact c P pre R F Q Q' → ((x : A) → Exact d (f x) Always (S x) G Q' Q'')
    → ((x : A) (mid rest : List Tok) (y : B) → S x mid y rest → G (kind rest) → F (kind mid)) → Exact c (λ ts. and_then (P ts) f) pre (Then R S) G Q Q''
exact_bind a b follow = exact_bind_if a b (λ ts x mid p r. tt) follow

-- the same parser for another relation, under other premises
pub exact_as : {A : Type 0} {c : ℕ} {P : Parser A} {pre pre' : List Tok → Type 0} {R R' : Relation A} {F F' : Option Kind → Type 0} {Q Q' : List Tok → Type 0}
    → Exact c P pre R F Q Q' → ((ts : List Tok) → pre' ts → pre ts) → ((ts : List Tok) (x : A) (rest : List Tok) → pre' ts → R ts x rest → R' ts x rest)
    → ((ts : List Tok) (x : A) (rest : List Tok) → pre' ts → F' (kind rest) → R' ts x rest → R ts x rest) → ((t : Option Kind) → F' t → F t)
    → Exact c P pre' R' F' Q Q'
exact_as a premise to from follow = record {
  reads = λ ts x rest p h. let u = a.reads ts x rest (premise ts p) h in record { is = to ts x rest p u.is; takes = u.takes; after = u.after; before = u.before };
  deep = λ ts at p h. a.deep ts at (premise ts p) h;
  read = λ ts x rest p d g q. a.read ts x rest (premise ts p) (from ts x rest p g d) (follow (kind rest) g) q;
  local = λ ts p. a.local ts (premise ts p);
}

-- the same parser for a relation that says the same
pub exact_iff : {A : Type 0} {c : ℕ} {P : Parser A} {pre : List Tok → Type 0} {R R' : Relation A} {F : Option Kind → Type 0} {Q Q' : List Tok → Type 0}
    → Exact c P pre R F Q Q' → ((ts : List Tok) (x : A) (rest : List Tok) → R ts x rest → R' ts x rest)
    → ((ts : List Tok) (x : A) (rest : List Tok) → R' ts x rest → R ts x rest) → Exact c P pre R' F Q Q'
exact_iff a to from = exact_as a (λ ts p. p) (λ ts x rest p d. to ts x rest d) (λ ts x rest p g d. from ts x rest d) (λ t g. g)

-- what holds of what was made, holds of what was read
pub made : {A : Type 0} {a : A} {ts : List Tok} {x : A} {rest : List Tok} → IsPure a ts x rest → (M : A → List Tok → Type 0) → M a ts → M x rest
made done M m = m

pub exact_pure : {A : Type 0} (a : A) (pre : List Tok → Type 0) (F : Option Kind → Type 0) (Q : List Tok → Type 0) → Exact 0 (parser.pure a) pre (IsPure a) F Q Q
exact_pure {A} a pre F Q = record { reads = λ ts x rest p h. reads ts x rest h; deep = λ ts at p h q. cc; read = λ ts x rest p d g q. read d; local = λ ts p. stays_pure a ts } where
  reads : (ts : List Tok) (x : A) (rest : List Tok) → ◌≡◌ {A = Outcome A} (Ok (a, ts)) (Ok (x, rest)) → Found 0 (IsPure a) Q Q ts x rest
  reads ts x rest h = let e = ok_parts h in
      subst (λ y. Found 0 (IsPure a) Q Q ts y rest) e.0 (subst (λ us. Found 0 (IsPure a) Q Q ts a us) e.1
      (record { is = done; takes = omega arith; after = λ q. q; before = λ q. q }))

  read : {ts rest : List Tok} {x : A} → IsPure a ts x rest → ◌≡◌ {A = Outcome A} (Ok (a, ts)) (Ok (x, rest))
  read done = refl

-- P, and what is made of it
pub exact_last : {A B : Type 0} {c : ℕ} {P : Parser A} {pre : List Tok → Type 0} {R : Relation A} {F : Option Kind → Type 0} {Q Q' : List Tok → Type 0}
    → Exact c P pre R F Q Q' → (g : A → B) → Exact c (λ ts. and_then (P ts) (λ x. parser.pure (g x))) pre (Then R (λ x. IsPure (g x))) F Q Q'
exact_last {F = F} {Q' = Q'} a g = exact_bind a (λ x. exact_pure (g x) Always F Q') (λ x mid rest y d h. made d (λ z us. F (kind us) → F (kind mid)) (λ f. f) h)

-- the same, under other premises
pub exact_under : {A : Type 0} {c : ℕ} {P : Parser A} {pre pre' : List Tok → Type 0} {R : Relation A} {F F' : Option Kind → Type 0} {Q Q' : List Tok → Type 0}
    → Exact c P pre R F Q Q' → ((ts : List Tok) → pre' ts → pre ts) → ((t : Option Kind) → F' t → F t) → Exact c P pre' R F' Q Q'
exact_under a premise follow = exact_as a premise (λ ts x rest p d. d) (λ ts x rest p g d. d) follow

-- the same, whatever it takes
pub exact_zero : {A : Type 0} {c : ℕ} {P : Parser A} {pre : List Tok → Type 0} {R : Relation A} {F : Option Kind → Type 0} {Q Q' : List Tok → Type 0}
    → Exact c P pre R F Q Q' → Exact 0 P pre R F Q Q'
exact_zero a = record {
  reads = λ ts x rest p h. let u = a.reads ts x rest p h in record { is = u.is; takes = omega (arith, u.takes); after = u.after; before = u.before };
  deep = a.deep;
  read = a.read;
  local = a.local;
}

-- what can't be in the relation is refused
pub exact_refuse : {A : Type 0} (c : ℕ) (pre : List Tok → Type 0) (R : Relation A) (F : Option Kind → Type 0) (Q Q' : List Tok → Type 0)
    → ((ts : List Tok) (x : A) (rest : List Tok) → pre ts → R ts x rest → ⊥) → Exact {A = A} c parser.refuse pre R F Q Q'
exact_refuse c pre R F Q Q' never = record {
  reads = λ ts x rest p h. absurd (cc);
  deep = λ ts at p h q. cc;
  read = λ ts x rest p d g q. absurd (never ts x rest p d);
  local = λ ts p. stays_refuse ts;
}

-- by what a test of the tokens gives, which is steady
pub exact_by : {A T : Type 0} {c : ℕ} (g : List Tok → T) (f : T → Parser A) (pre : List Tok → Type 0) → Steady g f pre
    → (R : Relation A) (F : Option Kind → Type 0) (Q Q' : List Tok → Type 0)
    → ((t : T) → Exact c (f t) (λ ts. (g ts ≡ t) × pre ts) R F Q Q') → Exact c (λ ts. f (g ts) ts) pre R F Q Q'
exact_by g f pre steady R F Q Q' a = record {
  reads = λ ts x rest p h. (a (g ts)).reads ts x rest (refl, p) h;
  deep = λ ts at p h. (a (g ts)).deep ts at (refl, p) h;
  read = λ ts x rest p d e q. (a (g ts)).read ts x rest (refl, p) d e q;
  local = λ ts p. stays_on g f pre steady ts p ((a (g ts)).local ts (refl, p));
}

-- by what a test of the first token gives
pub exact_on : {A T : Type 0} {c : ℕ} (g : List Tok → T) → FirstOnly g → (f : T → Parser A) (pre : List Tok → Type 0) (R : Relation A) (F : Option Kind → Type 0) (Q Q' : List Tok → Type 0)
    → ((t : T) → Exact c (f t) (λ ts. (g ts ≡ t) × pre ts) R F Q Q') → Exact c (λ ts. f (g ts) ts) pre R F Q Q'
exact_on g looks f pre R F Q Q' a = exact_by g f pre (steady_first g f pre looks) R F Q Q' a

-- ---- single tokens

abbrev pub IsFirst : Kind → List Tok → Type 0
IsFirst x ts = kind ts ≡ Some x

pub at_first : (x : Kind) (M : List Tok → Type 0) → ((p : Position) (us : List Tok) → M ((p, x) ∷ us)) → (ts : List Tok) → IsFirst x ts → M ts
at_first x M m [] first = absurd (cc)
at_first x M m (t ∷ ts) first = let same : t.1 ≡ x = cc in subst (λ y. M ((t.0, y) ∷ ts)) (sym same) (m t.0 ts)

-- a token that is there, and then f
module _ {A : Type 0} {d : ℕ} {f : Position → Parser A} (x : Kind) (pre : List Tok → Type 0) (R : Relation A) (F : Option Kind → Type 0) (Q Q' Q'' : List Tok → Type 0)
    (l : Leads Q Q' x) (b : (p : Position) → Exact d (f p) (λ us. pre ((p, x) ∷ us)) (λ us. R ((p, x) ∷ us)) F Q' Q'') where
  token_reads : (ts : List Tok) → IsFirst x ts → (y : A) (rest : List Tok) → pre ts → and_then (parser.bump ts) f ≡ Ok (y, rest) → Found 1 R Q Q'' ts y rest
  token_reads = at_first x (λ ts. (y : A) (rest : List Tok) → pre ts → and_then (parser.bump ts) f ≡ Ok (y, rest) → Found 1 R Q Q'' ts y rest)
      (λ p us y rest i h. let u = (b p).reads us y rest i h in
      record { is = u.is; takes = omega (arith, u.takes); after = λ q. u.after ((l p us).0 q); before = λ q. (l p us).1 (u.before q) })

  token_deep : (ts : List Tok) → IsFirst x ts → (at : Option Position) → pre ts → and_then (parser.bump ts) f ≡ Err (Deep at) → Q ts → ⊥
  token_deep = at_first x (λ ts. (at : Option Position) → pre ts → and_then (parser.bump ts) f ≡ Err (Deep at) → Q ts → ⊥) (λ p us at i h q. (b p).deep us at i h ((l p us).0 q))

  token_read : (ts : List Tok) → IsFirst x ts → (y : A) (rest : List Tok) → pre ts → R ts y rest → F (kind rest) → Q ts → and_then (parser.bump ts) f ≡ Ok (y, rest)
  token_read = at_first x (λ ts. (y : A) (rest : List Tok) → pre ts → R ts y rest → F (kind rest) → Q ts → and_then (parser.bump ts) f ≡ Ok (y, rest))
      (λ p us y rest i r g q. (b p).read us y rest i r g ((l p us).0 q))

  token_local : (ts : List Tok) → IsFirst x ts → pre ts → Stays (λ us. and_then (parser.bump us) f) ts
  token_local = at_first x (λ ts. pre ts → Stays (λ us. and_then (parser.bump us) f) ts) (λ p us i. stays_token f (p, x) us ((b p).local us i))

  pub exact_token_if : Exact 1 (λ ts. and_then (parser.bump ts) f) (λ ts. IsFirst x ts × pre ts) R F Q Q''
  exact_token_if = record {
    reads = λ ts y rest i h. token_reads ts i.0 y rest i.1 h;
    deep = λ ts at i h q. token_deep ts i.0 at i.1 h q;
    read = λ ts y rest i r g q. token_read ts i.0 y rest i.1 r g q;
    local = λ ts i. token_local ts i.0 i.1;
  }

pub exact_token : {A : Type 0} {d r : ℕ} {f : Position → Parser A} (x : Kind) → opens x ≡ 0 → {R : Relation A} {F : Option Kind → Type 0} {Q'' : List Tok → Type 0}
    → ((p : Position) → Exact d (f p) Always (λ us. R ((p, x) ∷ us)) F (At (past (closes x) r)) Q'') → Exact 1 (λ ts. and_then (parser.bump ts) f) (IsFirst x) R F (At r) Q''
exact_token {r = r} x plain {R} {F} {Q''} b = exact_as (exact_token_if x Always R F (At r) (At (past (closes x) r)) Q'' (leads x r plain) b) (λ ts i. (i, tt)) (λ ts y rest i d. d) (λ ts y rest i g d. d) (λ t g. g)

-- what is after a token that opens a level
abbrev pub AfterOpening : {A : Type 0} → ℕ → ℕ → (Position → Parser A) → Kind → Relation A → (Option Kind → Type 0) → Type 0
AfterOpening d zero f x R F = Unit {0}
AfterOpening d (suc r) f x R F = (p : Position) → Exact d (f p) Always (λ us. R ((p, x) ∷ us)) F (At r) (At (suc r))

pub exact_enter : {A : Type 0} (d r : ℕ) (f : Position → Parser A) (x : Kind) → opens x ≡ 1 → {R : Relation A} {F : Option Kind → Type 0}
    → AfterOpening d r f x R F → Exact 1 (λ ts. and_then (parser.enter r ts) f) (IsFirst x) R F (At r) (At r)
unfolding parser.enter
exact_enter d zero f x opening {R} {F} b = record {
  reads = λ ts y rest i h. absurd (cc);
  deep = λ ts at i h q. at_first x (λ us. At zero us → ⊥) (full x opening) ts i q;
  read = λ ts y rest i d g q. absurd (at_first x (λ us. At zero us → ⊥) (full x opening) ts i q);
  local = λ ts i. stays_at_once _ ts refl (λ rest e. ap (λ (at : Option Position). Err (Deep at)) (place_first rest ts e));
}
exact_enter d (suc r) f x opening {R} {F} b = exact_as (exact_token_if x Always R F (At (suc r)) (At r) (At (suc r)) (enters x r opening) b) (λ ts i. (i, tt)) (λ ts y rest i d. d) (λ ts y rest i g d. d) (λ t g. g)

-- a token that must be there
module _ (x : Kind) (test : Option Kind → Bool) (r : ℕ) (plain : opens x ≡ 0) (only : (t : Option Kind) → test t ≡ true → t ≡ Some x) (passes : test (Some x) ≡ true) where
  expected : (ts : List Tok) (p : Position) (rest : List Tok) → IsFirst x ts → ◌≡◌ {A = Outcome Position} (Ok (position ts, next ts)) (Ok (p, rest))
      → Found 1 (IsOne x) (At r) (At (past (closes x) r)) ts p rest
  expected ts p rest first h = at_first x (λ us. ◌≡◌ {A = Outcome Position} (Ok (position us, next us)) (Ok (p, rest)) → Found 1 (IsOne x) (At r) (At (past (closes x) r)) us p rest)
      (λ q us e. let same = ok_parts e in
      subst (λ z. Found 1 (IsOne x) (At r) (At (past (closes x) r)) ((q, x) ∷ us) z rest) same.0
      (subst (λ vs. Found 1 (IsOne x) (At r) (At (past (closes x) r)) ((q, x) ∷ us) q vs) same.1
      (record { is = one; takes = omega arith; after = (leads x r plain q us).0; before = (leads x r plain q us).1 }))) ts first h

  expect_reads : (ts : List Tok) (p : Position) (rest : List Tok) (b : Bool) → test (kind ts) ≡ b → parser.expect test ts ≡ Ok (p, rest) → Found 1 (IsOne x) (At r) (At (past (closes x) r)) ts p rest
  unfolding parser.expect
  expect_reads ts p rest true t h = expected ts p rest (only (kind ts) t) (rw t at h)
  expect_reads ts p rest false t h = let g = rw t at h in absurd (cc)

  expect_deep : (ts : List Tok) (at : Option Position) (b : Bool) → test (kind ts) ≡ b → parser.expect test ts ≡ Err (Deep at) → ⊥
  unfolding parser.expect
  expect_deep ts at true t h = let g = rw t at h in cc
  expect_deep ts at false t h = let g = rw t at h in cc

  expect_read : {ts rest : List Tok} {p : Position} → IsOne x ts p rest → parser.expect test ts ≡ Ok (p, rest)
  unfolding parser.expect
  expect_read one = rw passes refl

  pub exact_expect : Exact 1 (parser.expect test) Always (IsOne x) Any (At r) (At (past (closes x) r))
  exact_expect = record {
    reads = λ ts p rest u h. expect_reads ts p rest (test (kind ts)) refl h;
    deep = λ ts at u h q. expect_deep ts at (test (kind ts)) refl h;
    read = λ ts p rest u d g q. expect_read d;
    local = λ ts u. stays_expect test ts;
  }

pub symbol_is : (x : Symbol) (t : Option Kind) → parser.is_symbol x t ≡ true → t ≡ Some (token_kinds.Symbol x)
symbol_is x (Some (token_kinds.Symbol y)) h = ap (λ z. Some (token_kinds.Symbol z)) (sym (same_true symbol.the_type (search rules) x y h))
symbol_is x _ h = absurd (cc)

pub keyword_is : (x : Keyword) (t : Option Kind) → parser.is_keyword x t ≡ true → t ≡ Some (token_kinds.Keyword x)
keyword_is x (Some (token_kinds.Keyword y)) h = ap (λ z. Some (token_kinds.Keyword z)) (sym (same_true keyword.the_type (search rules) x y h))
keyword_is x _ h = absurd (cc)

pub symbol_self : (x : Symbol) → same_symbol x x ≡ true
symbol_self symbols.Open = refl
symbol_self _ = refl

pub keyword_self : (x : Keyword) → same_keyword x x ≡ true
keyword_self keywords.If = refl
keyword_self _ = refl

pub exact_symbol : (x : Symbol) (r : ℕ) → opens (token_kinds.Symbol x) ≡ 0 → Exact 1 (parser.expect_symbol x) Always (IsOne (token_kinds.Symbol x)) Any (At r) (At (past (closes (token_kinds.Symbol x)) r))
exact_symbol x r plain = exact_expect (token_kinds.Symbol x) (parser.is_symbol x) r plain (symbol_is x) (symbol_self x)

pub exact_keyword : (x : Keyword) (r : ℕ) → opens (token_kinds.Keyword x) ≡ 0 → Exact 1 (parser.expect_keyword x) Always (IsOne (token_kinds.Keyword x)) Any (At r) (At (past (closes (token_kinds.Keyword x)) r))
exact_keyword x r plain = exact_expect (token_kinds.Keyword x) (parser.is_keyword x) r plain (keyword_is x) (keyword_self x)

one_parts : {x : Kind} {ts rest : List Tok} {p : Position} → IsOne x ts p rest → (position ts ≡ p) × (next ts ≡ rest)
one_parts one = (refl, refl)

-- a symbol that opens a level
module _ (x : Symbol) (r : ℕ) (opening : opens (token_kinds.Symbol x) ≡ 1) where
  open_to : (p : Position) (ts : List Tok) (y : Position) (rest : List Tok) → IsPure p ts y rest → IsOne (token_kinds.Symbol x) ((p, token_kinds.Symbol x) ∷ ts) y rest
  open_to p ts y rest d = made d (λ z us. IsOne (token_kinds.Symbol x) ((p, token_kinds.Symbol x) ∷ ts) z us) one

  open_from : (p : Position) (ts : List Tok) (y : Position) (rest : List Tok) → IsOne (token_kinds.Symbol x) ((p, token_kinds.Symbol x) ∷ ts) y rest → IsPure p ts y rest
  open_from p ts y rest d = let e = one_parts d in subst (λ z. IsPure p ts z rest) e.0 (subst (λ us. IsPure p ts p us) e.1 done)

  open_not : {ts rest : List Tok} {p : Position} → parser.is_symbol x (kind ts) ≡ false → IsOne (token_kinds.Symbol x) ts p rest → ⊥
  open_not h one = let self = symbol_self x in cc

  open_by : (b : Bool) → Exact 1 (λ ts. if b then parser.enter (suc r) ts else parser.refuse ts) (λ ts. (parser.is_symbol x (kind ts) ≡ b) × Always ts) (IsOne (token_kinds.Symbol x)) Any (At (suc r)) (At r)
  unfolding parser.enter
  open_by true = exact_under (exact_token_if (token_kinds.Symbol x) Always (IsOne (token_kinds.Symbol x)) Any (At (suc r)) (At r) (At r) (enters (token_kinds.Symbol x) r opening)
      (λ p. exact_iff (exact_pure p Always Any (At r)) (open_to p) (open_from p))) (λ ts h. (symbol_is x (kind ts) h.0, tt)) (λ t g. g)
  open_by false = exact_refuse 1 _ (IsOne (token_kinds.Symbol x)) Any (At (suc r)) (At r) (λ ts y rest h d. open_not h.0 d)

  pub exact_open_level : Exact 1 (parser.open_level x (suc r)) Always (IsOne (token_kinds.Symbol x)) Any (At (suc r)) (At r)
  unfolding parser.open_level
  exact_open_level = exact_on (λ ts. parser.is_symbol x (kind ts)) (by_kind (parser.is_symbol x)) (λ b ts. if b then parser.enter (suc r) ts else parser.refuse ts) Always (IsOne (token_kinds.Symbol x)) Any (At (suc r)) (At r) open_by

-- what a parser does with its first token, whatever stands behind it: it takes the token alone, or refuses
pub data TakesOne {A : Type 0} (P : Parser A) (R : Relation A) (r : ℕ) (t : Tok) : Type 0 where
  takes : (x : A) → Leads (At r) (At r) t.1 → ((us : List Tok) → P (t ∷ us) ≡ Ok (x, us)) → ((us : List Tok) → R (t ∷ us) x us) → TakesOne P R r t
  refuses : P ≡ parser.refuse → TakesOne P R r t

-- by the first token, which is taken alone or refused
module _ {A : Type 0} (f : Option Kind → Parser A) (R : Relation A) (r : ℕ) (none : f None ≡ parser.refuse) (one : (t : Tok) → TakesOne (f (Some t.1)) R r t)
    (is_read : (ts : List Tok) (x : A) (rest : List Tok) → R ts x rest → f (kind ts) ts ≡ Ok (x, rest)) where
  one_reads : {P : Parser A} (t : Tok) (us : List Tok) (x : A) (rest : List Tok) → TakesOne P R r t → P (t ∷ us) ≡ Ok (x, rest) → Found 1 R (At r) (At r) (t ∷ us) x rest
  one_reads t us x rest (takes y levels reads is) h = let e = ok_parts (sym (reads us) ∙ h) in
      subst (λ z. Found 1 R (At r) (At r) (t ∷ us) z rest) e.0
      (subst (λ vs. Found 1 R (At r) (At r) (t ∷ us) y vs) e.1
      (record { is = is us; takes = omega arith; after = (levels t.0 us).0; before = (levels t.0 us).1 }))
  one_reads t us x rest (refuses e) h = let g = rw e at h in absurd (cc)

  first_reads : (ts : List Tok) (x : A) (rest : List Tok) → f (kind ts) ts ≡ Ok (x, rest) → Found 1 R (At r) (At r) ts x rest
  first_reads [] x rest h = let g = rw none at h in absurd (cc)
  first_reads (t ∷ us) x rest h = one_reads t us x rest (one t) h

  one_deep : {P : Parser A} (t : Tok) (us : List Tok) (at : Option Position) → TakesOne P R r t → P (t ∷ us) ≡ Err (Deep at) → ⊥
  one_deep t us at (takes y levels reads is) h = let g = sym (reads us) ∙ h in cc
  one_deep t us at (refuses e) h = let g = rw e at h in cc

  first_deep : (ts : List Tok) (at : Option Position) → f (kind ts) ts ≡ Err (Deep at) → ⊥
  first_deep [] at h = let g = rw none at h in cc
  first_deep (t ∷ us) at h = one_deep t us at (one t) h

  one_local : {P : Parser A} (t : Tok) (us : List Tok) → TakesOne P R r t → Stays P (t ∷ us)
  one_local t us (takes x levels reads is) = stays_one t us x reads
  one_local t us (refuses e) = subst (λ P. Stays P (t ∷ us)) (sym e) (stays_refuse (t ∷ us))

  first_local : (ts : List Tok) → Stays (f (kind ts)) ts
  first_local [] = subst (λ P. Stays P []) (sym none) (stays_refuse [])
  first_local (t ∷ us) = one_local t us (one t)

  pub exact_one : Exact 1 (λ ts. f (kind ts) ts) Always R Any (At r) (At r)
  exact_one = record {
    reads = λ ts x rest u h. first_reads ts x rest h;
    deep = λ ts at u h q. first_deep ts at h;
    read = λ ts x rest u d g q. is_read ts x rest d;
    local = λ ts u. stays_on kind f Always (steady_first kind f Always kind_first) ts tt (first_local ts);
  }

pub exact_identifier : (r : ℕ) → Exact 1 parser.identifier Always IsWord Any (At r) (At r)
unfolding parser.identifier
exact_identifier r = exact_one parser.identifier_by IsWord r refl one is_read where
  one : (t : Tok) → TakesOne (parser.identifier_by (Some t.1)) IsWord r t
  one (p, token_kinds.Word n) = takes (identifier_of p n) (λ q us. (λ h. h, λ h. h)) (λ us. refl) (λ us. a_word)
  one (p, _) = refuses refl

  is_read : (ts : List Tok) (x : Identifier) (rest : List Tok) → IsWord ts x rest → parser.identifier_by (kind ts) ts ≡ Ok (x, rest)
  is_read ts x rest a_word = refl

pub exact_number : (r : ℕ) → Exact 1 parser.number Always IsNumber Any (At r) (At r)
unfolding parser.number
exact_number r = exact_one parser.number_by IsNumber r refl one is_read where
  one : (t : Tok) → TakesOne (parser.number_by (Some t.1)) IsNumber r t
  one (p, token_kinds.Number n) = takes n (λ q us. (λ h. h, λ h. h)) (λ us. refl) (λ us. a_number)
  one (p, _) = refuses refl

  is_read : (ts : List Tok) (x : ℕ) (rest : List Tok) → IsNumber ts x rest → parser.number_by (kind ts) ts ≡ Ok (x, rest)
  is_read ts x rest a_number = refl

-- ---- what may follow

-- a token of which F holds comes next
pub before_token : {B : Type 0} {x : Kind} {S : Position → Relation B} (F : Option Kind → Type 0) → F (Some x) → {mid rest : List Tok} {y : B} → Then (IsOne x) S mid y rest → F (kind mid)
before_token F f (seq one t) = f

-- P, and then a token that must be there
pub exact_before : {A B : Type 0} {c d e : ℕ} {P : Parser A} {T : Parser Position} {f : A → Position → Parser B} {pre : List Tok → Type 0} {R : Relation A} {S : A → Position → Relation B}
    {F G : Option Kind → Type 0} {Q Q' Q'' Q''' : List Tok → Type 0} (x : Kind) → Exact c P pre R F Q Q' → F (Some x) → Exact d T Always (IsOne x) Any Q' Q''
    → ((a : A) (p : Position) → Exact e (f a p) Always (S a p) G Q'' Q''')
    → Exact c (λ ts. and_then (P ts) (λ a us. and_then (T us) (f a))) pre (Then R (λ a. Then (IsOne x) (S a))) G Q Q'''
exact_before {F = F} x a fits t b = exact_bind a (λ y. exact_bind t (b y) (λ p mid rest z s g. tt)) (λ y mid rest z s g. before_token F fits s)

-- R, and then this token
abbrev pub Before : {A : Type 0} → Relation A → Kind → Relation A
Before R x = Then R (λ a. Then (IsOne x) (λ q. IsPure a))

-- a word, and then a symbol that must be there
pub exact_identifier_before : (x : Symbol) (r : ℕ) → opens (token_kinds.Symbol x) ≡ 0 → Exact 1 (parser.identifier_before x) Always (Before IsWord (token_kinds.Symbol x)) Any (At r) (At (past (closes (token_kinds.Symbol x)) r))
unfolding parser.identifier_before
exact_identifier_before x r plain = exact_before (token_kinds.Symbol x) (exact_identifier r) tt (exact_symbol x r plain) (λ n q. exact_pure n Always Any (At (past (closes (token_kinds.Symbol x)) r)))

-- a list ends where its test fails, at a token that may follow an item
abbrev pub Ends : (Option Kind → Bool) → (Option Kind → Type 0) → Option Kind → Type 0
Ends test F t = (test t ≡ false) × F t

module _ {A : Type 0} (test : Option Kind → Bool) (item : Parser A) (R : Relation A) (F : Option Kind → Type 0) (Q : List Tok → Type 0)
    (a : Exact 1 item (λ ts. test (kind ts) ≡ true) R F Q Q) (begins : (ts : List Tok) (x : A) (rest : List Tok) → R ts x rest → test (kind ts) ≡ true)
    (between : (t : Option Kind) → test t ≡ true → F t) where
  step_reads : (n : ℕ) (ts : List Tok) (b : Bool) (o : Outcome A) (xs : List A) (rest : List Tok) → test (kind ts) ≡ b → item ts ≡ o → many_from test item (suc n) ts ≡ Ok (xs, rest)
      → ((mid : List Tok) (ys : List A) → many_from test item n mid ≡ Ok (ys, rest) → Found 0 (IsMany R) Q Q mid ys rest) → Found 0 (IsMany R) Q Q ts xs rest
  step_reads n ts false o xs rest t i h ih = let e = ok_parts (sym (at_end test item n ts t) ∙ h) in
      subst (λ us. Found 0 (IsMany R) Q Q ts xs us) e.1 (subst (λ ys. Found 0 (IsMany R) Q Q ts ys ts) e.0
      (record { is = none; takes = omega arith; after = λ q. q; before = λ q. q }))
  step_reads n ts true (Ok z) xs rest t i h ih =
      let g = ahead_ok z.0 _ xs rest (sym (at_item test item n ts z.0 z.1 t i) ∙ h) in
      let v = ih z.1 g.0 g.1 in
      let u = a.reads ts z.0 z.1 t i in
      subst (λ ys. Found 0 (IsMany R) Q Q ts ys rest) (sym g.2)
      (record { is = more u.is v.is; takes = omega (arith, u.takes, v.takes); after = λ q. v.after (u.after q); before = λ q. u.before (v.before q) })
  step_reads n ts true (Err r) xs rest t i h ih = let g = sym (at_err test item n ts r t i) ∙ h in absurd (cc)

  from_reads : (n : ℕ) (ts : List Tok) (xs : List A) (rest : List Tok) → many_from test item n ts ≡ Ok (xs, rest) → Found 0 (IsMany R) Q Q ts xs rest
  unfolding many_from
  from_reads zero ts xs rest h = absurd (cc)
  from_reads (suc n) ts xs rest h = step_reads n ts (test (kind ts)) (item ts) xs rest refl refl h (λ mid ys g. from_reads n mid ys rest g)

  step_deep : (n : ℕ) (ts : List Tok) (at : Option Position) (b : Bool) (o : Outcome A) → test (kind ts) ≡ b → item ts ≡ o → many_from test item (suc n) ts ≡ Err (Deep at)
      → ((mid : List Tok) → many_from test item n mid ≡ Err (Deep at) → Q mid → ⊥) → Q ts → ⊥
  step_deep n ts at false o t i h ih q = let g = sym (at_end test item n ts t) ∙ h in cc
  step_deep n ts at true (Ok z) t i h ih q = ih z.1 (ahead_err z.0 _ (Deep at) (sym (at_item test item n ts z.0 z.1 t i) ∙ h)) ((a.reads ts z.0 z.1 t i).after q)
  step_deep n ts at true (Err r) t i h ih q = let g : Err r ≡ Err (Deep at) = sym (at_err test item n ts r t i) ∙ h in let e : r ≡ Deep at = cc in
      a.deep ts at t (i ∙ ap Err e) q

  from_deep : (n : ℕ) (ts : List Tok) (at : Option Position) → many_from test item n ts ≡ Err (Deep at) → Q ts → ⊥
  unfolding many_from
  from_deep zero ts at h q = cc
  from_deep (suc n) ts at h q = step_deep n ts at (test (kind ts)) (item ts) refl refl h (λ mid g. from_deep n mid at g) q

  next_follow : {mid rest : List Tok} {xs : List A} → IsMany R mid xs rest → Ends test F (kind rest) → F (kind mid)
  next_follow none e = e.1
  next_follow (more {ts = ts} {mid = mid} {x = x} d m) e = between (kind ts) (begins ts x mid d)

  from_read : {ts rest : List Tok} {xs : List A} → IsMany R ts xs rest → (n : ℕ) → length ts < n → Ends test F (kind rest) → Q ts → many_from test item n ts ≡ Ok (xs, rest)
  from_read d zero enough e q = absurd (omega arith)
  from_read {ts} none (suc n) enough e q = at_end test item n ts e.0
  from_read {ts} (more {mid = mid} {x = x} d m) (suc n) enough e q =
      let i = a.read ts x mid (begins ts x mid d) d (next_follow m e) q in
      let u = a.reads ts x mid (begins ts x mid d) i in
      at_item test item n ts x mid (begins ts x mid d) i ∙ ap (ahead (x ∷ [])) (from_read {ts = mid} m n (omega (arith, u.takes)) e (u.after q))

  -- { item }
  pub exact_many : Exact 0 (many test item) Always (IsMany R) (Ends test F) Q Q
  unfolding many
  exact_many = record {
    reads = λ ts xs rest u h. from_reads (suc (length ts)) ts xs rest h;
    deep = λ ts at u h. from_deep (suc (length ts)) ts at h;
    read = λ ts xs rest u d e q. from_read d (suc (length ts)) (omega arith) e q;
    local = λ ts u. stays_many test item a.local (λ us x mid t i. let w = (a.reads us x mid t i).takes in omega (arith, w)) ts;
  }

module _ {A : Type 0} (item : Parser A) (R : Relation A) (F : Option Kind → Type 0) (r : ℕ) (a : Exact 1 item Always R F (At r) (At r)) (comma_fits : F (Some (token_kinds.Symbol symbols.Comma))) where
  next_begins : (ts : List Tok) (x : A) (rest : List Tok) → IsNext R ts x rest → is_symbol symbols.Comma (kind ts) ≡ true
  next_begins ts x rest (comma d) = refl

  without_comma : (p : Position) (ts : List Tok) (x : A) (rest : List Tok) → IsNext R ((p, token_kinds.Symbol symbols.Comma) ∷ ts) x rest → R ts x rest
  without_comma p ts x rest (comma d) = d

  exact_next : Exact 1 (parser.next_item item) (λ ts. is_symbol symbols.Comma (kind ts) ≡ true) (IsNext R) F (At r) (At r)
  unfolding parser.next_item
  exact_next = exact_as (exact_token (token_kinds.Symbol symbols.Comma) refl {R = IsNext R} (λ p. exact_iff a (λ ts x rest d. comma d) (without_comma p)))
      (λ ts t. symbol_is symbols.Comma (kind ts) t) (λ ts x rest t d. d) (λ ts x rest t g d. d) (λ t g. g)

  exact_nexts : Exact 0 (many (is_symbol symbols.Comma) (parser.next_item item)) Always (IsMany (IsNext R)) (Ends (is_symbol symbols.Comma) F) (At r) (At r)
  exact_nexts = exact_many (is_symbol symbols.Comma) (parser.next_item item) (IsNext R) F (At r) exact_next next_begins (λ t h. subst F (sym (symbol_is symbols.Comma t h)) comma_fits)

  to_listed : (ts : List Tok) (xs : List A) (rest : List Tok) → Then R (λ x. Then (IsMany (IsNext R)) (λ ys. IsPure (x ∷ ys))) ts xs rest → IsListed R ts xs rest
  to_listed ts xs rest (seq d (seq m p)) = made p (λ ys us. IsListed R ts ys us) (listed d m)

  from_listed : (ts : List Tok) (xs : List A) (rest : List Tok) → IsListed R ts xs rest → Then R (λ x. Then (IsMany (IsNext R)) (λ ys. IsPure (x ∷ ys))) ts xs rest
  from_listed ts xs rest (listed d m) = seq d (seq m done)

  first_follow : (x : A) (mid rest : List Tok) (xs : List A) → Then (IsMany (IsNext R)) (λ ys. IsPure (x ∷ ys)) mid xs rest → Ends (is_symbol symbols.Comma) F (kind rest) → F (kind mid)
  first_follow x mid rest xs (seq none p) e = made p (λ ys us. Ends (is_symbol symbols.Comma) F (kind us) → F (kind mid)) (λ g. g.1) e
  first_follow x mid rest xs (seq (more (comma d) m) p) e = comma_fits

  -- item { ',' item }
  pub exact_listed : Exact 1 (parser.listed item) Always (IsListed R) (Ends (is_symbol symbols.Comma) F) (At r) (At r)
  unfolding parser.listed parser.leading
  exact_listed = exact_iff (exact_bind a (λ x. exact_bind exact_nexts (λ xs. exact_pure (x ∷ xs) Always (Ends (is_symbol symbols.Comma) F) (At r)) same_end) first_follow) to_listed from_listed where
    same_end : {x : A} (xs : List A) (mid rest : List Tok) (ys : List A) → IsPure (x ∷ xs) mid ys rest → Ends (is_symbol symbols.Comma) F (kind rest) → Ends (is_symbol symbols.Comma) F (kind mid)
    same_end xs mid rest ys p e = made p (λ zs us. Ends (is_symbol symbols.Comma) F (kind us) → Ends (is_symbol symbols.Comma) F (kind mid)) (λ g. g) e
