-- Loops that read items as long as the first token passes a test.
use Rattle.std.proofs.Common.{◌≡◌, ℕ, zero, suc, ◌<◌, List, [], ◌∷◌, ◌++◌, length, refl, sym, ap, subst, ◌∙◌, Bool, true, false, arith, append_assoc, append-nil, inl, inr}
use Rattle.std.specs.Borrow.{Bor}
use Rattle.st_tokens.specs.declared.symbol.Symbol.TheVariants as symbols
use Rattle.std.specs.Prelude.{IsOkAnd, OnOk, Option, Result, Ok, Err}
use Rattle.st_parser.specs.Names.{Kind, ReadFault}
use Rattle.st_parser.specs.declared.fault.ReadFault.TheVariants as read_faults
use Rattle.st_parser.specs.Grammar.Tokens.{Tok, kind}
use Rattle.st_parser.specs.Reader.Parsers.{IsFaultOf, Refuses, Refusal, Wrong, Deep, Outcome, Parser, Reads, ahead, and_then, many_from, many, leading, listed, is_symbol, next_item}
use Rattle.st_parser.specs.Reader.Functions.{After, ReadsAs, TestsAs}

pub ahead_again : {A : Type 0} (xs : List A) (x : A) (o : Outcome (List A)) → ahead (xs ++ x ∷ []) o ≡ ahead xs (ahead (x ∷ []) o)
ahead_again xs x (Ok y) = ap (λ zs. Ok (zs, y.1)) (append_assoc xs (x ∷ []) y.0)
ahead_again xs x (Err r) = refl

-- what is found, with what is left to be read, is all that is read from here
pub record Left {A : Type 0} (test : Option Kind → Bool) (item : Parser A) (found_before : List A) (start : List Tok) (found : List A) (ts : List Tok) : Type 0 where
  pub turns : ℕ
  pub enough : length ts < turns
  pub same : ahead found (many_from test item turns ts) ≡ ahead found_before (many test item start)

module _ {A : Type 0} (test : Option Kind → Bool) (item : Parser A) where
  pub at_item : (n : ℕ) (ts : List Tok) (x : A) (mid : List Tok) → test (kind ts) ≡ true → item ts ≡ Ok (x, mid)
      → many_from test item (suc n) ts ≡ ahead (x ∷ []) (many_from test item n mid)
  unfolding many_from
  at_item n ts x mid t h = rw (t, h) (plain (many_from test item n mid)) where
    plain : (o : Outcome (List A)) → and_then o (λ xs us. Ok (x ∷ xs, us)) ≡ ahead (x ∷ []) o
    plain (Ok y) = refl
    plain (Err r) = refl

  pub at_end : (n : ℕ) (ts : List Tok) → test (kind ts) ≡ false → many_from test item (suc n) ts ≡ Ok ([], ts)
  unfolding many_from
  at_end n ts t = rw t refl

  pub at_err : (n : ℕ) (ts : List Tok) (r : Refusal) → test (kind ts) ≡ true → item ts ≡ Err r → many_from test item (suc n) ts ≡ Err r
  unfolding many_from
  at_err n ts r t h = rw (t, h) refl

ahead_none : {A : Type 0} (o : Outcome (List A)) → ahead [] o ≡ o
ahead_none (Ok y) = refl
ahead_none (Err r) = refl

-- what was read, where it was
pub read_item : {A : Type 0} {o : Outcome A} (read : Result A ReadFault) {rest : List Tok} {P : A → Type 0} → Reads o read rest → IsOkAnd read P
    → (x : A) × (o ≡ Ok (x, rest)) × P x
read_item (Ok x) reads holds = (x, reads, holds)
read_item (Err f) reads holds = absurd holds

pub of_item : {A Q : Type 0} (read : Result A ReadFault) (P : A → Type 0) → IsOkAnd read P → OnOk read Q → Q
of_item (Ok x) P holds follows = follows
of_item (Err f) P holds follows = absurd holds

-- what wasn't read, or wasn't kept
pub refused_read : {A : Type 0} (o : Outcome A) (read : Result A ReadFault) (rest : List Tok) (f : ReadFault) → IsFaultOf read f → Reads o read rest → Refuses o f
refused_read o read rest f (inl same) reads = subst (λ r. Reads o r rest) same reads
refused_read o read rest f (inr memory) reads = rw memory tt

module _ {A : Type 0} (test : Option Kind → Bool) (item : Parser A) (found_before : List A) (start : List Tok) where
  pub left_init : Left test item found_before start found_before start
  unfolding many
  left_init = record { turns = suc (length start); enough = omega arith; same = refl }

  step_at : (n : ℕ) (found : List A) (ts : List Tok) (x : A) (mid : List Tok) → length ts < n
      → ahead found (many_from test item n ts) ≡ ahead found_before (many test item start)
      → test (kind ts) ≡ true → item ts ≡ Ok (x, mid) → length mid < length ts → Left test item found_before start (found ++ x ∷ []) mid
  step_at zero found ts x mid h s t e l = absurd (omega arith)
  step_at (suc n) found ts x mid h s t e l = record {
    turns = n;
    enough = omega arith;
    same = ahead_again found x (many_from test item n mid) ∙ ap (ahead found) (sym (at_item test item n ts x mid t e)) ∙ s;
  }

  pub left_step : (found : List A) (ts : List Tok) (x : A) (mid : List Tok) → Left test item found_before start found ts
      → test (kind ts) ≡ true → item ts ≡ Ok (x, mid) → length mid < length ts → Left test item found_before start (found ++ x ∷ []) mid
  left_step found ts x mid w = step_at w.turns found ts x mid w.enough w.same

  pub left_added : (found now : List A) (ts mid : List Tok) (read : Result A ReadFault) → Left test item found_before start found ts
      → test (kind ts) ≡ true → Reads (item ts) read mid → IsOkAnd read (λ x. now ≡ found ++ x ∷ []) → length mid < length ts → Left test item found_before start now mid
  left_added found now ts mid read w t reads added less =
      let it = read_item read reads added in
      rw it.2 (left_step found ts it.0 mid w t it.1 less)

  end_at : (n : ℕ) (found : List A) (ts : List Tok) → length ts < n
      → ahead found (many_from test item n ts) ≡ ahead found_before (many test item start)
      → test (kind ts) ≡ false → ahead found_before (many test item start) ≡ Ok (found, ts)
  end_at zero found ts h s t = absurd (omega arith)
  end_at (suc n) found ts h s t = sym s ∙ ap (ahead found) (at_end test item n ts t) ∙ ap (λ zs. Ok (zs, ts)) (append-nil found)

  pub left_end : (found : List A) (ts : List Tok) → Left test item found_before start found ts → test (kind ts) ≡ false → ahead found_before (many test item start) ≡ Ok (found, ts)
  left_end found ts w = end_at w.turns found ts w.enough w.same

  err_at : (n : ℕ) (found : List A) (ts : List Tok) (r : Refusal) → length ts < n
      → ahead found (many_from test item n ts) ≡ ahead found_before (many test item start)
      → test (kind ts) ≡ true → item ts ≡ Err r → ahead found_before (many test item start) ≡ Err r
  err_at zero found ts r h s t e = absurd (omega arith)
  err_at (suc n) found ts r h s t e = sym s ∙ ap (ahead found) (at_err test item n ts r t e)

  pub left_err : (found : List A) (ts : List Tok) (r : Refusal) → Left test item found_before start found ts → test (kind ts) ≡ true → item ts ≡ Err r → ahead found_before (many test item start) ≡ Err r
  left_err found ts r w = err_at w.turns found ts r w.enough w.same

-- nothing was found before
pub reads_alone : {A : Type 0} (found : List A) (o : Outcome (List A)) (r : Result (List A) ReadFault) (rest : List Tok) → found ≡ [] → Reads (ahead found o) r rest → Reads o r rest
reads_alone found o r rest e h = subst (λ p. Reads p r rest) (ap (λ zs. ahead zs o) e ∙ ahead_none o) h

-- a refusal that is passed on
pub refuses_too : {A B : Type 0} (o : Outcome A) (p : Outcome B) (f : ReadFault) → ((r : Refusal) → o ≡ Err r → p ≡ Err r) → Refuses o f → Refuses p f
refuses_too o p read_faults.Memory g h = tt
refuses_too o p (read_faults.NotInGrammar at) g h = g (Wrong at) h
refuses_too o p (read_faults.TooDeep at) g h = g (Deep at) h

module _ {A : Type 0} (test : Option Kind → Bool) (item : Parser A) (start : List Tok) where
  pub loop_end : (found : List A) (ts : List Tok) → Left test item [] start found ts → test (kind ts) ≡ false → many test item start ≡ Ok (found, ts)
  loop_end found ts w t = sym (ahead_none (many test item start)) ∙ left_end test item [] start found ts w t

  pub loop_err : (found : List A) (ts : List Tok) (f : ReadFault) → Left test item [] start found ts → test (kind ts) ≡ true
      → Refuses (item ts) f → Refuses (many test item start) f
  loop_err found ts f w t = refuses_too _ _ f (λ r h. sym (ahead_none (many test item start)) ∙ left_err test item [] start found ts r w t h)

-- cc takes Ok apart, and not a pair
pub ok_parts : {A : Type 0} {x y : A} {ts us : List Tok} → ◌≡◌ {A = Outcome A} (Ok (x, ts)) (Ok (y, us)) → (x ≡ y) × (ts ≡ us)
ok_parts {A} {x} {y} {ts} {us} h = let e : ◌≡◌ {A = A × List Tok} (x, ts) (y, us) = cc in (ap (λ z. z.0) e, ap (λ z. z.1) e)

pub ahead_ok : {A : Type 0} (x : A) (o : Outcome (List A)) (xs : List A) (rest : List Tok) → ahead (x ∷ []) o ≡ Ok (xs, rest)
    → (ys : List A) × (o ≡ Ok (ys, rest)) × (xs ≡ x ∷ ys)
ahead_ok x (Ok y) xs rest h = let e = ok_parts h in (y.0, ap (λ z. Ok (y.0, z)) e.1, sym e.0)
ahead_ok x (Err r) xs rest h = absurd (cc)

pub ahead_err : {A : Type 0} (x : A) (o : Outcome (List A)) (r : Refusal) → ahead (x ∷ []) o ≡ Err r → o ≡ Err r
ahead_err x (Ok y) r h = absurd (cc)
ahead_err x (Err s) r h = cc

as_ahead : {A : Type 0} (x : A) (o : Outcome (List A)) → and_then o (λ xs us. Ok (x ∷ xs, us)) ≡ ahead (x ∷ []) o
as_ahead x (Ok y) = refl
as_ahead x (Err r) = refl

leading_of : {A : Type 0} (head : Parser A) (test : Option Kind → Bool) (item : Parser A) (start mid : List Tok) (x : A) (one : List A)
    → head start ≡ Ok (x, mid) → one ≡ x ∷ [] → leading head test item start ≡ ahead one (many test item mid)
unfolding leading
leading_of head test item start mid x one first alone = rw (first, alone) (as_ahead x (many test item mid))

-- a loop after the first item, which was read and is a list by itself
module _ {A : Type 0} (head : Parser A) (test : Option Kind → Bool) (item : Parser A) (start mid : List Tok) (read : Result A ReadFault)
    (reads : Reads (head start) read mid) (one : List A) (alone : IsOkAnd read (λ x. one ≡ x ∷ [])) where
  pub leading_is : leading head test item start ≡ ahead one (many test item mid)
  leading_is =
      let it = read_item read reads alone in
      leading_of head test item start mid it.0 one it.1 it.2

  pub leading_end : (found : List A) (ts : List Tok) → Left test item one mid found ts → test (kind ts) ≡ false → leading head test item start ≡ Ok (found, ts)
  leading_end found ts w t = leading_is ∙ left_end test item one mid found ts w t

  pub leading_err : (found : List A) (ts : List Tok) (f : ReadFault) → Left test item one mid found ts
      → test (kind ts) ≡ true → Refuses (item ts) f → Refuses (leading head test item start) f
  leading_err found ts f w t = refuses_too _ _ f (λ r h. leading_is ∙ left_err test item one mid found ts r w t h)

-- the first item is refused
pub leading_first : {A : Type 0} (head : Parser A) (test : Option Kind → Bool) (item : Parser A) (start : List Tok) (f : ReadFault) → Refuses (head start) f → Refuses (leading head test item start) f
unfolding leading
leading_first head test item start f h = refuses_too _ _ f (λ r e. rw e refl) h

-- item { ',' item }
module _ {A : Type 0} (item : Parser A) (start : List Tok) where
  pub listed_first : (f : ReadFault) → Refuses (item start) f → Refuses (listed item start) f
  unfolding listed
  listed_first f h = leading_first item (is_symbol symbols.Comma) (next_item item) start f h

  module _ (mid : List Tok) (read : Result A ReadFault) (reads : Reads (item start) read mid) (one : List A) (alone : IsOkAnd read (λ x. one ≡ x ∷ [])) where
    pub listed_end : (found : List A) (ts : List Tok) → Left (is_symbol symbols.Comma) (next_item item) one mid found ts
        → is_symbol symbols.Comma (kind ts) ≡ false → listed item start ≡ Ok (found, ts)
    unfolding listed
    listed_end = leading_end item (is_symbol symbols.Comma) (next_item item) start mid read reads one alone

    pub listed_err : (found : List A) (ts : List Tok) (f : ReadFault) → Left (is_symbol symbols.Comma) (next_item item) one mid found ts
        → is_symbol symbols.Comma (kind ts) ≡ true → Refuses (next_item item ts) f → Refuses (listed item start) f
    unfolding listed
    listed_err = leading_err item (is_symbol symbols.Comma) (next_item item) start mid read reads one alone

-- for each parser that a passed function reads, what is found with what is left is all of its list
abbrev pub EachLeft : {A : Type 0} → (Bor (List Tok) → Bool → Type 0) → After A → List A → List Tok → List A → List Tok → Type 0
EachLeft {A} tests post found_before start found ts = (test : Option Kind → Bool) (p : Parser A) → TestsAs test tests → ReadsAs p post → Left test p found_before start found ts

abbrev pub EachNextLeft : {A : Type 0} → After A → List A → List Tok → List A → List Tok → Type 0
EachNextLeft {A} post found_before start found ts = (p : Parser A) → ReadsAs p post → Left (is_symbol symbols.Comma) (next_item p) found_before start found ts
