-- What a parser answers doesn't depend on what stands behind the first token that it leaves.
use Rattle.std.proofs.Common.{◌≡◌, ℕ, zero, suc, ◌<◌, List, [], ◌∷◌, ◌++◌, length, refl, sym, ap, subst, ◌∙◌, Bool, true, false, if◌then◌else◌, arith, append_assoc, length-append}
use Rattle.std.specs.Prelude.{Option, Some, None, Ok, Err}
use Rattle.st_parser.specs.Names.{Kind, Position}
use Rattle.st_parser.specs.Grammar.Tokens.{Tok, first, kind, next, place, position}
use Rattle.st_parser.specs.Reader.Parsers.{Refusal, Wrong, Outcome, Parser, ahead, and_then, bump, expect, many, many_from, place_of, pure, refuse}
use Rattle.st_parser.proofs.Loops.{at_item, at_end, at_err, ok_parts}

-- an outcome leaves these tokens, or is a refusal at the first of them
abbrev pub Leaves : {A : Type 0} → Outcome A → List Tok → Type 0
Leaves (Ok x) left = x.1 ≡ left
Leaves (Err r) left = place_of r ≡ place left

-- the outcome with other tokens left
abbrev pub ending : {A : Type 0} → Outcome A → List Tok → Outcome A
ending (Ok x) rest = Ok (x.0, rest)
ending (Err r) rest = Err r

-- the parser answers the same at all tokens that begin with the same ones, up to the first one that it leaves
pub record Stays {A : Type 0} (P : Parser A) (ts : List Tok) : Type 0 where
  pub taken : List Tok
  pub left : List Tok
  pub splits : ts ≡ taken ++ left
  pub leaves : Leaves (P ts) left
  pub same : (rest : List Tok) → first rest ≡ first left → P (taken ++ rest) ≡ ending (P ts) rest

-- ---- what the first token says

pub first_behind : (taken rest left : List Tok) → first rest ≡ first left → first (taken ++ rest) ≡ first (taken ++ left)
first_behind [] rest left e = e
first_behind (t ∷ taken) rest left e = refl

-- what is told by the first token alone
abbrev pub FirstOnly : {T : Type 0} → (List Tok → T) → Type 0
FirstOnly g = (ts us : List Tok) → first ts ≡ first us → g ts ≡ g us

pub kind_first : FirstOnly kind
kind_first [] [] e = refl
kind_first [] (u ∷ us) e = absurd (cc)
kind_first (t ∷ ts) [] e = absurd (cc)
kind_first (t ∷ ts) (u ∷ us) e = let same : t ≡ u = cc in ap (λ (x : Tok). Some x.1) same

pub place_first : FirstOnly place
place_first [] [] e = refl
place_first [] (u ∷ us) e = absurd (cc)
place_first (t ∷ ts) [] e = absurd (cc)
place_first (t ∷ ts) (u ∷ us) e = let same : t ≡ u = cc in ap (λ (x : Tok). Some x.0) same

pub position_first : FirstOnly position
position_first [] [] e = refl
position_first [] (u ∷ us) e = absurd (cc)
position_first (t ∷ ts) [] e = absurd (cc)
position_first (t ∷ ts) (u ∷ us) e = let same : t ≡ u = cc in ap (λ (x : Tok). x.0) same

pub by_kind : {T : Type 0} (h : Option Kind → T) → FirstOnly (λ ts. h (kind ts))
by_kind h ts us e = ap h (kind_first ts us e)

-- ---- parsers

-- it takes nothing
pub stays_at_once : {A : Type 0} (P : Parser A) (ts : List Tok) → Leaves (P ts) ts → ((rest : List Tok) → first rest ≡ first ts → P rest ≡ ending (P ts) rest) → Stays P ts
stays_at_once P ts leaves same = record { taken = []; left = ts; splits = refl; leaves = leaves; same = same }

pub stays_refuse : {A : Type 0} (ts : List Tok) → Stays {A = A} refuse ts
stays_refuse ts = stays_at_once refuse ts refl (λ rest e. ap (λ (at : Option Position). Err (Wrong at)) (place_first rest ts e))

pub stays_pure : {A : Type 0} (a : A) (ts : List Tok) → Stays (pure a) ts
stays_pure a ts = stays_at_once (pure a) ts refl (λ rest e. refl)

-- a token, and then f
pub stays_token : {A : Type 0} (f : Position → Parser A) (t : Tok) (us : List Tok) → Stays (f t.0) us → Stays (λ ts. and_then (bump ts) f) (t ∷ us)
stays_token f t us s = record {
  taken = t ∷ s.taken;
  left = s.left;
  splits = ap (λ zs. t ∷ zs) s.splits;
  leaves = s.leaves;
  same = s.same;
}

-- a token alone
pub stays_one : {A : Type 0} {P : Parser A} (t : Tok) (us : List Tok) (x : A) → ((rest : List Tok) → P (t ∷ rest) ≡ Ok (x, rest)) → Stays P (t ∷ us)
stays_one {A} {P} t us x reads = record {
  taken = t ∷ [];
  left = us;
  splits = refl;
  leaves = subst (λ o. Leaves o us) (sym (reads us)) refl;
  same = λ rest e. reads rest ∙ sym (ap (λ o. ending o rest) (reads us));
}

pub no_first : (rest : List Tok) → first rest ≡ None → rest ≡ []
no_first [] e = refl
no_first (t ∷ rest) e = absurd (cc)

pub stays_bump : (ts : List Tok) → Stays bump ts
stays_bump [] = stays_at_once bump [] refl (λ rest e. subst (λ us. bump us ≡ ending (bump []) us) (sym (no_first rest e)) refl)
stays_bump (t ∷ us) = record { taken = t ∷ []; left = us; splits = refl; leaves = refl; same = λ rest e. refl }

-- the first token is near the same
near : (ts taken left rest : List Tok) → ts ≡ taken ++ left → first rest ≡ first left → first (taken ++ rest) ≡ first ts
near ts taken left rest splits e = first_behind taken rest left e ∙ ap first (sym splits)

-- by what a test of the tokens gives, which gives the same for the parser wherever it stays
abbrev pub Steady : {A T : Type 0} → (List Tok → T) → (T → Parser A) → (List Tok → Type 0) → Type 0
Steady {A} {T} g f pre = (ts : List Tok) → pre ts → (s : Stays (f (g ts)) ts) → (rest : List Tok) → first rest ≡ first s.left
    → f (g (s.taken ++ rest)) (s.taken ++ rest) ≡ f (g ts) (s.taken ++ rest)

pub stays_on : {A T : Type 0} (g : List Tok → T) (f : T → Parser A) (pre : List Tok → Type 0) → Steady g f pre → (ts : List Tok) → pre ts → Stays (f (g ts)) ts → Stays (λ us. f (g us) us) ts
stays_on g f pre steady ts p s = record {
  taken = s.taken;
  left = s.left;
  splits = s.splits;
  leaves = s.leaves;
  same = λ rest e. steady ts p s rest e ∙ s.same rest e;
}

pub steady_first : {A T : Type 0} (g : List Tok → T) (f : T → Parser A) (pre : List Tok → Type 0) → FirstOnly g → Steady g f pre
steady_first g f pre looks ts p s rest e = ap (λ t. f t (s.taken ++ rest)) (looks (s.taken ++ rest) ts (near ts s.taken s.left rest s.splits e))

pub stays_expect : (test : Option Kind → Bool) (ts : List Tok) → Stays (expect test) ts
unfolding expect
stays_expect test ts = stays_on (λ us. test (kind us)) (λ b us. if b then bump us else refuse us) (λ us. Unit {0})
    (steady_first (λ us. test (kind us)) (λ b us. if b then bump us else refuse us) (λ us. Unit {0}) (by_kind test)) ts tt (by (test (kind ts))) where
      by : (b : Bool) → Stays (λ us. if b then bump us else refuse us) ts
      by true = stays_bump ts
      by false = stays_refuse ts

-- P, and then f
pub stays_bind : {A B : Type 0} (P : Parser A) (f : A → Parser B) (ts : List Tok) → Stays P ts
    → ((x : A) (mid : List Tok) → P ts ≡ Ok (x, mid) → Stays (f x) mid) → Stays (λ us. and_then (P us) f) ts
stays_bind {A} {B} P f ts s b = by (P ts) refl where
  by : (o : Outcome A) → P ts ≡ o → Stays (λ us. and_then (P us) f) ts
  by (Err r) e = record {
    taken = s.taken;
    left = s.left;
    splits = s.splits;
    leaves = subst (λ o. Leaves (and_then o f) s.left) (sym e) (subst (λ o. Leaves o s.left) e s.leaves);
    same = λ rest h. ap (λ o. and_then o f) (s.same rest h ∙ ap (λ o. ending o rest) e) ∙ sym (ap (λ o. ending (and_then o f) rest) e);
  }
  by (Ok x) e =
      let t : Stays (f x.0) x.1 = b x.0 x.1 e in
      let left_is : x.1 ≡ s.left = subst (λ o. Leaves o s.left) e s.leaves in record {
        taken = s.taken ++ t.taken;
        left = t.left;
        splits = s.splits ∙ ap (λ us. s.taken ++ us) (sym left_is ∙ t.splits) ∙ sym (append_assoc s.taken t.taken t.left);
        leaves = subst (λ o. Leaves (and_then o f) t.left) (sym e) t.leaves;
        same = λ rest h.
            let here : first (t.taken ++ rest) ≡ first s.left = near x.1 t.taken t.left rest t.splits h ∙ ap first left_is in
            let read : P (s.taken ++ (t.taken ++ rest)) ≡ Ok (x.0, t.taken ++ rest) = s.same (t.taken ++ rest) here ∙ ap (λ o. ending o (t.taken ++ rest)) e in
            ap (λ us. and_then (P us) f) (append_assoc s.taken t.taken rest) ∙ ap (λ o. and_then o f) read ∙ t.same rest h
            ∙ sym (ap (λ o. ending (and_then o f) rest) e);
      }

-- ---- lists

leaves_ahead : {A : Type 0} (xs : List A) (o : Outcome (List A)) (left : List Tok) → Leaves o left → Leaves (ahead xs o) left
leaves_ahead xs (Ok x) left h = h
leaves_ahead xs (Err r) left h = h

ahead_ending : {A : Type 0} (xs : List A) (o : Outcome (List A)) (rest : List Tok) → ahead xs (ending o rest) ≡ ending (ahead xs o) rest
ahead_ending xs (Ok x) rest = refl
ahead_ending xs (Err r) rest = refl

module _ {A : Type 0} (test : Option Kind → Bool) (item : Parser A) where
  -- the same, whatever the turns are that suffice
  record StaysFrom (n : ℕ) (ts : List Tok) : Type 0 where
    taken : List Tok
    left : List Tok
    splits : ts ≡ taken ++ left
    leaves : Leaves (many_from test item n ts) left
    same : (m : ℕ) (rest : List Tok) → length (taken ++ rest) < m → first rest ≡ first left → many_from test item m (taken ++ rest) ≡ ending (many_from test item n ts) rest

  end_of : (m : ℕ) (ts : List Tok) → length ts < m → test (kind ts) ≡ false → many_from test item m ts ≡ Ok ([], ts)
  end_of zero ts h t = absurd (omega arith)
  end_of (suc m) ts h t = at_end test item m ts t

  err_of : (m : ℕ) (ts : List Tok) (r : Refusal) → length ts < m → test (kind ts) ≡ true → item ts ≡ Err r → many_from test item m ts ≡ Err r
  err_of zero ts r h t i = absurd (omega arith)
  err_of (suc m) ts r h t i = at_err test item m ts r t i

  item_of : (m : ℕ) (ts mid : List Tok) (x : A) (o : Outcome (List A)) → length ts < m → test (kind ts) ≡ true → item ts ≡ Ok (x, mid)
      → ((k : ℕ) → length ts < suc k → many_from test item k mid ≡ o) → many_from test item m ts ≡ ahead (x ∷ []) o
  item_of zero ts mid x o h t i go = absurd (omega arith)
  item_of (suc m) ts mid x o h t i go = at_item test item m ts x mid t i ∙ ap (ahead (x ∷ [])) (go m h)

  module _ (a : (us : List Tok) → test (kind us) ≡ true → Stays item us)
      (shorter : (us : List Tok) (x : A) (mid : List Tok) → test (kind us) ≡ true → item us ≡ Ok (x, mid) → length mid < length us) where
    stays_step : (n : ℕ) (ts : List Tok) (b : Bool) (o : Outcome A) → test (kind ts) ≡ b → item ts ≡ o → length ts < suc n
        → ((mid : List Tok) → length mid < n → StaysFrom n mid) → StaysFrom (suc n) ts
    stays_step n ts false o t i h ih = record {
      taken = [];
      left = ts;
      splits = refl;
      leaves = subst (λ q. Leaves q ts) (sym (at_end test item n ts t)) refl;
      same = λ m rest k e. end_of m rest k (by_kind test rest ts e ∙ t) ∙ sym (ap (λ q. ending q rest) (at_end test item n ts t));
    }
    stays_step n ts true (Err r) t i h ih = let s = a ts t in record {
      taken = s.taken;
      left = s.left;
      splits = s.splits;
      leaves = subst (λ q. Leaves q s.left) (sym (at_err test item n ts r t i)) (subst (λ q. Leaves q s.left) i s.leaves);
      same = λ m rest k e. err_of m (s.taken ++ rest) r k (by_kind test (s.taken ++ rest) ts (near ts s.taken s.left rest s.splits e) ∙ t) (s.same rest e ∙ ap (λ q. ending q rest) i)
          ∙ sym (ap (λ q. ending q rest) (at_err test item n ts r t i));
    }
    stays_step n ts true (Ok z) t i h ih =
        let s = a ts t in
        let less = shorter ts z.0 z.1 t i in
        let v : StaysFrom n z.1 = ih z.1 (omega (arith, less, h)) in
        let left_is : z.1 ≡ s.left = subst (λ q. Leaves q s.left) i s.leaves in record {
          taken = s.taken ++ v.taken;
          left = v.left;
          splits = s.splits ∙ ap (λ us. s.taken ++ us) (sym left_is ∙ v.splits) ∙ sym (append_assoc s.taken v.taken v.left);
          leaves = subst (λ q. Leaves q v.left) (sym (at_item test item n ts z.0 z.1 t i)) (leaves_ahead (z.0 ∷ []) (many_from test item n z.1) v.left v.leaves);
          same = λ m rest k e.
              let here : first (v.taken ++ rest) ≡ first s.left = near z.1 v.taken v.left rest v.splits e ∙ ap first left_is in
              let far : first (s.taken ++ (v.taken ++ rest)) ≡ first ts = near ts s.taken s.left (v.taken ++ rest) s.splits here in
              let read : item (s.taken ++ (v.taken ++ rest)) ≡ Ok (z.0, v.taken ++ rest) = s.same (v.taken ++ rest) here ∙ ap (λ q. ending q (v.taken ++ rest)) i in
              let sizes = length-append s.taken (v.taken ++ rest) in
              let size : length ts ≡ length (s.taken ++ s.left) = ap length s.splits in
              let sizes' = length-append s.taken s.left in
              let same_size = ap length left_is in
              let associated = append_assoc s.taken v.taken rest in
              ap (many_from test item m) associated
              ∙ item_of m (s.taken ++ (v.taken ++ rest)) (v.taken ++ rest) z.0 (ending (many_from test item n z.1) rest) (subst (λ us. length us < m) associated k)
              (by_kind test (s.taken ++ (v.taken ++ rest)) ts far ∙ t) read
              (λ j g. v.same j rest (omega (arith, g, sizes, size, sizes', same_size, less)) e)
              ∙ ahead_ending (z.0 ∷ []) (many_from test item n z.1) rest ∙ sym (ap (λ q. ending q rest) (at_item test item n ts z.0 z.1 t i));
        }

    stays_from : (n : ℕ) (ts : List Tok) → length ts < n → StaysFrom n ts
    stays_from zero ts h = absurd (omega arith)
    stays_from (suc n) ts h = stays_step n ts (test (kind ts)) (item ts) refl refl h (λ mid k. stays_from n mid k)

    -- { item }
    pub stays_many : (ts : List Tok) → Stays (many test item) ts
    unfolding many
    stays_many ts = let w = stays_from (suc (length ts)) ts (omega arith) in record {
      taken = w.taken;
      left = w.left;
      splits = w.splits;
      leaves = w.leaves;
      same = λ rest e. w.same (suc (length (w.taken ++ rest))) rest (omega arith) e;
    }

-- ---- parsers that look at the second token

-- what is told by a first token and the one behind it
abbrev pub SecondOnly : {T : Type 0} → (List Tok → T) → Type 0
SecondOnly g = (t : Tok) (us vs : List Tok) → first us ≡ first vs → g (t ∷ us) ≡ g (t ∷ vs)

pub by_second : {T : Type 0} (h : Option Kind → T) → SecondOnly (λ ts. h (kind (next ts)))
by_second h t us vs e = ap h (kind_first us vs e)

-- it takes the first one
pub steady_second : {A T : Type 0} (g : List Tok → T) (f : T → Parser A) (pre : List Tok → Type 0) → SecondOnly g
    → ((ts : List Tok) → pre ts → (s : Stays (f (g ts)) ts) → s.taken ≡ [] → ⊥) → Steady g f pre
steady_second g f pre looks some ts p s rest h = by s.taken refl where
  by : (taken : List Tok) → s.taken ≡ taken → f (g (s.taken ++ rest)) (s.taken ++ rest) ≡ f (g ts) (s.taken ++ rest)
  by [] e = absurd (some ts p s e)
  by (t ∷ taken) e = ap (λ x. f x (s.taken ++ rest))
      (ap (λ us. g (us ++ rest)) e ∙ looks t (taken ++ rest) (taken ++ s.left) (first_behind taken rest s.left h) ∙ sym (ap (λ us. g (us ++ s.left)) e) ∙ ap g (sym s.splits))

module _ {A : Type 0} (P : Parser A) (ts : List Tok) (s : Stays P ts) (none : s.taken ≡ []) where
  -- what is answered where nothing is taken
  answers : (us : List Tok) → first us ≡ first ts → P us ≡ ending (P ts) us
  answers us e =
      let here : ts ≡ s.left = s.splits ∙ ap (λ zs. zs ++ s.left) none in
      sym (ap (λ zs. P (zs ++ us)) none) ∙ s.same us (e ∙ ap first here)

  -- it takes the first token, since it reads others that begin with it
  pub takes_read : (us : List Tok) (x : A) (mid : List Tok) → first us ≡ first ts → P us ≡ Ok (x, mid) → length mid < length us → ⊥
  takes_read us x mid e read less = by (P ts) (sym read ∙ answers us e) where
    by : (o : Outcome A) → ◌≡◌ {A = Outcome A} (Ok (x, mid)) (ending o us) → ⊥
    by (Ok y) h = let k = ap length (ok_parts h).1 in omega (arith, k, less)
    by (Err r) h = cc

  -- it takes the first token, since it refuses others that begin with it in two ways
  pub takes_refused : (us vs : List Tok) (q r : Refusal) → first us ≡ first ts → first vs ≡ first ts → P us ≡ Err q → P vs ≡ Err r → (q ≡ r → ⊥) → ⊥
  takes_refused us vs q r e f a b apart = by (P ts) (sym a ∙ answers us e) (sym b ∙ answers vs f) where
    by : (o : Outcome A) → ◌≡◌ {A = Outcome A} (Err q) (ending o us) → ◌≡◌ {A = Outcome A} (Err r) (ending o vs) → ⊥
    by (Ok y) h k = cc
    by (Err w) h k = apart (cc)
