-- No text goes on from where reading stops.
use Rattle.std.proofs.Common.{◌≡◌, ℕ, suc, ◌+◌, ◌^◌, ◌≤◌, List, [], ◌∷◌, ◌++◌, length, refl, sym, ap, subst, ◌∙◌, arith, ◌<◌, inl, inr}
use Rattle.std.proofs.lemmas.Bool.{cases_lt}
use Rattle.std.specs.Prelude.{Some, Err}
use Rattle.st_tokens.specs.Text.{HasTokens, Tokens}
use Rattle.st_parser.specs.Names.{ReadFault, Token}
use Rattle.st_parser.specs.declared.fault.ReadFault.TheVariants as read_faults
use Rattle.st_parser.specs.Grammar.Faults.{in_text}
use Rattle.st_parser.specs.Grammar.Tokens.{Tok, first, numbered, place}
use Rattle.st_parser.specs.Reader.Parsers.{Deep, Refusal, Refuses, Wrong, place_of}
use Rattle.st_parser.proofs.Local.{Leaves, Stays, ending, no_first, stays_at_once, stays_bind}
use Rattle.st_syntax.specs.Reader.Declarations.{in_brackets}
use Rattle.st_syntax.specs.Reader.Units.{ended, units, whole}
use Rattle.st_syntax.specs.Stops.{IsStop, NamesLine, Stops, last_line}
use Rattle.st_syntax.proofs.Top.{top, whole_all}

stays_ended : {A : Type 0} (x : A) (ts : List Tok) → Stays (ended x) ts
stays_ended x [] = stays_at_once (ended x) [] refl (λ rest e. subst (λ us. ended x us ≡ ending (ended x []) us) (sym (no_first rest e)) refl)
stays_ended x (t ∷ ts) = stays_at_once (ended x) (t ∷ ts) refl (same t ts) where
  same : (t : Tok) (ts rest : List Tok) → first rest ≡ first (t ∷ ts) → ended x rest ≡ ending (ended x (t ∷ ts)) rest
  same t ts [] e = absurd (cc)
  same t ts (u ∷ rest) e = let alike : u ≡ t = cc in rw alike refl

stays_whole : (ts : List Tok) → Stays whole ts
unfolding whole
stays_whole ts = stays_bind (units in_brackets) ended ts (top.local ts tt) (λ us mid e. stays_ended us mid)

-- ---- numbers

-- a token of this number
abbrev at_number : ℕ → Token → Tok
at_number k t = (record { number = k; line = t.line }, t.kind)

-- the token behind these, the first of which has this number
abbrev token_behind : ℕ → Tokens → Token → Tok
token_behind n before t = at_number (length before + n) t

at_once : (n : ℕ) (t : Token) → at_number n t ≡ token_behind n [] t
at_once n t = let e : n ≡ 0 + n = omega arith in ap (λ (k : ℕ). at_number k t) e

later : (n : ℕ) (before : Tokens) (token t : Token) → token_behind (suc n) before token ≡ token_behind n (t ∷ before) token
later n before token t = let e : length before + suc n ≡ suc (length before) + n = omega arith in ap (λ (k : ℕ). at_number k token) e

-- a token among numbered ones
record Numbered (n : ℕ) (tokens : Tokens) (taken : List Tok) (tok : Tok) : Type 0 where
  before : Tokens
  token : Token
  behind : Tokens
  splits : tokens ≡ before ++ token ∷ behind
  same : taken ≡ numbered n before
  is : tok ≡ token_behind n before token

numbered_split : (n : ℕ) (tokens : Tokens) (taken : List Tok) (tok : Tok) (left : List Tok) → numbered n tokens ≡ taken ++ tok ∷ left → Numbered n tokens taken tok
numbered_split n [] [] tok left e = absurd (cc)
numbered_split n [] (u ∷ taken) tok left e = absurd (cc)
numbered_split n (t ∷ tokens) [] tok left e = record {
  before = [];
  token = t;
  behind = tokens;
  splits = refl;
  same = refl;
  is = let head : at_number n t ≡ tok = cc in sym head ∙ at_once n t;
}
numbered_split n (t ∷ tokens) (u ∷ taken) tok left e =
    let head : at_number n t ≡ u = cc in
    let tail : numbered (suc n) tokens ≡ taken ++ tok ∷ left = cc in
    let w = numbered_split (suc n) tokens taken tok left tail in record {
      before = t ∷ w.before;
      token = w.token;
      behind = w.behind;
      splits = ap (λ zs. t ∷ zs) w.splits;
      same = ap (λ zs. u ∷ zs) w.same ∙ ap (λ v. v ∷ numbered (suc n) w.before) (sym head);
      is = w.is ∙ later n w.before w.token t;
    }

-- others behind it
numbered_more : (n : ℕ) (before : Tokens) (t : Token) (others : Tokens) → (more : List Tok) × (numbered n ((before ++ t ∷ []) ++ others) ≡ numbered n before ++ token_behind n before t ∷ more)
numbered_more n [] t others = (numbered (suc n) others, ap (λ tok. tok ∷ numbered (suc n) others) (at_once n t))
numbered_more n (b ∷ before) t others =
    let w = numbered_more (suc n) before t others in
    (w.0, ap (λ (zs : List Tok). numbered n (b ∷ []) ++ zs) (w.1 ∙ ap (λ tok. numbered (suc n) before ++ tok ∷ w.0) (later n before t b)))

-- ---- where reading stops

pub is_stop : (tokens : Tokens) (r : Refusal) → Stops tokens r → IsStop tokens (place_of r)
is_stop tokens r h = by s.left refl where
  s : Stays whole (numbered 0 tokens)
  s = stays_whole (numbered 0 tokens)

  refuses : (rest : List Tok) → first rest ≡ first s.left → whole (s.taken ++ rest) ≡ Err r
  refuses rest e = s.same rest e ∙ ap (λ o. ending o rest) h

  stands : place_of r ≡ place s.left
  stands = subst (λ o. Leaves o s.left) h s.leaves

  by : (left : List Tok) → s.left ≡ left → IsStop tokens (place_of r)
  by [] e = subst (IsStop tokens) (sym (stands ∙ ap place e)) (λ us are within. let wrong = sym h ∙ whole_all (numbered 0 tokens) us are within in cc)
  by (tok ∷ left) e =
      let w = numbered_split 0 tokens s.taken tok left (s.splits ∙ ap (λ zs. s.taken ++ zs) e) in
      subst (IsStop tokens) (sym (stands ∙ ap place e)) (record {
        before = w.before;
        token = w.token;
        behind = w.behind;
        splits = w.splits;
        number = ap (λ (t : Tok). t.0.number) w.is ∙ omega arith;
        line = ap (λ (t : Tok). t.0.line) w.is;
        none = λ others us are within.
            let m = numbered_more 0 w.before w.token others in
            let here : first (token_behind 0 w.before w.token ∷ m.0) ≡ first s.left = ap (λ (t : Tok). Some t) (sym w.is) ∙ sym (ap first e) in
            let same : numbered 0 ((w.before ++ w.token ∷ []) ++ others) ≡ s.taken ++ token_behind 0 w.before w.token ∷ m.0 = m.1 ∙ ap (λ zs. zs ++ token_behind 0 w.before w.token ∷ m.0) (sym w.same) in
            let wrong = sym (refuses (token_behind 0 w.before w.token ∷ m.0) here) ∙ sym (ap whole same) ∙ whole_all (numbered 0 ((w.before ++ w.token ∷ []) ++ others)) us are within in cc;
      })

pub not_long : (text : List ℕ) → (2 ^ 20 < length text → ⊥) → length text ≤ 2 ^ 20
not_long text h = elim (cases_lt (2 ^ 20) (length text)) [ inl k ↦ absurd (h k) | inr k ↦ k ]

-- the line of a refusal is that of the token at which reading stops
pub named : (text : List ℕ) (tokens : Tokens) (f : ReadFault) → length text ≤ 2 ^ 20 → HasTokens 1 text tokens → Refuses (whole (numbered 0 tokens)) f → NamesLine (in_text (last_line text) f) text
named text tokens read_faults.Memory short has h = tt
named text tokens (read_faults.NotInGrammar at) short has h = record { short = short; tokens = tokens; has = has; place = at; stops = h; is = is_stop tokens (Wrong at) h; on = refl }
named text tokens (read_faults.TooDeep at) short has h = record { short = short; tokens = tokens; has = has; place = at; stops = h; is = is_stop tokens (Deep at) h; on = refl }
