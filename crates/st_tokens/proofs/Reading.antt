-- What is left of a text, while its tokens are read.
use Rattle.std.proofs.Common.{◌≡◌, ◌^◌, ℕ, suc, ◌+◌, ◌<◌, ◌≤◌, List, [], ◌∷◌, ◌++◌, length, refl, sym, ap, ◌∙◌, true, false, arith, subst, get_or, drop, append_assoc, append-nil, length-append, ◌-◌}
use mir.Val.{bool_byte}
use Rattle.st_values.specs.Words.{begins_with}
use Rattle.std.specs.Global.{Vec}
use Rattle.std.specs.Prelude.{nat_eq, Result, Ok, Err, IfOk, IfErr, MatchResult, Some, None, ◌==◌, ◌&&◌, codes}
use Rattle.st_tokens.specs.declared.fault.SyntaxFault.{SyntaxFault}
use Rattle.st_tokens.specs.declared.fault.SyntaxFault.TheVariants as syntax_faults
use Rattle.st_tokens.specs.declared.token.Kind.{Kind}
use Rattle.st_tokens.specs.declared.token.Token.{Token}
use Rattle.st_tokens.specs.Characters.{is_blank, line_end, line_ends}
use Rattle.st_tokens.specs.Forms.{HasForm}
use Rattle.st_tokens.specs.Scanning.{token_at, comment_at}
use Rattle.st_tokens.specs.Text.{IsComment, BeginsComment, HasTokens, Explains, done, blank, comment, next, token}
use Rattle.st_tokens.proofs.Firsts.{begins_token, form_first}
use Rattle.st_tokens.proofs.Comments.{Ends, comment_found, comment_none, comment_of, ends_of, ends_once}
use Rattle.st_tokens.proofs.Longest.{IsToken, token_found, only}
use Rattle.st_tokens.proofs.Cases.{both, by_test, is_equal, not_both, some_parts}

-- the text has the tokens found and those that the rest, which begins on this line, has
pub record Reads (text : List ℕ) (found : List Token) (line : ℕ) (rest : List ℕ) : Type 0 where
  pub forth : (ts : List Token) → HasTokens line rest ts → HasTokens 1 text (found ++ ts)
  pub back : (ts : List Token) → HasTokens 1 text ts → (us : List Token) × (ts ≡ found ++ us) × HasTokens line rest us

-- a step that has no token
pub reads_past : (text : List ℕ) (found : List Token) (line line' : ℕ) (rest rest' : List ℕ) → Reads text found line rest
    → ((ts : List Token) → HasTokens line' rest' ts → HasTokens line rest ts) → ((ts : List Token) → HasTokens line rest ts → HasTokens line' rest' ts)
    → Reads text found line' rest'
reads_past text found line line' rest rest' r forth back = record {
  forth = λ ts h. r.forth ts (forth ts h);
  back = λ ts h. let w = r.back ts h in (w.0, w.1, back w.0 w.2);
}

-- a byte with which no token begins begins no form
no_form : (b : ℕ) (bs prefix back : List ℕ) (kind : Kind) → begins_token b ≡ false → HasForm prefix kind → b ∷ bs ≡ prefix ++ back → ⊥
no_form b bs prefix back kind never form splits =
    let w = form_first prefix kind form in
    let e : b ∷ bs ≡ w.0 ∷ (w.1 ++ back) = splits ∙ ap (λ (zs : List ℕ). zs ++ back) w.2 in
    let same : b ≡ w.0 = cc in
    let yes : begins_token b ≡ true = subst (λ x. begins_token x ≡ true) (sym same) w.3 in
    not_both yes never

-- no token begins with a blank
blank_never : (b : ℕ) → is_blank b ≡ true → begins_token b ≡ false
blank_never b h = by_test (b == 9) (λ t. rw (is_equal b 9 t) refl) (λ f.
    by_test (b == 10) (λ t. rw (is_equal b 10 t) refl) (λ g.
    by_test (b == 13) (λ t. rw (is_equal b 13 t) refl) (λ i.
    by_test (b == 32) (λ t. rw (is_equal b 32 t) refl) (λ j. let h' = rw (f, g, i, j) at h in absurd (cc)))))

-- nor does a comment
blank_no_mark : (b : ℕ) → is_blank b ≡ true → b ≡ 40 → ⊥
blank_no_mark b h e = let h' : is_blank 40 ≡ true = rw e at h in cc

-- after a blank the tokens are the same
after_blank : {line b : ℕ} {rest : List ℕ} {ts : List Token} → is_blank b ≡ true → HasTokens line (b ∷ rest) ts → HasTokens (line + line_end b) rest ts
after_blank h (blank w d) = d
after_blank {b = b} h (comment c d) = let e = c.splits in let f : b ≡ 40 = cc in absurd (blank_no_mark b h f)
after_blank {b = b} {rest = rest} h (next {prefix = prefix} {rest = back} {kind = kind} w t r d) = absurd (no_form b rest prefix back kind (blank_never b h) t.form t.splits)

-- a blank is passed over
pub reads_blank : (text : List ℕ) (found : List Token) (line line' b : ℕ) (rest : List ℕ) → Reads text found line (b ∷ rest) → is_blank b ≡ true
    → line' ≡ line + line_end b → Reads text found line' rest
reads_blank text found line line' b rest r h e =
    reads_past text found line line' (b ∷ rest) rest r (λ ts d. blank h (rw e at d)) (λ ts d. rw e (after_blank h d))

-- what begins as a comment is one
as_comment : {line : ℕ} {bs : List ℕ} {ts : List Token} → HasTokens line (40 ∷ 42 ∷ bs) ts
    → (body : List ℕ) × (rest : List ℕ) × Ends bs body rest × HasTokens (line + line_ends body) rest ts
as_comment (blank w d) = absurd (cc)
as_comment {bs = bs} (comment {body = body} {rest = rest} c d) = (body, rest, ends_of bs body rest c, d)
as_comment {bs = bs} (next w t r d) = absurd (w (bs, refl))

-- a comment is passed over
pub reads_comment : (text : List ℕ) (found : List Token) (line line' : ℕ) (bs rest : List ℕ) → Reads text found line (40 ∷ 42 ∷ bs)
    → comment_at line bs ≡ Some (line', rest) → Reads text found line' rest
reads_comment text found line line' bs rest r h =
    let w = comment_found line line' bs rest h in
    reads_past text found line line' (40 ∷ 42 ∷ bs) rest r
    (λ ts d. comment (comment_of bs w.0 rest w.1) (rw w.2 at d))
    (λ ts d. let v = as_comment d in let same = ends_once bs v.0 w.0 v.1 rest v.2 w.1 in
    subst (λ n. HasTokens n rest ts) (sym w.2) (subst (λ zs. HasTokens (line + line_ends w.0) zs ts) same.1
    (subst (λ zs. HasTokens (line + line_ends zs) v.1 ts) same.0 v.3)))

-- what begins as a comment and does not end has no tokens
pub no_comment : (line : ℕ) (bs : List ℕ) (ts : List Token) → comment_at line bs ≡ None → HasTokens line (40 ∷ 42 ∷ bs) ts → ⊥
no_comment line bs ts h d = let v = as_comment d in comment_none line bs h v.0 v.1 v.2.splits

-- nothing has tokens that begins with such a byte
never_tokens : {line b : ℕ} {rest : List ℕ} {ts : List Token} → begins_token b ≡ false → is_blank b ≡ false → HasTokens line (b ∷ rest) ts → ⊥
never_tokens never h (blank w d) = not_both w h
never_tokens {b = b} never h (comment c d) =
    let e = c.splits in let f : b ≡ 40 = cc in let yes : begins_token b ≡ true = rw f refl in not_both yes never
never_tokens {b = b} {rest = rest} never h (next {prefix = prefix} {rest = back} {kind = kind} w t r d) = no_form b rest prefix back kind never t.form t.splits

-- the tokens of what begins neither with a blank nor as a comment
pub record First (line : ℕ) (text : List ℕ) (ts : List Token) : Type 0 where
  pub prefix : List ℕ
  pub rest : List ℕ
  pub kind : Kind
  pub more : List Token
  pub same : ts ≡ token line kind ∷ more
  pub is_token : IsToken text prefix rest kind
  pub others : HasTokens line rest more

-- what begins neither with a blank nor as a comment begins with a token
first_token : {line b : ℕ} {bs : List ℕ} {ts : List Token} → is_blank b ≡ false → (BeginsComment (b ∷ bs) → ⊥) → HasTokens line (b ∷ bs) ts → First line (b ∷ bs) ts
first_token h n (blank w d) = not_both w h
first_token h n (comment {body = body} {rest = rest} c d) = absurd (n (body ++ 42 ∷ 41 ∷ rest, c.splits))
first_token h n (next {prefix = prefix} {rest = rest} {kind = kind} {ts = ts} w t r d) =
    record { prefix = prefix; rest = rest; kind = kind; more = ts; same = refl; is_token = record { longest = t; allowed = r }; others = d }

-- that token is what is read
first_at : (line b : ℕ) (bs : List ℕ) (ts : List Token) (f : First line (b ∷ bs) ts) → token_at (b ∷ bs) ≡ Some (f.kind, f.rest)
first_at line b bs ts f = only (b ∷ bs) f.prefix f.rest f.kind f.is_token (λ back e. never_tokens refl refl (subst (λ zs. HasTokens line zs f.more) e f.others))

-- where nothing is read, there are no tokens
pub no_token : (line b : ℕ) (bs : List ℕ) (ts : List Token) → is_blank b ≡ false → (BeginsComment (b ∷ bs) → ⊥) → token_at (b ∷ bs) ≡ None → HasTokens line (b ∷ bs) ts → ⊥
no_token line b bs ts h n none d = let e = first_at line b bs ts (first_token h n d) in cc

-- a token is read
pub reads_token : (text : List ℕ) (found : List Token) (line b : ℕ) (bs rest : List ℕ) (kind : Kind) → Reads text found line (b ∷ bs)
    → is_blank b ≡ false → (BeginsComment (b ∷ bs) → ⊥) → token_at (b ∷ bs) ≡ Some (kind, rest) → Reads text (found ++ token line kind ∷ []) line rest
reads_token text found line b bs rest kind r h n e = record { forth = forth; back = back } where
  forth : (ts : List Token) → HasTokens line rest ts → HasTokens 1 text ((found ++ token line kind ∷ []) ++ ts)
  forth ts d = let w = token_found (b ∷ bs) kind rest e in
      rw append_assoc (r.forth (token line kind ∷ ts) (next n w.1.longest w.1.allowed d))

  back : (ts : List Token) → HasTokens 1 text ts → (us : List Token) × (ts ≡ (found ++ token line kind ∷ []) ++ us) × HasTokens line rest us
  back ts d =
      let w = r.back ts d in
      let f = first_token h n w.2 in
      let same = some_parts (sym (first_at line b bs w.0 f) ∙ e) in (
        f.more,
        w.1 ∙ ap (λ (us : List Token). found ++ us) (f.same ∙ ap (λ (k : Kind). token line k ∷ f.more) same.0) ∙ sym (append_assoc found (token line kind ∷ []) f.more),
        subst (λ zs. HasTokens line zs f.more) same.1 f.others,
      )

-- at the end the tokens are those found
pub reads_end : (text : List ℕ) (found : List Token) (line : ℕ) → Reads text found line [] → HasTokens 1 text found
reads_end text found line r = let d : HasTokens 1 text (found ++ []) = r.forth [] done in rw append-nil at d

-- nothing has no token
at_end : {line : ℕ} {ts : List Token} → HasTokens line [] ts → ts ≡ []
at_end done = refl
at_end (comment c d) = let e = c.splits in absurd (cc)
at_end (next {prefix = prefix} {rest = rest} {kind = kind} w t r d) =
    let v = form_first prefix kind t.form in let e : [] ≡ v.0 ∷ (v.1 ++ rest) = t.splits ∙ ap (λ (zs : List ℕ). zs ++ rest) v.2 in absurd (cc)

-- ---- one list

-- the same comment, and what stands after it
comment_same : (line : ℕ) (text body rest : List ℕ) (us : List Token) → IsComment text body rest → HasTokens line text us → HasTokens (line + line_ends body) rest us
comment_same line text body rest us c e =
    let bs : List ℕ = body ++ 42 ∷ 41 ∷ rest in
    let v = as_comment (subst (λ zs. HasTokens line zs us) c.splits e) in
    let same = ends_once bs v.0 body v.1 rest v.2 (ends_of bs body rest (subst (λ zs. IsComment zs body rest) c.splits c)) in
    subst (λ zs. HasTokens (line + line_ends zs) rest us) same.0 (subst (λ zs. HasTokens (line + line_ends v.0) zs us) same.1 v.3)

-- the same token, and what stands after it
token_same : (line : ℕ) (text prefix rest : List ℕ) (kind : Kind) (ts us : List Token) → (BeginsComment text → ⊥) → IsToken text prefix rest kind → HasTokens line rest ts
    → HasTokens line text us → (more : List Token) × (us ≡ token line kind ∷ more) × HasTokens line rest more
token_same line text prefix rest kind ts us n t d e =
    let v = form_first prefix kind t.longest.form in
    let first : text ≡ v.0 ∷ (v.1 ++ rest) = t.longest.splits ∙ ap (λ (zs : List ℕ). zs ++ rest) v.2 in
    let h : is_blank v.0 ≡ false = by_test (is_blank v.0) (λ b. not_both v.3 (blank_never v.0 b)) (λ b. b) in
    let f = first_token {bs = v.1 ++ rest} h (λ w. n (w.0, first ∙ w.1)) (subst (λ zs. HasTokens line zs us) first e) in
    let own = subst (λ zs. token_at zs ≡ Some (kind, rest)) first (only text prefix rest kind t (λ back g. never_tokens refl refl (subst (λ zs. HasTokens line zs ts) g d))) in
    let same = some_parts (sym (first_at line v.0 (v.1 ++ rest) us f) ∙ own) in
    (f.more, f.same ∙ ap (λ (k : Kind). token line k ∷ f.more) same.0, subst (λ zs. HasTokens line zs f.more) same.1 f.others)

-- a text has one list of tokens
pub one_list : {line : ℕ} {text : List ℕ} {ts us : List Token} → HasTokens line text ts → HasTokens line text us → ts ≡ us
one_list done e = sym (at_end e)
one_list (blank w d) e = one_list d (after_blank w e)
one_list {us = us} (comment {line = line} {text = text} {body = body} {rest = rest} c d) e = one_list d (comment_same line text body rest us c e)
one_list {us = us} (next {line = line} {text = text} {prefix = prefix} {rest = rest} {kind = kind} {ts = ts} w t r d) e =
    let v = token_same line text prefix rest kind ts us w (record { longest = t; allowed = r }) d e in
    ap (λ (more : List Token). token line kind ∷ more) (one_list d v.2) ∙ sym v.1

-- ---- the steps of the loop

-- a list that isn't empty
first_byte : (text : List ℕ) → 1 ≤ length text → text ≡ get_or text 0 0 ∷ drop 1 text
first_byte [] h = absurd (omega arith)
first_byte (b ∷ bs) h = refl

-- the step at a blank
pub blank_step : (text rest : List ℕ) (found : List Token) (line line' : ℕ) → 1 ≤ length rest → Reads text found line rest
    → is_blank (get_or rest 0 0) ≡ true → line' ≡ line + line_end (get_or rest 0 0) → Reads text found line' (drop 1 rest)
blank_step text rest found line line' h r t e =
    reads_blank text found line line' (get_or rest 0 0) (drop 1 rest) (subst (λ zs. Reads text found line zs) (first_byte rest h) r) t e

-- a text that begins as a comment does
pub mark_first : (rest : List ℕ) → begins_with (codes "(*") rest ≡ true → rest ≡ 40 ∷ 42 ∷ drop 2 rest
mark_first [] h = absurd (cc)
mark_first (b ∷ []) h = absurd (let w = both (nat_eq 40 b) false h in let v = w.1 in cc)
mark_first (b ∷ c ∷ bs) h =
    let w = both (nat_eq 40 b) (nat_eq 42 c && true) h in let v = both (nat_eq 42 c) true w.1 in
    let e : 40 ≡ b = is_equal 40 b w.0 in let f : 42 ≡ c = is_equal 42 c v.0 in
    rw (← e, ← f) refl

-- a text that begins as a comment passes the test
mark_test : (rest : List ℕ) → BeginsComment rest → begins_with (codes "(*") rest ≡ true
mark_test rest w = rw w.1 refl

-- a text that fails the test begins no comment
pub no_mark : (rest : List ℕ) → begins_with (codes "(*") rest ≡ false → BeginsComment rest → ⊥
no_mark rest h w = not_both (mark_test rest w) h

-- the step at a comment
pub comment_step : (text rest remaining : List ℕ) (found : List Token) (line line' : ℕ) → Reads text found line rest
    → begins_with (codes "(*") rest ≡ true → comment_at line (drop 2 rest) ≡ Some (line', remaining) → Reads text found line' remaining
comment_step text rest remaining found line line' r h e =
    reads_comment text found line line' (drop 2 rest) remaining (subst (λ zs. Reads text found line zs) (mark_first rest h) r) e

-- a comment that does not end
pub open_comment : (text rest : List ℕ) (found : List Token) (line : ℕ) → Reads text found line rest
    → begins_with (codes "(*") rest ≡ true → comment_at line (drop 2 rest) ≡ None → (ts : List Token) → HasTokens 1 text ts → ⊥
open_comment text rest found line r h e ts d =
    let w = r.back ts d in no_comment line (drop 2 rest) w.0 e (subst (λ zs. HasTokens line zs w.0) (mark_first rest h) w.2)

-- the step at a token
pub token_step : (text rest remaining : List ℕ) (found : List Token) (line : ℕ) (kind : Kind) → 1 ≤ length rest → Reads text found line rest
    → is_blank (get_or rest 0 0) ≡ false → begins_with (codes "(*") rest ≡ false → token_at rest ≡ Some (kind, remaining)
    → Reads text (found ++ token line kind ∷ []) line remaining
token_step text rest remaining found line kind h r t m e =
    let f = first_byte rest h in
    reads_token text found line (get_or rest 0 0) (drop 1 rest) remaining kind (subst (λ zs. Reads text found line zs) f r) t
    (λ w. no_mark rest m (w.0, f ∙ w.1)) (subst (λ zs. token_at zs ≡ Some (kind, remaining)) f e)

-- where no token is read
pub stuck : (text rest : List ℕ) (found : List Token) (line : ℕ) → 1 ≤ length rest → Reads text found line rest
    → is_blank (get_or rest 0 0) ≡ false → begins_with (codes "(*") rest ≡ false → token_at rest ≡ None → (ts : List Token) → HasTokens 1 text ts → ⊥
stuck text rest found line h r t m e ts d =
    let f = first_byte rest h in let w = r.back ts d in
    no_token line (get_or rest 0 0) (drop 1 rest) w.0 t (λ v. no_mark rest m (v.0, f ∙ v.1)) (subst (λ zs. token_at zs ≡ None) f e)
    (subst (λ zs. HasTokens line zs w.0) f w.2)

-- a comment has no more line ends than bytes
line_ends-length : (body : List ℕ) → line_ends body ≤ length body
line_ends-length [] = omega arith
line_ends-length (b ∷ body) = let le = line_ends-length body in by_test (b == 10)
    (λ t. rw t (omega (arith, le))) (λ t. rw t (omega (arith, le)))

-- what is left after a comment is shorter, also with the lines that it goes on
pub shorter_comment : (line line' : ℕ) (rest remaining : List ℕ) → begins_with (codes "(*") rest ≡ true → comment_at line (drop 2 rest) ≡ Some (line', remaining)
    → (line' + length remaining < line + length rest) × (length remaining < length rest)
shorter_comment line line' rest remaining h e =
    let w = comment_found line line' (drop 2 rest) remaining e in
    let size : length rest ≡ suc (suc (length (drop 2 rest))) = ap length (mark_first rest h) in
    let split : length (drop 2 rest) ≡ length (w.0 ++ 42 ∷ 41 ∷ remaining) = ap length w.1.splits in
    let joined : length (w.0 ++ 42 ∷ 41 ∷ remaining) ≡ length w.0 + suc (suc (length remaining)) = length-append w.0 (42 ∷ 41 ∷ remaining) in
    let ends = line_ends-length w.0 in let line_is = w.2 in
    (omega arith, omega arith)

-- a token takes bytes away
pub shorter_token : (rest remaining : List ℕ) (kind : Kind) → token_at rest ≡ Some (kind, remaining) → length remaining < length rest
shorter_token rest remaining kind e =
    let w = token_found rest kind remaining e in let v = form_first w.0 kind w.1.longest.form in
    let l = ap length (w.1.longest.splits ∙ ap (λ (zs : List ℕ). zs ++ remaining) v.2) in
    let m : length (v.1 ++ remaining) ≡ length v.1 + length remaining = length-append v.1 remaining in omega arith

-- a text of no bytes
pub nothing : (xs : List ℕ) → length xs < 1 → xs ≡ []
nothing [] h = refl
nothing (x ∷ xs) h = absurd (omega arith)

-- how the code counts a line
pub line_end-is : (b : ℕ) → bool_byte (b == 10) ≡ line_end b
line_end-is b = by_test (b == 10) (λ t. rw t refl) (λ t. rw t refl)

-- a byte ends one line at most
pub line_end-bound : (b : ℕ) → bool_byte (b == 10) ≤ 1
line_end-bound b = by_test (b == 10) (λ t. rw t (omega arith)) (λ t. rw t (omega arith))

-- a blank takes a byte away, and adds no more than a line
pub blank_within : (line ends size size' bound : ℕ) → size' ≡ size - 1 → 1 ≤ size → ends ≤ 1 → line + size ≤ bound → line + ends + size' ≤ bound
blank_within line ends size size' bound e h le within = omega arith

-- a result that is the text's tokens or explains the fault is this list, or want of memory
pub only_result : (text : List ℕ) (ts : List Token) (result : Result (Vec Token) SyntaxFault) → IfOk result (λ v. HasTokens 1 text v.items)
    → IfErr result (λ fault. Explains fault text) → length text ≤ 2 ^ 20 → HasTokens 1 text ts → MatchResult result (λ v. v.items ≡ ts) (λ fault. fault ≡ syntax_faults.Memory)
only_result text ts (Ok v) found fault short h = one_list found h
only_result text ts (Err syntax_faults.Memory) found fault short h = refl
only_result text ts (Err (syntax_faults.NoToken line)) found fault short h = absurd (fault ts h)
only_result text ts (Err syntax_faults.TooLong) found fault short h = absurd (omega arith)
only_result text ts (Err (syntax_faults.NotInGrammar line)) found fault short h = absurd fault
only_result text ts (Err (syntax_faults.TooDeep line)) found fault short h = absurd fault
