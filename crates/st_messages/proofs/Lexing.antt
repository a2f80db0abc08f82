-- What is left of a text, while its lexemes are found.
use Rattle.std.proofs.Common.{◌≡◌, ℕ, ◌+◌, ◌≤◌, List, [], ◌∷◌, ◌++◌, length, get_or, drop, refl, sym, ap, true, false, subst, arith, append_assoc, append-nil}
use Rattle.std.specs.Prelude.{Option, Some, None, codes, ◌==◌}
use Rattle.st_values.specs.Words.{begins_with}
use Rattle.st_tokens.specs.declared.token.Kind.{Kind}
use Rattle.st_tokens.specs.declared.token.Token.{Token}
use Rattle.st_tokens.specs.Characters.{is_blank, line_end}
use Rattle.st_tokens.specs.Scanning.{symbol_at, token_at}
use Rattle.st_tokens.specs.Text.{BeginsComment, HasTokens, token}
use Rattle.st_tokens.proofs.Cases.{by_test}
use Rattle.st_tokens.proofs.Comments.{comment_found, comment_of}
use Rattle.st_tokens.proofs.Longest.{token_found}
use Rattle.st_tokens.proofs.Reading.{Reads, blank_step, comment_step, mark_first, no_mark, no_token, one_list, open_comment, reads_end, stuck, token_step}
use Rattle.st_messages.specs.declared.lexeme.Lexeme.{Lexeme}
use Rattle.st_messages.specs.Lexemes.{AreLexemes, ArePieces, HasLexemes, HasPieces, behind_blank, behind_comment, blank, comment, done, lexeme, next, nothing, piece, unclosed}
use Rattle.st_messages.specs.Skips.{after_comment, after_token}
use Rattle.st_messages.proofs.Skips.{NoHash, comment_behind, no_comment_behind, token_behind}

-- the text has some tokens that are the lexemes found, and then those that are left
pub record Sees (text : List ℕ) (found : List Lexeme) (rest : List ℕ) : Type 0 where
  pub line : ℕ
  pub tokens : List Token
  pub reads : Reads text tokens line rest
  pub forth : (ts : List Token) (ls : List Lexeme) → HasLexemes (length text) line rest ts ls → HasLexemes (length text) 1 text (tokens ++ ts) (found ++ ls)

pub sees_start : (text : List ℕ) → Sees text [] text
sees_start text = record {
  line = 1;
  tokens = [];
  reads = record { forth = λ ts h. h; back = λ ts h. (ts, refl, h) };
  forth = λ ts ls h. h;
}

first_byte : (text : List ℕ) → 1 ≤ length text → text ≡ get_or text 0 0 ∷ drop 1 text
first_byte [] h = absurd (omega arith)
first_byte (b ∷ bs) h = refl

module _ (text rest : List ℕ) (found : List Lexeme) (s : Sees text found rest) where
  pub sees_blank : 1 ≤ length rest → is_blank (get_or rest 0 0) ≡ true → Sees text found (drop 1 rest)
  sees_blank h b = record {
    line = s.line + line_end (get_or rest 0 0);
    tokens = s.tokens;
    reads = blank_step text rest s.tokens s.line (s.line + line_end (get_or rest 0 0)) h s.reads b refl;
    forth = λ ts ls d. s.forth ts ls (subst (λ zs. HasLexemes (length text) s.line zs ts ls) (sym (first_byte rest h)) (blank b d));
  }

  pub sees_comment : (remaining : List ℕ) → begins_with (codes "(*") rest ≡ true → after_comment (drop 2 rest) ≡ Some remaining → Sees text found remaining
  sees_comment remaining m e =
      let w = comment_behind s.line (drop 2 rest) remaining e in
      let c = comment_found s.line w.0 (drop 2 rest) remaining w.1 in record {
        line = w.0;
        tokens = s.tokens;
        reads = comment_step text rest remaining s.tokens s.line w.0 s.reads m w.1;
        forth = λ ts ls d. s.forth ts ls (subst (λ zs. HasLexemes (length text) s.line zs ts ls) (sym (mark_first rest m))
            (comment (comment_of (drop 2 rest) c.0 remaining c.1) (subst (λ n. HasLexemes (length text) n remaining ts ls) c.2 d)));
      }

  pub sees_open : begins_with (codes "(*") rest ≡ true → after_comment (drop 2 rest) ≡ None → (ts : List Token) → HasTokens 1 text ts → ⊥
  sees_open m e ts d = open_comment text rest s.tokens s.line s.reads m (no_comment_behind s.line (drop 2 rest) e) ts d

-- ---- tokens

hash_none : (bs : List ℕ) → token_at (35 ∷ bs) ≡ None
unfolding token_at symbol_at
hash_none [] = refl
hash_none (c ∷ bs) = by_test (c == 61) (λ t. rw t refl) (λ t. by_test (c == 62) (λ u. rw (t, u) refl) (λ u. rw (t, u) refl))

no_mark_first : (back rest : List ℕ) → 35 ∷ back ≡ 40 ∷ rest → ⊥
no_mark_first back rest e = let g : get_or (35 ∷ back) 0 0 ≡ get_or (40 ∷ rest) 0 0 = ap (λ (zs : List ℕ). get_or zs 0 0) e in omega (arith, g)

-- no token begins with a `#`
no_hash_left : (line : ℕ) (rest : List ℕ) (ts : List Token) → HasTokens line rest ts → NoHash rest
no_hash_left line rest ts d back e =
    no_token line 35 back ts refl (λ w. no_mark_first back (42 ∷ w.0) w.1) (hash_none back) (subst (λ zs. HasTokens line zs ts) e d)

module _ (text rest : List ℕ) (found : List Lexeme) (s : Sees text found rest) (h : 1 ≤ length rest) (b : is_blank (get_or rest 0 0) ≡ false)
    (m : begins_with (codes "(*") rest ≡ false) where
  sees_next : (remaining : List ℕ) (kind : Kind) → token_at rest ≡ Some (kind, remaining) → Sees text (found ++ lexeme (length text) rest remaining ∷ []) remaining
  sees_next remaining kind e =
      let f = token_found rest kind remaining e in
      let t : Token = token s.line kind in
      let l : Lexeme = lexeme (length text) rest remaining in record {
        line = s.line;
        tokens = s.tokens ++ t ∷ [];
        reads = token_step text rest remaining s.tokens s.line kind h s.reads b m e;
        forth = λ ts ls d. subst (λ us. HasLexemes (length text) 1 text us ((found ++ l ∷ []) ++ ls)) (sym (append_assoc s.tokens (t ∷ []) ts))
            (subst (λ ks. HasLexemes (length text) 1 text (s.tokens ++ t ∷ ts) ks) (sym (append_assoc found (l ∷ []) ls))
            (s.forth (t ∷ ts) (l ∷ ls) (next (no_mark rest m) f.1.longest f.1.allowed d)));
      }

  pub sees_token : (ts : List Token) → HasTokens 1 text ts → Sees text (found ++ lexeme (length text) rest (after_token rest) ∷ []) (after_token rest)
  sees_token ts d = by (token_at rest) refl where
    by : (o : Option (Kind × List ℕ)) → token_at rest ≡ o → Sees text (found ++ lexeme (length text) rest (after_token rest) ∷ []) (after_token rest)
    by None e = absurd (stuck text rest s.tokens s.line h s.reads b m e ts d)
    by (Some (kind, remaining)) e =
        let w = (token_step text rest remaining s.tokens s.line kind h s.reads b m e).back ts d in
        let same : after_token rest ≡ remaining = token_behind rest remaining kind (no_hash_left s.line remaining w.0 w.2) e in
        subst (λ zs. Sees text (found ++ lexeme (length text) rest zs ∷ []) zs) (sym same) (sees_next remaining kind e)

-- at the end all are found
pub sees_end : (text : List ℕ) (found : List Lexeme) (ts : List Token) → Sees text found [] → HasTokens 1 text ts → AreLexemes text ts found
sees_end text found ts s d =
    let same : ts ≡ s.tokens = one_list d (reads_end text s.tokens s.line s.reads) in
    subst (λ us. HasLexemes (length text) 1 text us found) (sym same)
    (subst (λ us. HasLexemes (length text) 1 text us found) (append-nil s.tokens)
    (subst (λ ls. HasLexemes (length text) 1 text (s.tokens ++ []) ls) (append-nil found) (s.forth [] [] done)))

-- ---- a text that may have no tokens

-- the lexemes found are pieces of the text, and then those that are left are
abbrev pub Finds : (text : List ℕ) (found : List Lexeme) (rest : List ℕ) → Type 0
Finds text found rest = (ls : List Lexeme) → HasPieces (length text) rest ls → ArePieces text (found ++ ls)

pub finds_all : (text : List ℕ) (found : List Lexeme) → Finds text found [] → ArePieces text found
finds_all text found f = subst (ArePieces text) (append-nil found) (f [] nothing)

module _ (text rest : List ℕ) (found : List Lexeme) (f : Finds text found rest) where
  pub finds_blank : 1 ≤ length rest → is_blank (get_or rest 0 0) ≡ true → Finds text found (drop 1 rest)
  finds_blank h b = λ ls d. f ls (subst (λ zs. HasPieces (length text) zs ls) (sym (first_byte rest h)) (behind_blank b d))

  pub finds_comment : (remaining : List ℕ) → begins_with (codes "(*") rest ≡ true → after_comment (drop 2 rest) ≡ Some remaining → Finds text found remaining
  finds_comment remaining m e = λ ls d. f ls (subst (λ zs. HasPieces (length text) zs ls) (sym (mark_first rest m)) (behind_comment e d))

  pub finds_open : begins_with (codes "(*") rest ≡ true → after_comment (drop 2 rest) ≡ None → ArePieces text (found ++ lexeme (length text) rest [] ∷ [])
  finds_open m e = f (lexeme (length text) rest [] ∷ [])
      (subst (λ zs. HasPieces (length text) zs (lexeme (length text) zs [] ∷ [])) (sym (mark_first rest m)) (unclosed e))

  pub finds_token : 1 ≤ length rest → is_blank (get_or rest 0 0) ≡ false → begins_with (codes "(*") rest ≡ false
      → Finds text (found ++ lexeme (length text) rest (after_token rest) ∷ []) (after_token rest)
  finds_token h b m = λ ls d.
      let first = first_byte rest h in
      let no : BeginsComment (get_or rest 0 0 ∷ drop 1 rest) → ⊥ = subst (λ zs. BeginsComment zs → ⊥) first (no_mark rest m) in
      let d' : HasPieces (length text) (after_token (get_or rest 0 0 ∷ drop 1 rest)) ls = subst (λ zs. HasPieces (length text) (after_token zs) ls) first d in
      let l : Lexeme = lexeme (length text) rest (after_token rest) in
      subst (ArePieces text) (sym (append_assoc found (l ∷ []) ls)) (f (l ∷ ls)
      (subst (λ zs. HasPieces (length text) zs (lexeme (length text) zs (after_token zs) ∷ ls)) (sym first) (piece b no d')))
