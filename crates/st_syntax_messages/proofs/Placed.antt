-- What is said of a token by its place.
use Rattle.std.proofs.Common.{◌≡◌, ◌∙◌, ℕ, List, [], ap, length, subst}
use Rattle.std.specs.Prelude.{IfOk, Ok, Err, Option, Result}
use Rattle.st_tokens.specs.declared.token.Token.{Token}
use Rattle.st_messages.specs.declared.form.Words.{Words}
use Rattle.st_messages.specs.declared.lexeme.Lexeme.{Lexeme}
use Rattle.st_messages.specs.Sayings.{AreWordsFor}
use Rattle.st_syntax_messages.specs.declared.cause.Cause.{Cause}
use Rattle.st_syntax_messages.specs.declared.open.Open.{Open}
use Rattle.st_syntax_messages.specs.declared.spot.Spot.{Spot}
use Rattle.st_syntax_messages.specs.Causes.{AreWordsOfEnd, AreWordsOfPlace, IsFirstElseIf, IsPlaceCause, end_cause, opened_at, texts}
use Rattle.st_syntax_messages.specs.Open.{last_of, open_before}
use Rattle.st_syntax_messages.specs.Rows.{rows}

-- the words of the row of such a cause are those of the place
pub placed : {E : Type 0} (text : List ℕ) (lexemes : List Lexeme) (tokens : List Token) (number : ℕ) (s : Spot) (opened : List Open)
    (last : Option Open) (else_if : Option ℕ) (cause : Cause) (allowed : List ℕ) (r : Result Words E)
    → opened ≡ open_before tokens number → last ≡ last_of opened → IsFirstElseIf tokens (opened_at last) else_if
    → IsPlaceCause text lexemes tokens number s opened else_if cause allowed
    → IfOk r (AreWordsFor rows cause (texts text lexemes tokens number last else_if allowed)) → IfOk r (AreWordsOfPlace text lexemes tokens number s)
placed text lexemes tokens number s opened last else_if cause allowed (Ok words) e l f p h =
    let k : last ≡ last_of (open_before tokens number) = l ∙ ap last_of e in
    record {
      else_if = else_if;
      first = subst (λ x. IsFirstElseIf tokens (opened_at x) else_if) k f;
      cause = cause;
      allowed = allowed;
      is = subst (λ o. IsPlaceCause text lexemes tokens number s o else_if cause allowed) e p;
      are = subst (λ x. AreWordsFor rows cause (texts text lexemes tokens number x else_if allowed) words) k h;
    }
placed text lexemes tokens number s opened last else_if cause allowed (Err x) e l f p h = tt

-- and those of the end of a text
pub ended : {E : Type 0} (text : List ℕ) (lexemes : List Lexeme) (tokens : List Token) (opened : List Open) (last : Option Open)
    (else_if : Option ℕ) (r : Result Words E)
    → opened ≡ open_before tokens (length tokens) → last ≡ last_of opened → IsFirstElseIf tokens (opened_at last) else_if
    → IfOk r (AreWordsFor rows (end_cause last else_if) (texts text lexemes tokens (length tokens) last else_if []))
    → IfOk r (AreWordsOfEnd text lexemes tokens)
ended text lexemes tokens opened last else_if (Ok words) e l f h =
    let k : last ≡ last_of (open_before tokens (length tokens)) = l ∙ ap last_of e in
    record {
      else_if = else_if;
      first = subst (λ x. IsFirstElseIf tokens (opened_at x) else_if) k f;
      are = subst (λ x. AreWordsFor rows (end_cause x else_if) (texts text lexemes tokens (length tokens) x else_if []) words) k h;
    }
ended text lexemes tokens opened last else_if (Err x) e l f h = tt
