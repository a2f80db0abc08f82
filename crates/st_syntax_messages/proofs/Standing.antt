-- Where lexemes stand.
use Rattle.std.proofs.Common.{◌≡◌, ℕ, ◌+◌, ◌<◌, ◌≤◌, List, ◌++◌, length, get_or, take, drop, suc, refl, sym, ap, ◌∙◌, subst, drop-cons, take-append-drop}
use Rattle.std.proofs.lemmas.List.{take_more}
use Rattle.std.proofs.lemmas.List.Elements.{All-push}
use Rattle.st_messages.specs.declared.lexeme.Lexeme.{Lexeme}
use Rattle.st_messages.specs.Lexemes.{ArePieces}
use Rattle.st_messages.specs.Places.{HasLine, IsLine, line_at}
use Rattle.st_messages.proofs.Lines.{has_line}
use Rattle.st_syntax_messages.specs.Located.{AreReadOn, Begins, IsRead, bytes_of}

-- each lexeme begins where it begins
pub begins_at : (text : List ℕ) (ls : List Lexeme) (i : ℕ) (d : Lexeme) → ArePieces text ls → i < length ls
    → Begins text (get_or ls i d).start (take i ls) (get_or ls i d) (drop (suc i) ls)
begins_at text ls i d are h = record {
  are = subst (ArePieces text) (sym (take-append-drop i ls) ∙ ap (λ zs. take i ls ++ zs) (drop-cons ls i d h)) are;
  begins = refl;
}

-- one more lexeme
pub read_more : (text : List ℕ) (line : ℕ) (ls : List Lexeme) (i : ℕ) (d : Lexeme) → i < length ls → AreReadOn text line (take i ls)
    → (line_at text (get_or ls i d).start ≡ line → IsRead (bytes_of text (get_or ls i d))) → AreReadOn text line (take (i + 1) ls)
read_more text line ls i d h all one = subst (AreReadOn text line) (sym (take_more ls i d h))
    (All-push (λ l. line_at text l.start ≡ line → IsRead (bytes_of text l)) (take i ls) (get_or ls i d) all one)

-- what stands on a line stands within it
pub within_line : (text : List ℕ) (line from to : ℕ) → (HasLine text line → IsLine text line from to)
    → (s : ℕ) → s ≤ length text → line_at text s ≡ line → (from ≤ s) × (s ≤ to)
within_line text line from to is s h e = (is (has_line text line s e)).only s h e
