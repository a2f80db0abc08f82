-- The text of a way tells which way it is.
use Rattle.std.proofs.Common.{◌≡◌, ℕ, ℤ, true, List, [], ◌∷◌, ◌++◌, refl, ap, sym, ◌∙◌, arith, append_assoc}
use Rattle.std.specs.Char.{to_ascii_uppercase}
use Rattle.std.proofs.lemmas.Bool.{and_from}
use Rattle.std.proofs.lemmas.List.{map-append}
use Rattle.st_values.specs.Words.{is_word, is_word_byte, raised}
use Rattle.st_leaves.specs.Distinct.{HasShortSubscripts, TextsAreWays}
use Rattle.st_leaves.specs.Paths.{HasWords, Path, are_same_numbers, field, index, is_same_path, kept, path_text, subscripts_text}
use Rattle.st_leaves.proofs.Cuts.{Ends, cut, none_some, same_first, same_rest}
use Rattle.st_leaves.proofs.RaisedWords.{raised_word, same_raised}
use Rattle.st_leaves.proofs.SubscriptsTold.{raised_subscripts, same_subscripts}

-- the text in upper case
abbrev spelled : Path → List ℕ
spelled p = raised (path_text p)

behind_name : (name : List ℕ) (p : Path) → raised (name ++ path_text p) ≡ raised name ++ spelled p
behind_name name p = map-append to_ascii_uppercase name (path_text p)

-- no name goes on behind itself
ends_name : (p : Path) → Ends is_word_byte (spelled p)
ends_name [] = tt
ends_name (field name ∷ p) = refl
ends_name (kept name ∷ p) = refl
ends_name (index is ∷ p) = refl

-- `$` stands behind `.` alone
no_dollar : (p : Path) (x : List ℕ) → spelled p ≡ 36 ∷ x → ⊥
no_dollar [] x e = none_some 36 x e
no_dollar (field name ∷ p) x e = let clash = same_first 46 36 (raised (name ++ path_text p)) x e in omega arith
no_dollar (kept name ∷ p) x e = let clash = same_first 46 36 (36 ∷ raised (name ++ path_text p)) x e in omega arith
no_dollar (index is ∷ p) x e = let clash = same_first 91 36 (raised ((subscripts_text is ++ 93 ∷ []) ++ path_text p)) x e in omega arith

-- two names, and what is behind them
names_told : (a b : List ℕ) (p q : Path) → HasWords (field a ∷ p) → HasWords (field b ∷ q) → raised (a ++ path_text p) ≡ raised (b ++ path_text q) → (is_word a b ≡ true) × (spelled p ≡ spelled q)
names_told a b p q word_a word_b e =
    let parts = cut is_word_byte (raised a) (raised b) (spelled p) (spelled q) (raised_word a word_a.0) (raised_word b word_b.0) (ends_name p) (ends_name q) (sym (behind_name a p) ∙ e ∙ behind_name b q) in
    (same_raised a b parts.0, parts.1)

-- a name and what is kept
name_or_dollar : (a b : List ℕ) (p : Path) → HasWords (field a ∷ p) → raised (a ++ path_text p) ≡ 36 ∷ b → ⊥
name_or_dollar a b p word e = no_dollar p b (cut is_word_byte (raised a) [] (spelled p) (36 ∷ b) (raised_word a word.0) tt (ends_name p) refl (sym (behind_name a p) ∙ e)).1

-- subscripts, and what is behind them
bracketed : (is : List ℤ) (p : Path) → HasShortSubscripts (index is ∷ p) → raised ((subscripts_text is ++ 93 ∷ []) ++ path_text p) ≡ subscripts_text is ++ 93 ∷ spelled p
bracketed is p short =
    ap raised (append_assoc (subscripts_text is) (93 ∷ []) (path_text p)) ∙ map-append to_ascii_uppercase (subscripts_text is) (93 ∷ path_text p)
    ∙ ap (λ t. t ++ 93 ∷ spelled p) (raised_subscripts is short.0)

told : (p q : Path) → HasWords p → HasWords q → HasShortSubscripts p → HasShortSubscripts q → spelled p ≡ spelled q → is_same_path p q ≡ true
told [] [] words_p words_q short_p short_q e = refl
told [] (field b ∷ q) words_p words_q short_p short_q e = absurd (none_some 46 (raised (b ++ path_text q)) e)
told [] (kept b ∷ q) words_p words_q short_p short_q e = absurd (none_some 46 (36 ∷ raised (b ++ path_text q)) e)
told [] (index js ∷ q) words_p words_q short_p short_q e = absurd (none_some 91 (raised ((subscripts_text js ++ 93 ∷ []) ++ path_text q)) e)
told (field a ∷ p) [] words_p words_q short_p short_q e = absurd (none_some 46 (raised (a ++ path_text p)) (sym e))
told (kept a ∷ p) [] words_p words_q short_p short_q e = absurd (none_some 46 (36 ∷ raised (a ++ path_text p)) (sym e))
told (index is ∷ p) [] words_p words_q short_p short_q e = absurd (none_some 91 (raised ((subscripts_text is ++ 93 ∷ []) ++ path_text p)) (sym e))
told (field a ∷ p) (field b ∷ q) words_p words_q short_p short_q e =
    let parts = names_told a b p q words_p words_q (same_rest 46 46 (raised (a ++ path_text p)) (raised (b ++ path_text q)) e) in
    and_from (is_word a b) (is_same_path p q) parts.0 (told p q words_p.1 words_q.1 short_p short_q parts.1)
told (kept a ∷ p) (kept b ∷ q) words_p words_q short_p short_q e =
    let parts = names_told a b p q words_p words_q
    (same_rest 36 36 (raised (a ++ path_text p)) (raised (b ++ path_text q)) (same_rest 46 46 (36 ∷ raised (a ++ path_text p)) (36 ∷ raised (b ++ path_text q)) e)) in
    and_from (is_word a b) (is_same_path p q) parts.0 (told p q words_p.1 words_q.1 short_p short_q parts.1)
told (index is ∷ p) (index js ∷ q) words_p words_q short_p short_q e =
    let parts = same_subscripts is js (spelled p) (spelled q) short_p.0 short_q.0
    (sym (bracketed is p short_p)
    ∙ same_rest 91 91 (raised ((subscripts_text is ++ 93 ∷ []) ++ path_text p)) (raised ((subscripts_text js ++ 93 ∷ []) ++ path_text q)) e ∙ bracketed js q short_q) in
    and_from (are_same_numbers is js) (is_same_path p q) parts.0 (told p q words_p.1 words_q.1 short_p.1 short_q.1 parts.1)
told (field a ∷ p) (kept b ∷ q) words_p words_q short_p short_q e =
    absurd (name_or_dollar a (raised (b ++ path_text q)) p words_p (same_rest 46 46 (raised (a ++ path_text p)) (36 ∷ raised (b ++ path_text q)) e))
told (kept a ∷ p) (field b ∷ q) words_p words_q short_p short_q e =
    absurd (name_or_dollar b (raised (a ++ path_text p)) q words_q (same_rest 46 46 (raised (b ++ path_text q)) (36 ∷ raised (a ++ path_text p)) (sym e)))
told (field a ∷ p) (index js ∷ q) words_p words_q short_p short_q e =
    let clash = same_first 46 91 (raised (a ++ path_text p)) (raised ((subscripts_text js ++ 93 ∷ []) ++ path_text q)) e in absurd (omega arith)
told (kept a ∷ p) (index js ∷ q) words_p words_q short_p short_q e =
    let clash = same_first 46 91 (36 ∷ raised (a ++ path_text p)) (raised ((subscripts_text js ++ 93 ∷ []) ++ path_text q)) e in absurd (omega arith)
told (index is ∷ p) (field b ∷ q) words_p words_q short_p short_q e =
    let clash = same_first 91 46 (raised ((subscripts_text is ++ 93 ∷ []) ++ path_text p)) (raised (b ++ path_text q)) e in absurd (omega arith)
told (index is ∷ p) (kept b ∷ q) words_p words_q short_p short_q e =
    let clash = same_first 91 46 (raised ((subscripts_text is ++ 93 ∷ []) ++ path_text p)) (36 ∷ raised (b ++ path_text q)) e in absurd (omega arith)

pub texts_are_ways : TextsAreWays
texts_are_ways = told
