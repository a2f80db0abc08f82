-- What is shown of characters and bytes, one behind the other.
use Rattle.std.proofs.Common.{◌≡◌, ◌∙◌, ℕ, zero, suc, ◌+◌, ◌<◌, ◌≤◌, List, [], ◌∷◌, ◌++◌, length, take, drop, refl, sym, ap, append_assoc, arith, chars, flat_map, encode_utf8, IsUtf8, length-append, take_at, drop_at}
use Rattle.std.proofs.lemmas.List.{nil_from_length}
use Rattle.std.proofs.lemmas.Str.{chars_past_char, chars-nil, utf8_valid_len_le}
use Rattle.std.specs.Str.Lossy.{after_first_chunk, utf8_error_len, utf8_invalid_len, utf8_valid_len}
use Rattle.st_messages.specs.Rows.{filled, piece}
use Rattle.st_messages.specs.Shown.{bytes_shown, byte_shown, character_shown, invalid_front, shown, shown_within, text_shown}

-- what stands for the characters of no text
none_from : (f : ℕ → List ℕ) (text : List ℕ) → length text ≡ 0 → flat_map f (chars text) ≡ []
none_from f text none = ap (λ t. flat_map f (chars t)) (nil_from_length text none) ∙ ap (flat_map f) chars-nil

-- what stands for a character, and for those behind it
more_from : (f : ℕ → List ℕ) (text rest : List ℕ) (c : ℕ) → IsUtf8 text → text ≡ encode_utf8 c ++ rest
    → flat_map f (chars text) ≡ f c ++ flat_map f (chars rest)
more_from f text rest c utf8 parts = ap (flat_map f) (chars_past_char text rest c utf8 parts)

pub text_shown_none : (text : List ℕ) → length text ≡ 0 → text_shown text ≡ []
text_shown_none text none = none_from character_shown text none

pub text_shown_more : (text rest : List ℕ) (c : ℕ) → IsUtf8 text → text ≡ encode_utf8 c ++ rest
    → text_shown text ≡ character_shown c ++ text_shown rest
text_shown_more text rest c utf8 parts = more_from character_shown text rest c utf8 parts

pub filled_none : (texts : List (List ℕ)) (row : List ℕ) → length row ≡ 0 → filled texts row ≡ []
unfolding filled
filled_none texts row none = none_from (piece texts) row none

pub filled_more : (texts : List (List ℕ)) (row rest : List ℕ) (c : ℕ) → IsUtf8 row → row ≡ encode_utf8 c ++ rest
    → filled texts row ≡ piece texts c ++ filled texts rest
unfolding filled
filled_more texts row rest c utf8 parts = more_from (piece texts) row rest c utf8 parts

-- the parts of a chunk, and what follows them
pub shown_more : (turns : ℕ) (bytes valid invalid rest : List ℕ) → bytes ≡ valid ++ (invalid ++ rest) → length valid ≡ utf8_valid_len bytes
    → length invalid ≡ utf8_invalid_len (drop (utf8_valid_len bytes) bytes)
    → shown_within (suc turns) bytes ≡ text_shown valid ++ (bytes_shown invalid ++ shown_within turns rest)
shown_more turns bytes valid invalid rest parts valid_len invalid_len =
    let n = utf8_valid_len bytes in
    let front : take n bytes ≡ valid = ap (take n) parts ∙ take_at valid _ n valid_len in
    let behind : drop n bytes ≡ invalid ++ rest = ap (drop n) parts ∙ drop_at valid _ n valid_len in
    let middle : invalid_front bytes ≡ invalid =
    ap (take (utf8_invalid_len (drop n bytes))) behind ∙ take_at invalid rest _ invalid_len in
    let both : length (valid ++ invalid) ≡ n + utf8_invalid_len (drop n bytes) = omega (arith, length-append valid invalid, valid_len, invalid_len) in
    let back : after_first_chunk bytes ≡ rest =
    ap (drop (n + utf8_invalid_len (drop n bytes))) (parts ∙ sym (append_assoc valid invalid rest)) ∙ drop_at (valid ++ invalid) rest _ both in
    (λ i. text_shown (front i) ++ (bytes_shown (middle i) ++ shown_within turns (back i)))

-- no text stands at the front of no bytes, and nothing that is none
no_text : utf8_valid_len [] ≡ 0
no_text = omega (arith, utf8_valid_len_le [])

nothing_invalid : utf8_invalid_len (drop (utf8_valid_len []) []) ≡ 0
unfolding utf8_error_len
nothing_invalid = rw no_text refl

nothing_shown : (turns : ℕ) → shown_within turns [] ≡ []
nothing_shown zero = refl
nothing_shown (suc turns) =
    shown_more turns [] [] [] [] refl (sym no_text) (sym nothing_invalid)
    ∙ ap (λ t. t ++ (bytes_shown [] ++ shown_within turns [])) (text_shown_none [] refl) ∙ nothing_shown turns

-- of no bytes nothing is shown
pub shown_no_more : (turns : ℕ) (bytes : List ℕ) → length bytes ≡ 0 → shown_within turns bytes ≡ []
shown_no_more turns bytes none = ap (shown_within turns) (nil_from_length bytes none) ∙ nothing_shown turns

-- what is shown of bytes is what is shown in as many turns as there are bytes
pub shown_all : (bytes : List ℕ) → shown bytes ≡ shown_within (length bytes) bytes
unfolding shown
shown_all bytes = refl
