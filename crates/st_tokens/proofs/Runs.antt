-- Runs of bytes of words.
use Rattle.std.proofs.Common.{◌≡◌, ℕ, ◌≤◌, List, [], ◌∷◌, ◌++◌, length, refl, ap, ◌∙◌, true, arith, take, drop, length-drop, ◌-◌}
use Rattle.std.proofs.Math.Seq.{take-length}
use Rattle.st_tokens.specs.Characters.{BeginsWord}
use Rattle.st_values.specs.Words.{is_word_byte, AreWordBytes}
use Rattle.st_tokens.specs.Scanning.{run, after_run}
use Rattle.st_tokens.proofs.Cases.{by_test, not_both}

-- a text is its run and what stands after it
pub run_splits : (t : List ℕ) → t ≡ run t ++ after_run t
run_splits [] = refl
run_splits (b ∷ bs) = by_test (is_word_byte b) (λ w. rw w (ap (λ (zs : List ℕ). b ∷ zs) (run_splits bs))) (λ w. rw w refl)

-- a run has bytes of a word alone
pub run_words : (t : List ℕ) → AreWordBytes (run t)
run_words [] = tt
run_words (b ∷ bs) = by_test (is_word_byte b) (λ w. rw w (w, run_words bs)) (λ w. rw w tt)

-- no byte of a word follows it
pub after_run_not : (t : List ℕ) → BeginsWord (after_run t) → ⊥
after_run_not [] h = h
after_run_not (b ∷ bs) h = by_test (is_word_byte b) (λ w. after_run_not bs (rw w at h)) (λ w. let h' : is_word_byte b ≡ true = rw w at h in not_both h' w)

-- a prefix of bytes of a word that doesn't go on is the run
pub run_unique : (f r : List ℕ) → AreWordBytes f → (BeginsWord r → ⊥) → (run (f ++ r) ≡ f) × (after_run (f ++ r) ≡ r)
run_unique [] [] h n = (refl, refl)
run_unique [] (b ∷ r) h n = by_test (is_word_byte b) (λ w. absurd (n w)) (λ w. rw w (refl, refl))
run_unique (b ∷ f) r h n = let ih = run_unique f r h.1 n in rw h.0 (ap (λ (zs : List ℕ). b ∷ zs) ih.0, ih.1)

-- the same where the text is such a list
pub run_is : (text f r : List ℕ) → text ≡ f ++ r → AreWordBytes f → (BeginsWord r → ⊥) → (run text ≡ f) × (after_run text ≡ r)
run_is text f r e h n = let w = run_unique f r h n in (ap run e ∙ w.0, ap after_run e ∙ w.1)

-- no prefix of bytes of a word is longer than the run
words_within : (other back : List ℕ) → AreWordBytes other → length other ≤ length (run (other ++ back))
words_within [] back h = omega arith
words_within (b ∷ other) back h = let ih = words_within other back h.1 in rw h.0 (omega (arith, ih))

-- no prefix of bytes of a word is longer than the run
pub words_in_run : (text other back : List ℕ) → text ≡ other ++ back → AreWordBytes other → length other ≤ length (run text)
words_in_run text other back e h = rw e (words_within other back h)

-- bytes of a word after others
pub words_append : (a b : List ℕ) → AreWordBytes a → AreWordBytes b → AreWordBytes (a ++ b)
words_append [] b h k = k
words_append (x ∷ a) b h k = (h.0, words_append a b h.1 k)

-- a slice from a place on
pub take_rest : (n : ℕ) (xs : List ℕ) → take (length xs - n) (drop n xs) ≡ drop n xs
take_rest n xs = rw (← length-drop n xs) (take-length (drop n xs))
