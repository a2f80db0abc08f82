-- Places and lines.
use Rattle.std.proofs.Common.{◌≡◌, ℕ, ◌+◌, ◌<◌, ◌≤◌, List, ◌∷◌, length, get_or, take, drop, suc, refl, sym, ap, ◌∙◌, subst, inl, inr, arith, drop-cons}
use Rattle.std.proofs.lemmas.Bool.{cases_lt}
use Rattle.std.proofs.lemmas.List.{take-take, take_all, take_min}
use Rattle.std.proofs.lemmas.List.Sums.{sum_by_more, sum_by-take-le}
use Rattle.std.specs.List.{sum_by}
use Rattle.std.specs.Prelude.{◌==◌}
use Rattle.st_tokens.proofs.Cases.{by_test, is_equal}
use Rattle.st_messages.specs.Headings.{place_at}
use Rattle.st_messages.specs.Places.{EndsLine, HasLine, IsLine, feed, line_after, line_at, line_end}

-- what ends no line
pub no_feed : (b : ℕ) → (b ≡ 10 → ⊥) → line_end b ≡ 0
no_feed b h = by_test (b == 10) (λ t. absurd (h (is_equal b 10 t))) (λ t. rw t refl)

-- the line behind one more byte
pub line_more : (text : List ℕ) (i : ℕ) → i < length text → line_at text (i + 1) ≡ line_at text i + line_end (get_or text i 0)
line_more text i h = let k = sum_by_more line_end text i 0 h in omega (arith, k)

-- what stands later isn't on an earlier line
pub line_monotone : (text : List ℕ) (s t : ℕ) → s ≤ t → line_at text s ≤ line_at text t
line_monotone text s t h = let k = sum_by-take-le line_end (take t text) s in let e = ap (sum_by line_end) (take-take s t text h) in omega (arith, k, e)

-- what stands in a text stands on one of its lines
pub line_within : (text : List ℕ) (s : ℕ) → line_at text s ≤ line_after text
line_within text s = let k = sum_by-take-le line_end text s in omega (arith, k)

-- a line on which something stands is one of the text's
pub has_line : (text : List ℕ) (line s : ℕ) → line_at text s ≡ line → HasLine text line
has_line text line s e = (omega (arith, e), let k = line_within text s in omega (arith, k, e))

-- the line that a heading has
pub placed_line : (text : List ℕ) (start : ℕ) → (place_at text start).line ≡ line_at text start
placed_line text start = ap line_after (take_min start text)

-- from the start of a line on no line feed has come so far
pub record OnLine (text : List ℕ) (line start current at : ℕ) : Type 0 where
  pub least : start ≤ at
  pub here : line_at text at ≡ current
  pub begins : line_at text start ≡ current
  pub before : (s : ℕ) → s < start → line_at text s < current
  pub few : 1 ≤ line → current ≤ line

module _ (text : List ℕ) (line start current at : ℕ) (w : OnLine text line start current at) where
  sandwich : (s : ℕ) → start ≤ s → s ≤ at → line_at text s ≡ current
  sandwich s h k = let l = line_monotone text start s h in let m = line_monotone text s at k in let b = w.begins in let e = w.here in omega (arith, l, m, b, e)

  -- a byte of the line
  pub line_goes_on : at < length text → (get_or text at 0 ≡ 10 → ⊥) → OnLine text line start current (at + 1)
  line_goes_on h e = record {
    least = let l = w.least in omega (arith, l);
    here = let n = line_more text at h in let z = no_feed (get_or text at 0) e in let f = w.here in omega (arith, n, z, f);
    begins = w.begins;
    before = w.before;
    few = w.few;
  }

  -- its line feed
  pub line_passed : at < length text → get_or text at 0 ≡ 10 → current < line → OnLine text line (at + 1) (current + 1) (at + 1)
  line_passed h e l = record {
    least = omega arith;
    here = next;
    begins = next;
    before = λ s k. let m = line_monotone text s at (omega (arith, k)) in let f = w.here in omega (arith, m, f);
    few = λ _. omega (arith, l);
  } where
    next : line_at text (at + 1) ≡ current + 1
    next = let n = line_more text at h in let z = ap line_end e in let f = w.here in omega (arith, n, z, f)

  -- its line feed, where it is the line that is looked for
  pub line_at_feed : at < length text → get_or text at 0 ≡ 10 → line ≤ current → HasLine text line → IsLine text line start at
  line_at_feed h e l has = record {
    on = λ s a b. sandwich s a b ∙ same;
    only = λ s within is. (from s is, up s is);
  } where
    same : current ≡ line
    same = let f = w.few has.0 in omega (arith, f, l)

    from : (s : ℕ) → line_at text s ≡ line → start ≤ s
    from s is = elim (cases_lt s start) [ inl k ↦ let b = w.before s k in absurd (omega (arith, b, is, same)) | inr k ↦ k ]

    up : (s : ℕ) → line_at text s ≡ line → s ≤ at
    up s is = elim (cases_lt at s) [
      | inl k ↦ let m = line_monotone text (at + 1) s (omega (arith, k)) in let n = line_more text at h in let f = w.here in let z = ap line_end e in absurd (omega (arith, m, n, f, z, is, same))
      | inr k ↦ k
    ]

  -- the end of the text
  pub line_at_end : at ≡ length text → HasLine text line → IsLine text line start (length text)
  line_at_end h has = record {
    on = λ s a b. sandwich s a (omega (arith, b, h)) ∙ same;
    only = λ s within is. (from s is, within);
  } where
    same : current ≡ line
    same = let f = w.few has.0 in let g = w.here in let a = ap line_after (take_all at text (omega (arith, h))) in let k = has.1 in omega (arith, f, g, a, k)

    from : (s : ℕ) → line_at text s ≡ line → start ≤ s
    from s is = elim (cases_lt s start) [ inl k ↦ let b = w.before s k in absurd (omega (arith, b, is, same)) | inr k ↦ k ]

pub ends_at_feed : (text : List ℕ) (at : ℕ) → at < length text → get_or text at 0 ≡ 10 → EndsLine (drop at text)
ends_at_feed text at h e = subst EndsLine (sym (drop-cons text at 0 h ∙ ap (λ b. b ∷ drop (suc at) text) e)) feed
