use Rattle.std.proofs.Common.{◌≡◌, ◌<◌, ◌+◌, ◌-◌, ◌*◌, ◌==◌, ◌∙◌, ap, drop, get_or, length, min, nat_lt, pos, refl, sym, take, to_z, true, w64, arith}
use Rattle.std.specs.Char.{digit_value}
use Rattle.std.proofs.lemmas.Bool.{not-false, not-true}
use Rattle.std.proofs.lemmas.Grind.{common_steps}
use Rattle.std.proofs.lemmas.Int.{to_z_pos}
use Rattle.st_values.proofs.Cases.{is_below}
use Rattle.st_lines.specs.ScanWords.{first_moment, too_late}
use Rattle.st_lines.proofs.MomentLemmas.{after_a_digit, another_first, digit_is_no_blank, ends_here, get_or-word, length-word, moment_first, no_digit_first, stands_in_word, word_of}
use Rattle.st_lines.proofs.pairs.split_moment.Goals as goal
use Rattle.st_lines.proofs.pairs.split_moment.Goals.{else-at-eq0, then-at-eq0}

-- one more digit
pub loop-digit-preserved : goal.loop-digit-preserved
loop-digit-preserved c =
    let text = c.skip_blanks-text.result.now in
    let at = c.loop-digit.at in
    let digit = c.in-Some.digit in
    let found = c.in-Some.ensures.some in
    let small : digit_value (get_or text at 0) < 10 = omega (arith, found.1, found.2) in
    let below = stands_in_word text at c.loop-digit.invariant.in_word found.0 (digit_is_no_blank (get_or text at 0) small) in
    let digit_is : digit ≡ digit_value (get_or (word_of text) at 0) = found.1 ∙ ap digit_value (sym (get_or-word text at below)) in
    let next : c.min-moment.result ≡ min (c.loop-digit.moment * 10 + digit) too_late = c.min-moment.ensures ∙ ap (λ d. min (c.loop-digit.moment * 10 + d) too_late) c.from.ensures in
    record {
      within = omega (arith, found.0);
      in_word = omega (arith, below);
      small = omega (arith, c.min-moment.ensures);
      told = after_a_digit (nat_lt 0 at) (nat_lt 0 (at + 1)) c.loop-digit.moment c.min-moment.result digit at (word_of text) (length-word text at below found.0) digit_is found.2 next (is_below 0 (at + 1) (omega arith)) ∙ c.loop-digit.invariant.told;
    }

-- the first word has another byte, or there is none
pub returns-then-not-ends_word-clause-none : goal.returns-then-not-ends_word-clause-none
returns-then-not-ends_word-clause-none c =
    let text = c.skip_blanks-text.result.now in
    let at = c.loop-digit.at in
    let n = c.loop-digit.moment in
    let first = c.skip_blanks-text.ensures.first in
    let told = c.loop-digit.invariant.told in
    elim c.if-at-eq0.branch [
      | then-at-eq0 w ↦ λ _. ap first_moment (sym c.skip_blanks-text.ensures.words) ∙ no_digit_first text at n first told w.if-at-eq0.true (c.in_default.ensures.none refl)
      | else-at-eq0 w ↦
          let goes_on = w.ends_word.ensures.no (not-true w.ends_word.result (sym w.value-is ∙ c.if-not-ends_word.true)) in
          let below = stands_in_word text at c.loop-digit.invariant.in_word goes_on.0 goes_on.1 in
          λ _. ap first_moment (sym c.skip_blanks-text.ensures.words) ∙ another_first text at n first told below goes_on.0 (c.in_default.ensures.none refl goes_on.0)
    ]

-- the first word has digits alone
pub returns-else-not-ends_word-clause-some : goal.returns-else-not-ends_word-clause-some
returns-else-not-ends_word-clause-some c =
    let text = c.skip_blanks-text.result.now in
    let at = c.loop-digit.at in
    let n = c.loop-digit.moment in
    let within = c.loop-digit.invariant.within in
    let rest : take (length text - at) (drop at text) ≡ drop at text = grind (arith, common_steps) in
    let same : to_z w64 n ≡ pos n = to_z_pos w64 n (omega (arith, c.loop-digit.invariant.small)) in
    elim c.if-at-eq0.branch [
      | then-at-eq0 w ↦ let zero : (at == 0) ≡ true = rw w.if-at-eq0.true refl in absurd (cc (zero, w.value-is, c.if-not-ends_word.false))
      | else-at-eq0 w ↦
          let ended = w.ends_word.ensures.yes (not-false w.ends_word.result (sym w.value-is ∙ c.if-not-ends_word.false)) in
          let whole = ends_here text at c.loop-digit.invariant.in_word within ended in
          rw (same, rest, ← c.skip_blanks-text.ensures.words) (moment_first text at n c.skip_blanks-text.ensures.first c.loop-digit.invariant.told (omega (arith, w.if-at-eq0.false)) within whole c.loop-digit.invariant.small)
    ]
