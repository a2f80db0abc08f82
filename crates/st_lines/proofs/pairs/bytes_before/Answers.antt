use Rattle.std.proofs.Common.{◌≡◌, ◌-◌, ◌∙◌, sym, false, length, take, drop, arith}
use Rattle.std.specs.Prelude.{codes}
use Rattle.std.proofs.lemmas.Grind.{common_steps}
use Rattle.st_values.specs.Words.{begins_with}
use Rattle.st_lines.proofs.ScanLemmas.{before-more}
use Rattle.st_lines.proofs.pairs.bytes_before.Goals as goal

-- no `:=` stands here
pub loop-at-preserved : goal.loop-at-preserved
loop-at-preserved c =
    let at = c.loop-at.at in
    let word = c.args.word.now in
    let whole : take (length word - at) (drop at word) ≡ drop at word = grind (arith, common_steps) in
    let other : begins_with (codes ":=") (drop at word) ≡ false = rw whole at (sym c.begins_value.ensures ∙ c.if-not-begins_value.true) in
    record {
      within = omega (arith, c.loop-at-test.true);
      so_far = omega (arith, c.loop-at.invariant.so_far, before-more word at c.loop-at-test.true other);
    }
