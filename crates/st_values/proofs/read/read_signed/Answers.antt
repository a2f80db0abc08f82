use Rattle.std.proofs.Common.{rules, arith, ◌≡◌, ◌∙◌, ap, drop, pos, true, false, slice_index, ◌==◌}
use Rattle.std.proofs.lemmas.Grind.{common_steps}
use Rattle.std.proofs.lemmas.List.{take_rest}
use Rattle.std.specs.Prelude.{option_map}
use Rattle.st_values.specs.Numbers.{capped, negative}
use Rattle.st_values.specs.Readings.{after_sign}
use Rattle.st_values.proofs.SignLemmas.{signed_read-capped}
use Rattle.st_values.proofs.read.read_signed.Goals as goal

pub returns-in-45 : goal.returns-in-45
returns-in-45 c =
    let magnitude : c.read_after_sign.result ≡ option_map capped (after_sign c.args.typed (drop 1 c.args.text.now)) = simp take_rest at c.read_after_sign.ensures.value in
    let minus : (slice_index c.args.text.now 0 == 45) ≡ true = grind (arith, common_steps) in
    rw (signed_read-capped c.args.typed c.args.text.now, minus) (c.with_sign.ensures ∙ ap (option_map negative) magnitude)

pub returns-in-43 : goal.returns-in-43
returns-in-43 c =
    let magnitude : c.read_after_sign-in-43.result ≡ option_map capped (after_sign c.args.typed (drop 1 c.args.text.now)) = simp take_rest at c.read_after_sign-in-43.ensures.value in
    let plus : (slice_index c.args.text.now 0 == 43) ≡ true = grind (arith, common_steps) in
    let no_minus : (slice_index c.args.text.now 0 == 45) ≡ false = grind (arith, common_steps) in
    rw (signed_read-capped c.args.typed c.args.text.now, no_minus, plus) (c.with_sign-in-43.ensures ∙ ap (option_map pos) magnitude)

pub returns-in_default : goal.returns-in_default
returns-in_default c = rw (signed_read-capped c.args.typed c.args.text.now) (search rules)
