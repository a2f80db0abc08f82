use Rattle.std.proofs.Common.{rules, arith, ◌≡◌, ◌∙◌, ap, drop, true, slice_index, ◌==◌}
use Rattle.std.proofs.lemmas.Grind.{common_steps}
use Rattle.std.proofs.lemmas.List.{take_rest}
use Rattle.std.specs.Prelude.{option_map}
use Rattle.st_values.specs.Durations.{interval_read}
use Rattle.st_values.specs.Numbers.{capped, negative}
use Rattle.st_values.proofs.DurationLemmas.{signed_interval_read-capped}
use Rattle.st_values.proofs.duration.read_signed_interval.Goals as goal

pub returns-in-45 : goal.returns-in-45
returns-in-45 c =
    let magnitude : c.read_interval.result ≡ option_map capped (interval_read (drop 1 c.args.text.now)) = simp take_rest at c.read_interval.ensures.value in
    let minus : (slice_index c.args.text.now 0 == 45) ≡ true = grind (arith, common_steps) in
    rw (signed_interval_read-capped c.args.text.now, minus) (c.with_sign.ensures ∙ ap (option_map negative) magnitude)

pub returns-in_default : goal.returns-in_default
returns-in_default c = rw (signed_interval_read-capped c.args.text.now) (search rules)
