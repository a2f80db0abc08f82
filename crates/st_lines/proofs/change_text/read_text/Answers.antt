use Rattle.std.proofs.Common.{false, true}
use Rattle.st_devices.specs.Inputs.{has_ended, pending}
use Rattle.st_lines.specs.ChangeTexts.{TakesText}
use Rattle.st_lines.specs.SourceTexts.{TakesLines}
use Rattle.st_lines.specs.declared.change_text.ChangeText.TheVariants.{Unended}
use Rattle.st_devices.proofs.TakingLemmas.{OnReading-then}
use Rattle.st_lines.proofs.TextLemmas.{TakesLines-same, TakesText-ended}
use Rattle.st_lines.proofs.change_text.read_text.Goals as goal

-- the text was ended
pub returns-then-branch-clause-ok : goal.returns-then-branch-clause-ok
returns-then-branch-clause-ok g c = λ renames.
    let first = pending c.args.input.now (g.R.Source.rest c.args.source.now) in
    let after = pending c.read_lines.new.input (g.R.Source.rest c.read_lines.new.source) in
    let at_end = has_ended c.read_lines.new.input in
    OnReading-then first after (TakesLines renames true at_end c.read_lines.new.text) (TakesText renames c.into_text.result at_end)
    (λ x y taken. TakesText-ended renames c.into_text.result at_end x y taken.0 taken.1 (c.into_text.ensures taken.0 taken.2))
    (TakesLines-same renames c.in_ok-read_lines.field-0 true at_end first after c.read_lines.new.text (c.in_ok-read_lines.ensures.ok renames) c.if-branch.true)

-- the input ended before
pub returns-else-branch-clause-ok : goal.returns-else-branch-clause-ok
returns-else-branch-clause-ok g c = λ renames.
    let first = pending c.args.input.now (g.R.Source.rest c.args.source.now) in
    let after = pending c.read_lines.new.input (g.R.Source.rest c.read_lines.new.source) in
    let at_end = has_ended c.read_lines.new.input in
    OnReading-then first after (TakesLines renames false at_end c.read_lines.new.text) (TakesText renames Unended at_end) (λ x y taken. taken)
    (TakesLines-same renames c.in_ok-read_lines.field-0 false at_end first after c.read_lines.new.text (c.in_ok-read_lines.ensures.ok renames) c.if-branch.false)
