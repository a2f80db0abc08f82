use Rattle.std.proofs.Common.{◌≡◌, ◌<◌, true, ap, ◌∙◌, arith}
use Rattle.std.specs.Prelude.{Some, None}
use Rattle.st_devices.specs.Inputs.{has_ended, left, pending, unread}
use Rattle.st_devices.specs.Pending.{TakesByte}
use Rattle.st_lines.specs.Commands.{TakesPartOf, new_change}
use Rattle.st_lines.specs.SourceTexts.{TakesLines}
use Rattle.st_lines.proofs.ReadLemmas.{TakesPartOf-text, TakesLines-end, TakesLines-line, TextSoFar, TextSoFar-byte, TextSoFar-line}
use Rattle.st_devices.proofs.TakingLemmas.{OnErr-from, OnReading-trans, TakesByte-same, takes_nothing}
use Rattle.st_lines.proofs.change_text.read_lines.Goals as goal

-- another byte of a line
pub loop-byte-preserved-then-byte-ne10 : goal.loop-byte-preserved-then-byte-ne10
loop-byte-preserved-then-byte-ne10 g c =
    let first = pending c.args.input.now (g.R.Source.rest c.args.source.now) in
    let before = pending c.loop-byte.input (g.R.Source.rest c.loop-byte.source) in
    let after = pending c.next_byte.new.self (g.R.Source.rest c.next_byte.new.source) in
    let byte = c.in-Some.byte in
    let nearer : left c.next_byte.new.self (g.R.Source.reads_left c.next_byte.new.source) < left c.loop-byte.input (g.R.Source.reads_left c.loop-byte.source) = rw c.in-Some.is at c.in_ok-byte.ensures.progress in
    record {
      so_far = λ renames. OnReading-trans first before after (TextSoFar renames c.loop-byte.text) (TakesByte (Some byte)) (TextSoFar renames c.take.new.self)
          (λ x y z so next. TextSoFar-byte renames c.loop-byte.text c.take.new.self byte x y z so next c.if-byte-ne10.true c.take.ensures)
          (c.loop-byte.invariant.so_far renames) (TakesByte-same c.in_ok-byte.field-0 (Some byte) before after c.in_ok-byte.ensures.bytes c.in-Some.is);
      ended = λ was. c.next_byte.ensures.ended (c.loop-byte.invariant.ended was);
      works = c.in_ok-byte.ensures.failed;
      steady = omega (arith, nearer, c.loop-byte.invariant.steady);
    }

-- the LF of a source line
pub loop-byte-preserved : goal.loop-byte-preserved
loop-byte-preserved g c =
    let first = pending c.args.input.now (g.R.Source.rest c.args.source.now) in
    let before = pending c.loop-byte.input (g.R.Source.rest c.loop-byte.source) in
    let after = pending c.next_byte.new.self (g.R.Source.rest c.next_byte.new.source) in
    let nearer : left c.next_byte.new.self (g.R.Source.reads_left c.next_byte.new.source) < left c.loop-byte.input (g.R.Source.reads_left c.loop-byte.source) = rw c.in-Some.is at c.in_ok-byte.ensures.progress in
    record {
      so_far = λ renames. OnReading-trans first before after (TextSoFar renames c.loop-byte.text) (TakesByte (Some 10)) (TextSoFar renames c.end_line.new.self)
          (λ x y z so next. TextSoFar-line renames c.loop-byte.text c.end_line.new.self x y z c.end_line.result so next c.end_line.ensures.end c.if-end_line.false (c.end_line.ensures.line c.if-end_line.false))
          (c.loop-byte.invariant.so_far renames) (TakesByte-same c.in_ok-byte.field-0 (Some 10) before after c.in_ok-byte.ensures.bytes (c.in-Some.is ∙ ap (λ n. Some n) c.if-byte-ne10.false));
      ended = λ was. c.next_byte.ensures.ended (c.loop-byte.invariant.ended was);
      works = c.in_ok-byte.ensures.failed;
      steady = omega (arith, nearer, c.loop-byte.invariant.steady);
    }

-- the LF of the line that ends the text
pub returns-then-end_line-clause-ok : goal.returns-then-end_line-clause-ok
returns-then-end_line-clause-ok g c = λ renames.
    let first = pending c.args.input.now (g.R.Source.rest c.args.source.now) in
    let before = pending c.loop-byte.input (g.R.Source.rest c.loop-byte.source) in
    let after = pending c.next_byte.new.self (g.R.Source.rest c.next_byte.new.source) in
    let at_end = has_ended c.next_byte.new.self in
    OnReading-trans first before after (TextSoFar renames c.loop-byte.text) (TakesByte (Some 10)) (TakesLines renames true at_end c.end_line.new.self)
    (λ x y z so next. TakesLines-line renames c.loop-byte.text c.end_line.new.self at_end x y z c.end_line.result so next c.end_line.ensures.end c.if-end_line.true (c.end_line.ensures.text c.if-end_line.true))
    (c.loop-byte.invariant.so_far renames) (TakesByte-same c.in_ok-byte.field-0 (Some 10) before after c.in_ok-byte.ensures.bytes (c.in-Some.is ∙ ap (λ n. Some n) c.if-byte-ne10.false))

-- the end of the input
pub returns-clause-ok : goal.returns-clause-ok
returns-clause-ok g c = λ renames.
    let first = pending c.args.input.now (g.R.Source.rest c.args.source.now) in
    let before = pending c.loop-byte.input (g.R.Source.rest c.loop-byte.source) in
    let after = pending c.next_byte.new.self (g.R.Source.rest c.next_byte.new.source) in
    let at_end = has_ended c.next_byte.new.self in
    let ended : at_end ≡ true = c.in_ok-byte.ensures.at_end c.in_default.is in
    OnReading-trans first before after (TextSoFar renames c.loop-byte.text) (TakesByte None) (TakesLines renames c.end_input.result at_end c.end_input.new.self)
    (λ x y z so none. TakesLines-end renames c.loop-byte.text c.end_input.new.self at_end x y z c.end_input.result so none ended c.end_input.ensures.end c.end_input.ensures.text)
    (c.loop-byte.invariant.so_far renames) (TakesByte-same c.in_ok-byte.field-0 None before after c.in_ok-byte.ensures.bytes c.in_default.is)

-- a part of the text was read when the source failed
pub returns-in_err-byte-clause-err : goal.returns-in_err-byte-clause-err
returns-in_err-byte-clause-err g c = λ renames.
    let first = pending c.args.input.now (g.R.Source.rest c.args.source.now) in
    let rest = g.R.Source.rest c.loop-byte.source in
    let before = pending c.loop-byte.input rest in
    let after = g.R.Source.rest c.next_byte.new.source in
    OnErr-from c.from_residual.result (OnReading-trans first before after (TextSoFar renames c.loop-byte.text) (λ x y. x ≡ y) (TakesPartOf (Some (new_change renames)))
    (λ x y z so same. TakesPartOf-text renames c.loop-byte.text x y z so same)
    (c.loop-byte.invariant.so_far renames)
    (takes_nothing (unread c.loop-byte.input) (has_ended c.loop-byte.input) rest after c.in_err-byte.ensures.empty.0 c.in_err-byte.ensures.empty.1 c.in_err-byte.ensures.err))
