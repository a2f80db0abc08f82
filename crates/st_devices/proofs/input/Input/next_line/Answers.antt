use Rattle.std.proofs.Common.{◌++◌, ◌≡◌, ◌<◌, true, false, arith, refl, ◌∙◌, ap}
use Rattle.std.specs.Prelude.{Some, None, ◌||◌}
use Rattle.st_devices.specs.Inputs.{pending, left, unread}
use Rattle.st_devices.specs.Pending.{TakesFound, TakesPart, TakesPiece}
use Rattle.st_devices.specs.declared.input.Found.TheVariants as findings
use Rattle.st_devices.proofs.LineLemmas.{LineSoFar, line_last}
use Rattle.st_devices.proofs.PieceLemmas.{TakesPiece-same, piece_ends, piece_goes_on}
use Rattle.st_devices.proofs.TakingLemmas.{OnErr-from, OnReading-trans, not_ended_before, takes_nothing}
use Rattle.st_devices.proofs.input.Input.next_line.Goals as goal

pub returns-then-piece-clause-line : goal.returns-then-piece-clause-line
returns-then-piece-clause-line g c =
    let first = pending c.args.self.now (g.R.Source.rest c.args.source.now) in
    let before = pending c.loop-piece.self (g.R.Source.rest c.loop-piece.source) in
    let after = pending c.take_piece.new.self (g.R.Source.rest c.take_piece.new.source) in
    let at_end = c.take_piece.new.self.at_end in
    let was = c.loop-piece.line.items in
    let now = c.take_piece.new.line.items in
    OnReading-trans first before after
    (LineSoFar c.loop-piece.is_empty c.loop-piece.is_long was) (TakesPiece (Some c.in-Some.piece) was now) (TakesFound c.ended.result at_end c.ended.new.line.items)
    (λ x y z so taken. piece_ends c.loop-piece.is_empty c.loop-piece.is_long c.in-Some.piece.is_ended c.in-Some.piece.is_cut at_end was now x y z c.ended.new.line.items c.ended.result so taken
    c.if-piece.true c.ended.ensures.long c.ended.ensures.text)
    c.loop-piece.invariant.so_far (TakesPiece-same c.in_ok-piece.field-0 (Some c.in-Some.piece) before after was now c.in_ok-piece.ensures.bytes c.in-Some.is)

pub loop-piece-preserved : goal.loop-piece-preserved
loop-piece-preserved g c =
    let first = pending c.args.self.now (g.R.Source.rest c.args.source.now) in
    let before = pending c.loop-piece.self (g.R.Source.rest c.loop-piece.source) in
    let after = pending c.take_piece.new.self (g.R.Source.rest c.take_piece.new.source) in
    let was = c.loop-piece.line.items in
    let now = c.take_piece.new.line.items in
    let nearer : left c.take_piece.new.self (g.R.Source.reads_left c.take_piece.new.source) < left c.loop-piece.self (g.R.Source.reads_left c.loop-piece.source) = rw c.in-Some.is at c.in_ok-piece.ensures.progress in
    record {
      capacity = c.take_piece.ensures.capacity;
      short = c.take_piece.ensures.short;
      so_far = OnReading-trans first before after
          (LineSoFar c.loop-piece.is_empty c.loop-piece.is_long was) (TakesPiece (Some c.in-Some.piece) was now) (LineSoFar false (c.loop-piece.is_long || c.in-Some.piece.is_cut) now)
          (λ x y z so taken. piece_goes_on c.loop-piece.is_empty c.loop-piece.is_long c.in-Some.piece.is_ended c.in-Some.piece.is_cut was now x y z so taken c.if-piece.false)
          c.loop-piece.invariant.so_far (TakesPiece-same c.in_ok-piece.field-0 (Some c.in-Some.piece) before after was now c.in_ok-piece.ensures.bytes c.in-Some.is);
      ended = λ was_ended. c.take_piece.ensures.ended (c.loop-piece.invariant.ended was_ended);
      works = c.in_ok-piece.ensures.failed;
      progress = λ _. omega (arith, nearer, c.loop-piece.invariant.steady);
      steady = omega (arith, nearer, c.loop-piece.invariant.steady);
    }

pub returns-then-is_long-clause-line : goal.returns-then-is_long-clause-line
returns-then-is_long-clause-line g c =
    let first = pending c.args.self.now (g.R.Source.rest c.args.source.now) in
    let before = pending c.loop-piece.self (g.R.Source.rest c.loop-piece.source) in
    let after = pending c.take_piece.new.self (g.R.Source.rest c.take_piece.new.source) in
    let at_end = c.take_piece.new.self.at_end in
    let ended : at_end ≡ true = c.in_ok-piece.ensures.at_end c.in_default.is in
    let was = c.loop-piece.line.items in
    let now = c.take_piece.new.line.items in
    OnReading-trans first before after
    (LineSoFar c.loop-piece.is_empty c.loop-piece.is_long was) (TakesPiece None was now) (TakesFound findings.TooLong at_end now)
    (λ x y z so none. line_last c.loop-piece.is_empty c.loop-piece.is_long at_end was x y z findings.TooLong so c.if-is_empty.false (none.0, none.1) ended (λ _. refl) (λ short. cc (short, c.if-is_long.true)))
    c.loop-piece.invariant.so_far (TakesPiece-same c.in_ok-piece.field-0 None before after was now c.in_ok-piece.ensures.bytes c.in_default.is)

pub returns-else-is_long-clause-line : goal.returns-else-is_long-clause-line
returns-else-is_long-clause-line g c =
    let first = pending c.args.self.now (g.R.Source.rest c.args.source.now) in
    let before = pending c.loop-piece.self (g.R.Source.rest c.loop-piece.source) in
    let after = pending c.take_piece.new.self (g.R.Source.rest c.take_piece.new.source) in
    let at_end = c.take_piece.new.self.at_end in
    let ended : at_end ≡ true = c.in_ok-piece.ensures.at_end c.in_default.is in
    let was = c.loop-piece.line.items in
    let now = c.take_piece.new.line.items in
    OnReading-trans first before after
    (LineSoFar c.loop-piece.is_empty c.loop-piece.is_long was) (TakesPiece None was now) (TakesFound findings.Line at_end now)
    (λ x y z so none. rw none.2 (line_last c.loop-piece.is_empty c.loop-piece.is_long at_end was x y z findings.Line so c.if-is_empty.false (none.0, none.1) ended (λ long. cc (long, c.if-is_long.false)) (λ _. refl)))
    c.loop-piece.invariant.so_far (TakesPiece-same c.in_ok-piece.field-0 None before after was now c.in_ok-piece.ensures.bytes c.in_default.is)

-- a part of a line was read when the source failed
pub returns-in_err-piece-clause-err : goal.returns-in_err-piece-clause-err
returns-in_err-piece-clause-err g c =
    let first = pending c.args.self.now (g.R.Source.rest c.args.source.now) in
    let rest = g.R.Source.rest c.loop-piece.source in
    let before = pending c.loop-piece.self rest in
    let after = g.R.Source.rest c.take_piece.new.source in
    OnErr-from c.from_residual.result (OnReading-trans first before after
    (LineSoFar c.loop-piece.is_empty c.loop-piece.is_long c.loop-piece.line.items) (λ x y. x ≡ y) TakesPart
    (λ x y z so same. (so.part, so.split ∙ ap (λ ys. so.part ++ ys) same, so.no_lf))
    c.loop-piece.invariant.so_far
    (takes_nothing (unread c.loop-piece.self) c.loop-piece.self.at_end rest after c.in_err-piece.ensures.empty.0 c.in_err-piece.ensures.empty.1 c.in_err-piece.ensures.err))

-- the input was open when the source failed, so it was open before
pub returns-in_err-piece-clause-not_ended : goal.returns-in_err-piece-clause-not_ended
returns-in_err-piece-clause-not_ended g c =
    OnErr-from c.from_residual.result (not_ended_before c.args.self.now.at_end c.loop-piece.self.at_end c.loop-piece.invariant.ended c.in_err-piece.ensures.empty.1)
