use Rattle.std.proofs.Common.{◌≡◌, ◌≤◌, ◌+◌, length, sym, arith}
use Rattle.std.proofs.lemmas.List.Sums.{position_or_len_is}
use Rattle.std.proofs.lemmas.Simd.{run_in_chunk_fails, run_in_chunk_le, run_in_chunk_stops}
use Rattle.st_devices.specs.Lines.{is_lf}
use Rattle.st_devices.proofs.PieceLemmas.{first_behind, none_behind}
use Rattle.st_devices.proofs.input.bytes_before_lf.Goals as goal

-- the first LF is among these lanes
pub returns-then-count-lt-LANES-clause-value : goal.returns-then-count-lt-LANES-clause-value
returns-then-count-lt-LANES-clause-value c =
    let bytes = c.args.bytes.now in
    let at = c.loop-at.at in
    let count = c.lanes_before_lf-count.result in
    let counted = c.lanes_before_lf-count.ensures in
    let room : at + 16 ≤ length bytes = omega (arith, c.loop-at-test.true, c.loop-at.invariant.within) in
    sym (position_or_len_is is_lf bytes (at + count) 0 (omega (arith, room, c.if-count-lt-LANES.true))
    (none_behind bytes at count c.loop-at.invariant.none (run_in_chunk_fails is_lf bytes at 16 count 0 room counted))
    (λ _. run_in_chunk_stops is_lf bytes at 16 count 0 room counted c.if-count-lt-LANES.true))

-- none of these lanes is an LF
pub loop-at-preserved : goal.loop-at-preserved
loop-at-preserved c =
    let bytes = c.args.bytes.now in
    let at = c.loop-at.at in
    let count = c.lanes_before_lf-count.result in
    let counted = c.lanes_before_lf-count.ensures in
    let room : at + 16 ≤ length bytes = omega (arith, c.loop-at-test.true, c.loop-at.invariant.within) in
    let all : count ≡ 16 = omega (arith, c.if-count-lt-LANES.false, run_in_chunk_le is_lf bytes at 16 count 0 room counted) in
    record {
      within = room;
      none = none_behind bytes at 16 c.loop-at.invariant.none (rw all at (run_in_chunk_fails is_lf bytes at 16 count 0 room counted));
    }

-- few bytes are left
pub returns-clause-value : goal.returns-clause-value
returns-clause-value c = first_behind c.args.bytes.now c.loop-at.at c.few_before_lf.result c.loop-at.invariant.within c.loop-at.invariant.none c.few_before_lf.ensures.value
