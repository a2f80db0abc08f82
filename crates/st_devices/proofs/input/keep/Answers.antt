use Rattle.std.proofs.Common.{◌≡◌, ◌≤◌, ◌+◌, ◌-◌, ◌++◌, take, min, arith, length, ◌∙◌, sym, ap}
use Rattle.std.proofs.lemmas.List.{length-take}
use Rattle.st_devices.proofs.PieceLemmas.{kept_front}
use Rattle.st_devices.proofs.input.keep.Goals as goal

pub returns-clause-line : goal.returns-clause-line
returns-clause-line c =
    let room : length c.args.line.now.items + length (take c.min-count.result c.args.bytes.now) ≤ 4096 =
    omega (arith, c.min-count.ensures, c.len.ensures, c.args.line.now.ok.0, c.requires.short, length-take c.min-count.result c.args.bytes.now) in
    let put = c.extend_from_slice.ensures.succeeds (omega (arith, room, c.args.line.now.ok.0, c.requires.capacity)) in
    let items = rw put at c.extend_from_slice.ensures.items in
    let count : c.min-count.result ≡ min (length c.args.bytes.now) (4096 - length c.args.line.now.items) = c.min-count.ensures ∙ ap (λ n. min (length c.args.bytes.now) (4096 - n)) (c.len.ensures ∙ c.args.line.now.ok.0) in
    items ∙ ap (λ n. c.args.line.now.items ++ take n c.args.bytes.now) count ∙ sym (kept_front c.args.line.now.items c.args.bytes.now c.requires.short)
