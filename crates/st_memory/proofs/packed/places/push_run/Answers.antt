use Rattle.std.proofs.Common.{◌≡◌, ◌∙◌, ◌-◌, ℕ, ap, arith, drop, take}
use Rattle.std.proofs.lemmas.Grind.{common_steps}
use Rattle.st_layout.specs.Layout.{offset_of}
use Rattle.st_memory.specs.Packed.{decoded, encoded}
use Rattle.st_memory.proofs.Encoded.{run-encoded}
use Rattle.st_memory.proofs.packed.places.push_run.Goals as goal

pub returns : goal.returns
returns c =
    let run : take (c.span_of-span.result.end - c.span_of-span.result.start) (drop c.span_of-span.result.start c.args.bytes.now) ≡ encoded (take (c.args.end - c.args.first) (drop c.args.first (decoded c.args.layout.now c.args.bytes.now))) =
    ap (λ (n : ℕ). take (n - c.span_of-span.result.start) (drop c.span_of-span.result.start c.args.bytes.now)) c.span_of-span.ensures.end
    ∙ (ap (λ (n : ℕ). take (offset_of c.args.layout.now c.args.end - n) (drop n c.args.bytes.now)) c.span_of-span.ensures.start
    ∙ run-encoded c.args.layout.now c.args.bytes.now c.args.first c.args.end c.requires.held c.requires.order) in
    grind (arith, common_steps)
