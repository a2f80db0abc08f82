use Rattle.std.proofs.Common.{◌≡◌, ◌∙◌, ap, pos, rules, ℕ}
use Rattle.std.specs.Int.{w128}
use Rattle.std.proofs.lemmas.Int.{to_z-of_z}
use Rattle.byteorder.specs.Endian.{little_number}
use Rattle.st_memory.specs.Bytes.{read_bytes}
use Rattle.st_values.specs.Types.{width_of}
use Rattle.st_values.specs.Values.{wrapped}
use Rattle.st_memory.proofs.bytes.first_value.Goals as goal

pub returns : goal.returns
unfolding read_bytes
returns c =
    let number : c.from.result ≡ pos (little_number (width_of c.args.elem) c.args.bytes.now) = c.from.ensures ∙ ap (λ (n : ℕ). pos n) (c.read_uint-number.ensures ∙ ap (λ (n : ℕ). little_number n c.args.bytes.now) c.width.ensures.value) in
    c.wrap.ensures.value ∙ ap (wrapped c.args.elem) (to_z-of_z w128 c.from.result (search rules) ∙ number)
