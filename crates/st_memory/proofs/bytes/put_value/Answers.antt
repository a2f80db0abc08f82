use Rattle.std.proofs.Common.{◌≡◌, ◌∙◌, ◌++◌, ℕ, ap, drop, rules}
use Rattle.std.specs.Int.{cast_unsigned, w64, w128}
use Rattle.std.proofs.lemmas.Int.{to_z-of_z}
use Rattle.byteorder.specs.Endian.{little_bytes}
use Rattle.st_values.specs.Types.{width_of}
use Rattle.st_memory.specs.Bytes.{value_bytes}
use Rattle.st_memory.proofs.bytes.put_value.Goals as goal

pub returns : goal.returns
unfolding value_bytes
returns c =
    let number : c.pattern.result ≡ cast_unsigned w64 c.args.value.bits =
    c.pattern.ensures ∙ ap (cast_unsigned w64) (to_z-of_z w128 c.args.value.bits (search rules)) in
    c.put_low.ensures ∙ ap (λ (n : ℕ). little_bytes (width_of c.args.value.elem) n ++ drop (width_of c.args.value.elem) c.args.bytes.now) number
