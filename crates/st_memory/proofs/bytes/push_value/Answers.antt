use Rattle.std.proofs.Common.{◌≡◌, ◌∙◌, ℕ, List, ap, arith, rules, take}
use Rattle.std.specs.Int.{cast_unsigned, w64, w128}
use Rattle.std.proofs.lemmas.Grind.{common_steps}
use Rattle.std.proofs.lemmas.Int.{to_z-of_z}
use Rattle.byteorder.specs.Endian.{little_bytes}
use Rattle.st_values.specs.Types.{width_of}
use Rattle.st_memory.specs.Bytes.{value_bytes}
use Rattle.st_memory.proofs.ValueBytes.{take-bytes_low_first}
use Rattle.st_memory.proofs.bytes.push_value.Goals as goal

pub returns : goal.returns
unfolding value_bytes
returns c =
    let number : c.pattern.result ≡ cast_unsigned w64 c.args.value.bits =
    c.pattern.ensures ∙ ap (cast_unsigned w64) (to_z-of_z w128 c.args.value.bits (search rules)) in
    let bytes : take c.width.result c.write_u64.new.buf ≡ value_bytes c.args.value =
    ap (λ (buffer : List ℕ). take c.width.result buffer) c.write_u64.ensures
    ∙ (take-bytes_low_first c.width.result 8 0 c.pattern.result c.width.ensures.few
    ∙ (ap (λ (width : ℕ). little_bytes width c.pattern.result) c.width.ensures.value ∙ ap (little_bytes (width_of c.args.value.elem)) number)) in
    grind (arith, common_steps)
