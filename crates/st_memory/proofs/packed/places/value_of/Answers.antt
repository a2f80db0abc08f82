use Rattle.std.proofs.Common.{◌∙◌, ℕ, ap, drop, sym}
use Rattle.std.proofs.lemmas.List.{take_rest}
use Rattle.st_values.specs.declared.elem.Elem.{Elem}
use Rattle.st_layout.specs.Layout.{leaf_at}
use Rattle.st_memory.specs.Bytes.{read_bytes}
use Rattle.st_memory.proofs.Encoded.{begins_as_truth, decoded_at}
use Rattle.st_memory.proofs.packed.places.value_of.Goals as goal

pub value_in-requires-clause-truth : goal.value_in-requires-clause-truth
value_in-requires-clause-truth c =
    rw (take_rest c.args.bytes.now c.args.offset, c.requires.offset, c.requires.elem)
    (begins_as_truth c.args.layout.now c.args.bytes.now c.args.leaf c.requires.held c.requires.below)

pub returns : goal.returns
returns c =
    c.value_in.ensures
    ∙ (ap (read_bytes c.args.elem) (take_rest c.args.bytes.now c.args.offset)
    ∙ (ap (λ (elem : Elem). read_bytes elem (drop c.args.offset c.args.bytes.now)) c.requires.elem
    ∙ (ap (λ (n : ℕ). read_bytes (leaf_at c.args.layout.now c.args.leaf).elem (drop n c.args.bytes.now)) c.requires.offset
    ∙ sym (decoded_at c.args.layout.now c.args.bytes.now c.args.leaf c.requires.below))))
