-- What is said of a block of one kind is said of a block whose kind is the same.
use Rattle.std.proofs.Common.{◌≡◌, ℤ, List, length, sym, ap, ◌∙◌}
use Rattle.std.proofs.lemmas.Slice.Zip.{AllZip-long}
use Rattle.st_values.specs.declared.value.Value.{Value}
use Rattle.st_types.specs.declared.standard.StandardBlock.{StandardBlock}
use Rattle.st_values.specs.Values.{IsOfType}
use Rattle.st_blocks.specs.Cells.{AreLeavesOf, types_of}
use Rattle.st_blocks.specs.Steps.{stepped}

pub same_length : (kind other : StandardBlock) (cells made : List Value) → kind ≡ other → AreLeavesOf kind cells → AreLeavesOf other made → length cells ≡ length made
same_length kind other cells made same old new =
    AllZip-long IsOfType (types_of kind) cells old ∙ ap (λ k. length (types_of k)) same ∙ sym (AllZip-long IsOfType (types_of other) made new)

pub stepped_at : (kind other : StandardBlock) (cells made : List Value) (now : ℤ) → kind ≡ other → made ≡ stepped other cells now → made ≡ stepped kind cells now
stepped_at kind other cells made now same is = is ∙ sym (ap (λ k. stepped k cells now) same)
