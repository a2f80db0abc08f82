-- What the type of a table says of its transitions.
use Rattle.std.proofs.Common.{◌≡◌, ℕ, ◌<◌, List, length, get_or, ap, sym, ◌∙◌}
use Rattle.std.proofs.lemmas.List.{get_or-map, length-map}
use Rattle.st_charts.specs.Passages.{no_passage, passage, passage_of, passages_of}
use Rattle.st_charts.specs.declared.table.Transition.{Transition}

-- a transition that the code reads
pub passage_read : (ts : List Transition) (n : ℕ) (t : Transition) → n < length ts → t ≡ get_or ts n t → passage (passages_of ts) n ≡ passage_of t
passage_read ts n t lt read = get_or-map passage_of ts n t no_passage lt ∙ ap passage_of (sym read)

pub passage_count : (ts : List Transition) → length (passages_of ts) ≡ length ts
passage_count ts = length-map ts passage_of
