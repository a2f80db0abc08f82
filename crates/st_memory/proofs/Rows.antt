-- The rows of leaves.
use Rattle.std.proofs.Common.{◌≡◌, ◌∙◌, ℕ, ◌<◌, List, ap, arith, length, slice_index_or}
use Rattle.std.proofs.lemmas.List.FromFn.{get_or-map-range_with_len, length-map-range_with_len}
use Rattle.st_values.specs.declared.elem.Elem.TheVariants as elems
use Rattle.st_tree.specs.declared.leaf.Leaf.{Leaf}
use Rattle.st_memory.specs.Packed.{row_of, rows_of}
use Rattle.st_memory.specs.declared.packed.rows.Row.{Row}

pub rows_length : (leaves : List Leaf) (rows : List Row) → rows ≡ rows_of leaves → length rows ≡ length leaves
rows_length leaves rows are = ap (λ (them : List Row). length them) are ∙ length-map-range_with_len (row_of leaves) 0 (length leaves)

pub row_is : (leaves : List Leaf) (rows : List Row) (i : ℕ) → rows ≡ rows_of leaves → i < length leaves
    → slice_index_or rows i (record { offset = 0; elem = elems.Bool }) ≡ row_of leaves i
row_is leaves rows i are below =
    ap (λ (them : List Row). slice_index_or them i (record { offset = 0; elem = elems.Bool })) are
    ∙ get_or-map-range_with_len (row_of leaves) 0 (length leaves) i i (record { offset = 0; elem = elems.Bool }) below (omega arith)
