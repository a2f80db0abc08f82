-- What the bytes and the marks of a packed memory say.
use Rattle.std.specs.Prelude.{ℕ, suc, ◌≡◌, ◌+◌, ◌/◌, ◌%◌, ◌==◌, Bool, nat_lt, List, [], ◌∷◌, map, length, drop, get_or, refl}
use Rattle.std.proofs.Common.{ap}
use Rattle.std.proofs.lemmas.List.FromFn.{length-map-range_with_len}
use Rattle.std.specs.Int.{bit_at}
use Rattle.std.specs.List.{flat_map, list_any, range_with_len}
use Rattle.st_values.specs.Types.{width_of}
use Rattle.st_values.specs.declared.value.Value.{Value}
use Rattle.st_tree.specs.declared.leaf.Leaf.{Leaf}
use Rattle.st_memory.specs.Bytes.{read_bytes, value_bytes}
use Rattle.st_layout.specs.Layout.{leaf_at, offset_of, total_width}
use Rattle.st_memory.specs.declared.packed.rows.Row.{Row}
use Rattle.st_memory.specs.Memory.{AreValues, Content, Fits}

-- the values that stand in bytes, one after another
abbrev pub decoded : List Leaf → List ℕ → List Value
decoded [] bytes = []
decoded (leaf ∷ leaves) bytes = read_bytes leaf.elem bytes ∷ decoded leaves (drop (width_of leaf.elem) bytes)

-- the bytes of values, one after another
abbrev pub encoded : List Value → List ℕ
encoded values = flat_map value_bytes values

-- whether the leaf of this number is marked: a byte has the marks of eight leaves, the first of them lowest
unfoldable pub mark_at : List ℕ → ℕ → Bool
mark_at marks i = bit_at (get_or marks (i / 8) 0) (i % 8) == 1

-- the marks of so many leaves
abbrev pub marked : ℕ → List ℕ → List Bool
marked count marks = map (mark_at marks) (range_with_len 0 count)

-- how many bytes the marks of so many leaves take
abbrev pub mark_bytes : ℕ → ℕ
mark_bytes count = (count + 7) / 8

-- what bytes and marks say
abbrev pub content_in : List Leaf → List ℕ → List ℕ → Content
content_in leaves bytes marks = record { values = decoded leaves bytes; forced = marked (length leaves) marks }

-- The bytes are those of one value of each leaf's type, one after another, so that a BOOL is 0 or 1.
pub record IsHeld (leaves : List Leaf) (bytes : List ℕ) : Type 0 where
  pub types : AreValues leaves (decoded leaves bytes)
  pub exact : encoded (decoded leaves bytes) ≡ bytes
  pub count : length bytes ≡ total_width leaves

-- The bytes hold the leaves' values, and there are marks for all leaves.
pub record IsPacked (leaves : List Leaf) (bytes marks : List ℕ) : Type 0 where
  pub held : IsHeld leaves bytes
  pub count : length marks ≡ mark_bytes (length leaves)

-- where the value of a leaf lies, and its type
abbrev pub row_of : List Leaf → ℕ → Row
row_of leaves i = record { offset = offset_of leaves i; elem = (leaf_at leaves i).elem }

-- the rows of all leaves
abbrev pub rows_of : List Leaf → List Row
rows_of leaves = map (row_of leaves) (range_with_len 0 (length leaves))

-- whether any mark is set
abbrev pub has_mark : List ℕ → Bool
has_mark marks = list_any (λ byte. nat_lt 0 byte) marks

-- The bytes and marks are those of the leaves, and so are the rows; and it is known whether any leaf is forced.
pub record IsWhole (leaves : List Leaf) (bytes marks : List ℕ) (rows : List Row) (is_forced : Bool) : Type 0 where
  pub packed : IsPacked leaves bytes marks
  pub rows' : rows ≡ rows_of leaves
  pub forced' : is_forced ≡ has_mark marks

pub length-decoded : (leaves : List Leaf) (bytes : List ℕ) → length (decoded leaves bytes) ≡ length leaves
length-decoded [] bytes = refl
length-decoded (leaf ∷ leaves) bytes = ap suc (length-decoded leaves (drop (width_of leaf.elem) bytes))

-- What they say fits the layout.
pub packed_fits : (leaves : List Leaf) (bytes marks : List ℕ) → IsPacked leaves bytes marks → Fits leaves (content_in leaves bytes marks)
packed_fits leaves bytes marks packed = record {
  types = packed.held.types;
  values = length-decoded leaves bytes;
  forced = length-map-range_with_len (mark_at marks) 0 (length leaves);
}
