-- What contracts see of a name: its bytes.
use Rattle.std.specs.Prelude.{ℕ, ◌≡◌, ◌≤◌, ◌-◌, List, ◌++◌, length, take, drop, replicate}
use Rattle.std.proofs.Common.{◌∙◌, ap, arith}
use Rattle.std.proofs.lemmas.List.{length-take-le, take-append-drop}
use Rattle.st_tree.specs.declared.name.Name.TheInside.{Inside}

abbrev pub bytes_of : Inside → List ℕ
bytes_of name = take name.len name.bytes

-- the places after the name hold zeros, so that a name has one form
abbrev pub IsName : Inside → Type 0
IsName name = (name.len ≤ 128) × (length name.bytes ≡ 128) × (drop name.len name.bytes ≡ replicate (128 - name.len) 0)

abbrev pub fields_of : List ℕ → Inside
fields_of bytes = record { bytes = bytes ++ replicate (128 - length bytes) 0; len = length bytes }

abbrev pub inside : List ℕ → ℕ → Inside
inside bytes len = record { bytes = bytes; len = len }

-- the bytes of a name give its fields
pub fields_of-bytes_of : (name : Inside) → IsName name → fields_of (bytes_of name) ≡ name
fields_of-bytes_of name is_name =
    let len : length (bytes_of name) ≡ name.len = length-take-le name.len name.bytes (omega (arith, is_name.0, is_name.1)) in
    let bytes : bytes_of name ++ replicate (128 - name.len) 0 ≡ name.bytes = rw (← is_name.2) (take-append-drop name.len name.bytes) in
    ap (λ (n : ℕ). inside (bytes_of name ++ replicate (128 - n) 0) n) len ∙ ap (λ (bs : List ℕ). inside bs name.len) bytes
