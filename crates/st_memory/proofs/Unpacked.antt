-- One leaf more of the bytes that are given back.
use Rattle.std.proofs.Common.{ℕ, ◌≡◌, ◌+◌, ◌<◌, ◌≤◌, List, [], ◌∷◌, ◌++◌, length, drop, Option, Some, None, refl, sym, ◌∙◌, ap, arith, append_assoc, length-drop}
use Rattle.std.proofs.lemmas.List.{append-nil, drop-drop, drop_all, drop_more}
use Rattle.st_values.specs.Types.{width_of}
use Rattle.st_values.specs.Values.{IsValue}
use Rattle.st_values.specs.declared.elem.Elem.{Elem}
use Rattle.st_values.specs.declared.value.Value.{Value}
use Rattle.st_tree.specs.declared.leaf.Leaf.{Leaf}
use Rattle.st_memory.specs.Bytes.{read_bytes, value_bytes}
use Rattle.st_layout.specs.Layout.{leaf_at, no_leaf}
use Rattle.st_memory.specs.Memory.{value_at}
use Rattle.st_memory.specs.Moves.{HoldsValues, unmoved_values}
use Rattle.st_memory.specs.Packed.{encoded}
use Rattle.st_layout.specs.Pairs.{number_at}

-- the bytes of the first i leaves are given back, and the saved ones of the others begin at `start`
pub record IsUnpacked (old : List Leaf) (targets : List (Option ℕ)) (values : List Value) (saved : List ℕ) (i start : ℕ) (bytes : List ℕ) : Type 0 where
  pub within : start ≤ length saved
  pub holds : HoldsValues (drop i old) (drop i targets) (drop start saved)
  pub before : bytes ++ encoded (unmoved_values values (drop i old) (drop i targets) (drop start saved)) ≡ encoded (unmoved_values values old targets saved)

module _ (old : List Leaf) (targets : List (Option ℕ)) (values : List Value) (saved : List ℕ) where
  pub unpacked_none : HoldsValues old targets saved → IsUnpacked old targets values saved 0 0 []
  unpacked_none holds = record { within = omega arith; holds = holds; before = refl }

  pub unpacked_all : (i start : ℕ) (bytes : List ℕ) → IsUnpacked old targets values saved i start bytes → length old ≤ i → bytes ≡ encoded (unmoved_values values old targets saved)
  unpacked_all i start bytes so_far all =
      let none : drop i old ≡ [] = drop_all i old all in
      sym (append-nil bytes) ∙ (ap (λ (leaves : List Leaf). bytes ++ encoded (unmoved_values values leaves (drop i targets) (drop start saved))) (sym none) ∙ so_far.before)

module _ (old : List Leaf) (targets : List (Option ℕ)) (values : List Value) (saved : List ℕ) (i start : ℕ) (bytes : List ℕ) (below : i < length old) (within : i < length targets) (so_far : IsUnpacked old targets values saved i start bytes) where
  -- there are bytes of a value for a leaf that was dropped
  pub unpacked_room : number_at targets i ≡ None → (width_of (leaf_at old i).elem ≤ length (drop start saved)) × IsValue (read_bytes (leaf_at old i).elem (drop start saved))
  unpacked_room is =
      let first : drop i old ≡ leaf_at old i ∷ drop (i + 1) old = drop_more old i no_leaf below in
      let target : drop i targets ≡ None ∷ drop (i + 1) targets = drop_more targets i None within ∙ ap (λ (t : Option ℕ). t ∷ drop (i + 1) targets) is in
      let all = rw (first, target) at so_far.holds in
      (all.0, all.1)

  -- one more, of a leaf that was kept
  pub unpacked_kept : (next j : ℕ) (more : List ℕ) → number_at targets i ≡ Some j → next ≡ start → more ≡ bytes ++ value_bytes (value_at values j)
      → IsUnpacked old targets values saved (i + 1) next more
  unpacked_kept next j more is same pushed =
      let first : drop i old ≡ leaf_at old i ∷ drop (i + 1) old = drop_more old i no_leaf below in
      let target : drop i targets ≡ Some j ∷ drop (i + 1) targets = drop_more targets i None within ∙ ap (λ (t : Option ℕ). t ∷ drop (i + 1) targets) is in
      let holds : HoldsValues (drop (i + 1) old) (drop (i + 1) targets) (drop start saved) = rw (first, target) at so_far.holds in
      let rest : List Value = unmoved_values values (drop (i + 1) old) (drop (i + 1) targets) (drop start saved) in
      let one : unmoved_values values (drop i old) (drop i targets) (drop start saved) ≡ value_at values j ∷ rest = rw (first, target) refl in
      record {
        within = omega (arith, same, so_far.within);
        holds = rw same holds;
        before = rw (same, pushed) (append_assoc bytes (value_bytes (value_at values j)) (encoded rest) ∙ (ap (λ (them : List Value). bytes ++ encoded them) (sym one) ∙ so_far.before));
      }

  -- one more, of a leaf that was dropped
  pub unpacked_dropped : (next width : ℕ) (elem : Elem) (value : Value) (more : List ℕ) → number_at targets i ≡ None → elem ≡ (leaf_at old i).elem → width ≡ width_of elem → next ≡ start + width
      → value ≡ read_bytes elem (drop start saved) → more ≡ bytes ++ value_bytes value → IsUnpacked old targets values saved (i + 1) next more
  unpacked_dropped next width elem value more is typed wide moved told pushed =
      let leaf : Leaf = leaf_at old i in
      let first : drop i old ≡ leaf ∷ drop (i + 1) old = drop_more old i no_leaf below in
      let target : drop i targets ≡ None ∷ drop (i + 1) targets = drop_more targets i None within ∙ ap (λ (t : Option ℕ). t ∷ drop (i + 1) targets) is in
      let all = rw (first, target) at so_far.holds in
      let at_next : next ≡ start + width_of leaf.elem = moved ∙ ap (λ (n : ℕ). start + n) (wide ∙ ap width_of typed) in
      let left : drop (width_of leaf.elem) (drop start saved) ≡ drop next saved = drop-drop (width_of leaf.elem) start saved ∙ ap (λ (n : ℕ). drop n saved) (sym at_next) in
      let rest : List Value = unmoved_values values (drop (i + 1) old) (drop (i + 1) targets) (drop next saved) in
      let one : unmoved_values values (drop i old) (drop i targets) (drop start saved) ≡ read_bytes leaf.elem (drop start saved) ∷ rest =
      rw (first, target) (ap (λ (them : List ℕ). read_bytes leaf.elem (drop start saved) ∷ unmoved_values values (drop (i + 1) old) (drop (i + 1) targets) them) left) in
      let here : value ≡ read_bytes leaf.elem (drop start saved) = told ∙ ap (λ (e : Elem). read_bytes e (drop start saved)) typed in
      record {
        within = omega (arith, at_next, all.0, length-drop start saved, so_far.within);
        holds = rw left at all.2;
        before = rw (pushed, here) (append_assoc bytes (value_bytes (read_bytes leaf.elem (drop start saved))) (encoded rest) ∙ (ap (λ (them : List Value). bytes ++ encoded them) (sym one) ∙ so_far.before));
      }
