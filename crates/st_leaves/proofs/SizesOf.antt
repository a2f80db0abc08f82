-- Sizes of lists of leaves.
use Rattle.std.proofs.Common.{◌≡◌, ℕ, ◌+◌, List, [], ◌∷◌, ◌++◌, codes, map, length, refl, ap, sym, ◌∙◌, arith, length-append, subst, append-nil}
use Rattle.std.specs.List.{flat_map}
use Rattle.std.proofs.lemmas.List.{map-append}
use Rattle.st_values.specs.Types.{width_of}
use Rattle.st_values.specs.declared.elem.Elem.{Elem}
use Rattle.st_leaves.specs.Sizes.{IsSize, copies, leaf}
use Rattle.st_leaves.specs.Sizes as sizes
use Rattle.st_leaves.specs.declared.limited.Size.{Size}
use Rattle.st_leaves.specs.Charts.{LeafBelow, below, named}
use Rattle.st_leaves.specs.Limits.{size_of, sizes_of}

-- below a part
pub sizes_below : (text : List ℕ) (leaves : List LeafBelow) → sizes_of (below text leaves) ≡ sizes.below (length text) (sizes_of leaves)
sizes_below text [] = refl
sizes_below text (l ∷ ls) = ap (λ n. leaf n (width_of l.elem) ∷ sizes_of (below text ls)) (length-append text l.path) ∙ ap (λ xs. leaf (length text + length l.path) (width_of l.elem) ∷ xs) (sizes_below text ls)

pub sizes_named : (size : Size) (name : List ℕ) (n : ℕ) (leaves : List LeafBelow) → n ≡ length name + 1 → IsSize size (sizes.below n (sizes_of leaves)) → IsSize size (sizes_of (below (codes "." ++ name) leaves))
sizes_named size name n leaves is h =
    subst (IsSize size) (ap (λ k. sizes.below k (sizes_of leaves)) (omega (arith, is)) ∙ sym (sizes_below (codes "." ++ name) leaves)) h

-- one leaf below a name
pub one_named : (name : List ℕ) (elem : Elem) → below (codes "." ++ name) (record { path = []; elem = elem } ∷ []) ≡ named name elem ∷ []
one_named name elem = ap (λ path. record { path = path; elem = elem } ∷ []) (append-nil (codes "." ++ name))

-- one copy below each of some texts, put between two others
pub sizes_copied : (text : List ℕ → List ℕ) (len : List ℕ → ℕ) → ((t : List ℕ) → length (text t) ≡ len t) → (texts : List (List ℕ)) (leaves : List LeafBelow)
    → sizes_of (flat_map (λ t. below (text t) leaves) texts) ≡ copies (map len texts) (sizes_of leaves)
sizes_copied text len is [] leaves = refl
sizes_copied text len is (t ∷ ts) leaves =
    map-append size_of (below (text t) leaves) (flat_map (λ t. below (text t) leaves) ts)
    ∙ ap (λ xs. xs ++ sizes_of (flat_map (λ t. below (text t) leaves) ts)) (sizes_below (text t) leaves ∙ ap (λ n. sizes.below n (sizes_of leaves)) (is t))
    ∙ ap (λ xs. sizes.below (len t) (sizes_of leaves) ++ xs) (sizes_copied text len is ts leaves)
