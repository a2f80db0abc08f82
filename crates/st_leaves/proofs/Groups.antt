-- Lists in groups: what is in one group begins with the same element.
use Rattle.std.proofs.Common.{List, [], ◌∷◌, map}
use Rattle.std.specs.List.{AllByRecursion as Each, flat_map}
use Rattle.st_leaves.proofs.Pairs.{Between, Pairwise, between_append, between_none, each_any, each_map, pairwise_append, pairwise_map, pairwise_weaker}

-- an element before each of these lists
abbrev pub behind : {S : Type 0} → S → List (List S) → List (List S)
behind s ps = map (λ p. s ∷ p) ps

-- all groups, one after the other
abbrev pub grouped : {S : Type 0} → List (S × List (List S)) → List (List S)
grouped gs = flat_map (λ g. behind g.0 g.1) gs

-- R of the first elements or Q of the rests gives Q of the whole
module _ {S : Type 0} (R : S → S → Type 0) (Q : List S → List S → Type 0) (heads : (s t : S) (p q : List S) → R s t → Q (s ∷ p) (t ∷ q)) (tails : (s : S) (p q : List S) → Q p q → Q (s ∷ p) (s ∷ q)) where
  between_behind : (s t : S) (ps qs : List (List S)) → R s t → Between Q (behind s ps) (behind t qs)
  between_behind s t ps qs apart =
      each_map (λ p. Each (Q p) (behind t qs)) (λ p. s ∷ p) ps
      (each_any (λ p. Each (Q (s ∷ p)) (behind t qs)) ps (λ p. each_map (Q (s ∷ p)) (λ q. t ∷ q) qs (each_any (λ q. Q (s ∷ p) (t ∷ q)) qs (λ q. heads s t p q apart))))

  between_groups : (s : S) (ps : List (List S)) (gs : List (S × List (List S))) → Each (λ g. R s g.0) gs → Between Q (behind s ps) (grouped gs)
  between_groups s ps [] apart = between_none Q (behind s ps)
  between_groups s ps (g ∷ gs) apart = between_append Q (behind s ps) (behind g.0 g.1) (grouped gs) (between_behind s g.0 ps g.1 apart.0) (between_groups s ps gs apart.1)

  -- groups that begin apart, each with lists that are apart
  pub groups_apart : (gs : List (S × List (List S))) → Pairwise (λ g h. R g.0 h.0) gs → Each (λ g. Pairwise Q g.1) gs → Pairwise Q (grouped gs)
  groups_apart [] apart inside = tt
  groups_apart (g ∷ gs) apart inside =
      pairwise_append Q (behind g.0 g.1) (grouped gs)
      (pairwise_map Q (λ p. g.0 ∷ p) g.1 (pairwise_weaker Q (λ p q. Q (g.0 ∷ p) (g.0 ∷ q)) g.1 (tails g.0) inside.0))
      (groups_apart gs apart.1 inside.1) (between_groups g.0 g.1 gs apart.0)
