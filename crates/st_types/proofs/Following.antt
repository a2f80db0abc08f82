-- Types at the ends of links.
use Rattle.std.proofs.Common.{◌≡◌, ℕ, zero, suc, ◌<◌, ◌≤◌, List, [], ◌∷◌, ◌++◌, refl, sym, ◌∙◌, ap, subst, arith}
use Rattle.std.specs.List.{Contains}
use Rattle.st_types.specs.Links.{follow, link_at, link_within, through}
use Rattle.st_types.specs.Types.{array_of, without_instance}
use Rattle.st_types.specs.Walks.{AreLinked, LeadsTo, first_on}
use Rattle.st_types.specs.declared.base.Base.{Base}
use Rattle.st_types.specs.declared.base.Base.TheVariants as bases
use Rattle.st_types.specs.declared.link.Link.{Link}
use Rattle.st_types.specs.declared.link.Link.TheVariants as links

-- a link is followed through the unit to which it leads
follow_through : (type_at : ℕ → Base) (i j : ℕ) (link : Link) → LeadsTo link j → follow type_at i link ≡ through link i (type_at j)
follow_through type_at i j (links.Known base) leads = absurd leads
follow_through type_at i j (links.SameAs k) leads = ap (λ (u : ℕ). without_instance (type_at u)) leads
follow_through type_at i j (links.ArrayOf k) leads = ap (λ (u : ℕ). array_of i (type_at u)) leads

-- what isn't known stays so
through_unknown : (i j : ℕ) (link : Link) → LeadsTo link j → through link i bases.Unknown ≡ bases.Unknown
through_unknown i j (links.Known base) leads = absurd leads
through_unknown i j (links.SameAs k) leads = refl
through_unknown i j (links.ArrayOf k) leads = refl

module _ (all : List Link) where
  -- one link more
  pub within-leads : (n i j : ℕ) → LeadsTo (link_at all i) j → link_within all (suc n) i ≡ through (link_at all i) i (link_within all n j)
  unfolding link_within
  within-leads n i j leads = follow_through (link_within all n) i j (link_at all i) leads

  pub within-known : (n i : ℕ) (base : Base) → link_at all i ≡ links.Known base → link_within all (suc n) i ≡ base
  unfolding link_within
  within-known n i base is = ap (follow (link_within all n) i) is

  within-none : (i : ℕ) → link_within all zero i ≡ bases.Unknown
  unfolding link_within
  within-none i = refl

  -- a chain of links, of at least one
  pub data Leads : ℕ → ℕ → Type 0 where
    direct : (i j : ℕ) → LeadsTo (link_at all i) j → Leads i j
    onward : (i j k : ℕ) → LeadsTo (link_at all i) j → Leads j k → Leads i k

  -- what leads to a unit that isn't known isn't known
  unknown_before : (n i j : ℕ) → Leads i j → ((m : ℕ) → m < n → link_within all m j ≡ bases.Unknown) → link_within all n i ≡ bases.Unknown
  unknown_before zero i j chain unknown = within-none i
  unknown_before (suc n) i j (direct a b leads) unknown =
      within-leads n a b leads ∙ (ap (through (link_at all a) a) (unknown n (omega arith)) ∙ through_unknown a b (link_at all a) leads)
  unknown_before (suc n) i j (onward a b c leads chain) unknown =
      within-leads n a b leads ∙ (ap (through (link_at all a) a) (unknown_before n b c chain (λ m below. unknown m (omega (arith, below)))) ∙ through_unknown a b (link_at all a) leads)

  -- a unit that leads to itself isn't known
  pub returns_unknown : (i : ℕ) → Leads i i → (n : ℕ) → link_within all n i ≡ bases.Unknown
  returns_unknown i chain n = below n n (omega arith)
    where
      below : (m n : ℕ) → n ≤ m → link_within all n i ≡ bases.Unknown
      below zero n le = unknown_before n i i chain (λ m before. absurd (omega (arith, before, le)))
      below (suc m) n le = unknown_before n i i chain (λ k before. below m k (omega (arith, before, le)))

  -- ---- paths

  -- the first unit of a path leads to its end
  along : (path : List ℕ) (i end : ℕ) → AreLinked all (i ∷ path) end → Leads i end
  along [] i end linked = direct i end linked.0
  along (j ∷ path) i end linked = onward i j end linked.0 (along path j end linked.1)

  -- each does
  pub reaches : (path : List ℕ) (i end : ℕ) → AreLinked all path end → Contains path i → Leads i end
  reaches [] i end linked (k, below, at) = absurd (omega (arith, below))
  reaches (j ∷ path) i end linked (zero, below, at) = subst (λ (u : ℕ). Leads u end) at (along path j end linked)
  reaches (j ∷ path) i end linked (suc k, below, at) = reaches path i end linked.1 (k, omega (arith, below), at)

  first_on-push : (path : List ℕ) (i end : ℕ) → first_on (path ++ i ∷ []) end ≡ first_on path i
  first_on-push [] i end = refl
  first_on-push (j ∷ path) i end = refl

  pub linked-push : (path : List ℕ) (i end : ℕ) → AreLinked all path i → LeadsTo (link_at all i) end → AreLinked all (path ++ i ∷ []) end
  linked-push [] i end linked leads = (leads, tt)
  linked-push (j ∷ path) i end linked leads = (subst (LeadsTo (link_at all j)) (sym (first_on-push path i end)) linked.0, linked-push path i end linked.1 leads)

  pub linked-pop : (path : List ℕ) (i end : ℕ) → AreLinked all (path ++ i ∷ []) end → AreLinked all path i × LeadsTo (link_at all i) end
  linked-pop [] i end linked = (tt, linked.0)
  linked-pop (j ∷ path) i end linked =
      let rest = linked-pop path i end linked.1 in
      ((subst (LeadsTo (link_at all j)) (first_on-push path i end) linked.0, rest.0), rest.1)
