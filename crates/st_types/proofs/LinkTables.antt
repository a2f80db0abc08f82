-- The links of all units.
use Rattle.std.proofs.Common.{◌≡◌, ℕ, ◌+◌, ◌<◌, ◌≤◌, List, [], ◌∷◌, ◌++◌, length, Option, sym, ◌∙◌, ap, arith, below_more, inl, inr}
use Rattle.std.specs.List.{All}
use Rattle.std.proofs.lemmas.Bool.{cases_lt}
use Rattle.std.proofs.lemmas.Grind.{common_steps}
use Rattle.std.proofs.lemmas.List.{get_or_past}
use Rattle.std.proofs.lemmas.List.Elements.{All-push}
use Rattle.st_types.specs.Links.{LeadsBelow, link_at, optional_link}
use Rattle.st_types.specs.Names.{Named, unit_at}
use Rattle.st_types.specs.declared.base.Base.TheVariants as bases
use Rattle.st_types.specs.declared.link.Link.{Link}
use Rattle.st_types.specs.declared.link.Link.TheVariants as links
use Rattle.st_types.proofs.Units.{unit_at-past}

module _ (names : List (List ℕ)) (units : List Named) where
  -- the links of the first units, in order
  pub record HasLinks (n : ℕ) (all : List Link) : Type 0 where
    pub len : length all ≡ n
    pub links : (i : ℕ) → i < n → link_at all i ≡ optional_link names i (unit_at units i)
    pub closed : All (LeadsBelow (length names)) all

  -- one more
  pub HasLinks-more : (n : ℕ) (all more : List Link) (link : Link) (unit : Option Named) → HasLinks n all → more ≡ all ++ link ∷ [] → unit_at units n ≡ unit → link ≡ optional_link names n unit → LeadsBelow (length names) link → HasLinks (n + 1) more
  HasLinks-more n all more link unit has is at same leads = record {
    len = rw is (grind (arith, common_steps, has.len));
    links = below_more (λ i. link_at more i ≡ optional_link names i (unit_at units i)) n
        (λ i below. rw is (grind (arith, common_steps, has.links i below, has.len)))
        (rw (is, at) (grind (arith, common_steps, has.len)));
    closed = rw is (All-push (LeadsBelow (length names)) all link has.closed leads);
  }

  -- all
  pub HasLinks-all : (n : ℕ) (all : List Link) → HasLinks n all → length units ≤ n → (i : ℕ) → link_at all i ≡ optional_link names i (unit_at units i)
  HasLinks-all n all has whole i = elim (cases_lt i n) as (λ _. link_at all i ≡ optional_link names i (unit_at units i)) [
    | inl below ↦ has.links i below
    | inr past ↦ get_or_past all i (links.Known bases.Unknown) (omega (arith, past, has.len)) ∙ sym (ap (optional_link names i) (unit_at-past units i (omega (arith, past, whole))))
  ]
