-- Units by number, and what stands for them in lists for all units.
use Rattle.std.proofs.Common.{◌≡◌, ℕ, zero, suc, ◌+◌, ◌<◌, List, [], ◌∷◌, ◌++◌, Option, Some, None, length, map, take, get_or, refl, ap, sym, ◌∙◌, option_map}
use Rattle.std.specs.Option.{option_map_or}
use Rattle.std.proofs.lemmas.List.{map-append, take_more}
use Rattle.st_scopes.specs.Declarations.{names_at, names_in}
use Rattle.st_types.specs.Names.{Named, unit_at}
use Rattle.st_types.proofs.Units.{there}

the_unit : Named → Option Named → Named
the_unit other None = other
the_unit other (Some u) = u

-- two units that are found under one number are one
pub same_unit : (a b : Named) → Some a ≡ Some b → a ≡ b
unfolding the_unit
same_unit a b is = ap (the_unit a) is

pub names_of_unit : (units : List Named) (i : ℕ) (u : Named) → unit_at units i ≡ Some u → names_at units i ≡ names_in u.declares
names_of_unit units i u at = ap (λ o. option_map_or names_in (option_map (λ u. u.declares) o) []) at

-- what stands for a unit, in a list for all units
pub unit_read : {X Y : Type 0} (f : X → Y) (g : Named → Y) (units : List Named) (all : List X) (i : ℕ) (u : Named) (d : X) → unit_at units i ≡ Some u → map f all ≡ map g units → f (get_or all i d) ≡ g u
unit_read f g [] all i u d at are = absurd (cc)
unit_read f g (v ∷ us) [] i u d at are = absurd (cc)
unit_read f g (v ∷ us) (x ∷ xs) zero u d at are =
    let here : f x ≡ g v = cc in
    let same : v ≡ u = cc in
    here ∙ ap g same
unit_read f g (v ∷ us) (x ∷ xs) (suc n) u d at are =
    let rest : map f xs ≡ map g us = cc in
    unit_read f g us xs n u d at rest

pub unit_item : {Y : Type 0} (g : Named → Y) (units : List Named) (all : List Y) (i : ℕ) (u : Named) (d : Y) → unit_at units i ≡ Some u → all ≡ map g units → get_or all i d ≡ g u
unit_item g units all i u d at are = ap (λ ys. get_or ys i d) are ∙ by units i at where
  by : (us : List Named) (n : ℕ) → unit_at us n ≡ Some u → get_or (map g us) n d ≡ g u
  by [] n at = absurd (cc)
  by (v ∷ us) zero at = ap g (same_unit v u at)
  by (v ∷ us) (suc n) at = by us n at

-- one unit more
pub units_more : {Y : Type 0} (g : Named → Y) (units : List Named) (all new : List Y) (i : ℕ) (y : Y) → i < length units → all ≡ map g (take i units) → new ≡ all ++ y ∷ []
    → ((u : Named) → unit_at units i ≡ Some u → y ≡ g u) → new ≡ map g (take (i + 1) units)
units_more g units all new i y within so_far new_is each =
    let found = there units i within in
    let u = found.0 in
    let stands : get_or units i u ≡ u = unit_read (λ v. v) (λ v. v) units units i u u found.1 refl in
    new_is ∙ ap (λ ys. ys ++ y ∷ []) so_far ∙ ap (λ z. map g (take i units) ++ z ∷ []) (each u found.1)
    ∙ sym (map-append g (take i units) (u ∷ [])) ∙ ap (λ v. map g (take i units ++ v ∷ [])) (sym stands) ∙ ap (map g) (sym (take_more units i u within))
