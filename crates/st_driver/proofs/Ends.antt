-- What the program's words give: an order has a limit, and an error that explains them ends the program by one of their
-- faults.
use Rattle.std.proofs.Common.{◌≡◌, ◌≢◌, ℕ, List, [], ◌∷◌, inl, inr, refl, subst}
use Rattle.std.specs.Prelude.{◌⊎◌, Option, Some, None}
use Rattle.clap.specs.Words.{HasKind, IsAmong, Kinds, Row, Text, kind_of}
use Rattle.clap.specs.declared.error.Error.{Error}
use Rattle.clap.specs.declared.error.kind.ErrorKind.TheVariants as error_kinds
use Rattle.st_driver.specs.Statuses.{EndsBy, EndsByOneOf}
use Rattle.st_words.specs.Words.{HasLimit, IsOrder, limit_of}
use Rattle.st_words.specs.declared.words.Order.{Order}

pub order_has_limit : (order : Order) (met : Option (Text × List Row)) → IsOrder order met → HasLimit (limit_of met)
order_has_limit order None is = absurd is
order_has_limit order (Some m) is = (order.steps, is.3)

pub ends_by_fault : (faults : Kinds) (e : Error) (status : ℕ) → HasKind faults e ⊎ ((faults ≡ []) × (kind_of e ≡ error_kinds.ValueValidation))
    → EndsBy (kind_of e) status → faults ≢ [] → EndsByOneOf faults status
ends_by_fault faults e status (inl (inl memory)) ends some = inl (subst (λ k. EndsBy k status) memory ends)
ends_by_fault faults e status (inl (inr among)) ends some = inr (kind_of e, among, ends)
ends_by_fault faults e status (inr p) ends some = absurd (some p.0)

pub ends_by_limit : (faults : Kinds) (e : Error) (status : ℕ) → HasKind faults e ⊎ ((faults ≡ []) × (kind_of e ≡ error_kinds.ValueValidation))
    → EndsBy (kind_of e) status → faults ≡ [] → EndsByOneOf (error_kinds.ValueValidation ∷ []) status
ends_by_limit faults e status (inl (inl memory)) ends none = inl (subst (λ k. EndsBy k status) memory ends)
ends_by_limit faults e status (inl (inr among)) ends none = absurd (subst (λ fs. IsAmong (kind_of e) fs) none among)
ends_by_limit faults e status (inr p) ends none = inr (error_kinds.ValueValidation, inl refl, subst (λ k. EndsBy k status) p.1 ends)
