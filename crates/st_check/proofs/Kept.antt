-- What is kept of the faults of the units.
use Rattle.std.proofs.Common.{◌≡◌, ℕ, List, [], ◌∷◌, Option, Some, None, refl, ap, sym, ◌∙◌, subst, arith, IsSome, append-nil}
use Rattle.std.specs.List.{Contains}
use Rattle.std.specs.Prelude.{MatchOption}
use Rattle.st_faults.specs.Faults.{First, none_from, offer_all}
use Rattle.st_faults.specs.declared.fault.Fault.{Fault}
use Rattle.st_faults.proofs.Least.{first_kept_from, none_kept_from}
use Rattle.st_tree.specs.declared.tree.unit.Unit.{Unit as Section}
use Rattle.st_types.specs.Names.{units_of}
use Rattle.st_references.specs.Graphs.{AreCyclic, Graph, IsOrder, Reaches}
use Rattle.st_references.specs.References.{graph_of}
use Rattle.st_check_units.specs.Units.{node_faults}
use Rattle.st_check.specs.Faults.{IsUnitFault, listed}
use Rattle.st_check.specs.Programs.{IsOrdered}
use Rattle.st_check.specs.Recursions.{HasNoneFrom, HasUnitFault, IsFirstOfUnits, IsFirstOfUnitsFrom, OffersUnitFaults, recursions}
use Rattle.st_check.proofs.Cyclic.{AreAllCyclic, all_faults, all_offered, are_unit_faults, cyclic_are_all}

-- ---- what is offered

-- where no unit reaches itself
pub offers_ordered : (text : List Section) (graph : Graph) (old new : First) → new ≡ offer_all old (node_faults (units_of text)) → graph ≡ graph_of (units_of text)
    → ((a : ℕ) → Reaches graph a a → ⊥) → OffersUnitFaults text old new
offers_ordered text graph old new e is none =
    (all_faults text [], are_unit_faults text [] no_cycle, e ∙ ap (offer_all old) (sym (append-nil (node_faults (units_of text))))) where
      no_cycle : AreAllCyclic text []
      no_cycle a = ((λ h. absurd (omega (arith, h.1))), (λ h. absurd (none a (subst (λ g. Reaches g a a) (sym is) h))))

-- where these do
pub offers_cyclic : (text : List Section) (graph : Graph) (numbers read : List ℕ) (old mid new : First) → mid ≡ offer_all old (node_faults (units_of text))
    → new ≡ offer_all mid (recursions (units_of text) read) → read ≡ numbers → graph ≡ graph_of (units_of text) → AreCyclic graph numbers → OffersUnitFaults text old new
offers_cyclic text graph numbers read old mid new a b same is cyclic = (
  all_faults text numbers,
  are_unit_faults text numbers (cyclic_are_all text numbers (subst (λ g. AreCyclic g numbers) is cyclic)),
  all_offered text numbers old mid new a (b ∙ ap (λ ns. offer_all mid (recursions (units_of text) ns)) same),
)

-- ---- what is kept of it

module _ (text : List Section) (start : ℕ) (new : First) (w : OffersUnitFaults text (none_from start) new) where
  kept : (offer_all (none_from start) w.0).kept ≡ new.kept
  kept = ap (λ (k : First). k.kept) (sym w.2)

  pub first_from : (f : Fault) → new.kept ≡ Some f → IsFirstOfUnitsFrom start text f
  first_from f is =
      let k = first_kept_from start w.0 f (kept ∙ is) in record {
        there = w.1.are f k.there;
        behind = k.behind;
        first = λ g h le. k.first g (w.1.all g h) le;
      }

  pub none_from_there : new.kept ≡ None → HasNoneFrom start text
  none_from_there is f h le = none_kept_from start w.0 f (kept ∙ is) (w.1.all f h) le

  pub kept_from : (o : Option Fault) → o ≡ new.kept → MatchOption o (HasNoneFrom start text) (IsFirstOfUnitsFrom start text)
  kept_from None e = none_from_there (sym e)
  kept_from (Some f) e = first_from f (sym e)

first_of : {A : Type 0} (xs : List A) → ((x : A) → Contains xs x → ⊥) → xs ≡ []
first_of [] none = refl
first_of (x ∷ xs) none = absurd (none x (0, omega arith, refl))

module _ (text : List Section) (new : First) (w : OffersUnitFaults text (none_from 0) new) where
  pub first_of_units : (f : Fault) → new.kept ≡ Some f → IsFirstOfUnits text f
  first_of_units f is = let k = first_from text 0 new w f is in record { there = k.there; first = λ g h. k.first g h (omega arith) }

  pub has_none : new.kept ≡ None → (f : Fault) → IsUnitFault text f → ⊥
  has_none is f h = none_from_there text 0 new w is f h (omega arith)

  pub passes : (order : List ℕ) → new.kept ≡ None → IsOrder (graph_of (units_of text)) order → IsOrdered text order
  passes order is o = record {
    faultless = first_of (node_faults (units_of text)) (λ f h. has_none is f (listed h));
    ordered = o;
  }

  -- so there is an order
  pub has_order : {A : Type 0} (o : Option A) (P : A → Type 0) → new.kept ≡ None → MatchOption o (HasUnitFault text) P → IsSome o
  has_order None P is h = absurd (has_none is h.0 h.1)
  has_order (Some x) P is h = refl
