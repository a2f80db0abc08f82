-- Forced leaves are open, whatever is written, forced, released and undone.
use Rattle.std.proofs.Common.{ℕ, ◌≡◌, Bool, false, inl, inr, List, set, subst, sym, ◌∙◌}
use Rattle.std.proofs.lemmas.Bool.Decides.{eqb_tells}
use Rattle.std.proofs.lemmas.List.{get_or-set_other}
use Rattle.st_layout.specs.Layout.{IsOpenAt}
use Rattle.std.specs.List.{All}
use Rattle.std.specs.Prelude.{Err, Ok, OnOk, Result}
use Rattle.std.specs.declared.alloc.AllocError.{AllocError}
use Rattle.st_memory.proofs.OpenForces.{returned_forces_are_open}
use Rattle.st_memory.specs.Memory.{Content, ForcesAreOpen}
use Rattle.st_memory.specs.Moves.{unmoved}
use Rattle.st_layout.specs.Pairs.{IsPairing, Pairs}
use Rattle.st_memory.specs.declared.saved.Saved.{Saved}
use Rattle.st_tree.specs.declared.leaf.Leaf.{Leaf}

-- an open leaf may be forced or let go
pub mark_keeps_open : (leaves : List Leaf) (forced : List Bool) (leaf : ℕ) (on : Bool) → ForcesAreOpen leaves forced → IsOpenAt leaves leaf → ForcesAreOpen leaves (set forced leaf on)
mark_keeps_open leaves forced leaf on all here other is_forced =
    elim (eqb_tells other leaf) [ inl same ↦ subst (λ it. IsOpenAt leaves it) (sym same.1) here | inr apart ↦ all other (sym (get_or-set_other forced leaf other on false apart.1) ∙ is_forced) ]

-- what was moved back is forced only where an operator may force it
pub opens_back : (result : Result (Unit {0}) AllocError) (old new : List Leaf) (pairs : Pairs) (content after : Content) (saved : Saved)
    → IsPairing old new pairs → All (λ leaf. IsOpenAt old leaf) saved.forced → OnOk result (after ≡ unmoved old pairs content saved)
    → ForcesAreOpen new content.forced → OnOk result (ForcesAreOpen old after.forced)
opens_back (Ok done) old new pairs content after saved pairing opens moved before =
    subst (λ (it : Content). ForcesAreOpen old it.forced) (sym moved) (returned_forces_are_open old new pairs content saved pairing before opens)
opens_back (Err e) old new pairs content after saved pairing opens moved before = tt
