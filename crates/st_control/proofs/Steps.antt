-- Lists of commands, and undos that may be refused.
use Rattle.std.proofs.Common.{ℕ, zero, suc, ◌+◌, ◌≡◌, Bool, true, false, List, [], ◌∷◌, ◌++◌, length, refl, sym, ◌∙◌, ap, arith, append_assoc, length-append}
use Rattle.std.specs.Prelude.{Ok, Err, Result, if◌then◌else◌, not}
use Rattle.std.specs.Result.{result_unwrap_or}
use Rattle.st_check.specs.Programs.{ProgramView}
use Rattle.st_control.specs.Causes.{no_memory}
use Rattle.st_control.specs.Changes.{changed}
use Rattle.st_control.specs.Laws.{GoesThroughStates, IsGivenBack, KeepsLoad, LoadStays}
use Rattle.st_control.specs.Machine.{Cause, Command, Machine, Past, accept, accept_at, accepted_count, after, after_all, after_undo, after_undos, back_from, change_causes, change_step, is_change, is_full, leaf_to_force, leaf_to_release, leaf_to_write, ok_count, passed, state_before, step, undo_step, unless}
use Rattle.st_control.specs.Machine.Command.{change, force, release, write}
use Rattle.st_control.specs.States.{StateView, forced, released, written}
use Rattle.st_control.specs.declared.refusal.Refusal.{Refusal}
use Rattle.st_layout.specs.declared.renames.Rename.{Rename}

-- ---- cases

by_test : (P : Bool → Type 0) (b : Bool) → P true → P false → P b
by_test P true on_true on_false = on_true
by_test P false on_true on_false = on_false

-- a step is accepted with a state, or refused
module _ (m : Machine) (by_change : Bool) (P : Result Machine Refusal → Type 0) (ok : (s : StateView) → P (Ok (accept m by_change s))) (err : (refusal : Refusal) → P (Err refusal)) where
  unless_holds : (causes : List Cause) (s : StateView) → P (unless causes (accept m by_change s))
  unless_holds [] s = ok s
  unless_holds (cause ∷ causes) s = by_test (λ b. P (if b then Err cause.0 else unless causes (accept m by_change s))) cause.1 (err cause.0) (unless_holds causes s)

accept_holds : (m : Machine) (P : Result Machine Refusal → Type 0) (new : ℕ → StateView) (leaf : Result ℕ Refusal)
    → ((s : StateView) → P (Ok (accept m false s))) → ((refusal : Refusal) → P (Err refusal)) → P (accept_at m new leaf)
accept_holds m P new (Ok leaf) ok err = ok (new leaf)
accept_holds m P new (Err refusal) ok err = err refusal

change_holds : (m : Machine) (P : Result Machine Refusal → Type 0) (renames : List Rename) (read : Result ProgramView Refusal)
    → ((s : StateView) → P (Ok (accept m true s))) → ((refusal : Refusal) → P (Err refusal)) → P (change_step renames read m)
change_holds m P renames (Err refusal) ok err = err refusal
change_holds m P renames (Ok program) ok err = unless_holds m true P ok err (change_causes m.state (is_full m) renames program) (changed m.state renames program)

-- what holds where a command is accepted and where it is refused holds of each step
pub step_holds : (command : Command) (m : Machine) (P : Result Machine Refusal → Type 0)
    → ((s : StateView) → P (Ok (accept m (is_change command) s))) → ((refusal : Refusal) → P (Err refusal)) → P (step command m)
step_holds (write path value) m P ok err = accept_holds m P (λ leaf. written m.state leaf value) (leaf_to_write m.state (is_full m) path value) ok err
step_holds (force path value) m P ok err = accept_holds m P (λ leaf. forced m.state leaf value) (leaf_to_force m.state (is_full m) path value) ok err
step_holds (release path) m P ok err = accept_holds m P (λ leaf. released m.state leaf) (leaf_to_release m.state (is_full m) path) ok err
step_holds (change renames read) m P ok err = change_holds m P renames read ok err

-- ---- undos

-- undos that find memory
abbrev plain : ℕ → Machine → Machine
plain zero m = m
plain (suc n) m = plain n (after_undo true m)

plain-+ : (a b : ℕ) (m : Machine) → plain (a + b) m ≡ plain b (plain a m)
plain-+ zero b m = let sum : zero + b ≡ b = omega arith in ap (λ (n : ℕ). plain n m) sum
plain-+ (suc a) b m =
    let sum : suc a + b ≡ suc (a + b) = omega arith in
    ap (λ (n : ℕ). plain n m) sum ∙ plain-+ a b (after_undo true m)

abbrev made : StateView → List Past → List ℕ → ℕ → Machine
made s history main limit = record { state = s; history = history; main = main; limit = limit }

-- an undo does as much as its answer counts
abbrev Counts : Bool → Machine → Type 0
Counts granted m = after_undo granted m ≡ plain (accepted_count (undo_step granted m)) m

over_one : (granted by_change : Bool) (s t : StateView) (pasts : List Past) (main : List ℕ) (limit : ℕ)
    → Counts granted (made s (record { state = t; by_change = by_change } ∷ pasts) main limit)
over_one true by_change s t pasts main limit = refl
over_one false true s t pasts main limit = refl
over_one false false s t pasts main limit = refl

one_undo : (granted : Bool) (s : StateView) (history : List Past) (main : List ℕ) (limit : ℕ) → Counts granted (made s history main limit)
one_undo granted s [] main limit = refl
one_undo granted s (past ∷ pasts) main limit = over_one granted past.by_change s past.state pasts main limit

undos_count : (undos : List Bool) (m : Machine) → after_undos undos m ≡ plain (ok_count undos m) m
undos_count [] m = refl
undos_count (granted ∷ undos) m =
    let next = after_undo granted m in
    undos_count undos next
    ∙ ap (plain (ok_count undos next)) (one_undo granted m.state m.history m.main m.limit)
    ∙ sym (plain-+ (accepted_count (undo_step granted m)) (ok_count undos next) m)

-- ---- the machine is given back

-- where a command was accepted an undo that finds memory gives the machine back, and else nothing is to be undone
one_back : (command : Command) (m : Machine) → plain (length (state_before (step command m) command m.state)) (after command m) ≡ m
one_back command m =
    step_holds command m (λ answer. plain (length (state_before answer command m.state)) (result_unwrap_or answer m) ≡ m) (λ s. refl) (λ refusal. refl)

plain_back : (commands : List Command) (m : Machine) → plain (length (passed commands m)) (after_all commands m) ≡ m
plain_back [] m = refl
plain_back (command ∷ commands) m =
    let next = after command m in
    let last = after_all commands next in
    let later = passed commands next in
    let first = state_before (step command m) command m.state in
    ap (λ (n : ℕ). plain n last) (length-append later first)
    ∙ plain-+ (length later) (length first) last
    ∙ ap (plain (length first)) (plain_back commands next)
    ∙ one_back command m

pub given_back : IsGivenBack
given_back commands undos m counts =
    let last = after_all commands m in
    undos_count undos last ∙ ap (λ (n : ℕ). plain n last) counts ∙ plain_back commands m

history_after : (command : Command) (m : Machine) → (after command m).history ≡ state_before (step command m) command m.state ++ m.history
history_after command m =
    step_holds command m (λ answer. (result_unwrap_or answer m).history ≡ state_before answer command m.state ++ m.history) (λ s. refl) (λ refusal. refl)

pub in_order : GoesThroughStates
in_order [] m = refl
in_order (command ∷ commands) m =
    in_order commands (after command m)
    ∙ ap (λ (states : List Past). passed commands (after command m) ++ states) (history_after command m)
    ∙ sym (append_assoc (passed commands (after command m)) (state_before (step command m) command m.state) m.history)

-- ---- what was loaded stays

stays : (m : Machine) → KeepsLoad m m
stays m = record { main = refl; limit = refl }

stays_after : (m next last : Machine) → KeepsLoad m next → KeepsLoad next last → KeepsLoad m last
stays_after m next last first later = record { main = later.main ∙ first.main; limit = later.limit ∙ first.limit }

command_stays : (command : Command) (m : Machine) → KeepsLoad m (after command m)
command_stays command m = step_holds command m (λ answer. KeepsLoad m (result_unwrap_or answer m)) (λ s. record { main = refl; limit = refl }) (λ refusal. stays m)

undo_stays : (granted : Bool) (m : Machine) (pasts : List Past) → KeepsLoad m (result_unwrap_or (back_from granted m pasts) m)
undo_stays granted m [] = stays m
undo_stays true m (past ∷ pasts) = record { main = refl; limit = refl }
undo_stays false m (past ∷ pasts) =
    by_test (λ b. KeepsLoad m (result_unwrap_or (if not b then Ok (made past.state pasts m.main m.limit) else Err no_memory) m)) past.by_change
    (stays m) (record { main = refl; limit = refl })

undos_stay : (undos : List Bool) (m : Machine) → KeepsLoad m (after_undos undos m)
undos_stay [] m = stays m
undos_stay (granted ∷ more) m =
    stays_after m (after_undo granted m) (after_undos more (after_undo granted m)) (undo_stays granted m m.history) (undos_stay more (after_undo granted m))

commands_stay : (commands : List Command) (m : Machine) → KeepsLoad m (after_all commands m)
commands_stay [] m = stays m
commands_stay (command ∷ commands) m =
    stays_after m (after command m) (after_all commands (after command m)) (command_stays command m) (commands_stay commands (after command m))

pub load_stays : LoadStays
load_stays commands undos m =
    stays_after m (after_all commands m) (after_undos undos (after_all commands m)) (commands_stay commands m) (undos_stay undos (after_all commands m))
