-- What an online change that is accepted makes of a machine.
use Rattle.std.proofs.Common.{◌≡◌, ◌∙◌, Bool, true, false, not, ℕ, List, [], ◌∷◌, inl, inr, refl, ap, subst, sym}
use Rattle.std.specs.Prelude.{◌⊎◌, Err, IfOk, Ok, Result, cond}
use Rattle.st_check.specs.Programs.{ProgramView, leaves_of_program, text_of}
use Rattle.st_control.proofs.Causes.{NoneHolds, unless_allows, unless_gives}
use Rattle.st_control.proofs.Histories.{kept, machine_of-kept}
use Rattle.st_control.proofs.RaisedRenames.{pairable-raised, pairs-raised}
use Rattle.st_control.proofs.Texts.{memory_refuses}
use Rattle.st_control.specs.Causes.{no_active_step, no_memory, not_paired, undo_full}
use Rattle.st_control.specs.Changes.{changed, counts_of, counts_of_pairs, loses_active_step, raised_renames}
use Rattle.st_control.specs.Controllers.{ControllerView, GoesOver, Takes, TakesChange, is_of_change, machine_of}
use Rattle.st_control.specs.Machine.{Cause, Machine, accept, change_causes, change_step, is_full, step, unless}
use Rattle.st_control.specs.Machine.Command.{change}
use Rattle.st_control.specs.States.{StateView, leaves_of, undone}
use Rattle.st_control.specs.Texts.{IsProgramOf, Reads}
use Rattle.st_control.specs.declared.changing.Counts.{Counts}
use Rattle.st_control.specs.declared.record.Record.{Record}
use Rattle.st_control.specs.declared.refusal.Refusal.{Refusal}
use Rattle.st_memory.specs.Moves.{moved}
use Rattle.st_layout.specs.Pairs.{Pairs, is_pairable, pairs_between}
use Rattle.st_layout.specs.declared.renames.Rename.{Rename}

-- an accepted online change has a program, and none of its causes holds
pub record ChangeAccepts (m next : Machine) (renames : List Rename) (read : Result ProgramView Refusal) : Type 0 where
  pub program : ProgramView
  pub read_is : read ≡ Ok program
  pub allowed : NoneHolds (change_causes m.state (is_full m) renames program)
  pub next_is : changed m.state renames program ≡ next.state

pub change_accepts : (renames : List Rename) (read : Result ProgramView Refusal) (m next : Machine) → step (change renames read) m ≡ Ok next → ChangeAccepts m next renames read
change_accepts renames (Err refusal) m next accepted = absurd (cc)
change_accepts renames (Ok program) m next accepted =
    let causes = change_causes m.state (is_full m) renames program in
    let new = accept m true (changed m.state renames program) in
    record {
      program = program;
      read_is = refl;
      allowed = unless_allows causes new next accepted;
      next_is = ap (λ (n : Machine). n.state) (unless_gives causes new next accepted);
    }

-- ---- what the calls of a change do

-- a cause that holds refuses whatever is made
same_refusal : {A B : Type 0} (causes : List Cause) (made : A) (other : B) (refusal : Refusal) → unless causes made ≡ Err refusal → unless causes other ≡ Err refusal
same_refusal [] made other refusal is = absurd (cc)
same_refusal (cause ∷ causes) made other refusal is =
    elim cause.1 as (λ b. cond b (Err cause.0) (unless causes made) ≡ Err refusal → cond b (Err cause.0) (unless causes other) ≡ Err refusal)
    [ true ↦ λ refused. ap Err (let same : cause.0 ≡ refusal = cc in same) | false ↦ λ passes. same_refusal causes made other refusal passes ] is

-- and where none does all is made
all_made : {A B : Type 0} (causes : List Cause) (made done : A) (other : B) → unless causes made ≡ Ok done → unless causes other ≡ Ok other
all_made [] made done other is = refl
all_made (cause ∷ causes) made done other is =
    elim cause.1 as (λ b. cond b (Err cause.0) (unless causes made) ≡ Ok done → cond b (Err cause.0) (unless causes other) ≡ Ok other)
    [ true ↦ λ refused. absurd (cc) | false ↦ λ passes. all_made causes made done other passes ] is

-- for want of memory, or by a cause, all stays
pub goes_over_refused : {A : Type 0} (c : ControllerView) (program : ProgramView) (renames : List Rename) (full : Bool) (refusal : Refusal)
    → is_full (machine_of c) ≡ full → (refusal ≡ no_memory) ⊎ (unless {A = Unit {0}} (change_causes c.state full renames program) tt ≡ Err refusal)
    → GoesOver {A = A} program renames c (Err refusal) c
goes_over_refused c program renames full refusal full_is (inl memory) = (Err no_memory, inr refl, (ap Err memory, refl))
goes_over_refused c program renames full refusal full_is (inr caused) =
    let new = accept (machine_of c) true (changed c.state renames program) in
    let refused = same_refusal (change_causes c.state full renames program) tt new refusal caused in
    (Ok program, inl refl, rw (full_is, refused) (refl, refl))

pub goes_over_never : {A : Type 0} (c after : ControllerView) (program : ProgramView) (renames : List Rename) → after ≡ c → GoesOver {A = A} program renames c (Err no_memory) after
goes_over_never c after program renames same = (Err no_memory, inr refl, (refl, same))

-- the changed state, and a record that leads back from it, make an accepted change
pub goes_over_done : {A : Type 0} (c : ControllerView) (program : ProgramView) (renames : List Rename) (full : Bool) (s : StateView) (left : Record) (made : A)
    → is_full (machine_of c) ≡ full → unless {A = Unit {0}} (change_causes c.state full renames program) tt ≡ Ok tt
    → s ≡ changed c.state renames program → undone s left ≡ c.state → is_of_change left ≡ true
    → GoesOver {A = A} program renames c (Ok made) (kept c s left)
goes_over_done c program renames full s left made full_is allowed is back of_change =
    let new = accept (machine_of c) true (changed c.state renames program) in
    let accepted = all_made (change_causes c.state full renames program) tt tt new allowed in (
      Ok program,
      inl refl,
      rw (full_is, accepted)
          (refl, machine_of-kept c s left back ∙ (ap (λ (by_change : Bool). accept (machine_of c) by_change s) of_change ∙ ap (accept (machine_of c) true) is)),
    )

-- ---- renames in upper case

-- the step of a change, by the pairs that its renames give, if they give any
abbrev by_pairs : Machine → ProgramView → Pairs → Bool → Result Machine Refusal
by_pairs m program pairs pairable =
    unless
    ((undo_full, is_full m)
    ∷ (not_paired, not pairable)
    ∷ (no_active_step, loses_active_step (leaves_of m.state) pairs.targets m.state.content.values)
    ∷ [])
    (accept m true (record { program = program; content = moved (leaves_of_program program) pairs m.state.content; now = m.state.now; status = m.state.status }))

step-raised : (renames : List Rename) (read : Result ProgramView Refusal) (m : Machine) → change_step (raised_renames renames) read m ≡ change_step renames read m
step-raised renames (Err refusal) m = refl
step-raised renames (Ok program) m =
    let old = leaves_of m.state in
    let new = leaves_of_program program in
    ap (λ (pairs : Pairs). by_pairs m program pairs (is_pairable old new (raised_renames renames))) (pairs-raised old new renames)
    ∙ ap (by_pairs m program (pairs_between old new renames)) (pairable-raised old new renames)

counts-raised : (s : StateView) (renames : List Rename) (program : ProgramView) → counts_of s (raised_renames renames) program ≡ counts_of s renames program
counts-raised s renames program = ap counts_of_pairs (pairs-raised (leaves_of s) (leaves_of_program program) renames)

pub same_counts : {E : Type 0} (result : Result Counts E) (s : StateView) (renames given : List Rename) (program : ProgramView) → given ≡ raised_renames renames
    → IfOk result (λ counts. counts ≡ counts_of s given program) → IfOk result (λ counts. counts ≡ counts_of s renames program)
same_counts (Ok counts) s renames given program same is = is ∙ (ap (λ (it : List Rename). counts_of s it program) same ∙ counts-raised s renames program)
same_counts (Err e) s renames given program same is = tt

-- what is read is the program, or there is no memory
reads_either : (text main : List ℕ) (program : ProgramView) (read : Result ProgramView Refusal) → IsProgramOf text main program
    → (read ≡ Ok program) ⊎ (read ≡ Err no_memory) → Reads text main read
reads_either text main program read is (inl same) = subst (Reads text main) (sym same) is
reads_either text main program read is (inr memory) = subst (Reads text main) (sym memory) (memory_refuses text main (text_of program) is.accepted)

-- a change to the program that a text is, whose renames were put in upper case
pub takes_change : {A : Type 0} (text : List ℕ) (program : ProgramView) (renames : List Rename) (old new : ControllerView) (result : Result A Refusal)
    → IsProgramOf text old.main program → GoesOver program (raised_renames renames) old result new → TakesChange text renames old result new
takes_change text program renames old new result is (read, either, takes) =
    (read, reads_either text old.main program read is either, subst (λ (answer : Result Machine Refusal). Takes answer old result new) (step-raised renames read (machine_of old)) takes)
