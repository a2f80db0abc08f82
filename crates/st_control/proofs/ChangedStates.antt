-- The state that an accepted online change leaves: what it carries, what it leaves in its record, and that it is whole.
use Rattle.std.proofs.Common.{◌≡◌, ◌∙◌, true, List, refl, sym, ap, subst}
use Rattle.std.proofs.lemmas.Bool.{not-false}
use Rattle.std.specs.Prelude.{IfOk, Ok, Result}
use Rattle.st_check.specs.Programs.{ProgramView, leaves_of_program}
use Rattle.st_control.proofs.ChangeSteps.{ChangeAccepts, change_accepts}
use Rattle.st_control.proofs.RaisedRenames.{pairable-raised, pairs-raised}
use Rattle.st_control.specs.Changes.{changed, gives_pairs, pairs_of, raised_renames}
use Rattle.st_control.specs.Controllers.{change_record, record_of}
use Rattle.st_control.specs.Laws.{CarriesByPath, Changes, IsSoundProgram}
use Rattle.st_control.specs.Machine.{Machine, step}
use Rattle.st_control.specs.Machine.Command.{change}
use Rattle.st_control.specs.States.{FitsRecord, IsWhole, StateView, leaves_of, undone}
use Rattle.st_control.specs.declared.record.Record.{Record}
use Rattle.st_control.specs.declared.refusal.Refusal.{Refusal}
use Rattle.st_memory.proofs.ByPath.{fresh_leaf_is_initial, fresh_leaf_is_not_forced, fresh_pulse_follows_step, fresh_step_is_inactive, kept_force_stays, kept_value_stays}
use Rattle.st_memory.proofs.GivenBack.{saved_content_holds, unmoved-moved}
use Rattle.st_memory.proofs.Moving.{moved_content_fits}
use Rattle.st_memory.proofs.OpenForces.{carried_forces_are_open, saved_forces_are_open}
use Rattle.st_layout.proofs.Pairings.{pairs_one_to_one}
use Rattle.std.specs.List.{All}
use Rattle.st_memory.specs.Laws.{IsChange}
use Rattle.st_layout.specs.Layout.{IsOpenAt}
use Rattle.st_memory.specs.Memory.{Content}
use Rattle.st_memory.specs.Moves.{HoldsValues, moved, saved, unmoved}
use Rattle.st_layout.specs.Pairs.{IsPairing, Pairs}
use Rattle.st_layout.specs.declared.renames.Rename.{Rename}

module _ (s : StateView) (renames : List Rename) (program : ProgramView) (pairable : gives_pairs s renames program ≡ true) (whole : IsWhole s) where
  pairing : IsPairing (leaves_of s) (leaves_of_program program) (pairs_of s renames program)
  pairing = pairs_one_to_one (leaves_of s) (leaves_of_program program) renames pairable

  -- the record leads back, whatever the case of the renames in it
  pub change_led_back : undone (changed s renames program) (change_record s (raised_renames renames) program) ≡ s
  change_led_back =
      let content : Pairs → Content = λ pairs. unmoved (leaves_of s) pairs (moved (leaves_of_program program) (pairs_of s renames program) s.content) (saved pairs s.content) in
      let state : Content → StateView = λ content. record { program = s.program; content = content; now = s.now; status = s.status } in
      ap (λ (pairs : Pairs). state (content pairs)) (pairs-raised (leaves_of s) (leaves_of_program program) renames)
      ∙ ap state (unmoved-moved (leaves_of s) (leaves_of_program program) (pairs_of s renames program) pairing s.content whole.fits)

  -- it fits the state after
  pub change_record_fits : FitsRecord (changed s renames program) (change_record s (raised_renames renames) program)
  change_record_fits =
      let given = pairs_of s renames program in
      let raised = pairs_of s (raised_renames renames) program in
      let same : raised ≡ given = pairs-raised (leaves_of s) (leaves_of_program program) renames in
      record {
        pairable = pairable-raised (leaves_of s) (leaves_of_program program) renames ∙ pairable;
        holds = subst (λ (pairs : Pairs). HoldsValues (leaves_of s) pairs.targets (saved pairs s.content).bytes) (sym same)
            (saved_content_holds (leaves_of s) (leaves_of_program program) given pairing s.content whole.fits);
        opens = subst (λ (pairs : Pairs). All (λ leaf. IsOpenAt (leaves_of s) leaf) (saved pairs s.content).forced) (sym same) (saved_forces_are_open (leaves_of s) given s.content whole.forces);
      }

  module _ (sound : IsSoundProgram program) where
    -- the state after is whole
    pub changed_whole : IsWhole (changed s renames program)
    changed_whole = record {
      checked = sound.checked;
      sound = sound.leaves;
      fits = moved_content_fits (leaves_of s) (leaves_of_program program) (pairs_of s renames program) s.content pairing sound.leaves.initial whole.fits;
      forces = carried_forces_are_open (leaves_of s) (leaves_of_program program) (pairs_of s renames program) s.content pairing whole.forces;
      moment = whole.moment;
    }

    is_change : IsChange (leaves_of s) (leaves_of_program program) (pairs_of s renames program) s.content
    is_change = record { old_sound = whole.sound; new_sound = sound.leaves; pairing = pairing; fits = whole.fits }

    -- values and forces go from path to path
    pub carries : CarriesByPath (pairs_of s renames program) s (changed s renames program)
    carries =
        let old = leaves_of s in
        let new = leaves_of_program program in
        let pairs = pairs_of s renames program in
        record {
          value = λ i j is. kept_value_stays old new pairs s.content i j is_change is;
          force = λ i j is. kept_force_stays old new pairs s.content i j is_change is;
          fresh = λ j fresh. fresh_leaf_is_not_forced old new pairs s.content j is_change fresh;
          initial = λ j fresh declared. fresh_leaf_is_initial old new pairs s.content j is_change fresh declared;
          step = λ j begun fresh role begins. fresh_step_is_inactive old new pairs s.content j begun is_change fresh role begins;
          pulse = λ j active begun fresh role. fresh_pulse_follows_step old new pairs s.content j active begun is_change fresh role;
        }

-- what holds of the program that was read
of_read : (read : Result ProgramView Refusal) (program : ProgramView) (P : ProgramView → Type 0) → read ≡ Ok program → IfOk read P → P program
of_read read program P is holds = subst (λ (it : Result ProgramView Refusal). IfOk it P) is holds

-- the renames of an accepted change give pairs
gives : (renames : List Rename) (read : Result ProgramView Refusal) (m next : Machine) (a : ChangeAccepts m next renames read) → gives_pairs m.state renames a.program ≡ true
gives renames read m next a = not-false (gives_pairs m.state renames a.program) a.allowed.1.0

module _ (renames : List Rename) (read : Result ProgramView Refusal) (m next : Machine) where
  pub change_carries : IfOk read IsSoundProgram → IsWhole m.state → step (change renames read) m ≡ Ok next → Changes (change renames read) m.state next.state
  change_carries sound whole accepted =
      let a = change_accepts renames read m next accepted in
      let new_sound = of_read read a.program IsSoundProgram a.read_is sound in
      subst (Changes (change renames read) m.state) a.next_is
      (a.program, a.read_is, record { program = refl; now = refl; status = refl }, carries m.state renames a.program (gives renames read m next a) whole new_sound)

  pub change_whole : IfOk read IsSoundProgram → IsWhole m.state → step (change renames read) m ≡ Ok next → IsWhole next.state
  change_whole sound whole accepted =
      let a = change_accepts renames read m next accepted in
      let new_sound = of_read read a.program IsSoundProgram a.read_is sound in
      subst IsWhole a.next_is (changed_whole m.state renames a.program (gives renames read m next a) whole new_sound)

  -- the record of the program that was read
  record_is : (a : ChangeAccepts m next renames read) → change_record m.state (raised_renames renames) a.program ≡ record_of (change renames read) m.state
  record_is a = subst (λ (it : Result ProgramView Refusal). change_record m.state (raised_renames renames) a.program ≡ record_of (change renames it) m.state) (sym a.read_is) refl

  pub change_undoes : IsWhole m.state → step (change renames read) m ≡ Ok next → undone next.state (record_of (change renames read) m.state) ≡ m.state
  change_undoes whole accepted =
      let a = change_accepts renames read m next accepted in
      subst (λ (s : StateView). undone s (record_of (change renames read) m.state) ≡ m.state) a.next_is
      (subst (λ (left : Record). undone (changed m.state renames a.program) left ≡ m.state) (record_is a)
      (change_led_back m.state renames a.program (gives renames read m next a) whole))

  pub change_fits : IsWhole m.state → step (change renames read) m ≡ Ok next → FitsRecord next.state (record_of (change renames read) m.state)
  change_fits whole accepted =
      let a = change_accepts renames read m next accepted in
      subst (λ (s : StateView). FitsRecord s (record_of (change renames read) m.state)) a.next_is
      (subst (FitsRecord (changed m.state renames a.program)) (record_is a)
      (change_record_fits m.state renames a.program (gives renames read m next a) whole))
