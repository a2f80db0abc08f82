use Rattle.std.proofs.Common.{◌≡◌, IfOk, OnOk, Ok, Err, Result, sym, ◌∙◌, ap, subst}
use Rattle.std.specs.List.{All}
use Rattle.std.specs.declared.alloc.AllocError.{AllocError}
use Rattle.st_tree.specs.declared.leaf.Leaf.{Leaf}
use Rattle.std.proofs.Common.{List}
use Rattle.st_layout.specs.Layout.{IsOpenAt}
use Rattle.st_memory.specs.Memory.{Content, ForcesAreOpen}
use Rattle.st_memory.specs.Moves.{HoldsValues, moved, saved, unmoved}
use Rattle.st_layout.specs.Pairs.{Pairs}
use Rattle.st_memory.specs.declared.saved.Saved.{Saved}
use Rattle.st_memory.proofs.GivenBack.{saved_content_holds, unmoved-moved}
use Rattle.st_memory.proofs.OpenForces.{carried_forces_are_open, saved_forces_are_open}
use Rattle.st_memory.proofs.memory.carry_over.Goals as goal

-- what holds of the one value that a result can have
of_value : (result : Result Saved AllocError) (P : Saved → Type 0) (value : Saved) → P value → IfOk result (λ dropped. dropped ≡ value) → IfOk result P
of_value (Ok dropped) P value holds same = subst P (sym same) holds
of_value (Err e) P value holds same = tt

of_content : (result : Result Saved AllocError) (P : Content → Type 0) (after carried : Content) → P carried → OnOk result (after ≡ carried) → OnOk result (P after)
of_content (Ok dropped) P after carried holds same = subst P (sym same) holds
of_content (Err e) P after carried holds same = tt

both : (result : Result Saved AllocError) (old : List Leaf) (pairs : Pairs) (before after carried : Content) → OnOk result (after ≡ carried) → IfOk result (λ dropped. unmoved old pairs carried dropped ≡ before) → IfOk result (λ dropped. unmoved old pairs after dropped ≡ before)
both (Ok dropped) old pairs before after carried same back = ap (λ (content : Content). unmoved old pairs content dropped) same ∙ back
both (Err e) old pairs before after carried same back = tt

pub returns-clause-back : goal.returns-clause-back
returns-clause-back g c =
    let before : Content = g.M.Memory.content c.args.old.now c.args.memory.now in
    let fits = g.met.M.Memory.fits c.args.old.now c.args.memory.now c.requires.over in
    let law = unmoved-moved c.args.old.now c.args.new.now c.args.plan.now c.requires.plan before fits in
    both c.carry.result c.args.old.now c.args.plan.now before (g.M.Memory.content c.args.new.now c.carry.new.self) (moved c.args.new.now c.args.plan.now before) c.carry.ensures.moved
    (of_value c.carry.result (λ dropped. unmoved c.args.old.now c.args.plan.now (moved c.args.new.now c.args.plan.now before) dropped ≡ before) (saved c.args.plan.now before) law c.carry.ensures.saved)

pub returns-clause-holds : goal.returns-clause-holds
returns-clause-holds g c =
    let before : Content = g.M.Memory.content c.args.old.now c.args.memory.now in
    let fits = g.met.M.Memory.fits c.args.old.now c.args.memory.now c.requires.over in
    of_value c.carry.result (λ dropped. HoldsValues c.args.old.now c.args.plan.now.targets dropped.bytes) (saved c.args.plan.now before)
    (saved_content_holds c.args.old.now c.args.new.now c.args.plan.now c.requires.plan before fits) c.carry.ensures.saved

pub returns-clause-open : goal.returns-clause-open
returns-clause-open g c = λ open_before.
    let before : Content = g.M.Memory.content c.args.old.now c.args.memory.now in
    of_content c.carry.result (λ content. ForcesAreOpen c.args.new.now content.forced) (g.M.Memory.content c.args.new.now c.carry.new.self) (moved c.args.new.now c.args.plan.now before)
    (carried_forces_are_open c.args.old.now c.args.new.now c.args.plan.now before c.requires.plan open_before) c.carry.ensures.moved

pub returns-clause-open_saved : goal.returns-clause-open_saved
returns-clause-open_saved g c = λ open_before.
    let before : Content = g.M.Memory.content c.args.old.now c.args.memory.now in
    of_value c.carry.result (λ dropped. All (IsOpenAt c.args.old.now) dropped.forced) (saved c.args.plan.now before)
    (saved_forces_are_open c.args.old.now c.args.plan.now before open_before) c.carry.ensures.saved
