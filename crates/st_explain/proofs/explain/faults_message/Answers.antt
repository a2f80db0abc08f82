use Rattle.std.proofs.Common.{sym, subst, refl, []}
use Rattle.std.specs.String.{string_bytes}
use Rattle.std.proofs.lemmas.List.{take_all}
use Rattle.st_faults.specs.declared.fault.Rule.TheVariants.{UnknownName}
use Rattle.st_explain.specs.Messages.{AreTold, none}
use Rattle.st_explain.proofs.Told.{told_more}
use Rattle.st_explain.proofs.Telling.{tells_faults}
use Rattle.st_explain.proofs.explain.faults_message.Goals as goal

pub loop-fault-init : goal.loop-fault-init
loop-fault-init c = subst (AreTold c.args.file.now c.args.text.now c.deref.result.now [] []) (sym c.new-message.ensures.bytes) none

pub loop-fault-preserved : goal.loop-fault-preserved
loop-fault-preserved c =
    told_more c.args.file.now c.args.text.now c.deref.result.now c.args.faults.now c.loop-fault.fault-index
    (record { position = record { number = 0; line = 0 }; rule = UnknownName }) [] (string_bytes c.loop-fault.message) (string_bytes c.push_fault.new.message)
    c.loop-fault-test.true c.loop-fault.invariant c.in_ok-push_fault.ensures

pub returns : goal.returns
returns c = λ ts d. tells_faults c.args.file.now c.args.text.now c.args.faults.now ts c.in_ok-lexemes.lexemes.items c.deref.result.now [] (string_bytes c.loop-fault.message)
    (c.in_ok-lexemes.ensures.tokens ts d) c.deref.ensures.value refl
    (subst (λ fs. AreTold c.args.file.now c.args.text.now c.deref.result.now fs [] (string_bytes c.loop-fault.message))
    (take_all c.loop-fault.fault-index c.args.faults.now c.loop-fault-test.false) c.loop-fault.invariant)
