use Rattle.std.proofs.Common.{[], take}
use Rattle.std.specs.String.{string_bytes}
use Rattle.st_explain.specs.Messages.{AreTold}
use Rattle.st_explain.proofs.explain.faults_message.Given as goal

abbrev pub invariant-loop-fault : goal.invariant-loop-fault
invariant-loop-fault l = AreTold l.file l.text l.lexed.lexemes.now (take l.fault-index l.faults) [] (string_bytes l.message)
