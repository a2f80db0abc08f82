use Rattle.std.proofs.Common.{[], pos, rules, w64}
use Rattle.std.proofs.lemmas.Int.{to_z-of_z}
use Rattle.st_instructions.specs.Moves.{environment_at}
use Rattle.st_instructions.proofs.local.perform.Goals as goal

pub returns-in-Push-clause-does : goal.returns-in-Push-clause-does
returns-in-Push-clause-does c = λ line place. rw c.in-Push.is (rw (to_z-of_z w64 c.in-Push.number (search rules)) at (c.push.ensures.does (environment_at (pos 0) []) line place c.args.variables.now c.args.left.now))

pub returns-in-Index-clause-does : goal.returns-in-Index-clause-does
returns-in-Index-clause-does c = λ line place. rw c.in-Index.is (rw (to_z-of_z w64 c.in-Index.low (search rules)) at (c.index.ensures.does (environment_at (pos 0) []) line place c.args.variables.now c.args.left.now))

pub returns-in-IndexBelow-clause-does : goal.returns-in-IndexBelow-clause-does
returns-in-IndexBelow-clause-does c = λ line place. rw c.in-IndexBelow.is (rw (to_z-of_z w64 c.in-IndexBelow.low (search rules)) at (c.index_below.ensures.does (environment_at (pos 0) []) line place c.args.variables.now c.args.left.now))

pub returns-in-Add-clause-does : goal.returns-in-Add-clause-does
returns-in-Add-clause-does c = λ line place. rw c.in-Add.is (c.add.ensures.does (environment_at (pos 0) []) line place c.args.variables.now c.args.left.now)

pub returns-in-Apply-clause-does : goal.returns-in-Apply-clause-does
returns-in-Apply-clause-does c = λ line place. rw c.in-Apply.is (c.apply.ensures.does (environment_at (pos 0) []) line place c.args.variables.now c.args.left.now)

pub returns-in-Combine-clause-does : goal.returns-in-Combine-clause-does
returns-in-Combine-clause-does c = λ line place. rw c.in-Combine.is (c.combine.ensures.does (environment_at (pos 0) []) line place c.args.variables.now c.args.left.now)

pub returns-in-Select-clause-does : goal.returns-in-Select-clause-does
returns-in-Select-clause-does c = λ line place. rw c.in-Select.is (c.select.ensures.does (environment_at (pos 0) []) line place c.args.variables.now c.args.left.now)

pub returns-in-SkipUnless-clause-does : goal.returns-in-SkipUnless-clause-does
returns-in-SkipUnless-clause-does c = λ line place. rw c.in-SkipUnless.is (c.skip_unless.ensures.does (environment_at (pos 0) []) line place c.args.variables.now c.args.left.now)

pub returns-in-SkipIf-clause-does : goal.returns-in-SkipIf-clause-does
returns-in-SkipIf-clause-does c = λ line place. rw c.in-SkipIf.is (c.skip_if.ensures.does (environment_at (pos 0) []) line place c.args.variables.now c.args.left.now)

pub returns-in-Within-clause-does : goal.returns-in-Within-clause-does
returns-in-Within-clause-does c = λ line place. rw c.in-Within.is (c.within.ensures.does (environment_at (pos 0) []) line place c.args.variables.now c.args.left.now)

pub returns-in-Drop-clause-does : goal.returns-in-Drop-clause-does
returns-in-Drop-clause-does c = λ line place. rw c.in-Drop.is (c.drop_one.ensures.does (environment_at (pos 0) []) line place c.args.variables.now c.args.left.now)

pub returns-in-Leave-clause-does : goal.returns-in-Leave-clause-does
returns-in-Leave-clause-does c = λ line place. rw c.in-Leave.is (c.leave.ensures.does (environment_at (pos 0) []) line place c.args.variables.now c.args.left.now)

pub returns-in-Step-clause-does : goal.returns-in-Step-clause-does
returns-in-Step-clause-does c = λ line place. rw c.in-Step.is (c.step.ensures (environment_at (pos 0) []) c.args.stack.now.1 line place c.args.stack.now.0 c.args.variables.now)

pub returns-in-GoBack-clause-does : goal.returns-in-GoBack-clause-does
returns-in-GoBack-clause-does c = λ line place. rw c.in-GoBack.is (c.go_back.ensures (environment_at (pos 0) []) c.args.stack.now.1 line place c.args.stack.now.0 c.args.variables.now)

pub returns-in-Get-clause-does : goal.returns-in-Get-clause-does
returns-in-Get-clause-does c = λ line place. rw c.in-Get.is (c.get.ensures.does (pos 0) line place c.args.left.now)

pub returns-in-GetAt-clause-does : goal.returns-in-GetAt-clause-does
returns-in-GetAt-clause-does c = λ line place. rw c.in-GetAt.is (c.get_at.ensures.does (pos 0) line place c.args.left.now)

pub returns-in-Pick-clause-does : goal.returns-in-Pick-clause-does
returns-in-Pick-clause-does c = λ line place. rw c.in-Pick.is (c.pick.ensures.does (environment_at (pos 0) []) line place c.args.variables.now c.args.left.now)

pub returns-in-Invoke-clause-does : goal.returns-in-Invoke-clause-does
returns-in-Invoke-clause-does c = λ line place. rw c.in-Invoke.is (c.invoke.ensures.does c.args.stack.now.1 line place c.args.left.now c.args.stack.now.0)

pub returns-in-Cut-clause-does : goal.returns-in-Cut-clause-does
returns-in-Cut-clause-does c = λ line place. rw c.in-Cut.is (c.cut.ensures.does (environment_at (pos 0) []) line place c.args.variables.now c.args.left.now)
