-- What a command takes that was given one more subcommand.
use Rattle.std.proofs.Common.{◌≡◌, ◌∙◌, ap}
use Rattle.std.specs.Prelude.{Err, IfOk, IsOkAnd, Ok, Result}
use Rattle.std.specs.declared.alloc.AllocError.{AllocError}
use Rattle.clap.specs.Words.{App, app_of, with_subcommand}
use Rattle.clap.specs.declared.builder.command.Command.{Command}

-- a command that was given what was made
pub extended : (made : Result Command AllocError) (new : Command) (was old sub : App) → was ≡ old → IfOk made (λ it. app_of it ≡ sub)
    → IsOkAnd made (λ it. app_of new ≡ with_subcommand was (app_of it).top) → app_of new ≡ with_subcommand old sub.top
extended (Err e) new was old sub same is grown = elim grown [ ]
extended (Ok it) new was old sub same is grown = grown ∙ ap (λ app. with_subcommand app (app_of it).top) same ∙ ap (λ app. with_subcommand old app.top) is

-- the same where it may have been refused
pub if_extended : (made result : Result Command AllocError) (was old sub : App) → was ≡ old → IfOk made (λ it. app_of it ≡ sub)
    → IfOk result (λ new. IsOkAnd made (λ it. app_of new ≡ with_subcommand was (app_of it).top)) → IfOk result (λ new. app_of new ≡ with_subcommand old sub.top)
if_extended made (Err e) was old sub same is grown = tt
if_extended made (Ok new) was old sub same is grown = extended made new was old sub same is grown
