-- A body ends, or stops at a fault: no EXIT and no RETURN leads out of it.
use Rattle.std.proofs.Common.{◌≡◌, ℕ, Bool, true, false, if◌then◌else◌, List, drop, get_or, refl}
use Rattle.st_types.specs.Compositions.{Composition}
use Rattle.st_meaning.specs.Meaning.{Calls, Values}
use Rattle.st_meaning.specs.Operations.{Answer, gives, stops}
use Rattle.st_meaning.specs.Statements.{Outcome, Setting, done, exited, returned, faulted, actions_meaning, body_meaning, commands_meaning, ended, given, then_do}
use Rattle.st_meaning.specs.Terms.{Actions, no_actions, more_actions, Body, plain_body, chart_body}

ended_twice : (o : Outcome) → ended (ended o) ≡ ended o
ended_twice (done values n) = refl
ended_twice (exited values n) = refl
ended_twice (returned values n) = refl
ended_twice (faulted f) = refl

either_ended : (b : Bool) (o : Outcome) (values : Values) (left : ℕ) → ended (if b then ended o else done values left) ≡ (if b then ended o else done values left)
either_ended true o values left = ended_twice o
either_ended false o values left = refl

then_ended : (o : Outcome) (go : Values → ℕ → Outcome) → ended o ≡ o → ((values : Values) (n : ℕ) → ended (go values n) ≡ go values n) → ended (then_do o go) ≡ then_do o go
then_ended (done values n) go e h = h values n
then_ended (exited values n) go e h = e
then_ended (returned values n) go e h = e
then_ended (faulted f) go e h = refl

given_ended : {A : Type 0} (a : Answer A) (go : A → ℕ → Outcome) → ((x : A) (n : ℕ) → ended (go x n) ≡ go x n) → ended (given a go) ≡ given a go
given_ended (gives x n) go h = h x n
given_ended (stops f) go h = refl

module _ (calls : Calls) (root : Composition) (setting : Setting) where
  actions_ended : (as' : Actions) (on : List Bool) (values : Values) (left : ℕ) → ended (actions_meaning calls root setting as' on values left) ≡ actions_meaning calls root setting as' on values left
  actions_ended no_actions on values left = refl
  actions_ended (more_actions cs more) on values left =
      let o = commands_meaning calls root setting cs values left in
      then_ended (if get_or on 0 false then ended o else done values left) (actions_meaning calls root setting more (drop 1 on)) (either_ended (get_or on 0 false) o values left)
      (λ others n. actions_ended more (drop 1 on) others n)

  pub body_ended : (body : Body) (values : Values) (left : ℕ) → ended (body_meaning calls root setting body values left) ≡ body_meaning calls root setting body values left
  body_ended (plain_body cs) values left = ended_twice (commands_meaning calls root setting cs values left)
  body_ended (chart_body unit sketch tests actions) values left = given_ended _ _ (λ conditions n. actions_ended actions _ _ n)
