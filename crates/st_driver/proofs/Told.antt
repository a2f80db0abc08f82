-- What is told of a result.
use Rattle.std.specs.Prelude.{ℕ, List, Option, Result, Ok, Err, IfOk}
use Rattle.st_session.specs.Loads.{Loaded}
use Rattle.st_session.specs.Runs.{HasStatus, WritesAll}

-- what follows of each value follows of a result
pub of_result : {T E : Type 0} {P Q : T → Type 0} (result : Result T E) → ((x : T) → P x → Q x) → IfOk result P → IfOk result Q
of_result (Ok x) follows holds = follows x holds
of_result (Err error) follows holds = tt

-- the status of what was written
pub writes_status : (bytes : List ℕ) (status : ℕ) (before now : Option (List ℕ)) (loaded : Loaded) → WritesAll bytes status before now loaded → HasStatus bytes status loaded
writes_status bytes status before now (Ok c) all = (all.0, all.1, all.2)
writes_status bytes status before now (Err refusal) all = all.0
