-- Sound statements call none but functions, and where all that they call pass a test, none but those functions that pass it.
use Rattle.std.specs.Prelude.{if◌then◌else◌, None}
use Rattle.st_types.specs.Compositions.{Composition}
use Rattle.st_meaning.specs.CalledBy.{BodyCalls, CalledTest, CommandsCall}
use Rattle.st_meaning.specs.Sound.{AreSoundCommands, IsSoundBody}
use Rattle.st_meaning.specs.Terms.{Body, Commands}
use Rattle.st_meaning.specs.Wholes.{Functions}

-- the functions that pass the test
abbrev pub passing : CalledTest → Functions → Functions
passing test functions unit = if test unit then functions unit else None

abbrev pub SoundCommandsCallWhatPasses : Type 0
SoundCommandsCallWhatPasses = (functions : Functions) (test : CalledTest) (root : Composition) (cs : Commands) → AreSoundCommands functions root cs → CommandsCall test cs
    → AreSoundCommands (passing test functions) root cs

-- and so do sound bodies
abbrev pub SoundBodiesCallWhatPasses : Type 0
SoundBodiesCallWhatPasses = (functions : Functions) (test : CalledTest) (root : Composition) (body : Body) → IsSoundBody functions root body → BodyCalls test body
    → IsSoundBody (passing test functions) root body
