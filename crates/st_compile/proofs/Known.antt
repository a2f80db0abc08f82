-- What is known of units and of code: laws of the crates below.
use Rattle.st_compile.specs.Checked.{CheckedCallsAreThoseOfTheirBodies, CheckedFunctionsCallBelow, CheckedFunctionsHaveNoInstances}
use Rattle.st_compile.specs.Passing.{SoundBodiesCallWhatPasses}
use Rattle.st_check.specs.Laws.{CheckedIsSmall}
use Rattle.st_code.specs.CalledFunctions.{CodeCallsFunctions}
use Rattle.st_code.specs.Charts.{CodeIsOfItsChart}
use Rattle.st_code.specs.Correct.{CodeDoesAsCommandsMean, DepthIsAtMostTheLength}
use Rattle.st_code.specs.Entrances.{CodeEntersWhatIsInvoked, TypingEntersInstances}
use Rattle.st_code.specs.Invocations.{TypingInvokesBodies}
use Rattle.st_meaning.specs.Laws.{BodiesKeepTheFrame, CallsAreSound, TypingGivesSoundUnits}
use Rattle.st_places.specs.Laws.{InstancesAreOfBlocks, UnitsAreSound}

pub record Known : Type 0 where
  pub small : CheckedIsSmall
  pub units : UnitsAreSound
  pub instances : InstancesAreOfBlocks
  pub typed : TypingGivesSoundUnits
  pub frame : BodiesKeepTheFrame
  pub does : CodeDoesAsCommandsMean
  pub depth : DepthIsAtMostTheLength
  pub invokes : TypingInvokesBodies
  pub entering : TypingEntersInstances
  pub enters : CodeEntersWhatIsInvoked
  pub calling : CodeCallsFunctions
  pub charts : CodeIsOfItsChart
  pub passing : SoundBodiesCallWhatPasses
  pub below : CheckedFunctionsCallBelow
  pub plain : CheckedFunctionsHaveNoInstances
  pub gives : CheckedCallsAreThoseOfTheirBodies
  pub calls : CallsAreSound
