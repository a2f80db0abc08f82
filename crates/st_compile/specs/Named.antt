-- Which functions statements call: those that are named in them (2.5.1, 3.3.1).
use Rattle.std.specs.Prelude.{◌≡◌, ℕ, IsTrue, List, [], ◌∷◌, None, Some}
use Rattle.std.specs.List.{flat_map}
use Rattle.st_tree.specs.declared.tree.statement.Statement.{Statement}
use Rattle.st_types.specs.Standard.{standard_of}
use Rattle.st_references.specs.Calls.{statement_calls}
use Rattle.st_meaning.specs.CalledBy.{BodyCalls, CalledTest, CommandsCall}
use Rattle.st_meaning.specs.Typing.{body_of}
use Rattle.st_meaning.specs.Wholes.{Called, Invoked, Whole}

-- if the name is that of a function, and isn't standard, this passes the test
abbrev pub NamePasses : Whole → CalledTest → List ℕ → Type 0
NamePasses w test name = (function : Called) → standard_of name ≡ None → w.functions name ≡ Some function → IsTrue (test function.number)

abbrev pub NamesPass : Whole → CalledTest → List (List ℕ) → Type 0
NamesPass w test [] = Unit {0}
NamesPass w test (name ∷ names) = NamePasses w test name × NamesPass w test names

-- so do all that the bodies of instances call
abbrev pub BodiesPass : Whole → CalledTest → Type 0
BodiesPass w test = (name : List ℕ) (unit : Invoked) → w.invoked name ≡ Some unit → BodyCalls test unit.body

-- Then all do that the commands call which the statements are.
abbrev pub TypingCallsWhatIsNamed : Type 0
TypingCallsWhatIsNamed = (w : Whole) (test : CalledTest) (body : List Statement) → NamesPass w test (flat_map statement_calls body) → BodiesPass w test
    → CommandsCall test (body_of w body)
