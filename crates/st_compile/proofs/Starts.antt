-- The variables of a function begin as is meant.
use Rattle.std.proofs.Common.{◌≡◌, ◌<◌, true, List, [], ◌∷◌, ◌++◌, map, length, Option, Some, None, refl, ap, ◌∙◌, arith}
use Rattle.st_types.specs.Compositions.{Composition, Members, none, member}
use Rattle.st_types.specs.Names.{Declares, Named}
use Rattle.st_types.specs.Names as names
use Rattle.st_leaves.specs.LeavesIn.{LeafIn, leaves_in}
use Rattle.st_meaning.specs.Meaning.{Values}
use Rattle.st_meaning.specs.Sound.{AreInputsOf}
use Rattle.st_meaning.specs.Units.{begun, input_in, inputs_in, members_begun, variable_begun, with_input}
use Rattle.st_meaning.specs.Wholes.{Input}
use Rattle.st_meaning.specs.declared.start.Start.{Start}
use Rattle.st_meaning.specs.declared.start.Start.TheVariants as beginnings
use Rattle.st_machine.specs.Functions.{begun_by}
use Rattle.st_places.specs.Parts.{is_function}
use Rattle.st_places.specs.Functions.{declared_starts, starts_in, starts_of, starts_with}

values_begun : (ls : List LeafIn) (more : List Start) (given : Values)
    → begun_by (map (λ l. beginnings.Value l.initial) ls ++ more) given ≡ map (λ l. l.initial) ls ++ begun_by more given
values_begun [] more given = refl
values_begun (l ∷ ls) more given = ap (λ vs. l.initial ∷ vs) (values_begun ls more given)

one_begun : (c : Composition) (o : Option Input) (is : List Input) (starts : List Start) (go : Values → Values) → ((given : Values) → AreInputsOf is given → begun_by starts given ≡ go given)
    → (given : Values) → AreInputsOf (with_input o is) given → begun_by (starts_with o c ++ starts) given ≡ variable_begun c o go given
one_begun c None is starts go rest given h = values_begun (leaves_in c) starts given ∙ ap (λ vs. begun c ++ vs) (rest given h)
one_begun c (Some i) is starts go rest [] h = absurd h
one_begun c (Some i) is starts go rest (v ∷ given) h = ap (λ vs. v ∷ vs) (rest given h.1)

-- where the inputs have values of their types
pub begun_is : (ms : Members) (given : Values) → AreInputsOf (inputs_in ms) given → begun_by (starts_in ms) given ≡ members_begun ms given
begun_is none given h = refl
begun_is (member name kind c ms) given h =
    one_begun c (input_in name kind c) (inputs_in ms) (starts_in ms) (members_begun ms) (λ more k. begun_is ms more k) given h

-- the result of a function is its first variable
first_start : (units : List Named) (d : Declares) → is_function d ≡ true → 0 < length (declared_starts units d)
first_start units (names.function f) is = omega arith
first_start units (names.type t) is = absurd cc
first_start units (names.block b) is = absurd cc
first_start units (names.program p) is = absurd cc

pub starts_first : (units : List Named) (u : Named) → is_function u.declares ≡ true → 0 < length (starts_of units u)
starts_first units u is = first_start units u.declares is
