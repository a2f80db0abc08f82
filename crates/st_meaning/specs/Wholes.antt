-- What the names in the statements of a unit stand for (2.4).
use Rattle.std.specs.Prelude.{ℕ, ◌&&◌, List, [], ◌∷◌, Option, Some, None, if◌then◌else◌}
use Rattle.st_values.specs.Words.{is_word}
use Rattle.st_values.specs.declared.elem.Elem.{Elem}
use Rattle.st_values.specs.declared.value.Value.{Value}
use Rattle.st_tree.specs.Kinds.{is_constant}
use Rattle.st_types.specs.Compositions.{Composition, elementary, standard}
use Rattle.st_types.specs.Names.{Declared}
use Rattle.st_types.specs.declared.standard.StandardBlock.{StandardBlock}
use Rattle.st_leaves.specs.Selected.{element_of, selected_by, takes_subscripts, value_type}
use Rattle.st_meaning.specs.Terms.{Body, Parts, whole, field_part, element_part, how_many}

-- a unit whose instances are invoked: its number, and what its body is
pub record Invoked : Type 0 where
  pub number : ℕ
  pub body : Body

-- an input of a function, with its name, and the value that it begins with, which is of its type
pub record Input : Type 0 where
  pub name : List ℕ
  pub initial : Value

-- a function of the text: the number of its unit, the type of its result, and its inputs in the order of their declaration
pub record Called : Type 0 where
  pub number : ℕ
  pub result : Elem
  pub inputs : List Input

-- the functions of a text by the numbers of their units
abbrev pub Functions : Type 0
Functions = ℕ → Option Called

-- the variables of a unit, as what they consist of, the values of its constants, which of its names are instances of function blocks
-- of the text, and the functions of the text by their names
pub record Whole : Type 0 where
  pub variables : Composition
  pub constants : List ℕ → Option Value
  pub invoked : List ℕ → Option Invoked
  pub functions : List ℕ → Option Called

abbrev pub constant_value : Composition → Option Value
constant_value (elementary v) = Some v
constant_value _ = None

-- of the first constant with this name, where `inside` gives what each declared name consists of
abbrev pub constant_among : (Declared → Composition) → List Declared → List ℕ → Option Value
constant_among inside [] name = None
constant_among inside (v ∷ vs) name = if is_constant v.kind && is_word v.name.spelling name then constant_value (inside v) else constant_among inside vs name

-- the elementary type of a place in something, where it has one
abbrev pub type_of : Composition → Parts → Option Elem
type_of c whole = value_type c
type_of c (field_part name ps) = type_of (selected_by c name) ps
type_of c (element_part line ts ps) = if takes_subscripts c (how_many ts) then type_of (element_of c) ps else None

-- the standard function block that something is an instance of
abbrev pub block_of : Composition → Option StandardBlock
block_of (standard b) = Some b
block_of _ = None
