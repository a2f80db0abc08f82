-- Worked texts: which names are instances of function blocks, and which are functions.
use Rattle.std.proofs.Common.{◌≡◌, ℕ, ℤ, pos, true, List, [], ◌∷◌, ◌++◌, codes, Option, Some, None, option_map, refl}
use Rattle.st_values.specs.declared.elem.Elem.{Elem}
use Rattle.st_values.specs.declared.elem.Elem.TheVariants as elems
use Rattle.st_values.specs.declared.value.Value.{Value}
use Rattle.st_tree.specs.declared.tree.constant.Constant.{Constant}
use Rattle.st_tree.specs.declared.tree.constant.Constant.TheVariants as constants
use Rattle.st_tree.specs.declared.tree.declaration.Declaration.{Declaration}
use Rattle.st_tree.specs.declared.tree.declaration.Initial.TheVariants as initials
use Rattle.st_tree.specs.declared.tree.declaration.Specification.TheVariants as specifications
use Rattle.st_tree.specs.declared.tree.declaration.TypeName.TheVariants as type_names
use Rattle.st_tree.specs.declared.tree.declaration.VarBlock.{VarBlock}
use Rattle.st_tree.specs.declared.tree.declaration.VarKind.{VarKind}
use Rattle.st_tree.specs.declared.tree.declaration.VarKind.TheVariants as var_kinds
use Rattle.st_tree.specs.declared.tree.position.Identifier.{Identifier}
use Rattle.st_tree.specs.declared.tree.unit.Body.TheVariants as bodies
use Rattle.st_tree.specs.declared.tree.unit.Function.{Function}
use Rattle.st_tree.specs.declared.tree.unit.Pou.{Pou}
use Rattle.st_types.specs.Compositions.{Composition, array, composed, none, member, composition_within}
use Rattle.st_types.specs.Names.{Named, named}
use Rattle.st_types.specs.Names as names
use Rattle.st_types.specs.Types.{shape_of}
use Rattle.st_meaning.specs.Terms.{no_commands, plain_body}
use Rattle.st_meaning.specs.Operations.{gives}
use Rattle.st_meaning.specs.Units.{calls_in, calls_of, functions_in, instance_of, instances_in, members_begun, members_of_function, unit_whole}

abbrev identifier : List ℕ → Identifier
identifier spelling = record { position = record { number = 0; line = 1 }; spelling = spelling }

-- without variables and statements
abbrev empty : List ℕ → Pou
empty name = record { position = record { number = 0; line = 1 }; name = identifier name; variables = []; body = bodies.Statements [] }

-- FUNCTION_BLOCK Counter .. END_FUNCTION_BLOCK FUNCTION_BLOCK Lamp .. END_FUNCTION_BLOCK PROGRAM Main .. END_PROGRAM
abbrev units : List Named
units =
    named (identifier (codes "Counter")) (names.block (empty (codes "Counter")))
    ∷ (named (identifier (codes "Lamp")) (names.block (empty (codes "Lamp"))) ∷ (named (identifier (codes "Main")) (names.program (empty (codes "Main"))) ∷ []))

-- what has the type of this name
abbrev of_type : List ℕ → Composition
of_type name = composed name none []

-- VAR C : Counter; L : Lamp; Many : ARRAY [..] OF Lamp; P : Main; END_VAR
abbrev root : Composition
root =
    composed (codes "PROGRAM")
    (member (codes "C") var_kinds.Internal (of_type (codes "COUNTER"))
    (member (codes "L") var_kinds.Internal (of_type (codes "LAMP"))
    (member (codes "Many") var_kinds.Internal (array [] [] (of_type (codes "LAMP"))) (member (codes "P") var_kinds.Internal (of_type (codes "MAIN")) none))))
    []

first_is_counter : instances_in units root (codes "c") ≡ Some (record { number = 0; body = plain_body no_commands })
first_is_counter = refl

second_is_lamp : instances_in units root (codes "L") ≡ Some (record { number = 1; body = plain_body no_commands })
second_is_lamp = refl

array_is_none : instances_in units root (codes "Many") ≡ None
array_is_none = refl

program_is_none : instances_in units root (codes "P") ≡ None
program_is_none = refl

unknown_is_none : instances_in units root (codes "Q") ≡ None
unknown_is_none = refl

other_type_is_none : instance_of units (of_type (codes "VALVE")) ≡ None
other_type_is_none = refl

-- ---- functions

-- so many names of a type, on their own
abbrev declaration : List ℕ → Elem → Option Constant → Declaration
declaration name e initial = record {
  names = identifier name ∷ [];
  specification = specifications.Simple (type_names.Elementary (record { number = 0; line = 1 }) e);
  initial = option_map (λ c. initials.Constant c) initial;
}

abbrev variables : VarKind → List Declaration → VarBlock
variables kind declarations = record { position = record { number = 0; line = 1 }; kind = kind; declarations = declarations }

-- FUNCTION Gap : INT VAR C : DINT; END_VAR VAR_INPUT A : INT; B : BOOL := TRUE; END_VAR END_FUNCTION
abbrev gap : Function
gap = record {
  position = record { number = 0; line = 1 };
  name = identifier (codes "Gap");
  result = elems.Int;
  variables =
      variables var_kinds.Internal (declaration (codes "C") elems.Dint None ∷ [])
      ∷ (variables var_kinds.Input (declaration (codes "A") elems.Int None ∷ (declaration (codes "B") elems.Bool (Some (constants.Bool (record { number = 0; line = 1 }) true)) ∷ [])) ∷ []);
  statements = [];
}

-- behind the other units
abbrev with_function : List Named
with_function = units ++ (named (identifier (codes "Gap")) (names.function gap) ∷ [])

abbrev of : Elem → ℤ → Value
of elem number = record { elem = elem; bits = number }

function_is_found : functions_in with_function (codes "GAP")
    ≡ Some (record { number = 3; result = elems.Int; inputs = record { name = codes "A"; initial = of elems.Int (pos 0) } ∷ (record { name = codes "B"; initial = of elems.Bool (pos 1) } ∷ []) })
unfolding composition_within shape_of
function_is_found = refl

block_is_no_function : functions_in with_function (codes "Counter") ≡ None
block_is_no_function = refl

unknown_is_no_function : functions_in with_function (codes "Valve") ≡ None
unknown_is_no_function = refl

-- the result, C, and the inputs, which have the values that are given
variables_begin : members_begun (members_of_function with_function gap) (of elems.Int (pos 7) ∷ (of elems.Bool (pos 0) ∷ []))
    ≡ of elems.Int (pos 0) ∷ (of elems.Dint (pos 0) ∷ (of elems.Int (pos 7) ∷ (of elems.Bool (pos 0) ∷ [])))
unfolding composition_within shape_of
variables_begin = refl

-- without statements it gives what its result begins with, and takes no steps
nothing_is_done : calls_of with_function 3 (of elems.Int (pos 7) ∷ (of elems.Bool (pos 0) ∷ [])) 9 ≡ gives (of elems.Int (pos 0)) 9
unfolding calls_in unit_whole composition_within shape_of
nothing_is_done = refl
