-- The values that an array begins with.
use Rattle.std.specs.Prelude.{List, [], Option, Some}
use Rattle.st_tree.specs.declared.tree.constant.Constant.{Constant}
use Rattle.st_tree.specs.declared.tree.declaration.Initial.{Initial}
use Rattle.st_tree.specs.declared.tree.declaration.Initial.TheVariants as initials
use Rattle.st_types.specs.Initials.{first_values}

-- of its first elements, each where one is written
abbrev pub values_of : Option Initial → List (Option Constant)
values_of (Some (initials.Array position items)) = first_values items
values_of _ = []
