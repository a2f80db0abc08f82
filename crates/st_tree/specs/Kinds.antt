-- What variables are for (2.4.3).
use Rattle.std.specs.Prelude.{Bool, true, false}
use Rattle.st_tree.specs.declared.tree.declaration.VarKind.{VarKind}
use Rattle.st_tree.specs.declared.tree.declaration.VarKind.TheVariants as var_kinds

abbrev pub is_input : VarKind → Bool
is_input var_kinds.Input = true
is_input _ = false

abbrev pub is_output : VarKind → Bool
is_output var_kinds.Output = true
is_output _ = false

abbrev pub is_constant : VarKind → Bool
is_constant var_kinds.Constant = true
is_constant _ = false
