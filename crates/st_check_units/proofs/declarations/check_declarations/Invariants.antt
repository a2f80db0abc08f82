use Rattle.std.proofs.Common.{◌≡◌, drop}
use Rattle.std.specs.List.{flat_map}
use Rattle.st_faults.specs.Faults.{offer_all}
use Rattle.st_types.specs.Names.{units_of}
use Rattle.st_check_units.specs.Declarations.{declaration_faults}
use Rattle.st_check_units.proofs.declarations.check_declarations.Given as goal

-- what is left gives what all give
abbrev pub invariant-loop-declaration : goal.invariant-loop-declaration
invariant-loop-declaration l =
    offer_all l.first (flat_map (declaration_faults (units_of l.types) l.permitted) (drop l.declaration-index l.declarations))
    ≡ offer_all l.initial.first (flat_map (declaration_faults (units_of l.types) l.permitted) l.declarations)
