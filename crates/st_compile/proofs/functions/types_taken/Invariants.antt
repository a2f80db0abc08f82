use Rattle.std.proofs.Common.{◌≡◌, map, take}
use Rattle.st_values.specs.declared.value.Value.{Value}
use Rattle.st_compile.proofs.functions.types_taken.Given as goal

-- of the values so far
abbrev pub invariant-initials : goal.invariant-initials
invariant-initials l = l.types.items ≡ map (λ (v : Value). v.elem) (take l.value-index l.value-items)
