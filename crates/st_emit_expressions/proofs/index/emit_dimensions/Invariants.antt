use Rattle.std.proofs.Common.{◌≡◌, ◌++◌, drop, reverse}
use Rattle.st_emit_expressions.specs.Emits.{own_types}
use Rattle.st_emit_expressions.specs.Places.{each_dimension}
use Rattle.st_emit_expressions.specs.Trees.{whole_of}
use Rattle.st_emit_expressions.proofs.index.emit_dimensions.Given as goal

-- what is there, and the code of the further subscripts, make the whole
abbrev pub invariant-loop-i : goal.invariant-loop-i
invariant-loop-i l =
    let w = whole_of l.scope in
    l.code ++ reverse (each_dimension l.line (own_types w (drop l.i l.subscripts)) (drop l.i l.dimensions)) ≡ l.initial.code ++ reverse (each_dimension l.line (own_types w l.subscripts) l.dimensions)
