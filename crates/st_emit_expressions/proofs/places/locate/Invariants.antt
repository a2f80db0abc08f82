use Rattle.std.proofs.Common.{◌≡◌, ◌≤◌, ◌+◌, drop}
use Rattle.std.specs.Prelude.{◌&&◌}
use Rattle.st_leaves.specs.Places.{count}
use Rattle.st_meaning.specs.Offsets.{IsSmall}
use Rattle.st_meaning.specs.Sound.{is_fixed}
use Rattle.st_meaning.specs.Typing.{place_of}
use Rattle.st_meaning.specs.Wholes.{type_of}
use Rattle.st_code.specs.Code.{base_of}
use Rattle.st_places.specs.Parts.{IsNodeOf, part_in}
use Rattle.st_emit_expressions.specs.Trees.{parts_in, whole_of}
use Rattle.st_emit_expressions.proofs.places.locate.Given as goal

-- what is left of the place, from the part that is reached
abbrev pub invariant-loop-part : goal.invariant-loop-part
invariant-loop-part l =
    let w = whole_of l.scope in
    let c = part_in l.scope.0 l.node in
    let rest = parts_in w (drop l.part-index l.part-items) in
    record {
      node : IsNodeOf l.scope.0 l.node;
      small : IsSmall (part_in l.scope.0 l.node);
      fits : l.base + count c ≤ count w.variables;
      type : type_of c rest ≡ type_of w.variables (place_of w l.variable);
      base : l.base + base_of c rest ≡ base_of w.variables (place_of w l.variable);
      fixed : (l.is_fixed && is_fixed rest) ≡ is_fixed (place_of w l.variable);
    }
