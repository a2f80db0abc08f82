use Rattle.std.proofs.Common.{◌≡◌, ◌<◌, ℕ, drop, take, length, get_or}
use Rattle.st_leaves.specs.Selected.{selected_by}
use Rattle.st_meaning.specs.Typing.{place_of}
use Rattle.st_meaning.specs.Wholes.{type_of}
use Rattle.st_emit_expressions.specs.Places.{IsStop}
use Rattle.st_emit_expressions.specs.Trees.{whole_of}
use Rattle.st_emit_expressions.specs.declared.places.Stop.{Stop}
use Rattle.st_emit_expressions.proofs.places.stops.Given as goal

-- the part that is reached, and those before
abbrev pub invariant-loop-part : goal.invariant-loop-part
invariant-loop-part l =
    let w = whole_of l.scope in
    let type = type_of w.variables (place_of w l.variable) in
    let c = selected_by w.variables l.variable.name.spelling in
    record {
      here : IsStop w l.scope.0 type c (take l.part-index l.part-items) (drop l.part-index l.part-items) l.stop;
      number : length l.all.items ≡ l.part-index;
      each : (i : ℕ) (s : Stop) → i < l.part-index → s ≡ get_or l.all.items i s → IsStop w l.scope.0 type c (take i l.part-items) (drop i l.part-items) s;
    }
