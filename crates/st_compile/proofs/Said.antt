-- What is said of the function blocks and functions of a program: the types of their leaves, what their bodies do, what they give, and
-- their charts.
use Rattle.std.proofs.Common.{◌≡◌, ℕ, suc, ◌+◌, ◌<◌, ◌≤◌, Bool, true, ◌&&◌, if◌then◌else◌, nat_le, List, [], ◌∷◌, drop, length, get_or, Option, Some, None, refl, sym, ◌∙◌, subst, arith, length-drop}
use Rattle.std.proofs.lemmas.Bool.{and_from, le-leb}
use Rattle.std.proofs.lemmas.List.{get_or-drop, get_or-map, length-map}
use Rattle.st_check.specs.Programs.{ProgramView, text_of}
use Rattle.st_values.specs.Types.{is_same}
use Rattle.st_values.specs.Values.{in_range}
use Rattle.st_values.specs.declared.elem.Elem.{Elem}
use Rattle.st_values.specs.declared.elem.Elem.TheVariants as elems
use Rattle.st_types.specs.Compositions.{Composition}
use Rattle.st_types.specs.Names.{Named, unit_at, units_of}
use Rattle.st_leaves.specs.LeavesIn.{LeafIn, leaves_in}
use Rattle.st_leaves.specs.Selected.{selected_by}
use Rattle.st_meaning.specs.Meaning.{Values}
use Rattle.st_meaning.specs.Offsets.{offset_of}
use Rattle.st_meaning.specs.Sound.{no_leaf, type_at}
use Rattle.st_meaning.specs.Statements.{Setting, done}
use Rattle.st_meaning.specs.Units.{calls_of, function_at, root_of}
use Rattle.st_meaning.proofs.Stretches.{part_fits, part_type}
use Rattle.st_code.specs.Machine.{FunctionBody, UnitBody, are_of_types}
use Rattle.st_code.proofs.Steps.{same_type}
use Rattle.st_machine.specs.Blocks.{begins_with, stand_at}
use Rattle.st_machine.specs.Levels.{Said}
use Rattle.st_places.specs.Parts.{is_small_block}
use Rattle.st_compile.specs.Programs.{made_of, types_taken, unit_meaning}
use Rattle.st_compile.proofs.Charted.{no_sketch, unit_sketch}
use Rattle.st_compile.proofs.OfTypes.{elems_of, many_elems}

-- of the leaves of a unit
abbrev pub root_types : List Named → Named → List Elem
root_types units u = elems_of (leaves_in (root_of units u))

abbrev pub unit_types : List Named → Option Named → List Elem
unit_types units None = []
unit_types units (Some u) = root_types units u

-- what a body is asked to run on: values of an instance that a program has room for, at a moment that a TIME can hold
abbrev pub may_run : List Named → Named → Setting → Values → Bool
may_run units u setting values = is_small_block units u && (in_range elems.Time setting.now && are_of_types (root_types units u) values)

-- of the unit of this number
abbrev pub unit_body : List Named → ℕ → Option Named → UnitBody
unit_body units n None = record { size = 0; run = λ setting values left. done values left }
unit_body units n (Some u) = record {
  size = length (root_types units u);
  run = λ setting values left. if may_run units u setting values then unit_meaning units n u setting values left else done values left;
}

-- the function of this number gives what it gives
abbrev pub function_body : List Named → ℕ → FunctionBody
function_body units number = record { inputs = types_taken (function_at units number); run = λ inputs left. calls_of units number inputs left }

abbrev pub said_of : ProgramView → Said
said_of program = record {
  types = λ n. unit_types (units_of (text_of program)) (unit_at (units_of (text_of program)) n);
  bodies = λ n. unit_body (units_of (text_of program)) n (unit_at (units_of (text_of program)) n);
  functions = function_body (units_of (text_of program));
  charts = λ n. made_of (unit_sketch (units_of (text_of program))) no_sketch n (unit_at (units_of (text_of program)) n);
}

pub body_size : (units : List Named) (n : ℕ) (u : Option Named) → (unit_body units n u).size ≡ length (unit_types units u)
body_size units n None = refl
body_size units n (Some u) = refl

-- ---- the leaves of a part stand where its offset says

begins_at : (es fs : List Elem) → length es ≤ length fs → ((i : ℕ) → i < length es → get_or es i elems.Bool ≡ get_or fs i elems.Bool) → begins_with es fs ≡ true
begins_at [] fs few each = refl
begins_at (e ∷ es) [] few each = absurd (omega (arith, few))
begins_at (e ∷ es) (f ∷ fs) few each =
    and_from (is_same e f) (begins_with es fs) (same_type e f (each 0 (omega arith))) (begins_at es fs (omega (arith, few)) (λ i below. each (suc i) (omega (arith, below))))

elem_at : (c : Composition) (i : ℕ) → i < length (elems_of (leaves_in c)) → get_or (elems_of (leaves_in c)) i elems.Bool ≡ type_at c i
elem_at c i below = by (leaves_in c) below where
  by : (ls : List LeafIn) → i < length (elems_of ls) → get_or (elems_of ls) i elems.Bool ≡ (get_or ls i no_leaf).initial.elem
  by ls h = get_or-map (λ (l : LeafIn). l.initial.elem) ls i no_leaf elems.Bool (omega (arith, h, length-map ls (λ (l : LeafIn). l.initial.elem)))

pub part_stands : (root : Composition) (name : List ℕ) (c : Composition) → selected_by root name ≡ c → stand_at (elems_of (leaves_in root)) (offset_of root name) (elems_of (leaves_in c)) ≡ true
part_stands root name c is =
    let part = elems_of (leaves_in c) in
    let all = elems_of (leaves_in root) in
    let offset = offset_of root name in
    let fits : offset + length part ≤ length all = omega (arith, part_fits root name c is, many_elems c, many_elems root) in
    and_from (nat_le (offset + length part) (length all)) (begins_with part (drop offset all)) (le-leb (offset + length part) (length all) fits)
    (begins_at part (drop offset all) (omega (arith, fits, length-drop offset all)) (λ i below.
    elem_at c i below ∙ sym (part_type root name c is i (subst (λ n. i < n) (many_elems c) below)) ∙ sym (elem_at root (offset + i) (omega (arith, fits, below))) ∙ sym (get_or-drop offset all i elems.Bool)))
