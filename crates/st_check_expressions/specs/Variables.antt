-- What the rules say of variables and their parts (2.4.1), and of what may be assigned.
use Rattle.std.specs.Prelude.{ℕ, ◌==◌, Bool, true, false, ◌&&◌, ◌||◌, not, List, [], ◌∷◌, ◌++◌, length, codes, drop, Option, Some, None, if◌then◌else◌}
use Rattle.std.specs.List.{flat_map, list_any}
use Rattle.std.specs.Option.{is_some}
use Rattle.st_values.specs.Types.{is_same}
use Rattle.st_values.specs.Words.{is_word}
use Rattle.st_values.specs.declared.elem.Elem.{Elem}
use Rattle.st_values.specs.declared.elem.Elem.TheVariants as elems
use Rattle.st_tree.specs.declared.tree.declaration.Subrange.{Subrange}
use Rattle.st_tree.specs.declared.tree.position.Identifier.{Identifier}
use Rattle.st_tree.specs.declared.tree.position.Position.{Position}
use Rattle.st_faults.specs.Faults.{fault, when}
use Rattle.st_faults.specs.declared.fault.Fault.{Fault}
use Rattle.st_faults.specs.declared.fault.Rule.TheVariants as rules
use Rattle.st_types.specs.Scopes.{Scope}
use Rattle.st_types.specs.Types.{Elements, Shape, elem_of, is_unknown, is_value, plain, unknown}
use Rattle.st_types.specs.declared.base.Base.{Base}
use Rattle.st_types.specs.declared.base.Base.TheVariants as bases
use Rattle.st_types.specs.declared.base.Purpose.{Purpose}
use Rattle.st_types.specs.declared.base.Purpose.TheVariants as purposes
use Rattle.st_types.specs.declared.symbol.Due.TheVariants as dues
use Rattle.st_types.specs.declared.symbol.Member.{Member}
use Rattle.st_types.specs.declared.symbol.Symbol.{Symbol}
use Rattle.st_check_expressions.specs.Known.{Known, faults_as, is_empty}
use Rattle.st_check_expressions.specs.declared.route.Route.{Route}
use Rattle.st_check_expressions.specs.declared.route.Start.{Start}

-- what selects a part: a name, or subscripts, of which this is known
pub data PartKnown : Type 0 where
  field : Identifier → PartKnown
  subscripts : Position → List Known → PartKnown

-- what a variable, or a part of it, is, and whether the way to it led through an instance or a step
abbrev pub route : Shape → Bool → Route
route shape through = record { shape = shape; through = through }

-- No further rule looks at the parts of what can't be known.
abbrev pub lost : Bool → Route
lost through = route unknown through

-- the subscripts and elements of an array
abbrev pub elements_of : Scope → Option (List Subrange) → Base → Option Elements
elements_of scope (Some ranges) base = Some (record { subscripts = ranges; element = base })
elements_of scope None base = scope.elements base

abbrev pub shape_elements : Scope → Shape → Option Elements
shape_elements scope s = elements_of scope s.subscripts s.base

-- ---- `.name` behind a variable

abbrev pub is_plain : Shape → Bool
is_plain s = not (is_some s.subscripts)

-- an array has no members
abbrev pub member_of : Scope → Shape → List ℕ → Member
member_of scope s name = if is_plain s then scope.member s.base name else record { symbol = None; of_instance = false }

abbrev pub entered : Bool → Member → Option Symbol → Route
entered through m None = lost (through || m.of_instance)
entered through m (Some s) = route s.shape (through || m.of_instance)

abbrev pub entered_by : Bool → Member → Route
entered_by through m = entered through m m.symbol

abbrev pub field_route : Scope → Route → Identifier → Route
field_route scope r name = if is_unknown r.shape.base then r else entered_by r.through (member_of scope r.shape name.spelling)

abbrev pub field_faults : Scope → Route → Identifier → List Fault
field_faults scope r name = when (not (is_unknown r.shape.base || is_some (member_of scope r.shape name.spelling).symbol)) (fault name.position rules.UnknownName)

-- ---- so many subscripts behind a variable

abbrev pub element_route : Bool → ℕ → Option Elements → Route
element_route through count None = lost through
element_route through count (Some elements) = if length elements.subscripts == count then route (plain elements.element) through else lost through

abbrev pub element_faults : Bool → Position → ℕ → Option Elements → List Fault
element_faults fits_all position count None = when (not fits_all) (fault position rules.TypeMismatch)
element_faults fits_all position count (Some elements) = when (not (length elements.subscripts == count)) (fault position rules.TypeMismatch)

-- Subscripts are integers.
abbrev pub subscripts_faults : List Known → List Fault
subscripts_faults xs = flat_map (λ x. faults_as x dues.Integer) xs

-- ---- parts, one behind the other

abbrev pub select : Scope → Route → PartKnown → Route
select scope r (field name) = field_route scope r name
select scope r (subscripts position xs) = element_route r.through (length xs) (shape_elements scope r.shape)

abbrev pub part_faults : Scope → Route → PartKnown → List Fault
part_faults scope r (field name) = field_faults scope r name
part_faults scope r (subscripts position xs) =
    element_faults (is_unknown r.shape.base) position (length xs) (shape_elements scope r.shape) ++ subscripts_faults xs

abbrev pub select_all : Scope → Route → List PartKnown → Route
select_all scope r [] = r
select_all scope r (part ∷ parts) = select_all scope (select scope r part) parts

abbrev pub parts_faults : Scope → Route → List PartKnown → List Fault
parts_faults scope r [] = []
parts_faults scope r (part ∷ parts) = part_faults scope r part ++ parts_faults scope (select scope r part) parts

-- ---- where the way begins

-- What the name is, the name that isn't there, and how many parts are taken with it.
abbrev pub start : Route → Option Position → ℕ → Start
start r unknown taken = record { route = r; unknown = unknown; taken = taken }

-- A step has a flag X and a time T (2.6.2), and nothing else can be named of it.
abbrev pub step_start : Identifier → List PartKnown → Start
step_start name (field f ∷ parts) =
    if is_word (codes "X") f.spelling then start (route (plain (bases.Elementary elems.Bool)) true) None 1
    else if is_word (codes "T") f.spelling then start (route (plain (bases.Elementary elems.Time)) true) None 1
    else start (lost false) (Some f.position) 1
step_start name parts = start (lost false) (Some name.position) 0

abbrev pub start_by : Scope → Identifier → List PartKnown → Option Symbol → Start
start_by scope name parts (Some s) = start (route s.shape false) None 0
start_by scope name parts None = if scope.step name.spelling then step_start name parts else start (lost false) (Some name.position) 0

abbrev pub unknown_faults : Option Position → List Fault
unknown_faults None = []
unknown_faults (Some position) = fault position rules.UnknownName ∷ []

-- ---- variables

pub record VariableKnown : Type 0 where
  pub name : Identifier
  pub whole : Bool  -- without a part behind it
  pub symbol : Option Symbol
  pub reached : Route
  pub faults : List Fault

abbrev pub variable_from : Scope → Identifier → List PartKnown → Option Symbol → Start → VariableKnown
variable_from scope name parts symbol s = record {
  name = name;
  whole = is_empty parts;
  symbol = symbol;
  reached = select_all scope s.route (drop s.taken parts);
  faults = unknown_faults s.unknown ++ parts_faults scope s.route (drop s.taken parts);
}

abbrev pub variable_of : Scope → Identifier → List PartKnown → VariableKnown
variable_of scope name parts = variable_from scope name parts (scope.variable name.spelling) (start_by scope name parts (scope.variable name.spelling))

-- where a type is due, and the variable has another one, or none of one value
abbrev pub misfit : Bool → Option Elem → Position → Elem → List Fault
misfit fits_all (Some stated) at e = when (not (is_same stated e)) (fault at rules.TypeMismatch)
misfit fits_all None at e = when (not fits_all) (fault at rules.TypeMismatch)

-- its value
abbrev pub value_of : VariableKnown → Known
value_of v = record {
  position = v.name.position;
  own = elem_of v.reached.shape;
  fits_all = is_unknown v.reached.shape.base;
  faults_at = λ at e. v.faults ++ misfit (is_unknown v.reached.shape.base) (elem_of v.reached.shape) at e;
  faults_open = λ at. v.faults ++ when (not (is_unknown v.reached.shape.base || is_value v.reached.shape)) (fault at rules.TypeMismatch);
}

-- ---- what may be assigned (2.4.3, 2.5.2.2, 2.6.2)

abbrev pub is_fixed_purpose : Purpose → Bool
is_fixed_purpose purposes.Constant = true
is_fixed_purpose purposes.Input = true
is_fixed_purpose _ = false

-- a constant or an input
abbrev pub is_fixed : Option Symbol → Bool
is_fixed None = false
is_fixed (Some s) = is_fixed_purpose s.purpose

-- a variable that takes a value, in loops that count these variables
abbrev pub target_faults : List (List ℕ) → VariableKnown → List Fault
target_faults counters v =
    v.faults
    ++ when (not (is_unknown v.reached.shape.base || is_value v.reached.shape)) (fault v.name.position rules.TypeMismatch)
    ++ when (is_fixed v.symbol || v.reached.through || (v.whole && list_any (is_word v.name.spelling) counters)) (fault v.name.position rules.NotAssignable)
