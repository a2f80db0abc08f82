-- Functions by the tables of a text.
use Rattle.std.proofs.Common.{◌≡◌, ℕ, ◌+◌, ◌<◌, Bool, true, false, ◌&&◌, if◌then◌else◌, List, [], ◌∷◌, ◌++◌, map, length, length-append, position, Option, Some, None, IfSome, inl, inr, refl, ap, sym, ◌∙◌, subst, arith, ◌⊎◌}
use Rattle.std.specs.Borrow.{Bor}
use Rattle.std.specs.List.{All, AllByRecursion, slice_get}
use Rattle.std.specs.Option.{option_copied, option_map, option_map_or}
use Rattle.std.specs.Prelude.{nat_le}
use Rattle.std.proofs.lemmas.List.{length-map}
use Rattle.std.proofs.lemmas.List.Elements.{All-from_recursion, recursion_from_All}
use Rattle.std.proofs.lemmas.Option.{same_Some}
use Rattle.st_values.specs.Values.{IsValue}
use Rattle.st_values.specs.Words.{is_word}
use Rattle.st_values.specs.declared.value.Value.{Value}
use Rattle.st_types.specs.Tables.{first_of}
use Rattle.st_tree.specs.declared.tree.declaration.VarKind.{VarKind}
use Rattle.st_tree.specs.declared.tree.declaration.VarKind.TheVariants as var_kinds
use Rattle.st_tree.specs.declared.tree.unit.Function.{Function as Section}
use Rattle.st_types.proofs.Places.{position-map}
use Rattle.st_tree.specs.Kinds.{is_constant}
use Rattle.st_types.specs.Compositions.{Composition, unknown, elementary, array, composed, standard, Members, none, member, declared_composition}
use Rattle.st_scopes.specs.Declarations.{names_at, names_in}
use Rattle.st_types.specs.Inside.{declares_at, named_by}
use Rattle.st_types.specs.declared.unit.NamedUnit.{NamedUnit}
use Rattle.st_types.specs.Names.{Declared, Declares, Named, number_of, unit_at, units_of, variables_of}
use Rattle.st_types.specs.Names as names
use Rattle.st_leaves.specs.Places.{count, counts}
use Rattle.st_leaves.proofs.Numbers.{length_is_count}
use Rattle.st_leaves.specs.LeavesIn.{leaves_in}
use Rattle.st_check.specs.Laws.{IsOneValue}
use Rattle.st_types.specs.Initials.{zero_of}
use Rattle.st_meaning.specs.Units.{unit_whole, called_as, called_by, function_at, function_by, functions_in, input_in, inputs_in, members_of_function, root_name, unit_root, with_input}
use Rattle.st_meaning.specs.Wholes.{Called, Input, constant_value}
use Rattle.st_meaning.specs.declared.start.Start.{Start}
use Rattle.st_meaning.specs.declared.start.Start.TheVariants as beginnings
use Rattle.st_places.specs.Callables.{AreElementary, AreFunctions, HasVariables, IsCallable, callable_function, declared_members, declared_own, optional_own, own_start, own_starts, unit_spellings}
use Rattle.st_places.specs.Functions.{declared_starts, optional_starts, starts_at, starts_in, starts_with}
use Rattle.st_places.specs.Inputs.{inputs_by}
use Rattle.st_places.specs.Parts.{TablesView, inside, is_function, is_small_function_in, optional_small_function, optional_whole, whole_in}
use Rattle.st_places.specs.declared.function.Variables.{Variables}
use Rattle.st_places.specs.declared.functions.Callable.{Callable}
use Rattle.st_places.specs.declared.functions.Functions.{Functions}
use Rattle.st_places.proofs.Constants.{value_is_value}
use Rattle.st_places.proofs.Contents.{past}
use Rattle.st_places.proofs.Selections.{pushed}
use Rattle.st_types.proofs.Units.{unit_at-past}

-- ---- inputs, by their names and by their values

pub names_of_inputs : (ns : List (List ℕ)) (vs : List Value) → length ns ≡ length vs → map (λ (i : Input). i.name) (inputs_by ns vs) ≡ ns
names_of_inputs [] vs same = refl
names_of_inputs (n ∷ ns) [] same = absurd (omega (arith, same))
names_of_inputs (n ∷ ns) (v ∷ vs) same = ap (λ (more : List (List ℕ)). n ∷ more) (names_of_inputs ns vs (omega (arith, same)))

pub values_of_inputs : (ns : List (List ℕ)) (vs : List Value) → length ns ≡ length vs → vs ≡ map (λ (i : Input). i.initial) (inputs_by ns vs)
values_of_inputs [] [] same = refl
values_of_inputs [] (v ∷ vs) same = absurd (omega (arith, same))
values_of_inputs (n ∷ ns) [] same = absurd (omega (arith, same))
values_of_inputs (n ∷ ns) (v ∷ vs) same = ap (λ (more : List Value). v ∷ more) (values_of_inputs ns vs (omega (arith, same)))

pub input_number : (ns : List (List ℕ)) (vs : List Value) (name : List ℕ) → length ns ≡ length vs → first_of ns name ≡ position (λ (i : Input). is_word i.name name) (inputs_by ns vs)
input_number ns vs name same =
    ap (λ (all : List (List ℕ)). first_of all name) (sym (names_of_inputs ns vs same)) ∙ position-map (λ (i : Input). i.name) (λ n. is_word n name) (inputs_by ns vs)

pub how_many_inputs : (ns : List (List ℕ)) (vs : List Value) → length ns ≡ length vs → length (inputs_by ns vs) ≡ length ns
how_many_inputs ns vs same = sym (length-map (inputs_by ns vs) (λ (i : Input). i.name)) ∙ ap length (names_of_inputs ns vs same)

same_inputs : (is : List Input) → inputs_by (map (λ (i : Input). i.name) is) (map (λ (i : Input). i.initial) is) ≡ is
same_inputs [] = refl
same_inputs (i ∷ is) = ap (λ (more : List Input). i ∷ more) (same_inputs is)

-- ---- what is declared

pub spelled : (items : List NamedUnit) → map (λ (unit : NamedUnit). unit.name.now.spelling) items ≡ unit_spellings (map named_by items)
spelled [] = refl
spelled (u ∷ us) = ap (λ (names : List (List ℕ)). u.name.now.spelling ∷ names) (spelled us)

pub declared_variables : (units : List Named) (i : ℕ) (f : Section) → declares_at units i ≡ Some (names.function f) → names_at units i ≡ variables_of f.variables
declared_variables units i f at = ap (λ (d : Option Declares). option_map_or names_in d []) at

-- ---- what begins with its own value

one_start : (o : Option Input) (c : Composition) → IsOneValue c → own_start o (constant_value c) ≡ starts_with o c
one_start (Some i) c is = refl
one_start None c is = subst (λ d. own_start None (constant_value d) ≡ starts_with None d) (sym is.is) refl

starts_next : (b : Bool) (name : List ℕ) (kind : VarKind) (c : Composition) (ms : Members) → IsOneValue c → own_starts ms ≡ starts_in ms
    → own_starts (if b then ms else member name kind c ms) ≡ starts_in (if b then ms else member name kind c ms)
starts_next true name kind c ms one is = is
starts_next false name kind c ms one is =
    ap (λ (first : List Start). first ++ own_starts ms) (one_start (input_in name kind c) c one) ∙ ap (λ (more : List Start). starts_with (input_in name kind c) c ++ more) is

-- ---- how many

input_is_one : (name : List ℕ) (kind : VarKind) (c : Composition) (i : Input) → input_in name kind c ≡ Some i → 1 ≡ count c
input_is_one name var_kinds.Internal c i is = absurd (cc)
input_is_one name var_kinds.Constant c i is = absurd (cc)
input_is_one name var_kinds.Output c i is = absurd (cc)
input_is_one name var_kinds.Input unknown i is = absurd (cc)
input_is_one name var_kinds.Input (elementary v) i is = refl
input_is_one name var_kinds.Input (array ranges firsts c) i is = absurd (cc)
input_is_one name var_kinds.Input (composed whole ms chart) i is = absurd (cc)
input_is_one name var_kinds.Input (standard b) i is = absurd (cc)

input_value : (name : List ℕ) (kind : VarKind) (c : Composition) (i : Input) → input_in name kind c ≡ Some i → constant_value c ≡ Some i.initial
input_value name var_kinds.Internal c i is = absurd (cc)
input_value name var_kinds.Constant c i is = absurd (cc)
input_value name var_kinds.Output c i is = absurd (cc)
input_value name var_kinds.Input unknown i is = absurd (cc)
input_value name var_kinds.Input (elementary v) i is = ap (λ (j : Input). Some j.initial) (same_Some (record { name = name; initial = v }) i is)
input_value name var_kinds.Input (array ranges firsts c) i is = absurd (cc)
input_value name var_kinds.Input (composed whole ms chart) i is = absurd (cc)
input_value name var_kinds.Input (standard b) i is = absurd (cc)

starts_of_one : (name : List ℕ) (kind : VarKind) (c : Composition) (o : Option Input) → input_in name kind c ≡ o → length (starts_with o c) ≡ count c
starts_of_one name kind c None is = length-map (leaves_in c) (λ l. beginnings.Value l.initial) ∙ length_is_count c
starts_of_one name kind c (Some i) is = input_is_one name kind c i is

starts_counted : (ms : Members) → length (starts_in ms) ≡ counts ms
starts_counted none = refl
starts_counted (member name kind c ms) =
    length-append (starts_with (input_in name kind c) c) (starts_in ms) ∙ ap (λ n. n + length (starts_in ms)) (starts_of_one name kind c (input_in name kind c) refl)
    ∙ ap (λ n. count c + n) (starts_counted ms)

module _ (units : List Named) where
  -- ---- the table of a function

  known_called : (number : ℕ) (f : Section) (all : Variables) → HasVariables units f.result (variables_of f.variables) all
      → Some (record { number = number; result = f.result; inputs = inputs_by all.names all.initials }) ≡ called_as units number (names.function f)
  known_called number f all has =
      let made : List Input → Option Called = λ is. Some (record { number = number; result = f.result; inputs = is }) in
      ap made
      (ap (λ (ns : List (List ℕ)). inputs_by ns all.initials) has.names
      ∙ ap (inputs_by (map (λ (i : Input). i.name) (inputs_in (declared_members units (variables_of f.variables))))) has.initials
      ∙ same_inputs (inputs_in (declared_members units (variables_of f.variables))))

  known_function : (number : ℕ) (u : Option Named) (d : Declares) → option_map (λ (v : Named). v.declares) u ≡ Some d → called_by units number u ≡ called_as units number d
  known_function number None d is = absurd (cc)
  known_function number (Some u) d is = ap (called_as units number) (same_Some u.declares d is)

  known_own : (u : Option Named) (d : Declares) → option_map (λ (v : Named). v.declares) u ≡ Some d → optional_own units u ≡ declared_own units d
  known_own None d is = absurd (cc)
  known_own (Some u) d is = ap (declared_own units) (same_Some u.declares d is)

  pub function_callable : (number : ℕ) (f : Section) (all : Variables) (c : Callable) → declares_at units number ≡ Some (names.function f)
      → HasVariables units f.result (variables_of f.variables) all
      → c.function ≡ Some (record { number = number; result = f.result; inputs = inputs_by all.names all.initials }) → c.starts ≡ all.starts → IsCallable units number c
  function_callable number f all c at has function starts = record {
    function = function ∙ known_called number f all has ∙ sym (known_function number (unit_at units number) (names.function f) at);
    starts = starts ∙ has.starts ∙ sym (known_own (unit_at units number) (names.function f) at);
  }

  -- ---- the tables of all units

  found_function : (number : ℕ) (all : List Callable) (o : Option Callable) → ((i : ℕ) (c : Callable) → slice_get all i ≡ Some c → IsCallable units i c)
      → (slice_get all number ≡ None → unit_at units number ≡ None) → slice_get all number ≡ o → callable_function o ≡ function_at units number
  found_function number all None each past at = sym (ap (called_by units number) (past at))
  found_function number all (Some c) each past at = (each number c at).function

  module _ (all : Functions) (are : AreFunctions units all) where
    pub no_unit_at : (number : ℕ) → slice_get all.units.items number ≡ None → unit_at units number ≡ None
    no_unit_at number at = unit_at-past units number (omega (arith, past all.units.items number at, are.len))

    pub function_is : (number : ℕ) → callable_function (slice_get all.units.items number) ≡ function_at units number
    function_is number = found_function number all.units.items (slice_get all.units.items number) are.each (no_unit_at number) refl

    pub number_is : (name : List ℕ) → first_of all.names name ≡ number_of units name
    number_is name = ap (λ (ns : List (List ℕ)). first_of ns name) are.names ∙ position-map (λ (u : Named). u.name.spelling) (λ n. is_word n name) units

    pub named_is : (name : List ℕ) (k : ℕ) → first_of all.names name ≡ Some k → function_at units k ≡ functions_in units name
    named_is name k at = ap (function_by units) (sym at ∙ number_is name)

    pub unnamed : (name : List ℕ) → first_of all.names name ≡ None → None ≡ functions_in units name
    unnamed name at = ap (function_by units) (sym at ∙ number_is name)

  -- ---- starts

  starts_by : (vs : List Declared) → AllByRecursion (λ v. IsOneValue (declared_composition units (inside units) v)) vs
      → own_starts (declared_members units vs) ≡ starts_in (declared_members units vs)
  starts_by [] each = refl
  starts_by (v ∷ vs) each =
      starts_next (is_constant v.kind) v.name.spelling v.kind (declared_composition units (inside units) v) (declared_members units vs) each.0 (starts_by vs each.1)

  module _ (elementary' : AreElementary units) where
    own_declared : (number : ℕ) (u : Named) (d : Declares) → unit_at units number ≡ Some u → u.declares ≡ d → declared_own units d ≡ declared_starts units d
    own_declared number u (names.type t) at is = refl
    own_declared number u (names.function f) at is =
        ap (λ (more : List Start). beginnings.Value (zero_of f.result) ∷ more)
        (starts_by (variables_of f.variables)
        (recursion_from_All (λ v. IsOneValue (declared_composition units (inside units) v)) (variables_of f.variables) (elementary' number u f at is)))
    own_declared number u (names.block b) at is = refl
    own_declared number u (names.program p) at is = refl

    own_optional : (number : ℕ) (u : Option Named) → unit_at units number ≡ u → optional_own units u ≡ optional_starts units u
    own_optional number None at = refl
    own_optional number (Some u) at = own_declared number u u.declares at refl

    module _ (all : Functions) (are : AreFunctions units all) where
      pub known_starts : (number : ℕ) (c : Callable) → slice_get all.units.items number ≡ Some c → c.starts ≡ optional_starts units (unit_at units number)
      known_starts number c at = (are.each number c at).starts ∙ own_optional number (unit_at units number) refl

      pub no_starts : (number : ℕ) → slice_get all.units.items number ≡ None → [] ≡ optional_starts units (unit_at units number)
      no_starts number at = sym (ap (optional_starts units) (no_unit_at all are number at))

  -- ---- how many variables

  declared_counted : (name : List ℕ) (f : Section) → length (declared_starts units (names.function f)) ≡ count (unit_root units name (names.function f))
  declared_counted name f = starts_counted (members_of_function units f) ∙ omega arith

  small_declared : (name : List ℕ) (d : Declares) (n : ℕ) → length (declared_starts units d) ≡ n → 0 < n → (is_function d && nat_le (count (unit_root units name d)) 999999) ≡ nat_le n 999999
  small_declared name (names.type t) n is some = absurd (omega (arith, is, some))
  small_declared name (names.function f) n is some = ap (λ m. nat_le m 999999) (sym (declared_counted name f) ∙ is)
  small_declared name (names.block b) n is some = absurd (omega (arith, is, some))
  small_declared name (names.program p) n is some = absurd (omega (arith, is, some))

  pub small_optional : (u : Option Named) (n : ℕ) → length (optional_starts units u) ≡ n → 0 < n → nat_le n 999999 ≡ optional_small_function units u
  small_optional None n is some = absurd (omega (arith, is, some))
  small_optional (Some u) n is some = sym (small_declared (root_name u.name.spelling u.declares) u.declares n is some)

  -- ---- inputs begin with values

  abbrev Begins : Input → Type 0
  Begins i = IsValue i.initial

  begins_next : (name : List ℕ) (kind : VarKind) (v : Declared) (o : Option Input) (is : List Input) → input_in name kind (declared_composition units (inside units) v) ≡ o
      → AllByRecursion Begins is → AllByRecursion Begins (with_input o is)
  begins_next name kind v None is at each = each
  begins_next name kind v (Some i) is at each = (value_is_value units v i.initial (input_value name kind (declared_composition units (inside units) v) i at), each)

  begins_if : (b : Bool) (v : Declared) (ms : Members) → AllByRecursion Begins (inputs_in ms)
      → AllByRecursion Begins (inputs_in (if b then ms else member v.name.spelling v.kind (declared_composition units (inside units) v) ms))
  begins_if true v ms each = each
  begins_if false v ms each =
      begins_next v.name.spelling v.kind v (input_in v.name.spelling v.kind (declared_composition units (inside units) v)) (inputs_in ms) refl each

  inputs_begin : (vs : List Declared) → AllByRecursion Begins (inputs_in (declared_members units vs))
  inputs_begin [] = tt
  inputs_begin (v ∷ vs) = begins_if (is_constant v.kind) v (declared_members units vs) (inputs_begin vs)

  abbrev HasValues : Option Called → Type 0
  HasValues None = Unit {0}
  HasValues (Some f) = All (λ (i : Input). IsValue i.initial) f.inputs

  called_has : (number : ℕ) (d : Declares) → HasValues (called_as units number d)
  called_has number (names.type t) = tt
  called_has number (names.function f) =
      All-from_recursion Begins (inputs_in (declared_members units (variables_of f.variables))) (inputs_begin (variables_of f.variables))
  called_has number (names.block b) = tt
  called_has number (names.program p) = tt

  optional_has : (number : ℕ) (u : Option Named) → HasValues (called_by units number u)
  optional_has number None = tt
  optional_has number (Some u) = called_has number u.declares

  function_has : (n : Option ℕ) → HasValues (function_by units n)
  function_has None = tt
  function_has (Some number) = optional_has number (unit_at units number)

  pub begin_with_values : (r : Option (Bor Called)) (name : List ℕ) → option_copied r ≡ functions_in units name → IfSome r (λ f. All (λ (i : Input). IsValue i.initial) f.now.inputs)
  begin_with_values None name is = tt
  begin_with_values (Some f) name is = subst HasValues (sym is) (function_has (number_of units name))

  -- the same functions in each unit
  whole_functions : (u : Option Named) (name : List ℕ) → functions_in units name ≡ (optional_whole units u).functions name
  unfolding unit_whole
  whole_functions None name = refl
  whole_functions (Some u) name = refl

  -- ---- one unit more

  pub callables_more : (all : List Callable) (n : ℕ) (c : Callable) → length all ≡ n → ((i : ℕ) (d : Callable) → slice_get all i ≡ Some d → IsCallable units i d)
      → IsCallable units n c → (i : ℕ) (d : Callable) → slice_get (all ++ c ∷ []) i ≡ Some d → IsCallable units i d
  callables_more all n c len are is i d at = by (pushed all c d i at)
    where
      by : (slice_get all i ≡ Some d) ⊎ ((i ≡ length all) × (c ≡ d)) → IsCallable units i d
      by (inl there) = are i d there
      by (inr last) = subst (λ x. IsCallable units i x) last.1 (subst (λ k. IsCallable units k c) (sym (last.0 ∙ len)) is)

-- ---- in tables

pub function_clause : (s t : TablesView) (name : List ℕ) (r : Option (Bor Called)) → s ≡ t → option_copied r ≡ functions_in (units_of s.text) name
    → (unit : ℕ) → option_copied r ≡ (whole_in t unit).functions name
unfolding whole_in
function_clause s t name r same is unit =
    is ∙ ap (λ (x : TablesView). functions_in (units_of x.text) name) same ∙ whole_functions (units_of t.text) (unit_at (units_of t.text) unit) name

pub starts_clause : (s t : TablesView) (unit : ℕ) (starts : List Start) → s ≡ t → starts ≡ optional_starts (units_of s.text) (unit_at (units_of s.text) unit) → starts ≡ starts_at t unit
unfolding starts_at
starts_clause s t unit starts same is = is ∙ ap (λ (x : TablesView). optional_starts (units_of x.text) (unit_at (units_of x.text) unit)) same

pub small_clause : (s t : TablesView) (unit : ℕ) (r : Bool) → s ≡ t → r ≡ optional_small_function (units_of s.text) (unit_at (units_of s.text) unit) → r ≡ is_small_function_in t unit
unfolding is_small_function_in
small_clause s t unit r same is = is ∙ ap (λ (x : TablesView). optional_small_function (units_of x.text) (unit_at (units_of x.text) unit)) same
