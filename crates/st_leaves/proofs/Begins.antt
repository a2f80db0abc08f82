-- All leaves begin with values of their types.
use Rattle.std.proofs.Common.{ℕ, zero, suc, ◌+◌, ℤ, Bool, true, false, List, [], ◌∷◌, ◌++◌, codes, drop, length, map, Option, Some, None, if◌then◌else◌, refl}
use Rattle.std.specs.Char.{to_ascii_uppercase}
use Rattle.std.specs.List.{All, flat_map, list_any}
use Rattle.std.proofs.lemmas.List.Elements.{All-append, All-cons, All-from_recursion, All-map, All-nil}
use Rattle.st_values.specs.declared.elem.Elem.{Elem}
use Rattle.st_values.specs.declared.elem.Elem.TheVariants as elems
use Rattle.st_values.specs.declared.value.Value.{Value}
use Rattle.st_values.specs.Values.{IsValue, truth}
use Rattle.st_tree.specs.declared.tree.constant.Constant.{Constant}
use Rattle.st_tree.specs.declared.tree.declaration.DeclaredType.TheVariants as declared_types
use Rattle.st_tree.specs.declared.tree.declaration.Initial.{Initial}
use Rattle.st_tree.specs.declared.tree.declaration.Initial.TheVariants as initials
use Rattle.st_tree.specs.declared.tree.declaration.Subrange.{Subrange}
use Rattle.st_tree.specs.declared.tree.declaration.VarKind.{VarKind}
use Rattle.st_tree.specs.declared.tree.declaration.VarKind.TheVariants as var_kinds
use Rattle.st_tree.specs.declared.tree.unit.ChartElement.{ChartElement}
use Rattle.st_tree.specs.declared.tree.unit.Step.{Step}
use Rattle.st_tree.specs.Kinds.{is_constant}
use Rattle.st_types.specs.Compositions.{Composition, unknown, elementary, array, composed, standard, Members, none, member, composition_of, composition_within, declared_composition, elements_composition, members_by, optional_composition, started, subscripted, unit_composition}
use Rattle.st_types.specs.Initials.{element_initial, initial_of, number_in, unit_element_initial, value_written, zero_of}
use Rattle.st_types.specs.Names.{Declared, Declares, Named, members_of, steps_in, unit_at, variables_in}
use Rattle.st_types.specs.Names as names
use Rattle.st_types.specs.Standard.{pins_of, block_name, kept_by}
use Rattle.st_types.specs.Types.{Elements, elements_in, shape_of}
use Rattle.st_types.specs.declared.base.Base.{Base}
use Rattle.st_types.specs.declared.base.Base.TheVariants as bases
use Rattle.st_types.specs.declared.standard.StandardBlock.{StandardBlock}
use Rattle.st_leaves.specs.Charts.{is_pulse, stored_by}
use Rattle.st_leaves.specs.Compositions.{BeginWithValues}
use Rattle.st_leaves.specs.LeavesIn.{LeafIn, Use, all_steps_in, begun, block_leaves, chart_in, first_written, hidden, kept_leaf, leaves_in, leaves_of_whole, member_names, members_in, one, pin_leaf, starting, state_in, step_in, stored_in, subscript_lists, used_as, within}
use Rattle.st_leaves.specs.LeavesIn as leaves
use Rattle.st_leaves.specs.Paths.{Selector, field, index, kept}
use Rattle.st_leaves.proofs.Wrapped.{wrapped_is_value}

-- ---- values

abbrev Begins : LeafIn → Type 0
Begins l = IsValue l.initial

abbrev Begin : List LeafIn → Type 0
Begin ls = All Begins ls

pub zero_is_value : (e : Elem) → IsValue (zero_of e)
zero_is_value elems.Bool = refl
zero_is_value elems.Sint = refl
zero_is_value elems.Int = refl
zero_is_value elems.Dint = refl
zero_is_value elems.Lint = refl
zero_is_value elems.Usint = refl
zero_is_value elems.Uint = refl
zero_is_value elems.Udint = refl
zero_is_value elems.Ulint = refl
zero_is_value elems.Byte = refl
zero_is_value elems.Word = refl
zero_is_value elems.Dword = refl
zero_is_value elems.Lword = refl
zero_is_value elems.Time = refl

truth_is_value : (b : Bool) → IsValue (truth b)
truth_is_value true = refl
truth_is_value false = refl

written_is_value : (e : Elem) (c : Constant) → IsValue (value_written e c)
written_is_value e c = wrapped_is_value e (number_in c)

-- ---- lists of leaves

begin_append : (xs ys : List LeafIn) → Begin xs → Begin ys → Begin (xs ++ ys)
begin_append xs ys h k = All-append Begins xs ys h k

begin_within : (s : Selector) (name : List ℕ) (ls : List LeafIn) → Begin ls → Begin (within s name ls)
begin_within s name ls h = All-map Begins (λ l. record { path = s ∷ l.path; spine = name ∷ l.spine; initial = l.initial; use' = l.use' }) ls h

begin_one : (s : Selector) (name : List ℕ) (v : Value) (use' : Use) → IsValue v → Begin (one s name v use')
begin_one s name v use' h = All-cons Begins (record { path = s ∷ []; spine = name ∷ []; initial = v; use' = use' }) [] h (All-nil Begins)

begin_each : {X : Type 0} (f : X → List LeafIn) (xs : List X) → ((x : X) → Begin (f x)) → Begin (flat_map f xs)
begin_each f [] h = All-nil Begins
begin_each f (x ∷ xs) h = begin_append (f x) (flat_map f xs) (h x) (begin_each f xs h)

-- ---- elements

begin_starting : (first : Option Constant) (ls : List LeafIn) → Begin ls → Begin (starting first ls)
begin_starting None ls h = h
begin_starting (Some c) ls h =
    All-map Begins (λ l. record { path = l.path; spine = l.spine; initial = value_written l.initial.elem c; use' = l.use' }) ls (λ i d lt. written_is_value _ c)

begin_elements : (lists : List (List ℤ)) (firsts : List (Option Constant)) (ls : List LeafIn) → Begin ls → Begin (leaves.elements_in lists firsts ls)
begin_elements [] firsts ls h = All-nil Begins
begin_elements (is ∷ others) firsts ls h =
    begin_append (within (index is) (codes "array") (starting (first_written firsts) ls)) (leaves.elements_in others (drop 1 firsts) ls)
    (begin_within (index is) (codes "array") (starting (first_written firsts) ls) (begin_starting (first_written firsts) ls h)) (begin_elements others (drop 1 firsts) ls h)

-- ---- standard function blocks

begin_block : (b : StandardBlock) → Begin (block_leaves b)
begin_block b =
    begin_append (flat_map (pin_leaf (block_name b)) (pins_of b)) (flat_map (kept_leaf (block_name b)) (kept_by b))
    (begin_each (pin_leaf (block_name b)) (pins_of b) (λ p. begin_one (field p.name) (block_name b) (zero_of p.elem) leaves.plain (zero_is_value p.elem)))
    (begin_each (kept_leaf (block_name b)) (kept_by b) (λ k. begin_one (kept k.name) (block_name b) (zero_of k.elem) hidden (zero_is_value k.elem)))

-- ---- charts

begin_state : (back : ℕ) (is_initial has_pulse : Bool) → Begin (state_in back is_initial has_pulse)
begin_state back is_initial true = All-from_recursion Begins (state_in back is_initial true) (truth_is_value is_initial, (refl, (refl, (refl, tt))))
begin_state back is_initial false = All-from_recursion Begins (state_in back is_initial false) (truth_is_value is_initial, (refl, (refl, tt)))

begin_steps : (name : List ℕ) (back : ℕ) (steps : List Step) → Begin (all_steps_in name back steps)
begin_steps name back [] = All-nil Begins
begin_steps name back (s ∷ steps) =
    begin_append (step_in name back s) (all_steps_in name (back + length (step_in name back s)) steps)
    (begin_within (field s.name.spelling) name (state_in back s.is_initial (list_any is_pulse s.associations)) (begin_state back s.is_initial (list_any is_pulse s.associations)))
    (begin_steps name (back + length (step_in name back s)) steps)

begin_stored : (name stored : List ℕ) → Begin (stored_in name stored)
begin_stored name stored = begin_within (field stored) name (one (kept (codes "S")) (codes "action") (truth false) hidden) (begin_one (kept (codes "S")) (codes "action") (truth false) hidden refl)

begin_chart : (name : List ℕ) (stored : List (List ℕ)) (elements : List ChartElement) → Begin (chart_in name stored elements)
begin_chart name stored [] = All-nil Begins
begin_chart name stored (e ∷ es) =
    begin_append (one (kept (codes "CHART")) name (truth false) begun) (all_steps_in name 1 steps ++ flat_map (stored_in name) stored)
    (begin_one (kept (codes "CHART")) name (truth false) begun refl)
    (begin_append (all_steps_in name 1 steps) (flat_map (stored_in name) stored) (begin_steps name 1 steps) (begin_each (stored_in name) stored (begin_stored name))) where
      steps : List Step
      steps = flat_map steps_in (e ∷ es)

-- ---- what variables consist of: each elementary variable begins with a value

abbrev mutual
  HasValues : Composition → Type 0
  HasValues unknown = Unit {0}
  HasValues (elementary v) = IsValue v
  HasValues (array ranges firsts c) = HasValues c
  HasValues (composed name ms chart) = HaveValues ms
  HasValues (standard b) = Unit {0}

  HaveValues : Members → Type 0
  HaveValues none = Unit {0}
  HaveValues (member name kind c ms) = HasValues c × HaveValues ms

mutual
  begin_in : (c : Composition) → HasValues c → Begin (leaves_in c)
  begin_in unknown h = All-nil Begins
  begin_in (elementary v) h = All-from_recursion Begins (leaves_in (elementary v)) (h, tt)
  begin_in (array ranges firsts c) h = begin_elements (subscript_lists ranges) firsts (leaves_in c) (begin_in c h)
  begin_in (composed name ms chart) h =
      let stored = stored_by (member_names ms) chart in
      begin_append (members_in name ms) (chart_in name stored chart) (begin_members name ms h) (begin_chart name stored chart)
  begin_in (standard b) h = begin_block b

  begin_members : (name : List ℕ) (ms : Members) → HaveValues ms → Begin (members_in name ms)
  begin_members name none h = All-nil Begins
  begin_members name (member n kind c ms) (h, more) =
      begin_append (within (field n) name (leaves_in c)) (members_in name ms) (begin_within (field n) name (leaves_in c) (begin_in c h)) (begin_members name ms more)

begin_used : (kind : VarKind) (ls : List LeafIn) → Begin ls → Begin (used_as kind ls)
begin_used var_kinds.Input ls h = All-map Begins (λ l. record { path = l.path; spine = l.spine; initial = l.initial; use' = leaves.as_input l.use' }) ls h
begin_used var_kinds.Internal ls h = h
begin_used var_kinds.Constant ls h = h
begin_used var_kinds.Output ls h = h

begin_variables : (name : List ℕ) (ms : Members) → HaveValues ms → Begin (leaves.variables_in name ms)
begin_variables name none h = All-nil Begins
begin_variables name (member n kind c ms) (h, more) =
    begin_append (within (field n) name (used_as kind (leaves_in c))) (leaves.variables_in name ms)
    (begin_within (field n) name (used_as kind (leaves_in c)) (begin_used kind (leaves_in c) (begin_in c h))) (begin_variables name ms more)

begin_whole : (c : Composition) → HasValues c → Begin (leaves_of_whole c)
begin_whole unknown h = begin_in unknown h
begin_whole (elementary v) h = begin_in (elementary v) h
begin_whole (array ranges firsts c) h = begin_in (array ranges firsts c) h
begin_whole (composed name ms chart) h =
    let stored = stored_by (member_names ms) chart in
    begin_append (leaves.variables_in name ms) (chart_in name stored chart) (begin_variables name ms h) (begin_chart name stored chart)
begin_whole (standard b) h = begin_in (standard b) h

-- ---- those of declarations

has_started : (initial : Option Initial) (c : Composition) → HasValues c → HasValues (started initial c)
has_started None c h = h
has_started (Some (initials.Constant v)) unknown h = h
has_started (Some (initials.Constant v)) (elementary w) h = written_is_value w.elem v
has_started (Some (initials.Constant v)) (array ranges firsts c) h = h
has_started (Some (initials.Constant v)) (composed name ms chart) h = h
has_started (Some (initials.Constant v)) (standard b) h = h
has_started (Some (initials.Array position items)) unknown h = h
has_started (Some (initials.Array position items)) (elementary w) h = h
has_started (Some (initials.Array position items)) (array ranges firsts c) h = h
has_started (Some (initials.Array position items)) (composed name ms chart) h = h
has_started (Some (initials.Array position items)) (standard b) h = h

has_subscripted : (ranges : Option (List Subrange)) (c : Composition) → HasValues c → HasValues (subscripted ranges c)
has_subscripted None c h = h
has_subscripted (Some ranges) c h = h

have_more : (is_left_out : Bool) (name : List ℕ) (kind : VarKind) (c : Composition) (ms : Members) → HasValues c → HaveValues ms → HaveValues (if is_left_out then ms else member name kind c ms)
have_more true name kind c ms h more = more
have_more false name kind c ms h more = (h, more)

module _ (units : List Named) (g : Base → Composition) (has : (b : Base) → HasValues (g b)) where
  has_elements : (initial : Option Initial) (elements : Option Elements) → HasValues (elements_composition g initial elements)
  has_elements initial None = tt
  has_elements initial (Some elements) = has_started initial (g elements.element) (has elements.element)

  has_declared : (v : Declared) → HasValues (declared_composition units g v)
  has_declared v =
      has_started (initial_of units v) (subscripted (shape_of units v.specification).subscripts (started (element_initial units v.specification) (g (shape_of units v.specification).base)))
      (has_subscripted (shape_of units v.specification).subscripts (started (element_initial units v.specification) (g (shape_of units v.specification).base))
      (has_started (element_initial units v.specification) (g (shape_of units v.specification).base) (has (shape_of units v.specification).base)))

  have_members : (vs : List Declared) → HaveValues (members_by units g vs)
  have_members [] = tt
  have_members (v ∷ vs) = have_more (is_constant v.kind) v.name.spelling v.kind (declared_composition units g v) (members_by units g vs) (has_declared v) (have_members vs)

  has_unit : (name : List ℕ) (unit : Declares) → HasValues (unit_composition units g name unit)
  has_unit name (names.type (declared_types.Structure position members)) = have_members (members_of members)
  has_unit name (names.type (declared_types.Derived specification initial)) = tt
  has_unit name (names.function function) = have_members (variables_in (names.function function))
  has_unit name (names.block block) = have_members (variables_in (names.block block))
  has_unit name (names.program program) = have_members (variables_in (names.program program))

  has_optional : (unit : Option Named) → HasValues (optional_composition units g unit)
  has_optional None = tt
  has_optional (Some unit) = has_unit (map to_ascii_uppercase unit.name.spelling) unit.declares

has_within : (units : List Named) (most : ℕ) (base : Base) → HasValues (composition_within units most base)
unfolding composition_within
has_within units zero base = tt
has_within units (suc most) bases.Unknown = tt
has_within units (suc most) (bases.Elementary e) = zero_is_value e
has_within units (suc most) (bases.Array i) = has_elements units (composition_within units most) (has_within units most) (unit_element_initial units (unit_at units i)) (elements_in units (bases.Array i))
has_within units (suc most) (bases.Structure i) = has_optional units (composition_within units most) (has_within units most) (unit_at units i)
has_within units (suc most) (bases.Block i) = has_optional units (composition_within units most) (has_within units most) (unit_at units i)
has_within units (suc most) (bases.Standard b) = tt

pub begin_with_values : BeginWithValues
unfolding composition_of
begin_with_values units unit =
    begin_whole (unit_composition units (composition_within units (suc (length units))) (codes "PROGRAM") unit)
    (has_unit units (composition_within units (suc (length units))) (has_within units (suc (length units))) (codes "PROGRAM") unit)
