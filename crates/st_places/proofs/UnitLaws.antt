-- Instances in the units of checked programs.
use Rattle.std.proofs.Common.{◌≡◌, ℕ, ◌<◌, Bool, true, List, length, get_or, get_or-take, take, Option, Some, None, refl, ap, sym, ◌∙◌, subst, arith, inl, inr, if◌then◌else◌}
use Rattle.std.specs.List.{Contains, flat_map, slice_get}
use Rattle.std.proofs.lemmas.Bool.{cases_lt}
use Rattle.std.proofs.lemmas.List.{length-take-le}
use Rattle.std.proofs.lemmas.List.Elements.{Contains-append_left}
use Rattle.std.proofs.lemmas.Option.{get_or_from_slice_get, same_Some, slice_get_within}
use Rattle.st_check.specs.Programs.{IsChecked, ProgramView, order_of, text_of}
use Rattle.st_meaning.specs.Units.{root_name, root_of, unit_root, unit_whole}
use Rattle.st_meaning.specs.Wholes.{Invoked}
use Rattle.st_references.specs.Graphs.{Graph, IsOrder, Refers}
use Rattle.st_references.proofs.Orders.{references_are_before}
use Rattle.st_check.proofs.Names.{of_shape}
use Rattle.st_references.specs.Calls.{unit_calls}
use Rattle.st_references.specs.References.{called, contained, graph_of, references, specified_names, unit_types}
use Rattle.st_references.proofs.Lists.{all_of}
use Rattle.st_references.proofs.Units.{made_of_unit}
use Rattle.st_tree.specs.declared.tree.declaration.Initial.{Initial}
use Rattle.st_tree.specs.declared.tree.declaration.Initial.TheVariants as initials
use Rattle.st_tree.specs.declared.tree.declaration.Specification.{Specification}
use Rattle.st_tree.specs.declared.tree.declaration.Subrange.{Subrange}
use Rattle.st_tree.specs.declared.tree.unit.ChartElement.{ChartElement}
use Rattle.st_types.specs.Compositions.{Composition, composed, Members, declared_composition, members_by, optional_composition, started, subscripted}
use Rattle.st_types.specs.Initials.{element_initial, initial_of}
use Rattle.st_types.specs.Names.{Declared, Declares, Named, chart_in, unit_at, units_of}
use Rattle.st_types.specs.Types.{shape_of, type_at}
use Rattle.st_types.specs.declared.base.Base.{Base}
use Rattle.st_types.specs.declared.base.Base.TheVariants as bases
use Rattle.st_places.specs.Contents.{IsUnfolded}
use Rattle.st_places.specs.Laws.{InstancesAreOfBlocks, IsInstance}
use Rattle.st_places.specs.Parts.{inside, is_block, own_names}
use Rattle.st_places.proofs.Blocks.{IsDeclared, IsKnown, all_named, known_shape, own_number}
use Rattle.st_places.proofs.Instances.{AreFound, IsOfDeclared, among, block_root, contained_in, declared_instance, invocation, of_block, of_unit, optional_invocation, selected_of_unit, shape_invocation, shape_unfolded}
use Rattle.st_places.proofs.Roots.{root_is}
use Rattle.st_places.proofs.Selections.{all_unfolded}

-- ---- what is referred to stands before

-- a row that another one refers to stands before it
pub stands_before : (graph : Graph) (order : List ℕ) (a b p q : ℕ) → IsOrder graph order → Refers graph a b → slice_get order p ≡ Some b → slice_get order q ≡ Some a → p < q
stands_before graph order a b p q ordered refers at_b at_a =
    let below : q < length order = slice_get_within order q a at_a in
    let here : get_or order q 0 ≡ a = get_or_from_slice_get order q a 0 at_a in
    let has : Contains (take q order) b = references_are_before graph order q b ordered below (subst (λ row. Refers graph row b) (sym here) refers) in
    let earlier : has.0 < q = omega (arith, has.1, length-take-le q order (omega (arith, below))) in
    let there : get_or order has.0 b ≡ b = sym (get_or-take q order has.0 b earlier) ∙ has.2 in
    elim (cases_lt p q) as (λ _. p < q) [
      | inl lt ↦ lt
      | inr past ↦ absurd (ordered.once has.0 p b (omega (arith, earlier, past)) (slice_get_within order p b at_b) (there ∙ sym (get_or_from_slice_get order p b b at_b)))
    ]

module _ (units : List Named) where
  -- a function block that is specified is contained
  base_contained : (s : Specification) (j : ℕ) → (shape_of units s).base ≡ bases.Block j → Contains (flat_map (contained units) (specified_names s)) j
  base_contained s =
      of_shape units (λ base. (j : ℕ) → base ≡ bases.Block j → Contains (flat_map (contained units) (specified_names s)) j) (λ j is. absurd (cc)) (λ e j is. absurd (cc)) (λ b j is. absurd (cc)) s
      (all_of (λ i. (j : ℕ) → type_at units i ≡ bases.Block j → Contains (flat_map (contained units) (specified_names s)) j) (flat_map (contained units) (specified_names s))
      (λ i has j is. subst (Contains (flat_map (contained units) (specified_names s))) (own_number units i j is) has))

  -- what a unit contains is in its row
  refers_to : (i : ℕ) (u : Named) (j : ℕ) → unit_at units i ≡ Some u → Contains (flat_map (contained units) (unit_types u.declares)) j → Refers (graph_of units) i j
  refers_to i u j at has =
      subst (λ row. Contains row j) (sym (made_of_unit (λ v. references units v.declares) units i u at))
      (Contains-append_left (flat_map (contained units) (unit_types u.declares)) (flat_map (called units u.declares) (unit_calls u.declares)) j has)

  -- ---- the function block of an instance

  pub record IsBlockOf (ranges : Option (List Subrange)) (base : Base) (f : Invoked) : Type 0 where
    pub block : Named
    pub at : unit_at units f.number ≡ Some block
    pub is : is_block block.declares ≡ true
    pub plain : ranges ≡ None
    pub type : base ≡ bases.Block f.number
    pub invoked : f ≡ invocation units f.number block

  by_declared : (j : ℕ) (f : Invoked) → (known : IsDeclared units j true) → optional_invocation units j (unit_at units j) ≡ Some f → invocation units j known.unit ≡ f
  by_declared j f known is =
      same_Some (invocation units j known.unit) f
      (sym (ap (λ (b : Bool). if b then Some (invocation units j known.unit) else None) known.is) ∙ sym (ap (optional_invocation units j) known.at) ∙ is)

  block_of : (ranges : Option (List Subrange)) (base : Base) (f : Invoked) → IsKnown units base → shape_invocation units ranges base ≡ Some f → IsBlockOf ranges base f
  block_of (Some ranges) base f known is = absurd (cc)
  block_of None bases.Unknown f known is = absurd (cc)
  block_of None (bases.Elementary e) f known is = absurd (cc)
  block_of None (bases.Array i) f known is = absurd (cc)
  block_of None (bases.Structure i) f known is = absurd (cc)
  block_of None (bases.Block j) f known is =
      let same : invocation units j known.unit ≡ f = by_declared j f known is in
      let number : j ≡ f.number = ap Invoked.number same in
      record {
        block = known.unit;
        at = subst (λ k. unit_at units k ≡ Some known.unit) number known.at;
        is = known.is;
        plain = refl;
        type = ap bases.Block number;
        invoked = sym same ∙ ap (λ k. invocation units k known.unit) number;
      }
  block_of None (bases.Standard b) f known is = absurd (cc)

  started_composed : (initial : Option Initial) (name : List ℕ) (ms : Members) (chart : List ChartElement) → started initial (composed name ms chart) ≡ composed name ms chart
  started_composed None name ms chart = refl
  started_composed (Some (initials.Constant k)) name ms chart = refl
  started_composed (Some (initials.Array position items)) name ms chart = refl

  started_unit : (initial : Option Initial) (name : List ℕ) (d : Declares) → started initial (unit_root units name d) ≡ unit_root units name d
  started_unit initial name d =
      subst (λ c. started initial c ≡ c) (sym (root_is units name d)) (started_composed initial name (members_by units (inside units) (own_names d)) (chart_in d))

  module _ (found : AreFound units) where
    -- what is declared as an instance consists of what the variables of the function block do
    same_variables : (v : Declared) (f : Invoked) → (of : IsBlockOf (shape_of units v.specification).subscripts (shape_of units v.specification).base f)
        → declared_composition units (inside units) v ≡ root_of units of.block
    same_variables v f of =
        let unfolds : IsUnfolded units (bases.Block f.number) = subst (IsUnfolded units) of.type (shape_unfolded units found v.specification) in
        let begins : Option Initial = element_initial units v.specification in
        let whole : inside units (bases.Block f.number) ≡ root_of units of.block =
        of_block units found f.number unfolds ∙ ap (optional_composition units (inside units)) of.at ∙ block_root units of.block of.is in
        ap (λ (ranges : Option (List Subrange)). started (initial_of units v) (subscripted ranges (started begins (inside units (shape_of units v.specification).base)))) of.plain
        ∙ ap (λ (base : Base). started (initial_of units v) (started begins (inside units base))) of.type
        ∙ ap (λ (c : Composition). started (initial_of units v) (started begins c)) whole
        ∙ ap (started (initial_of units v)) (started_unit begins (root_name of.block.name.spelling of.block.declares) of.block.declares)
        ∙ started_unit (initial_of units v) (root_name of.block.name.spelling of.block.declares) of.block.declares

    pub one_instance : (order : List ℕ) → IsOrder (graph_of units) order → (i : ℕ) (u : Named) → unit_at units i ≡ Some u → (name : List ℕ) (f : Invoked)
        → (unit_whole units u).invoked name ≡ Some f → IsInstance units order i u name f
    unfolding unit_whole
    one_instance order ordered i u at name f is =
        let whole : List ℕ = root_name u.name.spelling u.declares in
        let own : IsOfDeclared units (own_names u.declares) name f = among units (own_names u.declares) name f (sym (of_unit units whole u.declares name) ∙ is) in
        let of : IsBlockOf (shape_of units own.v.specification).subscripts (shape_of units own.v.specification).base f =
        block_of (shape_of units own.v.specification).subscripts (shape_of units own.v.specification).base f (known_shape units own.v.specification)
        (sym (declared_instance units found own.v) ∙ own.instance) in
        let refers : Refers (graph_of units) i f.number =
        refers_to i u f.number at (contained_in units u.declares f.number (own.contained f.number (base_contained own.v.specification f.number of.type))) in
        record {
          block = of.block;
          at = of.at;
          is_block = of.is;
          same = selected_of_unit units whole u.declares name ∙ own.selected ∙ same_variables own.v f of;
          body = ap Invoked.body of.invoked;
          before = λ p q there here. stands_before (graph_of units) order i f.number p q ordered refers there here;
        }

pub checked_units : (program : ProgramView) → IsChecked program → AreFound (units_of (text_of program))
checked_units program checked = record {
  named = all_named (units_of (text_of program)) checked.faultless;
  unfolded = all_unfolded (units_of (text_of program)) (order_of program) checked.ordered;
}

pub instances_are_of_blocks : InstancesAreOfBlocks
instances_are_of_blocks program checked i u at name f is =
    one_instance (units_of (text_of program)) (checked_units program checked) (order_of program) checked.ordered i u at name f is
