-- No variable of a function of a checked program is an instance.
use Rattle.std.proofs.Common.{◌≡◌, ℕ, suc, Bool, true, false, if◌then◌else◌, List, [], ◌∷◌, length, None, Some, refl, ap}
use Rattle.std.specs.List.{All}
use Rattle.std.proofs.lemmas.List.Elements.{All-head, All-tail}
use Rattle.st_check.specs.Laws.{IsOneValue}
use Rattle.st_check.specs.Programs.{IsChecked, ProgramView, text_of}
use Rattle.st_check.proofs.ElementaryFunctions.{elementary_functions}
use Rattle.st_values.specs.Words.{is_word}
use Rattle.st_values.specs.declared.value.Value.{Value}
use Rattle.st_tree.specs.declared.tree.position.Identifier.{Identifier}
use Rattle.st_tree.specs.declared.tree.unit.Function.{Function}
use Rattle.st_tree.specs.Kinds.{is_constant}
use Rattle.st_types.specs.Compositions.{Composition, Members, composition_within, declared_composition, elementary, member, members_by, none}
use Rattle.st_types.specs.Initials.{zero_of}
use Rattle.st_types.specs.Names.{Declared, Declares, Named, named, unit_at, units_of, variables_of}
use Rattle.st_types.specs.Names as names
use Rattle.st_leaves.specs.Selected.{member_selected, selected_by}
use Rattle.st_meaning.specs.Units.{instance_of, member_instance, members_of_function, root_of, unit_whole}
use Rattle.st_meaning.specs.Wholes.{block_of}
use Rattle.st_compile.specs.Checked.{CheckedFunctionsHaveNoBlocks, CheckedFunctionsHaveNoInstances}

-- each member is one value
abbrev AreValues : Members → Type 0
AreValues none = Unit {0}
AreValues (member name kind c ms) = ((v : Value) × (c ≡ elementary v)) × AreValues ms

-- ---- what no such member is

module _ (units : List Named) where
  no_instance : (ms : Members) → AreValues ms → (name : List ℕ) → member_instance units ms name ≡ None
  no_instance none values name = refl
  no_instance (member other kind c ms) values name =
      by (is_word other name) (ap (instance_of units) values.0.1) (no_instance ms values.1 name) where
        by : (b : Bool) → instance_of units c ≡ None → member_instance units ms name ≡ None → (if b then instance_of units c else member_instance units ms name) ≡ None
        by true first more = first
        by false first more = more

no_block : (ms : Members) → AreValues ms → (name : List ℕ) → block_of (member_selected ms name) ≡ None
no_block none values name = refl
no_block (member other kind c ms) values name = by (is_word other name) (ap block_of values.0.1) (no_block ms values.1 name) where
  by : (b : Bool) → block_of c ≡ None → block_of (member_selected ms name) ≡ None → block_of (if b then c else member_selected ms name) ≡ None
  by true first more = first
  by false first more = more

-- ---- the members of a function

module _ (units : List Named) where
  abbrev of_declared : Declared → Composition
  of_declared v = declared_composition units (composition_within units (suc (length units))) v

  members_are : (vs : List Declared) → All (λ v. IsOneValue (of_declared v)) vs → AreValues (members_by units (composition_within units (suc (length units))) vs)
  members_are [] all = tt
  members_are (v ∷ vs) all =
      by (is_constant v.kind) (All-head (λ w. IsOneValue (of_declared w)) v vs all) (members_are vs (All-tail (λ w. IsOneValue (of_declared w)) v vs all)) where
        by : (b : Bool) → IsOneValue (of_declared v) → AreValues (members_by units (composition_within units (suc (length units))) vs)
            → AreValues (if b then members_by units (composition_within units (suc (length units))) vs else member v.name.spelling v.kind (of_declared v) (members_by units (composition_within units (suc (length units))) vs))
        by true first more = more
        by false first more = ((first.value, first.is), more)

  function_members : (f : Function) → All (λ v. IsOneValue (of_declared v)) (variables_of f.variables) → AreValues (members_of_function units f)
  function_members f all = ((zero_of f.result, refl), members_are (variables_of f.variables) all)

module _ (program : ProgramView) (checked : IsChecked program) where
  abbrev units_in : List Named
  units_in = units_of (text_of program)

  values_of : (number : ℕ) (unit : Named) (f : Function) → unit_at units_in number ≡ Some unit → unit.declares ≡ names.function f → AreValues (members_of_function units_in f)
  values_of number unit f at is = function_members units_in f (elementary_functions program checked number unit f at is)

  instance_by : (number : ℕ) (unit : Identifier) (d : Declares) (f : Function) (name : List ℕ) → unit_at units_in number ≡ Some (named unit d) → d ≡ names.function f
      → (unit_whole units_in (named unit d)).invoked name ≡ None
  unfolding unit_whole
  instance_by number unit (names.function g) f name at is = no_instance units_in (members_of_function units_in g) (values_of number (named unit (names.function g)) g at refl) name
  instance_by number unit (names.type t) f name at is = absurd cc
  instance_by number unit (names.block b) f name at is = absurd cc
  instance_by number unit (names.program p) f name at is = absurd cc

  block_by : (number : ℕ) (unit : Identifier) (d : Declares) (f : Function) (name : List ℕ) → unit_at units_in number ≡ Some (named unit d) → d ≡ names.function f
      → block_of (selected_by (root_of units_in (named unit d)) name) ≡ None
  block_by number unit (names.function g) f name at is = no_block (members_of_function units_in g) (values_of number (named unit (names.function g)) g at refl) name
  block_by number unit (names.type t) f name at is = absurd cc
  block_by number unit (names.block b) f name at is = absurd cc
  block_by number unit (names.program p) f name at is = absurd cc

pub functions_have_no_instances : CheckedFunctionsHaveNoInstances
functions_have_no_instances program checked number unit f name at is = instance_by program checked number unit.name unit.declares f name at is

pub functions_have_no_blocks : CheckedFunctionsHaveNoBlocks
functions_have_no_blocks program checked number unit f name at is = block_by program checked number unit.name unit.declares f name at is
