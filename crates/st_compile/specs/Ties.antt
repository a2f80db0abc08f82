-- When the two look-ups of a unit's names fit: the scope, by which the rules speak, and the whole, by which programs mean something.
use Rattle.std.specs.Prelude.{◌≡◌, ℕ, true, false, ◌||◌, IsTrue, is_some, List, [], ◌∷◌, length, Some, None}
use Rattle.st_values.specs.declared.elem.Elem.{Elem}
use Rattle.st_values.specs.declared.value.Value.{Value}
use Rattle.st_types.specs.Compositions.{Composition}
use Rattle.st_types.specs.Scopes.{Scope}
use Rattle.st_types.specs.Signatures.{Input, Signature}
use Rattle.st_types.specs.Standard.{standard_of}
use Rattle.st_types.specs.Types.{Elements, Shape, elem_of, is_unknown, plain}
use Rattle.st_types.specs.declared.base.Base.{Base}
use Rattle.st_types.specs.declared.base.Base.TheVariants as bases
use Rattle.st_types.specs.declared.base.Purpose.TheVariants as purposes
use Rattle.st_types.specs.declared.standard.Standard.TheVariants as standards
use Rattle.st_types.specs.declared.symbol.Callee.{Callee}
use Rattle.st_types.specs.declared.symbol.Callee.TheVariants as callees
use Rattle.st_types.specs.declared.symbol.Due.TheVariants as dues
use Rattle.st_types.specs.declared.symbol.Symbol.{Symbol}
use Rattle.st_leaves.specs.Selected.{element_of, selected_by, takes_subscripts, value_type}
use Rattle.st_check_expressions.specs.Variables.{member_of, shape_elements}
use Rattle.st_meaning.specs.Steps.{has_step}
use Rattle.st_meaning.specs.Terms.{whole, field_part}
use Rattle.st_meaning.specs.Wholes.{Called, Input as Given, Whole, block_of, type_of}

-- what a variable is made of, by the rules, and what it consists of
pub data IsMadeOf (scope : Scope) : Shape → Composition → Type 0 where
  made : {s : Shape} {c : Composition} → is_unknown s.base ≡ false
      → ((e : Elem) → elem_of s ≡ Some e → value_type c ≡ Some e)
      → ((elements : Elements) → shape_elements scope s ≡ Some elements → takes_subscripts c (length elements.subscripts) ≡ true)
      → ((elements : Elements) → shape_elements scope s ≡ Some elements → IsMadeOf scope (plain elements.element) (element_of c))
      → ((name : List ℕ) (found : Symbol) → (member_of scope s name).symbol ≡ Some found → IsMadeOf scope found.shape (selected_by c name))
      → IsMadeOf scope s c

pub data IsVariable (scope : Scope) (w : Whole) (name : List ℕ) (s : Symbol) : Type 0 where
  is_constant : (v : Value) → s.purpose ≡ purposes.Constant → w.constants name ≡ Some v → s.shape ≡ plain (bases.Elementary v.elem)
      → IsVariable scope w name s
  is_member : w.constants name ≡ None → IsMadeOf scope s.shape (selected_by w.variables name) → IsVariable scope w name s

-- a step, and no variable
pub record IsStep (w : Whole) (name : List ℕ) : Type 0 where
  pub step : has_step w.variables name ≡ true
  pub apart : (part : List ℕ) → type_of w.variables (field_part name (field_part part whole)) ≡ None

-- inputs of a function by the rules, and as they are given
abbrev pub AreInputs : List Input → List Given → Type 0
AreInputs [] [] = Unit {0}
AreInputs (i ∷ is) (g ∷ gs) = (i.name ≡ g.name) × (i.due ≡ dues.Type g.initial.elem) × AreInputs is gs
AreInputs _ _ = ⊥

-- a function of the text
pub record IsOwn (w : Whole) (name : List ℕ) (f : Signature) : Type 0 where
  pub function : Called
  pub no_standard : standard_of name ≡ None
  pub known : w.functions name ≡ Some function
  pub result : f.result ≡ function.result
  pub inputs : AreInputs f.inputs function.inputs

-- an instance of a function block, standard or of the text, and what is made of its inputs and outputs
pub record IsInstance (scope : Scope) (w : Whole) (name : List ℕ) (base : Base) : Type 0 where
  pub known : IsTrue (is_some (block_of (selected_by w.variables name)) || is_some (w.invoked name))
  pub pins : (pin : List ℕ) (s : Symbol) → (scope.member base pin).symbol ≡ Some s
      → IsMadeOf scope s.shape (selected_by (selected_by w.variables name) pin)

-- what stands for a name that is called; no variable is of an unknown type
abbrev pub IsCallee : Scope → Whole → List ℕ → Callee → Type 0
IsCallee scope w name (callees.Standard f) = standard_of name ≡ Some (standards.Function f)
IsCallee scope w name (callees.Conversion from to) = standard_of name ≡ Some (standards.Conversion from to)
IsCallee scope w name (callees.Own f) = IsOwn w name f
IsCallee scope w name callees.Faulty = ⊥
IsCallee scope w name (callees.Instance base) = IsInstance scope w name base
IsCallee scope w name _ = Unit {0}

pub record Ties (scope : Scope) (w : Whole) : Type 0 where
  pub variable : (name : List ℕ) (s : Symbol) → scope.variable name ≡ Some s → IsVariable scope w name s
  pub step : (name : List ℕ) → scope.variable name ≡ None → scope.step name ≡ true → IsStep w name
  -- no variable has the name of an action
  pub action : (name : List ℕ) → scope.action name ≡ true → type_of w.variables (field_part name whole) ≡ None
  pub callee : (name : List ℕ) → IsCallee scope w name (scope.callee name)
  -- what is one value has no parts
  pub no_members : (e : Elem) (name : List ℕ) → (scope.member (bases.Elementary e) name).symbol ≡ None
  pub no_elements : (e : Elem) → scope.elements (bases.Elementary e) ≡ None
