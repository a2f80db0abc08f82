-- What a variable is made of, taken apart.
use Rattle.std.proofs.Common.{◌≡◌, ℕ, true, false, List, length, Some}
use Rattle.st_values.specs.declared.elem.Elem.{Elem}
use Rattle.st_types.specs.Compositions.{Composition}
use Rattle.st_types.specs.Scopes.{Scope}
use Rattle.st_types.specs.Types.{Elements, Shape, elem_of, is_unknown, plain}
use Rattle.st_types.specs.declared.symbol.Symbol.{Symbol}
use Rattle.st_leaves.specs.Selected.{element_of, selected_by, takes_subscripts, value_type}
use Rattle.st_check_expressions.specs.Variables.{member_of, shape_elements}
use Rattle.st_compile.specs.Ties.{IsMadeOf, made}

module _ (scope : Scope) where
  pub made_known : (s : Shape) (c : Composition) → IsMadeOf scope s c → is_unknown s.base ≡ false
  made_known s c (made known value takes elements members) = known

  pub made_value : (s : Shape) (c : Composition) → IsMadeOf scope s c → (e : Elem) → elem_of s ≡ Some e → value_type c ≡ Some e
  made_value s c (made known value takes elements members) = value

  pub made_takes : (s : Shape) (c : Composition) → IsMadeOf scope s c → (elements : Elements) → shape_elements scope s ≡ Some elements → takes_subscripts c (length elements.subscripts) ≡ true
  made_takes s c (made known value takes elements members) = takes

  pub made_elements : (s : Shape) (c : Composition) → IsMadeOf scope s c → (elements : Elements) → shape_elements scope s ≡ Some elements → IsMadeOf scope (plain elements.element) (element_of c)
  made_elements s c (made known value takes elements members) = elements

  pub made_members : (s : Shape) (c : Composition) → IsMadeOf scope s c → (name : List ℕ) (found : Symbol) → (member_of scope s name).symbol ≡ Some found → IsMadeOf scope found.shape (selected_by c name)
  made_members s c (made known value takes elements members) = members
