use Rattle.std.proofs.Common.{◌≡◌, ◌∙◌, ℤ, ap, refl}
use Rattle.st_tree.specs.declared.leaf.Leaf.{Leaf}
use Rattle.st_values.specs.Values.{wrapped}
use Rattle.st_values.specs.declared.elem.Elem.{Elem}
use Rattle.st_values.specs.declared.elem.Elem.TheVariants as elems
use Rattle.st_values.specs.declared.value.Value.{Value}
use Rattle.st_cases.proofs.made.saved.value_of.Goals as goal

-- a wrapped value is of the type
type_of : (elem : Elem) (number : ℤ) → (wrapped elem number).elem ≡ elem
type_of elems.Bool number = refl
type_of elems.Sint number = refl
type_of elems.Int number = refl
type_of elems.Dint number = refl
type_of elems.Lint number = refl
type_of elems.Usint number = refl
type_of elems.Uint number = refl
type_of elems.Udint number = refl
type_of elems.Ulint number = refl
type_of elems.Byte number = refl
type_of elems.Word number = refl
type_of elems.Dword number = refl
type_of elems.Lword number = refl
type_of elems.Time number = refl

pub returns : goal.returns
returns c = record {
  elem = ap (λ (value : Value). value.elem) c.wrap.ensures.value ∙ (type_of c.at.result.now.elem _ ∙ ap (λ (leaf : Leaf). leaf.elem) c.at.ensures.value);
  in_range = c.wrap.ensures.in_range;
}
