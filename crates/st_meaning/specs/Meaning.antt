-- The values of expressions, and the places of variables (3.3.1, 2.4.1).
use Rattle.std.specs.Prelude.{ℕ, Bool, true, false, ◌&&◌, if◌then◌else◌, ℤ, int_le, List, [], ◌∷◌, map, get_or, set, Option, Some, None}
use Rattle.std.specs.List.{position}
use Rattle.st_values.specs.declared.elem.Elem.TheVariants as elems
use Rattle.st_values.specs.declared.value.Value.{Value}
use Rattle.st_tree.specs.declared.tree.declaration.Subrange.{Subrange}
use Rattle.st_types.specs.Compositions.{Composition}
use Rattle.st_types.specs.Initials.{zero_of}
use Rattle.st_tree.specs.Literals.{number_of}
use Rattle.st_leaves.specs.LeavesIn.{leaves_in}
use Rattle.st_leaves.specs.Paths.{Path, field, index, is_same_path}
use Rattle.st_leaves.specs.Selected.{element_of, selected_by, subscripts_of}
use Rattle.st_operators.specs.Functions.{selected_of}
use Rattle.st_meaning.specs.Operations.{Answer, gives, stops, stop, then_with, answered_in, binary_value, unary_value, with_step}
use Rattle.st_meaning.specs.Steps.{step_path}
use Rattle.st_meaning.specs.Terms.{Source, written, left_out, Term, constant, stored, of_step, unary, binary, selection, call, Terms, no_terms, more_terms, Parts, whole, field_part, element_part}
use Rattle.st_meaning.specs.declared.fault.RunFaultKind.TheVariants as faults

-- ---- the values of variables: a map from paths to values, as one value for each leaf, in their order

abbrev pub Values : Type 0
Values = List Value

-- what stands where there is no leaf
abbrev pub no_value : Value
no_value = zero_of elems.Bool

-- which of the leaves has this path
abbrev pub leaf_with : Composition → Path → Option ℕ
leaf_with root path = position (λ l. is_same_path path l.path) (leaves_in root)

abbrev pub value_of_leaf : Values → Option ℕ → Value
value_of_leaf values None = no_value
value_of_leaf values (Some n) = get_or values n no_value

-- the value at a path
abbrev pub value_at : Composition → Values → Path → Value
value_at root values path = value_of_leaf values (leaf_with root path)

-- a store to a forced leaf is dropped
abbrev pub stored_to : List Bool → Values → Value → Option ℕ → Values
stored_to forced values v None = values
stored_to forced values v (Some n) = if get_or forced n false then values else set values n v

-- the values after a store at a path
abbrev pub stored_at : Composition → List Bool → Values → Path → Value → Values
stored_at root forced values path v = stored_to forced values v (leaf_with root path)

-- ---- subscripts

-- not below the lower bound, and not above the upper one
abbrev pub is_within : Subrange → ℤ → Bool
is_within r i = int_le (number_of r.lower) i && int_le i (number_of r.upper)

abbrev pub are_within : List Subrange → List ℤ → Bool
are_within [] [] = true
are_within (r ∷ rs) (i ∷ is) = is_within r i && are_within rs is
are_within _ _ = false

abbrev pub when_within : {A : Type 0} → ℕ → List Subrange → List ℤ → Answer A → Answer A
when_within line ranges is go = if are_within ranges is then go else stops (stop faults.IndexOutOfRange line)

abbrev pub numbers_in : Values → List ℤ
numbers_in values = map (λ v. v.bits) values

-- ---- calls of functions of the text (2.5.1)

-- what the function of this number gives of the values of its inputs, in the order of their declaration, with so many steps left
abbrev pub Calls : Type 0
Calls = ℕ → Values → ℕ → Answer Value

-- the value of an input, where the arguments have these
abbrev pub value_from : Values → Source → Value
value_from arguments (written place) = get_or arguments place no_value
value_from arguments (left_out v) = v

abbrev pub inputs_from : Values → List Source → Values
inputs_from arguments sources = map (value_from arguments) sources

-- ---- expressions and places

abbrev mutual
  -- the value of an expression: its operands and arguments from left to right, and both of AND and OR always
  pub value_of : Calls → Composition → Values → Term → ℕ → Answer Value
  value_of calls root values (constant v) left = gives v left
  value_of calls root values (stored ps) left = then_with (located calls root values root ps left) (λ path n. gives (value_at root values path) n)
  value_of calls root values (of_step is_time name) left = gives (value_at root values (step_path is_time name)) left
  value_of calls root values (unary o a) left = then_with (value_of calls root values a left) (λ x n. gives (unary_value o x) n)
  value_of calls root values (binary o line a b) left =
      then_with (value_of calls root values a left) (λ x n. then_with (value_of calls root values b n) (λ y m. binary_value o line x y m))
  value_of calls root values (selection g a b) left =
      then_with (value_of calls root values g left) (λ x n. then_with (value_of calls root values a n) (λ y m.
      then_with (value_of calls root values b m) (λ z k. gives (selected_of x y z) k)))
  -- A call takes a step before its arguments are evaluated.
  value_of calls root values (call line unit result ts sources) left =
      with_step line left (λ n. then_with (values_of calls root values ts n) (λ xs m. answered_in unit (calls unit (inputs_from xs sources) m)))

  pub values_of : Calls → Composition → Values → Terms → ℕ → Answer Values
  values_of calls root values no_terms left = gives [] left
  values_of calls root values (more_terms t ts) left =
      then_with (value_of calls root values t left) (λ x n. then_with (values_of calls root values ts n) (λ xs m. gives (x ∷ xs) m))

  -- the path of a place in a part of the root: each list of subscripts is evaluated from left to right, and then tested
  pub located : Calls → Composition → Values → Composition → Parts → ℕ → Answer Path
  located calls root values c whole left = gives [] left
  located calls root values c (field_part name ps) left =
      then_with (located calls root values (selected_by c name) ps left) (λ path n. gives (field name ∷ path) n)
  located calls root values c (element_part line ts ps) left =
      then_with (values_of calls root values ts left) (λ xs n.
      when_within line (subscripts_of c) (numbers_in xs)
      (then_with (located calls root values (element_of c) ps n) (λ path m. gives (index (numbers_in xs) ∷ path) m)))
