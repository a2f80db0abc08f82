-- Functions call those of a lower rank where what each unit refers to has one.
use Rattle.std.proofs.Common.{◌≡◌, ℕ, ◌<◌, nat_lt, Bool, true, false, ◌&&◌, ◌||◌, if◌then◌else◌, not, List, [], ◌∷◌, Option, Some, None, option_map, refl, ap, sym, ◌∙◌, subst}
use Rattle.std.specs.List.{Contains, flat_map}
use Rattle.std.proofs.lemmas.Bool.{lt-ltb}
use Rattle.std.proofs.lemmas.List.Elements.{Contains-append_left, Contains-append_right}
use Rattle.st_values.specs.Words.{is_word}
use Rattle.st_references.proofs.Listed.{Contains-head}
use Rattle.st_tree.specs.declared.tree.declaration.Subrange.{Subrange}
use Rattle.st_tree.specs.declared.tree.declaration.VarKind.{VarKind}
use Rattle.st_tree.specs.declared.tree.position.Identifier.{Identifier}
use Rattle.st_tree.specs.declared.tree.unit.Function.{Function}
use Rattle.st_types.specs.Names.{Declared, Declares, Named, declared_named, number_of, unit_at, unit_by, variables_in}
use Rattle.st_types.specs.Names as names
use Rattle.st_types.specs.Scopes.{base_callee, callee_named, global_callee, optional_callee, placed, shape_callee, signature_of, symbol, symbol_callee, symbol_of, unit_callee, variable_in, variable_named, variable_of}
use Rattle.st_types.specs.Signatures.{Signature}
use Rattle.st_types.specs.Standard.{standard_of}
use Rattle.st_types.specs.Types.{Shape, is_instance, is_value, plain, shape_of, unknown}
use Rattle.st_types.specs.declared.base.Base.{Base}
use Rattle.st_types.specs.declared.base.Base.TheVariants as bases
use Rattle.st_types.specs.declared.base.Purpose.TheVariants as purposes
use Rattle.st_types.specs.declared.symbol.Callee.TheVariants as callees
use Rattle.st_references.specs.Calls.{statement_calls, unit_calls}
use Rattle.st_references.specs.References.{called, contained, is_own, listed, unit_types}
use Rattle.st_meaning.specs.CalledBy.{CalledTest, CommandsCall}
use Rattle.st_meaning.specs.Typing.{body_of}
use Rattle.st_meaning.specs.Units.{called_as, called_by, function_by, functions_in, inputs_in, members_of_function, statements_of, unit_whole}
use Rattle.st_meaning.specs.Wholes.{Called, Whole}
use Rattle.st_compile.specs.Named.{BodiesPass, NamesPass}
use Rattle.st_compile.specs.Ranks.{FunctionsCallBelow, FunctionsHaveNoInstances, ReferBelow}
use Rattle.st_compile.proofs.NamedStatements.{typing_calls_what_is_named}

-- ---- the name of a function, in a function

-- it isn't hidden by a variable that is no instance
base_own : (s : Signature) (b : Base) → is_instance b ≡ false → is_own (base_callee (callees.Own s) b) ≡ true
base_own s bases.Unknown h = refl
base_own s (bases.Elementary e) h = refl
base_own s (bases.Array i) h = refl
base_own s (bases.Structure i) h = refl
base_own s (bases.Block i) h = cc
base_own s (bases.Standard b) h = cc

shape_own : (s : Signature) (subscripts : Option (List Subrange)) (b : Base) → is_instance b ≡ false → is_own (shape_callee (callees.Own s) subscripts b) ≡ true
shape_own s None b h = base_own s b h
shape_own s (Some ranges) b h = refl

-- no variable of a function is an instance
placed_so : (f : Function) (kind : VarKind) (shape : Shape) → is_instance (placed (names.function f) kind shape).base ≡ false
placed_so f kind shape = by (is_instance shape.base) refl where
  either : (c : Bool) → is_instance shape.base ≡ false → is_instance (if c then unknown else shape).base ≡ false
  either true h = refl
  either false h = h

  by : (b : Bool) → is_instance shape.base ≡ b → is_instance (if (b && true) || not (is_value shape) then unknown else shape).base ≡ false
  by true h = refl
  by false h = either (not (is_value shape)) h

module _ (units : List Named) (f : Function) where
  variable_own : (s : Signature) (o : Option Declared) → is_own (symbol_callee (callees.Own s) (option_map (symbol_of units (names.function f)) o)) ≡ true
  variable_own s None = refl
  variable_own s (Some v) =
      let shape = placed (names.function f) v.kind (shape_of units v.specification) in
      shape_own s shape.subscripts shape.base (placed_so f v.kind (shape_of units v.specification))

  symbol_own : (s : Signature) (name : List ℕ) → is_own (symbol_callee (callees.Own s) (variable_of units (names.function f) name)) ≡ true
  symbol_own s name = by (is_word f.name.spelling name) where
    by : (b : Bool) → is_own (symbol_callee (callees.Own s) (if b then Some (symbol purposes.Result (plain (bases.Elementary f.result))) else variable_in units (names.function f) name)) ≡ true
    by true = refl
    by false = variable_own s (declared_named (variables_in (names.function f)) name)

  -- what stands for a function by its name
  found_own : (u : Named) (g : Function) → u.declares ≡ names.function g → optional_callee units (Some u) ≡ callees.Own (signature_of units g)
  found_own u g is = ap (λ d. unit_callee units d) is

  callee_own : (name : List ℕ) (n : ℕ) (u : Named) (g : Function) → standard_of name ≡ None → number_of units name ≡ Some n → unit_at units n ≡ Some u → u.declares ≡ names.function g
      → is_own (callee_named units (names.function f) name) ≡ true
  unfolding callee_named variable_named
  callee_own name n u g plain' found at is =
      let own : global_callee units name (standard_of name) ≡ callees.Own (signature_of units g) =
      ap (global_callee units name) plain' ∙ ap (λ o. optional_callee units (unit_by units o)) found ∙ ap (optional_callee units) at ∙ found_own u g is in
      ap (λ c. is_own (symbol_callee c (variable_of units (names.function f) name))) own ∙ symbol_own (signature_of units g) name

  -- ---- what a function calls, it refers to

  -- the unit that is called, and its number
  record IsUnit (number : ℕ) (g : Called) : Type 0 where
    same : g.number ≡ number
    unit : Named
    at : unit_at units number ≡ Some unit
    function : Function
    declares : unit.declares ≡ names.function function

  called_unit : (number : ℕ) (d : Declares) (g : Called) → called_as units number d ≡ Some g → (g.number ≡ number) × ((function : Function) × (d ≡ names.function function))
  called_unit number (names.function h) g e =
      let same : record { number = number; result = h.result; inputs = inputs_in (members_of_function units h) } ≡ g = cc in
      (sym (ap (λ c. c.number) same), (h, refl))
  called_unit number (names.type t) g e = cc
  called_unit number (names.block b) g e = cc
  called_unit number (names.program p) g e = cc

  unit_of : (number : ℕ) (o : Option Named) (g : Called) → unit_at units number ≡ o → called_by units number o ≡ Some g → IsUnit number g
  unit_of number None g at e = cc
  unit_of number (Some u) g at e =
      let is = called_unit number u.declares g e in
      record { same = is.0; unit = u; at = at; function = is.1.0; declares = is.1.1 }

  module _ (rank : ℕ → ℕ) (number : ℕ) where
    number_passes : (name : List ℕ) (o : Option ℕ) (g : Called) → number_of units name ≡ o → standard_of name ≡ None → function_by units o ≡ Some g
        → ((j : ℕ) → Contains (called units (names.function f) name) j → rank j < rank number) → nat_lt (rank g.number) (rank number) ≡ true
    number_passes name None g found plain' e below = cc
    number_passes name (Some n) g found plain' e below =
        let is = unit_of n (unit_at units n) g refl e in
        let own = callee_own name n is.unit is.function plain' found is.at is.declares in
        let row : called units (names.function f) name ≡ n ∷ [] = ap (λ b. if b then listed (number_of units name) else []) own ∙ ap listed found in
        let less = below n (subst (λ l. Contains l n) (sym row) (Contains-head n [])) in
        ap (λ m. nat_lt (rank m) (rank number)) is.same ∙ lt-ltb (rank n) (rank number) less

    names_pass : (w : Whole) → ((name : List ℕ) → w.functions name ≡ functions_in units name) → (called_names : List (List ℕ))
        → ((j : ℕ) → Contains (flat_map (called units (names.function f)) called_names) j → rank j < rank number)
        → NamesPass w (λ n. nat_lt (rank n) (rank number)) called_names
    names_pass w are [] below = tt
    names_pass w are (name ∷ more) below =
        let first = called units (names.function f) name in
        let rest = flat_map (called units (names.function f)) more in (
          (λ g plain' h. number_passes name (number_of units name) g refl plain' (sym (are name) ∙ h) (λ j k. below j (Contains-append_left first rest j k))),
          names_pass w are more (λ j k. below j (Contains-append_right first rest j k)),
        )

module _ (units : List Named) (rank : ℕ → ℕ) (below : ReferBelow units rank) (none : FunctionsHaveNoInstances units) where
  body_calls : (number : ℕ) (name : Identifier) (f : Function) → unit_at units number ≡ Some (record { name = name; declares = names.function f })
      → CommandsCall (λ n. nat_lt (rank n) (rank number)) (body_of (unit_whole units (record { name = name; declares = names.function f })) f.statements)
  unfolding unit_whole
  body_calls number name f at =
      let u : Named = record { name = name; declares = names.function f } in
      let w = unit_whole units u in
      let test : CalledTest = (λ n. nat_lt (rank n) (rank number)) in
      let contains = flat_map (contained units) (unit_types (names.function f)) in
      let calls = flat_map (called units (names.function f)) (unit_calls (names.function f)) in
      let no_bodies : BodiesPass w test = (λ other unit h. absurd (let e : None ≡ Some unit = sym (none number u f other at refl) ∙ h in cc)) in
      typing_calls_what_is_named w test f.statements
      (names_pass units f rank number w (λ other. refl) (flat_map statement_calls f.statements) (λ j k. below number j u at (Contains-append_right contains calls j k)))
      no_bodies

  unit_calls_below : (number : ℕ) (name : Identifier) (d : Declares) (f : Function) → unit_at units number ≡ Some (record { name = name; declares = d }) → d ≡ names.function f
      → CommandsCall (λ n. nat_lt (rank n) (rank number)) (body_of (unit_whole units (record { name = name; declares = d })) (statements_of d))
  unit_calls_below number name (names.function g) f at is = body_calls number name g at
  unit_calls_below number name (names.type t) f at is = cc
  unit_calls_below number name (names.block b) f at is = cc
  unit_calls_below number name (names.program p) f at is = cc

pub functions_call_below : FunctionsCallBelow
functions_call_below units rank below none number unit f at is = unit_calls_below units rank below none number unit.name unit.declares f at is
