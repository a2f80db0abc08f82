-- Which units types are, and under which names units are found.
use Rattle.std.proofs.Common.{◌≡◌, ℕ, zero, suc, Bool, true, false, List, [], ◌∷◌, ◌++◌, map, length, Option, Some, None, is_some, refl, ap, sym, ◌∙◌, subst, if◌then◌else◌}
use Rattle.std.specs.Char.{to_ascii_lowercase}
use Rattle.std.specs.Option.{option_map}
use Rattle.std.specs.Str.{bytes_eq}
use Rattle.std.proofs.lemmas.List.Folds.{list_any-append}
use Rattle.st_values.specs.Words.{is_word, raised}
use Rattle.st_leaves.proofs.RaisedWords.{same_raised, lowered}
use Rattle.st_tree.specs.declared.tree.declaration.DeclaredType.TheVariants as declared_types
use Rattle.st_tree.specs.declared.tree.declaration.Specification.{Specification}
use Rattle.st_tree.specs.declared.tree.declaration.Specification.TheVariants as specifications
use Rattle.st_tree.specs.declared.tree.declaration.TypeName.{TypeName}
use Rattle.st_tree.specs.declared.tree.declaration.TypeName.TheVariants as type_names
use Rattle.st_tree.specs.declared.tree.position.Identifier.{Identifier}
use Rattle.st_faults.specs.Faults.{fault, when}
use Rattle.st_faults.specs.declared.fault.Rule.TheVariants as rules
use Rattle.st_check_units.specs.Repeats.{is_there}
use Rattle.st_check_units.specs.Units.{is_past_limit, is_taken, name_faults, names_faults, node_faults, units_faults}
use Rattle.st_check.proofs.Apart.{kept_when, neither, nothing_parts}
use Rattle.st_types.specs.Names.{Declares, Named, named, number_of, unit_at}
use Rattle.st_types.specs.Names as names
use Rattle.st_types.specs.Standard.{standard_of}
use Rattle.st_types.specs.Types.{is_unknown, name_stands_for, optional_stands_for, shape_of, stands_for, type_at, type_within, unit_stands_for, without_instance}
use Rattle.st_types.specs.declared.base.Base.{Base}
use Rattle.st_types.specs.declared.base.Base.TheVariants as bases
use Rattle.st_types.specs.declared.standard.Standard.{Standard}
use Rattle.st_types.specs.declared.standard.Standard.TheVariants as standards
use Rattle.st_places.specs.Contents.{AreNamed, IsNoFunction, is_function_in}
use Rattle.st_places.specs.Parts.{is_block, is_function}
use Rattle.st_places.proofs.Entries.{of_specified}
use Rattle.st_places.proofs.Lookups.{position-here, position-next}

-- ---- structures and function blocks are units

-- the unit of this number, which is no function, and whether it is a function block
pub record IsDeclared (units : List Named) (i : ℕ) (b : Bool) : Type 0 where
  pub unit : Named
  pub at : unit_at units i ≡ Some unit
  pub is : is_block unit.declares ≡ b
  pub no_function : is_function unit.declares ≡ false

abbrev pub IsKnown : List Named → Base → Type 0
IsKnown units (bases.Structure i) = IsDeclared units i false
IsKnown units (bases.Block i) = IsDeclared units i true
IsKnown units _ = Unit {0}

module _ (units : List Named) where
  known_without : (base : Base) → IsKnown units base → IsKnown units (without_instance base)
  known_without bases.Unknown is = tt
  known_without (bases.Elementary e) is = tt
  known_without (bases.Array i) is = tt
  known_without (bases.Structure i) is = is
  known_without (bases.Block i) is = tt
  known_without (bases.Standard b) is = tt

  known_array : (i : ℕ) (t : Bool) → IsKnown units (if t then bases.Unknown else bases.Array i)
  known_array i true = tt
  known_array i false = tt

  known_stands : (types : ℕ → Base) → ((i : ℕ) → IsKnown units (types i)) → (s : Option Standard) (n : Option ℕ) → IsKnown units (stands_for types s n)
  known_stands types each (Some (standards.Block b)) n = tt
  known_stands types each (Some (standards.Function f)) n = tt
  known_stands types each (Some (standards.Conversion x y)) n = tt
  known_stands types each None None = tt
  known_stands types each None (Some i) = each i

  module _ (f : List ℕ → Base) (each : (name : List ℕ) → IsKnown units (f name)) where
    known_name : (t : TypeName) → IsKnown units (name_stands_for f t)
    known_name (type_names.Elementary position e) = tt
    known_name (type_names.Declared identifier) = each identifier.spelling

    known_unit : (i : ℕ) (name : Identifier) (unit : Declares) → unit_at units i ≡ Some (named name unit) → IsKnown units (unit_stands_for f i unit)
    known_unit i name (names.type (declared_types.Derived (specifications.Simple t) initial)) at = known_without (name_stands_for f t) (known_name t)
    known_unit i name (names.type (declared_types.Derived (specifications.Array position ranges t) initial)) at = known_array i (is_unknown (without_instance (name_stands_for f t)))
    known_unit i name (names.type (declared_types.Structure position members)) at = record { unit = named name (names.type (declared_types.Structure position members)); at = at; is = refl; no_function = refl }
    known_unit i name (names.function g) at = tt
    known_unit i name (names.block b) at = record { unit = named name (names.block b); at = at; is = refl; no_function = refl }
    known_unit i name (names.program p) at = tt

    known_optional : (i : ℕ) (u : Option Named) → unit_at units i ≡ u → IsKnown units (optional_stands_for f i u)
    known_optional i None at = tt
    known_optional i (Some u) at = known_unit i u.name u.declares at

  known_within : (n i : ℕ) → IsKnown units (type_within units n i)
  unfolding type_within
  known_within zero i = tt
  known_within (suc n) i =
      known_optional (λ name. stands_for (type_within units n) (standard_of name) (number_of units name))
      (λ name. known_stands (type_within units n) (known_within n) (standard_of name) (number_of units name)) i (unit_at units i) refl

  pub known_type : (i : ℕ) → IsKnown units (type_at units i)
  unfolding type_at
  known_type i = known_within (suc (length units)) i

  pub known_shape : (s : Specification) → IsKnown units (shape_of units s).base
  known_shape s = of_specified units (IsKnown units) tt (λ e. tt) (λ b. tt) known_type s

  declared_no_function : (i : ℕ) (b : Bool) → IsDeclared units i b → is_function_in (unit_at units i) ≡ false
  declared_no_function i b is = ap is_function_in is.at ∙ is.no_function

  pub no_function : (base : Base) → IsKnown units base → IsNoFunction units base
  no_function bases.Unknown is = tt
  no_function (bases.Elementary e) is = tt
  no_function (bases.Array i) is = tt
  no_function (bases.Structure i) is = declared_no_function i false is
  no_function (bases.Block i) is = declared_no_function i true is
  no_function (bases.Standard b) is = tt

  -- ---- which type a unit is

  no_block_without : (base : Base) (j : ℕ) {A : Type 0} → without_instance base ≡ bases.Block j → A
  no_block_without bases.Unknown j is = absurd (cc)
  no_block_without (bases.Elementary e) j is = absurd (cc)
  no_block_without (bases.Array i) j is = absurd (cc)
  no_block_without (bases.Structure i) j is = absurd (cc)
  no_block_without (bases.Block i) j is = absurd (cc)
  no_block_without (bases.Standard b) j is = absurd (cc)

  no_block_array : (i j : ℕ) (t : Bool) {A : Type 0} → (if t then bases.Unknown else bases.Array i) ≡ bases.Block j → A
  no_block_array i j true is = absurd (cc)
  no_block_array i j false is = absurd (cc)

  own_of : (f : List ℕ → Base) (i j : ℕ) (unit : Declares) → unit_stands_for f i unit ≡ bases.Block j → i ≡ j
  own_of f i j (names.type (declared_types.Derived (specifications.Simple t) initial)) is = no_block_without (name_stands_for f t) j is
  own_of f i j (names.type (declared_types.Derived (specifications.Array position ranges t) initial)) is = no_block_array i j (is_unknown (without_instance (name_stands_for f t))) is
  own_of f i j (names.type (declared_types.Structure position members)) is = absurd (cc)
  own_of f i j (names.function g) is = absurd (cc)
  own_of f i j (names.block b) is = cc
  own_of f i j (names.program p) is = absurd (cc)

  own_optional : (f : List ℕ → Base) (i j : ℕ) (u : Option Named) → optional_stands_for f i u ≡ bases.Block j → i ≡ j
  own_optional f i j None is = absurd (cc)
  own_optional f i j (Some u) is = own_of f i j u.declares is

  -- a type that is a function block is the unit itself
  pub own_number : (i j : ℕ) → type_at units i ≡ bases.Block j → i ≡ j
  unfolding type_at type_within
  own_number i j is = own_optional _ i j (unit_at units i) is

-- ---- the names of units

-- a name in upper case is the same name
raised_same : (a b : List ℕ) → is_word a (raised b) ≡ is_word a b
raised_same a b = ap (λ text. bytes_eq text (map to_ascii_lowercase a)) (lowered b)

own_word : (a : List ℕ) → is_word a (raised a) ≡ true
own_word a = raised_same a a ∙ same_raised a a refl

-- a unit isn't named as one before it
not_before : (others : List (List ℕ)) (units : List Named) (i : ℕ) (u : Named) → names_faults others units ≡ [] → unit_at units i ≡ Some u → is_there others u.name.spelling ≡ false
not_before others [] i u nothing at = absurd (cc)
not_before others (v ∷ vs) zero u nothing at =
    let first = (nothing_parts (name_faults others v.name) (names_faults (others ++ v.name.spelling ∷ []) vs) nothing).0 in
    let taken = kept_when (is_taken others v.name.spelling) (fault v.name.position rules.NameTwice)
    (nothing_parts (when (is_taken others v.name.spelling) (fault v.name.position rules.NameTwice)) (when (is_past_limit (length others) v.name.spelling) (fault v.name.position rules.LimitPassed)) first).0 in
    let same : v ≡ u = cc in
    subst (λ (w : Named). is_there others w.name.spelling ≡ false) same (neither (is_there others v.name.spelling) (is_some (standard_of v.name.spelling)) taken).0
not_before others (v ∷ vs) (suc i) u nothing at =
    let rest = (nothing_parts (name_faults others v.name) (names_faults (others ++ v.name.spelling ∷ []) vs) nothing).1 in
    (neither (is_there others u.name.spelling) (is_there (v.name.spelling ∷ []) u.name.spelling)
    (sym (list_any-append (λ other. is_word other u.name.spelling) others (v.name.spelling ∷ [])) ∙ not_before (others ++ v.name.spelling ∷ []) vs i u rest at)).0

first_other : (others : List (List ℕ)) (v : Named) (vs : List Named) (i : ℕ) (u : Named) → names_faults (others ++ v.name.spelling ∷ []) vs ≡ [] → unit_at vs i ≡ Some u
    → is_word v.name.spelling u.name.spelling ≡ false
first_other others v vs i u nothing at =
    (neither (is_word v.name.spelling u.name.spelling) false
    (neither (is_there others u.name.spelling) (is_there (v.name.spelling ∷ []) u.name.spelling)
    (sym (list_any-append (λ other. is_word other u.name.spelling) others (v.name.spelling ∷ [])) ∙ not_before (others ++ v.name.spelling ∷ []) vs i u nothing at)).1).0

number_among : (others : List (List ℕ)) (units : List Named) (i : ℕ) (u : Named) → names_faults others units ≡ [] → unit_at units i ≡ Some u
    → number_of units (raised u.name.spelling) ≡ Some i
number_among others [] i u nothing at = absurd (cc)
number_among others (v ∷ vs) zero u nothing at =
    let same : v ≡ u = cc in
    position-here (λ (w : Named). is_word w.name.spelling (raised u.name.spelling)) v vs
    (subst (λ (w : Named). is_word w.name.spelling (raised u.name.spelling) ≡ true) (sym same) (own_word u.name.spelling))
number_among others (v ∷ vs) (suc i) u nothing at =
    let rest = (nothing_parts (name_faults others v.name) (names_faults (others ++ v.name.spelling ∷ []) vs) nothing).1 in
    position-next (λ (w : Named). is_word w.name.spelling (raised u.name.spelling)) v vs
    (raised_same v.name.spelling u.name.spelling ∙ first_other others v vs i u rest at)
    ∙ ap (option_map suc) (number_among (others ++ v.name.spelling ∷ []) vs i u rest at)

-- the number of a unit is found by its name in upper case
pub all_named : (units : List Named) → node_faults units ≡ [] → AreNamed units
all_named units nothing i u at = number_among [] units i u (nothing_parts (names_faults [] units) (units_faults units) nothing).0 at
