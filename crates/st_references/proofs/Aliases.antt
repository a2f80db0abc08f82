-- Types that are declared as others: their initial values, by those of the others.
use Rattle.std.proofs.Common.{◌≡◌, ℕ, zero, suc, ◌-◌, ◌+◌, ◌≤◌, Bool, true, false, ◌&&◌, not, List, [], ◌∷◌, ◌++◌, Option, Some, None, is_some, refl, subst, arith, if◌then◌else◌}
use Rattle.std.specs.List.{All, flat_map}
use Rattle.std.proofs.lemmas.List.Elements.{All-head}
use Rattle.st_tree.specs.declared.tree.declaration.DeclaredType.TheVariants as declared_types
use Rattle.st_tree.specs.declared.tree.declaration.Initial.{Initial}
use Rattle.st_tree.specs.declared.tree.declaration.Specification.{Specification}
use Rattle.st_tree.specs.declared.tree.declaration.Specification.TheVariants as specifications
use Rattle.st_tree.specs.declared.tree.declaration.TypeName.{TypeName}
use Rattle.st_tree.specs.declared.tree.declaration.TypeName.TheVariants as type_names
use Rattle.st_references.specs.References.{contained, is_type, listed, names_type, unit_types}
use Rattle.st_references.proofs.Contents.{contents}
use Rattle.st_types.specs.Initials.{declares_initial, initial_within, known, name_initial, specified_initial, standing_initial, unit_initial, written_or}
use Rattle.st_types.specs.Names.{Declares, Named, number_of, unit_at, unit_by}
use Rattle.st_types.specs.Names as names
use Rattle.st_types.specs.Standard.{standard_of}
use Rattle.st_types.specs.declared.standard.Standard.{Standard}

-- ---- the number of the type that another one is declared as

abbrev standing_number : Option Standard → Option ℕ → Option ℕ
standing_number None i = i
standing_number (Some s) i = None

module _ (units : List Named) where
  abbrev name_number : TypeName → Option ℕ
  name_number (type_names.Elementary position e) = None
  name_number (type_names.Declared t) = standing_number (standard_of t.spelling) (number_of units t.spelling)

  abbrev specified_number : Specification → Option ℕ
  specified_number (specifications.Simple name) = name_number name
  specified_number (specifications.Array position ranges name) = None

  abbrev declares_number : Declares → Option ℕ
  declares_number (names.type (declared_types.Derived specification initial)) = specified_number specification
  declares_number _ = None

  abbrev pub alias_number : Option Named → Option ℕ
  alias_number None = None
  alias_number (Some unit) = declares_number unit.declares

-- ---- where another look-up knows of that type what this one knows

module _ (units : List Named) (f g : ℕ → Option (Option Initial)) (x : Option Initial) where
  abbrev pub Passes : Option ℕ → Type 0
  Passes number = (j : ℕ) → number ≡ Some j → (y : Option Initial) → f j ≡ Some y → g j ≡ Some y

  by_standing : (s : Option Standard) (n : Option ℕ) → Passes (standing_number s n) → standing_initial f s n ≡ Some x → standing_initial g s n ≡ Some x
  by_standing (Some s) n passes is = is
  by_standing None None passes is = is
  by_standing None (Some j) passes is = passes j refl x is

  by_name : (t : TypeName) → Passes (name_number units t) → name_initial units f t ≡ Some x → name_initial units g t ≡ Some x
  by_name (type_names.Elementary position e) passes is = is
  by_name (type_names.Declared t) passes is = by_standing (standard_of t.spelling) (number_of units t.spelling) passes is

  by_specification : (s : Specification) → Passes (specified_number units s) → specified_initial units f s ≡ Some x → specified_initial units g s ≡ Some x
  by_specification (specifications.Simple name) passes is = by_name name passes is
  by_specification (specifications.Array position ranges name) passes is = is

  by_written : (s : Specification) (i : Option Initial) → Passes (specified_number units s)
      → written_or (specified_initial units f s) i ≡ Some x → written_or (specified_initial units g s) i ≡ Some x
  by_written s (Some initial) passes is = is
  by_written s None passes is = by_specification s passes is

  by_declares : (d : Declares) → Passes (declares_number units d) → declares_initial units f d ≡ Some x → declares_initial units g d ≡ Some x
  by_declares (names.type (declared_types.Derived specification initial)) passes is = by_written specification initial passes is
  by_declares (names.type (declared_types.Structure position members)) passes is = is
  by_declares (names.function h) passes is = is
  by_declares (names.block b) passes is = is
  by_declares (names.program p) passes is = is

  pub by_unit : (u : Option Named) → Passes (alias_number units u) → unit_initial units f u ≡ Some x → unit_initial units g u ≡ Some x
  by_unit None passes is = is
  by_unit (Some u) passes is = by_declares u.declares passes is

-- ---- more units

one_more : (units : List Named) (n i : ℕ) (x : Option Initial) → initial_within units n i ≡ Some x → initial_within units (suc n) i ≡ Some x
unfolding initial_within
one_more units zero i x is = absurd (cc)
one_more units (suc n) i x is = by_unit units (initial_within units n) (initial_within units (suc n)) x (unit_at units i) (λ j named y at. one_more units n j y at) is

so_many_more : (units : List Named) (k n m i : ℕ) (x : Option Initial) → n ≡ k + m → initial_within units m i ≡ Some x → initial_within units n i ≡ Some x
so_many_more units zero n m i x sum is = let same : m ≡ n = omega (arith, sum) in subst (λ l. initial_within units l i ≡ Some x) same is
so_many_more units (suc k) n m i x sum is = so_many_more units k n (suc m) i x (omega (arith, sum)) (one_more units m i x is)

-- what is known within so many units is known within more
pub within_more : (units : List Named) (m n i : ℕ) (x : Option Initial) → m ≤ n → initial_within units m i ≡ Some x → initial_within units n i ≡ Some x
within_more units m n i x le is = so_many_more units (n - m) n m i x (omega (arith, le)) is

-- ---- what isn't declared as another type

no_type_declared : (units : List Named) (f : ℕ → Option (Option Initial)) (d : Declares) → is_type d ≡ false → declares_initial units f d ≡ Some None
no_type_declared units f (names.type d) is = absurd (cc)
no_type_declared units f (names.function h) is = refl
no_type_declared units f (names.block b) is = absurd (cc)
no_type_declared units f (names.program p) is = refl

no_type : (units : List Named) (f : ℕ → Option (Option Initial)) (u : Option Named) → names_type u ≡ false → unit_initial units f u ≡ Some None
no_type units f None is = refl
no_type units f (Some u) is = no_type_declared units f u.declares is

pub no_type_within : (units : List Named) (n i : ℕ) → names_type (unit_at units i) ≡ false → initial_within units (suc n) i ≡ Some None
unfolding initial_within
no_type_within units n i is = no_type units (initial_within units n) (unit_at units i) is

-- ---- where all types are known

module _ (units : List Named) (f : ℕ → Option (Option Initial)) (all : (i : ℕ) → f i ≡ Some (known units (f i))) where
  standing_known : (s : Option Standard) (n : Option ℕ) → standing_initial f s n ≡ Some (known units (standing_initial f s n))
  standing_known (Some s) n = refl
  standing_known None None = refl
  standing_known None (Some i) = all i

  name_known : (t : TypeName) → name_initial units f t ≡ Some (known units (name_initial units f t))
  name_known (type_names.Elementary position e) = refl
  name_known (type_names.Declared t) = standing_known (standard_of t.spelling) (number_of units t.spelling)

  specification_known : (s : Specification) → specified_initial units f s ≡ Some (known units (specified_initial units f s))
  specification_known (specifications.Simple name) = name_known name
  specification_known (specifications.Array position ranges name) = refl

  written_known : (s : Specification) (i : Option Initial) → written_or (specified_initial units f s) i ≡ Some (known units (written_or (specified_initial units f s) i))
  written_known s (Some initial) = refl
  written_known s None = specification_known s

  declares_known : (d : Declares) → declares_initial units f d ≡ Some (known units (declares_initial units f d))
  declares_known (names.type (declared_types.Derived specification initial)) = written_known specification initial
  declares_known (names.type (declared_types.Structure position members)) = refl
  declares_known (names.function h) = refl
  declares_known (names.block b) = refl
  declares_known (names.program p) = refl

  pub unit_known : (u : Option Named) → unit_initial units f u ≡ Some (known units (unit_initial units f u))
  unit_known None = refl
  unit_known (Some u) = declares_known u.declares

-- ---- a unit contains the type that it is declared as

module _ (units : List Named) (P : ℕ → Type 0) (j : ℕ) (is_one : names_type (unit_at units j) ≡ true) where
  of_test : (b : Bool) → b ≡ true → All P ((if b then j ∷ [] else []) ++ []) → P j
  of_test true is all = All-head P j [] all
  of_test false is all = absurd (cc)

  of_standing : (s : Option Standard) (n : Option ℕ) → standing_number s n ≡ Some j
      → All P ((if not (is_some s) && names_type (unit_by units n) then listed n else []) ++ []) → P j
  of_standing (Some s) n is all = absurd (cc)
  of_standing None None is all = absurd (cc)
  of_standing None (Some k) is all =
      let same : k ≡ j = cc in
      of_test (names_type (unit_at units j)) is_one (subst (λ l. All P ((if names_type (unit_at units l) then l ∷ [] else []) ++ [])) same all)

  of_declares : (d : Declares) → declares_number units d ≡ Some j → All P (flat_map (contained units) (unit_types d)) → P j
  of_declares (names.type (declared_types.Derived (specifications.Simple (type_names.Declared t)) initial)) is all =
      of_standing (standard_of t.spelling) (number_of units t.spelling) is all
  of_declares (names.type (declared_types.Derived (specifications.Simple (type_names.Elementary position e)) initial)) is all = absurd (cc)
  of_declares (names.type (declared_types.Derived (specifications.Array position ranges t) initial)) is all = absurd (cc)
  of_declares (names.type (declared_types.Structure position members)) is all = absurd (cc)
  of_declares (names.function h) is all = absurd (cc)
  of_declares (names.block b) is all = absurd (cc)
  of_declares (names.program p) is all = absurd (cc)

  -- what is so of all that a unit contains is so of that type
  pub of_alias : (o : Option Named) → alias_number units o ≡ Some j → ((u : Named) → o ≡ Some u → All P (contents units u)) → P j
  of_alias None is all = absurd (cc)
  of_alias (Some u) is all = of_declares u.declares is (all u refl)
