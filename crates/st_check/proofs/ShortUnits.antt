-- What variables consist of has short ranges, where those that each unit declares are short.
use Rattle.std.proofs.Common.{◌≡◌, ℕ, zero, suc, Bool, true, false, if◌then◌else◌, List, [], ◌∷◌, Option, Some, None, map, codes, length, refl}
use Rattle.std.specs.Char.{to_ascii_uppercase}
use Rattle.std.specs.List.{AllByRecursion as Each, flat_map}
use Rattle.st_tree.specs.declared.tree.declaration.Declaration.{Declaration}
use Rattle.st_tree.specs.declared.tree.declaration.DeclaredType.TheVariants as declared_types
use Rattle.st_tree.specs.declared.tree.declaration.Initial.{Initial}
use Rattle.st_tree.specs.declared.tree.declaration.Initial.TheVariants as initials
use Rattle.st_tree.specs.declared.tree.declaration.Specification.{Specification}
use Rattle.st_tree.specs.declared.tree.declaration.Specification.TheVariants as specifications
use Rattle.st_tree.specs.declared.tree.declaration.Subrange.{Subrange}
use Rattle.st_tree.specs.declared.tree.declaration.VarBlock.{VarBlock}
use Rattle.st_tree.specs.declared.tree.declaration.VarKind.{VarKind}
use Rattle.st_tree.specs.declared.tree.declaration.VarKind.TheVariants as var_kinds
use Rattle.st_tree.specs.declared.tree.position.Identifier.{Identifier}
use Rattle.st_tree.specs.Kinds.{is_constant}
use Rattle.st_types.specs.Compositions.{Composition, unknown, elementary, array, composed, standard, Members, member, composition_of, composition_within, declared_composition, elements_composition, members_by, optional_composition, specified_composition, started, subscripted, unit_composition}
use Rattle.st_types.specs.Initials.{element_initial, initial_of, unit_element_initial}
use Rattle.st_types.specs.Names.{Declared, Declares, Named, declared_in, members_of, unit_at, variables_of}
use Rattle.st_types.specs.Names as names
use Rattle.st_types.specs.Types.{declared_elements, elements_in, is_unknown, name_stands_for, optional_elements, shape_of, type_named, without_instance}
use Rattle.st_types.specs.Types as shapes
use Rattle.st_types.specs.declared.base.Base.{Base}
use Rattle.st_types.specs.declared.base.Base.TheVariants as bases
use Rattle.st_leaves.proofs.Pairs.{each_append}
use Rattle.st_check.proofs.ShortSubscripts.{HasShortRanges, HaveShortRanges, IsShortRange}

-- ---- what a unit declares

abbrev pub IsSpecifiedShort : Specification → Type 0
IsSpecifiedShort (specifications.Simple name) = Unit {0}
IsSpecifiedShort (specifications.Array position ranges name) = Each IsShortRange ranges

abbrev pub AreDeclaredShort : List Declaration → Type 0
AreDeclaredShort declarations = Each (λ d. IsSpecifiedShort d.specification) declarations

abbrev pub AreBlocksShort : List VarBlock → Type 0
AreBlocksShort blocks = Each (λ b. AreDeclaredShort b.declarations) blocks

-- all ranges in it are short
abbrev pub IsUnitShort : Declares → Type 0
IsUnitShort (names.type (declared_types.Derived specification initial)) = IsSpecifiedShort specification
IsUnitShort (names.type (declared_types.Structure position members)) = AreDeclaredShort members
IsUnitShort (names.function f) = AreBlocksShort f.variables
IsUnitShort (names.block b) = AreBlocksShort b.variables
IsUnitShort (names.program p) = AreBlocksShort p.variables

abbrev AreVariablesShort : List Declared → Type 0
AreVariablesShort vs = Each (λ v. IsSpecifiedShort v.specification) vs

of_names : (kind : VarKind) (d : Declaration) (ns : List Identifier) → IsSpecifiedShort d.specification
    → AreVariablesShort (map (λ n. record { name = n; kind = kind; specification = d.specification; initial = d.initial }) ns)
of_names kind d [] short = tt
of_names kind d (n ∷ ns) short = (short, of_names kind d ns short)

of_declarations : (kind : VarKind) (ds : List Declaration) → AreDeclaredShort ds → AreVariablesShort (flat_map (declared_in kind) ds)
of_declarations kind [] short = tt
of_declarations kind (d ∷ ds) short =
    each_append (λ v. IsSpecifiedShort v.specification) (declared_in kind d) (flat_map (declared_in kind) ds) (of_names kind d d.names short.0) (of_declarations kind ds short.1)

of_blocks : (blocks : List VarBlock) → AreBlocksShort blocks → AreVariablesShort (variables_of blocks)
of_blocks [] short = tt
of_blocks (b ∷ bs) short =
    each_append (λ v. IsSpecifiedShort v.specification) (flat_map (declared_in b.kind) b.declarations) (variables_of bs) (of_declarations b.kind b.declarations short.0) (of_blocks bs short.1)

-- ---- what consists of such

short_started : (initial : Option Initial) (c : Composition) → HasShortRanges c → HasShortRanges (started initial c)
short_started None c h = h
short_started (Some (initials.Constant k)) unknown h = h
short_started (Some (initials.Constant k)) (elementary v) h = tt
short_started (Some (initials.Constant k)) (array ranges firsts c) h = h
short_started (Some (initials.Constant k)) (composed name ms chart) h = h
short_started (Some (initials.Constant k)) (standard b) h = h
short_started (Some (initials.Array position items)) unknown h = h
short_started (Some (initials.Array position items)) (elementary v) h = h
short_started (Some (initials.Array position items)) (array ranges firsts c) h = h
short_started (Some (initials.Array position items)) (composed name ms chart) h = h
short_started (Some (initials.Array position items)) (standard b) h = h

short_array : (is_left_out : Bool) (ranges : List Subrange) (element : Base) (c : Composition) → Each IsShortRange ranges → HasShortRanges c
    → HasShortRanges (subscripted (if is_left_out then shapes.unknown else record { subscripts = Some ranges; base = element }).subscripts c)
short_array true ranges element c short h = h
short_array false ranges element c short h = (short, h)

short_subscripted : (units : List Named) (specification : Specification) (c : Composition) → IsSpecifiedShort specification → HasShortRanges c
    → HasShortRanges (subscripted (shape_of units specification).subscripts c)
unfolding shape_of
short_subscripted units (specifications.Simple name) c short h = h
short_subscripted units (specifications.Array position ranges name) c short h =
    short_array (is_unknown (without_instance (name_stands_for (type_named units) name))) ranges (name_stands_for (type_named units) name) c short h

-- the ranges of each unit are short
abbrev pub AreUnitsShort : List Named → Type 0
AreUnitsShort units = (i : ℕ) (u : Named) → unit_at units i ≡ Some u → IsUnitShort u.declares

module _ (units : List Named) (inside : Base → Composition) (short : (base : Base) → HasShortRanges (inside base)) where
  short_declared : (v : Declared) → IsSpecifiedShort v.specification → HasShortRanges (declared_composition units inside v)
  short_declared v h =
      short_started (initial_of units v) (specified_composition units inside v)
      (short_subscripted units v.specification (started (element_initial units v.specification) (inside (shape_of units v.specification).base)) h
      (short_started (element_initial units v.specification) (inside (shape_of units v.specification).base) (short (shape_of units v.specification).base)))

  short_more : (is_left_out : Bool) (v : Declared) (ms : Members) → IsSpecifiedShort v.specification → HaveShortRanges ms
      → HaveShortRanges (if is_left_out then ms else member v.name.spelling v.kind (declared_composition units inside v) ms)
  short_more true v ms h more = more
  short_more false v ms h more = (short_declared v h, more)

  short_members : (vs : List Declared) → AreVariablesShort vs → HaveShortRanges (members_by units inside vs)
  short_members [] h = tt
  short_members (v ∷ vs) h = short_more (is_constant v.kind) v (members_by units inside vs) h.0 (short_members vs h.1)

  short_unit : (name : List ℕ) (unit : Declares) → IsUnitShort unit → HasShortRanges (unit_composition units inside name unit)
  short_unit name (names.type (declared_types.Derived specification initial)) h = tt
  short_unit name (names.type (declared_types.Structure position members)) h = short_members (members_of members) (of_declarations var_kinds.Internal members h)
  short_unit name (names.function f) h = short_members (variables_of f.variables) (of_blocks f.variables h)
  short_unit name (names.block b) h = short_members (variables_of b.variables) (of_blocks b.variables h)
  short_unit name (names.program p) h = short_members (variables_of p.variables) (of_blocks p.variables h)

  short_elements : (initial : Option Initial) (unit : Declares) → IsUnitShort unit → HasShortRanges (elements_composition inside initial (declared_elements units unit))
  short_elements initial (names.type (declared_types.Derived (specifications.Simple name) first)) h = tt
  short_elements initial (names.type (declared_types.Derived (specifications.Array position ranges name) first)) h =
      (h, short_started initial (inside (name_stands_for (type_named units) name)) (short (name_stands_for (type_named units) name)))
  short_elements initial (names.type (declared_types.Structure position members)) h = tt
  short_elements initial (names.function f) h = tt
  short_elements initial (names.block b) h = tt
  short_elements initial (names.program p) h = tt

  module _ (all : AreUnitsShort units) (i : ℕ) where
    short_optional : HasShortRanges (optional_composition units inside (unit_at units i))
    short_optional = by (unit_at units i) refl
      where
        by : (unit : Option Named) → unit_at units i ≡ unit → HasShortRanges (optional_composition units inside unit)
        by None is = tt
        by (Some unit) is = short_unit (map to_ascii_uppercase unit.name.spelling) unit.declares (all i unit is)

    short_found : (initial : Option Initial) → HasShortRanges (elements_composition inside initial (elements_in units (bases.Array i)))
    short_found initial = by (unit_at units i) refl
      where
        by : (unit : Option Named) → unit_at units i ≡ unit → HasShortRanges (elements_composition inside initial (optional_elements units unit))
        by None is = tt
        by (Some unit) is = short_elements initial unit.declares (all i unit is)

short_inside : (units : List Named) → AreUnitsShort units → (most : ℕ) (base : Base) → HasShortRanges (composition_within units most base)
unfolding composition_within
short_inside units all zero base = tt
short_inside units all (suc most) bases.Unknown = tt
short_inside units all (suc most) (bases.Elementary e) = tt
short_inside units all (suc most) (bases.Array i) = short_found units (composition_within units most) (short_inside units all most) all i (unit_element_initial units (unit_at units i))
short_inside units all (suc most) (bases.Structure i) = short_optional units (composition_within units most) (short_inside units all most) all i
short_inside units all (suc most) (bases.Block i) = short_optional units (composition_within units most) (short_inside units all most) all i
short_inside units all (suc most) (bases.Standard b) = tt

pub short_of : (units : List Named) → AreUnitsShort units → (unit : Declares) → IsUnitShort unit → HasShortRanges (composition_of units unit)
unfolding composition_of
short_of units all unit own = short_unit units (composition_within units (suc (length units))) (short_inside units all (suc (length units))) (codes "PROGRAM") unit own
