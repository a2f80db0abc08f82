-- The ranges of each unit of a text without faults are short.
use Rattle.std.proofs.Common.{◌≡◌, List, [], ◌∷◌, ◌++◌, Option}
use Rattle.std.specs.List.{flat_map}
use Rattle.st_tree.specs.declared.tree.declaration.Declaration.{Declaration}
use Rattle.st_tree.specs.declared.tree.declaration.DeclaredType.TheVariants as declared_types
use Rattle.st_tree.specs.declared.tree.declaration.Initial.{Initial}
use Rattle.st_tree.specs.declared.tree.declaration.Specification.{Specification}
use Rattle.st_tree.specs.declared.tree.declaration.Specification.TheVariants as specifications
use Rattle.st_tree.specs.declared.tree.declaration.VarBlock.{VarBlock}
use Rattle.st_tree.specs.declared.tree.position.Identifier.{Identifier}
use Rattle.st_tree.specs.declared.tree.unit.Pou.{Pou}
use Rattle.st_faults.specs.Faults.{fault, when}
use Rattle.st_faults.specs.declared.fault.Fault.{Fault}
use Rattle.st_faults.specs.declared.fault.Rule.TheVariants as rules
use Rattle.st_types.specs.Names.{Declares, Named, chart_of}
use Rattle.st_types.specs.Names as names
use Rattle.st_types.specs.Scopes.{Scope, scope_of}
use Rattle.st_types.specs.Types.{shape_of}
use Rattle.st_check_units.specs.Declarations.{block_faults, declaration_faults, declared_names, initial_faults, is_misdeclared, misdeclared_faults, permitted, specification_faults, specified_faults, type_faults}
use Rattle.st_check_units.specs.Repeats.{repeated}
use Rattle.st_check_units.specs.Subscripts.{subrange_faults}
use Rattle.st_check_units.specs.Units.{body_of_faults, chart_names, node_faults, pou_faults, unit_faults, variable_names}
use Rattle.st_check_units.specs.declared.permitted.Permitted.{Permitted}
use Rattle.st_check_units.specs.declared.permitted.Permitted.TheVariants as permits
use Rattle.st_check.proofs.Apart.{nothing_each, nothing_parts}
use Rattle.st_leaves.proofs.Pairs.{each_weaker}
use Rattle.st_check.proofs.ShortRanges.{short_range}
use Rattle.st_check.proofs.ShortSubscripts.{IsShortRange}
use Rattle.st_check.proofs.ShortUnits.{AreBlocksShort, AreDeclaredShort, AreUnitsShort, IsSpecifiedShort, IsUnitShort}
use Rattle.st_check.proofs.UnitsApart.{unit_faultless}

second_nothing : (fs gs hs : List Fault) → fs ++ gs ++ hs ≡ [] → gs ≡ []
second_nothing fs gs hs nothing = (nothing_parts fs gs (nothing_parts (fs ++ gs) hs nothing).0).1

module _ (units : List Named) where
  specification_short : (s : Specification) → specification_faults units s ≡ [] → IsSpecifiedShort s
  specification_short (specifications.Simple name) nothing = tt
  specification_short (specifications.Array position ranges name) nothing =
      each_weaker (λ r. subrange_faults r ≡ []) IsShortRange ranges short_range (nothing_each subrange_faults ranges (nothing_parts (flat_map subrange_faults ranges) (type_faults units name) nothing).0)

  specified_short : (s : Specification) (initial : Option Initial) → specified_faults units s initial ≡ [] → IsSpecifiedShort s
  specified_short s initial nothing = specification_short s (nothing_parts (specification_faults units s) (initial_faults units (shape_of units s) initial) nothing).0

  module _ (p : Permitted) where
    declaration_short : (d : Declaration) → declaration_faults units p d ≡ [] → IsSpecifiedShort d.specification
    declaration_short d nothing =
        specified_short d.specification d.initial
        (nothing_parts (specified_faults units d.specification d.initial) (misdeclared_faults (is_misdeclared units p d.specification d.initial) d.names) nothing).0

    declarations_short : (ds : List Declaration) → flat_map (declaration_faults units p) ds ≡ [] → AreDeclaredShort ds
    declarations_short ds nothing =
        each_weaker (λ d. declaration_faults units p d ≡ []) (λ d. IsSpecifiedShort d.specification) ds declaration_short (nothing_each (declaration_faults units p) ds nothing)

  blocks_short : (unit : Declares) (blocks : List VarBlock) → flat_map (block_faults units unit) blocks ≡ [] → AreBlocksShort blocks
  blocks_short unit blocks nothing =
      each_weaker (λ b. block_faults units unit b ≡ []) (λ b. AreDeclaredShort b.declarations) blocks (λ b none. declarations_short (permitted unit b.kind) b.declarations none)
      (nothing_each (block_faults units unit) blocks nothing)

  module _ (scope : Scope) where
    pou_short : (unit : Declares) (p : Pou) → pou_faults units scope unit p ≡ [] → AreBlocksShort p.variables
    pou_short unit p nothing =
        blocks_short unit p.variables
        (second_nothing (repeated [] (variable_names p.variables ++ chart_names (chart_of p.body))) (flat_map (block_faults units unit) p.variables) (body_of_faults scope p.name p.body) nothing)

    pub unit_short : (name : Identifier) (unit : Declares) → unit_faults units scope name unit ≡ [] → IsUnitShort unit
    unit_short name (names.type (declared_types.Derived s initial)) nothing =
        specified_short s initial
        (nothing_parts (specified_faults units s initial) (when (is_misdeclared units permits.Types s initial) (fault name.position rules.TypeMismatch)) nothing).0
    unit_short name (names.type (declared_types.Structure position members)) nothing =
        declarations_short permits.Types members (nothing_parts (repeated [] (declared_names members)) (flat_map (declaration_faults units permits.Types) members) nothing).1
    unit_short name (names.function f) nothing =
        blocks_short (names.function f) f.variables
        (second_nothing (repeated (f.name.spelling ∷ []) (variable_names f.variables)) (flat_map (block_faults units (names.function f)) f.variables) _ nothing)
    unit_short name (names.block b) nothing = pou_short (names.block b) b nothing
    unit_short name (names.program p) nothing = pou_short (names.program p) p nothing

pub units_short : (units : List Named) → node_faults units ≡ [] → AreUnitsShort units
units_short units nothing i u found = unit_short units (scope_of units u.declares) u.name u.declares (unit_faultless units i u nothing found)
