use Rattle.std.proofs.Common.{◌≡◌, ℕ, List, None, ap, sym, ◌∙◌}
use Rattle.st_tree.specs.declared.tree.declaration.TypeName.{TypeName}
use Rattle.st_tree.specs.declared.tree.declaration.TypeName.TheVariants as type_names
use Rattle.st_tree.specs.declared.tree.position.Identifier.{Identifier}
use Rattle.st_types.specs.Names.{Named, unit_named}
use Rattle.st_types.specs.Standard.{standard_of}
use Rattle.st_check_units.specs.Declarations.{as_type, named_as_type, optional_as_type}
use Rattle.st_check_units.specs.declared.permitted.TypeUse.{TypeUse}
use Rattle.st_check_units.proofs.type_uses.as_type.Goals as goal

-- a name that isn't standard is that of a unit
of_unit : (units : List Named) (name : TypeName) (t : Identifier) (spelling : List ℕ) (found : TypeUse)
    → name ≡ type_names.Declared t → spelling ≡ t.spelling → None ≡ standard_of spelling → found ≡ optional_as_type (unit_named units spelling) → found ≡ as_type units name
of_unit units name t spelling found is spelled none as_unit =
    as_unit ∙ ap (named_as_type (unit_named units spelling)) none ∙ ap (λ text. named_as_type (unit_named units text) (standard_of text)) spelled ∙ sym (ap (as_type units) is)

pub returns-in-None : goal.returns-in-None
returns-in-None c = of_unit _ c.args.name.now c.in-Declared.name c.as_slice-spelling.result.now c.named_as_type.result c.in-Declared.is c.as_slice-spelling.ensures c.in-None.ensures c.named_as_type.ensures
