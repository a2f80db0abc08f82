use Rattle.std.proofs.Common.{◌∙◌, refl, sym}
use Rattle.std.proofs.lemmas.Result.{on_ok_weaker}
use Rattle.st_places.proofs.Entries.{constant_more, member_more, shape_sized}
use Rattle.st_scopes.specs.Declarations.{seen}
use Rattle.st_types.specs.Names.{units_of}
use Rattle.st_places.proofs.unit.UnitParts.add.Goals as goal

pub add-requires-else-is_constant : goal.add-requires-else-is_constant
add-requires-else-is_constant c = shape_sized (units_of c.args.tables.now) c.args.sizes.now c.requires.sizes c.args.declared.now.declaration.now.specification

pub returns-then-is_constant-clause-names : goal.returns-then-is_constant-clause-names
returns-then-is_constant-clause-names c =
    on_ok_weaker c.add.result (λ more vs has.
    constant_more (units_of c.args.tables.now) vs (seen c.args.declared.now) c.args.self.now
    (record { members = c.args.self.now.members; constants = c.add.new.self; chart = c.args.self.now.chart; elements = c.args.self.now.elements; is_small_block = c.args.self.now.is_small_block }) (sym c.is_constant.ensures ∙ c.if-is_constant.true) has more refl) c.add.ensures

pub returns-else-is_constant-clause-names : goal.returns-else-is_constant-clause-names
returns-else-is_constant-clause-names c =
    on_ok_weaker c.add-else-is_constant.result (λ more vs has.
    member_more (units_of c.args.tables.now) vs (seen c.args.declared.now) c.args.self.now
    (record { members = c.add-else-is_constant.new.self; constants = c.args.self.now.constants; chart = c.args.self.now.chart; elements = c.args.self.now.elements; is_small_block = c.args.self.now.is_small_block }) (sym c.is_constant.ensures ∙ c.if-is_constant.false) has more refl)
    c.add-else-is_constant.ensures
