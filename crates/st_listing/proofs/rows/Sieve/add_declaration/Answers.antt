use Rattle.std.proofs.Common.{◌∙◌, ap, sym}
use Rattle.st_check.specs.Sized.{type_leaves}
use Rattle.st_types.specs.Names.{units_of}
use Rattle.st_listing.proofs.DeclaredNames.{same_constants, same_empties}
use Rattle.st_listing.proofs.rows.Sieve.add_declaration.Goals as goal

pub returns-then-is_constant : goal.returns-then-is_constant
returns-then-is_constant c = same_constants (units_of c.args.self.tables.now) c.args.rows.now c.args.kind c.args.declaration.now (sym c.is_constant.ensures ∙ c.if-is_constant.true)

pub returns-then-is_empty : goal.returns-then-is_empty
returns-then-is_empty c =
    let units = units_of c.args.self.tables.now in
    same_empties units c.args.rows.now c.args.kind c.args.declaration.now (sym c.is_constant.ensures ∙ c.if-is_constant.false)
    (ap (λ s. type_leaves units s.base) (sym (c.shape.view_is ∙ c.shape_of-shape.ensures)) ∙ c.is_empty.ensures c.if-is_empty.true)
