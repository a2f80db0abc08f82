use Rattle.std.proofs.Common.{◌≡◌, ◌∙◌, Some, subst, sym}
use Rattle.st_leaves.specs.Leaves.{array_leaves}
use Rattle.st_leaves.specs.Limits.{sizes_of}
use Rattle.st_check.specs.Sized.{IsSized, type_leaves}
use Rattle.st_leaves.specs.Sizes.{IsSize}
use Rattle.st_types.specs.Names.{units_of}
use Rattle.st_types.specs.Types.{Elements, elements_in}
use Rattle.st_types.specs.declared.base.Base.TheVariants as bases
use Rattle.st_check.proofs.Parts.{elements_sized}
use Rattle.st_check.proofs.Whole.{array_sized, whole_sized}
use Rattle.st_check.proofs.units.own_size.Goals as goal

pub returns-in-Some : goal.returns-in-Some
returns-in-Some c =
    let array : elements_in (units_of c.args.tables.now) (bases.Array c.args.unit) ≡ Some c.in-Some.elements = sym c.elements.ensures ∙ c.in-Some.is in
    array_sized (units_of c.args.tables.now) c.args.unit c.in-Some.elements c.array_size.result array
    (subst (λ (e : Elements). IsSize c.array_size.result (sizes_of (array_leaves e.subscripts (type_leaves (units_of c.args.tables.now) e.element)))) c.elements-in-Some.view_is
    (c.array_size.ensures (type_leaves (units_of c.args.tables.now) c.elements-in-Some.inside.element)
    (c.type_size-element.ensures (units_of c.args.tables.now)
    (subst (λ (e : Elements). IsSized (units_of c.args.tables.now) c.args.sizes.now e.element) (sym c.elements-in-Some.view_is)
    (elements_sized (units_of c.args.tables.now) c.args.sizes.now c.args.unit c.in-Some.elements array c.requires.sized)))))

pub returns-in-None : goal.returns-in-None
returns-in-None c = whole_sized (units_of c.args.tables.now) c.args.unit c.unit_size.result c.requires.unit (sym c.elements.ensures ∙ c.in-None.is) c.unit_size.ensures
